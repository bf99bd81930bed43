-- The sizes of a memory and of its pages by their values, so that a mistyped one cannot change a contract unnoticed. The size of a
-- memory is that of the RAM of Project Oberon (2013, hardware chapters: 1 MB); its pages are this project's own choice.
use Rattle.std.specs.Prelude.{◌≡◌}
use Rattle.risc_pages.specs.declared.sizes.TheConstants.{MEMORY_WORDS, PAGE_SLOTS, PAGE_WORDS}

pub record HasSizes : Type 0 where
  pub page : PAGE_WORDS ≡ 256
  pub slots : PAGE_SLOTS ≡ 1024
  pub memory : MEMORY_WORDS ≡ 262144
