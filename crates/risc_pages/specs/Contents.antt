-- A memory, as contracts see it. It has the words of the RAM of Project Oberon (2013, hardware chapters: 1 MB). Its page slots
-- and their pages are this project's own choice.
use Rattle.std.specs.Prelude.{ℕ, ◌≡◌, ◌^◌, ◌<◌, Bool, List, All, length}

-- the content of a memory
pub record Contents : Type 0 where
  -- its words, by word number
  pub words : List ℕ
  -- which of its page slots have a private page
  pub owned : List Bool
  -- the words that it was made with
  pub base : List ℕ

-- the size of a memory: 262,144 words, each below 2 ^ 32, in 1,024 page slots
pub record IsMemory (m : Contents) : Type 0 where
  pub words : length m.words ≡ 262144
  pub fit : All (λ word. word < 2 ^ 32) m.words
  pub owned : length m.owned ≡ 1024
  pub base : length m.base ≡ 262144
