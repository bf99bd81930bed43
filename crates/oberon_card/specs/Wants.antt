-- What a card asks of its caller (this project's own choice).
use Rattle.std.specs.Prelude.{ℕ, Option, Some, None}
use Rattle.oberon_card.specs.declared.wants.Wants.{Wants}
use Rattle.oberon_card.specs.declared.wants.Wants.TheVariants.{Nothing, Read, Write, WriteThenRead}

-- a block that is to be written, and one that is to be read after it
unfoldable pub wanted : Option ℕ → Option ℕ → Wants
wanted None None = Nothing
wanted None (Some read) = Read read
wanted (Some write) None = Write write
wanted (Some write) (Some read) = WriteThenRead write read
