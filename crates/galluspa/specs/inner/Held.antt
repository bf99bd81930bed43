-- What a handle owns: the box of a past, or nothing, and then its pointer is null.
use Rattle.std.specs.Prelude.{Option, Some, None}
use Rattle.std.specs.Global.{Global}
use Rattle.std.specs.contracts.impls.GlobalAllocator.TheImpl.{ghosts}
use base.Fml.{Fml, feq}
use denote.RattleType.{RattleType}
use denote.RawPtr.{Ptr, null_ptr}
use Rattle.std.specs.Box.Ownership.{box_owns}

unfoldable pub held : (R : RattleType) → Global → Ptr → Option R.Denot → Fml
held R a p None = feq Ptr p null_ptr
held R a p (Some x) = box_owns (ghosts.dealloc_token a) R p x
