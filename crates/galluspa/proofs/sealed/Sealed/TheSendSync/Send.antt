-- A handle may go to another thread, as the box of a past may.
use base.Shift.{Keyless}
use mir.Raw.{raw}
use denote.Memory.{lone}
use denote.Param.Send.{AllSend, IsSend, owning_send, sendable, struct_send}
use denote.RattleType.{RattleType}
use denote.RawPtr.{Ptr}
use denote.Struct.Owning.{fields, shape, to}
use denote.Struct.Struct.{exits_of}
use Rattle.std.specs.Prelude.{None, Option, Some}
use Rattle.std.specs.Global.{Global}
use Rattle.std.proofs.Crossing as heap
use Rattle.std.proofs.alloc.Global.TheSendSync as handle
use Rattle.std_alloc.proofs.SendSync.{lies, quiet}
use Rattle.oberon_past.specs.contracts.past.Past as past
use Rattle.galluspa.proofs.PastCrossing.{past_send}
use Rattle.galluspa.specs.inner.Held.{held}
use Rattle.galluspa.specs.contracts.sealed.Sealed.{the_row, the_type}

held_keyless : (R : RattleType) → IsSend R → (a : Global) (p : Ptr) (x : Option R.Denot) → Keyless (held R a p x)
unfolding held
held_keyless R s a p None = tt
held_keyless R s a p (Some x) = (lies R s p x, heap.frees.frees a (raw (lone R.mir)) p)

pub send : IsSend the_row
send =
    let all : AllSend (fields the_type) = (search sendable, (handle.the_field_send, tt)) in
    owning_send the_type all (λ d. held_keyless past.the_row past_send d.alloc d.at d.past)
    (λ k. quiet (to the_type) (exits_of k (fields the_type)) ((struct_send (shape the_type) all).leaving k))
