-- The file of a recording is a text of it.
use Rattle.std.proofs.Common.{◌≡◌, ◌==◌, ℕ, Bool, true, false, List, length, refl, true≢false, sym, ◌∙◌}
use Rattle.std.proofs.lemmas.Bool.{le-leb, leb-true}
use Rattle.std.proofs.lemmas.Bool.Decides.{Decides-and, Decides-by_and, Decides-eqb, Decides-like, Decides-not}
use Rattle.std.specs.Bool.{Decides}
use Rattle.std.specs.List.{list_all}
use Rattle.std.specs.Prelude.{◌&&◌, nat_le, not}
use Rattle.risc_devices.specs.Input.{kind_of}
use Rattle.risc_devices.specs.declared.disk.TheConstants.{UNANSWERED}
use Rattle.risc_devices.specs.declared.kinds.TheConstants.{DISK}
use Rattle.risc_model.specs.DiskInputs.{IsOfDisk}
use Rattle.risc_model.specs.declared.event.Event.{Event}
use Rattle.oberon_format.specs.CheckpointParts.{CheckpointParts}
use Rattle.oberon_format.specs.Recording.{IsUnanswered, RecordingParts}
use Rattle.oberon_format.specs.Text.{IsPlain, TextWithDisk}
use Rattle.oberon_format.specs.declared.layout.TheConstants.{VERSION, VERSION_WITH_DISK}
use Rattle.galluspa.specs.Extend.{IsFile}

is-of-disk : Event → Bool
is-of-disk e = kind_of e.input == DISK

has-no-answer : CheckpointParts → Bool
has-no-answer c = c.devices.disk == UNANSWERED

-- whether a recording is plain can be decided
is-plain : RecordingParts → Bool
is-plain r = nat_le (length r.inputs) 1000000 && (list_all (λ e. not (is-of-disk e)) r.inputs && list_all has-no-answer r.checkpoints)

decides-plain : (r : RecordingParts) → Decides (is-plain r) (IsPlain r)
unfolding is-plain is-of-disk has-no-answer
decides-plain r =
    Decides-like (is-plain r) (λ h. record { few = h.0; unanswered = record { inputs = h.1.0; checkpoints = h.1.1 } })
    (λ h. (h.few, (h.unanswered.inputs, h.unanswered.checkpoints)))
    (Decides-and _ _ (leb-true (length r.inputs) 1000000, le-leb (length r.inputs) 1000000)
    (Decides-and _ _
    (Decides-by_and (λ (e : Event). not (is-of-disk e)) (λ e. ¬ (IsOfDisk e)) (list_all (λ e. not (is-of-disk e))) (λ e. Decides-not (is-of-disk e) (Decides-eqb (kind_of e.input) DISK)) refl (λ _ _. refl) r.inputs)
    (Decides-by_and has-no-answer IsUnanswered (list_all has-no-answer) (λ c. Decides-eqb c.devices.disk UNANSWERED) refl (λ _ _. refl) r.checkpoints)))

pub file-text : (text : List ℕ) (r : RecordingParts) → IsFile text r → TextWithDisk text r
file-text text r file = go (is-plain r) refl
  where
    go : (plain : Bool) → is-plain r ≡ plain → TextWithDisk text r
    go true is = record { version = VERSION; is = file.plain ((decides-plain r).0 is) }
    go false is = record { version = VERSION_WITH_DISK; is = file.others (λ plain. true≢false (sym ((decides-plain r).1 plain) ∙ is)) }
