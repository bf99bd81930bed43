use Rattle.oberon_format.proofs.Common.{ap, encoding, refl, sym, VERSION, ◌∙◌}
use Rattle.oberon_format.proofs.One.{same_recording}
use Rattle.oberon_format.proofs.laws.migrated_again_law.Goals as goal

pub returns : goal.returns
returns c = λ bytes migrated again first second.
    let one = same_recording migrated second.recording first.recording second.read (record { version = VERSION; without = refl; is = first.written }) in
    second.written.is ∙ ap (encoding VERSION) one ∙ sym first.written.is
