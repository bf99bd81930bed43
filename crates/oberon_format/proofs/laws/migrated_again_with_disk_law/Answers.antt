use Rattle.oberon_format.proofs.Common.{ap, encoding, sym, VERSION_WITH_DISK, ◌∙◌}
use Rattle.oberon_format.proofs.One.{same_recording_with_disk}
use Rattle.oberon_format.proofs.laws.migrated_again_with_disk_law.Goals as goal

pub returns : goal.returns
returns c = λ bytes migrated again first second.
    let one = same_recording_with_disk migrated second.recording first.recording second.read (record { version = VERSION_WITH_DISK; is = first.written }) in
    second.written.is ∙ ap (encoding VERSION_WITH_DISK) one ∙ sym first.written.is
