use Rattle.std.proofs.Common.{◌≡◌, ◌≤◌, ◌∙◌, [], ◌∷◌, ◌++◌, ℕ, List, ap, ap₂, arith, length, map, subst, sym}
use Rattle.risc_model.specs.MachineState.{cpu_state}
use Rattle.risc_pages.specs.Pages.{ArePages}
use Rattle.oberon_format.specs.CheckpointParts.{CheckpointParts, checkpoint_parts}
use Rattle.oberon_format.specs.Recording.{IsLawfulWithDisk, parts_of}
use Rattle.oberon_format.specs.declared.checkpoint.Checkpoint.{Checkpoint}
use Rattle.oberon_session.proofs.Growing.{begun, is-begun, lawful-begun, no-table}
use Rattle.oberon_session.specs.Extended.{IsBegun}
use Rattle.oberon_session.specs.Stored.{Stored}
use Rattle.oberon_session.specs.inner.Growing.{stored_on}
use Rattle.oberon_session.proofs.extension.begin_recording.Goals as goal

pub store_words-requires-clause-named : goal.store_words-requires-clause-named
store_words-requires-clause-named c = rw (c.zeros.ensures, c.new.ensures) no-table.named

pub recording_of-requires : goal.recording_of-requires
recording_of-requires c =
    let cpu = cpu_state c.args.cpu in
    let devices = c.args.devices in
    let words : List ℕ = c.args.words.now in
    let stored-so = c.in_ok-store_words.ensures.stored
    ∙ ap₂ (λ (pool : List (List ℕ)) (table : List ℕ). stored_on (record { pool = pool; table = table }) words) c.new.ensures c.zeros.ensures in
    let items = c.in_ok-push.ensures.items ∙ ap (λ (l : List Checkpoint). l ++ c.in_ok-checkpoint_of.field-0 ∷ []) c.new-checkpoints.ensures.items in
    let one = c.in_ok-checkpoint_of.ensures.checkpoint
    ∙ ap (λ (l : Stored). record { count = 0; cpu = cpu; devices = devices; sent = []; table = l.table }) stored-so in
    let checkpoints = ap (map checkpoint_parts) items ∙ ap (λ (p : CheckpointParts). p ∷ []) one in
    let is : parts_of c.store_words.new.stored.pool c.no_inputs.result c.push.new.self.items ≡ begun cpu devices words c.requires.whole =
    λ i. record { pool = (stored-so i).pool; inputs = c.no_inputs.ensures i; checkpoints = checkpoints i } in
    let grown = ap length c.new.ensures in
    let few : length c.store_words.new.stored.pool ≤ 1024 = omega (arith, grown, c.in_ok-store_words.ensures.grown) in
    subst IsLawfulWithDisk (sym is) (lawful-begun cpu devices words c.requires.whole
    (record { count = c.args.cpu.count; registers = c.args.cpu.registers; auxiliary = c.args.cpu.auxiliary; counter = c.requires.counter; stops = c.requires.stop })
    c.in_ok-checkpoint_of.ensures.devices
    (subst (λ (l : Stored). length l.pool ≤ 1024) stored-so few)
    (subst (λ (l : Stored). ArePages l.pool) stored-so c.len-pages.ensures.pages))

pub returns-clause-begun : goal.returns-clause-begun
returns-clause-begun c =
    let cpu = cpu_state c.args.cpu in
    let devices = c.args.devices in
    let words : List ℕ = c.args.words.now in
    let stored-so = c.in_ok-store_words.ensures.stored
    ∙ ap₂ (λ (pool : List (List ℕ)) (table : List ℕ). stored_on (record { pool = pool; table = table }) words) c.new.ensures c.zeros.ensures in
    let items = c.in_ok-push.ensures.items ∙ ap (λ (l : List Checkpoint). l ++ c.in_ok-checkpoint_of.field-0 ∷ []) c.new-checkpoints.ensures.items in
    let one = c.in_ok-checkpoint_of.ensures.checkpoint
    ∙ ap (λ (l : Stored). record { count = 0; cpu = cpu; devices = devices; sent = []; table = l.table }) stored-so in
    let checkpoints = ap (map checkpoint_parts) items ∙ ap (λ (p : CheckpointParts). p ∷ []) one in
    let is : parts_of c.store_words.new.stored.pool c.no_inputs.result c.push.new.self.items ≡ begun cpu devices words c.requires.whole =
    λ i. record { pool = (stored-so i).pool; inputs = c.no_inputs.ensures i; checkpoints = checkpoints i } in
    subst (IsBegun (record { cpu = cpu; devices = devices; words = words })) (sym (c.recording_of.ensures.parts ∙ is)) (is-begun cpu devices words c.requires.whole)
