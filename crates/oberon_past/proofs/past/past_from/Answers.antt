use Rattle.std.proofs.Common.{◌∙◌, [], ◌∷◌, ◌++◌, ℕ, List, ap, ap₂}
use Rattle.risc_pages.specs.declared.table.Table.{Table}
use Rattle.risc_model.specs.MachineState.{cpu_state}
use Rattle.oberon_format.specs.declared.checkpoint.Checkpoint.{Checkpoint}
use Rattle.oberon_session.specs.Stored.{store}
use Rattle.risc_pages.specs.Tables.{table_words}
use Rattle.oberon_past.proofs.Beginning.{begun-kept, begun-of, no-table}
use Rattle.oberon_past.proofs.past.past_from.Goals as goal

pub store_words-requires-clause-named : goal.store_words-requires-clause-named
store_words-requires-clause-named c = rw (c.zeros.ensures, c.new.ensures) no-table.named

pub invariant_of-result-2 : goal.invariant_of-result-2
invariant_of-result-2 c =
    let first = c.args.first in
    let words : List ℕ = c.args.words.now in
    let stored-so = c.in_ok-store_words.ensures.stored
    ∙ ap₂ (λ (pool : List (List ℕ)) (table : List ℕ). store (table_words pool table) words (record { pool = pool; table = table })) c.new.ensures c.zeros.ensures in
    let made : Checkpoint = record { count = first.count; cpu = first.cpu; devices = first.devices; sent = first.sent; table = c.copy.result } in
    begun-kept first.count (cpu_state first.cpu) first.devices words c.args.inputs c.args.spacing.count c.args.end c.requires.whole c.args.spacing.some c.requires.forward
    (record { count = first.cpu.count; registers = first.cpu.registers; auxiliary = first.cpu.auxiliary; counter = c.requires.counter; stops = c.requires.stop })
    c.store_words.new.stored stored-so c.len-pages.ensures.pages made first.sent.items
    (ap (λ (t : Table). record { count = first.count; cpu = cpu_state first.cpu; devices = first.devices; sent = first.sent.items; table = t.numbers }) c.copy.ensures)
    c.push.new.self.items (c.in_ok-push.ensures.items ∙ ap (λ (l : List Checkpoint). l ++ made ∷ []) c.new-keyframes.ensures.items)

pub returns-clause-past : goal.returns-clause-past
returns-clause-past c =
    let first = c.args.first in
    let words : List ℕ = c.args.words.now in
    let stored-so = c.in_ok-store_words.ensures.stored
    ∙ ap₂ (λ (pool : List (List ℕ)) (table : List ℕ). store (table_words pool table) words (record { pool = pool; table = table })) c.new.ensures c.zeros.ensures in
    let made : Checkpoint = record { count = first.count; cpu = first.cpu; devices = first.devices; sent = first.sent; table = c.copy.result } in
    begun-of first.count (cpu_state first.cpu) first.devices words c.args.inputs c.args.spacing.count c.args.end c.requires.whole c.args.spacing.some c.requires.forward
    (record { count = first.cpu.count; registers = first.cpu.registers; auxiliary = first.cpu.auxiliary; counter = c.requires.counter; stops = c.requires.stop })
    c.store_words.new.stored stored-so c.len-pages.ensures.pages made first.sent.items
    (ap (λ (t : Table). record { count = first.count; cpu = cpu_state first.cpu; devices = first.devices; sent = first.sent.items; table = t.numbers }) c.copy.ensures)
    c.push.new.self.items (c.in_ok-push.ensures.items ∙ ap (λ (l : List Checkpoint). l ++ made ∷ []) c.new-keyframes.ensures.items)
