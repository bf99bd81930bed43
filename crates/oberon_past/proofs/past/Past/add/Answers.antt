use Rattle.std.proofs.Common.{◌≡◌, ◌<◌, ◌≤◌, ◌+◌, ◌-◌, ◌*◌, ◌∙◌, ℕ, List, [], ◌∷◌, ◌++◌, ap, arith, length, map, refl, subst, sym}
use Rattle.risc_pages.specs.declared.table.Table.{Table}
use Rattle.risc_model.specs.MachineState.{cpu_state}
use Rattle.oberon_format.specs.Recording.{parts_of}
use Rattle.oberon_format.specs.declared.checkpoint.Checkpoint.{Checkpoint}
use Rattle.oberon_session.proofs.PagesStored.{few-changes, low-changes}
use Rattle.oberon_session.specs.Stored.{changed_page_view, store_pages}
use Rattle.oberon_past.proofs.Keyframes.{grown-kept, grown-longer}
use Rattle.oberon_past.proofs.Extending.{extended-kept, extended-longer, from-last, many-parts, next-count}
use Rattle.oberon_past.proofs.Warming.{pushed-or-not, warm-of, warm-prop}
use Rattle.oberon_past.specs.Past.{IsLonger, PastParts, past_of}
use Rattle.oberon_past.specs.inner.Kept.{IsKept, IsNextKeyframe}
use Rattle.oberon_past.specs.inner.Warm.{IsWarm}
use Rattle.oberon_past.specs.declared.past.Past.TheInside.{Inside}
use Rattle.oberon_past.proofs.past.Past.add.Goals as goal

pub same-self : goal.same-self
same-self c =
    let past = c.self.inside in
    let kept = parts_of past.stored.pool past.inputs past.keyframes.items in
    let spacing : ℕ = past.spacing.count in
    let end : ℕ = past.end in
    ap
    (λ (w : IsWarm kept spacing end past.warm). let i : Inside = record {
      stored = past.stored;
      inputs = past.inputs;
      keyframes = past.keyframes;
      spacing = past.spacing;
      end = past.end;
      warm = past.warm;
      warm_at_end = w;
    } in i)
    (warm-prop kept spacing end past.warm _ past.warm_at_end)

pub overflow_add-count : goal.overflow_add-count
overflow_add-count c =
    let past = c.self.inside in
    let pool = past.stored.pool in
    let keyframes = past.keyframes.items in
    let spacing : ℕ = past.spacing.count in
    let end : ℕ = past.end in
    let last = c.index-last.result.now in
    let k : ℕ = c.len-2.result - 1 in
    let many = many-parts pool past.inputs keyframes spacing end c.self.invariant in
    let some = c.self.invariant.some in
    let inside : k < length keyframes = omega (arith, many, some, c.len-2.ensures) in
    let whole : k + 1 ≡ length keyframes = omega (arith, many, some, c.len-2.ensures) in
    let asked = subst (λ (p : PastParts). IsNextKeyframe p c.args.next) (sym c.self.view_is) c.requires in
    let count = next-count pool past.inputs keyframes spacing end c.self.invariant last k inside c.index-last.ensures whole (last.count + spacing) refl in
    omega (arith, count, asked.inside)

pub invariant_of-self-inside-in-Break-1 : goal.invariant_of-self-inside-in-Break-1
invariant_of-self-inside-in-Break-1 c =
    let past = c.self.inside in
    let old = parts_of past.stored.pool past.inputs past.keyframes.items in
    let new = parts_of c.store_pages-stored.new.stored.pool past.inputs past.keyframes.items in
    let spacing : ℕ = past.spacing.count in
    let end : ℕ = past.end in
    let longer = grown-longer old spacing end c.self.invariant c.store_pages-stored.new.stored.pool c.store_pages-stored.ensures.kept in
    (warm-of (past_of old spacing end).run (past_of new spacing end).run end past.warm longer.run past.warm_at_end, tt)

pub invariant_of-self-inside-2 : goal.invariant_of-self-inside-2
invariant_of-self-inside-2 c =
    let past = c.self.inside in
    let pool = past.stored.pool in
    let keyframes = past.keyframes.items in
    let spacing : ℕ = past.spacing.count in
    let end : ℕ = past.end in
    let last = c.index-last.result.now in
    let next = c.args.next in
    let k : ℕ = c.len-2.result - 1 in
    let many = many-parts pool past.inputs keyframes spacing end c.self.invariant in
    let some = c.self.invariant.some in
    let inside : k < length keyframes = omega (arith, many, some, c.len-2.ensures) in
    let whole : k + 1 ≡ length keyframes = omega (arith, many, some, c.len-2.ensures) in
    let asked = subst (λ (p : PastParts). IsNextKeyframe p next) (sym c.self.view_is) c.requires in
    let count = next-count pool past.inputs keyframes spacing end c.self.invariant last k inside c.index-last.ensures whole (last.count + spacing) refl in
    let room : last.count + spacing ≤ end = omega (arith, count, asked.inside) in
    let has = from-last pool past.inputs keyframes spacing end c.self.invariant last k inside c.index-last.ensures whole (last.count + spacing) refl next asked in
    let stored-so = (rw c.deref.ensures.value at c.in_ok-stored.ensures.stored)
    ∙ ap (λ (t : Table). store_pages (record { pool = pool; table = t.numbers }) (map changed_page_view next.changed.items)) c.copy-self-inside.ensures in
    let made : Checkpoint = record { count = last.count + spacing; cpu = next.cpu; devices = next.devices; sent = c.new.result; table = c.copy.result } in
    let stored = c.store_pages-stored.new.stored in
    let run = (past_of (parts_of pool past.inputs keyframes) spacing end).run in
    let IsKeptWarm = λ (l : List Checkpoint). IsWarm (parts_of stored.pool past.inputs l) spacing end past.warm in
    let grown = grown-longer (parts_of pool past.inputs keyframes) spacing end c.self.invariant stored.pool c.store_pages-stored.ensures.kept in
    let pushed = λ (items : c.push.new.self.items ≡ keyframes ++ made ∷ []).
    let longer = extended-longer pool past.inputs keyframes spacing end c.self.invariant last k inside c.index-last.ensures whole (last.count + spacing) refl room
    next has stored stored-so c.len-pages.ensures.pages made c.new.result.items
    (ap (λ (t : Table). record { count = last.count + spacing; cpu = cpu_state next.cpu; devices = next.devices; sent = c.new.result.items; table = t.numbers }) c.copy.ensures)
    c.push.new.self.items items in
    warm-of run (past_of (parts_of stored.pool past.inputs c.push.new.self.items) spacing end).run end past.warm longer.run past.warm_at_end in (
      pushed-or-not IsKeptWarm c.push.result (keyframes ++ made ∷ []) keyframes c.push.new.self.items c.push.ensures.items pushed
          (warm-of run (past_of (parts_of stored.pool past.inputs keyframes) spacing end).run end past.warm grown.run past.warm_at_end),
      tt,
    )

pub store_pages-stored-requires-clause-few : goal.store_pages-stored-requires-clause-few
store_pages-stored-requires-clause-few c = rw c.deref.ensures.value (few-changes _ _ c.args.next.changed.items c.requires.is_reached.changed)

pub store_pages-stored-requires-clause-slots : goal.store_pages-stored-requires-clause-slots
store_pages-stored-requires-clause-slots c = rw c.deref.ensures.value (low-changes _ _ c.args.next.changed.items c.requires.is_reached.changed)

pub invariant_of-self : goal.invariant_of-self
invariant_of-self c =
    let past = c.self.inside in
    grown-kept (parts_of past.stored.pool past.inputs past.keyframes.items) past.spacing.count past.end c.self.invariant
    c.store_pages-stored.new.stored.pool c.store_pages-stored.ensures.kept c.len-pages.ensures.pages

pub returns-in_err-stored-clause-longer : goal.returns-in_err-stored-clause-longer
returns-in_err-stored-clause-longer c =
    let past = c.self.inside in
    subst (λ (p : PastParts). IsLonger p (past_of (parts_of c.store_pages-stored.new.stored.pool past.inputs past.keyframes.items) past.spacing.count past.end))
    c.self.view_is
    (grown-longer (parts_of past.stored.pool past.inputs past.keyframes.items) past.spacing.count past.end c.self.invariant
    c.store_pages-stored.new.stored.pool c.store_pages-stored.ensures.kept)

pub invariant_of-self-in_err-push : goal.invariant_of-self-in_err-push
invariant_of-self-in_err-push c =
    let past = c.self.inside in
    let items : c.push.new.self.items ≡ past.keyframes.items = c.in_err-push.ensures.items in
    subst (λ (l : List Checkpoint). IsKept (parts_of c.store_pages-stored.new.stored.pool past.inputs l) past.spacing.count past.end) (sym items)
    (grown-kept (parts_of past.stored.pool past.inputs past.keyframes.items) past.spacing.count past.end c.self.invariant
    c.store_pages-stored.new.stored.pool c.store_pages-stored.ensures.kept c.len-pages.ensures.pages)

pub returns-in_err-push-clause-longer : goal.returns-in_err-push-clause-longer
returns-in_err-push-clause-longer c =
    let past = c.self.inside in
    let items : c.push.new.self.items ≡ past.keyframes.items = c.in_err-push.ensures.items in
    subst (λ (l : List Checkpoint). IsLonger c.args.self.now (past_of (parts_of c.store_pages-stored.new.stored.pool past.inputs l) past.spacing.count past.end)) (sym items)
    (subst (λ (p : PastParts). IsLonger p (past_of (parts_of c.store_pages-stored.new.stored.pool past.inputs past.keyframes.items) past.spacing.count past.end))
    c.self.view_is
    (grown-longer (parts_of past.stored.pool past.inputs past.keyframes.items) past.spacing.count past.end c.self.invariant
    c.store_pages-stored.new.stored.pool c.store_pages-stored.ensures.kept))

pub invariant_of-self-2 : goal.invariant_of-self-2
invariant_of-self-2 c =
    let past = c.self.inside in
    let pool = past.stored.pool in
    let keyframes = past.keyframes.items in
    let spacing : ℕ = past.spacing.count in
    let end : ℕ = past.end in
    let last = c.index-last.result.now in
    let next = c.args.next in
    let k : ℕ = c.len-2.result - 1 in
    let many = many-parts pool past.inputs keyframes spacing end c.self.invariant in
    let some = c.self.invariant.some in
    let inside : k < length keyframes = omega (arith, many, some, c.len-2.ensures) in
    let whole : k + 1 ≡ length keyframes = omega (arith, many, some, c.len-2.ensures) in
    let asked = subst (λ (p : PastParts). IsNextKeyframe p next) (sym c.self.view_is) c.requires in
    let count = next-count pool past.inputs keyframes spacing end c.self.invariant last k inside c.index-last.ensures whole (last.count + spacing) refl in
    let room : last.count + spacing ≤ end = omega (arith, count, asked.inside) in
    let has = from-last pool past.inputs keyframes spacing end c.self.invariant last k inside c.index-last.ensures whole (last.count + spacing) refl next asked in
    let stored-so = (rw c.deref.ensures.value at c.in_ok-stored.ensures.stored)
    ∙ ap (λ (t : Table). store_pages (record { pool = pool; table = t.numbers }) (map changed_page_view next.changed.items)) c.copy-self-inside.ensures in
    let made : Checkpoint = record { count = last.count + spacing; cpu = next.cpu; devices = next.devices; sent = c.new.result; table = c.copy.result } in
    extended-kept pool past.inputs keyframes spacing end c.self.invariant last k inside c.index-last.ensures whole (last.count + spacing) refl room
    next has c.store_pages-stored.new.stored stored-so c.len-pages.ensures.pages made c.new.result.items
    (ap (λ (t : Table). record { count = last.count + spacing; cpu = cpu_state next.cpu; devices = next.devices; sent = c.new.result.items; table = t.numbers }) c.copy.ensures)
    c.push.new.self.items c.in_ok-push.ensures.items

pub returns-clause-longer : goal.returns-clause-longer
returns-clause-longer c =
    let past = c.self.inside in
    let pool = past.stored.pool in
    let keyframes = past.keyframes.items in
    let spacing : ℕ = past.spacing.count in
    let end : ℕ = past.end in
    let last = c.index-last.result.now in
    let next = c.args.next in
    let k : ℕ = c.len-2.result - 1 in
    let many = many-parts pool past.inputs keyframes spacing end c.self.invariant in
    let some = c.self.invariant.some in
    let inside : k < length keyframes = omega (arith, many, some, c.len-2.ensures) in
    let whole : k + 1 ≡ length keyframes = omega (arith, many, some, c.len-2.ensures) in
    let asked = subst (λ (p : PastParts). IsNextKeyframe p next) (sym c.self.view_is) c.requires in
    let count = next-count pool past.inputs keyframes spacing end c.self.invariant last k inside c.index-last.ensures whole (last.count + spacing) refl in
    let room : last.count + spacing ≤ end = omega (arith, count, asked.inside) in
    let has = from-last pool past.inputs keyframes spacing end c.self.invariant last k inside c.index-last.ensures whole (last.count + spacing) refl next asked in
    let stored-so = (rw c.deref.ensures.value at c.in_ok-stored.ensures.stored)
    ∙ ap (λ (t : Table). store_pages (record { pool = pool; table = t.numbers }) (map changed_page_view next.changed.items)) c.copy-self-inside.ensures in
    let made : Checkpoint = record { count = last.count + spacing; cpu = next.cpu; devices = next.devices; sent = c.new.result; table = c.copy.result } in
    subst (λ (p : PastParts). IsLonger p (past_of (parts_of c.store_pages-stored.new.stored.pool past.inputs c.push.new.self.items) spacing end)) c.self.view_is
    (extended-longer pool past.inputs keyframes spacing end c.self.invariant last k inside c.index-last.ensures whole (last.count + spacing) refl room
    next has c.store_pages-stored.new.stored stored-so c.len-pages.ensures.pages made c.new.result.items
    (ap (λ (t : Table). record { count = last.count + spacing; cpu = cpu_state next.cpu; devices = next.devices; sent = c.new.result.items; table = t.numbers }) c.copy.ensures)
    c.push.new.self.items c.in_ok-push.ensures.items)
