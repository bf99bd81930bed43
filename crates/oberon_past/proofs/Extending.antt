-- A keyframe of a past as Rust has it, and the past with the next one.
use Rattle.std.proofs.Common.{◌≡◌, ℕ, suc, ◌+◌, ◌-◌, ◌*◌, ◌<◌, ◌≤◌, List, [], ◌∷◌, ◌++◌, ap, arith, get_or, length, map, refl, subst, sym, ◌∙◌}
use Rattle.std.proofs.Math.Nat.{suc-mul}
use Rattle.std.proofs.lemmas.List.{length-map, map-append}
use Rattle.risc_pages.specs.Pages.{ArePages}
use Rattle.risc_pages.specs.Tables.{table_words}
use Rattle.risc_model.specs.declared.event.Event.{Event}
use Rattle.risc_model.specs.MachineState.{State, IsCpuState, cpu_state}
use Rattle.risc_model.specs.Replay.{run_of}
use Rattle.oberon_format.proofs.CheckpointLemmas.{checkpoint_at-is}
use Rattle.oberon_format.specs.CheckpointParts.{CheckpointParts, checkpoint_parts}
use Rattle.oberon_format.specs.Recording.{RecordingParts, checkpoint_at, count_at, parts_of}
use Rattle.oberon_format.specs.declared.checkpoint.Checkpoint.{Checkpoint}
use Rattle.oberon_session.proofs.Contents.{Leads, memory-stored}
use Rattle.oberon_session.specs.Laws.{IsTableOf}
use Rattle.oberon_session.specs.Stored.{IsGrown, Stored, changed_page_view, changed_pages, store, store_pages, stored_view}
use Rattle.oberon_session.specs.declared.storing.StoredPages.{StoredPages}
use Rattle.oberon_past.proofs.Keyframes.{grown-kept, grown-longer, longer-on, many-pushed, pushed-kept, pushed-longer, state-from, state-grown}
use Rattle.oberon_past.specs.Past.{IsLonger, PastParts, past_of, reached as reached_by}
use Rattle.oberon_past.specs.Run.{state_at}
use Rattle.oberon_past.specs.declared.running.Reached.{Reached}
use Rattle.oberon_past.specs.inner.Kept.{IsKept, IsNextKeyframe, IsReached, state_of}

pub stored-is : (base words : List ℕ) (before after : Stored) (pages : List (ℕ × List ℕ)) → after ≡ store_pages before pages
    → pages ≡ changed_pages base words → after ≡ store base words before
unfolding store
stored-is base words before after pages stored are = stored ∙ ap (λ (l : List (ℕ × List ℕ)). store_pages before l) are

module _ (pool : List (List ℕ)) (inputs : List Event) (keyframes : List Checkpoint) (spacing end : ℕ)
    (is : IsKept (parts_of pool inputs keyframes) spacing end) where
  abbrev parts : RecordingParts
  parts = parts_of pool inputs keyframes

  abbrev past : PastParts
  past = past_of (parts_of pool inputs keyframes) spacing end

  pub many-parts : length parts.checkpoints ≡ length keyframes
  many-parts = length-map keyframes checkpoint_parts

  module _ (keyframe : Checkpoint) (k : ℕ) (inside : k < length keyframes) (at : keyframe ≡ get_or keyframes k keyframe) where
    lt-parts : k < length parts.checkpoints
    lt-parts = omega (arith, inside, many-parts)

    there : checkpoint_at parts k ≡ checkpoint_parts keyframe
    there = checkpoint_at-is keyframes k keyframe inside at

    -- its count
    pub count-is : keyframe.count ≡ past.run.start + k * spacing
    count-is = ap (λ (c : CheckpointParts). c.count) (sym there) ∙ is.counts k lt-parts

    -- its processor and its table
    pub cpu-fits : IsCpuState (cpu_state keyframe.cpu)
    cpu-fits = subst (λ (c : CheckpointParts). IsCpuState c.cpu) there (is.cpus k lt-parts)

    pub table-fits : IsTableOf (record { pool = pool; table = keyframe.table.numbers })
    table-fits = subst (λ (c : CheckpointParts). IsTableOf (record { pool = pool; table = c.table })) there (is.tables k lt-parts)

    -- a run on from it
    pub run-is : (to : ℕ) → keyframe.count ≤ to
        → run_of inputs keyframe.count (to - keyframe.count) (state_of pool (checkpoint_parts keyframe)) ≡ state_at past.run to
    run-is to on =
        ap (λ (c : CheckpointParts). run_of inputs c.count (to - c.count) (state_of pool c)) (sym there)
        ∙ state-from parts spacing end is k lt-parts to (subst (λ (c : CheckpointParts). c.count ≤ to) (sym there) on)

    -- its state
    pub own-state : state_at past.run (past.run.start + k * spacing) ≡ state_of pool (checkpoint_parts keyframe)
    own-state =
        ap (λ (n : ℕ). state_at past.run n) (sym count-is ∙ ap (λ (c : CheckpointParts). c.count) (sym there))
        ∙ sym (is.truth k lt-parts) ∙ ap (λ (c : CheckpointParts). state_of pool c) there

    -- it is the last one: where a run from it ended, in terms of the past
    module _ (last : k + 1 ≡ length keyframes) where
      pub last-low : keyframe.count ≤ end
      last-low =
          let same : length parts.checkpoints - 1 ≡ k = omega (arith, many-parts, last) in
          let product = ap (λ (n : ℕ). n * spacing) same in
          omega (arith, count-is, is.ends, product)

    module _ (last : k + 1 ≡ length keyframes) (to : ℕ) (to-is : to ≡ keyframe.count + spacing) where
      last-is : reached_by past ≡ past.run.start + k * spacing
      last-is =
          let same : length parts.checkpoints - 1 ≡ k = omega (arith, many-parts, last) in
          ap (λ (n : ℕ). past.run.start + n * spacing) same

      pub last-words : (state_at past.run (reached_by past)).words ≡ (state_of pool (checkpoint_parts keyframe)).words
      last-words = ap (λ (n : ℕ). (state_at past.run n).words) last-is ∙ ap (λ (s : State). s.words) own-state

      pub next-count : reached_by past + spacing ≡ to
      next-count = omega (arith, last-is, count-is, to-is)

      pub next-state-is : state_at past.run (reached_by past + spacing) ≡ run_of inputs keyframe.count (to - keyframe.count) (state_of pool (checkpoint_parts keyframe))
      next-state-is = ap (λ (n : ℕ). state_at past.run n) next-count ∙ sym (run-is to (omega (arith, to-is)))

      pub from-last : (next : Reached) → IsNextKeyframe past next
          → IsReached (state_of pool (checkpoint_parts keyframe)).words
          (run_of inputs keyframe.count (to - keyframe.count) (state_of pool (checkpoint_parts keyframe))) next
      from-last next is-next =
          subst (λ (s : State). IsReached (state_of pool (checkpoint_parts keyframe)).words s next) next-state-is
          (subst (λ (w : List ℕ). IsReached w (state_at past.run (reached_by past + spacing)) next) last-words is-next.is_reached)

      pub is-next : (next : Reached) → to ≤ end → (base : List ℕ) (state : State) → base ≡ (state_of pool (checkpoint_parts keyframe)).words
          → state ≡ state_at past.run to → IsReached base state next → IsNextKeyframe past next
      is-next next inside base state base-is state-is has = record {
        inside = omega (arith, next-count);
        is_reached =
            subst (λ (s : State). IsReached (state_at past.run (reached_by past)).words s next) (state-is ∙ ap (λ (n : ℕ). state_at past.run n) (sym next-count))
            (subst (λ (w : List ℕ). IsReached w state next) (base-is ∙ sym last-words) has);
      }

    -- the next keyframe is made where a run on from it ended
    module _ (last : k + 1 ≡ length keyframes) (to : ℕ) (to-is : to ≡ keyframe.count + spacing) (room : to ≤ end) (reached : Reached)
        (has : IsReached (state_of pool (checkpoint_parts keyframe)).words
        (run_of inputs keyframe.count (to - keyframe.count) (state_of pool (checkpoint_parts keyframe))) reached)
        (stored : StoredPages)
        (so : stored_view stored ≡ store_pages (record { pool = pool; table = keyframe.table.numbers }) (map changed_page_view reached.changed.items))
        (pages : ArePages stored.pool) (made : Checkpoint) (sent : List ℕ)
        (made-is : checkpoint_parts made
        ≡ record { count = to; cpu = cpu_state reached.cpu; devices = reached.devices; sent = sent; table = stored.table.numbers })
        (items : List Checkpoint) (push : items ≡ keyframes ++ made ∷ []) where
      abbrev before : State
      before = state_of pool (checkpoint_parts keyframe)

      abbrev after : State
      after = run_of inputs keyframe.count (to - keyframe.count) (state_of pool (checkpoint_parts keyframe))

      abbrev table : Stored
      table = record { pool = pool; table = keyframe.table.numbers }

      after-is : stored_view stored ≡ store before.words after.words table
      after-is = stored-is before.words after.words table (stored_view stored) (map changed_page_view reached.changed.items) so has.changed

      led : Leads after.words table (store before.words after.words table)
          × (table_words (store before.words after.words table).pool (store before.words after.words table).table ≡ after.words)
      led = memory-stored before.words after.words table table-fits is.pool refl has.whole

      grown : IsGrown pool stored.pool
      grown = record { extra = led.0.extra; grown = ap (λ (s : Stored). s.pool) after-is ∙ led.0.grown }

      abbrev next : CheckpointParts
      next = record { count = to; cpu = cpu_state reached.cpu; devices = reached.devices; sent = sent; table = stored.table.numbers }

      next-state : state_of stored.pool next ≡ after
      next-state =
          let words = ap (λ (s : Stored). table_words s.pool s.table) after-is ∙ led.1 in
          λ i. record { cpu = has.cpu i; devices = has.devices i; words = words i }

      on : keyframe.count ≤ to
      on = omega (arith, to-is)

      abbrev over-parts : RecordingParts
      over-parts = record { pool = stored.pool; inputs = inputs; checkpoints = map checkpoint_parts keyframes }

      kept-over : IsKept over-parts spacing end
      kept-over = grown-kept parts spacing end is stored.pool grown pages

      count-next : to ≡ count_at parts 0 + length parts.checkpoints * spacing
      count-next =
          let many : length parts.checkpoints ≡ suc k = omega (arith, many-parts, last) in
          let product = ap (λ (n : ℕ). n * spacing) many ∙ suc-mul k spacing in
          omega (arith, to-is, count-is, product)

      true-next : state_of stored.pool next ≡ run_of inputs (count_at parts 0) (to - count_at parts 0) (state_of stored.pool (checkpoint_at parts 0))
      true-next =
          next-state ∙ run-is to on
          ∙ ap (λ (s : State). run_of inputs (count_at parts 0) (to - count_at parts 0) s) (sym (state-grown parts spacing end is stored.pool grown 0 is.some))

      table-next : IsTableOf (record { pool = stored.pool; table = stored.table.numbers })
      table-next = subst IsTableOf (sym after-is) led.0.table

      cpu-next : IsCpuState (cpu_state reached.cpu)
      cpu-next = subst IsCpuState (sym has.cpu) has.range

      items-are : map checkpoint_parts items ≡ map checkpoint_parts keyframes ++ next ∷ []
      items-are =
          ap (map checkpoint_parts) push ∙ map-append checkpoint_parts keyframes (made ∷ [])
          ∙ ap (λ (c : CheckpointParts). map checkpoint_parts keyframes ++ c ∷ []) made-is

      abbrev with-next : List CheckpointParts → RecordingParts
      with-next checkpoints = record { pool = stored.pool; inputs = inputs; checkpoints = checkpoints }

      pub extended-kept : IsKept (parts_of stored.pool inputs items) spacing end
      extended-kept =
          subst (λ (cs : List CheckpointParts). IsKept (with-next cs) spacing end) (sym items-are)
          (pushed-kept over-parts spacing end kept-over next count-next cpu-next table-next true-next room)

      pub extended-longer : IsLonger past (past_of (parts_of stored.pool inputs items) spacing end)
      extended-longer =
          subst (λ (cs : List CheckpointParts). IsLonger past (past_of (with-next cs) spacing end)) (sym items-are)
          (longer-on past (past_of over-parts spacing end) (past_of (with-next (map checkpoint_parts keyframes ++ next ∷ [])) spacing end)
          (grown-longer parts spacing end is stored.pool grown)
          (pushed-longer over-parts spacing end kept-over next count-next cpu-next table-next true-next room))

      pub extended-one : length (map checkpoint_parts items) ≡ length (map checkpoint_parts keyframes) + 1
      extended-one =
          ap length items-are ∙ many-pushed over-parts spacing end kept-over next count-next cpu-next table-next true-next room
