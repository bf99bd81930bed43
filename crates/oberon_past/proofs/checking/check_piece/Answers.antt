use Rattle.std.proofs.Common.{◌≡◌, ◌≢◌, ◌∙◌, ◌+◌, ◌-◌, ◌<◌, ◌≤◌, ℕ, IfSome, List, ◌++◌, Option, Some, ap, arith, drop, length, length-append, length-drop, subst, sym, take}
use Rattle.std.specs.Prelude.{None}
use Rattle.risc_model.specs.declared.event.Event.{Event}
use Rattle.risc_model.specs.Replay.{run_of, sent_of}
use Rattle.oberon_format.specs.CheckpointParts.{CheckpointParts}
use Rattle.oberon_format.specs.Defined.{claimed, defined, output_between, state_at}
use Rattle.oberon_format.specs.Recording.{count_at}
use Rattle.oberon_past.specs.Check.{IsSentUpTo}
use Rattle.oberon_past.proofs.Checks.{never-starting, passed-come, rest-is, sent-many, sent-next, sent-others, starting, state-on}
use Rattle.oberon_past.proofs.checking.check_piece.Goals as goal
use Rattle.oberon_past.proofs.checking.check_piece.Goals.{then-ran-to-via-then-ran-to, then-ran-to-via-else-ran-to+then-not-starts_with}

pub returns-then-ran-to-clause-checked : goal.returns-then-ran-to-clause-checked
returns-then-ran-to-clause-checked c = λ at.
    let r = c.args.recording.now in
    let k : ℕ = c.args.at.checkpoint in
    let n : ℕ = c.args.at.count in
    let m : ℕ = c.in-Some.sent in
    let to : ℕ = c.args.to in
    let s = c.args.machine.now.state in
    let bytes : List ℕ = (claimed r k).sent in
    let xs : List ℕ = c.deref.result.now in
    let ys : List ℕ = c.in_ok-ran.ran.sent.items in
    let end : ℕ = c.in_ok-ran.ran.end in
    let same : xs ≡ bytes = c.deref.ensures.value ∙ ap (λ (x : CheckpointParts). x.sent) c.checkpoint.ensures.checkpoint in
    let few : m ≤ length bytes = subst (λ (o : Option ℕ). IfSome o (λ x. x ≤ length bytes)) c.in-Some.is c.requires.progress.sent in
    let front : output_between r (count_at r (k - 1)) n ≡ take m bytes = subst (λ (o : Option ℕ). IsSentUpTo r k n o) c.in-Some.is at.truth.sent in
    let rest = rest-is xs bytes m same in
    let stretch = c.in_ok-ran.ensures.stretch in
    let others : (defined r k).sent ≢ bytes = elim c.then-ran-to.branch [
      | then-ran-to-via-then-ran-to w ↦
          let room = length-drop m bytes in
          let many = stretch.full w.if-ran-to.true in
          let sent = ap (λ (es : List Event). length (sent_of es n (end + 1 - n) s)) c.inputs.ensures.inputs in
          let fit = ap length rest in
          sent-many r k n m c.requires.progress.begun few s at.state front end (length bytes - m) stretch.further.0
          (omega (arith, w.if-ran-to.true, c.requires.range.1)) (omega (arith, few)) (omega (arith, many, sent, fit, room))
      | then-ran-to-via-else-ran-to+then-not-starts_with w ↦
          let whole : end ≡ to = omega (arith, w.if-ran-to.false, stretch.further.1) in
          let are : ys ≡ sent_of r.inputs n (to - n) s = stretch.sent
          ∙ ap (λ (es : List Event). sent_of es n (end - n) s) c.inputs.ensures.inputs
          ∙ ap (λ (x : ℕ). sent_of r.inputs n (x - n) s) whole in
          let never : (after : List ℕ) → drop m bytes ≢ ys ++ after =
          subst (λ (l : List ℕ). (after : List ℕ) → drop m bytes ≢ l ++ after) w.deref-else-ran-to.ensures.value
          (subst (λ (l : List ℕ). (after : List ℕ) → l ≢ w.deref-else-ran-to.result.now ++ after) rest
          (never-starting _ w.deref-else-ran-to.result.now w.starts_with.result w.starts_with.ensures.value w.if-not-starts_with.true)) in
          sent-others r k n m c.requires.progress.begun few s at.state front to ys c.requires.range.0 c.requires.range.1 are never
    ] in
    record { before = at.truth.before; sent = others }

pub returns-clause-checked : goal.returns-clause-checked
returns-clause-checked c = λ at.
    let r = c.args.recording.now in
    let k : ℕ = c.args.at.checkpoint in
    let n : ℕ = c.args.at.count in
    let m : ℕ = c.in-Some.sent in
    let to : ℕ = c.args.to in
    let s = c.args.machine.now.state in
    let bytes : List ℕ = (claimed r k).sent in
    let xs : List ℕ = c.deref.result.now in
    let ys : List ℕ = c.in_ok-ran.ran.sent.items in
    let end : ℕ = c.in_ok-ran.ran.end in
    let same : xs ≡ bytes = c.deref.ensures.value ∙ ap (λ (x : CheckpointParts). x.sent) c.checkpoint.ensures.checkpoint in
    let few : m ≤ length bytes = subst (λ (o : Option ℕ). IfSome o (λ x. x ≤ length bytes)) c.in-Some.is c.requires.progress.sent in
    let front : output_between r (count_at r (k - 1)) n ≡ take m bytes = subst (λ (o : Option ℕ). IsSentUpTo r k n o) c.in-Some.is at.truth.sent in
    let rest = rest-is xs bytes m same in
    let stretch = c.in_ok-ran.ensures.stretch in
    let whole : end ≡ to = omega (arith, c.if-ran-to.false, stretch.further.1) in
    let are : ys ≡ sent_of r.inputs n (to - n) s = stretch.sent
    ∙ ap (λ (es : List Event). sent_of es n (end - n) s) c.inputs.ensures.inputs
    ∙ ap (λ (x : ℕ). sent_of r.inputs n (x - n) s) whole in
    let starts : drop m bytes ≡ ys ++ drop (length ys) (drop m bytes) =
    subst (λ (l : List ℕ). drop m bytes ≡ l ++ drop (length l) (drop m bytes)) c.deref-else-ran-to.ensures.value
    (subst (λ (l : List ℕ). l ≡ c.deref-else-ran-to.result.now ++ drop (length c.deref-else-ran-to.result.now) l) rest
    (starting _ c.deref-else-ran-to.result.now c.starts_with.result c.starts_with.ensures.value c.if-not-starts_with.false)) in
    let state = c.in_ok-ran.ensures.state whole
    ∙ ap (λ (es : List Event). run_of es n (to - n) s) c.inputs.ensures.inputs
    ∙ state-on r n to c.requires.range.0 s at.state in
    let count : length ys ≡ c.len.result = omega (arith, c.len.ensures, c.in_ok-ran.ran.sent.ok.0) in
    let next = sent-next r k n m c.requires.progress.begun few s at.state front to ys c.requires.range.0 are starts in
    c.passed.ensures.checked (record {
      state = state;
      truth = record {
        before = at.truth.before;
        sent = subst (λ (x : ℕ). output_between r (count_at r (k - 1)) to ≡ take (m + x) bytes) count next;
      };
    })

pub returns-clause-come : goal.returns-clause-come
returns-clause-come c = λ at.
    let r = c.args.recording.now in
    let n : ℕ = c.args.at.count in
    let to : ℕ = c.args.to in
    let s = c.args.machine.now.state in
    let whole : c.in_ok-ran.ran.end ≡ to = omega (arith, c.if-ran-to.false, c.in_ok-ran.ensures.stretch.further.1) in
    let state = c.in_ok-ran.ensures.state whole
    ∙ ap (λ (es : List Event). run_of es n (to - n) s) c.inputs.ensures.inputs
    ∙ state-on r n to c.requires.range.0 s at.state in
    passed-come r _ _ state c.passed.result c.passed.ensures.passed
