use Rattle.std.proofs.Common.{◌≡◌, ◌∙◌, [], ◌∷◌, None, Some, ap, arith, refl, sym}
use Rattle.std.proofs.lemmas.Result.{err_from_is_err_and}
use Rattle.json.specs.Json.{after_end_array, parse_map}
use Rattle.oberon_session.specs.inner.Found.{input_in}
use Rattle.oberon_session.specs.inner.Taken.{all_items}
use Rattle.oberon_session.proofs.Taking.{items-some, items_before, next-refused, next-taken, taken-all, taken-none}
use Rattle.oberon_session.proofs.input.input_inside.Goals as goal

pub returns-then-take_end_array : goal.returns-then-take_end_array
returns-then-take_end_array c =
    let closed : after_end_array c.args.reader.now ≡ Some c.take_end_array.new.self = grind arith in
    (_, taken-all _ _ [] _ (taken-none _ _) _ closed, refl)

pub returns-in_err-count : goal.returns-in_err-count
returns-in_err-count c =
    let g1 : (after_end_array c.args.reader.now ≡ None) × (c.take_end_array.new.self ≡ c.args.reader.now) = grind arith in
    let from = err_from_is_err_and c.from_residual.result c.from_residual.ensures.1 in
    rw (from.1, from.2) (λ no.
    let wrong = c.in_err-count.ensures no in
    (wrong.0, next-refused _ _ [] _ _ (taken-none _ _) g1 wrong.1))

pub returns-then-take_end_array-2 : goal.returns-then-take_end_array-2
returns-then-take_end_array-2 c =
    let g1 : (after_end_array c.args.reader.now ≡ None) × (c.take_end_array.new.self ≡ c.args.reader.now) = grind arith in
    let t1 = next-taken _ _ [] _ _ (taken-none _ _) g1 c.number.new.reader _ c.in_ok-count.ensures.1 in
    let closed : after_end_array c.number.new.reader ≡ Some c.take_end_array-2.new.self = grind arith in
    (_, taken-all _ _ (c.in_ok-count.ensures.0 ∷ []) _ t1 _ closed, refl)

pub returns-in_err-kind : goal.returns-in_err-kind
returns-in_err-kind c =
    let g1 : (after_end_array c.args.reader.now ≡ None) × (c.take_end_array.new.self ≡ c.args.reader.now) = grind arith in
    let t1 = next-taken _ _ [] _ _ (taken-none _ _) g1 c.number.new.reader _ c.in_ok-count.ensures.1 in
    let g2 : (after_end_array c.number.new.reader ≡ None) × (c.take_end_array-2.new.self ≡ c.number.new.reader) = grind arith in
    let from = err_from_is_err_and c.from_residual-in_err-kind.result c.from_residual-in_err-kind.ensures.1 in
    rw (from.1, from.2) (λ no.
    let wrong = c.in_err-kind.ensures no in
    (wrong.0, next-refused _ _ (c.in_ok-count.ensures.0 ∷ []) _ _ t1 g2 wrong.1))

pub returns-then-take_end_array-3 : goal.returns-then-take_end_array-3
returns-then-take_end_array-3 c =
    let g1 : (after_end_array c.args.reader.now ≡ None) × (c.take_end_array.new.self ≡ c.args.reader.now) = grind arith in
    let t1 = next-taken _ _ [] _ _ (taken-none _ _) g1 c.number.new.reader _ c.in_ok-count.ensures.1 in
    let g2 : (after_end_array c.number.new.reader ≡ None) × (c.take_end_array-2.new.self ≡ c.number.new.reader) = grind arith in
    let t2 = next-taken _ _ (c.in_ok-count.ensures.0 ∷ []) _ _ t1 g2 c.text.new.reader _ c.in_ok-kind.ensures.1 in
    let closed : after_end_array c.text.new.reader ≡ Some c.take_end_array-3.new.self = grind arith in
    (_, taken-all _ _ (c.in_ok-count.ensures.0 ∷ c.in_ok-kind.ensures.0 ∷ []) _ t2 _ closed, refl)

pub returns-in_err-value : goal.returns-in_err-value
returns-in_err-value c =
    let g1 : (after_end_array c.args.reader.now ≡ None) × (c.take_end_array.new.self ≡ c.args.reader.now) = grind arith in
    let t1 = next-taken _ _ [] _ _ (taken-none _ _) g1 c.number.new.reader _ c.in_ok-count.ensures.1 in
    let g2 : (after_end_array c.number.new.reader ≡ None) × (c.take_end_array-2.new.self ≡ c.number.new.reader) = grind arith in
    let t2 = next-taken _ _ (c.in_ok-count.ensures.0 ∷ []) _ _ t1 g2 c.text.new.reader _ c.in_ok-kind.ensures.1 in
    let g3 : (after_end_array c.text.new.reader ≡ None) × (c.take_end_array-3.new.self ≡ c.text.new.reader) = grind arith in
    let from = err_from_is_err_and c.from_residual-in_err-value.result c.from_residual-in_err-value.ensures.1 in
    rw (from.1, from.2) (λ no.
    let wrong = c.in_err-value.ensures no in
    (wrong.0, next-refused _ _ (c.in_ok-count.ensures.0 ∷ c.in_ok-kind.ensures.0 ∷ []) _ _ t2 g3 wrong.1))

pub returns-then-take_end_array-4 : goal.returns-then-take_end_array-4
returns-then-take_end_array-4 c =
    let g1 : (after_end_array c.args.reader.now ≡ None) × (c.take_end_array.new.self ≡ c.args.reader.now) = grind arith in
    let t1 = next-taken _ _ [] _ _ (taken-none _ _) g1 c.number.new.reader _ c.in_ok-count.ensures.1 in
    let g2 : (after_end_array c.number.new.reader ≡ None) × (c.take_end_array-2.new.self ≡ c.number.new.reader) = grind arith in
    let t2 = next-taken _ _ (c.in_ok-count.ensures.0 ∷ []) _ _ t1 g2 c.text.new.reader _ c.in_ok-kind.ensures.1 in
    let g3 : (after_end_array c.text.new.reader ≡ None) × (c.take_end_array-3.new.self ≡ c.text.new.reader) = grind arith in
    let t3 = next-taken _ _ (c.in_ok-count.ensures.0 ∷ c.in_ok-kind.ensures.0 ∷ []) _ _ t2 g3 c.number-2.new.reader _ c.in_ok-value.ensures.1 in
    let closed : after_end_array c.number-2.new.reader ≡ Some c.take_end_array-4.new.self = grind arith in
    (_, taken-all _ _ (c.in_ok-count.ensures.0 ∷ c.in_ok-kind.ensures.0 ∷ c.in_ok-value.ensures.0 ∷ []) _ t3 _ closed, c.input_in.ensures ∙ (λ i. input_in (c.in_ok-count.ensures.2 i) (c.in_ok-kind.ensures.2 i) (c.in_ok-value.ensures.2 i)))

pub returns-in_err-pass_items : goal.returns-in_err-pass_items
returns-in_err-pass_items c =
    let g1 : (after_end_array c.args.reader.now ≡ None) × (c.take_end_array.new.self ≡ c.args.reader.now) = grind arith in
    let t1 = next-taken _ _ [] _ _ (taken-none _ _) g1 c.number.new.reader _ c.in_ok-count.ensures.1 in
    let g2 : (after_end_array c.number.new.reader ≡ None) × (c.take_end_array-2.new.self ≡ c.number.new.reader) = grind arith in
    let t2 = next-taken _ _ (c.in_ok-count.ensures.0 ∷ []) _ _ t1 g2 c.text.new.reader _ c.in_ok-kind.ensures.1 in
    let g3 : (after_end_array c.text.new.reader ≡ None) × (c.take_end_array-3.new.self ≡ c.text.new.reader) = grind arith in
    let t3 = next-taken _ _ (c.in_ok-count.ensures.0 ∷ c.in_ok-kind.ensures.0 ∷ []) _ _ t2 g3 c.number-2.new.reader _ c.in_ok-value.ensures.1 in
    let g4 : (after_end_array c.number-2.new.reader ≡ None) × (c.take_end_array-4.new.self ≡ c.number-2.new.reader) = grind arith in
    let from = err_from_is_err_and c.from_residual-in_err-pass_items.result c.from_residual-in_err-pass_items.ensures.1 in
    rw (from.1, from.2) (λ no.
    let wrong = c.in_err-pass_items.ensures no in
    (wrong.0, t3.0 ∙ ap (parse_map (items_before (c.in_ok-count.ensures.0 ∷ c.in_ok-kind.ensures.0 ∷ c.in_ok-value.ensures.0 ∷ []))) (ap (all_items c.args.depth) (sym g4.1) ∙ wrong.1)))

pub returns : goal.returns
returns c =
    let g1 : (after_end_array c.args.reader.now ≡ None) × (c.take_end_array.new.self ≡ c.args.reader.now) = grind arith in
    let t1 = next-taken _ _ [] _ _ (taken-none _ _) g1 c.number.new.reader _ c.in_ok-count.ensures.1 in
    let g2 : (after_end_array c.number.new.reader ≡ None) × (c.take_end_array-2.new.self ≡ c.number.new.reader) = grind arith in
    let t2 = next-taken _ _ (c.in_ok-count.ensures.0 ∷ []) _ _ t1 g2 c.text.new.reader _ c.in_ok-kind.ensures.1 in
    let g3 : (after_end_array c.text.new.reader ≡ None) × (c.take_end_array-3.new.self ≡ c.text.new.reader) = grind arith in
    let t3 = next-taken _ _ (c.in_ok-count.ensures.0 ∷ c.in_ok-kind.ensures.0 ∷ []) _ _ t2 g3 c.number-2.new.reader _ c.in_ok-value.ensures.1 in
    let g4 : (after_end_array c.number-2.new.reader ≡ None) × (c.take_end_array-4.new.self ≡ c.number-2.new.reader) = grind arith in
    let others = ap (all_items c.args.depth) (sym g4.1) ∙ c.in_ok-pass_items.ensures.1 in
    let fourth = items-some c.args.depth c.number-2.new.reader _ _ g4.0 others in
    (_, t3.0 ∙ ap (parse_map (items_before (c.in_ok-count.ensures.0 ∷ c.in_ok-kind.ensures.0 ∷ c.in_ok-value.ensures.0 ∷ []))) others, rw fourth.2 refl)
