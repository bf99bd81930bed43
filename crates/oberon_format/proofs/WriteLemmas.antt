-- What is written for a list, member by member.
use Rattle.oberon_format.proofs.Common.{[], add-one, ap, append_assoc, arith, Change, change_bytes, changes_below, checkpoint_bytes, CheckpointParts, checkpoints_bytes, encoding, Event, event_bytes, flat_map, flat_map_more, get_or, header_bytes, length, length-append, List, nat_tests, no_checkpoint, output_of, page_of, RecordingParts, slice_index, suc, sym, table_before, take, take_more, words_bytes, zero, zero_page, ℕ, ◌++◌, ◌+◌, ◌<◌, ◌∙◌, ◌∷◌, ◌≡◌, ◌≢◌, ◌≤◌}
use Rattle.oberon_format.proofs.Walk.{below_stays, below_grows}

-- the bytes of one member more
pub written_next : {X : Type 0} (f : X → List ℕ) (xs : List X) (k : ℕ) (d : X) (start out more : List ℕ) → k < length xs → out ≡ start ++ flat_map f (take k xs) → more ≡ out ++ f (get_or xs k d)
    → more ≡ start ++ flat_map f (take (k + 1) xs)
written_next {X} f xs k d start out more lt so_far now =
    now ∙ ap (λ (l : List ℕ). l ++ f (get_or xs k d)) so_far ∙ flat_map_more f start (take k xs) (get_or xs k d)
    ∙ ap (λ (l : List X). start ++ flat_map f l) (sym (take_more xs k d lt))

-- the bytes of the changes of one slot more, if the tables agree in it and if they differ
pub changes_skipped : (before table start out : List ℕ) (p : ℕ) → slice_index before p ≡ slice_index table p → out ≡ start ++ flat_map change_bytes (changes_below p before table)
    → out ≡ start ++ flat_map change_bytes (changes_below (p + 1) before table)
changes_skipped before table start out p same so_far = so_far ∙ ap (λ (cs : List Change). start ++ flat_map change_bytes cs) (sym (below_stays p before table same))

pub changes_next : (before table start out more : List ℕ) (p : ℕ) → slice_index before p ≢ slice_index table p → out ≡ start ++ flat_map change_bytes (changes_below p before table)
    → more ≡ out ++ change_bytes (record { slot = p; page_id = slice_index table p }) → more ≡ start ++ flat_map change_bytes (changes_below (p + 1) before table)
changes_next before table start out more p other so_far now =
    let here : Change = record { slot = p; page_id = slice_index table p } in
    let below = changes_below p before table in
    now ∙ ap (λ (l : List ℕ). l ++ change_bytes here) so_far ∙ flat_map_more change_bytes start below here
    ∙ ap (λ (cs : List Change). start ++ flat_map change_bytes cs) (sym (below_grows p before table other))

-- the bytes of one checkpoint more
pub checkpoint_next : (v : ℕ) (cs : List CheckpointParts) (start out more before : List ℕ) (k : ℕ) (c : CheckpointParts)
    → out ≡ start ++ checkpoints_bytes v cs k → before ≡ table_before cs k → c ≡ get_or cs k no_checkpoint → more ≡ out ++ checkpoint_bytes v before c
    → more ≡ start ++ checkpoints_bytes v cs (k + 1)
unfolding checkpoints_bytes
checkpoint_next v cs start out more before k c so_far table here now =
    now ∙ (λ i. so_far i ++ checkpoint_bytes v (table i) (here i)) ∙ append_assoc start (checkpoints_bytes v cs k) _
    ∙ ap (λ (n : ℕ). start ++ checkpoints_bytes v cs n) (sym (add-one k))

-- the bytes of all parts
pub parts_joined : (v : ℕ) (r : RecordingParts) (events : List Event) (a b c d e f : List ℕ) → events ≡ r.inputs → a ≡ [] → b ≡ a ++ header_bytes v r → d ≡ c ++ flat_map event_bytes events
    → e ≡ d ++ checkpoints_bytes v r.checkpoints (length r.checkpoints) → f ≡ e ++ output_of r.checkpoints → c ≡ b ++ flat_map words_bytes r.pool → f ≡ encoding v r
unfolding encoding
parts_joined v r events a b c d e f same none header inputs checkpoints output pages =
    let front = pages ∙ ap (λ (l : List ℕ). l ++ flat_map words_bytes r.pool) (header ∙ ap (λ (l : List ℕ). l ++ header_bytes v r) none) in
    let lists = inputs ∙ (λ i. front i ++ flat_map event_bytes (same i)) in
    output ∙ ap (λ (l : List ℕ). l ++ output_of r.checkpoints)
    (checkpoints ∙ ap (λ (l : List ℕ). l ++ checkpoints_bytes v r.checkpoints (length r.checkpoints)) lists)

-- page id p + 1 is that of page p of the pool
pub next_page : (pool : List (List ℕ)) (p : ℕ) → page_of pool (p + 1) ≡ get_or pool p zero_page
unfolding page_of
next_page pool p = grind (arith, nat_tests)

-- no checkpoint sends more than all
pub sent_le : (cs : List CheckpointParts) (k : ℕ) (d : CheckpointParts) → k < length cs → length (get_or cs k d).sent ≤ length (output_of cs)
sent_le [] k d lt = absurd (omega arith)
sent_le (c ∷ cs) zero d lt = omega (arith, length-append c.sent (output_of cs))
sent_le (c ∷ cs) (suc k) d lt = let rest = sent_le cs k d (omega arith) in omega (arith, length-append c.sent (output_of cs))
