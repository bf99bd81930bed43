-- Hits at the front of a caller's memory.
use Rattle.std.proofs.Common.{refl, ◌≡◌, ◌∙◌, ◌+◌, ◌<◌, ◌≤◌, ℕ, List, [], ◌∷◌, Option, None, Some, length, map, take, drop, get_or, set, ap, subst, sym, arith, length-take, length-drop}
use Rattle.std.proofs.lemmas.List.{get_or-drop, get_or-map, get_or-set_other, get_or-take, get_or_default, length-map, same_lists}
use Rattle.risc_model.specs.declared.event.Event.{Event}
use Rattle.risc_search.specs.declared.condition.Clause.{Clause}
use Rattle.risc_search.specs.declared.hit.Hit.{Hit}
use Rattle.risc_search.specs.Hits.{AreHits}
use Rattle.risc_search.proofs.HitLemmas.{hits-append, hits-from}
use Rattle.galluspa.specs.declared.conditions.RawHit.{RawHit}
use Rattle.galluspa.specs.Conditions.{hit_of}
use Rattle.galluspa.specs.Laws.{HitsJoinLaw}
use Rattle.galluspa.specs.Raw.{state_of}
use Rattle.galluspa.proofs.ExtendLemmas.{same-events}
use Rattle.galluspa.proofs.WordLemmas.{each_set}

-- a written hit is the one at an index
abbrev pub IsWrittenAt : List Hit → ℕ → RawHit → Type 0
IsWrittenAt hits k raw = (d : Hit) → hit_of raw ≡ get_or hits k d

-- one hit more
pub written-more : (hits : List Hit) (out : List RawHit) (index : ℕ) (raw : RawHit) (d : Hit) → index < length hits → index < length out → hit_of raw ≡ get_or hits index d
    → ((k : ℕ) (e : RawHit) → k < index → IsWrittenAt hits k (get_or out k e)) → (k : ℕ) (e : RawHit) → k < index + 1 → IsWrittenAt hits k (get_or (set out index raw) k e)
written-more hits out index raw d inside room is before = each_set (λ (k : ℕ) (x : RawHit). IsWrittenAt hits k x) out index raw room before (λ e. is ∙ get_or_default hits index d e inside)

pub after-more : {A : Type 0} (old out : List A) (from index : ℕ) (raw : A) → index < from → ((k : ℕ) (e : A) → from ≤ k → get_or out k e ≡ get_or old k e) → (k : ℕ) (e : A) → from ≤ k → get_or (set out index raw) k e ≡ get_or old k e
after-more old out from index raw before rest = λ k e later. get_or-set_other out index k raw e (λ same. absurd (omega (arith, before, later, same))) ∙ rest k e later

-- all of them
pub written-all : (hits : List Hit) (out : List RawHit) (index : ℕ) (e : RawHit) → length hits ≤ index → length hits ≤ length out → ((k : ℕ) (e : RawHit) → k < index → IsWrittenAt hits k (get_or out k e)) → map hit_of (take (length hits) out) ≡ hits
written-all hits out index e done room each =
    let n : ℕ = length hits in
    let count : length (map hit_of (take n out)) ≡ length hits = length-map (take n out) hit_of ∙ omega (arith, length-take n out, room) in
    same_lists (map hit_of (take n out)) hits count (λ k d inside.
    let here : k < n = omega (arith, inside, count) in
    get_or-map hit_of (take n out) k e d (omega (arith, here, length-take n out, room))
    ∙ ap (λ (raw : RawHit). hit_of raw) (get_or-take n out k e here)
    ∙ each k e (omega (arith, here, done)) d)

pub after-all : {A : Type 0} (old out : List A) (from : ℕ) → length out ≡ length old → ((k : ℕ) (e : A) → from ≤ k → get_or out k e ≡ get_or old k e) → drop from out ≡ drop from old
after-all old out from count rest =
    same_lists (drop from out) (drop from old) (omega (arith, length-drop from out, length-drop from old, count)) (λ k e inside.
    get_or-drop from out k e ∙ rest (from + k) e (omega arith) ∙ sym (get_or-drop from old k e))

-- ---- two searches, the second from where the first ended

some-of : Clause → Option Clause → Clause
some-of d None = d
some-of d (Some clause) = clause

same-some : (a b : Clause) → Some a ≡ Some b → a ≡ b
unfolding some-of
same-some a b same = ap (some-of a) same

-- a caller's conditions are one list of clauses
same-clauses : (a b : List Clause) → map (λ (c : Clause). Some c) a ≡ map (λ (c : Clause). Some c) b → a ≡ b
same-clauses [] [] same = refl
same-clauses [] (y ∷ ys) same = absurd (omega (arith, ap (λ (l : List (Option Clause)). length l) same))
same-clauses (x ∷ xs) [] same = absurd (omega (arith, ap (λ (l : List (Option Clause)). length l) same))
same-clauses (x ∷ xs) (y ∷ ys) same =
    let first = same-some x y (ap (λ (l : List (Option Clause)). get_or l 0 (Some x)) same) in
    let rest = same-clauses xs ys (ap (λ (l : List (Option Clause)). drop 1 l) same) in
    ap (λ (c : Clause). c ∷ xs) first ∙ ap (λ (l : List Clause). y ∷ l) rest

pub hits_join_law-holds : HitsJoinLaw
hits_join_law-holds inputs to further room more old mid new old_words mid_words new_words raws hits later first second =
    let s = state_of old old_words in
    let es = first.events in
    let conditions = first.conditions in
    let events : second.events ≡ es = same-events second.events es (second.are_events.written ∙ sym first.are_events.written) in
    let clauses : second.conditions ≡ conditions = same-clauses second.conditions conditions (sym second.are_conditions ∙ first.are_conditions) in
    let found = subst (λ (cs : List Clause). AreHits cs es mid.count (state_of mid mid_words) mid.count new.count later) clauses
    (subst (λ (l : List Event). AreHits second.conditions l mid.count (state_of mid mid_words) mid.count new.count later) events second.hits_are.hits_are) in
    record {
      events = es;
      are_events = first.are_events;
      conditions = conditions;
      are_conditions = first.are_conditions;
      hits_are = hits-append conditions es old.count s old.count mid.count new.count hits later first.hits_are.inside.0 second.hits_are.inside.0 first.hits_are.hits_are
          (hits-from conditions es old.count mid.count s (state_of mid mid_words) mid.count new.count later first.hits_are.inside.0 (omega arith) first.state_is found);
    }
