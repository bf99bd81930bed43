-- One more member of an object, and what was found of it.
use Rattle.std.proofs.Common.{◌≡◌, ◌∙◌, ◌&&◌, ◌==◌, ℕ, List, [], ◌∷◌, ◌++◌, Bool, true, false, cond, Option, Some, None, true≢false, Ordering, Less, Equal, Greater, is_eq, Vec, Global, nat_cmp, bytes_eq, codes, refl, sym, ap, ap₂, map, option_map, subst}
use Rattle.std.proofs.lemmas.List.{map-append}
use Rattle.std.proofs.lemmas.Map.Text.{is_eq-slice_cmp}
use Rattle.std.proofs.lemmas.Slice.Eq.{bytes_eq-Decides}
use Rattle.std.specs.Cmp.Lexicographic.{slice_cmp}
use Rattle.std.specs.Ordering.{match_ordering}
use Rattle.serde_json.proofs.Views.{get_member-put, get_member-put_other}
use Rattle.serde_json.specs.Data.{Data, Members, array, boolean, member, no_members, null, number, object, put, string}
use Rattle.serde_json.specs.Find.{as_object, as_str, get_member}
use Rattle.std.proofs.lemmas.Bool.{false_from_ne_true, ne_eqb}
use Rattle.std.proofs.lemmas.List.Elements.{All-map}
use Rattle.std.specs.List.{All, list_all}
use Rattle.std.specs.Prelude.{◌↔◌, ◌≢◌, not}
use Rattle.risc_devices.specs.declared.kinds.TheConstants.{DISK}
use Rattle.oberon_session.proofs.Deciding.{decides-unanswered}
use Rattle.oberon_session.proofs.Mapped.{unmapped}
use Rattle.oberon_session.specs.declared.draft.InputDraft.{InputDraft}
use Rattle.oberon_session.specs.inner.Drafts.{input_view}
use Rattle.oberon_session.specs.Draft.{Draft, InputNumbers, Members as MembersOf, PageText, Start, draft_of, input_of, inputs_of, known_inputs, page_names, page_of, pages_of, session_names, start_names, start_of, version_of}
use Rattle.oberon_session.specs.Shape.{◌>>=◌, are_among, each, is_among, items_of, number_of, numbers_of, text_of}
use Rattle.oberon_session.specs.inner.Found.{draft_found, names_format, page_found, page_in, session_found, start_found, start_in, start_object, with_item, with_page_member, with_session_member, with_start_member}

-- what a name has after one more member
get-put : (q k : List ℕ) (d : Data) (ms : Members) → get_member q (put k d ms) ≡ cond (bytes_eq k q) (Some d) (get_member q ms)
get-put q k d ms = go (bytes_eq k q) refl
  where
    apart : bytes_eq k q ≡ false → q ≡ k → ⊥
    apart is same =
        let yes : bytes_eq k q ≡ true = (bytes_eq-Decides k q).1 (sym same) in
        absurd (true≢false (sym yes ∙ is))

    go : (same : Bool) → bytes_eq k q ≡ same → get_member q (put k d ms) ≡ cond same (Some d) (get_member q ms)
    go true is = subst (λ name. get_member name (put k d ms) ≡ Some d) ((bytes_eq-Decides k q).0 is) (get_member-put k d ms)
    go false is = get_member-put_other q k d ms (apart is)

and-swap : (a b c : Bool) → (a && (b && c)) ≡ (b && (a && c))
and-swap true true c = refl
and-swap true false c = refl
and-swap false true c = refl
and-swap false false c = refl

and-twice : (a c : Bool) → (a && c) ≡ (a && (a && c))
and-twice true c = refl
and-twice false c = refl

pub among-put : (names : List (List ℕ)) (k : List ℕ) (d : Data) (ms : Members) → are_among names (put k d ms) ≡ (is_among names k && are_among names ms)
among-put names k d no_members = refl
among-put names k d (member l e ms) = go (slice_cmp nat_cmp k l) refl (among-put names k d ms)
  where
    go : (order : Ordering) → slice_cmp nat_cmp k l ≡ order → are_among names (put k d ms) ≡ (is_among names k && are_among names ms)
        → are_among names (match_ordering order (member k d (member l e ms)) (member l d ms) (member l e (put k d ms))) ≡ (is_among names k && are_among names (member l e ms))
    go Less is rest = refl
    go Equal is rest =
        let same : k ≡ l = (bytes_eq-Decides k l).0 (sym (is_eq-slice_cmp k l) ∙ ap is_eq is) in
        rw same (and-twice (is_among names l) (are_among names ms))
    go Greater is rest = ap (λ others. is_among names l && others) rest ∙ and-swap (is_among names l) (is_among names k) (are_among names ms)

named : (k name : List ℕ) → bytes_eq k name ≡ true → k ≡ name
named k name is = (bytes_eq-Decides k name).0 is

-- ---- a page

page-any : (k : List ℕ) (d : Data) (ms : Members) → page_found (put k d ms) ≡ record {
  at = cond (bytes_eq k (codes "at")) (Some d) (get_member (codes "at") ms) >>= number_of;
  hex = cond (bytes_eq k (codes "hex")) (Some d) (get_member (codes "hex") ms) >>= text_of;
  only = is_among page_names k && are_among page_names ms;
}
page-any k d ms = λ i. record {
  at = get-put (codes "at") k d ms i >>= number_of;
  hex = get-put (codes "hex") k d ms i >>= text_of;
  only = among-put page_names k d ms i;
}

pub page-put : (k : List ℕ) (d : Data) (ms : Members) → page_found (put k d ms) ≡ with_page_member k d (page_found ms)
page-put k d ms = go (bytes_eq k (codes "at")) (bytes_eq k (codes "hex")) refl refl
  where
    go : (at hex : Bool) → bytes_eq k (codes "at") ≡ at → bytes_eq k (codes "hex") ≡ hex → page_found (put k d ms) ≡ with_page_member k d (page_found ms)
    go true hex is1 is2 = rw (named k (codes "at") is1) (page-any (codes "at") d ms)
    go false true is1 is2 = rw (named k (codes "hex") is2) (page-any (codes "hex") d ms)
    go false false is1 is2 = page-any k d ms ∙ rw (is1, is2) refl

pub page-of : (ms : Members) → page_of (object ms) ≡ page_in (page_found ms)
page-of ms = go (are_among page_names ms) refl
  where
    go : (only : Bool) → are_among page_names ms ≡ only → page_of (object ms) ≡ page_in (page_found ms)
    go true is = rw is refl
    go false is = rw is refl

-- ---- the initial state

start-any : (k : List ℕ) (d : Data) (ms : Members) → start_found (put k d ms) ≡ record {
  registers = cond (bytes_eq k (codes "R")) (Some d) (get_member (codes "R") ms) >>= numbers_of;
  h = cond (bytes_eq k (codes "H")) (Some d) (get_member (codes "H") ms) >>= number_of;
  pc = cond (bytes_eq k (codes "PC")) (Some d) (get_member (codes "PC") ms) >>= number_of;
  flags = cond (bytes_eq k (codes "flags")) (Some d) (get_member (codes "flags") ms) >>= number_of;
  rate = cond (bytes_eq k (codes "rate")) (Some d) (get_member (codes "rate") ms) >>= number_of;
  phase = cond (bytes_eq k (codes "phase")) (Some d) (get_member (codes "phase") ms) >>= number_of;
  fits_version_1 = is_among (start_names 1) k && are_among (start_names 1) ms;
  disk = cond (bytes_eq k (codes "disk")) (Some d) (get_member (codes "disk") ms) >>= number_of;
  fits_version_2 = is_among (start_names 2) k && are_among (start_names 2) ms;
  fits_version_3 = is_among (start_names 3) k && are_among (start_names 3) ms;
}
start-any k d ms = λ i. record {
  registers = get-put (codes "R") k d ms i >>= numbers_of;
  h = get-put (codes "H") k d ms i >>= number_of;
  pc = get-put (codes "PC") k d ms i >>= number_of;
  flags = get-put (codes "flags") k d ms i >>= number_of;
  rate = get-put (codes "rate") k d ms i >>= number_of;
  phase = get-put (codes "phase") k d ms i >>= number_of;
  fits_version_1 = among-put (start_names 1) k d ms i;
  disk = get-put (codes "disk") k d ms i >>= number_of;
  fits_version_2 = among-put (start_names 2) k d ms i;
  fits_version_3 = among-put (start_names 3) k d ms i;
}

pub start-put : (k : List ℕ) (d : Data) (ms : Members) → start_found (put k d ms) ≡ with_start_member k d (start_found ms)
start-put k d ms = go (bytes_eq k (codes "R")) (bytes_eq k (codes "H")) (bytes_eq k (codes "PC")) (bytes_eq k (codes "flags")) (bytes_eq k (codes "rate")) (bytes_eq k (codes "phase")) (bytes_eq k (codes "disk")) refl refl refl refl refl refl refl
  where
    go : (a b c e f g h : Bool) → bytes_eq k (codes "R") ≡ a → bytes_eq k (codes "H") ≡ b → bytes_eq k (codes "PC") ≡ c → bytes_eq k (codes "flags") ≡ e
        → bytes_eq k (codes "rate") ≡ f → bytes_eq k (codes "phase") ≡ g → bytes_eq k (codes "disk") ≡ h → start_found (put k d ms) ≡ with_start_member k d (start_found ms)
    go true b c e f g h is1 is2 is3 is4 is5 is6 is7 = rw (named k (codes "R") is1) (start-any (codes "R") d ms)
    go false true c e f g h is1 is2 is3 is4 is5 is6 is7 = rw (named k (codes "H") is2) (start-any (codes "H") d ms)
    go false false true e f g h is1 is2 is3 is4 is5 is6 is7 = rw (named k (codes "PC") is3) (start-any (codes "PC") d ms)
    go false false false true f g h is1 is2 is3 is4 is5 is6 is7 = rw (named k (codes "flags") is4) (start-any (codes "flags") d ms)
    go false false false false true g h is1 is2 is3 is4 is5 is6 is7 = rw (named k (codes "rate") is5) (start-any (codes "rate") d ms)
    go false false false false false true h is1 is2 is3 is4 is5 is6 is7 = rw (named k (codes "phase") is6) (start-any (codes "phase") d ms)
    go false false false false false false true is1 is2 is3 is4 is5 is6 is7 = rw (named k (codes "disk") is7) (start-any (codes "disk") d ms)
    go false false false false false false false is1 is2 is3 is4 is5 is6 is7 = start-any k d ms ∙ rw (is1, is2, is3, is4, is5, is6, is7) refl

start-of : (version : ℕ) (ms : Members) → start_of version (object ms) ≡ start_in version (start_found ms)
start-of version ms =
    go (version == 1) (version == 3) (are_among (start_names 1) ms) (are_among (start_names 2) ms) (are_among (start_names 3) ms) refl refl refl refl refl
  where
    go : (one three : Bool) (fits_version_1 fits_version_2 fits_version_3 : Bool) → (version == 1) ≡ one → (version == 3) ≡ three
        → are_among (start_names 1) ms ≡ fits_version_1 → are_among (start_names 2) ms ≡ fits_version_2 → are_among (start_names 3) ms ≡ fits_version_3
        → start_of version (object ms) ≡ start_in version (start_found ms)
    go true three true b c is third is1 is2 is3 = rw (is, is1) refl
    go true three false b c is third is1 is2 is3 = rw (is, is1) refl
    go false true a b true is third is1 is2 is3 = rw (is, third, is3) refl
    go false true a b false is third is1 is2 is3 = rw (is, third, is3) refl
    go false false a true c is third is1 is2 is3 = rw (is, third, is2) refl
    go false false a false c is third is1 is2 is3 = rw (is, third, is2) refl

start-of-value : (version : ℕ) (json : Data) → start_of version json ≡ (start_object json >>= start_in version)
start-of-value version null = refl
start-of-value version (boolean b) = refl
start-of-value version (number n) = refl
start-of-value version (string s) = refl
start-of-value version (array items) = refl
start-of-value version (object ms) = start-of version ms

-- ---- a session

session-any : (k : List ℕ) (d : Data) (ms : Members) → session_found (put k d ms) ≡ record {
  named = names_format (cond (bytes_eq k (codes "format")) (Some d) (get_member (codes "format") ms));
  version = cond (bytes_eq k (codes "version")) (Some d) (get_member (codes "version") ms) >>= version_of;
  start = cond (bytes_eq k (codes "start")) (Some d) (get_member (codes "start") ms) >>= start_object;
  pages = cond (bytes_eq k (codes "pages")) (Some d) (get_member (codes "pages") ms) >>= pages_of;
  inputs = cond (bytes_eq k (codes "inputs")) (Some d) (get_member (codes "inputs") ms) >>= inputs_of;
  checkpoints = cond (bytes_eq k (codes "checkpoints")) (Some d) (get_member (codes "checkpoints") ms) >>= numbers_of;
  only = is_among session_names k && are_among session_names ms;
}
session-any k d ms = λ i. record {
  named = names_format (get-put (codes "format") k d ms i);
  version = get-put (codes "version") k d ms i >>= version_of;
  start = get-put (codes "start") k d ms i >>= start_object;
  pages = get-put (codes "pages") k d ms i >>= pages_of;
  inputs = get-put (codes "inputs") k d ms i >>= inputs_of;
  checkpoints = get-put (codes "checkpoints") k d ms i >>= numbers_of;
  only = among-put session_names k d ms i;
}

pub session-put : (k : List ℕ) (d : Data) (ms : Members) → session_found (put k d ms) ≡ with_session_member k d (session_found ms)
session-put k d ms =
    go (bytes_eq k (codes "format")) (bytes_eq k (codes "version")) (bytes_eq k (codes "start")) (bytes_eq k (codes "pages")) (bytes_eq k (codes "inputs")) (bytes_eq k (codes "checkpoints")) refl refl refl refl refl refl
  where
    go : (a b c e f g : Bool) → bytes_eq k (codes "format") ≡ a → bytes_eq k (codes "version") ≡ b → bytes_eq k (codes "start") ≡ c → bytes_eq k (codes "pages") ≡ e
        → bytes_eq k (codes "inputs") ≡ f → bytes_eq k (codes "checkpoints") ≡ g → session_found (put k d ms) ≡ with_session_member k d (session_found ms)
    go true b c e f g is1 is2 is3 is4 is5 is6 = rw (named k (codes "format") is1) (session-any (codes "format") d ms)
    go false true c e f g is1 is2 is3 is4 is5 is6 = rw (named k (codes "version") is2) (session-any (codes "version") d ms)
    go false false true e f g is1 is2 is3 is4 is5 is6 = rw (named k (codes "start") is3) (session-any (codes "start") d ms)
    go false false false true f g is1 is2 is3 is4 is5 is6 = rw (named k (codes "pages") is4) (session-any (codes "pages") d ms)
    go false false false false true g is1 is2 is3 is4 is5 is6 = rw (named k (codes "inputs") is5) (session-any (codes "inputs") d ms)
    go false false false false false true is1 is2 is3 is4 is5 is6 = rw (named k (codes "checkpoints") is6) (session-any (codes "checkpoints") d ms)
    go false false false false false false is1 is2 is3 is4 is5 is6 = session-any k d ms ∙ rw (is1, is2, is3, is4, is5, is6) refl

-- the draft of these four members
drafted : ℕ → Option Start → Option (List PageText) → Option (List InputNumbers) → Option (List ℕ) → Option Draft
drafted version a b c d = do
  start ← a
  pages ← b
  inputs ← c
  checkpoints ← d
  Some (record { version = version; start = start; pages = pages; inputs = inputs; checkpoints = checkpoints })

no-pages : (version : ℕ) (a : Option Start) (c : Option (List InputNumbers)) (d : Option (List ℕ)) → None ≡ drafted version a None c d
unfolding drafted
no-pages version None c d = refl
no-pages version (Some x) c d = refl

no-inputs : (version : ℕ) (a : Option Start) (b : Option (List PageText)) (d : Option (List ℕ)) → None ≡ drafted version a b None d
unfolding drafted
no-inputs version None b d = refl
no-inputs version (Some x) None d = refl
no-inputs version (Some x) (Some y) d = refl

no-checkpoints : (version : ℕ) (a : Option Start) (b : Option (List PageText)) (c : Option (List InputNumbers)) → None ≡ drafted version a b c None
unfolding drafted
no-checkpoints version None b c = refl
no-checkpoints version (Some x) None c = refl
no-checkpoints version (Some x) (Some y) None = refl
no-checkpoints version (Some x) (Some y) (Some z) = refl

bind-assoc : {A B C : Type 0} (o : Option A) (f : A → Option B) (g : B → Option C) → ((o >>= f) >>= g) ≡ (o >>= λ x. f x >>= g)
bind-assoc None f g = refl
bind-assoc (Some x) f g = refl

-- four members as they are, and their draft
members-of-four : ℕ → Option Data → Option Data → Option Data → Option Data → Option MembersOf
members-of-four version a b c d = do
  start ← a
  pages ← b
  inputs ← c
  checkpoints ← d
  Some (record { version = version; start = start; pages = pages; inputs = inputs; checkpoints = checkpoints })

draft-of-four : ℕ → Option Data → Option Data → Option Data → Option Data → Option Draft
draft-of-four version a b c d = do
  members ← members-of-four version a b c d
  start ← start_of members.version members.start
  pages ← pages_of members.pages
  inputs ← inputs_of members.inputs >>= known_inputs members.version
  checkpoints ← numbers_of members.checkpoints
  Some (record { version = members.version; start = start; pages = pages; inputs = inputs; checkpoints = checkpoints })

four : (version : ℕ) (a b c d : Option Data)
    → draft-of-four version a b c d ≡ drafted version (a >>= start_of version) (b >>= pages_of) ((c >>= inputs_of) >>= known_inputs version) (d >>= numbers_of)
unfolding members-of-four draft-of-four drafted
four version None b c d = refl
four version (Some x) None c d = no-pages version (start_of version x) ((c >>= inputs_of) >>= known_inputs version) (d >>= numbers_of)
four version (Some x) (Some y) None d = no-inputs version (start_of version x) (pages_of y) (d >>= numbers_of)
four version (Some x) (Some y) (Some z) None = no-checkpoints version (start_of version x) (pages_of y) (inputs_of z >>= known_inputs version)
four version (Some x) (Some y) (Some z) (Some w) = refl

start-of-member : (version : ℕ) (a : Option Data) → (a >>= start_of version) ≡ ((a >>= start_object) >>= start_in version)
start-of-member version None = refl
start-of-member version (Some json) = start-of-value version json

draft-of-parts : (version : ℕ) (a b c d : Option Data) → draft-of-four version a b c d ≡ do
  members ← a >>= start_object
  start ← start_in version members
  pages ← b >>= pages_of
  inputs ← (c >>= inputs_of) >>= known_inputs version
  checkpoints ← d >>= numbers_of
  Some (record { version = version; start = start; pages = pages; inputs = inputs; checkpoints = checkpoints })
unfolding drafted
draft-of-parts version a b c d =
    four version a b c d
    ∙ ap (λ s. drafted version s (b >>= pages_of) ((c >>= inputs_of) >>= known_inputs version) (d >>= numbers_of)) (start-of-member version a)
    ∙ bind-assoc (a >>= start_object) (start_in version) _

module _ (ms : Members) where
  by-version : are_among session_names ms ≡ true → (format : Data) → get_member (codes "format") ms ≡ Some format → (t : List ℕ) → as_str format ≡ Some t
      → bytes_eq t (codes "oberon-session") ≡ true → (version : Option ℕ) → get_member (codes "version") ms >>= version_of ≡ version → draft_of (object ms) ≡ draft_found (session_found ms)
  unfolding members-of-four draft-of-four
  by-version is format f t text right None v = rw (is, f, text, right, v) refl
  by-version is format f t text right (Some version) v =
      rw (is, f, text, right, v) (draft-of-parts version (get_member (codes "start") ms) (get_member (codes "pages") ms) (get_member (codes "inputs") ms) (get_member (codes "checkpoints") ms))

  by-format : are_among session_names ms ≡ true → (format : Data) → get_member (codes "format") ms ≡ Some format → (t : List ℕ) → as_str format ≡ Some t
      → (right : Bool) → bytes_eq t (codes "oberon-session") ≡ right → draft_of (object ms) ≡ draft_found (session_found ms)
  by-format is format f t text false wrong = rw (is, f, text, wrong) refl
  by-format is format f t text true right = by-version is format f t text right (get_member (codes "version") ms >>= version_of) refl

  by-text : are_among session_names ms ≡ true → (format : Data) → get_member (codes "format") ms ≡ Some format → (o : Option (List ℕ)) → as_str format ≡ o → draft_of (object ms) ≡ draft_found (session_found ms)
  by-text is format f None text = rw (is, f, text) refl
  by-text is format f (Some t) text = by-format is format f t text (bytes_eq t (codes "oberon-session")) refl

  by-member : are_among session_names ms ≡ true → (o : Option Data) → get_member (codes "format") ms ≡ o → draft_of (object ms) ≡ draft_found (session_found ms)
  by-member is None f = rw (is, f) refl
  by-member is (Some format) f = by-text is format f (as_str format) refl

  by-names : (only : Bool) → are_among session_names ms ≡ only → draft_of (object ms) ≡ draft_found (session_found ms)
  by-names false is = rw is refl
  by-names true is = by-member is (get_member (codes "format") ms) refl

  pub draft-of : draft_of (object ms) ≡ draft_found (session_found ms)
  draft-of = by-names (are_among session_names ms) refl

-- ---- a list that grows

pub each-more : {A X : Type 0} (read : A → Option X) (xs : List A) (x : A) → each read (xs ++ x ∷ []) ≡ with_item (each read xs) (read x)
each-more {X = X} read [] x = go (read x)
  where
    go : (o : Option X) → (o >>= λ first. Some (first ∷ [])) ≡ with_item (Some []) o
    go None = refl
    go (Some y) = refl
each-more {X = X} read (a ∷ xs) x = go (read a) (each read xs) (read x) (each-more read xs x)
  where
    go : (first : Option X) (rest : Option (List X)) (last : Option X) → each read (xs ++ x ∷ []) ≡ with_item rest last
        → (first >>= λ y. each read (xs ++ x ∷ []) >>= λ ys. Some (y ∷ ys)) ≡ with_item (first >>= λ y. rest >>= λ ys. Some (y ∷ ys)) last
    go None rest last is = refl
    go (Some y) None last is = rw is refl
    go (Some y) (Some ys) None is = rw is refl
    go (Some y) (Some ys) (Some z) is = rw is refl

-- the same of the items under a view
pub with_item-map : {A B : Type 0} (view : A → B) (all found : Option (Vec A Global)) (item : Option A) → option_map (λ v. v.items) all ≡ with_item (option_map (λ v. v.items) found) item
    → option_map (λ v. map view v.items) all ≡ with_item (option_map (λ v. map view v.items) found) (option_map view item)
with_item-map {A = A} {B = B} view all found item is = over all ∙ ap (option_map (map view)) is ∙ inside found item
  where
    over : (o : Option (Vec A Global)) → option_map (λ v. map view v.items) o ≡ option_map (map view) (option_map (λ v. v.items) o)
    over None = refl
    over (Some v) = refl

    inside : (o : Option (Vec A Global)) (x : Option A) → option_map (map view) (with_item (option_map (λ v. v.items) o) x) ≡ with_item (option_map (λ v. map view v.items) o) (option_map view x)
    inside None x = refl
    inside (Some v) None = refl
    inside (Some v) (Some y) = ap Some (map-append view v.items (y ∷ []))

-- one more item of the list, and of what is read
pub one-more-read : {A X : Type 0} (read : A → Option X) (taken : List A) (d : A) (all found : Option (List X)) (item : Option X) → all ≡ with_item found item → found ≡ each read taken → item ≡ read d
    → all ≡ each read (taken ++ d ∷ [])
one-more-read read taken d all found item is before last = is ∙ ap₂ with_item before last ∙ sym (each-more read taken d)

-- ---- inputs of the kinds that a version has

module _ (version : ℕ) (drafts : List InputDraft) where
  inputs-known : All (λ (input : InputDraft). ¬ (input.kind ≡ DISK)) drafts ↔ (list_all (λ (input : InputNumbers). not (input.kind == DISK)) (map input_view drafts) ≡ true)
  inputs-known =
      let decided = decides-unanswered (map input_view drafts) in (
        λ none. decided.1 (All-map (λ (input : InputNumbers). ¬ (input.kind ≡ DISK)) input_view drafts none),
        λ test. unmapped input_view (λ (input : InputNumbers). ¬ (input.kind ≡ DISK)) drafts (decided.0 test),
      )

  pub known-third : version ≡ 3 → Some (map input_view drafts) ≡ known_inputs version (map input_view drafts)
  known-third third = rw third refl

  pub known-unanswered : version ≢ 3 → All (λ (input : InputDraft). ¬ (input.kind ≡ DISK)) drafts → Some (map input_view drafts) ≡ known_inputs version (map input_view drafts)
  known-unanswered other none = rw (ne_eqb version 3 other, inputs-known.0 none) refl

  pub unknown : version ≢ 3 → ¬ (All (λ (input : InputDraft). ¬ (input.kind ≡ DISK)) drafts) → None ≡ known_inputs version (map input_view drafts)
  unknown other some = rw (ne_eqb version 3 other, false_from_ne_true _ (λ test. some (inputs-known.1 test))) refl

-- ---- values of another kind

module _ (json : Data) (none : None ≡ items_of json) where
  pub no-numbers : None ≡ numbers_of json
  no-numbers = rw (← none) refl

  pub no-pages-of : None ≡ pages_of json
  no-pages-of = rw (← none) refl

  pub no-inputs-of : None ≡ inputs_of json
  no-inputs-of = rw (← none) refl

  pub no-input : None ≡ input_of json
  no-input = rw (← none) refl

module _ (json : Data) (none : None ≡ as_object json) where
  pub no-page : None ≡ page_of json
  no-page = rw (← none) refl

  pub no-start : None ≡ start_object json
  no-start = rw (← none) refl

  pub no-draft : None ≡ draft_of json
  no-draft = rw (← none) refl
