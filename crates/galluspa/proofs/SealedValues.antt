-- The machine values of a `Sealed`. Assumes `Logic`.
use Rattle.std.proofs.lemmas.Bool.{false≢true}
use Rattle.std.proofs.Common.{◌≡◌, ℕ, List, [], ◌∷◌, ◌++◌, refl, subst, lit<}
use seplogic.Ra.Ura.{Ura}
use mir.Raw.{raw as bare}
use mir.Val.{Val, vptr, vstruct, of_list, has_ty, WT}
use base.Logic.{never, fst∗, id⊢}
use base.Fml.{feq}
use types.Logic.{Logic, sem}
use types.Kit.{Item, Goal, Seq, Step, step, ‵, ◌$◌, move, drop, fsplit, fjoin, fpick, fpack, rewrite, feq_i, feq_l, use1}
use denote.RattleType.{RattleType, Valss}
use denote.Builtin.{RawPtr}
use denote.Memory.{lone}
use denote.RawPtr.{Ptr, block_ptr, null_ptr, ptr_val, in_a_block}
use denote.Steps.{nothing}
use denote.Param.{layout}
use denote.Struct.Struct.{within}
use denote.Struct.Owning.{shape}
use Rattle.core.proofs.alloc.Calls.{Al, handle_tells}
use Rattle.std_alloc.proofs.ResultValues.{and_tt}
use mathlib.Core.Bool.{true, ◌&&◌}
use lib.Dec.{T}
use mir.Syntax.{impl, tnil, dnil}
use Rattle.core.proofs.cell.Inside.{Good}
use Rattle.std.specs.Prelude.{Some, None, Option, IsSome}
use Rattle.std.specs.Box.Ownership.{box_owns}
use Rattle.std.specs.contracts.alloc.Global as heap
use Rattle.std.proofs.alloc.Global.TheLaws as heap_laws
use Rattle.std.specs.contracts.impls.GlobalAllocator.TheImpl as heap_impl
use Rattle.galluspa.specs.inner.Held.{held}
use Rattle.oberon_past.specs.contracts.past.Past as past
use Rattle.galluspa.specs.contracts.sealed.Sealed as sealed
use Rattle.galluspa.proofs.LooseValues.{both}

abbrev R : RattleType
R = past.the_row

abbrev Z : RattleType
Z = heap.the_row

pub some_of : {A : Type 0} (x : Option A) → IsSome x → (a : A) × (x ≡ Some a)
some_of None is = absurd (false≢true is)
some_of (Some a) is = (a, refl)

-- the allocator as a field
abbrev F : RattleType
F = (heap.the_field).row

abbrev pub al : Al
al = record { row = Z; laws = heap_laws.the_row_laws; g = heap_impl.ghosts; d = impl [] tnil dnil; drops = impl [] tnil dnil }

pub nothing_good : (h : Val) → Good (layout Z) h → T (has_ty (layout Z) h && true) × WT (both (ptr_val null_ptr) h)
nothing_good h fits = (and_tt (has_ty (layout Z) h) fits.0, (record { fits = lit< tt }, (fits.1, tt)))

module _ {M : Type 1} {𝓤 : Ura M} {𝓛 : Logic 𝓤} {K : Type 0} {Γ : List (Item 𝓤)} {G : Goal 𝓤 𝓛.H} where
  pub sealed_in : K → (b o : ℕ) (h : Val) (a : Z.Denot) (x : R.Denot)
      → Step K 𝓛 (‵ (sealed.the_row.own_val (record { at = block_ptr b o; alloc = a; past = Some x }) (both (vptr b o) h ∷ [])) ∷ Γ) G (‵ (box_owns (heap_impl.ghosts.dealloc_token a) R (block_ptr b o) x) ∷ ‵ (Z.own_val a (h ∷ [])) ∷ Γ) G
  unfolding held
  sealed_in t b o h a x = step (λ s. let v : Val = both (vptr b o) h in
      nothing t $ move t (2 ∷ 0 ∷ []) $ fjoin t $ feq_i t (List Val) (vptr b o ∷ []) (vptr b o ∷ []) refl $ fjoin t $ feq_i t (List Val) (v ∷ []) (v ∷ []) refl $ fjoin t $
      fpack t (Valss (RawPtr ∷ F ∷ [])) (within (shape sealed.the_type) (block_ptr b o, (((a.memory.seal, tt), tt), tt)) (v ∷ [])) (vptr b o ∷ [], (h ∷ [], tt)) $ fjoin t $ s)

  pub nothing_in : K → (h : Val) (a : Z.Denot)
      → Step K 𝓛 (‵ (sealed.the_row.own_val (record { at = null_ptr; alloc = a; past = None }) (both (ptr_val null_ptr) h ∷ [])) ∷ Γ) G (‵ (Z.own_val a (h ∷ [])) ∷ Γ) G
  unfolding held
  nothing_in t h a = step (λ s. let v : Val = both (ptr_val null_ptr) h in
      feq_i t Ptr null_ptr null_ptr refl $ nothing t $ move t (2 ∷ 0 ∷ []) $ fjoin t $ feq_i t (List Val) (ptr_val null_ptr ∷ []) (ptr_val null_ptr ∷ []) refl $ fjoin t $ feq_i t (List Val) (v ∷ []) (v ∷ []) refl $ fjoin t $
      fpack t (Valss (RawPtr ∷ F ∷ [])) (within (shape sealed.the_type) (null_ptr, (((a.memory.seal, tt), tt), tt)) (v ∷ [])) (ptr_val null_ptr ∷ [], (h ∷ [], tt)) $ fjoin t $ s)

  pub sealed_out : K → (d : sealed.the_row.Denot) (x : R.Denot) (vs : List Val) → d.past ≡ Some x
      → ((b o : ℕ) (h : Val) → vs ≡ both (vptr b o) h ∷ [] → Good (layout Z) h → Seq K 𝓛 (‵ (box_owns (heap_impl.ghosts.dealloc_token d.alloc) R (block_ptr b o) x) ∷ ‵ (Z.own_val d.alloc (h ∷ [])) ∷ Γ) G)
      → Seq K 𝓛 (‵ (sealed.the_row.own_val d vs) ∷ Γ) G
  unfolding held
  sealed_out t d x vs is k =
      fsplit t $ fpick t (λ vss. fsplit t $ feq_l t (λ ev. fsplit t $ feq_l t (λ ep. fsplit t $ use1 𝓛 (‵ (Z.own_val d.alloc vss.1.0)) (id⊢ 𝓤 _) $ handle_tells al t d.alloc vss.1.0 (λ h ea fits. move t (1 ∷ []) $ drop t $ move t (1 ∷ []) $
      rewrite t 0 (λ (q : Option R.Denot). ‵ (held R d.alloc d.at q)) is refl $ use1 𝓛 (‵ (box_owns (heap_impl.ghosts.dealloc_token d.alloc) R d.at x)) (id⊢ 𝓤 _) $
      in_a_block t d.at (λ p. box_owns (heap_impl.ghosts.dealloc_token d.alloc) R p x) (fst∗ 𝓤 (never 𝓤) (sem 𝓛 (heap_impl.ghosts.dealloc_token d.alloc (bare (lone R.mir)) null_ptr))) (λ b o e. k b o h
      (subst (λ (p : Ptr). vs ≡ vstruct (of_list (ptr_val p ∷ h ∷ [])) ∷ []) e
      (subst (λ (ws : List Val). vs ≡ vstruct (of_list (ptr_val d.at ∷ (ws ++ []))) ∷ []) ea (subst (λ (ps : List Val). vs ≡ vstruct (of_list (ps ++ (vss.1.0 ++ []))) ∷ []) ep ev))) fits)))))

  pub nothing_out : K → (d : sealed.the_row.Denot) (vs : List Val) → d.past ≡ None
      → ((h : Val) → vs ≡ both (ptr_val null_ptr) h ∷ [] → Good (layout Z) h → Seq K 𝓛 (‵ (Z.own_val d.alloc (h ∷ [])) ∷ Γ) G)
      → Seq K 𝓛 (‵ (sealed.the_row.own_val d vs) ∷ Γ) G
  unfolding held
  nothing_out t d vs is k =
      fsplit t $ fpick t (λ vss. fsplit t $ feq_l t (λ ev. fsplit t $ feq_l t (λ ep. fsplit t $ use1 𝓛 (‵ (Z.own_val d.alloc vss.1.0)) (id⊢ 𝓤 _) $ handle_tells al t d.alloc vss.1.0 (λ h ea fits. move t (1 ∷ []) $ drop t $ move t (1 ∷ []) $
      rewrite t 0 (λ (q : Option R.Denot). ‵ (held R d.alloc d.at q)) is refl $ use1 𝓛 (‵ (feq Ptr d.at null_ptr)) (id⊢ 𝓤 _) $ feq_l t (λ e. k h
      (subst (λ (p : Ptr). vs ≡ vstruct (of_list (ptr_val p ∷ h ∷ [])) ∷ []) e
      (subst (λ (ws : List Val). vs ≡ vstruct (of_list (ptr_val d.at ∷ (ws ++ []))) ∷ []) ea (subst (λ (ps : List Val). vs ≡ vstruct (of_list (ps ++ (vss.1.0 ++ []))) ∷ []) ep ev))) fits)))))
