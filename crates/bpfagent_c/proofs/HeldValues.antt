-- The machine value of a `Held`. Assumes `Logic`.
use Rattle.std.proofs.Common.{◌≡◌, ℕ, List, [], ◌∷◌, ◌++◌, refl, subst}
use mathlib.Core.Bool.{Bool}
use lib.Dec.{T, lit<}
use seplogic.Ra.Ura.{Ura}
use mir.Syntax.{ty_ptr}
use mir.Val.{Val, vptr, vunit, vstruct, vcons, vnil, of_list, has_ty, WT}
use base.Logic.{never, fst∗}
use mir.Raw.{raw as bare}
use types.Logic.{Logic, sem}
use types.Kit.{Item, Goal, Seq, Step, step, ‵, ◌$◌, move, drop, fsplit, fjoin, fpick, fpack, feq_i, feq_l}
use denote.RattleType.{RattleType, Valss}
use denote.Builtin.{RawPtr}
use denote.RawPtr.{Ptr, block_ptr, null_ptr, ptr_val, in_a_block}
use denote.Laws.{shows}
use denote.Memory.{lone}
use denote.Steps.{nothing, peeks}
use denote.Param.{layout}
use denote.Struct.Struct.{within}
use denote.Struct.Owning.{shape}
use Rattle.library_store.specs.Calls.{LibraryState}
use Rattle.world.specs.WorldState.{WorldWithin}
use Rattle.std.specs.contracts.alloc.Global as global
use Rattle.std.proofs.alloc.Global.TheLaws as global_laws
use Rattle.std.specs.contracts.impls.GlobalAllocator.TheImpl as heap
use Rattle.bpfagent_c.specs.Handle.{where_live, holds, the_heap, world_row}
use Rattle.bpfagent_c.specs.contracts.loose.Loose as loose
use Rattle.bpfagent_c.specs.contracts.handle.Held as held

abbrev pub Held : RattleType
Held = held.the_row

abbrev pub Heap : RattleType
Heap = global.the_row

-- a world behind its pointer
abbrev pub Loose : RattleType
Loose = loose.the_row world_row Heap heap.ghosts

abbrev pub both : Val → Val → Val
both v w = vstruct (vcons v (vcons w vnil))

abbrev pub heap_word : Val
heap_word = vstruct (vcons (vstruct (vcons vunit vnil)) vnil)

pub heap_good : T (has_ty (layout Heap) heap_word) × WT heap_word
heap_good = (tt, ((tt, tt), tt))

pub loose_good : (b o : ℕ) → T (has_ty (layout Loose) (both (vptr b o) heap_word)) × WT (both (vptr b o) heap_word)
loose_good b o = (tt, (tt, (((tt, tt), tt), tt)))

abbrev pub word : Ptr → Val
word p = vstruct (vcons (ptr_val p) vnil)

pub held_good : (p : Ptr) → T (has_ty (layout Held) (word p)) × WT (word p)
held_good (block_ptr b o) = (tt, (tt, tt))
held_good null_ptr = (tt, (record { fits = lit< tt }, tt))

pub held_good_part : (p : Ptr) → T (has_ty ty_ptr (ptr_val p)) × WT (ptr_val p)
held_good_part (block_ptr b o) = (tt, tt)
held_good_part null_ptr = (tt, record { fits = lit< tt })

module _ {M : Type 1} {𝓤 : Ura M} {𝓛 : Logic 𝓤} {K : Type 0} {Γ : List (Item 𝓤)} {G : Goal 𝓤 𝓛.H} where
  pub held_out : K → (d : Held.Denot) (vs : List Val)
      → (vs ≡ word d.at ∷ [] → Seq K 𝓛 (‵ (where_live d.live (holds d.at d.state)) ∷ Γ) G)
      → Seq K 𝓛 (‵ (Held.own_val d vs) ∷ Γ) G
  held_out t d vs k = fsplit t $ fpick t (λ vss. fsplit t $ feq_l t (λ ev. fsplit t $ feq_l t (λ ep. drop t $
      k (subst (λ (ps : List Val). vs ≡ vstruct (of_list (ps ++ [])) ∷ []) ep ev))))

  pub held_in : K → (p : Ptr) (y : Bool) (x : WorldWithin LibraryState)
      → Step K 𝓛 (‵ (Held.own_val (record { at = p; live = y; state = x }) (word p ∷ [])) ∷ Γ) G (‵ (where_live y (holds p x)) ∷ Γ) G
  held_in t p y x = step (λ s. let v : Val = word p in
      nothing t $ feq_i t (List Val) (ptr_val p ∷ []) (ptr_val p ∷ []) refl $ fjoin t $ feq_i t (List Val) (v ∷ []) (v ∷ []) refl $ fjoin t $
      fpack t (Valss (RawPtr ∷ [])) (within (shape held.the_type) (p, tt) (v ∷ [])) (ptr_val p ∷ [], tt) $ fjoin t $ s)

  pub loose_out : K → (d : Loose.Denot) (vs : List Val)
      → ((b o : ℕ) → d.at ≡ block_ptr b o → vs ≡ both (vptr b o) heap_word ∷ [] → Seq K 𝓛 (‵ (holds (block_ptr b o) d.value) ∷ Γ) G)
      → Seq K 𝓛 (‵ (Loose.own_val d vs) ∷ Γ) G
  loose_out t d vs k =
      fsplit t $ fpick t (λ vss. fsplit t $ feq_l t (λ ev. fsplit t
      $ feq_l t (λ ep. fsplit t $ peeks t Heap _ (shows 𝓛 Heap) d.alloc vss.1.0 (λ is. drop t $ drop t $
      in_a_block t d.at (λ p. holds p d.value)
      (fst∗ 𝓤 (never 𝓤) (sem 𝓛 (heap.ghosts.dealloc_token the_heap (bare (lone world_row.mir)) null_ptr))) (λ b o e. k b o e
      (subst (λ (p : Ptr). vs ≡ vstruct (of_list (ptr_val p ∷ heap_word ∷ [])) ∷ []) e
      (subst (λ (ws : List Val). vs ≡ vstruct (of_list (ptr_val d.at ∷ (ws ++ [])))
      ∷ []) (global_laws.lowers.val_is d.alloc vss.1.0 is) (subst (λ (ps : List Val). vs ≡ vstruct (of_list (ps ++ (vss.1.0 ++ []))) ∷ []) ep ev))))))))

  pub loose_in : K → (b o : ℕ) (a : Heap.Denot) (x : WorldWithin LibraryState)
      → Step K 𝓛 (‵ (Loose.own_val (record { at = block_ptr b o; alloc = a; value = x }) (both (vptr b o) heap_word ∷ []))
      ∷ Γ) G (‵ (holds (block_ptr b o) x) ∷ ‵ (Heap.own_val a (heap_word ∷ [])) ∷ Γ) G
  loose_in t b o a x = step (λ s. let v : Val = both (vptr b o) heap_word in
      nothing t $ move t (2 ∷ 0 ∷ []) $ fjoin t $ feq_i t (List Val) (vptr b o ∷ []) (vptr b o ∷ []) refl $ fjoin t
      $ feq_i t (List Val) (v ∷ []) (v ∷ []) refl $ fjoin t $
      fpack t (Valss (RawPtr ∷ Heap ∷ [])) (within (shape (loose.the_type world_row Heap heap.ghosts)) (block_ptr b o, (a, tt)) (v ∷ [])) (
        vptr b o ∷ [],
        (heap_word ∷ [], tt),
      ) $ fjoin t $ s)
