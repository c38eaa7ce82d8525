-- `open` gives the pointer its type again.
use Rattle.std.proofs.Common.{◌≡◌, Bool, List, [], ◌∷◌, ◌++◌, refl, sym, ap, ◌∙◌, subst, true}
use mir.Val.{Val, vptr}
use mir.Raw.{raw as bare}
use base.Logic.{SProp, ent, emp, id⊢, never, fst∗}
use base.Fml.{ftrue}
use prog.Wp.{WpFn}
use types.Logic.{sem}
use types.Kit.{‵, raw, ◌⊛◌, ◌$◌, ◌∵◌, !, qed, by, move, split, fsplit, fjoin, suffices, use0, keep, rewrite}
use types.Run.{of_opd, no_more, and_then, returns, enter, fld, stop}
use types.ByLocal.{alloc_all, pass_all, free_all, look_at, sets, get, get_in}
use types.Part.{sub, whole, agg}
use contract.Monad.{fact, fact_i}
use contract.Running.{tables}
use denote.Exit.{yes}
use denote.Laws.{shows}
use denote.Memory.{lone}
use denote.RattleType.{owns}
use denote.RawPtr.{Ptr, block_ptr, null_ptr, in_a_block}
use denote.Signature.{types_at, plain}
use denote.Steps.{nothing, heard, peeks}
use denote.Triple.Walked.{Stays, stay_dropped, walk_of}
use Rattle.std.proofs.alloc.Calls.{Goes-blank}
use Rattle.std.proofs.raw_atomic.Walks.{proved_at, leaves}
use Rattle.std.proofs.alloc.Global.TheLaws as global_laws
use Rattle.std.specs.contracts.impls.GlobalAllocator.TheImpl as heap
use Rattle.bpfagent_c.specs.Handle.{where_live, holds, the_heap, world_row}
use Rattle.bpfagent_c.proofs.HeldValues.{Held, Heap, word, both, heap_word, heap_good, loose_good, held_good, held_out, loose_in}
use Rattle.bpfagent_c.specs.contracts.handle.Held.open as f
use Rattle.bpfagent_c.proofs.handle.Held.open.Statement.{statement}
use Rattle.bpfagent_c.proofs.handle.Held.open.Code as code

abbrev stayed : Stays f.ended.signature.params f.ended.kept
stayed = (stay_dropped (plain (λ _. Held)) yes, (stay_dropped (plain (λ _. Heap)) yes, tt))

pub open_spec : {M : Type 1} → statement M
open_spec 𝓤 𝓛 𝓜 𝓡 wired =
    let En = f.ended in let c = f.clauses 𝓛 𝓜.mem 𝓡.returns in let 𝓣 = tables 𝓤 𝓛.H 𝓜 𝓡 𝓡.env in
    proved_at 𝓛 En stayed c 𝓜 𝓡 (
      Goes-blank 𝓛 0 (plain (λ _. Held)) yes (λ κs x f. tt),
      (Goes-blank 𝓛 0 (plain (λ _. Heap)) yes (λ κs x f. tt), tt),
    ) f.Key.name code.function (code.unfolded 𝓤 𝓛.H 𝓜 𝓡 wired) (λ z are.
    let Post : Val → SProp 𝓤 = (walk_of 𝓛 En stayed c).post z in let Run : List Val → SProp 𝓤 = λ ws. WpFn 𝓤 𝓛.H 𝓣.C 𝓣.Λ code.function ws Post in
    let d = z.0.3.0 in let a = z.0.3.1.0 in
    qed 𝓛 ((‵ ftrue ⊛ ‵ (owns (types_at En.signature.params z.0.0) z.0.3 z.0.4)) ∷ raw (fact 𝓤 (d.live ≡ true)) ∷ []) ∵ split ! $ move ! (2 ∷ [])
    $ heard ! (d.live ≡ true) (λ live. move ! (1 ∷ []) $ fsplit ! $
    held_out ! d z.0.4.0 (λ ws. move ! (1 ∷ []) $ fsplit ! $ peeks ! Heap _ (shows 𝓛 Heap) a z.0.4.1.0 (λ is. keep ! (2 ∷ 0 ∷ []) $
    let wg = global_laws.lowers.val_is a z.0.4.1.0 is in
    rewrite ! 1 (λ (us : List Val). ‵ (Heap.own_val a us)) wg refl $ rewrite ! 0 (λ (y : Bool). ‵ (where_live y (holds d.at d.state))) live refl $
    in_a_block ! d.at (λ p. holds p d.state) (fst∗ 𝓤 (never 𝓤) (sem 𝓛 (heap.ghosts.dealloc_token the_heap (bare (lone world_row.mir)) null_ptr))) (λ b o e.
    let w : Val = word (block_ptr b o) in
    suffices ! (Run (w ∷ heap_word ∷ [])) (subst (λ (us : List Val). ent 𝓤 (Run (w ∷ heap_word ∷ [])) (Run us))
    (sym (λ i. (ws ∙ ap (λ (p : Ptr). word p ∷ []) e) i ++ (wg i ++ []))) (id⊢ 𝓤 (Run (w ∷ heap_word ∷ [])))) $
    enter ! 𝓣.C 𝓣.Λ code.function (w ∷ heap_word ∷ []) Post $ alloc_all ! (λ l. pass_all ! refl (held_good (block_ptr b o), (heap_good, tt)) $
    sets ! (of_opd ! (get_in ! (fld ! refl (stop !)) (sub ! 0 refl (whole !)))) refl (tt, tt) $
    sets ! (of_opd ! (get ! refl)) refl (tt, tt) $
    sets ! (agg ! (and_then ! (get ! refl) (and_then ! (get ! refl) (no_more !)))) refl (loose_good b o) $
    loose_in ! b o a d.state $
    use0 𝓛 (raw (fact 𝓤 (d.state ≡ d.state))) (fact_i 𝓤 (d.state ≡ d.state) (emp 𝓤) refl) $
    nothing ! $ nothing ! $ fjoin ! $ nothing ! $ fjoin ! $ nothing ! $
    returns ! (look_at ! 0 refl) $ free_all ! refl $ keep ! (0 ∷ 1 ∷ 3 ∷ 2 ∷ []) $
    by ! (leaves 𝓛 En stayed c z (both (vptr b o) heap_word) (record { at = block_ptr b o; alloc = a; value = d.state }) (tt, (tt, tt)) (tt, (tt, tt)))))))))
