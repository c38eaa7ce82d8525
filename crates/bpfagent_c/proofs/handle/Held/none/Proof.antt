-- `none` makes a null pointer.
use Rattle.std.proofs.Common.{◌≡◌, [], ◌∷◌, refl, true, false}
use mir.Val.{Val}
use base.Logic.{SProp, emp}
use base.Fml.{ftrue}
use types.Kit.{‵, raw, ◌⊛◌, ◌$◌, ◌∵◌, !, qed, by, drop, use0, keep}
use types.Run.{lit, no_more, and_then, returns, enter}
use types.ByLocal.{alloc_all, pass_all, free_all, look_at, sets}
use types.Part.{agg}
use contract.Monad.{fact, fact_i}
use contract.Running.{tables}
use denote.RawPtr.{null_ptr}
use denote.Steps.{nothing}
use denote.Triple.Walked.{walk_of}
use Rattle.std.proofs.raw_atomic.Walks.{proved_at, leaves}
use Rattle.library_store.specs.Calls.{LibraryState}
use Rattle.world.specs.WorldState.{WorldWithin, opened_world}
use Rattle.bpfagent_c.proofs.HeldValues.{word, held_good, held_in}
use Rattle.bpfagent_c.specs.contracts.handle.Held.none as f
use Rattle.bpfagent_c.proofs.handle.Held.none.Statement.{statement}
use Rattle.bpfagent_c.proofs.handle.Held.none.Code as code

-- any state will do, since nothing is owned
nothing_there : WorldWithin LibraryState
nothing_there = opened_world 0 0 (record { keeps = true; faults = 0 })

pub none_spec : {M : Type 1} → statement M
none_spec 𝓤 𝓛 𝓜 𝓡 wired =
    let En = f.ended in let c = f.clauses 𝓛 𝓜.mem 𝓡.returns in let 𝓣 = tables 𝓤 𝓛.H 𝓜 𝓡 𝓡.env in
    proved_at 𝓛 En tt c 𝓜 𝓡 tt f.Key.name code.function (code.unfolded 𝓤 𝓛.H 𝓜 𝓡 wired) (λ z are.
    let Post : Val → SProp 𝓤 = (walk_of 𝓛 En tt c).post z in
    qed 𝓛 ((‵ ftrue ⊛ ‵ ftrue) ∷ raw ((c z.0.0 z.0.3).requires z.1) ∷ []) ∵ drop ! $ drop ! $
    enter ! 𝓣.C 𝓣.Λ code.function [] Post $ alloc_all ! (λ l. pass_all ! refl tt $
    sets ! (agg ! (and_then ! (lit ! tt) (no_more !))) refl (held_good null_ptr) $
    nothing ! $ held_in ! null_ptr false nothing_there $
    use0 𝓛 (raw (fact 𝓤 (false ≡ false))) (fact_i 𝓤 (false ≡ false) (emp 𝓤) refl) $ nothing ! $ nothing ! $
    returns ! (look_at ! 0 refl) $ free_all ! refl $ keep ! (0 ∷ 1 ∷ 3 ∷ 2 ∷ []) $
    by ! (leaves 𝓛 En tt c z (word null_ptr) (record { at = null_ptr; live = false; state = nothing_there }) tt tt)))
