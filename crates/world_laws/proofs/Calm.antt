-- Machines that are stopped are calm.
use Rattle.std.proofs.Common.{◌≡◌, ◌≢◌, ℕ, zero, suc, nat_eq, Bool, true, false, List, [], ◌∷◌, ◌++◌, Some, None, refl, sym, ap, ◌∙◌, subst, ◌⊎◌, inl, inr}
use Rattle.std.proofs.Common.{arith}
use Rattle.std.specs.Prelude.{slice_get}
use Rattle.std.proofs.lemmas.Bool.Decides.{nat_tests}
use Rattle.object_store.specs.Stores.{StoreState, store_memory, window_of}
use Rattle.machine.specs.declared.state.Stop.{Stop}
use Rattle.machine.specs.declared.state.Stepped.{Stepped}
use Rattle.machine.specs.declared.state.Stepped.TheVariants as stepped
use Rattle.debugger.specs.DebugState.{DebugState}
use Rattle.debugger.specs.Pausing.{debugged}
use Rattle.debugger.specs.declared.commands.Way.{Way}
use Rattle.debugger.specs.declared.debuggee.Debuggee.{Debuggee}
use Rattle.world.specs.declared.replies.Reply.{Reply}
use Rattle.world.specs.declared.events.Event.{Event}
use Rattle.world.specs.WorldState.{WorldState, world_start, machine_at, with_machine}
use Rattle.world_laws.specs.Stepping.{IsCalm, StoppedMachinesAreCalm}
use Rattle.world_laws.proofs.StoreCalls.{StoreCall, Grown, Filled, Placed}
use Rattle.world_laws.proofs.Sorts.{Sets, Sort, Stays, Stores, Ships, Tunes, Pauses, Walks, sort_of}
use Rattle.world_laws.proofs.Answered.{Steps}
use Rattle.world_laws.proofs.StoreChanges.{run_keeps}
use Rattle.world_laws.proofs.Machines.{not_zero, found_once, found_set, other_number}
use Rattle.world_laws.proofs.Stopping.{ends_stopped, other_window}

-- all that are stopped
abbrev AllCalm : WorldState → Type 0
AllCalm w = (m : ℕ) (d : Debuggee) (s : Stop) → machine_at w.machines m ≡ Some d → d.machine.stop ≡ Some s → IsCalm w m d

-- ---- changes of the store alone

abbrev windows : StoreState → List (List ℕ)
windows s = s.windows

calm_same : (old new : WorldState) → new.machines ≡ old.machines → new.store.windows ≡ old.store.windows → AllCalm old → AllCalm new
calm_same old new e f c m d s h t =
    let g = c m d s (sym (ap (λ (xs : List Debuggee). machine_at xs m) e) ∙ h) t in
    record { unpaused = g.unpaused; unscoped = ap (λ (ws : List (List ℕ)). window_of ws m) f ∙ g.unscoped }

call_windows : (old new : StoreState) (r : Reply) → StoreCall old r new → new.windows ≡ old.windows
call_windows old new r (Grown count room t e) = ap windows e
call_windows old new r (Filled n bytes faults q l z e) = ap windows e
call_windows old new r (Placed n a b faults m e) = ap windows e

-- ---- one machine changes

record IsSet (m k : ℕ) (e d : Debuggee) : Type 0 where
  number : k ≡ m
  same : d ≡ e

record IsOther (xs : List Debuggee) (m k : ℕ) (d : Debuggee) : Type 0 where
  number : k ≢ m
  found : machine_at xs k ≡ Some d

set_cases : (b : Bool) (xs : List Debuggee) (m k : ℕ) (x e d : Debuggee) → nat_eq k m ≡ b → machine_at xs m ≡ Some x
    → machine_at (with_machine xs m e) k ≡ Some d → IsSet m k e d ⊎ IsOther xs m k d
set_cases true xs m k x e d t f h =
    let same : k ≡ m = grind (arith, nat_tests) in
    inl (record {
      number = same;
      same = found_once (machine_at (with_machine xs m e) m) d e
          (subst (λ i. machine_at (with_machine xs m e) i ≡ Some d) same h) (found_set xs m x e f);
    })
set_cases false xs m k x e d t f h =
    let other : k ≢ m = grind (arith, nat_tests) in
    inr (record { number = other; found = sym (other_number xs m k e (not_zero xs m x f) other) ∙ h })

-- the one that is set is calm where it is stopped, and the others keep their windows
by_cases : (old new : WorldState) (m k : ℕ) (e d : Debuggee) (s : Stop) → ((t : Stop) → e.machine.stop ≡ Some t → IsCalm new m e)
    → ((j : ℕ) → j ≢ m → window_of new.store.windows j ≡ window_of old.store.windows j)
    → AllCalm old → d.machine.stop ≡ Some s → IsSet m k e d ⊎ IsOther old.machines m k d → IsCalm new k d
by_cases old new m k e d s f g c t (inl i) =
    let there = f s (subst (λ (x : Debuggee). x.machine.stop ≡ Some s) i.same t) in
    subst (λ (j : ℕ). IsCalm new j d) (sym i.number) (subst (λ (x : Debuggee). IsCalm new m x) (sym i.same) there)
by_cases old new m k e d s f g c t (inr i) =
    let there = c k d s i.found t in
    record { unpaused = there.unpaused; unscoped = g k i.number ∙ there.unscoped }

one_calm : (old new : WorldState) (m : ℕ) (x e : Debuggee) → machine_at old.machines m ≡ Some x → new.machines ≡ with_machine old.machines m e
    → ((t : Stop) → e.machine.stop ≡ Some t → IsCalm new m e)
    → ((j : ℕ) → j ≢ m → window_of new.store.windows j ≡ window_of old.store.windows j) → AllCalm old → AllCalm new
one_calm old new m x e found changed f g c k d s h t =
    by_cases old new m k e d s f g c t (set_cases (nat_eq k m) old.machines m k x e d refl found (sym (ap (λ (xs : List Debuggee). machine_at xs k) changed)
    ∙ h))

-- ---- steps

stopped_unpaused : (way : Way) (s : Stop) (d : DebugState) → (debugged way (stepped.Stopped s) d).paused ≡ false
stopped_unpaused way s d = refl

row_calm : (way : Way) (old new : WorldState) (m : ℕ) (r : Reply)
    → Steps (store_memory m) way old.machines old.store m r new.machines new.store → AllCalm old → AllCalm new
row_calm way old new m r h c =
    one_calm old new m h.debuggee (record { machine = h.machine; debugger = debugged way h.answer h.debuggee.debugger }) h.found h.changed
    (λ t e.
    let g = ends_stopped m h.debuggee.machine h.machine old.store new.store h.answer t h.step e (λ u f. (c m h.debuggee u h.found f).unscoped) in
    record {
      unpaused = ap (λ (a : Stepped). (debugged way a h.debuggee.debugger).paused) g.answer ∙ stopped_unpaused way g.stop h.debuggee.debugger;
      unscoped = g.window;
    })
    (λ j d. other_window m j h.debuggee.machine h.machine old.store new.store h.answer d h.step) c

-- ---- debug states

set_calm : (old new : WorldState) (m : ℕ) → Sets old.machines m new.machines → new ≡ record old { machines = new.machines } → AllCalm old → AllCalm new
set_calm old new m h e c =
    let store : new.store ≡ old.store = ap (λ (w : WorldState). w.store) e in
    one_calm old new m h.debuggee (record h.debuggee { debugger = h.debugger }) h.found h.changed
    (λ t f.
    let g = c m h.debuggee t h.found f in
    record { unpaused = h.calm t f g.unpaused; unscoped = ap (λ (x : StoreState). window_of x.windows m) store ∙ g.unscoped })
    (λ j d. ap (λ (x : StoreState). window_of x.windows j) store) c

-- ---- shipping

at_appended : (xs : List Debuggee) (n : ℕ) (x d : Debuggee) → slice_get (xs ++ x ∷ []) n ≡ Some d → (slice_get xs n ≡ Some d) ⊎ (d ≡ x)
at_appended [] zero x d h = let e : x ≡ d = cc in inr (sym e)
at_appended [] (suc n) x d h = absurd (cc)
at_appended (y ∷ ys) zero x d h = inl h
at_appended (y ∷ ys) (suc n) x d h = at_appended ys n x d h

found_appended : (xs : List Debuggee) (m : ℕ) (x d : Debuggee) → machine_at (xs ++ x ∷ []) m ≡ Some d → (machine_at xs m ≡ Some d) ⊎ (d ≡ x)
found_appended xs zero x d h = absurd (cc)
found_appended xs (suc n) x d h = at_appended xs n x d h

new_runs : {P : Type 0} (d x : Debuggee) (s : Stop) → d ≡ x → x.machine.stop ≡ None → d.machine.stop ≡ Some s → P
new_runs d x s e f g = let k = rw e at g in absurd (cc)

appended_calm : (old new : WorldState) (x : Debuggee) (m : ℕ) (d : Debuggee) (s : Stop) → x.machine.stop ≡ None → new.store.windows ≡ old.store.windows
    → AllCalm old → d.machine.stop ≡ Some s
    → (machine_at old.machines m ≡ Some d) ⊎ (d ≡ x) → IsCalm new m d
appended_calm old new x m d s n w c t (inl h) =
    let g = c m d s h t in
    record { unpaused = g.unpaused; unscoped = ap (λ (ws : List (List ℕ)). window_of ws m) w ∙ g.unscoped }
appended_calm old new x m d s n w c t (inr e) = new_runs d x s e n t

shipped_calm : (old new : WorldState) (x : Debuggee) → new.machines ≡ old.machines ++ x ∷ [] → x.machine.stop ≡ None
    → new ≡ record old { machines = new.machines } → AllCalm old → AllCalm new
shipped_calm old new x e n f c m d s h t = appended_calm old new x m d s n (ap (λ (w : WorldState). w.store.windows) f) c t
    (found_appended old.machines m x d (sym (ap (λ (xs : List Debuggee). machine_at xs m) e) ∙ h))

-- ---- a run

by_sort : (old new : WorldState) (c : Event) (r : Reply) → Sort old c r new → AllCalm old → AllCalm new
by_sort old new c r (Stays q n e) a = subst AllCalm (sym e) a
by_sort old new c r (Stores k s e) a = calm_same old new (ap (λ (w : WorldState). w.machines) e) (call_windows old.store new.store r s) a
by_sort old new c r (Ships d k q n g e) a = shipped_calm old new d g n e a
by_sort old new c r (Tunes m k q s e) a = set_calm old new m s e a
by_sort old new c r (Pauses m k q s e) a = set_calm old new m s e a
by_sort old new c r (Walks m way k q h) a = row_calm way old new m r h a

no_machine : {P : Type 0} (m : ℕ) (d : Debuggee) → machine_at [] m ≡ Some d → P
no_machine zero d e = absurd (cc)
no_machine (suc m) d e = absurd (cc)

pub stopped_machines_are_calm : StoppedMachinesAreCalm
stopped_machines_are_calm budget faults cs rs new h =
    run_keeps AllCalm (λ x y c r k g. by_sort x y c r (sort_of x y c r g) k) (world_start budget faults) new cs rs (λ m d s e t. no_machine m d e) h
