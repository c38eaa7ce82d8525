-- What a command does to the store: nothing, a call, or a step of a machine.
use Rattle.std.proofs.Common.{◌≡◌, ℕ, false, List, [], ◌∷◌, sym, ap, subst}
use Rattle.object_store.specs.Stores.{StoreState, store_memory}
use Rattle.machine.specs.declared.state.Stepped.{Stepped}
use Rattle.machine.specs.MachineState.{MachineState}
use Rattle.machine.specs.TableStep.{TableStep}
use Rattle.world.specs.declared.replies.Reply.{Reply}
use Rattle.world.specs.Run.{Runs}
use Rattle.world.specs.declared.events.Event.{Event}
use Rattle.world.specs.WorldState.{WorldState}
use Rattle.world.specs.Answers.{Answers}
use Rattle.world_laws.proofs.StoreCalls.{StoreCall, is_placing}
use Rattle.world_laws.proofs.Sorts.{Sort, Stays, Stores, Ships, Tunes, Pauses, Walks, sort_of}

pub data StoreChange (old : StoreState) (r : Reply) (new : StoreState) : Type 0 where
  Unchanged : is_placing r ≡ false → new ≡ old → StoreChange old r new
  Called : StoreCall old r new → StoreChange old r new
  Walked : (m : ℕ) (before after : MachineState) (a : Stepped) → is_placing r ≡ false
      → TableStep (store_memory m) before old a after new → StoreChange old r new

abbrev store : WorldState → StoreState
store w = w.store

by_sort : (old new : WorldState) (c : Event) (r : Reply) → Sort old c r new → StoreChange old.store r new.store
by_sort old new c r (Stays q n e) = Unchanged q (ap store e)
by_sort old new c r (Stores k s e) = Called s
by_sort old new c r (Ships d k q n a e) = Unchanged q (ap store e)
by_sort old new c r (Tunes m k q s e) = Unchanged q (ap store e)
by_sort old new c r (Pauses m k q s e) = Unchanged q (ap store e)
by_sort old new c r (Walks m way k q h) = Walked m h.debuggee.machine h.machine h.answer q h.step

pub store_changes : (old new : WorldState) (c : Event) (r : Reply) → Answers old c r new → StoreChange old.store r new.store
store_changes old new c r h = by_sort old new c r (sort_of old new c r h)

-- ---- runs

-- what each command keeps, a run keeps
pub run_keeps : (Holds : WorldState → Type 0) → ((old new : WorldState) (c : Event) (r : Reply) → Holds old → Answers old c r new → Holds new)
    → (old new : WorldState) (cs : List Event) (rs : List Reply) → Holds old → Runs Answers old cs rs new → Holds new
run_keeps Holds f old new [] [] o h = subst Holds (sym h) o
run_keeps Holds f old new (c ∷ cs) (r ∷ rs) o h = run_keeps Holds f h.0 new cs rs (f old h.0 c r o h.1) h.2
run_keeps Holds f old new [] (r ∷ rs) o h = absurd h
run_keeps Holds f old new (c ∷ cs) [] o h = absurd h
