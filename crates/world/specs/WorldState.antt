-- The machines that were shipped, each with its debug state, and the store of the objects that were made.
use Rattle.std.specs.Prelude.{◌≤◌, ℕ, zero, suc, ◌-◌, List, [], ◌∷◌, length, slice_get, slice_set, Option, None}
use Rattle.object_store.specs.Stores.{StoreState, StoreWithin, store_start, unsent}
use Rattle.scopes.specs.Windows.{machine_limit}
use Rattle.debugger.specs.declared.debuggee.Debuggee.{Debuggee}

-- the machines that were shipped, each with its debug state, and the store of the objects that were made
pub record WorldState : Type 0 where
  -- in the order in which they were shipped
  pub machines : List Debuggee
  pub store : StoreState

-- A world, as those see it who look at its far store too.
pub record WorldWithin (X : Type 0) : Type 0 where
  pub machines : List Debuggee
  pub store : StoreWithin X

-- what is left of it for those who don't
abbrev pub state_of : {X : Type 0} → WorldWithin X → WorldState
state_of w = record { machines = w.machines; store = w.store.state }

-- with this budget, over a far store that had so many faults
abbrev pub world_start : ℕ → ℕ → WorldState
world_start budget faults = record { machines = []; store = store_start budget faults }

-- the same with the far store beside it, which has nothing of this world
abbrev pub opened_world : {X : Type 0} → ℕ → ℕ → X → WorldWithin X
opened_world budget faults far = record { machines = []; store = record { state = store_start budget faults; far = far; sent = unsent ∷ [] } }

-- ---- machines

-- as many machines were shipped as there may be
abbrev pub AreAllShipped : List Debuggee → Type 0
AreAllShipped machines = machine_limit ≤ length machines

-- Machines are numbered from 1, in the order in which they were shipped.
abbrev pub machine_at : List Debuggee → ℕ → Option Debuggee
machine_at machines zero = None
machine_at machines (suc n) = slice_get machines n

-- the machines, with this one as machine m
abbrev pub with_machine : List Debuggee → ℕ → Debuggee → List Debuggee
with_machine machines m d = slice_set machines (m - 1) d
