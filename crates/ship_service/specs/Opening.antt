-- A world is opened for many connections: its objects become a table, which its machines and the connections share.
use Rattle.std.specs.Prelude.{◌≡◌, ℕ, ◌+◌, Bool, true, List, [], ◌∷◌, length, map, replicate, None}
use Rattle.atomic_table.specs.Seated.{TableId}
use Rattle.object_store.specs.Parts.{bodies_of}
pub use Rattle.scopes.specs.Windows.{machine_limit}
use Rattle.shared_objects.specs.declared.seats.ActorSeat.{ActorSeat}
use Rattle.shared_objects.specs.declared.table.SharedTable.{SharedTable}
use Rattle.shared_objects.specs.declared.view.Whereabouts.TheVariants.{Here}
use Rattle.shared_objects.specs.declared.view.View.{View}
use Rattle.machine.specs.MachineState.{MachineState}
use Rattle.debugger.specs.declared.debuggee.Debuggee.{Debuggee}
use Rattle.workers.specs.Cells.{IsTableOf}
use Rattle.workers.specs.TableNames.{Passage, each_passed}
use Rattle.workers.specs.Moves.{MoverState}
use Rattle.workers.specs.Pools.{machines_of}
use Rattle.world.specs.WorldState.{WorldState}

-- ---- limits

-- how many connections there are
abbrev pub connection_limit : ℕ
connection_limit = 8

-- How many actors have seats: the machines, whose seats are those of the numbers 1 to 48, and then the connections.
abbrev pub seat_count : ℕ
seat_count = machine_limit + connection_limit

-- ---- a world that is opened

-- With which bytes the table of a world is opened: those of each number, none where an object was freed; and where no object
-- was ever made, one body without bytes, at number 1.
abbrev pub opened_bytes : WorldState → List (List ℕ)
opened_bytes w = [] ∷ bodies_of w.store.objects

-- ---- seats

-- What the seat of this actor knows as it is made: the bytes with which the table was opened, and whether the far store returns
-- what was put. It has done nothing, found nothing away, taken or worn, has no scope open and holds no turn. Only the mover's seat
-- makes others, takes others in, sends objects away and cools.
abbrev pub first_view : Bool → List (List ℕ) → ℕ → View
first_view returns opening actor = record {
  actor = actor;
  live = true;
  opening = opening;
  returns = returns;
  entries = [];
  marks = [];
  scopes = [];
  passing = [];
  turn = None;
  made = 0;
  alive = 0;
  gathered = [];
  out = [];
  coolings = [];
}

-- The seat of this actor, as the table of this name made it: no stamp was seen.
pub record IsFreshSeat (table : TableId) (returns : Bool) (opening : List (List ℕ)) (actor : ℕ) (seat : ActorSeat) : Type 0 where
  pub table_is : seat.seat.table_id ≡ table
  pub view_is : seat.seat.me.0 ≡ first_view returns opening actor
  pub stamp_is : seat.stamp ≡ 0

-- The seats of the actors from this number on, in order, as that table made them.
abbrev pub AreFreshSeats : TableId → Bool → List (List ℕ) → ℕ → List ActorSeat → Type 0
AreFreshSeats table returns opening actor [] = Unit {0}
AreFreshSeats table returns opening actor (seat ∷ seats) = IsFreshSeat table returns opening actor seat × AreFreshSeats table returns opening (actor + 1) seats

-- ---- an agent that is opened

-- The name is that of what was opened: its table with the bytes with which it was opened, its machines as they are, and as many
-- seats as it has. Which cells are lent with machines is left open to all who serve.
abbrev pub IsNamed : TableId → List (List ℕ) → List MachineState → ℕ → (Passage → Bool) → SharedTable → List Debuggee → Type 0
IsNamed table opening starts seats passed shared machines = IsTableOf table opening shared × (starts ≡ machines_of machines)
    × (seats ≡ seat_count) × (passed ≡ each_passed)

-- What the mover's seat knows as it begins, which is the first one: it made all others and took none of them in, and all objects are
-- here.
abbrev pub first_mover_view : Bool → List (List ℕ) → View
first_mover_view returns opening = record (first_view returns opening 0) { made = 1 + seat_count; alive = 1 + seat_count; out = map (λ _. Here) opening }

-- the mover as it begins, over this far store: it keeps no parcel, and has looked at no object
abbrev pub first_mover : {X : Type 0} → Bool → List (List ℕ) → X → MoverState X
first_mover returns opening store = record { view = first_mover_view returns opening; store = store; parcels = replicate (length opening) None; last = 0 }
