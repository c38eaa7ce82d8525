-- What a pool is made of.
use Rattle.std.specs.Prelude.{◌≡◌, ℕ, ◌≤◌, ◌+◌, Bool, true, List, [], ◌∷◌, map, Option, Some, None}
use Rattle.atomic_table.specs.Seated.{TableId}
use Rattle.shared_objects.specs.Tables.{table_opening}
use Rattle.shared_objects.specs.declared.seats.ActorSeat.{ActorSeat}
use Rattle.shared_objects.specs.declared.table.SharedTable.{SharedTable}
use Rattle.machine.specs.MachineState.{MachineState}
use Rattle.debugger.specs.declared.debuggee.Debuggee.{Debuggee}
use Rattle.debugger.specs.declared.replies.StepReply.{StepReply}
use Rattle.workers.specs.declared.table_name.TableName.{Ghosts}
use Rattle.workers.specs.Cells.{IsSeatOf, CellState, RunsCell}
pub use Rattle.workers.specs.Cells.{IsTableOf}
pub use Rattle.workers.specs.TableNames.{each_passed}

-- The seat of the actor of this number, which has done nothing.
abbrev pub IsNewSeat : TableId → List (List ℕ) → ℕ → ActorSeat → Type 0
IsNewSeat table opening number seat = IsSeatOf table opening seat × (seat.seat.me.0.actor ≡ number) × (seat.seat.me.0.entries ≡ [])

-- The seats of the actors from this number on, in order, which have done nothing.
abbrev pub AreSeats : TableId → List (List ℕ) → ℕ → List ActorSeat → Type 0
AreSeats table opening number [] = Unit {0}
AreSeats table opening number (seat ∷ seats) = IsNewSeat table opening number seat × AreSeats table opening (number + 1) seats

-- the machines of debuggees
abbrev pub machines_of : List Debuggee → List MachineState
machines_of ds = map (λ (d : Debuggee). d.machine) ds

-- the machine of a debuggee, if there is one
abbrev pub machine_of : Option Debuggee → Option MachineState
machine_of None = None
machine_of (Some d) = Some d.machine

-- What a call that opens a table picks for its name: that table, the machines there, and how many actors have seats.
abbrev pub named : {Name : Type 0} → SharedTable → List Debuggee → ℕ → Ghosts Name
named shared ds seats = record {
  table = shared.table.shared.table_id;
  opening = table_opening shared;
  starts = machines_of ds;
  seats = seats;
  passed = each_passed;
}

-- The machine's number is put into the queue, or not: nothing else changes, and where it is there already nothing at all.
abbrev pub QueuesCell : CellState → CellState → Type 0
QueuesCell old new = ((queued : Bool) × (new ≡ record old { queued = queued })) × (old.queued ≡ true → new ≡ old)

-- how many instructions a turn has at most
abbrev pub turn_limit : ℕ
turn_limit = 64

-- A turn of the cell's machine, of at most so many instructions or none. Then its number is put into a queue, or not.
pub record TurnsCell (limit : ℕ) (old new : CellState) : Type 0 where
  pub most : ℕ
  pub few : most ≤ limit
  pub ran : ℕ
  pub end : Option StepReply
  pub mid : CellState
  pub runs : RunsCell most old ran end mid
  pub queues : QueuesCell mid new
