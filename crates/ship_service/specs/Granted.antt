-- Isolation in the service: machines do to objects only what they were granted.
use Rattle.std.specs.Prelude.{◌≡◌, ℕ, Bool, true, false, List, Some}
use Rattle.atomic_table.specs.Seated.{TableId}
use Rattle.memory.specs.Objects.{bytes_of}
use Rattle.shared_objects.specs.History.{Has}
use Rattle.shared_objects.specs.One.{entries_by}
use Rattle.shared_objects.specs.SeatMemories.{own_entry}
use Rattle.shared_objects.specs.declared.seats.ActorSeat.{ActorSeat}
use Rattle.shared_objects.specs.declared.view.Part.{Part}
use Rattle.shared_objects.specs.declared.view.SharedEntry.{SharedEntry}
use Rattle.machine.specs.Granted.{WasGranted, may_write}
use Rattle.machine.specs.Grants.{is_granted}
use Rattle.machine.specs.MachineState.{MachineState}
use Rattle.workers.specs.Cells.{SeatState, RunningState, lengths_of}
use Rattle.workers.specs.Moves.{MoverState}
use Rattle.workers.specs.declared.closing.ClosedCell.{ClosedCell}
use Rattle.ship_service.specs.Closing.{ClosedState, Settles, ReplaysShare}
use Rattle.ship_service.specs.Served.{IsSeen}

-- ---- what a machine did

-- Each of these entries of a machine is an access to an object that it was granted, a writing one only with `w`.
abbrev pub AreGranted : List (List ℕ) → RunningState → List SharedEntry → Type 0
AreGranted opening r es = (e : SharedEntry) → Has es e → WasGranted (lengths_of opening) r.debuggee.machine.grants (own_entry e)

-- So is each entry of a machine that a connection has seen.
abbrev pub SeenMachinesAreGranted : List (List ℕ) → List MachineState → Type 0
SeenMachinesAreGranted opening starts = (number stamp : ℕ) (seat : SeatState) (r : RunningState) → IsSeen opening starts number stamp seat r
    → AreGranted opening r seat.view.entries

-- And each of a machine's share of the one list, when the service has closed.
abbrev pub SharesAreGranted : List (List ℕ) → List MachineState → Type 0
SharesAreGranted opening starts = (parts : List Part) (one : List SharedEntry) (number : ℕ) (r : RunningState) → ReplaysShare opening starts parts one number r
    → AreGranted opening r (entries_by number one)

-- ---- what nobody wrote

-- No machine may write object n, and no connection put bytes into it.
pub record IsUnwritten (n : ℕ) (cells : List ClosedCell) (connections : List ActorSeat) : Type 0 where
  pub machines : (c : ClosedCell) (r : RunningState) → Has cells c → c.running ≡ Some r → is_granted r.debuggee.machine.grants true n ≡ false
  pub puts : (seat : ActorSeat) (e : SharedEntry) → Has connections seat → Has seat.seat.me.0.entries e → e.object ≡ n → may_write e.deed ≡ false

-- Such an object closes with the bytes with which it was opened, where the far store returns what was put.
abbrev pub UnwrittenObjectsStay : Type 0 → Bool → TableId → List (List ℕ) → List MachineState → Type 0
UnwrittenObjectsStay X returns table opening starts = (mover : MoverState X) (connections : List ActorSeat) (state : ClosedState X)
    → (s : Settles returns table opening starts mover connections state) → returns ≡ true → (n : ℕ) → IsUnwritten n state.cells connections
    → bytes_of s.ends n ≡ bytes_of opening n
