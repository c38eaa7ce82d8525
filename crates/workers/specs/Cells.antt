-- What a cell keeps under its lock: a seat of the table, and a machine that is the replay of the seat's entries.
use Rattle.std.specs.Prelude.{◌≡◌, ◌<◌, ◌≤◌, ℕ, zero, suc, ◌-◌, ◌%◌, ◌==◌, nat_eq, Bool, false, List, [], length, map, Option, Some, None, is_some}
use Rattle.std.specs.Prelude.{is_none, not, ◌&&◌, slice_get}
use Rattle.std.specs.List.{list_any}
use Rattle.atomic_table.specs.Seated.{TableId}
use Rattle.memory.specs.Memories.{Memories}
use Rattle.memory.specs.Objects.{bytes_of}
use Rattle.shared_objects.specs.History.{top}
use Rattle.shared_objects.specs.Kinds.{Witness}
use Rattle.shared_objects.specs.Phases.{IsObject}
use Rattle.shared_objects.specs.SeatMemories.{seat_memory, own_entry}
use Rattle.shared_objects.specs.Tables.{table_opening}
use Rattle.shared_objects.specs.declared.seats.ActorSeat.{ActorSeat}
use Rattle.shared_objects.specs.declared.table.SharedTable.{SharedTable}
use Rattle.shared_objects.specs.declared.view.Mark.{Mark}
use Rattle.shared_objects.specs.declared.view.Mark.TheVariants.{Worn}
use Rattle.shared_objects.specs.declared.view.View.{View}
use Rattle.loader.specs.ValidCode.{ValidCode}
use Rattle.machine.specs.Grants.{GrantState}
use Rattle.machine.specs.MachineState.{MachineState, granted_start}
use Rattle.machine.specs.Replay.{IsReplay}
use Rattle.debugger.specs.declared.commands.Way.{Way}
use Rattle.debugger.specs.declared.commands.Way.TheVariants as way
use Rattle.debugger.specs.declared.commands.DebugCommand.{DebugCommand}
use Rattle.debugger.specs.declared.show.ShowCommand.{ShowCommand}
use Rattle.debugger.specs.declared.replies.StepReply.{StepReply}
use Rattle.debugger.specs.declared.replies.StepReply.TheVariants.{Ran}
use Rattle.debugger.specs.declared.show.ShowReply.{ShowReply}
use Rattle.debugger.specs.declared.replies.Debugged.{Debugged}
use Rattle.debugger.specs.declared.debuggee.Debuggee.{Debuggee}
use Rattle.debugger.specs.Debuggees.{AnswersStep, DebugsMachine}
use Rattle.debugger.specs.Running.{is_ran}
use Rattle.debugger.specs.Showing.{Shows}
use Rattle.workers.specs.declared.running.Shipment.{Shipment}

-- ---- seats

-- what a seat knows, and the stamp up to which it has seen
pub record SeatState : Type 0 where
  pub view : View
  pub stamp : ℕ

-- of an actor's seat
abbrev pub seat_state : ActorSeat → SeatState
seat_state a = record { view = a.seat.me.0; stamp = a.stamp }

-- a seat as the memory of its machine
abbrev pub seat_acts : Memories SeatState
seat_acts = seat_memory {S = ℕ} (λ s. s.view) (λ s. s.stamp) (λ s. 0) (λ s. 0)

-- The seat is of the table of this name.
abbrev pub IsSeatOf : TableId → List (List ℕ) → ActorSeat → Type 0
IsSeatOf table opening seat = (seat.seat.table_id ≡ table) × (seat.seat.me.0.opening ≡ opening)

-- It is the table of this name.
abbrev pub IsTableOf : TableId → List (List ℕ) → SharedTable → Type 0
IsTableOf table opening shared = (shared.table.shared.table_id ≡ table) × (table_opening shared ≡ opening)

-- ---- machines

-- a machine with its debugger, and what it started as where it was shipped after the table was opened
pub record RunningState : Type 0 where
  pub debuggee : Debuggee
  pub shipped : Option MachineState

-- a machine that was shipped, at the start of its code: number, code and grants never change
abbrev pub shipped_as : MachineState → Option Shipment → Option MachineState
shipped_as m None = None
shipped_as m (Some b) = Some (granted_start m.number m.code b.fuel b.arguments m.grants)

-- the machine of a number as it was when the table was opened, if one was there
abbrev pub opened_as : List MachineState → ℕ → Option MachineState
opened_as starts number = slice_get starts (number - 1)

-- A machine of this number that is shipped: at the start of some valid code, with some fuel, five arguments and some grants.
pub record IsShipped (number : ℕ) (start : MachineState) : Type 0 where
  pub code : List ℕ
  pub fuel : ℕ
  pub arguments : List ℕ
  pub grants : GrantState
  pub valid : ValidCode code
  pub five : length arguments ≡ 5
  pub start_is : start ≡ granted_start number code fuel arguments grants

-- The machine of a number started so: as it was opened, or, where none was, as it was shipped.
abbrev pub StartedAs : List MachineState → ℕ → Option MachineState → MachineState → Type 0
StartedAs starts number None start = opened_as starts number ≡ Some start
StartedAs starts number (Some shipped) start = (opened_as starts number ≡ None) × (start ≡ shipped) × IsShipped number start

-- how many bytes each object has
abbrev pub lengths_of : List (List ℕ) → ℕ → ℕ
lengths_of opening n = length (bytes_of opening n)

-- the mark says that the stamps of the object have run out
abbrev pub is_worn_mark : ℕ → Mark → Bool
is_worn_mark n (Worn k found) = nat_eq k n
is_worn_mark n _ = false

-- one of the marks says so
abbrev pub is_marked_worn : List Mark → ℕ → Bool
is_marked_worn marks n = list_any (is_worn_mark n) marks

-- The seat has seen up to a stamp that is at least that of its last entry, and so of each of its entries.
abbrev pub IsStamped : SeatState → Type 0
IsStamped s = top 0 s.view.entries ≤ s.stamp

-- The machine of a number is the replay of the seat's entries from its start.
pub record IsReplayed (opening : List (List ℕ)) (starts : List MachineState) (number : ℕ) (seat : SeatState) (r : RunningState) : Type 0 where
  pub start : MachineState
  pub started : StartedAs starts number r.shipped start
  pub replay : IsReplay (lengths_of opening) (is_marked_worn seat.view.marks) start (map own_entry seat.view.entries) r.debuggee.machine

-- A cell has such a machine; or it has none, none was opened, and the seat has no entries.
abbrev pub FitsCell : List (List ℕ) → List MachineState → ℕ → SeatState → Option RunningState → Type 0
FitsCell opening starts number seat None = (opened_as starts number ≡ None) × (seat.view.entries ≡ [])
FitsCell opening starts number seat (Some r) = IsReplayed opening starts number seat r

-- ---- cells

-- what a cell's lock lends
pub record CellState : Type 0 where
  -- of its machine and of its seat's actor
  pub number : ℕ
  pub seat : SeatState
  pub running : Option RunningState
  -- whether the machine's number is in the queue of those to run
  pub queued : Bool

-- The machine makes one step over its seat, by the debugger's rules. What it started as stays, and so does all else.
pub record StepsCell (way : Way) (old : CellState) (reply : StepReply) (new : CellState) : Type 0 where
  pub before : RunningState
  pub after : RunningState
  pub seat : SeatState
  pub had : old.running ≡ Some before
  pub step : AnswersStep seat_acts way before.debuggee old.seat reply after.debuggee seat
  pub same : after.shipped ≡ before.shipped
  pub becomes : new ≡ record old { seat = seat; running = Some after }

-- So many steps of the cell's machine, one after the other, each of which ran.
abbrev pub RanCell : ℕ → CellState → CellState → Type 0
RanCell zero old new = new ≡ old
RanCell (suc n) old new = (slot : ℕ) × (mid : CellState) × StepsCell way.Step old (Ran slot) mid × RanCell n mid new

-- Fewer steps than n ran, and the next one was answered otherwise.
pub record EndsCell (n : ℕ) (old : CellState) (ran : ℕ) (reply : StepReply) (new : CellState) : Type 0 where
  pub fewer : ran < n
  pub other : is_ran reply ≡ false
  pub mid : CellState
  pub steps : RanCell ran old mid
  pub answer : StepsCell way.Step mid reply new

-- At most n steps: n of them ran, or fewer, and the next one was answered otherwise.
abbrev pub RunsCell : ℕ → CellState → ℕ → Option StepReply → CellState → Type 0
RunsCell n old ran None new = (ran ≡ n) × RanCell n old new
RunsCell n old ran (Some reply) new = EndsCell n old ran reply new

-- The machine's state is shown as it is.
abbrev pub ShowsCell : ShowCommand → CellState → ShowReply → Type 0
ShowsCell command c reply = (r : RunningState) × (c.running ≡ Some r) × Shows command r.debuggee reply

-- The debugger's command is done. The machine and what it started as stay, and so does all else.
pub record DebugsCell (command : DebugCommand) (old : CellState) (reply : Debugged) (new : CellState) : Type 0 where
  pub before : RunningState
  pub after : RunningState
  pub had : old.running ≡ Some before
  pub debugs : DebugsMachine command before.debuggee reply after.debuggee
  pub same : after.shipped ≡ before.shipped
  pub becomes : new ≡ record old { running = Some after }

-- ---- looks

-- What a look at object n shows: whether it is away.
pub data SeesAway (returns : Bool) (opening : List (List ℕ)) (v : View) (n : ℕ) (away : Bool) : Type 0 where
  -- there is no such object
  NoObject : (IsObject opening n → ⊥) → away ≡ false → SeesAway returns opening v n away
  -- there was a moment at which the whole table kept its rule and the seat knew this; the object's word said so then
  Looked : (word : ℕ) → Witness returns opening v n word → away ≡ not (word % 4 == 0) → SeesAway returns opening v n away

-- ---- queueing

-- there is a machine, and it isn't in the queue
abbrev pub may_queue : CellState → Bool
may_queue c = is_some c.running && not c.queued

-- the machine is neither paused nor stopped
abbrev pub is_going_on : Debuggee → Bool
is_going_on d = is_none d.machine.stop && not d.debugger.paused

-- there is a machine, and it goes on
abbrev pub is_going : Option RunningState → Bool
is_going None = false
is_going (Some r) = is_going_on r.debuggee
