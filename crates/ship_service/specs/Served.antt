-- The service: which reply a command may have at a connection's seat, and what it does to the seat. Of a cell, whose machine
-- others may step at any time, it is told what its lock lends and with what it is left: what the type of the cell says of both, and
-- what the command did in between.
use Rattle.std.specs.Prelude.{◌≡◌, ◌⊎◌, ℕ, zero, suc, ◌+◌, ◌<◌, ◌≤◌, Bool, true, false, List, Some, None}
use Rattle.scopes.specs.Windows.{machine_limit}
use Rattle.shared_objects.specs.History.{top}
use Rattle.shared_objects.specs.Kinds.{shut}
use Rattle.machine.specs.MachineState.{MachineState}
use Rattle.debugger.specs.declared.start.Start.{Start}
use Rattle.debugger.specs.declared.commands.MachineCommand.{MachineCommand}
use Rattle.workers.specs.TableNames.{Passage, AreLent}
use Rattle.workers.specs.TableNames.Passage.{Leaves, Lends}
use Rattle.workers.specs.Cells.{SeatState, CellState, RunningState, IsReplayed, IsStamped, FitsCell, opened_as}
use Rattle.workers.specs.Pools.{TurnsCell, turn_limit}
use Rattle.world.specs.declared.replies.Reply.{Reply}
use Rattle.world.specs.declared.replies.Reply.TheVariants as answer
use Rattle.world.specs.declared.events.Event.{Event}
use Rattle.world.specs.declared.events.Event.TheVariants as event
use Rattle.world.specs.declared.events.ObjectCommand.{ObjectCommand}
use Rattle.world.specs.declared.events.ObjectCommand.TheVariants as object
use Rattle.world.specs.declared.world.moving.Move.TheVariants as move
use Rattle.console.specs.Conversations.{Protocol}
use Rattle.ship_service.specs.declared.replies.ServiceReply.{ServiceReply}
use Rattle.ship_service.specs.declared.replies.ServiceReply.TheVariants.{Plain, Unserved}
use Rattle.ship_service.specs.Replies.{service_text}
use Rattle.ship_service.specs.Ranges.{InTries, PutsOnce, GetsOnce, AsksMover}
use Rattle.ship_service.specs.Lent.{AnswersLent, ShipsCell, learning, resumes}

-- ---- cells

-- What the type of a cell says of what its lock lends: the seat is that of the number's actor and has seen up to its last
-- entry, and the machine, if there is one, is the replay of the seat's entries from its start.
pub record IsCell (opening : List (List ℕ)) (starts : List MachineState) (number : ℕ) (c : CellState) : Type 0 where
  pub number_is : c.number ≡ number
  pub actor_is : c.seat.view.actor ≡ number
  pub opening_is : c.seat.view.opening ≡ opening
  pub stamped : IsStamped c.seat
  pub fits : FitsCell opening starts number c.seat c.running

-- The lock of machine m's cell lent the one, and was left with the other.
pub record HoldsCell (opening : List (List ℕ)) (starts : List MachineState) (passed : Passage → Bool) (m : ℕ) (before after : CellState) : Type 0 where
  pub before_is : IsCell opening starts m before
  pub after_is : IsCell opening starts m after
  pub lends : passed (Lends before) ≡ true
  pub leaves : passed (Leaves after) ≡ true

-- ---- turns of a connection's own

-- A turn of machine m, under the lock of its cell, whose stamp the connection's seat learns.
pub record TakesTurn (opening : List (List ℕ)) (starts : List MachineState) (passed : Passage → Bool) (m : ℕ) (old : SeatState) (after : CellState)
    (new : SeatState) : Type 0 where
  pub before : CellState
  pub holds : HoldsCell opening starts passed m before after
  pub turn : TurnsCell turn_limit before after
  pub learns : new ≡ learning after.seat.stamp old

-- So many of them, one after the other, each under the lock for itself.
abbrev pub TakesTurns : List (List ℕ) → List MachineState → (Passage → Bool) → ℕ → ℕ → SeatState → SeatState → Type 0
TakesTurns opening starts passed m zero old new = new ≡ old
TakesTurns opening starts passed m (suc n) old new = (mid : SeatState) × TakesTurns opening starts passed m n old mid
    × ((after : CellState) × TakesTurn opening starts passed m mid after new)

-- how many turns of a machine that it has resumed a connection takes, before a worker goes on with it: this project's choice
abbrev pub own_turns : ℕ
own_turns = 64

-- At most so many turns of machine m, and a last one, which may be of no instruction.
pub record GoesOn (opening : List (List ℕ)) (starts : List MachineState) (passed : Passage → Bool) (m : ℕ) (old : SeatState) (after : CellState)
    (new : SeatState) : Type 0 where
  pub turns : ℕ
  pub few : turns ≤ own_turns
  pub mid : SeatState
  pub taken : TakesTurns opening starts passed m turns old mid
  pub last : TakesTurn opening starts passed m mid after new

-- ---- machines

-- A command on machine m, under the lock of its cell. Where that resumes the machine, the connection goes on with it, in turns of its
-- own. `left` is what the command left, and `after` what the connection's last hold of the lock left.
pub record OnCell (opening : List (List ℕ)) (starts : List MachineState) (passed : Passage → Bool) (old : SeatState) (m : ℕ) (command : MachineCommand)
    (reply : ServiceReply) (new : SeatState) : Type 0 where
  pub before : CellState
  pub left : CellState
  pub answered : SeatState
  pub after : CellState
  pub said : Reply
  pub holds : HoldsCell opening starts passed m before left
  pub reply_is : reply ≡ Plain said
  pub answers : AnswersLent command old before m said answered left
  pub goes_on : ((resumes command said ≡ true) × GoesOn opening starts passed m answered after new)
      ⊎ ((resumes command said ≡ false) × (new ≡ answered) × (after ≡ left))

-- A command on machine m: either there can be no machine of this number, or the command is done on its cell.
abbrev pub ServesMachine : List (List ℕ) → List MachineState → (Passage → Bool) → SeatState → ℕ → MachineCommand → ServiceReply → SeatState → Type 0
ServesMachine opening starts passed old m command reply new =
    (((1 ≤ m) × (m ≤ machine_limit) → ⊥) × (reply ≡ Plain answer.Missing) × (new ≡ old)) ⊎ OnCell opening starts passed old m command reply new

-- The code comes into a cell without a machine: the cells of the lesser numbers were each lent with one.
pub record IntoCell (opening : List (List ℕ)) (starts : List MachineState) (passed : Passage → Bool) (start : Start) (code : List ℕ) (reply : ServiceReply) : Type 0 where
  pub lesser : ℕ
  pub before : CellState
  pub after : CellState
  pub said : Reply
  pub exists : lesser < machine_limit
  pub lent_before : AreLent passed lesser
  pub holds : HoldsCell opening starts passed (lesser + 1) before after
  pub empty : before.running ≡ None
  pub reply_is : reply ≡ Plain said
  pub ships : ShipsCell start code before said after

-- `ship`: either all cells have machines, for each was lent with one, or the code comes into a cell without a machine.
abbrev pub ServesShip : List (List ℕ) → List MachineState → (Passage → Bool) → Start → List ℕ → ServiceReply → Type 0
ServesShip opening starts passed start code reply =
    (AreLent passed machine_limit × (reply ≡ Plain answer.Full)) ⊎ IntoCell opening starts passed start code reply

-- ---- commands

-- A command on object n. The service frees none. It asks the mover to begin a move, which the mover ends by itself.
abbrev pub ServesObject : SeatState → ℕ → ObjectCommand → ServiceReply → SeatState → Type 0
ServesObject old n object.Free reply new = (reply ≡ Unserved) × (new ≡ old)
ServesObject old n (object.Put offset bytes) reply new = InTries (PutsOnce n offset bytes) n old reply new
ServesObject old n (object.Get offset size) reply new = InTries (GetsOnce n offset size) n old reply new
ServesObject old n (object.Move move.Leave) reply new = AsksMover old.view.opening n reply × (new ≡ old)
ServesObject old n (object.Move move.Return) reply new = AsksMover old.view.opening n reply × (new ≡ old)
ServesObject old n (object.Move _) reply new = (reply ≡ Unserved) × (new ≡ old)

-- What a command is answered, and what it does to the seat. The service makes no object.
abbrev pub Serves : List (List ℕ) → List MachineState → (Passage → Bool) → SeatState → Event → ServiceReply → SeatState → Type 0
Serves opening starts passed old (event.Make size) reply new = (reply ≡ Unserved) × (new ≡ old)
Serves opening starts passed old (event.Ship start code) reply new = ServesShip opening starts passed start code reply × (new ≡ old)
Serves opening starts passed old (event.Object n command) reply new = ServesObject old n command reply new
Serves opening starts passed old (event.Machine m command) reply new = ServesMachine opening starts passed old m command reply new

-- After each command no scope of the seat is open.
abbrev pub ServesTurn : List (List ℕ) → List MachineState → (Passage → Bool) → SeatState → Event → ServiceReply → SeatState → Type 0
ServesTurn opening starts passed old command reply new =
    (mid : SeatState) × Serves opening starts passed old command reply mid × (new ≡ record mid { view = shut mid.view })

-- the protocol of a service whose table was opened with these bytes and these machines, and whose name says which cells were lent
-- with a machine: its states are what the connection's seat knows
abbrev pub service : List (List ℕ) → List MachineState → (Passage → Bool) → Protocol
service opening starts passed = record { State = SeatState; Reply = ServiceReply; step = ServesTurn opening starts passed; text = service_text }

-- Of a machine that was there when the table was opened no command is answered that there is none.
abbrev pub OpenedMachinesStay : List (List ℕ) → List MachineState → (Passage → Bool) → Type 0
OpenedMachinesStay opening starts passed = (old new : SeatState) (m : ℕ) (command : MachineCommand) (start : MachineState) → 1 ≤ m → m ≤ machine_limit
    → opened_as starts m ≡ Some start
    → ServesMachine opening starts passed old m command (Plain answer.Missing) new → ⊥

-- A machine is seen up to a stamp: it is the replay, from its start, of entries of which the last stands at that stamp or below.
pub record IsSeen (opening : List (List ℕ)) (starts : List MachineState) (number stamp : ℕ) (seat : SeatState) (r : RunningState) : Type 0 where
  pub replayed : IsReplayed opening starts number seat r
  pub up_to : top 0 seat.view.entries ≤ stamp

-- Whatever a command on a machine is answered, the connection has seen the machine as it left it.
abbrev pub AnsweredMachinesAreSeen : List (List ℕ) → List MachineState → (Passage → Bool) → Type 0
AnsweredMachinesAreSeen opening starts passed =
    (old new : SeatState) (m : ℕ) (command : MachineCommand) (reply : ServiceReply) (c : OnCell opening starts passed old m command reply new) (r : RunningState)
    → c.after.running ≡ Some r → IsSeen opening starts m new.stamp c.after.seat r
