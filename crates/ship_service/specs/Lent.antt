-- Commands on machines, on what a cell's lock lends: the connection's seat and the cell before, the reply, and both after.
use Rattle.std.specs.Prelude.{◌≡◌, ◌≢◌, ◌⊎◌, ℕ, Bool, true, false, max, List, Some, None}
use Rattle.loader.specs.ValidCode.{ValidCode}
use Rattle.loader.specs.Refusals.{HasCodeSize, Refuses}
use Rattle.loader.specs.declared.loading.Why.TheVariants as why
use Rattle.machine.specs.MachineState.{granted_start}
use Rattle.debugger.specs.declared.start.Start.{Start}
use Rattle.debugger.specs.declared.commands.MachineCommand.{MachineCommand}
use Rattle.debugger.specs.declared.commands.MachineCommand.TheVariants.{Step, Show, Debug}
use Rattle.debugger.specs.declared.commands.DebugCommand.TheVariants.{Resume}
use Rattle.debugger.specs.declared.replies.StepReply.{StepReply}
use Rattle.debugger.specs.declared.show.ShowReply.{ShowReply}
use Rattle.debugger.specs.declared.replies.Debugged.{Debugged}
use Rattle.debugger.specs.declared.replies.Debugged.TheVariants.{Done}
use Rattle.debugger.specs.Debuggees.{debuggee_start}
use Rattle.workers.specs.Cells.{SeatState, CellState, RunningState, StepsCell, ShowsCell, DebugsCell}
use Rattle.workers.specs.Pools.{QueuesCell}
use Rattle.world.specs.declared.replies.Reply.{Reply}
use Rattle.world.specs.declared.replies.Reply.TheVariants as answer

-- ---- stamps

-- the seat learns a stamp
abbrev pub learning : ℕ → SeatState → SeatState
learning stamp s = record s { stamp = max s.stamp stamp }

-- the cell as the command finds it: before a step its seat learns the connection's stamp
abbrev pub informed : MachineCommand → SeatState → CellState → CellState
informed (Step way) s c = record c { seat = learning s.stamp c.seat }
informed _ s c = c

-- ---- commands on a machine

-- the reply of machine m, which the cell has, to a command
abbrev pub AnswersCell : MachineCommand → CellState → ℕ → Reply → CellState → Type 0
AnswersCell (Step way) before m reply after = (outcome : StepReply) × (reply ≡ answer.Stepped m outcome) × StepsCell way before outcome after
AnswersCell (Show command) before m reply after = (outcome : ShowReply) × (reply ≡ answer.Shown m outcome) × ShowsCell command before outcome × (after ≡ before)
AnswersCell (Debug command) before m reply after = (outcome : Debugged) × (reply ≡ answer.Debugged outcome) × DebugsCell command before outcome after

-- a machine that was paused goes on again
abbrev pub resumes : MachineCommand → Reply → Bool
resumes (Debug Resume) (answer.Debugged Done) = true
resumes _ _ = false

-- The cell has a machine, which answers; then the connection's seat learns the stamp of the machine's.
pub record FindsMachine (command : MachineCommand) (old : SeatState) (before : CellState) (m : ℕ) (reply : Reply) (new : SeatState)
    (after : CellState) : Type 0 where
  pub answers : AnswersCell command (informed command old before) m reply after
  pub learns : new ≡ learning after.seat.stamp old

-- The cell has no machine: nothing changes.
pub record MissesMachine (old : SeatState) (before : CellState) (reply : Reply) (new : SeatState) (after : CellState) : Type 0 where
  pub none : before.running ≡ None
  pub reply_is : reply ≡ answer.Missing
  pub same : new ≡ old
  pub unchanged : after ≡ before

-- a command on what the lock of machine m's cell lends
abbrev pub AnswersLent : MachineCommand → SeatState → CellState → ℕ → Reply → SeatState → CellState → Type 0
AnswersLent command old before m reply new after = MissesMachine old before reply new after ⊎ FindsMachine command old before m reply new after

-- ---- ship

-- a machine at the start of its code
abbrev pub shipped_at : ℕ → List ℕ → Start → RunningState
shipped_at m code s = record { debuggee = debuggee_start m code s; shipped = Some (granted_start m code s.fuel s.arguments s.grants) }

-- `ship` on what the lock of a cell without a machine lends: the machine that comes is of the cell's number, and is put into
-- the queue. That memory ran out may also be answered of code that isn't valid, in place of the refusal.
abbrev pub ShipsCell : Start → List ℕ → CellState → Reply → CellState → Type 0
ShipsCell start code before (answer.Shipped m) after = (m ≡ before.number) × ValidCode code
    × QueuesCell (record before { running = Some (shipped_at before.number code start) }) after
ShipsCell start code before (answer.Refused e) after = Refuses code e.slot e.why × (e.why ≢ why.Memory) × (after ≡ before)
ShipsCell start code before answer.NoMemory after = HasCodeSize code × (after ≡ before)
ShipsCell start code before _ after = ⊥
