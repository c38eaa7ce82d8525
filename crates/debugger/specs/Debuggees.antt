-- A machine with its debugger: its steps, by `step` and by `one`, over any memory, and the debugger's commands. The stop that
-- is already there comes first, then pauses (by `step` alone), then fuel and the row.
use Rattle.std.specs.Prelude.{◌≡◌, ℕ, Bool, true, false, ◌&&◌, is_none, cond, List}
use Rattle.memory.specs.Memories.{Memories}
use Rattle.machine.specs.TableStep.{TableStep}
use Rattle.machine.specs.MachineState.{MachineState, granted_start}
use Rattle.machine.specs.declared.state.Stepped.{Stepped}
use Rattle.machine.specs.declared.state.Stepped.TheVariants as stepped
use Rattle.debugger.specs.declared.commands.Way.{Way}
use Rattle.debugger.specs.declared.commands.Way.TheVariants as way
use Rattle.debugger.specs.declared.commands.DebugCommand.{DebugCommand}
use Rattle.debugger.specs.declared.replies.StepReply.{StepReply}
use Rattle.debugger.specs.declared.replies.StepReply.TheVariants.{Ran, Hit, Waiting, Paused, Stopped}
use Rattle.debugger.specs.declared.replies.Debugged.{Debugged}
use Rattle.debugger.specs.declared.start.Start.{Start}
use Rattle.debugger.specs.declared.debuggee.Debuggee.{Debuggee}
use Rattle.debugger.specs.DebugState.{DebugState, debug_start, hits}
use Rattle.debugger.specs.Changes.{Debugs}
use Rattle.debugger.specs.Pausing.{is_to_pause, with_pause, debugged}

-- a machine at the start of its code, with nothing set
abbrev pub debuggee_start : ℕ → List ℕ → Start → Debuggee
debuggee_start number code s = record { machine = granted_start number code s.fuel s.arguments s.grants; debugger = debug_start }

-- ---- steps

-- the machine isn't stopped, and it is paused or comes to a breakpoint that isn't to be passed
abbrev pub pauses_now : Debuggee → Bool
pauses_now d = is_none d.machine.stop && is_to_pause d.machine.slot d.debugger

-- the machine pauses in place of a step
abbrev pub holds_back : Way → Debuggee → Bool
holds_back way.Step d = pauses_now d
holds_back way.One d = false

-- the reply to a step, after which the machine is at the slot: a write to a watched range is a hit
abbrev pub reply_after : Stepped → ℕ → DebugState → StepReply
reply_after (stepped.Ran wrote) slot d = cond (hits wrote d) (Hit slot) (Ran slot)
reply_after (stepped.Waiting n) slot d = Waiting n
reply_after (stepped.Stopped stop) slot d = Stopped stop

-- The machine makes one step of the table over the memory.
pub record Walks {S : Type 0} (memory : Memories S) (way : Way) (old : Debuggee) (before : S) (reply : StepReply) (new : Debuggee) (after : S) : Type 0 where
  pub goes : holds_back way old ≡ false
  pub answer : Stepped
  pub machine : MachineState
  pub step : TableStep memory old.machine before answer machine after
  pub replied : reply ≡ reply_after answer machine.slot old.debugger
  pub changed : new ≡ record { machine = machine; debugger = debugged way answer old.debugger }

-- It is paused in place of a step, and nothing else changes.
pub record Pauses {S : Type 0} (way : Way) (old : Debuggee) (before : S) (slot : ℕ) (new : Debuggee) (after : S) : Type 0 where
  pub held : holds_back way old ≡ true
  pub slot_is : slot ≡ old.machine.slot
  pub changed : new ≡ record old { debugger = with_pause slot old.debugger }
  pub same : after ≡ before

-- `step` and `one`
abbrev pub AnswersStep : {S : Type 0} → Memories S → Way → Debuggee → S → StepReply → Debuggee → S → Type 0
AnswersStep memory way old before (Paused slot) new after = Pauses way old before slot new after
AnswersStep memory way old before reply new after = Walks memory way old before reply new after

-- ---- debugging

-- A debugging command changes the debug state, and leaves the machine as it is.
abbrev pub DebugsMachine : DebugCommand → Debuggee → Debugged → Debuggee → Type 0
DebugsMachine command old outcome new = Debugs command old.machine.code old.debugger outcome new.debugger × (new ≡ record old { debugger = new.debugger })
