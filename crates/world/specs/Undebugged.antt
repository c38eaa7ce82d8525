-- An agent that nobody debugs: no breakpoint and no range is set, no machine is paused, and `one` is `step`.
use Rattle.std.specs.Prelude.{Bool, true, false, not, ◌||◌, List, map}
use Rattle.debugger.specs.DebugState.{debug_start}
use Rattle.debugger.specs.declared.commands.Way.TheVariants as way
use Rattle.debugger.specs.declared.commands.MachineCommand.TheVariants.{Step, Debug}
use Rattle.debugger.specs.declared.shown.State.{State}
use Rattle.debugger.specs.declared.shown.State.TheVariants as state
use Rattle.debugger.specs.declared.debuggee.Debuggee.{Debuggee}
use Rattle.debugger.specs.declared.replies.StepReply.{StepReply}
use Rattle.debugger.specs.declared.replies.StepReply.TheVariants.{Ran, Hit, Paused}
use Rattle.debugger.specs.declared.show.ShowReply.{ShowReply}
use Rattle.debugger.specs.declared.show.ShowReply.TheVariants.{Registers}
use Rattle.world.specs.declared.replies.Reply.{Reply}
use Rattle.world.specs.declared.replies.Reply.TheVariants.{Stepped, Shown}
use Rattle.world.specs.declared.events.Event.{Event}
use Rattle.world.specs.declared.events.Event.TheVariants.{Machine}
use Rattle.world.specs.WorldState.{WorldState}
use Rattle.world.specs.Kept.{commands_kept, replies_kept}

-- the machine with nothing set, and not paused
abbrev pub undebugged_machine : Debuggee → Debuggee
undebugged_machine d = record d { debugger = debug_start }

-- the state in which nobody debugs
abbrev pub undebugged : WorldState → WorldState
undebugged w = record w { machines = map undebugged_machine w.machines }

-- ---- what is left out

-- a command of the debugger
abbrev pub is_debugging : Event → Bool
is_debugging (Machine m (Debug command)) = true
is_debugging _ = false

-- the machine is paused, so nothing was done
abbrev pub is_pause : Reply → Bool
is_pause (Stepped m (Paused slot)) = true
is_pause _ = false

-- a command of an agent that nobody debugs, with its reply
abbrev pub is_undebugged : Event → Reply → Bool
is_undebugged c r = not (is_debugging c || is_pause r)

-- ---- other words

-- `one` is `step`
abbrev pub undebugged_command : Event → Event
undebugged_command (Machine m (Step w)) = Machine m (Step way.Step)
undebugged_command c = c

-- a paused machine runs
abbrev pub unpaused : State → State
unpaused state.Paused = state.Running
unpaused s = s

-- a hit is a step that ran
abbrev pub unhit : StepReply → StepReply
unhit (Hit slot) = Ran slot
unhit replied = replied

-- no machine shows that it is paused
abbrev pub unshown : ShowReply → ShowReply
unshown (Registers shown) = Registers (record shown { state = unpaused shown.state })
unshown replied = replied

-- the reply where nobody debugs
abbrev pub undebugged_reply : Reply → Reply
undebugged_reply (Stepped m replied) = Stepped m (unhit replied)
undebugged_reply (Shown m replied) = Shown m (unshown replied)
undebugged_reply r = r

-- a run without the debugging commands, and without what was not done since a machine was paused
abbrev pub undebugged_commands : List Event → List Reply → List Event
undebugged_commands cs rs = map undebugged_command (commands_kept is_undebugged cs rs)

-- its replies
abbrev pub undebugged_replies : List Event → List Reply → List Reply
undebugged_replies cs rs = map undebugged_reply (replies_kept is_undebugged cs rs)
