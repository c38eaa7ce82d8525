-- What the debugger does around a step of its machine. A machine that is stopped answers its stop before any of this is
-- looked at.
use Rattle.std.specs.Prelude.{ℕ, Bool, true, false, not, ◌&&◌, ◌||◌, Option}
use Rattle.machine.specs.declared.state.Written.{Written}
use Rattle.machine.specs.declared.state.Stepped.{Stepped}
use Rattle.machine.specs.declared.state.Stepped.TheVariants.{Ran, Waiting, Stopped}
use Rattle.debugger.specs.declared.commands.Way.{Way}
use Rattle.debugger.specs.declared.commands.Way.TheVariants.{Step, One}
use Rattle.debugger.specs.DebugState.{DebugState, has_break, hits}

-- A `step` of a machine at this slot pauses in place of running: the machine is paused already, or a breakpoint is set at
-- the slot and is not to be passed.
abbrev pub is_to_pause : ℕ → DebugState → Bool
is_to_pause slot d = d.paused || (not d.pass && has_break slot d)

-- before a `step`: the machine is paused where it pauses, and nothing else changes
abbrev pub with_pause : ℕ → DebugState → DebugState
with_pause slot d = record d { paused = is_to_pause slot d }

-- After a step that ran no breakpoint is passed any more. By `step` a hit pauses the machine, by `one` it is paused, hit or not.
abbrev pub after_run : Way → Option Written → DebugState → DebugState
after_run Step w d = record d { paused = d.paused || hits w d; pass = false }
after_run One w d = record d { paused = true; pass = false }

-- after a stop: the machine is not paused
abbrev pub after_stop : DebugState → DebugState
after_stop d = record d { paused = false }

-- what a step leaves, by what the machine answered; a machine that waits changes nothing
abbrev pub debugged : Way → Stepped → DebugState → DebugState
debugged way (Ran w) d = after_run way w d
debugged way (Waiting n) d = d
debugged way (Stopped s) d = after_stop d
