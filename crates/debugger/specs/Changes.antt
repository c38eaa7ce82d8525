-- What the debugging commands do to the debug state of one machine. A refusal changes nothing.
use Rattle.std.specs.Prelude.{◌≡◌, ℕ, nat_eq, true, false, not, cond, List, [], ◌∷◌, ◌++◌}
use Rattle.std.specs.List.{filter}
use Rattle.loader.specs.ValidCode.{IsAt}
use Rattle.debugger.specs.declared.watch.Watch.{Watch}
use Rattle.debugger.specs.declared.commands.DebugCommand.{DebugCommand}
use Rattle.debugger.specs.declared.commands.DebugCommand.TheVariants as command
use Rattle.debugger.specs.declared.replies.Debugged.{Debugged}
use Rattle.debugger.specs.declared.replies.Debugged.TheVariants.{Done, NoSlot, Outside, Full, NoWatch, NotPaused}
use Rattle.debugger.specs.DebugState.{DebugState, has_break, takes_break, watch_at, ends_within, is_same_watch, has_watch, takes_watch}
use Rattle.debugger.specs.Refusals.{Decides}

-- ---- changes

-- a breakpoint is set at the slot: nothing changes if one is set there already
abbrev pub with_break : ℕ → DebugState → DebugState
with_break slot d = cond (has_break slot d) d (record d { breakpoints = d.breakpoints ++ slot ∷ [] })

-- the breakpoint at the slot is set no more
abbrev pub without_break : ℕ → DebugState → DebugState
without_break slot d = record d { breakpoints = filter (λ other. not (nat_eq slot other)) d.breakpoints }

-- the range is watched: nothing changes if it is watched already
abbrev pub with_watch : Watch → DebugState → DebugState
with_watch r d = cond (has_watch r d) d (record d { watches = d.watches ++ r ∷ [] })

-- the range is set no more
abbrev pub without_watch : Watch → DebugState → DebugState
without_watch r d = record d { watches = filter (λ other. not (is_same_watch r other)) d.watches }

-- the machine is not paused, and the next instruction runs whatever breakpoint is set at it
abbrev pub resumed : DebugState → DebugState
resumed d = record d { paused = false; pass = true }

-- what each debugging command does
abbrev pub change_of : DebugCommand → DebugState → DebugState
change_of (command.Break slot) d = with_break slot d
change_of (command.Unbreak slot) d = without_break slot d
change_of (command.Watch address size) d = with_watch (watch_at address size) d
change_of (command.Unwatch address size) d = without_watch (watch_at address size) d
change_of command.Resume d = resumed d

-- ---- refusals

-- how each may be refused, in the order of the tests
abbrev pub refusals_of : DebugCommand → List Debugged
refusals_of (command.Break slot) = NoSlot ∷ Full ∷ []
refusals_of (command.Unbreak slot) = NoSlot ∷ []
refusals_of (command.Watch address size) = Outside ∷ Full ∷ []
refusals_of (command.Unwatch address size) = NoWatch ∷ []
refusals_of command.Resume = NotPaused ∷ []

-- what each needs, on a machine with this code, lest it be refused so
abbrev pub Needs : DebugCommand → List ℕ → DebugState → Debugged → Type 0
-- an instruction begins at the slot, and there is room
Needs (command.Break slot) code d NoSlot = IsAt code slot
Needs (command.Break slot) code d Full = takes_break slot d ≡ true
-- a breakpoint is set at the slot
Needs (command.Unbreak slot) code d NoSlot = has_break slot d ≡ true
-- the range ends within the offsets of 32 bits, and there is room
Needs (command.Watch address size) code d Outside = ends_within (watch_at address size) ≡ true
Needs (command.Watch address size) code d Full = takes_watch (watch_at address size) d ≡ true
-- the range is set
Needs (command.Unwatch address size) code d NoWatch = has_watch (watch_at address size) d ≡ true
-- the machine is paused
Needs command.Resume code d NotPaused = d.paused ≡ true
Needs _ code d _ = Unit {0}

-- ---- commands

-- what is done changes the state, and a refusal doesn't
abbrev pub left_by : Debugged → DebugState → DebugState → DebugState
left_by Done old changed = changed
left_by _ old changed = old

-- a debugging command on a machine with this code
abbrev pub Debugs : DebugCommand → List ℕ → DebugState → Debugged → DebugState → Type 0
Debugs c code old outcome new = Decides (Needs c code old) (refusals_of c) Done outcome × (new ≡ left_by outcome old (change_of c old))
