-- What follows of breakpoints, watched ranges and steps, in their users' words. None of it speaks of the code.
use Rattle.std.specs.Prelude.{◌≡◌, ◌≢◌, ◌≤◌, ◌<◌, ◌+◌, ℕ, Bool, true, false, ◌↔◌, List, [], Option, Some}
use Rattle.std.specs.List.{Any}
use Rattle.isa_table.specs.declared.instr.Size.{Size}
use Rattle.isa_table.specs.declared.instr.Width.{Width}
use Rattle.isa_table.specs.declared.instr.AtomicOp.TheVariants.{CompareExchange}
use Rattle.isa_table.specs.Words.{unsigned}
use Rattle.isa_table.specs.Table.{size_bytes, width_bits}
use Rattle.loader.specs.ValidCode.{IsAt}
use Rattle.memory.specs.declared.access.Action.TheVariants.{Load, Atomic}
use Rattle.machine.specs.declared.state.Stop.{Stop}
use Rattle.machine.specs.declared.state.Stepped.TheVariants.{Ran, Waiting, Stopped}
use Rattle.machine.specs.declared.state.Written.{Written}
use Rattle.machine.specs.Rows.{range}
use Rattle.debugger.specs.declared.commands.Way.{Way}
use Rattle.debugger.specs.declared.commands.Way.TheVariants.{Step, One}
use Rattle.debugger.specs.declared.commands.DebugCommand.TheVariants.{Break}
use Rattle.debugger.specs.declared.replies.Debugged.{Debugged}
use Rattle.debugger.specs.declared.watch.Watch.{Watch}
use Rattle.debugger.specs.DebugState.{DebugState, has_break, has_watch, hits}
use Rattle.debugger.specs.Changes.{with_break, without_break, with_watch, without_watch, resumed, Debugs}
use Rattle.debugger.specs.Pausing.{is_to_pause, with_pause, after_run, debugged}

-- ---- breakpoints

-- After the change it is so of this one, and of each other as it was.
abbrev pub ChangesOne : {X : Type 0} → (X → DebugState → Bool) → (X → DebugState → DebugState) → Bool → Type 0
ChangesOne {X} has change becomes = (one : X) (d : DebugState)
    → (has one (change one d) ≡ becomes) × ((other : X) → other ≢ one → has other (change one d) ≡ has other d)

-- After setting, a breakpoint is set there, and each other slot has one where it had one.
abbrev pub SetBreaksAreSet : Type 0
SetBreaksAreSet = ChangesOne has_break with_break true

-- After clearing, none is set there, each other slot has one where it had one.
abbrev pub ClearedBreaksAreClear : Type 0
ClearedBreaksAreClear = ChangesOne has_break without_break false

-- each breakpoint is at an instruction of the code
abbrev pub BreaksBegin : List ℕ → DebugState → Type 0
BreaksBegin code d = (slot : ℕ) → has_break slot d ≡ true → IsAt code slot

-- Where each breakpoint is at an instruction of the code, setting one keeps that.
abbrev pub BreaksStayAtInstructions : Type 0
BreaksStayAtInstructions = (code : List ℕ) (slot : ℕ) (old new : DebugState) (outcome : Debugged)
    → Debugs (Break slot) code old outcome new → BreaksBegin code old → BreaksBegin code new

-- ---- watched ranges

-- After setting, the range is watched, and each other range is where it was.
abbrev pub SetWatchesAreSet : Type 0
SetWatchesAreSet = ChangesOne has_watch with_watch true

-- After clearing, the range is not watched, and each other range is where it was.
abbrev pub ClearedWatchesAreClear : Type 0
ClearedWatchesAreClear = ChangesOne has_watch without_watch false

-- Byte i of object or stack n is written.
pub record WritesByte (w : Written) (n i : ℕ) : Type 0 where
  pub number : n ≡ w.number
  pub from : w.offset ≤ i
  pub to : i < w.offset + size_bytes w.size

-- Byte i of object or stack n is in the range.
pub record HasByte (r : Watch) (n i : ℕ) : Type 0 where
  pub number : n ≡ r.number
  pub from : r.offset ≤ i
  pub to : i < r.offset + r.length

-- There is a byte that is written and is in the range.
abbrev pub SharesByte : Written → Watch → Type 0
SharesByte w r = (n i : ℕ) × WritesByte w n i × HasByte r n i

-- A write hits exactly where it shares a byte with one of the watched ranges.
abbrev pub HitsShareAByte : Type 0
HitsShareAByte = (w : Written) (d : DebugState) → (hits (Some w) d ≡ true) ↔ Any (SharesByte w) d.watches

-- An access that only reads never hits, whatever it read.
abbrev pub ReadsNeverHit : Type 0
ReadsNeverHit = (number offset x : ℕ) (size : Size) (d : DebugState)
    → hits (range (record { number = number; op = record { offset = offset; action = Load size } }) x) d ≡ false

-- A compare-exchange that finds another number than R0's never hits.
abbrev pub FailedExchangesNeverHit : Type 0
FailedExchangesNeverHit = (number offset found src r0 : ℕ) (width : Width) (d : DebugState)
    → found ≢ unsigned (width_bits width) r0
    → hits (range (record { number = number; op = record { offset = offset; action = Atomic width CompareExchange src r0 } }) found) d ≡ false

-- ---- steps

-- Looking again before a step changes nothing more: a machine that has paused stays paused.
abbrev pub PausingStays : Type 0
PausingStays = (slot : ℕ) (d : DebugState) → with_pause slot (with_pause slot d) ≡ with_pause slot d

-- A step after `resume` does not pause, whatever is set.
abbrev pub ResumingGoesOn : Type 0
ResumingGoesOn = (slot : ℕ) (d : DebugState) → is_to_pause slot (resumed d) ≡ false

-- After a `step` that ran the machine pauses at each breakpoint again.
abbrev pub PassingEnds : Type 0
PassingEnds = (slot : ℕ) (w : Option Written) (d : DebugState) → has_break slot d ≡ true → is_to_pause slot (after_run Step w d) ≡ true

-- A machine that waits changes nothing, by `step` and by `one`.
abbrev pub WaitingChangesNothing : Type 0
WaitingChangesNothing = (way : Way) (n : ℕ) (d : DebugState) → debugged way (Waiting n) d ≡ d

-- A machine that stops is not paused, and keeps its breakpoints and watched ranges.
abbrev pub StopsEndPauses : Type 0
StopsEndPauses = (way : Way) (s : Stop) (d : DebugState) → debugged way (Stopped s) d ≡ record d { paused = false }

-- After a `one` that ran the machine is paused; all else is as after a `step`.
abbrev pub OnesPause : Type 0
OnesPause = (w : Option Written) (d : DebugState) → debugged One (Ran w) d ≡ record (debugged Step (Ran w) d) { paused = true }

-- Where nothing is set, a machine that is not paused never pauses, and no write hits.
abbrev pub NothingSetNothingPauses : Type 0
NothingSetNothingPauses = (slot : ℕ) (w : Option Written) (d : DebugState)
    → d.breakpoints ≡ [] → d.watches ≡ [] → d.paused ≡ false → (is_to_pause slot d ≡ false) × (hits w d ≡ false)
