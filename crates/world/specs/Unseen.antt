-- Moving objects and debugging change nothing else.
use Rattle.std.specs.Prelude.{List}
use Rattle.world.specs.declared.replies.Reply.{Reply}
use Rattle.world.specs.Run.{Runs}
use Rattle.world.specs.declared.events.Event.{Event}
use Rattle.world.specs.WorldState.{WorldState}
use Rattle.world.specs.Answers.{Answers}
use Rattle.world.specs.Plain.{PlainAnswers, plain_of, unmoved_commands, unmoved_replies}
use Rattle.world.specs.Undebugged.{undebugged, undebugged_commands, undebugged_replies}

-- Without the moves, and without what was answered that an object is away, a run is one of an agent whose objects never
-- move, with the same replies.
abbrev pub IsUnmovedRun : WorldState → List Event → List Reply → WorldState → Type 0
IsUnmovedRun old cs rs new = Runs PlainAnswers (plain_of old) (unmoved_commands cs rs) (unmoved_replies cs rs) (plain_of new)

-- Without the debugging commands, and without what was answered that a machine is paused, a run is one in which nobody
-- debugs, with the same replies but that a hit is a step that ran.
abbrev pub IsUndebuggedRun : WorldState → List Event → List Reply → WorldState → Type 0
IsUndebuggedRun old cs rs new = Runs Answers (undebugged old) (undebugged_commands cs rs) (undebugged_replies cs rs) (undebugged new)

-- Without both, a run is one of an agent that nobody debugs and whose objects never move.
abbrev pub IsPlainRun : WorldState → List Event → List Reply → WorldState → Type 0
IsPlainRun old cs rs new = IsUnmovedRun (undebugged old) (undebugged_commands cs rs) (undebugged_replies cs rs) (undebugged new)

-- Moving changes nothing: what is left of a run is such a run.
abbrev pub MovingChangesNothing : Type 0
MovingChangesNothing = (old new : WorldState) (cs : List Event) (rs : List Reply) → Runs Answers old cs rs new → IsUnmovedRun old cs rs new

-- Debugging changes nothing: what is left of a run is such a run.
abbrev pub DebuggingChangesNothing : Type 0
DebuggingChangesNothing = (old new : WorldState) (cs : List Event) (rs : List Reply) → Runs Answers old cs rs new → IsUndebuggedRun old cs rs new

-- Both together change nothing: what is left of a run is such a run.
abbrev pub NeitherChangesAnything : Type 0
NeitherChangesAnything = (old new : WorldState) (cs : List Event) (rs : List Reply) → Runs Answers old cs rs new → IsPlainRun old cs rs new
