-- What `run` leaves in its streams.
use Rattle.std.specs.Prelude.{ℕ, ⊤, List, Option, Some, Result, Ok, Err}
use Rattle.std.specs.Io.KnownBytes.{Keeps}
use Rattle.world.specs.WorldState.{WorldState, WorldWithin, state_of, world_start}
use Rattle.console.specs.Held.{Held}
use Rattle.console.specs.Agent.{agent}
use Rattle.console.specs.Conversations.{AnswersAll, StopsReading, StopsWriting}
use Rattle.agent.specs.declared.failure.Failure.{Failure}
use Rattle.agent.specs.declared.failure.Failure.TheVariants.{Refused, WrongLine, InputTooLong, Read, Write, NoMemory}

-- Over this input, in the output, which was as before, and unread: all replies from a world with this budget and no machine and
-- no object, over a store without faults, or those up to where a stream failed. Out of memory before the first line leaves both
-- streams as they were.
abbrev pub RunLeaves : ℕ → List ℕ → Option (List ℕ) → Option (List ℕ) → Option (List ℕ) → Result ⊤ Failure → Type 0
RunLeaves budget input before after unread (Ok done) = (end : WorldState) × AnswersAll agent (world_start budget 0) input before after end
RunLeaves budget input before after unread (Err Read) = (end : WorldState) × (held : Held)
    × StopsReading agent (world_start budget 0) input before after end held unread
RunLeaves budget input before after unread (Err Write) = (end : WorldState) × StopsWriting agent (world_start budget 0) input before after end unread
RunLeaves budget input before after unread (Err NoMemory) = Keeps before after × Keeps (Some input) unread
RunLeaves budget input before after unread (Err (Refused error)) = ⊥
RunLeaves budget input before after unread (Err (WrongLine error)) = ⊥
RunLeaves budget input before after unread (Err InputTooLong) = ⊥

-- The same of the commands and the world that they leave.
abbrev pub CommandsLeave : {X : Type 0} → ℕ → List ℕ → Option (List ℕ) → Option (List ℕ) → Option (List ℕ) → Result (WorldWithin X) Failure → Type 0
CommandsLeave budget input before after unread (Ok end) = AnswersAll agent (world_start budget 0) input before after (state_of end)
CommandsLeave budget input before after unread (Err failure) = RunLeaves budget input before after unread (Err failure)
