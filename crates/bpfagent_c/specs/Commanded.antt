-- What an export says of a command: the command's own relation, with the reply as a number.
use Rattle.std.specs.Prelude.{◌≡◌, ℕ, true, false, Option, None, Some}
use Rattle.world.specs.Answers.{Answers}
use Rattle.world.specs.declared.events.Event.{Event}
use Rattle.world.specs.declared.replies.Reply.{Reply}
use Rattle.world.specs.WorldState.{state_of}
use Rattle.bpfagent_c.specs.declared.handle.Agent.{Agent}
use Rattle.bpfagent_c.specs.Codes.{code_of}

-- There is no agent, before and after.
abbrev pub HasNone : Agent → Agent → Type 0
HasNone old new = (old.live ≡ false) × (new.live ≡ false)

-- The agent does the command and has this reply, or there is none.
abbrev pub Commanded : Agent → Event → Option Reply → Agent → Type 0
Commanded old c None new = HasNone old new
Commanded old c (Some r) new = (old.live ≡ true) × (new.live ≡ true) × Answers (state_of old.held.state) c r (state_of new.held.state)

-- It does the command, and its reply has this number.
abbrev pub RepliesNumber : Agent → Event → ℕ → Agent → Type 0
RepliesNumber old c number new = (given : Option Reply) × Commanded old c given new × (number ≡ code_of given)
