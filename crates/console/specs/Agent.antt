-- An agent with one conversation: its commands go to one world.
use Rattle.std.specs.Prelude.{ℕ, List, flat_map}
use Rattle.world.specs.WorldState.{WorldState}
use Rattle.world.specs.Answers.{Answers}
use Rattle.world.specs.Unseen.{IsPlainRun}
use Rattle.world.specs.declared.replies.Reply.{Reply}
use Rattle.console.specs.Replies.{reply_text}
use Rattle.console.specs.Conversations.{Protocol, Exchange, turn_commands, turn_replies}

-- the protocol of an agent over one world: its states, what it answers, and the texts of the replies
abbrev pub agent : Protocol
agent = record { State = WorldState; Reply = Reply; step = Answers; text = reply_text }

-- In a conversation moving and debugging change nothing: without both, the commands that were done are a run of an agent
-- whose objects never move and that nobody debugs, with the replies whose texts were written.
abbrev pub ConversationsArePlain : Type 0
ConversationsArePlain = (old new : WorldState) (input output rest : List ℕ) (e : Exchange agent old input output new rest)
    → IsPlainRun old (flat_map (turn_commands agent) e.turns) (flat_map (turn_replies agent) e.turns) new
