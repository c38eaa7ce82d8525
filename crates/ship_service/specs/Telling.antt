-- The `ok` of `put` and the `bytes` of `get` are the answers of entries that are added at the connection's seat: these, in
-- order, and no others.
use Rattle.std.specs.Prelude.{◌≡◌, Bool, ℕ, ◌<◌, ◌≤◌, List, [], ◌∷◌, ◌++◌, map, flat_map}
use Rattle.memory.specs.declared.deeds.Entry.{Entry as OwnEntry}
use Rattle.memory.specs.declared.deeds.Deed.TheVariants.{Reads, Writes}
use Rattle.memory.specs.declared.deeds.Given.TheVariants.{Bytes, Nothing}
use Rattle.shared_objects.specs.SeatMemories.{own_entry}
use Rattle.shared_objects.specs.declared.view.SharedEntry.{SharedEntry}
use Rattle.machine.specs.MachineState.{MachineState}
use Rattle.debugger.specs.declared.commands.Way.{Way}
use Rattle.debugger.specs.declared.commands.MachineCommand.TheVariants.{Step}
use Rattle.workers.specs.Cells.{SeatState}
use Rattle.workers.specs.TableNames.{Passage}
use Rattle.world.specs.declared.events.Event.{Event}
use Rattle.world.specs.declared.events.Event.TheVariants.{Object}
use Rattle.world.specs.declared.events.ObjectCommand.TheVariants.{Put, Get}
use Rattle.world.specs.declared.replies.Reply.TheVariants as answer
use Rattle.console.specs.Conversations.{Exchange, Answered, turn_commands, turn_replies}
use Rattle.ship_service.specs.declared.replies.ServiceReply.{ServiceReply}
use Rattle.ship_service.specs.declared.replies.ServiceReply.TheVariants.{Plain}
use Rattle.ship_service.specs.Served.{OnCell, service}

-- what a command with this reply adds: object, what was done, and what was given
abbrev pub added : Event → ServiceReply → List OwnEntry
added (Object n (Put offset bytes)) (Plain answer.Done) = record { number = n; deed = Writes offset bytes; given = Nothing } ∷ []
added (Object n (Get offset size)) (Plain (answer.Bytes bytes)) = record { number = n; deed = Reads offset size; given = Bytes bytes } ∷ []
added _ _ = []

-- what the commands with these replies add, in order
abbrev pub all_added : List Event → List ServiceReply → List OwnEntry
all_added (c ∷ cs) (r ∷ rs) = added c r ++ all_added cs rs
all_added _ _ = []

-- the entries are of this actor, and their stamps rise from above the one to at most the other
abbrev pub RiseTo : ℕ → ℕ → List SharedEntry → ℕ → Type 0
RiseTo actor low [] high = low ≤ high
RiseTo actor low (e ∷ es) high = (e.actor ≡ actor) × (low < e.stamp) × RiseTo actor e.stamp es high

-- The seat has these entries more, of its own actor, each stamped above all that the seat had seen before it.
pub record TellsEntries (old : SeatState) (commands : List Event) (replies : List ServiceReply) (new : SeatState) : Type 0 where
  pub more : List SharedEntry
  pub entries : new.view.entries ≡ old.view.entries ++ more
  pub tells : map own_entry more ≡ all_added commands replies
  pub stamps : RiseTo old.view.actor old.stamp more new.stamp
  pub actor : new.view.actor ≡ old.view.actor

-- In a conversation the replies are the entries' answers.
abbrev pub RepliesAreEntries : List (List ℕ) → List MachineState → (Passage → Bool) → Type 0
RepliesAreEntries opening starts passed =
    (old new : SeatState) (input output rest : List ℕ) (e : Exchange (service opening starts passed) old input output new rest)
    → TellsEntries old (flat_map (turn_commands (service opening starts passed)) e.turns) (flat_map (turn_replies (service opening starts passed)) e.turns) new

-- So it is for a line whose reply is written in part.
abbrev pub ReplyIsEntry : List (List ℕ) → List MachineState → (Passage → Bool) → Type 0
ReplyIsEntry opening starts passed = (old new : SeatState) (line bytes : List ℕ) (a : Answered (service opening starts passed) old line bytes new)
    → TellsEntries old (turn_commands (service opening starts passed) a.0) (turn_replies (service opening starts passed) a.0) new

-- What a step adds at the machine's seat: entries of its actor, stamped above all that the connection had seen before it, and at
-- most at what it has seen after.
pub record StepsAbove (m : ℕ) (old : SeatState) (before after : SeatState) (new : SeatState) : Type 0 where
  pub more : List SharedEntry
  pub entries : after.view.entries ≡ before.view.entries ++ more
  pub stamps : RiseTo m old.stamp more new.stamp

-- So it is for each step that a connection asks for.
abbrev pub StepsStandAbove : List (List ℕ) → List MachineState → (Passage → Bool) → Type 0
StepsStandAbove opening starts passed = (old new : SeatState) (m : ℕ) (way : Way) (reply : ServiceReply) (c : OnCell opening starts passed old m (Step way) reply new)
    → StepsAbove m old c.before.seat c.after.seat new
