-- An agent whose objects never move: machines over one map of objects, without places, scopes and budget.
use Rattle.std.specs.Prelude.{◌≡◌, ℕ, Bool, true, false, not, ◌||◌, List, [], ◌∷◌, ◌++◌, length, replicate}
use Rattle.memory.specs.Objects.{IsLive, IsFull, HasRange, with_bytes, range_of, with_range}
use Rattle.memory.specs.MapMemory.{map_memory}
use Rattle.placement.specs.declared.places.Moved.TheVariants as moved
use Rattle.debugger.specs.declared.debuggee.Debuggee.{Debuggee}
use Rattle.debugger.specs.declared.replies.StepReply.TheVariants.{Waiting}
use Rattle.world.specs.declared.replies.Reply.{Reply}
use Rattle.world.specs.declared.replies.Reply.TheVariants.{Made, Freed, Done, Bytes, Stepped, NoMemory, Full, NoRoom, Outside, Away}
use Rattle.world.specs.declared.events.Event.{Event}
use Rattle.world.specs.declared.events.Event.TheVariants.{Make, Ship, Object, Machine}
use Rattle.world.specs.declared.events.ObjectCommand.{ObjectCommand}
use Rattle.world.specs.declared.events.ObjectCommand.TheVariants.{Free, Put, Get, Move}
use Rattle.world.specs.WorldState.{WorldState}
use Rattle.world.specs.Machines.{AnswersMachine}
use Rattle.world.specs.Answers.{AnswersShip}
use Rattle.world.specs.Kept.{commands_kept, replies_kept}

-- an agent whose objects never move: machines over one map of objects
pub record PlainState : Type 0 where
  pub machines : List Debuggee
  -- the bytes of each number
  pub objects : List (List ℕ)

-- what is left of a state without places, scopes and budget
abbrev pub plain_of : WorldState → PlainState
plain_of w = record { machines = w.machines; objects = w.store.objects }

-- ---- objects

-- whether the budget has room is left open
abbrev pub MakesPlain : List (List ℕ) → ℕ → Reply → List (List ℕ) → Type 0
MakesPlain old size Full new = IsFull old × (new ≡ old)
MakesPlain old size NoRoom new = (IsFull old → ⊥) × (new ≡ old)
MakesPlain old size NoMemory new = (IsFull old → ⊥) × (new ≡ old)
MakesPlain old size (Made n) new = (IsFull old → ⊥) × (n ≡ length old) × (new ≡ old ++ replicate size 0 ∷ [])
MakesPlain old size _ new = ⊥

-- whether an object is in its place, and in no scope, is left open
abbrev pub FreesPlain : List (List ℕ) → ℕ → Reply → List (List ℕ) → Type 0
FreesPlain old n (Freed k moved.NoObject) new = (k ≡ n) × (IsLive old n → ⊥) × (new ≡ old)
FreesPlain old n (Freed k (moved.Misplaced p)) new = (k ≡ n) × IsLive old n × (new ≡ old)
FreesPlain old n (Freed k moved.Scoped) new = (k ≡ n) × IsLive old n × (new ≡ old)
FreesPlain old n (Freed k moved.Done) new = (k ≡ n) × IsLive old n × (new ≡ with_bytes old n [])
FreesPlain old n _ new = ⊥

-- the bytes stand over those of the object from the offset on
abbrev pub PutsPlain : List (List ℕ) → ℕ → ℕ → List ℕ → Reply → List (List ℕ) → Type 0
PutsPlain old n offset bytes Outside new = (HasRange old n offset (length bytes) → ⊥) × (new ≡ old)
PutsPlain old n offset bytes Done new = HasRange old n offset (length bytes) × (new ≡ with_range old n offset bytes)
PutsPlain old n offset bytes _ new = ⊥

-- the object's bytes from the offset on
abbrev pub GetsPlain : List (List ℕ) → ℕ → ℕ → ℕ → Reply → List (List ℕ) → Type 0
GetsPlain old n offset size Outside new = (HasRange old n offset size → ⊥) × (new ≡ old)
GetsPlain old n offset size NoMemory new = HasRange old n offset size × (new ≡ old)
GetsPlain old n offset size (Bytes shown) new = HasRange old n offset size × (shown ≡ range_of old n offset size) × (new ≡ old)
GetsPlain old n offset size _ new = ⊥

-- a command on object n; none moves it
abbrev pub ObjectPlain : List (List ℕ) → ℕ → ObjectCommand → Reply → List (List ℕ) → Type 0
ObjectPlain old n Free reply new = FreesPlain old n reply new
ObjectPlain old n (Put offset bytes) reply new = PutsPlain old n offset bytes reply new
ObjectPlain old n (Get offset size) reply new = GetsPlain old n offset size reply new
ObjectPlain old n (Move m) reply new = ⊥

-- ---- commands

-- The commands but for the moves. On machines they are what they are, over the map of objects, so that none waits.
abbrev pub PlainAnswers : PlainState → Event → Reply → PlainState → Type 0
PlainAnswers old (Make size) reply new = MakesPlain old.objects size reply new.objects × (new.machines ≡ old.machines)
PlainAnswers old (Ship start code) reply new = AnswersShip old.machines start code reply new.machines × (new.objects ≡ old.objects)
PlainAnswers old (Object n command) reply new = ObjectPlain old.objects n command reply new.objects × (new.machines ≡ old.machines)
PlainAnswers old (Machine m command) reply new = AnswersMachine map_memory old.machines old.objects m command reply new.machines new.objects

-- ---- what is left out

-- a command that moves an object
abbrev pub is_move : Event → Bool
is_move (Object n (Move m)) = true
is_move _ = false

-- the object isn't here, so nothing was done
abbrev pub is_absence : Reply → Bool
is_absence (Stepped m (Waiting n)) = true
is_absence (Away n) = true
is_absence _ = false

-- a command of an agent whose objects never move, with its reply
abbrev pub is_unmoved : Event → Reply → Bool
is_unmoved c r = not (is_move c || is_absence r)

-- a run without the moves, and without what was not done since an object was away
abbrev pub unmoved_commands : List Event → List Reply → List Event
unmoved_commands cs rs = commands_kept is_unmoved cs rs

-- its replies
abbrev pub unmoved_replies : List Event → List Reply → List Reply
unmoved_replies cs rs = replies_kept is_unmoved cs rs
