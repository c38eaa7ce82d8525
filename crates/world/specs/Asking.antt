-- What the commands ask of the far store, call by call and in order, and what it has of each object then.
use Rattle.std.specs.Prelude.{◌≡◌, ℕ, false, [], ◌∷◌, ◌++◌, set}
use Rattle.far_store.specs.Calls.{Call}
use Rattle.placement.specs.declared.places.Moved.{Moved}
use Rattle.object_store.specs.Asking.{AsksNothing, AsksToFree}
use Rattle.object_store.specs.Lending.{within_memory}
use Rattle.object_store.specs.Stores.{StoreWithin, sent_of, unsent}
use Rattle.world.specs.declared.events.Event.{Event}
use Rattle.world.specs.declared.events.Event.TheVariants as event
use Rattle.world.specs.declared.events.ObjectCommand.{ObjectCommand}
use Rattle.world.specs.declared.events.ObjectCommand.TheVariants as object
use Rattle.world.specs.declared.replies.Reply.{Reply}
use Rattle.world.specs.declared.replies.Reply.TheVariants.{Made, Freed, Done}
use Rattle.world.specs.declared.replies.Reply.TheVariants as answer
use Rattle.world.specs.Answers.{Answers}
use Rattle.world.specs.Machines.{AnswersMachine}
use Rattle.world.specs.Moves.{MoveAsks}
use Rattle.world.specs.WorldState.{WorldWithin, state_of}

-- Nothing is asked. Of an object that is made the far store has nothing.
abbrev pub AsksToMake : {X : Type 0} → StoreWithin X → Reply → StoreWithin X → Type 0
AsksToMake old (Made n) new = (new.far ≡ old.far) × (new.sent ≡ old.sent ++ unsent ∷ [])
AsksToMake old _ new = AsksNothing old new

-- Nothing is asked. An object that is written isn't clean.
abbrev pub AsksToPut : {X : Type 0} → StoreWithin X → ℕ → Reply → StoreWithin X → Type 0
AsksToPut old n Done new = (new.far ≡ old.far) × (new.sent ≡ set old.sent n (record (sent_of old.sent n) { clean = false }))
AsksToPut old n _ new = AsksNothing old new

-- a move of object n, or its end, or its freeing, whose reply holds what came of it
pub record AsksMove {X : Type 0} (asks : StoreWithin X → ℕ → Moved → StoreWithin X
    → Type 0) (reply_with : Moved → Reply) (old : StoreWithin X) (n : ℕ) (reply : Reply) (new : StoreWithin X) : Type 0 where
  pub moved : Moved
  pub replied : reply ≡ reply_with moved
  pub asked : asks old n moved new

-- a command on object n
abbrev pub AsksObject : {X : Type 0} → (X → Call → X → Type 0) → StoreWithin X → ℕ → ObjectCommand → Reply → StoreWithin X → Type 0
AsksObject called old n object.Free reply new = AsksMove (AsksToFree called) (Freed n) old n reply new
AsksObject called old n (object.Put offset bytes) reply new = AsksToPut old n reply new
AsksObject called old n (object.Get offset size) reply new = new ≡ old
AsksObject called old n (object.Move m) reply new = AsksMove (MoveAsks called m) (answer.Moved n m) old n reply new

-- What a command asks that is answered so. One on a machine asks nothing, and an access that writes leaves its object unclean.
abbrev pub Asks : {X : Type 0} → (X → Call → X → Type 0) → WorldWithin X → Event → Reply → WorldWithin X → Type 0
Asks called old (event.Make size) reply new = AsksToMake old.store reply new.store
Asks called old (event.Ship start code) reply new = new.store ≡ old.store
Asks called old (event.Object n command) reply new = AsksObject called old.store n command reply new.store
Asks called old (event.Machine m command) reply new = AnswersMachine (within_memory m) old.machines old.store m command reply new.machines new.store

-- The command may have this reply and lead to this world, by these calls of the far store.
abbrev pub AnswersWithin : {X : Type 0} → (X → Call → X → Type 0) → WorldWithin X → Event → Reply → WorldWithin X → Type 0
AnswersWithin called old command reply new = Answers (state_of old) command reply (state_of new) × Asks called old command reply new
