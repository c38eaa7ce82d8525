-- What the commands do: which reply each may have, and to which state it leads. Refusals change nothing, and are tested in the order written.
use Rattle.std.specs.Prelude.{◌≡◌, ◌≢◌, ℕ, ◌+◌, List, [], ◌∷◌, ◌++◌, length, Ok, Err}
use Rattle.loader.specs.ValidCode.{ValidCode}
use Rattle.loader.specs.Refusals.{HasCodeSize, Refuses}
use Rattle.loader.specs.declared.loading.Why.TheVariants as why
use Rattle.object_store.specs.Stores.{StoreState, store_memory}
use Rattle.object_store.specs.Calls.{Makes, Gets, Puts, Frees}
use Rattle.placement.specs.declared.places.Moved.{Moved}
use Rattle.object_store.specs.declared.errors.MakeError.TheVariants as make_error
use Rattle.object_store.specs.declared.errors.Denied.{Denied}
use Rattle.object_store.specs.declared.errors.Denied.TheVariants as why_denied
use Rattle.object_store.specs.declared.errors.GetError.TheVariants as get_error
use Rattle.debugger.specs.declared.start.Start.{Start}
use Rattle.debugger.specs.declared.debuggee.Debuggee.{Debuggee}
use Rattle.debugger.specs.Debuggees.{debuggee_start}
pub use Rattle.world.specs.declared.replies.Reply.{Reply}
use Rattle.world.specs.declared.replies.Reply.TheVariants.{Made, Freed, Done, Bytes, Shipped, NoMemory, Full, NoRoom, Outside, Away, Refused}
use Rattle.world.specs.declared.replies.Reply.TheVariants as answer
pub use Rattle.world.specs.declared.events.Event.{Event}
use Rattle.world.specs.declared.events.Event.TheVariants as event
pub use Rattle.world.specs.declared.events.ObjectCommand.{ObjectCommand}
pub use Rattle.world.specs.declared.world.moving.Move.{Move}
use Rattle.world.specs.declared.events.ObjectCommand.TheVariants as object
use Rattle.world.specs.WorldState.{WorldState, AreAllShipped}
use Rattle.world.specs.Machines.{AnswersMachine}
use Rattle.world.specs.Moves.{Moves}

-- ---- objects

-- The store changes so, and the machines stay as they are.
abbrev pub InStore : (StoreState → StoreState → Type 0) → WorldState → WorldState → Type 0
InStore change old new = change old.store new.store × (new ≡ record old { store = new.store })

-- an object of so many zero bytes; numbers count up from 1, and none is used again
abbrev pub AnswersMake : WorldState → ℕ → Reply → WorldState → Type 0
AnswersMake old size Full new = InStore (λ s t. Makes s size (Err make_error.Full) t) old new
AnswersMake old size NoRoom new = InStore (λ s t. Makes s size (Err make_error.NoRoom) t) old new
AnswersMake old size NoMemory new = InStore (λ s t. Makes s size (Err make_error.Memory) t) old new
AnswersMake old size (Made n) new = InStore (λ s t. Makes s size (Ok n) t) old new
AnswersMake old size _ new = ⊥

-- the bytes stand over those of the object from the offset on
abbrev pub AnswersPut : WorldState → ℕ → ℕ → List ℕ → Reply → WorldState → Type 0
AnswersPut old n offset bytes Outside new = InStore (λ s t. Puts s n offset bytes (Err why_denied.Outside) t) old new
AnswersPut old n offset bytes (Away k) new = (k ≡ n) × InStore (λ s t. Puts s n offset bytes (Err why_denied.Away) t) old new
AnswersPut old n offset bytes Done new = InStore (λ s t. Puts s n offset bytes (Ok tt) t) old new
AnswersPut old n offset bytes _ new = ⊥

-- the reply where an access of object n is denied
abbrev pub denied : ℕ → Denied → Reply
denied n why_denied.Outside = Outside
denied n why_denied.Away = Away n

-- the object's bytes from the offset on
abbrev pub AnswersGet : StoreState → ℕ → ℕ → ℕ → Reply → Type 0
AnswersGet s n offset size Outside = Gets s n offset size (Err (get_error.Denied why_denied.Outside))
AnswersGet s n offset size (Away k) = (k ≡ n) × Gets s n offset size (Err (get_error.Denied why_denied.Away))
AnswersGet s n offset size NoMemory = Gets s n offset size (Err get_error.Memory)
AnswersGet s n offset size (Bytes shown) = Gets s n offset size (Ok shown)
AnswersGet s n offset size _ = ⊥

-- ---- moves

-- a move of object n, or its end, or its freeing, whose reply holds what came of it
pub record AnswersMove (moves : StoreState → ℕ → Moved → StoreState
    → Type 0) (reply_with : Moved → Reply) (old : WorldState) (n : ℕ) (reply : Reply) (new : WorldState) : Type 0 where
  pub moved : Moved
  pub move : moves old.store n moved new.store
  pub replied : reply ≡ reply_with moved
  pub changed : new ≡ record old { store = new.store }

-- ---- machines

-- A machine at the start of the code, of the next number. That memory ran out may also be answered of code that isn't valid, in
-- place of the refusal: room is taken before the code is read. Code that is empty or too long takes none.
abbrev pub AnswersShip : List Debuggee → Start → List ℕ → Reply → List Debuggee → Type 0
AnswersShip old start code Full new = AreAllShipped old × (new ≡ old)
AnswersShip old start code (Refused e) new = (AreAllShipped old → ⊥) × Refuses code e.slot e.why × (e.why ≢ why.Memory) × (new ≡ old)
AnswersShip old start code NoMemory new = (AreAllShipped old → ⊥) × HasCodeSize code × (new ≡ old)
AnswersShip old start code (Shipped m) new = (AreAllShipped old → ⊥) × ValidCode code × (m ≡ length old + 1) × (new ≡ old ++ debuggee_start m code start ∷ [])
AnswersShip old start code _ new = ⊥

-- ---- commands

-- a command on object n
abbrev pub AnswersObject : WorldState → ℕ → ObjectCommand → Reply → WorldState → Type 0
AnswersObject old n object.Free reply new = AnswersMove Frees (Freed n) old n reply new
AnswersObject old n (object.Put offset bytes) reply new = AnswersPut old n offset bytes reply new
AnswersObject old n (object.Get offset size) reply new = AnswersGet old.store n offset size reply × (new ≡ old)
AnswersObject old n (object.Move m) reply new = AnswersMove (Moves m) (answer.Moved n m) old n reply new

-- From old, the command may have this reply and lead to new.
abbrev pub Answers : WorldState → Event → Reply → WorldState → Type 0
Answers old (event.Make size) reply new = AnswersMake old size reply new
Answers old (event.Ship start code) reply new = AnswersShip old.machines start code reply new.machines × (new.store ≡ old.store)
Answers old (event.Object n command) reply new = AnswersObject old n command reply new
Answers old (event.Machine m command) reply new = AnswersMachine (store_memory m) old.machines old.store m command reply new.machines new.store
