-- What a service that listens says, and why it ends.
use Rattle.std.specs.Prelude.{◌≡◌, ◌⊎◌, ⊤, ℕ, Bool, true, All, List, [], ◌∷◌, ◌++◌, Option, Result, Ok, Err, codes, decimal}
use Rattle.std.specs.Io.KnownBytes.{Appends, Keeps}
use Rattle.streams.specs.Streams.{AppendsPart}
use Rattle.listener.specs.Announcing.{listening_at}
use Rattle.atomic_table.specs.Seated.{TableId}
use Rattle.object_store.specs.Parts.{AllHere, IsFirstAway}
use Rattle.object_store.specs.declared.errors.PartsError.{PartsError}
use Rattle.object_store.specs.declared.errors.PartsError.TheVariants as parts_error
use Rattle.shared_objects.specs.declared.seats.ActorSeat.{ActorSeat}
use Rattle.machine.specs.MachineState.{MachineState}
use Rattle.workers.specs.Moves.{MoverState}
use Rattle.workers.specs.Pools.{machines_of}
use Rattle.workers.specs.TableNames.{Passage}
use Rattle.workers.specs.TableNames.Passage.{Ran}
use Rattle.world.specs.WorldState.{WorldState}
use Rattle.ship_service.specs.Closing.{ClosedState, Settles}
use Rattle.ship_service.specs.Conversed.{HadOneClient}
use Rattle.ship_service.specs.ClosingLines.{closing_lines}
use Rattle.ship_service.specs.Opening.{first_mover_view, opened_bytes}
use Rattle.placement.specs.declared.places.Place.{Place}
use Rattle.ship_service.specs.declared.threads.ThreadFault.{ThreadFault}
use Rattle.ship_service.specs.declared.threads.ThreadFault.TheVariants as thread_fault
use Rattle.ship_service.specs.declared.listening.ListenFault.{ListenFault}
use Rattle.ship_service.specs.declared.listening.ListenFault.TheVariants.{NotHere, Memory, Net, Write}

-- the line that says that all has ended
abbrev pub closed_line : List ℕ
closed_line = codes "closed" ++ 10 ∷ []

-- ---- why it ends

-- where no agent is opened
abbrev pub of_opening : PartsError → ListenFault
of_opening (parts_error.NotHere n) = NotHere n
of_opening parts_error.Memory = Memory

-- where its threads end before all its connections have
abbrev pub of_threads : ThreadFault → ListenFault
of_threads thread_fault.Net = Net
of_threads thread_fault.Memory = Memory

-- ---- closing

-- The text tells how a service closed that began with these bytes and machines: that it did, and then what it left. All entries
-- of its machines and connections are one list, by which each object closes, and of which each machine is the replay of its share.
abbrev pub TellsEnd : Type 0 → Bool → TableId → List (List ℕ) → List MachineState → List ℕ → Type 0
TellsEnd X returns table opening starts text = (mover : MoverState X) × (connections : List ActorSeat) × (state : ClosedState X)
    × Settles returns table opening starts mover connections state × (text ≡ closed_line ++ closing_lines state)

-- The same, where mover and connections are those that served. The mover is as its loop left it, which began with all objects here, and
-- each connection as its one client left it, if one came. Whoever served learnt that from the loop and from the conversations, so nothing
-- else moved an object, and the service wrote into none by itself.
abbrev pub TellsClosing : Type 0 → Bool → TableId → List (List ℕ) → List MachineState → (Passage → Bool) → List ℕ → Type 0
TellsClosing X returns table opening starts passed text = (tells : TellsEnd X returns table opening starts text)
    × (passed (Ran (first_mover_view returns opening) tells.0.view) ≡ true) × All (HadOneClient table returns opening passed) tells.1

-- The text tells how a service closed that began with this world.
abbrev pub TellsClosingOf : Type 0 → Bool → WorldState → List ℕ → Type 0
TellsClosingOf X returns world text = (table : TableId) × TellsEnd X returns table (opened_bytes world) (machines_of world.machines) text

-- What is left in the output when the service has closed so: all of such a text, or nothing where there was no memory, or the first
-- part of one where the output failed. It doesn't end otherwise.
abbrev pub SaysClosing : (List ℕ → Type 0) → Option (List ℕ) → Option (List ℕ) → Result ⊤ ListenFault → Type 0
SaysClosing tells before after (Ok ended) = (text : List ℕ) × tells text × Appends before after text
SaysClosing tells before after (Err (NotHere n)) = ⊥
SaysClosing tells before after (Err Memory) = Keeps before after
SaysClosing tells before after (Err Net) = ⊥
SaysClosing tells before after (Err Write) = (text : List ℕ) × tells text × AppendsPart before after text

-- ---- the whole

-- What is left in the output when the service has ended so, where its door has this name: the line of the door and such a text, where all
-- connections have ended; where one couldn't be accepted or there was no memory, that line or nothing; and where the output failed, the
-- first part of the line, or of the line and such a text.
abbrev pub SaysAs : (List ℕ → Type 0) → List ℕ → Option (List ℕ) → Option (List ℕ) → Result ⊤ ListenFault → Type 0
SaysAs tells name before after (Ok ended) = (text : List ℕ) × tells text × Appends before after (listening_at name ++ text)
SaysAs tells name before after (Err (NotHere n)) = Keeps before after
SaysAs tells name before after (Err Memory) = Keeps before after ⊎ Appends before after (listening_at name)
SaysAs tells name before after (Err Net) = Keeps before after ⊎ Appends before after (listening_at name)
SaysAs tells name before after (Err Write) = AppendsPart before after (listening_at name)
    ⊎ ((text : List ℕ) × tells text × AppendsPart before after (listening_at name ++ text))

-- the same where its door is a port
abbrev pub SaysAtPort : (List ℕ → Type 0) → Option (List ℕ) → Option (List ℕ) → Result ⊤ ListenFault → Type 0
SaysAtPort tells before after ended = (port : ℕ) × SaysAs tells (decimal port) before after ended

-- it didn't end because of an object that isn't here
abbrev pub OpensAll : Result ⊤ ListenFault → Type 0
OpensAll (Err (NotHere n)) = ⊥
OpensAll _ = ⊤

-- A world whose objects aren't all here isn't served: the least number of one that isn't is told. Else all are here.
abbrev pub FindsHere : List Place → Result ⊤ ListenFault → Type 0
FindsHere places (Ok ended) = AllHere places
FindsHere places (Err (NotHere n)) = IsFirstAway places n
FindsHere places (Err Memory) = AllHere places
FindsHere places (Err Net) = AllHere places
FindsHere places (Err Write) = AllHere places
