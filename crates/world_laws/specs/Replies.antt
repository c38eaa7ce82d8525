-- What replies tell of the state, and which replies there may be.
use Rattle.std.specs.Prelude.{◌≡◌, ◌≢◌, ℕ, zero, suc, Bool, true, false, List, [], ◌∷◌, length, map, ◌⊎◌}
use Rattle.memory.specs.Objects.{bytes_of}
use Rattle.placement.specs.declared.places.Place.{Place}
use Rattle.placement.specs.declared.places.Place.TheVariants.{Here}
use Rattle.placement.specs.declared.places.Moved.{Moved}
use Rattle.placement.specs.declared.places.Moved.TheVariants as moved
use Rattle.object_store.specs.Stores.{with_place, window_of, HasRisen}
use Rattle.machine.specs.MachineState.{MachineState}
use Rattle.debugger.specs.declared.debuggee.Debuggee.{Debuggee}
use Rattle.world.specs.declared.replies.Reply.{Reply}
use Rattle.world.specs.declared.replies.Reply.TheVariants.{Made, Done, Bytes, Shipped, NoMemory, Full, NoRoom, Outside, Away, Refused, Missing}
use Rattle.world.specs.declared.replies.Reply.TheVariants as answer
use Rattle.debugger.specs.declared.show.ShowReply.TheVariants as show_reply
use Rattle.debugger.specs.declared.replies.Debugged.TheVariants as debugged
use Rattle.debugger.specs.declared.commands.MachineCommand.{MachineCommand}
use Rattle.debugger.specs.declared.commands.MachineCommand.TheVariants.{Step, Show, Debug}
use Rattle.debugger.specs.declared.commands.DebugCommand.{DebugCommand}
use Rattle.world.specs.declared.events.Event.{Event}
use Rattle.world.specs.declared.events.Event.TheVariants.{Make, Ship, Object, Machine}
use Rattle.world.specs.declared.events.ObjectCommand.TheVariants.{Put, Get}
use Rattle.world.specs.WorldState.{WorldState, world_start, machine_at}
use Rattle.world.specs.Run.{Runs}
use Rattle.world.specs.Moves.{place_before}
use Rattle.world.specs.Answers.{Answers}

-- ---- what changes nothing

-- a move, or freeing, that was refused
abbrev pub is_refused : Moved → Bool
is_refused moved.Done = false
is_refused (moved.Fault f) = false
is_refused _ = true

-- a reply that says why a command was not done
abbrev pub is_refusal : Reply → Bool
is_refusal (answer.Freed n m) = is_refused m
is_refusal (answer.Moved n kind m) = is_refused m
is_refusal (answer.Shown m show_reply.Outside) = true
is_refusal (answer.Shown m show_reply.NoSlot) = true
is_refusal (answer.Shown m show_reply.NoMemory) = true
is_refusal (answer.Debugged debugged.Done) = false
is_refusal (answer.Debugged _) = true
is_refusal NoMemory = true
is_refusal Full = true
is_refusal NoRoom = true
is_refusal Outside = true
is_refusal (Away n) = true
is_refusal (Refused e) = true
is_refusal Missing = true
is_refusal _ = false

-- A refusal changes nothing.
abbrev pub RefusalsChangeNothing : Type 0
RefusalsChangeNothing = (old new : WorldState) (command : Event) (reply : Reply) → Answers old command reply new → is_refusal reply ≡ true → new ≡ old

-- the far store failed, and object n is at place p
abbrev pub TellsFault : ℕ → Place → Reply → Type 0
TellsFault n p (answer.Freed k (moved.Fault f)) = (k ≡ n) × (p ≡ Here)
TellsFault n p (answer.Moved k kind (moved.Fault f)) = (k ≡ n) × (p ≡ place_before kind)
TellsFault n p _ = ⊥

-- A fault of the far store changes the place of the object, to the one that is told, and the count of faults, which rises.
abbrev pub FaultsChangeOnePlace : Type 0
FaultsChangeOnePlace = (old new : WorldState) (command : Event) (n : ℕ) (p : Place) (reply : Reply) → TellsFault n p reply → Answers old command reply new
    → HasRisen old.store.faults new.store.faults × (new ≡ record old { store = record (with_place old.store n p) { faults = new.store.faults } })

-- a command that shows something
abbrev pub is_showing : Event → Bool
is_showing (Object n (Get offset size)) = true
is_showing (Machine m (Show command)) = true
is_showing _ = false

-- Showing changes nothing.
abbrev pub ShowingChangesNothing : Type 0
ShowingChangesNothing = (old new : WorldState) (command : Event) (reply : Reply) → Answers old command reply new → is_showing command ≡ true → new ≡ old

-- ---- one machine

-- the machine apart from its debug state
abbrev pub machine_in : Debuggee → MachineState
machine_in d = d.machine

-- A debugging command leaves the objects, every machine, and the debug state of every other machine as they were.
abbrev pub DebuggingChangesDebugStateAlone : Type 0
DebuggingChangesDebugStateAlone = (old new : WorldState) (m : ℕ) (command : DebugCommand) (reply : Reply) → Answers old (Machine m (Debug command)) reply new
    → (new.store ≡ old.store) × (map machine_in new.machines ≡ map machine_in old.machines)
    × ((k : ℕ) → k ≢ m → machine_at new.machines k ≡ machine_at old.machines k)

-- A command on one machine leaves every other machine, its debug state and what it has in scope, as they were.
abbrev pub OthersStay : Type 0
OthersStay = (old new : WorldState) (m k : ℕ) (command : MachineCommand) (reply : Reply) → Answers old (Machine m command) reply new → k ≢ m
    → (machine_at new.machines k ≡ machine_at old.machines k) × (window_of new.store.windows k ≡ window_of old.store.windows k)

-- the code of each command `ship` that was answered `shipped`, in order
abbrev pub shipped_codes : List Event → List Reply → List (List ℕ)
shipped_codes (Ship start code ∷ commands) (Shipped m ∷ replies) = code ∷ shipped_codes commands replies
shipped_codes (command ∷ commands) (reply ∷ replies) = shipped_codes commands replies
shipped_codes _ _ = []

-- the code of a machine
abbrev pub code_of : Debuggee → List ℕ
code_of d = d.machine.code

-- Whatever was done, the programs are those that were shipped, byte for byte and in order.
abbrev pub RunsWhatWasShipped : Type 0
RunsWhatWasShipped = (budget faults : ℕ) (commands : List Event) (replies : List Reply) (new : WorldState)
    → Runs Answers (world_start budget faults) commands replies new
    → map code_of new.machines ≡ shipped_codes commands replies

-- ---- objects

-- a command on objects alone
abbrev pub is_on_objects : Event → Bool
is_on_objects (Make size) = true
is_on_objects (Object n command) = true
is_on_objects _ = false

-- a step of a machine
abbrev pub is_step : Event → Bool
is_step (Machine m (Step way)) = true
is_step _ = false

-- Commands on objects leave all machines and their debug states as they were.
abbrev pub MachinesStay : Type 0
MachinesStay = (old new : WorldState) (command : Event) (reply : Reply) → Answers old command reply new
    → is_on_objects command ≡ true → new.machines ≡ old.machines

-- Commands on machines leave the objects as they were, but for steps.
abbrev pub ObjectsStay : Type 0
ObjectsStay = (old new : WorldState) (command : Event) (reply : Reply) → Answers old command reply new → is_on_objects command ≡ false
    → is_step command ≡ false → new.store ≡ old.store

-- Writing bytes into an object leaves every other object as it was.
abbrev pub PutsStayApart : Type 0
PutsStayApart = (old new : WorldState) (n offset k : ℕ) (bytes : List ℕ) (reply : Reply) → Answers old (Object n (Put offset bytes)) reply new → k ≢ n
    → bytes_of new.store.objects k ≡ bytes_of old.store.objects k

-- What was put is what is got.
abbrev pub GetsWhatWasPut : Type 0
GetsWhatWasPut = (old new : WorldState) (n offset : ℕ) (bytes : List ℕ) (reply : Reply)
    → Runs Answers old (Object n (Put offset bytes) ∷ Object n (Get offset (length bytes)) ∷ []) (Done ∷ reply ∷ []) new
    → (reply ≡ Bytes bytes) ⊎ (reply ≡ NoMemory)

-- the numbers of the replies `made`, in order
abbrev pub made_numbers : List Reply → List ℕ
made_numbers [] = []
made_numbers (Made n ∷ replies) = n ∷ made_numbers replies
made_numbers (reply ∷ replies) = made_numbers replies

-- so many numbers, counting up from the first
abbrev pub counted_from : ℕ → ℕ → List ℕ
counted_from n zero = []
counted_from n (suc count) = n ∷ counted_from (suc n) count

-- Objects are numbered from 1, in the order in which they are made. So no number is used again, freed or not.
abbrev pub NumbersCountUp : Type 0
NumbersCountUp = (budget faults : ℕ) (commands : List Event) (replies : List Reply) (new : WorldState)
    → Runs Answers (world_start budget faults) commands replies new
    → made_numbers replies ≡ counted_from 1 (length (made_numbers replies))

-- ---- one way

-- a reply that comes neither of memory that ran out nor of a far store that failed
abbrev pub is_settled : Reply → Bool
is_settled NoMemory = false
is_settled (answer.Shown m show_reply.NoMemory) = false
is_settled (answer.Freed n (moved.Fault f)) = false
is_settled (answer.Moved n kind (moved.Fault f)) = false
is_settled _ = true

-- the state but for the count of faults of the far store
abbrev pub without_faults : WorldState → WorldState
without_faults w = record w { store = record w.store { faults = 0 } }

-- But for such replies, a command has one reply and leads to one state, from states and up to states that differ in the
-- count of faults alone.
abbrev pub AnswersOneWay : Type 0
AnswersOneWay = (old aside new other : WorldState) (command : Event) (a b : Reply) → without_faults old ≡ without_faults aside
    → Answers old command a new → Answers aside command b other → is_settled a ≡ true → is_settled b ≡ true
    → (a ≡ b) × (without_faults new ≡ without_faults other)

-- each of these replies is such a one
abbrev pub AreSettled : List Reply → Type 0
AreSettled [] = Unit {0}
AreSettled (reply ∷ replies) = (is_settled reply ≡ true) × AreSettled replies

-- So commands have one run: their replies are determined, and so is the state to which they lead.
abbrev pub RunsOneWay : Type 0
RunsOneWay = (old aside new other : WorldState) (commands : List Event) (as' bs : List Reply) → without_faults old ≡ without_faults aside
    → Runs Answers old commands as' new → Runs Answers aside commands bs other → AreSettled as' → AreSettled bs
    → (as' ≡ bs) × (without_faults new ≡ without_faults other)
