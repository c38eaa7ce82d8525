-- The five theorems of docs/CLAIMS.md, as statements. Each stands on a function of src/theorems.rt, whose clause it is. What a part
-- of a theorem says in full stands in the crate that it is imported from, where a function has it as its clause too.
use Rattle.std.specs.Prelude.{◌≡◌, ◌⊎◌, ℕ, ⊤, Bool, true, false, List, ◌++◌, map, flat_map, All, Option, None, Some, Ok}
use Rattle.std.specs.Io.KnownBytes.{Appends}
use Rattle.std.specs.declared.net.tcp.TcpStream.{TcpStream}
use Rattle.atomic_table.specs.Seated.{TableId}
use Rattle.isa_table.specs.declared.instr.Instr.{Instr}
use Rattle.bpf_codec.specs.Faults.{NoFaultWhereEncoded}
use Rattle.bpf_codec.specs.Slots.{NoneBeginsAnother, NoneShared}
use Rattle.loader.specs.Laws.{OneRefusal, NoRefusalOfValid}
use Rattle.memory.specs.MapMemory.{map_memory}
use Rattle.memory.specs.Memories.{Memories}
use Rattle.memory.specs.Objects.{bytes_of}
use Rattle.far_stream.specs.Deferring.{Deferring}
use Rattle.far_stream.specs.declared.buffered.Buffered.{Buffered}
use Rattle.machine.specs.Confinement.{StepsAreConfined, StepsProtect}
use Rattle.machine.specs.Granted.{EntriesAreGranted, ReplaysAreConfined}
use Rattle.machine.specs.declared.state.Stop.{Stop}
use Rattle.machine.specs.declared.state.Stepped.{Stepped}
use Rattle.machine.specs.MachineState.{MachineState}
use Rattle.machine.specs.Rows.{Answer, Outcome, asks, row_outcome, stops}
use Rattle.machine.specs.TableStep.{TableStep, Attempts, StopsBefore, AnswersRequest, Closes}
use Rattle.machine.specs.Laws.{StartsWhole, StaysWhole, MapAlwaysSteps, MapStepsOneWay, FuelBounds, FuelCounts, WaitsInPlace, WaitingDoesNothing, StoppedStays}
use Rattle.machine.specs.Laws.{StopsInPlace, ChangesOne}
use Rattle.shared_objects.specs.History.{Has}
use Rattle.shared_objects.specs.Laws.{TablesHaveHistories, WordsShowSeats, LegalHistoriesRun, OneListsAreLegal, SortedEntriesRun}
use Rattle.shared_objects.specs.Laws.{StampsCover, LearntStandsBefore}
use Rattle.shared_objects.specs.Legal.{Legal}
use Rattle.shared_objects.specs.One.{all_entries, entries_by, sorted}
use Rattle.shared_objects.specs.One.{Runs as ListRuns}
use Rattle.shared_objects.specs.Parts.{part_of}
use Rattle.shared_objects.specs.declared.seats.ActorSeat.{ActorSeat}
use Rattle.shared_objects.specs.declared.view.Part.{Part}
use Rattle.workers.specs.Cells.{RunningState}
use Rattle.workers.specs.Moves.{MoverState}
use Rattle.workers.specs.Pools.{machines_of}
use Rattle.workers.specs.TableNames.{Passage}
use Rattle.workers.specs.declared.closing.ClosedCell.{ClosedCell}
use Rattle.world.specs.Answers.{Answers}
use Rattle.world.specs.Run.{Runs}
use Rattle.world.specs.Unseen.{IsPlainRun}
use Rattle.world.specs.WorldState.{WorldState, world_start}
use Rattle.world.specs.declared.events.Event.{Event}
use Rattle.world.specs.declared.replies.Reply.{Reply}
use Rattle.console.specs.Agent.{agent}
use Rattle.console.specs.Conversations.{Turn, IsTurn, heard_of, written_of, turn_commands, turn_replies}
use Rattle.console.specs.Lines.{IsLine, cut_of}
use Rattle.listener.specs.Announcing.{listening_at}
use Rattle.ship_service.specs.Closing.{ClosedState, Settles, ReplaysShare}
use Rattle.ship_service.specs.ClosingLines.{closing_lines}
use Rattle.ship_service.specs.Granted.{AreGranted, IsUnwritten, SeenMachinesAreGranted}
use Rattle.ship_service.specs.Listening.{closed_line}
use Rattle.ship_service.specs.Opening.{opened_bytes}
use Rattle.ship_service.specs.Served.{OpenedMachinesStay, AnsweredMachinesAreSeen}
use Rattle.ship_service.specs.Telling.{RepliesAreEntries, ReplyIsEntry, StepsStandAbove}
use Rattle.agent.specs.RunLeaves.{RunLeaves}
use Rattle.agent.specs.ServeLeaves.{IsDoorName, ServeLeaves}
use Rattle.agent.specs.declared.arguments.Serving.{Serving}

-- ---- 1. Safe and total

-- That a call has no undefined behaviour, and that it returns, no clause says: the check proves it of each function.
pub record SafeAndTotal : Type 0 where
  -- Bytes begin with the encoding of one instruction at most, and have no fault exactly where they begin with one.
  pub apart : NoneBeginsAnother
  pub unshared : NoneShared
  pub faults : NoFaultWhereEncoded
  -- Code is refused at one slot and for one reason. Valid code is refused only where memory runs out.
  pub refusals : OneRefusal
  pub valid : NoRefusalOfValid
  -- A machine starts at an instruction of its code and always comes to one. So each step over objects that are here has an
  -- outcome, and one alone.
  pub starts : StartsWhole
  pub stays : StaysWhole map_memory
  pub steps : MapAlwaysSteps
  pub one_way : MapStepsOneWay
  -- No more instructions run than there is fuel.
  pub fuel : FuelBounds map_memory

-- ---- 2. Each operation is its row

-- The instruction at the machine's slot is done, whole: what memory answers to its request makes the machine.
pub record DoesItsRow {M : Type 0} (mem : Memories M) (old : MachineState) (before : M) (outcome : Outcome) (after : M) : Type 0 where
  pub instr : Instr
  pub attempts : Attempts old instr
  pub said : Answer (asks instr old)
  pub answers : AnswersRequest mem (asks instr old) before said after
  pub becomes : outcome ≡ row_outcome instr old said

-- Nothing is done: the machine stops. It has no fuel, or the stop is in place of the instruction that is next.
pub record OnlyStops {M : Type 0} (old : MachineState) (before : M) (outcome : Outcome) (after : M) : Type 0 where
  pub stop : Stop
  pub cause : StopsBefore old stop
  pub becomes : outcome ≡ stops stop old
  pub same : after ≡ before

-- A step of a machine that runs is one of both. Then the machine's scopes close, or none.
pub record IsRowOrStop {M : Type 0} (mem : Memories M) (old : MachineState) (before : M) (answer : Stepped) (new : MachineState) (after : M) : Type 0 where
  pub closes : Bool
  pub mid : M
  pub does : DoesItsRow mem old before (record { machine = new; answer = answer; closes = closes }) mid
      ⊎ OnlyStops old before (record { machine = new; answer = answer; closes = closes }) mid
  pub closed : Closes closes mem mid after

-- Each step is so. `Machine::step` has `TableStep` as its clause.
abbrev pub StepsAreRows : {M : Type 0} → Memories M → Type 0
StepsAreRows {M} mem = (old new : MachineState) (before after : M) (answer : Stepped) → old.stop ≡ None → TableStep mem old before answer new after
    → IsRowOrStop mem old before answer new after

-- Over any memory:
pub record EachStepIsItsRow {M : Type 0} (mem : Memories M) : Type 0 where
  -- A step does its row whole, or stops.
  pub rows : StepsAreRows mem
  -- A step that waits changes nothing, neither the machine nor an object. It waits for an object that is away or busy, and for
  -- nothing else.
  pub waits : WaitsInPlace mem
  pub waiting : WaitingDoesNothing mem
  -- A stop other than exit changes nothing else, and a machine that is stopped stays as it is.
  pub stops : StopsInPlace mem
  pub stopped : StoppedStays mem
  -- An instruction that ran took one of fuel.
  pub fuel : FuelCounts mem
  -- A step writes one object at most, or the stack.
  pub writes : ChangesOne
  -- A machine does nothing to an object that it wasn't granted, and learns nothing of its bytes: first over one map of objects,
  -- then by the entries of a machine, whoever else reaches the objects.
  pub protects : StepsProtect
  pub confined : StepsAreConfined
  pub granted : EntriesAreGranted
  pub alike : ReplaysAreConfined

-- ---- 3. The run theorem

-- the commands among the lines
abbrev pub commands_of : List (Turn agent) → List Event
commands_of turns = flat_map (turn_commands agent) turns

-- their replies
abbrev pub replies_of : List (Turn agent) → List Reply
replies_of turns = flat_map (turn_replies agent) turns

-- The output is that of a run of the input's commands, from an agent with this budget and neither a machine nor an object.
pub record IsRunOf (budget : ℕ) (input output : List ℕ) (end : WorldState) : Type 0 where
  -- Each ended line has its one reply, in order. An unfinished last line is cut.
  pub turns : List (Turn agent)
  pub rest : List ℕ
  pub heard : input ≡ heard_of agent turns ++ rest
  pub unended : IsLine rest
  pub written : output ≡ written_of agent turns ++ cut_of rest
  -- A line spells the command that is done, or one whose bytes find no memory, or no command.
  pub each : All (IsTurn agent) turns
  -- The commands with these replies are a run.
  pub run : Runs Answers (world_start budget 0) (commands_of turns) (replies_of turns) end
  -- Without those that move and debug, they are a run of an agent with one map of objects and no debugger, with the same replies.
  pub plain : IsPlainRun (world_start budget 0) (commands_of turns) (replies_of turns) end

-- Where `run` ends well, the output grew by that of such a run. (`RunLeaves` says what a stream leaves that failed.)
abbrev pub RunTheorem : Type 0
RunTheorem = (budget : ℕ) (input : List ℕ) (before after unread : Option (List ℕ)) (done : ⊤) → RunLeaves budget input before after unread (Ok done)
    → (output : List ℕ) × (end : WorldState) × Appends before after output × IsRunOf budget input output end

-- ---- 4. One legal history

-- Of objects that threads share, for every schedule:
pub record OneLegalHistory : Type 0 where
  -- Between any two steps all entries of all seats are one history. Where far stores return what was put, it is legal, and what
  -- its entries make of an object's opening bytes is what the object has, here or away.
  pub histories : TablesHaveHistories
  -- The word of an object shows what all seats have of it. An object that is in scope, or whose turn is held, is here.
  pub words : WordsShowSeats
  -- A closed table's list is that of all entries by stamp, then actor. Where far stores return what was put, it is legal, and
  -- run from the opening bytes it gives each answer and the closing bytes.
  pub lists : SortedEntriesRun
  pub legal : OneListsAreLegal
  pub runs : LegalHistoriesRun
  -- Whoever learns a stamp of a seat that is at least its last one learns of all that this seat has done. What a seat learnt of
  -- stands before each entry that it adds afterwards, and such an entry was given what its deed gives after that.
  pub stamps : StampsCover
  pub learnt : LearntStandsBefore

-- ---- 5. The closing theorem

-- Of each connection to a service that was opened with these bytes and machines, whatever passed at the locks of its machines:
pub record RepliesAreExplained (opening : List (List ℕ)) (starts : List MachineState) (passed : Passage → Bool) : Type 0 where
  -- The `ok` of `put` and the `bytes` of `get` are, in order, the answers of the entries that the connection adds; so it is for
  -- a reply that is written in part.
  pub entries : RepliesAreEntries opening starts passed
  pub last : ReplyIsEntry opening starts passed
  -- When a command on a machine is answered, the machine is the replay of its entries up to what the connection has seen. A step
  -- that the connection asks for stands above all that it had seen.
  pub seen : AnsweredMachinesAreSeen opening starts passed
  pub above : StepsStandAbove opening starts passed
  -- A machine that was there at the opening is never answered to be none.
  pub stay : OpenedMachinesStay opening starts passed
  -- What a connection has seen of a machine are accesses to objects that the machine was granted, writing ones only with `w`.
  pub granted : SeenMachinesAreGranted opening starts

-- all seats: those of the machines, then those of the connections
abbrev pub parts_of : List ActorSeat → List ActorSeat → List Part
parts_of machines connections = map part_of (machines ++ connections)

-- The text tells what a service left that began with this world, and one list explains it.
pub record IsClosingOf (X : Type 0) (returns : Bool) (world : WorldState) (text : List ℕ) : Type 0 where
  pub table : TableId
  pub mover : MoverState X
  pub connections : List ActorSeat
  pub state : ClosedState X
  pub tells : text ≡ closed_line ++ closing_lines state
  -- Each object closes by the list, and each seat's entries are its actor's share of the list.
  pub settles : Settles returns table (opened_bytes world) (machines_of world.machines) mover connections state
  -- The list is that of all entries by stamp, then actor.
  pub list : settles.list.one ≡ sorted (all_entries (parts_of settles.seats connections))
  -- Where the far store returns what was put, it is legal, and run from the opening bytes it gives each answer and the closing bytes.
  pub legal : returns ≡ true → Legal (opened_bytes world) settles.list.one
  pub runs : returns ≡ true → ListRuns (opened_bytes world) settles.list.one settles.ends
  -- Each machine is the replay of its share.
  pub machines : (c : ClosedCell) (r : RunningState) → Has state.cells c → c.running ≡ Some r
      → ReplaysShare (opened_bytes world) (machines_of world.machines) (parts_of settles.seats connections) settles.list.one c.number r
  -- Its share are accesses to objects that it was granted, writing ones only with `w`.
  pub granted : (c : ClosedCell) (r : RunningState) → Has state.cells c → c.running ≡ Some r
      → AreGranted (opened_bytes world) r (entries_by c.number settles.list.one)
  -- An object that no machine may write, and into which no connection put bytes, keeps its bytes.
  pub unwritten : returns ≡ true → (n : ℕ) → IsUnwritten n state.cells connections → bytes_of settles.ends n ≡ bytes_of (opened_bytes world) n

-- the far store: the agent's own, or a server's client
abbrev pub store_of : Option (List ℕ) → Type 0
store_of None = ℕ
store_of (Some far) = Deferring (Buffered TcpStream)

-- the agent's own returns what was put; of a server nothing is known
abbrev pub returns_of : Option (List ℕ) → Bool
returns_of None = true
returns_of (Some far) = false

-- What `serve` wrote: the replies of a run over standard input, and then what the service closed with that began where the run ended.
pub record IsServiceOf (budget : ℕ) (far unix : Option (List ℕ)) (input : List ℕ) (before after : Option (List ℕ)) : Type 0 where
  pub world : WorldState
  pub replies : List ℕ
  pub mid : Option (List ℕ)
  pub replied : Appends before mid replies
  pub run : IsRunOf budget input replies world
  -- the path of the socket file that was asked for, or a port
  pub name : List ℕ
  pub door : IsDoorName unix name
  pub text : List ℕ
  pub said : Appends mid after (listening_at name ++ text)
  pub closing : IsClosingOf (store_of far) (returns_of far) world text

-- Where `serve` ends well, it wrote that. (`ServeLeaves` says what it wrote where it ended otherwise.)
abbrev pub ClosingTheorem : Type 0
ClosingTheorem = (serving : Serving) (far unix : Option (List ℕ)) (input : List ℕ) (before after unread : Option (List ℕ)) (done : ⊤)
    → ServeLeaves serving far unix input before after unread (Ok done)
    → IsServiceOf serving.budget far unix input before after
