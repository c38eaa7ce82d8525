-- What `serve` leaves in its streams.
use Rattle.std.specs.Prelude.{◌≡◌, ◌⊎◌, ◌&&◌, is_some, ℕ, ⊤, Bool, true, false, List, [], ◌∷◌, ◌++◌, Option, None, Some, Result, Ok, Err, codes, decimal}
use Rattle.std.specs.Io.KnownBytes.{Keeps}
use Rattle.std.specs.Net.Grammar.{IsSocketText}
use Rattle.std.specs.declared.net.socket_addr.SocketAddr.{SocketAddr}
use Rattle.std.specs.declared.net.tcp.TcpStream.{TcpStream}
use Rattle.streams.specs.Streams.{AppendsSome}
use Rattle.far_stream.specs.Deferring.{Deferring}
use Rattle.far_stream.specs.declared.buffered.Buffered.{Buffered}
use Rattle.world.specs.WorldState.{WorldState, world_start}
use Rattle.console.specs.Agent.{agent}
use Rattle.console.specs.Conversations.{AnswersAll}
use Rattle.ship_service.specs.Listening.{FindsHere, SaysAs, TellsClosingOf}
use Rattle.ship_service.specs.declared.listening.ListenFault.{ListenFault}
use Rattle.ship_service.specs.declared.listening.ListenFault.TheVariants as listen
use Rattle.agent.specs.Failures.{failure_text, status_number, status_of}
use Rattle.agent.specs.RunLeaves.{RunLeaves}
use Rattle.agent.specs.declared.arguments.Serving.{Serving}
use Rattle.agent.specs.declared.failure.ExitStatus.{ExitStatus}
use Rattle.agent.specs.declared.failure.ExitStatus.TheVariants as status
use Rattle.agent.specs.declared.servers.serving.ServeFault.{ServeFault}
use Rattle.agent.specs.declared.servers.serving.ServeFault.TheVariants.{Address, Unreachable, Unanswered, Doors, Setup, Bind, Listen}

-- ---- what is said at the end

-- what is said of a service that ended otherwise than with its connections
abbrev pub listen_text : ListenFault → List ℕ
listen_text (listen.NotHere n) = codes "object " ++ decimal n ++ codes " isn't here"
listen_text listen.Memory = codes "no memory"
listen_text listen.Net = codes "net fault"
listen_text listen.Write = codes "write fault"

-- the same of all that may go wrong
abbrev pub serve_text : ServeFault → List ℕ
serve_text Address = codes "error: --far takes an IP address and a port"
serve_text Unreachable = codes "far server can't be reached"
serve_text Unanswered = listen_text listen.Net
serve_text Doors = codes "error: --unix takes the place of --port"
serve_text (Setup failure) = failure_text failure
serve_text Bind = listen_text listen.Net
serve_text (Listen fault) = listen_text fault

-- the status: an object that isn't here is an input that is refused
abbrev pub serve_status : ServeFault → ExitStatus
serve_status Address = status.InvalidArguments
serve_status Unreachable = status.Failed
serve_status Unanswered = status.Failed
serve_status Doors = status.InvalidArguments
serve_status (Setup failure) = status_of failure
serve_status Bind = status.Failed
serve_status (Listen (listen.NotHere n)) = status.Refused
serve_status (Listen listen.Memory) = status.Failed
serve_status (Listen listen.Net) = status.Failed
serve_status (Listen listen.Write) = status.Failed

-- Standard error, which was as before, and the status: nothing more and Done, or the fault's line, as much of it as that stream takes, and its status.
abbrev pub ReportsService : Option (List ℕ) → Option (List ℕ) → Result ⊤ ServeFault → ℕ → Type 0
ReportsService before after (Ok done) number = Keeps before after × (number ≡ status_number status.Done)
ReportsService before after (Err fault) number = AppendsSome before after (serve_text fault ++ 10 ∷ []) × (number ≡ status_number (serve_status fault))

-- ---- the two parts

-- The commands of the input were done: all replies are in the output, and this is the world that they left.
abbrev pub SetsUp : ℕ → List ℕ → Option (List ℕ) → Option (List ℕ) → WorldState → Type 0
SetsUp budget input before after world = AnswersAll agent (world_start budget 0) input before after world

-- What the door of a service is called: the path of the socket file that was asked for, or a port in decimal.
abbrev pub IsDoorName : Option (List ℕ) → List ℕ → Type 0
IsDoorName None name = (port : ℕ) × (name ≡ decimal port)
IsDoorName (Some path) name = name ≡ path

-- From this world, what the service says at this socket file, or at a port where there is none, and why it ended. Its far store is one
-- of these, which gives back what was put or doesn't promise to.
abbrev pub ListensFrom : Type 0 → Bool → Option (List ℕ) → WorldState → Option (List ℕ) → Option (List ℕ) → Result ⊤ ListenFault → Type 0
ListensFrom X returns unix world before after ended = (name : List ℕ) × IsDoorName unix name × SaysAs (TellsClosingOf X returns world) name before after ended
    × FindsHere world.store.places ended

-- Over this input, in the output, which was as before, and unread: what the commands leave, as `run` does; then, from the world
-- that they left, what the service says over such a far store. A port or a file that can't be had comes before objects that aren't here.
abbrev pub ServesOver : Type 0 → Bool → ℕ → Option (List ℕ) → List ℕ → Option (List ℕ) → Option (List ℕ) → Option (List ℕ) → Result ⊤ ServeFault
    → Type 0
ServesOver X returns budget unix input before after unread (Err Address) = ⊥
ServesOver X returns budget unix input before after unread (Err Unreachable) = ⊥
ServesOver X returns budget unix input before after unread (Err Unanswered) = ⊥
ServesOver X returns budget unix input before after unread (Err Doors) = ⊥
ServesOver X returns budget unix input before after unread (Err (Setup failure)) = RunLeaves budget input before after unread (Err failure)
ServesOver X returns budget unix input before after unread (Err Bind) = (world : WorldState) × SetsUp budget input before after world
ServesOver X returns budget unix input before after unread (Err (Listen fault)) = (world : WorldState) × (mid : Option (List ℕ))
    × SetsUp budget input before mid world × ListensFrom X returns unix world mid after (Err fault)
ServesOver X returns budget unix input before after unread (Ok done) = (world : WorldState) × (mid : Option (List ℕ)) × SetsUp budget input before mid world
    × ListensFrom X returns unix world mid after (Ok done)

-- the text is an IP address and a port
abbrev pub IsAddress : List ℕ → Type 0
IsAddress far = (address : SocketAddr) × IsSocketText far address

-- Why a far server isn't connected to: this text isn't its address; or it is, and the server can't be reached or doesn't answer, or memory for its
-- stream runs out.
abbrev pub Unconnected : List ℕ → ServeFault → Type 0
Unconnected far Address = (address : SocketAddr) → ¬ (IsSocketText far address)
Unconnected far Unreachable = IsAddress far
Unconnected far Unanswered = IsAddress far
Unconnected far Doors = ⊥
Unconnected far (Setup failure) = ⊥
Unconnected far Bind = ⊥
Unconnected far (Listen listen.Memory) = IsAddress far
Unconnected far (Listen (listen.NotHere n)) = ⊥
Unconnected far (Listen listen.Net) = ⊥
Unconnected far (Listen listen.Write) = ⊥

-- The far server of this address isn't connected to, and the streams are as they were.
abbrev pub Refuses : List ℕ → List ℕ → Option (List ℕ) → Option (List ℕ) → Option (List ℕ) → Result ⊤ ServeFault → Type 0
Refuses far input before after unread (Ok done) = ⊥
Refuses far input before after unread (Err fault) = Unconnected far fault × Keeps before after × Keeps (Some input) unread

-- Where a port and a socket file are both asked for, that is all that is told. Otherwise the same over the agent's own store, which
-- gives back what was put; or over a server of this address, which promises nothing, and which is connected to, and has answered a
-- request, before anything else.
abbrev pub LeavesBy : Bool → ℕ → Option (List ℕ) → Option (List ℕ) → List ℕ → Option (List ℕ) → Option (List ℕ) → Option (List ℕ) → Result ⊤ ServeFault
    → Type 0
LeavesBy true budget far unix input before after unread outcome = (outcome ≡ Err Doors) × Keeps before after × Keeps (Some input) unread
LeavesBy false budget None unix input before after unread outcome = ServesOver ℕ true budget unix input before after unread outcome
LeavesBy false budget (Some far) unix input before after unread outcome =
    (IsAddress far × ServesOver (Deferring (Buffered TcpStream)) false budget unix input before after unread outcome)
    ⊎ Refuses far input before after unread outcome

-- The same as `serve` is asked to serve: with such a far server and at such a socket file, where it has them.
abbrev pub ServeLeaves : Serving → Option (List ℕ) → Option (List ℕ) → List ℕ → Option (List ℕ) → Option (List ℕ) → Option (List ℕ)
    → Result ⊤ ServeFault → Type 0
ServeLeaves serving far unix input before after unread outcome =
    LeavesBy (serving.has_port && is_some unix) serving.budget far unix input before after unread outcome

-- The work has such an outcome, and standard error and the exit status report it.
abbrev pub ReportsServe : (Result ⊤ ServeFault → Type 0) → Option (List ℕ) → Option (List ℕ) → ℕ → Type 0
ReportsServe work before after number = (outcome : Result ⊤ ServeFault) × work outcome × ReportsService before after outcome number
