-- What the arguments of the command line ask for, as `clap` reads them.
use Rattle.std.specs.Prelude.{◌≡◌, ◌≢◌, ℕ, Bool, false, true, if◌then◌else◌, ⊤, List, [], ◌∷◌, Option, Some, None, codes, find, option_map, option_and_then}
use Rattle.std.specs.Option.{option_map_or}
use Rattle.std.specs.Str.{bytes_eq}
use Rattle.std.specs.Str.Parse.{digits_value, without_leading_plus}
use Rattle.clap.specs.Words.{App, Kinds, Row, Rule, Shape, Text, fault_of, first_of, new_rule, one_of, subcommand_of, with_subcommand}
use Rattle.clap.specs.Simple.{new_shape}
use Rattle.clap.specs.declared.builder.action.ArgAction.TheVariants.{SetTrue}
use Rattle.clap.specs.declared.builder.command.Command.{Command}
use Rattle.clap.specs.declared.builder.command.Command.TheViews.{out-Command}
use Rattle.clap.specs.declared.parser.matches.ValueSource.{ValueSource}
use Rattle.clap.specs.declared.parser.matches.ValueSource.TheVariants.{CommandLine, DefaultValue}
use Rattle.agent.specs.OptionNumbers.{HasNumber, NumberOption, number_rule}
use Rattle.agent.specs.declared.arguments.Asked.{Asked}
use Rattle.agent.specs.declared.arguments.Asked.TheVariants as asked
use Rattle.agent.specs.declared.arguments.Task.{Task}
use Rattle.agent.specs.declared.arguments.Task.TheVariants.{Run, Check, Assemble, Disassemble, Store, Serve, Commands}
use Rattle.agent.specs.declared.arguments.Serving.{Serving}
use Rattle.agent.specs.declared.arguments.Showing.{Showing}
use Rattle.agent.specs.declared.arguments.Storing.{Storing}
use Rattle.agent.specs.declared.arguments.Server.{Server}
use Rattle.agent.specs.declared.arguments.Server.TheVariants as server

-- the greatest budget: 64 MiB
abbrev pub budget_limit : ℕ
budget_limit = 67108864

-- the same, in decimal
abbrev pub budget_limit_text : Text
budget_limit_text = codes "67108864"

-- `--budget N`, which is the greatest where it is left out
abbrev pub budget_option : NumberOption
budget_option = record { name = codes "budget"; least = 0; limit = budget_limit; default = budget_limit_text }

-- `run`, with its option
abbrev pub run_shape : Shape
run_shape = record (new_shape (codes "run")) { rules = number_rule budget_option ∷ [] }

-- a flag: `--NAME`, which is given or not
abbrev pub flag_rule : Text → Rule
flag_rule name = record (new_rule name) { long = Some name; action = Some SetTrue }

-- a subcommand with one flag
abbrev pub flagged_shape : Text → Text → Shape
flagged_shape name flag = record (new_shape name) { rules = flag_rule flag ∷ [] }

-- `check`, with its flag
abbrev pub check_shape : Shape
check_shape = flagged_shape (codes "check") (codes "explain")

-- `asm`, with its flag
abbrev pub asm_shape : Shape
asm_shape = flagged_shape (codes "asm") (codes "explain")

-- `dis`, with its flags
abbrev pub dis_shape : Shape
dis_shape = record (new_shape (codes "dis")) { rules = flag_rule (codes "slots") ∷ flag_rule (codes "llvm") ∷ [] }

-- the greatest port
abbrev pub port_limit : ℕ
port_limit = 65535

-- `--port P`, which is 0, any free one, where it is left out
abbrev pub port_option : NumberOption
port_option = record { name = codes "port"; least = 0; limit = port_limit; default = codes "0" }

-- `-v`, `--verbose`: a flag with a short name, 118
abbrev pub verbose_rule : Rule
verbose_rule = record (flag_rule (codes "verbose")) { short = Some 118 }

-- `--idle SECONDS`, at most a day, which is 0, for ever, where it is left out
abbrev pub idle_option : NumberOption
idle_option = record { name = codes "idle"; least = 0; limit = 86400; default = codes "0" }

-- `--memory BYTES`, which is 0, no bound, where it is left out
abbrev pub memory_option : NumberOption
memory_option = record { name = codes "memory"; least = 0; limit = 4294967295; default = codes "0" }

-- `store`, with its options
abbrev pub store_shape : Shape
store_shape = record (new_shape (codes "store")) {
  rules = number_rule port_option ∷ number_rule idle_option ∷ number_rule memory_option ∷ verbose_rule ∷ [];
}

-- `--connections N`, which is 1 where it is left out
abbrev pub connections_option : NumberOption
connections_option = record { name = codes "connections"; least = 1; limit = 8; default = codes "1" }

-- `--workers W`, which is 2 where it is left out
abbrev pub workers_option : NumberOption
workers_option = record { name = codes "workers"; least = 0; limit = 16; default = codes "2" }

-- `--keep BYTES`, at least what one object may have, which is the greatest, no bound, where it is left out
abbrev pub keep_option : NumberOption
keep_option = record { name = codes "keep"; least = 65536; limit = 67108864; default = codes "67108864" }

-- `--far HOST:PORT`, any text, which may be left out
abbrev pub far_rule : Rule
far_rule = record (new_rule (codes "far")) { long = Some (codes "far"); value_names = 1 }

-- `--far-timeout MS`, at most ten minutes, which is 5000 where it is left out
abbrev pub far_timeout_option : NumberOption
far_timeout_option = record { name = codes "far-timeout"; least = 1; limit = 600000; default = codes "5000" }

-- `--unix PATH`, any text, which may be left out
abbrev pub unix_rule : Rule
unix_rule = record (new_rule (codes "unix")) { long = Some (codes "unix"); value_names = 1 }

-- `serve`, with its options
abbrev pub serve_shape : Shape
serve_shape = record (new_shape (codes "serve")) {
  rules = number_rule port_option ∷ unix_rule ∷ number_rule connections_option ∷ number_rule workers_option
      ∷ number_rule budget_option ∷ flag_rule (codes "sweep") ∷ number_rule keep_option ∷ far_rule ∷ number_rule far_timeout_option ∷ verbose_rule ∷ [];
}

-- `commands`, which has no option
abbrev pub commands_shape : Shape
commands_shape = new_shape (codes "commands")

-- a command that passes no argument on to its subcommands
abbrev pub IsLocal : Command → Type 0
IsLocal c = (out-Command c).has_globals ≡ false

-- `bpfagent` with no subcommand yet: it has a version, the arguments are those after the program's name, one of the subcommands is wanted, and none is `help`
abbrev pub bare : App
bare = record {
  top = record (new_shape (codes "bpfagent")) {
    has_version = true;
    no_binary_name = true;
    disable_help_subcommand = true;
    subcommand_required = true;
  };
  subs = [];
}

-- These matches have all numbers of `store`.
pub record HasStoring (rows : List Row) : Type 0 where
  pub port : HasNumber 16 (codes "port") rows
  pub idle : HasNumber 32 (codes "idle") rows
  pub memory : HasNumber 32 (codes "memory") rows

-- These matches have all numbers of `serve`.
pub record HasServing (rows : List Row) : Type 0 where
  pub port : HasNumber 16 (codes "port") rows
  pub connections : HasNumber 8 (codes "connections") rows
  pub workers : HasNumber 8 (codes "workers") rows
  pub budget : HasNumber 32 (codes "budget") rows
  pub keep : HasNumber 32 (codes "keep") rows
  pub far_timeout : HasNumber 32 (codes "far-timeout") rows

-- the number of this name that they give
abbrev pub number_in : Text → List Row → Option ℕ
number_in name rows = option_map (λ text. digits_value 10 (without_leading_plus text)) (one_of name rows)

-- the flag of this name is given
abbrev pub is_set : Text → List Row → Bool
is_set name rows = option_map_or (λ text. bytes_eq text (codes "true")) (first_of name rows) false

-- a value that comes from there is among the words, and isn't a default
abbrev pub is_told : Option ValueSource → Bool
is_told (Some CommandLine) = true
is_told (Some DefaultValue) = false
is_told None = false

-- the option of this name is among the words
abbrev pub is_given : Text → List Row → Bool
is_given name rows = is_told (option_and_then (λ r. r.source) (find (λ r. bytes_eq r.id name) rows))

-- how these matches ask to show code
abbrev pub showing_in : List Row → Showing
showing_in rows = record { has_slots = is_set (codes "slots") rows; is_llvm = is_set (codes "llvm") rows }

-- how these numbers, and the flag, ask to keep
abbrev pub storing_of : Bool → Option ℕ → Option ℕ → Option ℕ → Option Storing
storing_of verbose (Some port) (Some idle) (Some memory) = Some (record { port = port; idle = idle; memory = memory; verbose = verbose })
storing_of verbose _ _ _ = None

-- how these matches ask to keep
abbrev pub storing_in : List Row → Option Storing
storing_in rows = storing_of (is_set (codes "verbose") rows) (number_in (codes "port") rows) (number_in (codes "idle") rows)
    (number_in (codes "memory") rows)

-- how these numbers, and the flags, ask to serve
abbrev pub serving_of : Bool → Bool → Bool → Option ℕ → Option ℕ → Option ℕ → Option ℕ → Option ℕ → Option ℕ → Option Serving
serving_of has_port sweep verbose (Some port) (Some connections) (Some workers) (Some budget) (Some keep) (Some far_timeout) = Some (record {
  port = port;
  has_port = has_port;
  connections = connections;
  workers = workers;
  budget = budget;
  sweep = sweep;
  keep = keep;
  far_timeout = far_timeout;
  verbose = verbose;
})
serving_of has_port sweep verbose _ _ _ _ _ _ = None

-- how these matches ask to serve
abbrev pub serving_in : List Row → Option Serving
serving_in rows = serving_of (is_given (codes "port") rows) (is_set (codes "sweep") rows) (is_set (codes "verbose") rows) (number_in (codes "port") rows)
    (number_in (codes "connections") rows) (number_in (codes "workers") rows) (number_in (codes "budget") rows) (number_in (codes "keep") rows)
    (number_in (codes "far-timeout") rows)

-- A subcommand: its name and its options, and what its matches ask for.
pub record Subcommand : Type 0 where
  pub shape : Shape
  pub task : List Row → Option Task

-- the subcommands, in the order in which help lists them
abbrev pub subcommands : List Subcommand
subcommands =
    record { shape = run_shape; task = λ rows. option_map Run (number_in (codes "budget") rows) }
    ∷ record { shape = check_shape; task = λ rows. Some (Check (is_set (codes "explain") rows)) }
    ∷ record { shape = asm_shape; task = λ rows. Some (Assemble (is_set (codes "explain") rows)) }
    ∷ record { shape = dis_shape; task = λ rows. Some (Disassemble (showing_in rows)) }
    ∷ record { shape = store_shape; task = λ rows. option_map Store (storing_in rows) }
    ∷ record { shape = serve_shape; task = λ rows. option_map Serve (serving_in rows) }
    ∷ record { shape = commands_shape; task = λ rows. Some Commands }
    ∷ []

-- a command line with these subcommands too
abbrev pub with_subcommands : App → List Subcommand → App
with_subcommands app [] = app
with_subcommands app (s ∷ more) = with_subcommands (with_subcommand app s.shape) more

-- the command line, as `clap` reads it
abbrev pub command_line : App
command_line = with_subcommands bare subcommands

-- the kinds of error that these arguments may give: none, where they are right
abbrev pub faults_of : List Text → Kinds
faults_of arguments = fault_of command_line arguments

-- what the one of this name asks for, with these matches
abbrev pub task_among : List Subcommand → Text → List Row → Option Task
task_among [] name rows = None
task_among (s ∷ more) name rows = if bytes_eq name s.shape.name then s.task rows else (task_among more name rows)

-- the task of this name, with these matches
abbrev pub task_named : Text → List Row → Option Task
task_named name rows = task_among subcommands name rows

-- what right arguments ask for: the subcommand that they name
abbrev pub task_of : List Text → Option Task
task_of arguments = option_and_then (λ p. task_named p.0 p.1) (subcommand_of command_line arguments)

-- the text of `--far`, where right arguments have one
abbrev pub far_of : List Text → Option Text
far_of arguments = option_and_then (λ p. first_of (codes "far") p.1) (subcommand_of command_line arguments)

-- the text of `--unix`, where right arguments have one
abbrev pub unix_of : List Text → Option Text
unix_of arguments = option_and_then (λ p. first_of (codes "unix") p.1) (subcommand_of command_line arguments)

-- ---- what is asked for

-- the task of a server
abbrev pub server_task : Server → Task
server_task (server.Store storing) = Store storing
server_task (server.Serve serving far unix) = Serve serving

-- the task that is asked for, also where a server does it
abbrev pub asked_task : Asked → Task
asked_task (asked.Server server) = server_task server
asked_task (asked.Task task) = task

-- A task that a server does is asked for as that server, and never as a task alone.
abbrev pub IsApart : Asked → Type 0
IsApart (asked.Server server) = ⊤
IsApart (asked.Task task) = (server : Server) → task ≢ server_task server

-- This holds of the server that is asked for, if one is.
abbrev pub IfServer : (Server → Type 0) → Asked → Type 0
IfServer P (asked.Server server) = P server
IfServer P (asked.Task task) = ⊤

-- `serve` keeps its far objects at this address, or in its own process where there is none. `store` has no far objects.
abbrev pub IsFarAs : Option Text → Server → Type 0
IsFarAs address (server.Store storing) = ⊤
IsFarAs address (server.Serve serving far unix) = option_map (λ text. text.now) far ≡ address

-- `serve` listens at the socket file of this path, or at a port where there is none. `store` always listens at a port.
abbrev pub IsUnixAs : Option Text → Server → Type 0
IsUnixAs path (server.Store storing) = ⊤
IsUnixAs path (server.Serve serving far unix) = option_map (λ text. text.now) unix ≡ path
