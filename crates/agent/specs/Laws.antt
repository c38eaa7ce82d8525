-- Laws of the command line.
use Rattle.std.specs.Prelude.{◌≡◌, ℕ, Bool, [], ◌∷◌, List, IsSome, codes, false}
use Rattle.clap.specs.Words.{Text}
use Rattle.agent.specs.CommandLine.{budget_limit, faults_of, task_of, Subcommand}
use Rattle.agent.specs.declared.arguments.Serving.{Serving}
use Rattle.agent.specs.declared.arguments.Showing.{Showing}
use Rattle.agent.specs.declared.arguments.Storing.{Storing}

-- right arguments name a task
abbrev pub RightArgumentsNameATask : Type 0
RightArgumentsNameATask = (arguments : List Text) → faults_of arguments ≡ [] → IsSome (task_of arguments)

-- a subcommand alone is right arguments, and names a task
abbrev pub IsRightAlone : Subcommand → Type 0
IsRightAlone s = (faults_of (s.shape.name ∷ []) ≡ []) × IsSome (task_of (s.shape.name ∷ []))

-- what `dis` asks for with `--slots` or without, and with `--llvm` or without
abbrev pub showing_as : Bool → Bool → Showing
showing_as has_slots is_llvm = record { has_slots = has_slots; is_llvm = is_llvm }

-- what `serve` alone asks for
abbrev pub plain_serving : Serving
plain_serving = record {
  port = 0;
  has_port = false;
  connections = 1;
  workers = 2;
  budget = budget_limit;
  sweep = false;
  keep = 67108864;
  far_timeout = 5000;
  verbose = false;
}

-- what `store` asks for with this port, and with `-v`
abbrev pub storing_at : ℕ → Bool → Storing
storing_at port verbose = record { port = port; idle = 0; memory = 0; verbose = verbose }

-- `serve` with all its options
abbrev pub all_of_serve : List Text
all_of_serve = codes "serve" ∷ codes "--workers" ∷ codes "0" ∷ codes "--port=7070" ∷ codes "--sweep" ∷ codes "--budget" ∷ codes "64" ∷ codes "--connections"
    ∷ codes "8" ∷ codes "--keep" ∷ codes "65536" ∷ codes "--far-timeout" ∷ codes "250" ∷ codes "-v" ∷ []

-- `serve` at a socket file
abbrev pub unix_serving : List Text
unix_serving = codes "serve" ∷ codes "--unix" ∷ codes "agent.sock" ∷ []

-- `serve` with a far server
abbrev pub far_serving : List Text
far_serving = codes "serve" ∷ codes "--far" ∷ codes "127.0.0.1:7070" ∷ []
