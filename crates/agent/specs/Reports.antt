-- What the program reports at its end.
use Rattle.std.specs.Prelude.{◌≡◌, ℕ, ⊤, List, Option, Result, Ok, Err}
use Rattle.std.specs.Io.KnownBytes.{Keeps}
use Rattle.agent.specs.Failures.{failure_line, status_number, status_of}
use Rattle.streams.specs.Streams.{AppendsSome}
use Rattle.agent.specs.declared.failure.Failure.{Failure}
use Rattle.agent.specs.declared.failure.ExitStatus.{ExitStatus}
use Rattle.agent.specs.declared.failure.ExitStatus.TheVariants.{Done}

-- Standard error, which was as before, and the status: nothing more and Done, or the failure's line, as much of it as that stream takes, and its status.
abbrev pub Reports : Option (List ℕ) → Option (List ℕ) → Result ⊤ Failure → ExitStatus → Type 0
Reports before after (Ok done) status = Keeps before after × (status ≡ Done)
Reports before after (Err failure) status = AppendsSome before after (failure_line failure) × (status ≡ status_of failure)

-- The work has such an outcome, and standard error and the exit status report it.
abbrev pub ReportsOutcome : (Result ⊤ Failure → Type 0) → Option (List ℕ) → Option (List ℕ) → ℕ → Type 0
ReportsOutcome work before after number = (outcome : Result ⊤ Failure) × (status : ExitStatus) × work outcome × Reports before after outcome status
    × (number ≡ status_number status)
