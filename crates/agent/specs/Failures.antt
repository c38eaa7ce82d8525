-- What the program says where it gives up, and the status that it ends with.
use Rattle.std.specs.Prelude.{◌≡◌, ◌≢◌, ◌⊎◌, ℕ, List, [], ◌∷◌, ◌++◌, codes, decimal}
use Rattle.loader.specs.Refusals.{why_name}
use Rattle.loader.specs.declared.loading.LoadError.{LoadError}
use Rattle.loader.specs.declared.loading.Why.TheVariants as why
use Rattle.asm_grammar.specs.Reasons as reasons
use Rattle.asm_grammar.specs.declared.why.Why.TheVariants as reason
use Rattle.assembler.specs.declared.error.AsmError.{AsmError}
use Rattle.console.specs.declared.fault.DriveFault.{DriveFault}
use Rattle.console.specs.declared.fault.DriveFault.TheVariants as drive
use Rattle.agent.specs.declared.failure.ExitStatus.{ExitStatus}
use Rattle.agent.specs.declared.failure.ExitStatus.TheVariants.{Done, Refused, InvalidArguments, Failed}
use Rattle.agent.specs.declared.failure.Failure.{Failure}
use Rattle.agent.specs.declared.failure.Failure.TheVariants as failure

-- the exit status
abbrev pub status_number : ExitStatus → ℕ
status_number Done = 0
status_number Refused = 1
status_number InvalidArguments = 2
status_number Failed = 3

-- the status of a failure: code and text that are refused, else streams and memory that fail
abbrev pub status_of : Failure → ExitStatus
status_of (failure.Refused error) = Refused
status_of (failure.WrongLine error) = Refused
status_of failure.InputTooLong = Refused
status_of failure.Read = Failed
status_of failure.Write = Failed
status_of failure.NoMemory = Failed

-- Code that can't be loaded is refused, unless memory ran out.
abbrev pub FailsToLoad : LoadError → Failure → Type 0
FailsToLoad error failed = ((error.why ≡ why.Memory) × (failed ≡ failure.NoMemory)) ⊎ ((error.why ≢ why.Memory) × (failed ≡ failure.Refused error))

-- A text that can't be assembled has a wrong line, unless memory ran out.
abbrev pub FailsToAssemble : AsmError → Failure → Type 0
FailsToAssemble error failed = ((error.why ≡ reason.Memory) × (failed ≡ failure.NoMemory)) ⊎ ((error.why ≢ reason.Memory) × (failed ≡ failure.WrongLine error))

-- the failure of a conversation that ended before its input did
abbrev pub failure_of_drive : DriveFault → Failure
failure_of_drive drive.Read = failure.Read
failure_of_drive drive.Write = failure.Write

-- what is said of a failure
abbrev pub failure_text : Failure → List ℕ
failure_text (failure.Refused error) = codes "slot " ++ decimal error.slot ++ codes ": " ++ why_name error.why
failure_text (failure.WrongLine error) = codes "line " ++ decimal error.line ++ codes ": " ++ reasons.why_name error.why
failure_text failure.InputTooLong = codes "input too long"
failure_text failure.Read = codes "read fault"
failure_text failure.Write = codes "write fault"
failure_text failure.NoMemory = codes "no memory"

-- the line that tells of a failure
abbrev pub failure_line : Failure → List ℕ
failure_line failed = failure_text failed ++ 10 ∷ []
