-- What is shown of invalid arguments, and of those that ask for help or for the version.
use Rattle.std.specs.Prelude.{◌≡◌, ◌≢◌, ℕ, ◌⊎◌, List, [], ◌∷◌, ◌++◌, Option, Ok, Err, codes}
use Rattle.std.specs.Io.KnownBytes.{Appends, Keeps}
use Rattle.clap.specs.Words.{Kinds, IsAmong}
use Rattle.clap.specs.declared.error.kind.ErrorKind.{ErrorKind}
use Rattle.clap.specs.declared.error.kind.ErrorKind.TheVariants as kind
use Rattle.agent.specs.Failures.{status_number}
use Rattle.agent.specs.Reports.{Reports}
use Rattle.streams.specs.Streams.{AppendsPart, AppendsSome}
use Rattle.agent.specs.declared.failure.Failure.TheVariants.{Write, NoMemory}
use Rattle.agent.specs.declared.failure.ExitStatus.{ExitStatus}
use Rattle.agent.specs.declared.failure.ExitStatus.TheVariants.{InvalidArguments}

-- out of memory, and nothing goes to the output
abbrev pub ReportsNoMemory : Option (List ℕ) → Option (List ℕ) → Option (List ℕ) → Option (List ℕ) → ExitStatus → Type 0
ReportsNoMemory out_before out_after before after status = Keeps out_before out_after × Reports before after (Err NoMemory) status

-- the version of the program
abbrev pub version_text : List ℕ
version_text = codes "0.9.0"

-- the line with the program's name and version
abbrev pub version_line : List ℕ
version_line = codes "bpfagent " ++ version_text ++ 10 ∷ []

-- the line with the version, and nothing else, goes to the output
abbrev pub ShowsVersion : Option (List ℕ) → Option (List ℕ) → Option (List ℕ) → Option (List ℕ) → ExitStatus → Type 0
ShowsVersion out_before out_after before after status = (Appends out_before out_after version_line × Reports before after (Ok tt) status)
    ⊎ (AppendsPart out_before out_after version_line × Reports before after (Err Write) status)

-- help, which is not empty, goes to the output
abbrev pub ShowsHelp : Option (List ℕ) → Option (List ℕ) → Option (List ℕ) → Option (List ℕ) → ExitStatus → Type 0
ShowsHelp out_before out_after before after status = (text : List ℕ) × (text ≢ [])
    × ((Appends out_before out_after text × Reports before after (Ok tt) status)
    ⊎ (AppendsPart out_before out_after text × Reports before after (Err Write) status))

-- what is wrong with the arguments, which is not empty, goes to standard error, as much of it as that stream takes
abbrev pub ShowsError : Option (List ℕ) → Option (List ℕ) → ExitStatus → Type 0
ShowsError before after status = (text : List ℕ) × (text ≢ []) × AppendsSome before after text × (status ≡ InvalidArguments)

-- What is done about arguments that give this kind of error. For each text but the version there may be no memory.
abbrev pub Shows : ErrorKind → Option (List ℕ) → Option (List ℕ) → Option (List ℕ) → Option (List ℕ) → ExitStatus → Type 0
Shows kind.OutOfMemory out_before out_after before after status = ReportsNoMemory out_before out_after before after status
Shows kind.DisplayHelp out_before out_after before after status = ShowsHelp out_before out_after before after status
    ⊎ ReportsNoMemory out_before out_after before after status
Shows kind.DisplayVersion out_before out_after before after status = ShowsVersion out_before out_after before after status
Shows _ out_before out_after before after status = (Keeps out_before out_after × ShowsError before after status)
    ⊎ ReportsNoMemory out_before out_after before after status

-- arguments that may give these kinds of error are answered by one of them, or by out of memory
abbrev pub ShowsOneOf : Kinds → Option (List ℕ) → Option (List ℕ) → Option (List ℕ) → Option (List ℕ) → ℕ → Type 0
ShowsOneOf kinds out_before out_after before after number = (k : ErrorKind) × (status : ExitStatus)
    × ((k ≡ kind.OutOfMemory) ⊎ IsAmong k kinds) × Shows k out_before out_after before after status × (number ≡ status_number status)

-- what is said of arguments that are not UTF-8
abbrev pub not_text : List ℕ
not_text = codes "error: the arguments are not valid UTF-8\n"
