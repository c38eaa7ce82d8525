-- What is reported where `--explain` asks for explanations. No clause says which text explains a refusal: tests/product/explained.py does.
use Rattle.std.specs.Prelude.{◌≡◌, ℕ, ◌≤◌, ◌==◌, nat_le, ◌&&◌, if◌then◌else◌, ⊤, Bool, true, false, List, [], ◌∷◌, ◌++◌, length, All, Option, Result, Err}
use Rattle.streams.specs.Streams.{AppendsSome}
use Rattle.agent.specs.Failures.{failure_line, status_number, status_of}
use Rattle.agent.specs.Reports.{Reports}
use Rattle.agent.specs.declared.failure.Failure.{Failure}
use Rattle.agent.specs.declared.failure.Failure.TheVariants.{Refused, WrongLine}
use Rattle.agent.specs.declared.failure.ExitStatus.{ExitStatus}

-- so many bytes explain a refusal at most
abbrev pub explanation_limit : ℕ
explanation_limit = 1000

-- a byte as it is shown: a space for a tab, and `?` for what is no printable ASCII character
abbrev pub shown_byte : ℕ → ℕ
shown_byte b = if b == 9 then 32 else (if nat_le 32 b && nat_le b 126 then b else 63)

-- a printable ASCII character
abbrev pub IsPrintable : ℕ → Type 0
IsPrintable b = (32 ≤ b) × (b ≤ 126)

-- An explanation: printable characters, and not too many.
abbrev pub IsExplanation : List ℕ → Type 0
IsExplanation line = All IsPrintable line × (length line ≤ explanation_limit)

-- Standard error, which was as before, and the status: the line of a refusal and one that explains it, as much of them as that stream
-- takes, and its status.
abbrev pub ReportsExplained : Option (List ℕ) → Option (List ℕ) → Failure → ExitStatus → Type 0
ReportsExplained before after failure status = (line : List ℕ) × IsExplanation line
    × AppendsSome before after (failure_line failure ++ line ++ 10 ∷ []) × (status ≡ status_of failure)

-- The same of any outcome: what is no refusal of code or of a line is reported without an explanation.
abbrev pub ReportsExplaining : Option (List ℕ) → Option (List ℕ) → Result ⊤ Failure → ExitStatus → Type 0
ReportsExplaining before after (Err (Refused error)) status = ReportsExplained before after (Refused error) status
ReportsExplaining before after (Err (WrongLine error)) status = ReportsExplained before after (WrongLine error) status
ReportsExplaining before after outcome status = Reports before after outcome status

-- the same with explanations, or without
abbrev pub ReportsAs : Bool → Option (List ℕ) → Option (List ℕ) → Result ⊤ Failure → ExitStatus → Type 0
ReportsAs false before after outcome status = Reports before after outcome status
ReportsAs true before after outcome status = ReportsExplaining before after outcome status

-- The work has such an outcome, and standard error and the exit status report it, with explanations or without.
abbrev pub ReportsOutcomeAs : Bool → (Result ⊤ Failure → Type 0) → Option (List ℕ) → Option (List ℕ) → ℕ → Type 0
ReportsOutcomeAs explains work before after number = (outcome : Result ⊤ Failure) × (status : ExitStatus) × work outcome
    × ReportsAs explains before after outcome status × (number ≡ status_number status)
