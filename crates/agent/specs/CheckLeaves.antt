-- What is said of raw code, and what `check` leaves in its streams.
use Rattle.std.specs.Prelude.{◌≡◌, ◌≢◌, ℕ, ◌+◌, ◌*◌, ⊤, List, [], ◌∷◌, ◌++◌, length, codes, decimal, Option, Result, Ok, Err}
use Rattle.std.specs.Io.KnownBytes.{Appends, Keeps}
use Rattle.loader.specs.Refusals.{Refuses}
use Rattle.loader.specs.ValidCode.{ValidCode, code_limit}
use Rattle.loader.specs.declared.loading.Why.TheVariants as why
use Rattle.streams.specs.Streams.{AppendsPart}
use Rattle.agent.specs.declared.failure.Failure.{Failure}
use Rattle.agent.specs.declared.failure.Failure.TheVariants.{Refused, WrongLine, InputTooLong, Read, Write, NoMemory}

-- as much as is read: the longest code that can be valid, and one byte more, which shows that there is more
abbrev pub check_limit : ℕ
check_limit = code_limit + 1

-- what is found about this code: how many slots it has, where it is valid, else at which slot it is refused and why
abbrev pub Finds : List ℕ → Result ℕ Failure → Type 0
Finds code (Ok slots) = ValidCode code × (8 * slots ≡ length code)
Finds code (Err (Refused error)) = Refuses code error.slot error.why × (error.why ≢ why.Memory)
Finds code (Err NoMemory) = Unit {0}
Finds code (Err Read) = Unit {0}
Finds code (Err Write) = ⊥
Finds code (Err (WrongLine error)) = ⊥
Finds code (Err InputTooLong) = ⊥

-- the line about valid code of so many slots
abbrev pub ok_line : ℕ → List ℕ
ok_line slots = codes "ok " ++ decimal slots ++ 10 ∷ []

-- What a check of this code leaves in the output, which was as before: a line, or nothing at all where it is refused.
abbrev pub CheckLeaves : List ℕ → Option (List ℕ) → Option (List ℕ) → Result ⊤ Failure → Type 0
CheckLeaves code before after (Ok done) = (slots : ℕ) × Finds code (Ok slots) × Appends before after (ok_line slots)
CheckLeaves code before after (Err (Refused error)) = Finds code (Err (Refused error)) × Keeps before after
CheckLeaves code before after (Err Write) = (slots : ℕ) × Finds code (Ok slots) × AppendsPart before after (ok_line slots)
CheckLeaves code before after (Err Read) = Keeps before after
CheckLeaves code before after (Err NoMemory) = Keeps before after
CheckLeaves code before after (Err (WrongLine error)) = ⊥
CheckLeaves code before after (Err InputTooLong) = ⊥
