-- What `asm` and `dis` leave in the output.
use Rattle.std.specs.Prelude.{ℕ, ⊤, List, Option, Result, Ok, Err}
use Rattle.std.specs.Io.KnownBytes.{Appends, Keeps}
use Rattle.streams.specs.Streams.{AppendsPart}
use Rattle.agent.specs.declared.failure.Failure.{Failure}
use Rattle.agent.specs.declared.failure.Failure.TheVariants.{Refused, WrongLine, InputTooLong, Read, Write, NoMemory}

-- What is left in the output, which was as before, of what is found: the bytes that are found, or nothing at all where there are none.
abbrev pub Leaves : (Result (List ℕ) Failure → Type 0) → Option (List ℕ) → Option (List ℕ) → Result ⊤ Failure → Type 0
Leaves finds before after (Ok done) = (bytes : List ℕ) × finds (Ok bytes) × Appends before after bytes
Leaves finds before after (Err Write) = (bytes : List ℕ) × finds (Ok bytes) × AppendsPart before after bytes
Leaves finds before after (Err (Refused error)) = finds (Err (Refused error)) × Keeps before after
Leaves finds before after (Err (WrongLine error)) = finds (Err (WrongLine error)) × Keeps before after
Leaves finds before after (Err InputTooLong) = finds (Err InputTooLong) × Keeps before after
Leaves finds before after (Err Read) = finds (Err Read) × Keeps before after
Leaves finds before after (Err NoMemory) = finds (Err NoMemory) × Keeps before after
