-- What `commands` leaves in the output.
use Rattle.std.specs.Prelude.{ℕ, ⊤, List, Option, Result, Ok, Err}
use Rattle.std.specs.Io.KnownBytes.{Appends, Keeps}
use Rattle.console.specs.Commands.{command_lines}
use Rattle.streams.specs.Streams.{AppendsPart}
use Rattle.agent.specs.declared.failure.Failure.{Failure}
use Rattle.agent.specs.declared.failure.Failure.TheVariants.{Write, NoMemory}

-- What `commands` leaves in the output, which was as before: the table of commands, or a part of it if the stream fails, or nothing if
-- there was no memory to read the arguments.
abbrev pub CommandsLeaves : Option (List ℕ) → Option (List ℕ) → Result ⊤ Failure → Type 0
CommandsLeaves before after (Ok done) = Appends before after command_lines
CommandsLeaves before after (Err Write) = AppendsPart before after command_lines
CommandsLeaves before after (Err NoMemory) = Keeps before after
CommandsLeaves before after (Err _) = ⊥
