-- What the whole program leaves in its streams.
use Rattle.std.specs.Prelude.{ℕ, ⊤, List, Option, Result, Ok, Err, IfSome}
use Rattle.std.specs.Io.KnownBytes.{Keeps}
use Rattle.clap.specs.Words.{Kinds}
use Rattle.streams.specs.Streams.{ConsumesAtMost}
use Rattle.agent.specs.AsmLeaves.{AsmLeaves, asm_limit}
use Rattle.agent.specs.CheckLeaves.{CheckLeaves, check_limit}
use Rattle.agent.specs.CommandsLeaves.{CommandsLeaves}
use Rattle.agent.specs.DisLeaves.{DisLeaves}
use Rattle.agent.specs.ErrorShown.{ShowsOneOf}
use Rattle.agent.specs.Explained.{ReportsOutcomeAs}
use Rattle.agent.specs.Reports.{ReportsOutcome}
use Rattle.agent.specs.RunLeaves.{RunLeaves}
use Rattle.agent.specs.declared.arguments.Task.{Task}
use Rattle.agent.specs.declared.arguments.Task.TheVariants.{Run, Check, Assemble, Disassemble, Store, Serve, Commands}
use Rattle.agent.specs.declared.failure.Failure.{Failure}
use Rattle.agent.specs.declared.failure.Failure.TheVariants.{NoMemory}

-- What the streams have before the program runs and after: what the input has left, the output, and standard error.
pub record StreamStates : Type 0 where
  pub input : Option (List ℕ)
  pub unread : Option (List ℕ)
  pub out_before : Option (List ℕ)
  pub out_after : Option (List ℕ)
  pub errors_before : Option (List ℕ)
  pub errors_after : Option (List ℕ)

-- it was found that there is nothing to do here, or there was no memory to find out
abbrev pub IsUndone : Result ⊤ Failure → Type 0
IsUndone (Ok done) = ⊤
IsUndone (Err NoMemory) = ⊤
IsUndone (Err _) = ⊥

-- Where who has the network does the task: nothing is read and nothing is written, and standard error and the status tell no more than
-- that memory ran out, if it did.
abbrev pub LeavesUndone : StreamStates → ℕ → Type 0
LeavesUndone s number = Keeps s.input s.unread × Keeps s.out_before s.out_after × ReportsOutcome IsUndone s.errors_before s.errors_after number

-- The streams and the status after this task. Over an input that is known it leaves what its own definition says, and all but `run` read
-- a part of any input that has a bound; `commands` reads nothing.
abbrev pub TaskLeaves : Task → StreamStates → ℕ → Type 0
TaskLeaves (Run budget) s number = IfSome s.input (λ input.
    ReportsOutcome (RunLeaves budget input s.out_before s.out_after s.unread) s.errors_before s.errors_after number)
TaskLeaves (Check explains) s number = IfSome s.input (λ input.
    ReportsOutcomeAs explains (CheckLeaves input s.out_before s.out_after) s.errors_before s.errors_after number)
    × ConsumesAtMost check_limit s.input s.unread
TaskLeaves (Assemble explains) s number = IfSome s.input (λ input.
    ReportsOutcomeAs explains (AsmLeaves input s.out_before s.out_after) s.errors_before s.errors_after number)
    × ConsumesAtMost asm_limit s.input s.unread
TaskLeaves (Disassemble showing) s number = IfSome s.input (λ input.
    ReportsOutcome (DisLeaves showing input s.out_before s.out_after) s.errors_before s.errors_after number)
    × ConsumesAtMost check_limit s.input s.unread
TaskLeaves (Store storing) s number = LeavesUndone s number
TaskLeaves (Serve serving) s number = LeavesUndone s number
TaskLeaves Commands s number = ReportsOutcome (CommandsLeaves s.out_before s.out_after) s.errors_before s.errors_after number × Keeps s.input s.unread

-- The same after arguments that may give these kinds of error: one of them is answered, or out of memory, and nothing is read.
abbrev pub WrongLeaves : Kinds → StreamStates → ℕ → Type 0
WrongLeaves kinds s number = ShowsOneOf kinds s.out_before s.out_after s.errors_before s.errors_after number × Keeps s.input s.unread
