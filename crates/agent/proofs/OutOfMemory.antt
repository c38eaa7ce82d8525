-- Right arguments that are answered by an error: there was no memory to read them.
use Rattle.std.proofs.Common.{◌≡◌, ℕ, Bool, List, [], Option, None, Some, IfSome, Ok, Err, Result, ◌∷◌, inl, inr, refl, arith}
use Rattle.std.specs.Prelude.{⊤}
use Rattle.std.specs.Io.KnownBytes.{Consumes, Keeps}
use Rattle.std.proofs.KnownBytes.{Keeps-refl}
use Rattle.clap.specs.Words.{HasKind, Kinds, kind_of}
use Rattle.clap.specs.declared.error.Error.{Error}
use Rattle.clap.specs.declared.error.kind.ErrorKind.TheVariants as kind
use Rattle.streams.specs.Streams.{ConsumesAtMost}
use Rattle.agent.specs.CheckLeaves.{CheckLeaves, check_limit}
use Rattle.agent.specs.AsmLeaves.{AsmLeaves, asm_limit}
use Rattle.agent.specs.DisLeaves.{DisLeaves}
use Rattle.agent.specs.ErrorShown.{Shows}
use Rattle.agent.specs.Explained.{ReportsOutcomeAs}
use Rattle.agent.specs.Failures.{status_number}
use Rattle.agent.specs.Reports.{Reports, ReportsOutcome}
use Rattle.agent.specs.RunLeaves.{RunLeaves}
use Rattle.agent.specs.TaskLeaves.{LeavesUndone, StreamStates, TaskLeaves}
use Rattle.agent.specs.declared.arguments.Task.{Task}
use Rattle.agent.specs.declared.arguments.Task.TheVariants.{Run, Check, Assemble, Disassemble, Commands}
use Rattle.agent.specs.declared.failure.Failure.{Failure}
use Rattle.agent.specs.declared.failure.Failure.TheVariants.{NoMemory}
use Rattle.agent.specs.declared.failure.ExitStatus.{ExitStatus}
use Rattle.agent.proofs.Reported.{plainly}

only_memory : (kinds : Kinds) (error : Error) → kinds ≡ [] → HasKind kinds error → kind_of error ≡ kind.OutOfMemory
only_memory [] error right (inl is) = is
only_memory [] error right (inr among) = absurd among
only_memory (k ∷ kinds) error right has = absurd (cc)

consumes_nothing : (known : Option (List ℕ)) → Consumes known known []
consumes_nothing None = tt
consumes_nothing (Some bytes) = refl

pub reads_nothing : (most : ℕ) (known : Option (List ℕ)) → ConsumesAtMost most known known
reads_nothing most known = ([], omega arith, consumes_nothing known)

module _ (before after : Option (List ℕ)) (status : ExitStatus) (number : ℕ) (says : Reports before after (Err NoMemory) status)
    (is : number ≡ status_number status) where
  -- the work has come to no more, whatever the input is
  told_over : (given : Option (List ℕ)) (work : List ℕ → Result ⊤ Failure → Type 0)
      → ((input : List ℕ) → Keeps (Some input) given → work input (Err NoMemory)) → IfSome given (λ input. ReportsOutcome (work input) before after number)
  told_over None work left = tt
  told_over (Some input) work left = (Err NoMemory, status, left input refl, says, is)

  explained_over : (given : Option (List ℕ)) (explains : Bool) (work : List ℕ → Result ⊤ Failure → Type 0)
      → ((input : List ℕ) → work input (Err NoMemory)) → IfSome given (λ input. ReportsOutcomeAs explains (work input) before after number)
  explained_over None explains work left = tt
  explained_over (Some input) explains work left =
      (Err NoMemory, status, left input, plainly explains before after status NoMemory (inr refl) says, is)

-- the streams where nothing was read
abbrev unread_states : (given out_before out_after before after : Option (List ℕ)) → StreamStates
unread_states given out_before out_after before after = record {
  input = given;
  unread = given;
  out_before = out_before;
  out_after = out_after;
  errors_before = before;
  errors_after = after;
}

left_by : (task : Task) (given out_before out_after before after : Option (List ℕ)) (status : ExitStatus) (number : ℕ)
    → Keeps out_before out_after → Reports before after (Err NoMemory) status → number ≡ status_number status
    → TaskLeaves task (unread_states given out_before out_after before after) number
left_by (Run budget) given out_before out_after before after status number kept says is =
    told_over before after status number says is given (λ input. RunLeaves budget input out_before out_after given) (λ input unread. (kept, unread))
left_by (Check explains) given out_before out_after before after status number kept says is = (
  explained_over before after status number says is given explains (λ input. CheckLeaves input out_before out_after) (λ input. kept),
  reads_nothing check_limit given,
)
left_by (Assemble explains) given out_before out_after before after status number kept says is = (
  explained_over before after status number says is given explains (λ input. AsmLeaves input out_before out_after) (λ input. (tt, kept)),
  reads_nothing asm_limit given,
)
left_by (Disassemble showing) given out_before out_after before after status number kept says is = (
  told_over before after status number says is given (λ input. DisLeaves showing input out_before out_after) (λ input unread. (tt, kept)),
  reads_nothing check_limit given,
)
left_by Commands given out_before out_after before after status number kept says is = ((Err NoMemory, status, kept, says, is), Keeps-refl given)
left_by task given out_before out_after before after status number kept says is = (Keeps-refl given, kept, (Err NoMemory, status, tt, says, is))

-- whatever the task is, nothing of it was done
pub memory_leaves : (task : Task) (given out_before out_after before after : Option (List ℕ)) (kinds : Kinds) (error : Error)
    (status : ExitStatus) (number : ℕ)
    → kinds ≡ [] → HasKind kinds error → Shows (kind_of error) out_before out_after before after status → number ≡ status_number status
    → TaskLeaves task (record {
      input = given;
      unread = given;
      out_before = out_before;
      out_after = out_after;
      errors_before = before;
      errors_after = after;
    }) number
memory_leaves task given out_before out_after before after kinds error status number right has shown is =
    let says = rw (only_memory kinds error right has) at shown in left_by task given out_before out_after before after status number says.0 says.1 is

-- nothing is done, and that is told
pub does_nothing : (given out before after : Option (List ℕ)) (status : ExitStatus) → Reports before after (Ok tt) status → LeavesUndone (record {
  input = given;
  unread = given;
  out_before = out;
  out_after = out;
  errors_before = before;
  errors_after = after;
}) (status_number status)
does_nothing given out before after status says = (Keeps-refl given, Keeps-refl out, (Ok tt, status, tt, says, refl))
