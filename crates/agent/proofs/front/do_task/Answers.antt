use Rattle.std.proofs.Common.{ℕ, Bool, List, Option, None, Some, Result, IfSome, refl, arith}
use Rattle.std.specs.Prelude.{⊤}
use Rattle.std.proofs.KnownBytes.{Keeps-refl}
use Rattle.agent.specs.AsmLeaves.{AsmLeaves}
use Rattle.agent.specs.CheckLeaves.{CheckLeaves}
use Rattle.agent.specs.DisLeaves.{DisLeaves}
use Rattle.agent.specs.Explained.{ReportsAs, ReportsOutcomeAs}
use Rattle.agent.specs.Failures.{status_number}
use Rattle.agent.specs.Reports.{Reports, ReportsOutcome}
use Rattle.agent.specs.RunLeaves.{RunLeaves}
use Rattle.agent.specs.declared.failure.Failure.{Failure}
use Rattle.agent.specs.declared.failure.ExitStatus.{ExitStatus}
use Rattle.agent.proofs.OutOfMemory.{does_nothing}
use Rattle.agent.proofs.front.do_task.Goals as goal

reported_run : (given : Option (List ℕ)) (work : List ℕ → Result ⊤ Failure → Type 0) (before after : Option (List ℕ)) (outcome : Result ⊤ Failure)
    (status : ExitStatus) → IfSome given (λ input. work input outcome) → Reports before after outcome status
    → IfSome given (λ input. ReportsOutcome (work input) before after (status_number status))
reported_run None work before after outcome status done says = tt
reported_run (Some input) work before after outcome status done says = (outcome, status, done, says, refl)

explained_run : (given : Option (List ℕ)) (explains : Bool) (work : List ℕ → Result ⊤ Failure → Type 0) (before after : Option (List ℕ))
    (status : ExitStatus)
    → IfSome given (λ input. (outcome : Result ⊤ Failure) × work input outcome × ReportsAs explains before after outcome status)
    → IfSome given (λ input. ReportsOutcomeAs explains (work input) before after (status_number status))
explained_run None explains work before after status says = tt
explained_run (Some input) explains work before after status says = (says.0, status, says.1, says.2, refl)

pub returns-in-Run : goal.returns-in-Run
returns-in-Run g c = rw c.in-Run.is
    (reported_run _ (λ input. RunLeaves c.in-Run.budget input (g.W.Write.contents c.args.writer.now) (g.W.Write.contents c.run.new.writer)
    (g.R.Read.remaining c.run.new.reader)) _ _ _ _ c.run.ensures c.report.ensures)

pub returns-in-Check : goal.returns-in-Check
returns-in-Check g c = rw c.in-Check.is (
  explained_run _ _ (λ input. CheckLeaves input (g.W.Write.contents c.args.writer.now) (g.W.Write.contents c.check.new.writer)) _ _ _
      c.check.ensures.reported,
  c.check.ensures.consumed,
)

pub returns-in-Assemble : goal.returns-in-Assemble
returns-in-Assemble g c = rw c.in-Assemble.is (
  explained_run _ _ (λ input. AsmLeaves input (g.W.Write.contents c.args.writer.now) (g.W.Write.contents c.asm.new.writer)) _ _ _
      c.asm.ensures.reported,
  c.asm.ensures.consumed,
)

pub returns-in-Disassemble : goal.returns-in-Disassemble
returns-in-Disassemble g c = rw c.in-Disassemble.is (
  reported_run _ (λ input. DisLeaves c.in-Disassemble.showing input (g.W.Write.contents c.args.writer.now) (g.W.Write.contents c.dis.new.writer))
      _ _ _ _ c.dis.ensures.left c.report-in-Disassemble.ensures,
  c.dis.ensures.consumed,
)

pub returns-in-Store : goal.returns-in-Store
returns-in-Store g c =
    let nothing = does_nothing (g.R.Read.remaining c.args.reader.now) (g.W.Write.contents c.args.writer.now) _ _ _ c.report-in-Store.ensures in
    grind (arith, c.in-Store.is, nothing)

pub returns-in-Commands : goal.returns-in-Commands
returns-in-Commands g c = rw c.in-Commands.is (
  (c.commands.result, c.report-in-Commands.result, c.commands.ensures, c.report-in-Commands.ensures, refl),
  Keeps-refl (g.R.Read.remaining c.args.reader.now),
)
