use Rattle.std.proofs.Common.{refl, false}
use Rattle.agent.specs.CheckLeaves.{CheckLeaves, check_limit}
use Rattle.agent.proofs.Reported.{checked_over, code_unread, code_whole, reported_over, unread_over}
use Rattle.agent.proofs.assembly.checking.check.Goals as goal

pub returns-in-Err-clause-reported : goal.returns-in-Err-clause-reported
returns-in-Err-clause-reported g c =
    let out = g.W.Write.contents c.args.writer.now in
    unread_over (λ input outcome. CheckLeaves input out out outcome) _ _ _ _ _ _ c.from.ensures (λ input. code_unread input out _ c.from.ensures)
    c.report.ensures

pub returns-then-explains-clause-reported : goal.returns-then-explains-clause-reported
returns-then-explains-clause-reported g c = rw c.if-explains.true (checked_over _ _ _ _ _ _ _ check_limit _ refl c.in-Ok.ensures.whole
    (rw c.deref.ensures.value at c.put_slots-outcome.ensures) c.report_check.ensures)

pub returns-clause-reported : goal.returns-clause-reported
returns-clause-reported g c =
    let before = g.W.Write.contents c.args.writer.now in
    let after = g.W.Write.contents c.put_slots-outcome.new.writer in
    rw c.if-explains.false (reported_over (λ input outcome. CheckLeaves input before after outcome) false _ _ _ _ c.put_slots-outcome.result check_limit _
    (λ input. code_whole check_limit input before after _ refl) c.in-Ok.ensures.whole
    (rw c.deref.ensures.value at c.put_slots-outcome.ensures) c.report-2.ensures)
