use Rattle.std.proofs.Common.{refl}
use Rattle.agent.specs.AsmLeaves.{AsmLeaves, asm_limit}
use Rattle.agent.proofs.Reported.{reported_over, text_unread, text_whole, unread_over}
use Rattle.agent.proofs.assembly.assembling.asm.Goals as goal

pub returns-in-Err-clause-reported : goal.returns-in-Err-clause-reported
returns-in-Err-clause-reported g c =
    let out = g.W.Write.contents c.args.writer.now in
    unread_over (λ input outcome. AsmLeaves input out out outcome) _ _ _ _ _ _ c.from.ensures (λ input. text_unread input out _ c.from.ensures)
    c.report.ensures

pub returns-clause-reported : goal.returns-clause-reported
returns-clause-reported g c =
    let before = g.W.Write.contents c.args.writer.now in
    let after = g.W.Write.contents c.put_code-outcome.new.writer in
    reported_over (λ input outcome. AsmLeaves input before after outcome) c.args.explains _ _ _ _ c.put_code-outcome.result asm_limit _
    (λ input. text_whole asm_limit input before after _ refl) c.in-Ok.ensures.whole
    (rw c.deref.ensures.value at c.put_code-outcome.ensures) c.report_asm.ensures
