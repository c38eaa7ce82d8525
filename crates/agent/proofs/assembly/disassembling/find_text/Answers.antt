use Rattle.std.proofs.Common.{refl, subst, IfErr, Err}
use Rattle.agent.specs.CheckLeaves.{check_limit}
use Rattle.agent.specs.DisLeaves.{Disassembles}
use Rattle.agent.proofs.WholeInput.{text_ok, text_err}
use Rattle.agent.proofs.assembly.disassembling.find_text.Goals as goal

pub returns-clause-ok : goal.returns-clause-ok
returns-clause-ok g c = text_ok c.args.showing (λ v. v.items) check_limit _ _ c.show_code.result refl c.in_ok-code.ensures.whole
    (rw c.deref.ensures.value at c.show_code.ensures.ok)

pub returns-clause-err : goal.returns-clause-err
returns-clause-err g c = text_err c.args.showing check_limit _ _ c.show_code.result refl c.in_ok-code.ensures.whole
    (subst (λ bytes. IfErr c.show_code.result (λ e. Disassembles c.args.showing bytes (Err e))) c.deref.ensures.value c.show_code.ensures.err)
