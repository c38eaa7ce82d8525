use Rattle.std.proofs.Common.{Some, sym, ◌∙◌}
use Rattle.world.specs.declared.world.moving.Move.TheVariants.{Returned}
use Rattle.world.specs.declared.replies.Reply.TheVariants as reply
use Rattle.bpfagent_c.proofs.Back.{number_back, back_done, back_damaged, back_lost}
use Rattle.bpfagent_c.proofs.handing.bpfagent_returned_from.Goals as goal

pub returns-in-Some-clause-replied : goal.returns-in-Some-clause-replied
returns-in-Some-clause-replied c = (
  Some (reply.Moved c.args.object Returned c.in-Some.moved),
  c.in-Some.ensures.some,
  number_back c.in-Some.moved _ c.code_of_back.ensures,
)

pub returns-in-Some-clause-back : goal.returns-in-Some-clause-back
returns-in-Some-clause-back c = λ zero. c.in-Some.ensures.back (back_done _ (sym c.code_of_back.ensures ∙ zero))

pub returns-in-Some-clause-damaged : goal.returns-in-Some-clause-damaged
returns-in-Some-clause-damaged c = λ others. c.in-Some.ensures.damaged (back_damaged _ (sym c.code_of_back.ensures ∙ others))

pub returns-in-Some-clause-others : goal.returns-in-Some-clause-others
returns-in-Some-clause-others c = λ lost differ. let k = back_lost _ (sym c.code_of_back.ensures ∙ lost) in
    k.2 (c.in-Some.ensures.others k.0 k.1 differ)
