use Rattle.std.proofs.Common.{◌∙◌}
use Rattle.agent.proofs.ErrorShown.{error_shown}
use Rattle.agent.proofs.front.show_answer.Goals as goal

pub returns-in-Ok-to_string : goal.returns-in-Ok-to_string
returns-in-Ok-to_string g c =
    error_shown _ (g.W.Write.contents c.args.writer.now) _ _ c.show_error.result (λ e. c.in_default.not-DisplayHelp (c.kind.ensures ∙ e))
    (λ e. c.in_default.not-DisplayVersion (c.kind.ensures ∙ e)) (λ e. c.in_default.not-OutOfMemory (c.kind.ensures ∙ e))
    c.show_error.ensures
