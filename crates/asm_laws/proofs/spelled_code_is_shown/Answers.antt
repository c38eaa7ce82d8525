use Rattle.asm_laws.proofs.Fitted.{is_shown}
use Rattle.asm_laws.proofs.spelled_code_is_shown.Goals as goal

pub returns : goal.returns
returns c = is_shown
