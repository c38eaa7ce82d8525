use Rattle.asm_text.proofs.Apart.{comment_passed}
use Rattle.asm_text.proofs.laws.comments_dont_matter.Goals as goal

pub returns : goal.returns
returns c = comment_passed
