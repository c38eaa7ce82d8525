use Rattle.asm_text.proofs.Apart.{blank_passed}
use Rattle.asm_text.proofs.laws.blanks_dont_matter.Goals as goal

pub returns : goal.returns
returns c = blank_passed
