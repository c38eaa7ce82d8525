use Rattle.asm_text.proofs.Apart.{mark_apart}
use Rattle.asm_text.proofs.laws.marks_part.Goals as goal

pub returns : goal.returns
returns c = mark_apart
