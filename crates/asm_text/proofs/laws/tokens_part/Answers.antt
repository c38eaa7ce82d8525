use Rattle.asm_text.proofs.Apart.{tokens_part}
use Rattle.asm_text.proofs.laws.tokens_part.Goals as goal

pub returns : goal.returns
returns c = λ xs ys b e h. tokens_part b ys e xs h
