use Rattle.std.proofs.Common.{refl}
use Rattle.asm_text.proofs.cursor.Tokens.new.Goals as goal

pub invariant_of-result-clause-whole : goal.invariant_of-result-clause-whole
invariant_of-result-clause-whole c = ∣ (0, refl) ∣₁
