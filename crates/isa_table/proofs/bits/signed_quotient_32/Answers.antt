use Rattle.std.proofs.Common.{arith}
use Rattle.std.proofs.lemmas.Grind.{common_steps}
use Rattle.isa_table.proofs.bits.signed_quotient_32.Goals as goal

pub returns-else-s-eq0 : goal.returns-else-s-eq0
returns-else-s-eq0 c = grind (arith, common_steps)
