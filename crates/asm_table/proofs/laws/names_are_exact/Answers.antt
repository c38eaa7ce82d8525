use Rattle.std.proofs.Common.{ap, ◌∙◌}
use Rattle.asm_table.specs.Names.{named}
use Rattle.asm_table.proofs.Each.{named_name}
use Rattle.asm_table.proofs.Lookups.{named_is}
use Rattle.asm_table.proofs.laws.names_are_exact.Goals as goal

pub returns : goal.returns
returns c = λ w m h. (named_is w m, λ e. ap named e ∙ named_name m h)
