use Rattle.std.proofs.Common.{ap, sym, ◌∙◌}
use Rattle.asm_table.specs.Parts.{instr_of_parts}
use Rattle.asm_table.proofs.Each.{built_again, built_is}
use Rattle.asm_table.proofs.laws.parts_are_exact.Goals as goal

pub returns : goal.returns
returns c = λ m os i. (built_is m os i, λ e. ap (λ x. instr_of_parts x os) (sym e.0) ∙ ap (instr_of_parts _) (sym e.1) ∙ built_again i)
