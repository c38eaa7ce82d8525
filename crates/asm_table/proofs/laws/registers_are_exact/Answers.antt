use Rattle.std.proofs.Common.{ap, ◌∙◌}
use Rattle.isa_table.specs.Registers.{all_registers}
use Rattle.asm_table.specs.Names.{register_named}
use Rattle.asm_table.proofs.Lookups.{register_again, register_is}
use Rattle.asm_table.proofs.laws.registers_are_exact.Goals as goal

pub returns : goal.returns
returns c = λ w r. (register_is all_registers w r, λ e. ap register_named e ∙ register_again r)
