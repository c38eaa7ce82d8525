use Rattle.asm_table.proofs.Rising.{nth_is}
use Rattle.asm_table.proofs.named.nth.Goals as goal

pub returns : goal.returns
returns c = nth_is c.args.at _ c.requires
