use Rattle.std.proofs.Common.{◌-◌}
use Rattle.asm_table.proofs.Rising.{Narrowed}
use Rattle.asm_table.proofs.mnemonic.Mnemonic.named.Given as goal

abbrev pub invariant-loop-low : goal.invariant-loop-low
invariant-loop-low l = Narrowed l.word l.low l.high

abbrev pub decreases-loop-low : goal.decreases-loop-low
decreases-loop-low l = l.high - l.low
