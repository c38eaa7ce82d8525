use Rattle.std.proofs.Common.{◌≡◌, drop}
use Rattle.asm_table.specs.Names.{register_named, register_in}
use Rattle.asm_table.proofs.register.register_named.Given as goal

abbrev pub invariant-loop-r : goal.invariant-loop-r
invariant-loop-r l = register_in (drop l.r-index l.r-items) l.word ≡ register_named l.word
