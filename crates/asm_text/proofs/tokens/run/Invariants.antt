use Rattle.std.proofs.Common.{◌≡◌, ◌+◌, drop}
use Rattle.asm_text.specs.Tokens.{run, in_class}
use Rattle.asm_text.proofs.tokens.run.Given as goal

abbrev pub invariant-loop-i : goal.invariant-loop-i
invariant-loop-i l = l.i + run (in_class l.class) (drop l.i l.bytes) ≡ run (in_class l.class) l.bytes
