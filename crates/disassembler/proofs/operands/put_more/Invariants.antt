use Rattle.std.proofs.Common.{◌≡◌, ◌≤◌, ◌+◌, ◌*◌, ◌++◌, drop}
use Rattle.arrayvec.specs.ArrayVec.{array_vec_len}
use Rattle.asm_table.specs.Canonical.{more_text}
use Rattle.disassembler.proofs.operands.put_more.Given as goal

abbrev pub invariant-loop-o : goal.invariant-loop-o
invariant-loop-o l = record {
  so_far : l.line.items ++ more_text (drop l.o-index l.operands) ≡ l.fn.line.items ++ more_text l.operands;
  len : array_vec_len l.line ≤ array_vec_len l.fn.line + 52 * l.o-index;
}
