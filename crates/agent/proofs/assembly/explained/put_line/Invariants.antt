use Rattle.std.proofs.Common.{◌≡◌, ◌+◌, ◌++◌, drop, map}
use Rattle.arrayvec.specs.ArrayVec.{array_vec_len}
use Rattle.agent.specs.Explained.{shown_byte}
use Rattle.agent.proofs.assembly.explained.put_line.Given as goal

abbrev pub invariant-loop-b : goal.invariant-loop-b
invariant-loop-b l = record {
  items : l.out.items ++ map shown_byte (drop l.b-index l.shown) ≡ l.fn.out.items ++ map shown_byte l.shown;
  short : array_vec_len l.out ≡ array_vec_len l.fn.out + l.b-index;
}
