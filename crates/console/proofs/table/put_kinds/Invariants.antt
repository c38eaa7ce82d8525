use Rattle.std.proofs.Common.{◌≡◌, ◌≤◌, ◌+◌, ◌*◌, ◌++◌, take, flat_map}
use Rattle.arrayvec.specs.ArrayVec.{array_vec_len}
use Rattle.console.specs.Commands.{command_line}
use Rattle.console.proofs.table.put_kinds.Given as goal

abbrev pub invariant-loop-kind : goal.invariant-loop-kind
invariant-loop-kind l = record {
  text : l.table.items ≡ l.initial.table.items ++ flat_map command_line (take l.kind-index l.kinds);
  short : array_vec_len l.table ≤ array_vec_len l.initial.table + 300 * l.kind-index;
}
