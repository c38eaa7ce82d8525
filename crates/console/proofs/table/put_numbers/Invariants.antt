use Rattle.std.proofs.Common.{◌≡◌, ◌≤◌, ◌+◌, ◌*◌, ◌++◌, take, flat_map}
use Rattle.arrayvec.specs.ArrayVec.{array_vec_len}
use Rattle.console.specs.Commands.{limits_text}
use Rattle.console.proofs.table.put_numbers.Given as goal

abbrev pub invariant-loop-limits : goal.invariant-loop-limits
invariant-loop-limits l = record {
  text : l.table.items ≡ l.initial.table.items ++ flat_map limits_text (take l.limits-index l.numbers);
  short : array_vec_len l.table ≤ array_vec_len l.initial.table + 42 * l.limits-index;
}
