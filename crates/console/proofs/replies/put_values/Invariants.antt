use Rattle.std.proofs.Common.{◌≡◌, ◌+◌, ◌*◌, ◌++◌, take, flat_map}
use Rattle.arrayvec.specs.ArrayVec.{array_vec_len}
use Rattle.console.specs.Replies.{value_text}
use Rattle.console.proofs.replies.put_values.Given as goal

abbrev pub invariant-loop-value : goal.invariant-loop-value
invariant-loop-value l = record {
  text : l.line.items ≡ l.initial.line.items ++ flat_map value_text (take l.value-index l.values);
  short : array_vec_len l.line ≡ array_vec_len l.initial.line + 17 * l.value-index;
}
