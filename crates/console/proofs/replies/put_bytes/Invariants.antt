use Rattle.std.proofs.Common.{◌≡◌, ℕ, ◌+◌, ◌*◌, List, ◌++◌, length}
use Rattle.arrayvec.specs.ArrayVec.{array_vec_len}
use Rattle.hex.specs.Hex.{encode_lower}
use Rattle.console.proofs.replies.put_bytes.Given as goal

abbrev pub invariant-loop-rest : goal.invariant-loop-rest
invariant-loop-rest l = (part : List ℕ) × (l.bytes ≡ part ++ l.rest) × (l.line.items ≡ l.initial.line.items ++ encode_lower part)
    × (array_vec_len l.line ≡ array_vec_len l.initial.line + 2 * length part)

abbrev pub decreases-loop-rest : goal.decreases-loop-rest
decreases-loop-rest l = length l.rest
