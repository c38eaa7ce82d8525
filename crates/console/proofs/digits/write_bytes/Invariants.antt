use Rattle.std.proofs.Common.{◌≡◌, ℕ, List, take, Ok}
use Rattle.hex.specs.Hex.{decode_of}
use Rattle.console.proofs.digits.write_bytes.Given as goal

abbrev pub invariant-loop-i : goal.invariant-loop-i
invariant-loop-i l = (value : List ℕ) → decode_of l.text ≡ Ok value → take l.i l.bytes ≡ take l.i value
