use Rattle.std.proofs.Common.{◌≡◌, ◌*◌, take}
use Rattle.hex.specs.Hex.{encode_lower}
use Rattle.console.proofs.digits.write_digits.Given as goal

abbrev pub invariant-loop-i : goal.invariant-loop-i
invariant-loop-i l = take (2 * l.i) l.text ≡ encode_lower (take l.i l.bytes)
