use Rattle.std.proofs.Common.{◌≡◌, true, take}
use Rattle.std.specs.List.{AllPass}
use Rattle.hex.specs.Hex.{is_hex_digit}
use Rattle.console.proofs.digits.are_hex_digits.Given as goal

abbrev pub invariant-loop-b : goal.invariant-loop-b
invariant-loop-b l = (l.all ≡ true → AllPass is_hex_digit (take l.b-index l.token)) × (AllPass is_hex_digit l.token → l.all ≡ true)
