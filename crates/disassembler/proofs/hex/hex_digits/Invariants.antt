use Rattle.std.proofs.Common.{◌≡◌, ◌≤◌, ◌<◌, ◌+◌, ◌^◌, ◌%◌, ◌∷◌, drop, false, length}
use Rattle.std.specs.Fmt.{digits, digit_glyph}
use Rattle.disassembler.proofs.Hexed.{hexed}
use Rattle.disassembler.proofs.hex.hex_digits.Given as goal

abbrev pub invariant-loop-n : goal.invariant-loop-n
invariant-loop-n l = record {
  so_far : hexed (49 + l.at) l.n (drop (l.at + 1) l.buffer) ≡ digits 16 false l.k;
  here : drop l.at l.buffer ≡ digit_glyph false (l.n % 16) ∷ drop (l.at + 1) l.buffer;
  at : l.at ≤ 15;
  small : l.n < 16 ^ (l.at + 1);
  long : length l.buffer ≡ 16;
}

abbrev pub decreases-loop-n : goal.decreases-loop-n
decreases-loop-n l = l.n
