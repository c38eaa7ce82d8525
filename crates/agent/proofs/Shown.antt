-- A text as it is shown is an explanation.
use Rattle.std.proofs.Common.{◌≡◌, ◌≤◌, ℕ, nat_le, Bool, true, false, List, take, get_or, map, cond, refl, arith, ◌==◌, ◌&&◌}
use Rattle.std.proofs.lemmas.Bool.Decides.{nat_tests}
use Rattle.std.proofs.lemmas.List.{length-take, length-map}
use Rattle.std.proofs.lemmas.List.Elements.{All-map}
use Rattle.agent.specs.Explained.{IsExplanation, IsPrintable, explanation_limit, shown_byte}

inner : (b : ℕ) (t : Bool) → (nat_le 32 b && nat_le b 126) ≡ t → IsPrintable (cond t b 63)
inner b true e = grind (arith, nat_tests, e)
inner b false e = (omega arith, omega arith)

outer : (b : ℕ) (t : Bool) → IsPrintable (cond t 32 (cond (nat_le 32 b && nat_le b 126) b 63))
outer b true = (omega arith, omega arith)
outer b false = inner b (nat_le 32 b && nat_le b 126) refl

-- each byte is shown by a printable character
pub printable : (b : ℕ) → IsPrintable (shown_byte b)
printable b = outer b (b == 9)

pub is_explanation : (n : ℕ) (text : List ℕ) → n ≤ explanation_limit → IsExplanation (map shown_byte (take n text))
is_explanation n text fits = (
  All-map IsPrintable shown_byte (take n text) (λ k d lt. printable (get_or (take n text) k d)),
  omega (arith, length-map (take n text) shown_byte, length-take n text, fits),
)
