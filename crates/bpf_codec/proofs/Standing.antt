-- Where the rows of each opcode stand.
use Rattle.std.proofs.Common.{◌≡◌, ℕ, zero, suc, ◌+◌, ◌<◌, ◌≤◌, Bool, true, List, [], ◌∷◌, length, get_or, take, drop, refl, ap, sym, ◌∙◌, arith}
use Rattle.std.specs.Prelude.{nat_le}
use Rattle.std.proofs.lemmas.Bool.Decides.{nat_tests}
use Rattle.isa_table.specs.Rows.{all_rows}
use Rattle.isa_table.specs.declared.instr.Instr.{Instr}
use Rattle.bpf_codec.specs.declared.places.TheConstants.{FIRSTS, COUNTS}
use Rattle.bpf_codec.specs.Decoding.{rows_of}
use Rattle.bpf_codec.proofs.Lists.{at_place}

-- the rows at each place, and of each opcode from n on
rows_at_places : List ℕ → List ℕ → List (List Instr)
rows_at_places [] counts = []
rows_at_places (f ∷ fs) [] = []
rows_at_places (f ∷ fs) (c ∷ cs) = take c (drop f all_rows) ∷ rows_at_places fs cs

rows_from : ℕ → ℕ → List (List Instr)
rows_from n zero = []
rows_from n (suc k) = rows_of n ∷ rows_from (suc n) k

-- the table holds what it says, for all opcodes at once
places_right : rows_at_places FIRSTS COUNTS ≡ rows_from 0 256
unfolding rows_at_places rows_from rows_of
places_right = refl

at_nth : (fs cs : List ℕ) (n : ℕ) → n < length fs → n < length cs → get_or (rows_at_places fs cs) n [] ≡ take (get_or cs n 0) (drop (get_or fs n 0) all_rows)
unfolding rows_at_places
at_nth [] cs n p q = absurd (omega (arith, p))
at_nth (f ∷ fs) [] n p q = absurd (omega (arith, q))
at_nth (f ∷ fs) (c ∷ cs) zero p q = refl
at_nth (f ∷ fs) (c ∷ cs) (suc n) p q = at_nth fs cs n (omega (arith, p)) (omega (arith, q))

from_nth : (m k n : ℕ) → n < k → get_or (rows_from m k) n [] ≡ rows_of (m + n)
unfolding rows_from
from_nth m zero n p = absurd (omega (arith, p))
from_nth m (suc k) zero p = let e : m + 0 ≡ m = omega arith in rw e refl
from_nth m (suc k) (suc n) p = let e : m + suc n ≡ suc m + n = omega arith in rw e (from_nth (suc m) k n (omega (arith, p)))

pub rows_stand : (n : ℕ) → n < 256 → take (get_or COUNTS n 0) (drop (get_or FIRSTS n 0) all_rows) ≡ rows_of n
rows_stand n h =
    let e : 0 + n ≡ n = omega arith in
    sym (at_nth FIRSTS COUNTS n h h) ∙ ap (λ (l : List (List Instr)). get_or l n []) places_right ∙ from_nth 0 256 n h ∙ ap rows_of e

within : ℕ → ℕ → Bool
within n first = nat_le (first + get_or COUNTS n 0) (length all_rows)

pub rows_within : (n : ℕ) → n < 256 → get_or FIRSTS n 0 + get_or COUNTS n 0 ≤ length all_rows
unfolding within
rows_within n h =
    let e : 0 + n ≡ n = omega arith in
    let t : within n (get_or FIRSTS n 0) ≡ true = rw e at (at_place within 0 FIRSTS refl n 0 h) in
    grind (arith, nat_tests, t)
