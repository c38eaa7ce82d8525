-- How grants are kept one by one, in 16 bits each: the first places hold one each.
use Rattle.std.specs.Prelude.{ℕ, zero, suc, ◌+◌, ◌*◌, ◌/◌, ◌%◌, ◌≡◌, nat_eq, false, if◌then◌else◌, List, [], ◌∷◌}
use Rattle.std.proofs.Common.{◌<◌, refl, ap, ◌∙◌, mod-lt, zero-lt-suc, div-add-mod', le_of_suc-le-suc, not-suc-le-zero}
use Rattle.machine.specs.declared.grants.Grant.{Grant}

-- the grant that a word keeps: its last bit says that the object may be written, and the others are the number
abbrev pub grant_of : ℕ → Grant
grant_of word = record { number = word / 2; writes = nat_eq (word % 2) 1 }

-- the word that keeps a grant
abbrev pub word_of : Grant → ℕ
word_of g = g.number * 2 + (if g.writes then 1 else 0)

-- the last bit of a word
bit_of : (r : ℕ) → r < 2 → (if nat_eq r 1 then 1 else 0) ≡ r
bit_of zero l = refl
bit_of (suc zero) l = refl
bit_of (suc (suc r)) l = absurd (not-suc-le-zero (le_of_suc-le-suc (le_of_suc-le-suc l)))

-- a word is that of the grant that it keeps
pub word_of_grant : (word : ℕ) → word_of (grant_of word) ≡ word
word_of_grant word = ap (λ r. word / 2 * 2 + r) (bit_of (word % 2) (mod-lt word (zero-lt-suc 1))) ∙ div-add-mod' word 2

-- the grants that are kept, where number 0 keeps none
abbrev pub grants_in : List Grant → List Grant
grants_in [] = []
grants_in (g ∷ gs) = if nat_eq g.number 0 then (grants_in gs) else (g ∷ grants_in gs)

-- the first places keep a grant each, so many of them, and the others keep none
abbrev pub AreKept : ℕ → List Grant → Type 0
AreKept zero [] = Unit
AreKept (suc count) [] = ⊥
AreKept zero (g ∷ gs) = (g.number ≡ 0) × AreKept zero gs
AreKept (suc count) (g ∷ gs) = (nat_eq g.number 0 ≡ false) × AreKept count gs
