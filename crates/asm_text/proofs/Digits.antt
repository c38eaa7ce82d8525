-- Digits, and the bytes of a token.
use Rattle.std.proofs.Common.{◌≡◌, ℕ, ◌<◌, ◌≤◌, ◌==◌, ◌&&◌, zero, suc, Bool, true, false, List, [], ◌∷◌, length, take, drop, get_or, refl, sym, ◌∙◌, arith}
use Rattle.std.proofs.Common.{IsAscii, lit<}
use Rattle.std.specs.Str.Parse.{AllDigits}
use Rattle.std.specs.Char.{digit_value, is_ascii_digit, is_ascii_hexdigit}
use Rattle.asm_text.specs.Tokens.{run, IsToken, word_length, is_letter, begins_hex}
use Rattle.std.proofs.lemmas.Bool.Decides.{nat_tests}

small_digit : (radix c : ℕ) → radix ≤ 36 → digit_value c < radix → c < 128
small_digit radix c h d = grind (arith, nat_tests)

pub ascii_digits : (radix : ℕ) (ds : List ℕ) → radix ≤ 36 → AllDigits radix ds → IsAscii ds
ascii_digits radix [] h d = λ i. lit< tt
ascii_digits radix (c ∷ cs) h d = λ i. elim i as (λ j. get_or (c ∷ cs) j 0 < 128) [ zero ↦ small_digit radix c h d.0 | suc j ↦ ascii_digits radix cs h d.1 j ]

pub decimal_digit : (c : ℕ) → is_ascii_digit c ≡ true → digit_value c < 10
decimal_digit c h = grind (arith, nat_tests)

pub hex_digit : (c : ℕ) → is_ascii_hexdigit c ≡ true → digit_value c < 16
hex_digit c h = grind (arith, nat_tests)

module _ (radix : ℕ) (p : ℕ → Bool) (small : (c : ℕ) → p c ≡ true → digit_value c < radix) where
  run_digits_at : (b : ℕ) (bs : List ℕ) (t : Bool) → p b ≡ t → AllDigits radix (take (run p bs) bs) → AllDigits radix (take (run p (b ∷ bs)) (b ∷ bs))
  run_digits_at b bs true e h = rw e (small b e, h)
  run_digits_at b bs false e h = rw e tt

  pub run_digits : (bs : List ℕ) → AllDigits radix (take (run p bs) bs)
  run_digits [] = tt
  run_digits (b ∷ bs) = run_digits_at b bs (p b) refl (run_digits bs)

-- the byte after the first digit is a digit, or there is none
second_at : (b : ℕ) (bs : List ℕ) (t : Bool) → is_ascii_digit b ≡ t → (get_or (take (run is_ascii_digit (b ∷ bs)) (b ∷ bs)) 0 0 == 120) ≡ false
second_at b bs true e = rw e (grind (arith, nat_tests))
second_at b bs false e = rw e refl

second : (bs : List ℕ) → (get_or (take (run is_ascii_digit bs) bs) 0 0 == 120) ≡ false
second [] = refl
second (b ∷ bs) = second_at b bs (is_ascii_digit b) refl

decimal_word : (b : ℕ) (bs : List ℕ) → is_ascii_digit b ≡ true → IsToken (b ∷ take (run is_ascii_digit bs) bs)
decimal_word b bs d = (
  omega arith,
  λ _. (
    λ x. absurd (let f : true ≡ false = sym x ∙ second bs in cc f),
    λ _. (omega arith, (decimal_digit b d, run_digits 10 is_ascii_digit decimal_digit bs)),
  ),
)

pub and_both : (a b : Bool) → (a && b) ≡ true → (a ≡ true) × (b ≡ true)
and_both true b e = (refl, e)
and_both false b e = absurd (cc e)

some_run : (d : ℕ) (bs : List ℕ) → is_ascii_hexdigit d ≡ true → 0 < length (take (run is_ascii_hexdigit (d ∷ bs)) (d ∷ bs))
some_run d bs e = rw e (omega arith)

hex_word : (b : ℕ) (bs : List ℕ) → begins_hex bs ≡ true → IsToken (b ∷ take (suc (run is_ascii_hexdigit (drop 1 bs))) bs)
hex_word b [] e = absurd (cc e)
hex_word b (x ∷ []) e = absurd (cc e)
hex_word b (x ∷ d ∷ bs) e =
    let x_is : (x == 120) ≡ true = (and_both (x == 120) (is_ascii_hexdigit d) e).0 in
    let h : is_ascii_hexdigit d ≡ true = (and_both (x == 120) (is_ascii_hexdigit d) e).1 in
    (omega arith, λ _. (λ _. (some_run d bs h, run_digits 16 is_ascii_hexdigit hex_digit (d ∷ bs)), λ f. absurd (let k : true ≡ false = sym x_is ∙ f in cc k)))

letter_no_digit : (b : ℕ) → is_letter b ≡ true → is_ascii_digit b ≡ true → ⊥
letter_no_digit b l d = grind (arith, nat_tests)

-- the bytes of the token at the front
word_of : (b : ℕ) (bs : List ℕ) (l h d : Bool) → is_letter b ≡ l → (b == 48 && begins_hex bs) ≡ h → is_ascii_digit b ≡ d
    → IsToken (take (word_length (b ∷ bs)) (b ∷ bs))
unfolding word_length
word_of b bs true h d e f g = rw e (omega arith, λ k. absurd (letter_no_digit b e k))
word_of b bs false true d e f g = rw (e, f) (hex_word b bs (and_both (b == 48) (begins_hex bs) f).1)
word_of b bs false false true e f g = rw (e, f, g) (decimal_word b bs g)
word_of b bs false false false e f g = rw (e, f, g) (omega arith, λ k. absurd (let j : true ≡ false = sym k ∙ g in cc j))

pub word_at : (bs : List ℕ) (n : ℕ) → 0 < length bs → n ≡ word_length bs → IsToken (take n bs)
word_at [] n h e = absurd (omega arith)
word_at (b ∷ bs) n h e = rw e (word_of b bs (is_letter b) (b == 48 && begins_hex bs) (is_ascii_digit b) refl refl refl)
