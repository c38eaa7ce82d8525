-- Where no word goes on, the tokens of a line part.
use Rattle.std.proofs.Common.{◌≡◌, ℕ, ◌-◌, ◌≤◌, ◌==◌, ◌&&◌, zero, suc, Bool, true, false, cond, List, [], ◌∷◌, ◌++◌, length, take, drop, append-nil, refl, ap}
use Rattle.std.proofs.Common.{◌∙◌, arith}
use Rattle.std.proofs.lemmas.Bool.Decides.{nat_tests}
use Rattle.std.specs.Char.{is_ascii_digit, is_ascii_hexdigit}
use Rattle.asm_text.specs.Tokens.{run, tokens, tokens_past, is_blank, is_letter, is_name_byte, begins_comment, begins_hex, word_length, lexeme_of, is_clean}
use Rattle.asm_text.specs.Tokens.{comment_of, mark_of}
use Rattle.asm_text.specs.Tokens.Lexeme.{Stray}
use Rattle.asm_text.specs.Laws.{no_comment}
use Rattle.asm_text.proofs.Spelled.{word_front, begins_no_hex, and_right, name_byte_ends, name_byte_ends_hex}

run_bound_at : (p : ℕ → Bool) (x : ℕ) (xs : List ℕ) (t : Bool) → p x ≡ t → run p xs ≤ length xs → run p (x ∷ xs) ≤ suc (length xs)
run_bound_at p x xs true e h = rw e (omega arith)
run_bound_at p x xs false e h = rw e (omega arith)

run_bound : (p : ℕ → Bool) (xs : List ℕ) → run p xs ≤ length xs
run_bound p [] = omega arith
run_bound p (x ∷ xs) = run_bound_at p x xs (p x) refl (run_bound p xs)

take_front : (n : ℕ) (xs zs : List ℕ) → n ≤ length xs → take n (xs ++ zs) ≡ take n xs
take_front zero xs zs h = refl
take_front (suc n) [] zs h = absurd (omega arith)
take_front (suc n) (x ∷ xs) zs h = ap (λ l. x ∷ l) (take_front n xs zs (omega arith))

hex_bound : (x : ℕ) (xs : List ℕ) → begins_hex xs ≡ true → suc (suc (run is_ascii_hexdigit (drop 1 xs))) ≤ suc (length xs)
hex_bound x [] e = absurd (cc e)
hex_bound x (y ∷ ys) e = let k = run_bound is_ascii_hexdigit ys in omega (arith, k)

both : (a b : Bool) → (a && b) ≡ true → b ≡ true
both true b e = e
both false b e = absurd (cc e)

word_bound : (x : ℕ) (xs : List ℕ) (l h d : Bool) → is_letter x ≡ l → (x == 48 && begins_hex xs) ≡ h → is_ascii_digit x ≡ d
    → word_length (x ∷ xs) ≤ suc (length xs)
unfolding word_length
word_bound x xs true h d e f g = let k = run_bound is_name_byte xs in rw e (omega (arith, k))
word_bound x xs false true d e f g = rw (e, f) (hex_bound x xs (both (x == 48) (begins_hex xs) f))
word_bound x xs false false true e f g = let k = run_bound is_ascii_digit xs in rw (e, f, g) (omega (arith, k))
word_bound x xs false false false e f g = rw (e, f, g) (omega arith)

not_x : (b : ℕ) → is_name_byte b ≡ false → (b == 120) ≡ false
not_x b h = grind (arith, nat_tests)

later_at : (c t : Bool) → cond c false t ≡ true → t ≡ true
later_at true t e = absurd (cc e)
later_at false t e = e

later : (x : ℕ) (xs : List ℕ) → no_comment (x ∷ xs) ≡ true → no_comment xs ≡ true
later x xs h = later_at (begins_comment x) (no_comment xs) h

module _ (b : ℕ) (ys : List ℕ) (ends : is_name_byte b ≡ false) where
  stops : (p : ℕ → Bool) → p b ≡ false → (xs : List ℕ) → run p (xs ++ b ∷ ys) ≡ run p xs
  stops p e [] = rw e refl
  stops p e (x ∷ xs) = ap (λ k. cond (p x) (suc k) 0) (stops p e xs)

  hex_apart : (xs : List ℕ) → begins_hex (xs ++ b ∷ ys) ≡ begins_hex xs
  hex_apart [] = begins_no_hex b ys (not_x b ends)
  hex_apart (x ∷ []) = and_right (x == 120) (is_ascii_hexdigit b) (name_byte_ends_hex b ends)
  hex_apart (x ∷ d ∷ xs) = refl

  digits_apart : (xs : List ℕ) → begins_hex xs ≡ true → run is_ascii_hexdigit (drop 1 (xs ++ b ∷ ys)) ≡ run is_ascii_hexdigit (drop 1 xs)
  digits_apart [] e = absurd (cc e)
  digits_apart (x ∷ xs) e = stops is_ascii_hexdigit (name_byte_ends_hex b ends) xs

  word_apart : (x : ℕ) (xs : List ℕ) (l h d : Bool) → is_letter x ≡ l → (x == 48 && begins_hex xs) ≡ h → is_ascii_digit x ≡ d
      → word_length (x ∷ (xs ++ b ∷ ys)) ≡ word_length (x ∷ xs)
  unfolding word_length
  word_apart x xs true h d e f g = rw e (ap suc (stops is_name_byte ends xs))
  word_apart x xs false true d e f g =
      let f2 : (x == 48 && begins_hex (xs ++ b ∷ ys)) ≡ true = ap (λ t. x == 48 && t) (hex_apart xs) ∙ f in
      rw (e, f, f2) (ap (λ k. suc (suc k)) (digits_apart xs (both (x == 48) (begins_hex xs) f)))
  word_apart x xs false false true e f g =
      let f2 : (x == 48 && begins_hex (xs ++ b ∷ ys)) ≡ false = ap (λ t. x == 48 && t) (hex_apart xs) ∙ f in
      rw (e, f, f2, g) (ap suc (stops is_ascii_digit (name_byte_ends b ends) xs))
  word_apart x xs false false false e f g =
      let f2 : (x == 48 && begins_hex (xs ++ b ∷ ys)) ≡ false = ap (λ t. x == 48 && t) (hex_apart xs) ∙ f in
      rw (e, f, f2, g) refl

  apart_at : (x : ℕ) (xs : List ℕ) (blank comment : Bool) → is_blank x ≡ blank → begins_comment x ≡ comment → cond comment false (no_comment xs) ≡ true
      → ((n : ℕ) → n ≤ length xs → no_comment xs ≡ true → tokens_past n (xs ++ b ∷ ys) ≡ tokens_past n xs ++ tokens (b ∷ ys))
      → tokens_past 0 (x ∷ (xs ++ b ∷ ys)) ≡ tokens_past 0 (x ∷ xs) ++ tokens (b ∷ ys)
  apart_at x xs blank true e f h go = absurd (cc h)
  apart_at x xs true false e f h go = rw e (go 0 (omega arith) h)
  apart_at x xs false false e f h go =
      let zs = b ∷ ys in
      let w = word_length (x ∷ xs) in
      let same = word_apart x xs (is_letter x) (x == 48 && begins_hex xs) (is_ascii_digit x) refl refl refl in
      let bound = word_bound x xs (is_letter x) (x == 48 && begins_hex xs) (is_ascii_digit x) refl refl refl in
      rw (e, f) (ap (λ k. lexeme_of (take k (x ∷ (xs ++ zs))) ∷ tokens_past (k - 1) (xs ++ zs)) same
      ∙ ap (λ l. lexeme_of l ∷ tokens_past (w - 1) (xs ++ zs)) (take_front w (x ∷ xs) zs bound)
      ∙ ap (λ l. lexeme_of (take w (x ∷ xs)) ∷ l) (go (w - 1) (omega (arith, bound)) h))

  past_apart : (n : ℕ) (xs : List ℕ) → n ≤ length xs → no_comment xs ≡ true → tokens_past n (xs ++ b ∷ ys) ≡ tokens_past n xs ++ tokens (b ∷ ys)
  past_apart zero [] l h = refl
  past_apart (suc n) [] l h = absurd (omega arith)
  past_apart (suc n) (x ∷ xs) l h = past_apart n xs (omega arith) (later x xs h)
  past_apart zero (x ∷ xs) l h = apart_at x xs (is_blank x) (begins_comment x) refl refl h (λ n l h. past_apart n xs l h)

  pub tokens_part : (xs : List ℕ) → no_comment xs ≡ true → tokens (xs ++ b ∷ ys) ≡ tokens xs ++ tokens (b ∷ ys)
  tokens_part xs h = past_apart 0 xs (omega arith) h

blank_ends : (b : ℕ) → is_blank b ≡ true → is_name_byte b ≡ false
blank_ends b h = grind (arith, nat_tests)

comment_ends : (b : ℕ) → begins_comment b ≡ true → (is_name_byte b ≡ false) × (is_blank b ≡ false)
comment_ends b h = (grind (arith, nat_tests), grind (arith, nat_tests))

pub blank_passed : (xs ys : List ℕ) (b : ℕ) → is_blank b ≡ true → no_comment xs ≡ true → tokens (xs ++ b ∷ ys) ≡ tokens xs ++ tokens ys
blank_passed xs ys b e h = let t : tokens (b ∷ ys) ≡ tokens ys = rw e refl in tokens_part b ys (blank_ends b e) xs h ∙ ap (λ l. tokens xs ++ l) t

pub comment_passed : (xs ys : List ℕ) (b : ℕ) → begins_comment b ≡ true → no_comment xs ≡ true → is_clean ys ≡ true → tokens (xs ++ b ∷ ys) ≡ tokens xs
comment_passed xs ys b e h c =
    let k = comment_ends b e in
    let t : tokens (b ∷ ys) ≡ comment_of ys = rw (k.1, e) refl in
    let n : comment_of ys ≡ [] = ap (λ t. cond t [] (Stray ∷ [])) c in
    tokens_part b ys k.0 xs h ∙ ap (λ l. tokens xs ++ l) (t ∙ n) ∙ append-nil (tokens xs)

-- ---- a mark

mark_plain : (b : ℕ) → is_name_byte b ≡ false → (is_letter b ≡ false) × (is_ascii_digit b ≡ false) × ((b == 48) ≡ false)
mark_plain b h = (grind (arith, nat_tests), grind (arith, nat_tests), grind (arith, nat_tests))

mark_length : (b : ℕ) (rest : List ℕ) → is_name_byte b ≡ false → word_length (b ∷ rest) ≡ 1
unfolding word_length
mark_length b rest h =
    let p = mark_plain b h in
    let x : (b == 48 && begins_hex rest) ≡ false = ap (λ t. t && begins_hex rest) p.2 in
    rw (p.0, x, p.1) refl

mark_is : (b : ℕ) → is_name_byte b ≡ false → lexeme_of (b ∷ []) ≡ mark_of b
unfolding lexeme_of
mark_is b h = let p = mark_plain b h in rw (p.0, p.1) refl

pub mark_apart : (xs ys : List ℕ) (b : ℕ) → is_name_byte b ≡ false → is_blank b ≡ false → begins_comment b ≡ false → no_comment xs ≡ true
    → tokens (xs ++ b ∷ ys) ≡ tokens xs ++ mark_of b ∷ tokens ys
mark_apart xs ys b e blank comment h =
    tokens_part b ys e xs h ∙ ap (λ l. tokens xs ++ l) (word_front b [] ys blank comment (mark_length b ys e) ∙ ap (λ t. t ∷ tokens ys) (mark_is b e))
