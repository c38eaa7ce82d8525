-- The tokens of bytes that are written token by token.
use Rattle.std.proofs.Common.{◌≡◌, ℕ, ◌-◌, ◌<◌, ◌^◌, ◌==◌, ◌&&◌, nat_lt, suc, Bool, true, false, cond, List, [], ◌∷◌, ◌++◌, length, take, drop, get_or, map}
use Rattle.std.proofs.Common.{refl, sym, ap, ◌∙◌, arith, Some, None}
use Rattle.std.proofs.lemmas.Bool.Decides.{nat_tests}
use Rattle.std.proofs.lemmas.Int.Digits.{digits_value_is}
use Rattle.std.specs.Int.Digits.{number_from_digits}
use Rattle.std.specs.Char.{digit_value, is_ascii_digit, is_ascii_hexdigit}
use Rattle.std.specs.Str.Parse.{IsNumeral, AllDigits, digits_value}
use Rattle.asm_text.specs.Tokens.{Lexeme, run, tokens, tokens_past, is_blank, is_letter, is_name_byte, begins_comment, begins_hex, word_length, lexeme_of}
use Rattle.asm_text.specs.Tokens.{bounded}
use Rattle.asm_text.specs.Tokens.Lexeme.{Name, Number, Comma, Open, Close, Plus, Minus}
use Rattle.asm_text.proofs.Scanned.{tokens_after}

-- ---- runs

run_at : (p : ℕ → Bool) (x : ℕ) (xs rest : List ℕ) (b : Bool) → p x ≡ b → run p (x ∷ xs) ≡ suc (length xs)
    → (run p xs ≡ length xs → run p (xs ++ rest) ≡ length xs) → run p (x ∷ (xs ++ rest)) ≡ suc (length xs)
run_at p x xs rest true e all h = rw e (ap suc (h (let k : suc (run p xs) ≡ suc (length xs) = (rw e at all) in omega arith)))
run_at p x xs rest false e all h = absurd (let k : 0 ≡ suc (length xs) = (rw e at all) in omega arith)

-- all of these bytes are of the class, and the next one isn't
pub run_through : (p : ℕ → Bool) (xs rest : List ℕ) → run p xs ≡ length xs → run p rest ≡ 0 → run p (xs ++ rest) ≡ length xs
run_through p [] rest all end = end
run_through p (x ∷ xs) rest all end = run_at p x xs rest (p x) refl all (λ k. run_through p xs rest k end)

run_passes : (p : ℕ → Bool) (x : ℕ) (xs : List ℕ) → p x ≡ true → run p xs ≡ length xs → run p (x ∷ xs) ≡ length (x ∷ xs)
run_passes p x xs e h = rw e (ap suc h)

-- a run of a smaller class ends there too
run_ends_at : (p q : ℕ → Bool) (x : ℕ) (xs : List ℕ) (b : Bool) → p x ≡ b → (p x ≡ false → q x ≡ false) → run p (x ∷ xs) ≡ 0 → run q (x ∷ xs) ≡ 0
run_ends_at p q x xs true e f h = absurd (let k : suc (run p xs) ≡ 0 = (rw e at h) in omega arith)
run_ends_at p q x xs false e f h = rw (f e) refl

pub run_ends_too : (p q : ℕ → Bool) → ((x : ℕ) → p x ≡ false → q x ≡ false) → (xs : List ℕ) → run p xs ≡ 0 → run q xs ≡ 0
run_ends_too p q f [] h = refl
run_ends_too p q f (x ∷ xs) h = run_ends_at p q x xs (p x) refl (f x) h

taken_all : (xs rest : List ℕ) → take (length xs) (xs ++ rest) ≡ xs
taken_all [] rest = refl
taken_all (x ∷ xs) rest = ap (λ l. x ∷ l) (taken_all xs rest)

dropped_all : (xs rest : List ℕ) → drop (length xs) (xs ++ rest) ≡ rest
dropped_all [] rest = refl
dropped_all (x ∷ xs) rest = dropped_all xs rest

-- ---- words

-- a word at the front
pub word_front : (b : ℕ) (bs rest : List ℕ) → is_blank b ≡ false → begins_comment b ≡ false → word_length (b ∷ (bs ++ rest)) ≡ suc (length bs)
    → tokens (b ∷ (bs ++ rest)) ≡ lexeme_of (b ∷ bs) ∷ tokens rest
word_front b bs rest blank comment w =
    let t : tokens (b ∷ (bs ++ rest)) ≡ lexeme_of (take (word_length (b ∷ (bs ++ rest))) (b ∷ (bs ++ rest)))
    ∷ tokens_past (word_length (b ∷ (bs ++ rest)) - 1) (bs ++ rest) = rw (blank, comment) refl in
    let one : suc (length bs) - 1 ≡ length bs = omega arith in
    t
    ∙ ap (λ k. lexeme_of (take k (b ∷ (bs ++ rest))) ∷ tokens_past (k - 1) (bs ++ rest)) w
    ∙ ap (λ l. lexeme_of (b ∷ l) ∷ tokens_past (suc (length bs) - 1) (bs ++ rest)) (taken_all bs rest)
    ∙ ap (λ k. lexeme_of (b ∷ bs) ∷ tokens_past k (bs ++ rest)) one
    ∙ ap (λ l. lexeme_of (b ∷ bs) ∷ l) (tokens_after (length bs) (bs ++ rest) ∙ ap tokens (dropped_all bs rest))

letter_plain : (b : ℕ) → is_letter b ≡ true → (is_blank b ≡ false) × (begins_comment b ≡ false)
letter_plain b h = (grind (arith, nat_tests), grind (arith, nat_tests))

digit_plain : (b : ℕ) → is_ascii_digit b ≡ true → (is_blank b ≡ false) × (begins_comment b ≡ false) × (is_letter b ≡ false)
digit_plain b h = (grind (arith, nat_tests), grind (arith, nat_tests), grind (arith, nat_tests))

name_length : (b : ℕ) (bs rest : List ℕ) → is_letter b ≡ true → run is_name_byte bs ≡ length bs → run is_name_byte rest ≡ 0
    → word_length (b ∷ (bs ++ rest)) ≡ suc (length bs)
unfolding word_length
name_length b bs rest l all end = rw l (ap suc (run_through is_name_byte bs rest all end))

name_is : (b : ℕ) (bs : List ℕ) → is_letter b ≡ true → lexeme_of (b ∷ bs) ≡ Name (b ∷ bs)
unfolding lexeme_of
name_is b bs l = rw l refl

-- a name at the front
pub name_front : (b : ℕ) (bs rest : List ℕ) → is_letter b ≡ true → run is_name_byte bs ≡ length bs → run is_name_byte rest ≡ 0
    → tokens (b ∷ (bs ++ rest)) ≡ Name (b ∷ bs) ∷ tokens rest
name_front b bs rest l all end =
    let p = letter_plain b l in
    word_front b bs rest p.0 p.1 (name_length b bs rest l all end) ∙ ap (λ t. t ∷ tokens rest) (name_is b bs l)

-- ---- marks

-- a mark at the front is a token by itself, whatever follows
abbrev MarkIs : ℕ → Lexeme → List ℕ → Type 0
MarkIs b mark rest = tokens (b ∷ rest) ≡ mark ∷ tokens rest

pub mark_front : (rest : List ℕ) → record {
  comma : MarkIs 44 Comma rest;
  opening : MarkIs 91 Open rest;
  closing : MarkIs 93 Close rest;
  plus : MarkIs 43 Plus rest;
  minus : MarkIs 45 Minus rest;
}
unfolding word_length lexeme_of
mark_front rest = record { comma = refl; opening = refl; closing = refl; plus = refl; minus = refl }

-- ---- numbers

pub name_byte_ends : (x : ℕ) → is_name_byte x ≡ false → is_ascii_digit x ≡ false
name_byte_ends x h = grind (arith, nat_tests)

pub name_byte_ends_hex : (x : ℕ) → is_name_byte x ≡ false → is_ascii_hexdigit x ≡ false
name_byte_ends_hex x h = grind (arith, nat_tests)

no_x : (x : ℕ) (xs : List ℕ) (b : Bool) → is_name_byte x ≡ b → run is_name_byte (x ∷ xs) ≡ 0 → (x == 120) ≡ false
no_x x xs true e h = absurd (let k : suc (run is_name_byte xs) ≡ 0 = (rw e at h) in omega arith)
no_x x xs false e h = grind (arith, nat_tests)

and_left : (a b : Bool) → a ≡ false → (a && b) ≡ false
and_left a b e = rw e refl

pub begins_no_hex : (x : ℕ) (xs : List ℕ) → (x == 120) ≡ false → begins_hex (x ∷ xs) ≡ false
begins_no_hex x [] h = refl
begins_no_hex x (d ∷ xs) h = and_left (x == 120) (is_ascii_hexdigit d) h

digit_no_x : (x : ℕ) (xs : List ℕ) (b : Bool) → is_ascii_digit x ≡ b → run is_ascii_digit (x ∷ xs) ≡ suc (length xs) → (x == 120) ≡ false
digit_no_x x xs true e h = grind (arith, nat_tests)
digit_no_x x xs false e h = absurd (let k : 0 ≡ suc (length xs) = (rw e at h) in omega arith)

-- after a digit and digits there is no `x`
no_hex : (ds rest : List ℕ) → run is_ascii_digit ds ≡ length ds → run is_name_byte rest ≡ 0 → begins_hex (ds ++ rest) ≡ false
no_hex [] [] all end = refl
no_hex [] (x ∷ xs) all end = begins_no_hex x xs (no_x x xs (is_name_byte x) refl end)
no_hex (d ∷ ds) rest all end = begins_no_hex d (ds ++ rest) (digit_no_x d ds (is_ascii_digit d) refl all)

second_no_x : (ds : List ℕ) → run is_ascii_digit ds ≡ length ds → (get_or ds 0 0 == 120) ≡ false
second_no_x [] all = refl
second_no_x (d ∷ ds) all = digit_no_x d ds (is_ascii_digit d) refl all

pub and_right : (a b : Bool) → b ≡ false → (a && b) ≡ false
and_right true b e = e
and_right false b e = refl

bounded_small : (n k : ℕ) → n ≡ k → k < 2 ^ 64 → bounded n ≡ Some k
bounded_small n k e h = let f : nat_lt k (2 ^ 64) ≡ true = grind (arith, nat_tests) in rw e (ap (λ b. cond b (Some k) None) f)

number_length : (d : ℕ) (ds rest : List ℕ) → is_ascii_digit d ≡ true → run is_ascii_digit ds ≡ length ds → run is_name_byte rest ≡ 0
    → word_length (d ∷ (ds ++ rest)) ≡ suc (length ds)
unfolding word_length
number_length d ds rest e all end =
    let l = (digit_plain d e).2 in
    let h = and_right (d == 48) (begins_hex (ds ++ rest)) (no_hex ds rest all end) in
    rw (l, h, e) (ap suc (run_through is_ascii_digit ds rest all (run_ends_too is_name_byte is_ascii_digit name_byte_ends rest end)))

number_is : (d : ℕ) (ds : List ℕ) (k : ℕ) → is_ascii_digit d ≡ true → run is_ascii_digit ds ≡ length ds → digits_value 10 (d ∷ ds) ≡ k → k < 2 ^ 64
    → lexeme_of (d ∷ ds) ≡ Number (Some k)
unfolding lexeme_of
number_is d ds k e all v small =
    let l = (digit_plain d e).2 in
    let x = second_no_x ds all in
    rw (l, e) (ap (λ o. Number o) (rw x (bounded_small (digits_value 10 (d ∷ ds)) k v small)))

digit_is : (c : ℕ) → digit_value c < 10 → is_ascii_digit c ≡ true
digit_is c h = grind (arith, nat_tests)

pub digits_run : (ds : List ℕ) → AllDigits 10 ds → run is_ascii_digit ds ≡ length ds
digits_run [] h = refl
digits_run (d ∷ ds) h = run_passes is_ascii_digit d ds (digit_is d h.0) (digits_run ds h.1)

-- a decimal number at the front
pub number_front : (ds rest : List ℕ) (k : ℕ) → IsNumeral 10 ds → digits_value 10 ds ≡ k → k < 2 ^ 64 → run is_name_byte rest ≡ 0
    → tokens (ds ++ rest) ≡ Number (Some k) ∷ tokens rest
number_front [] rest k h v small end = absurd (let p : 0 < 0 = h.0 in omega arith)
number_front (d ∷ ds) rest k h v small end =
    let e = digit_is d h.1.0 in
    let all = digits_run ds h.1.1 in
    let p = digit_plain d e in
    word_front d ds rest p.0 p.1 (number_length d ds rest e all end) ∙ ap (λ t. t ∷ tokens rest) (number_is d ds k e all v small)

hex_is : (c : ℕ) → digit_value c < 16 → is_ascii_hexdigit c ≡ true
hex_is c h = grind (arith, nat_tests)

hex_run : (ds : List ℕ) → AllDigits 16 ds → run is_ascii_hexdigit ds ≡ length ds
hex_run [] h = refl
hex_run (d ∷ ds) h = run_passes is_ascii_hexdigit d ds (hex_is d h.0) (hex_run ds h.1)

hex_length : (d : ℕ) (ds rest : List ℕ) → is_ascii_hexdigit d ≡ true → run is_ascii_hexdigit (d ∷ ds) ≡ suc (length ds) → run is_name_byte rest ≡ 0
    → word_length (48 ∷ 120 ∷ d ∷ (ds ++ rest)) ≡ suc (suc (suc (length ds)))
unfolding word_length
hex_length d ds rest e all end =
    let r : run is_ascii_hexdigit (d ∷ (ds ++ rest)) ≡ suc (length ds) =
    run_through is_ascii_hexdigit (d ∷ ds) rest all (run_ends_too is_name_byte is_ascii_hexdigit name_byte_ends_hex rest end) in
    ap (λ b. cond b (suc (suc (run is_ascii_hexdigit (d ∷ (ds ++ rest))))) (suc (run is_ascii_digit (120 ∷ d ∷ (ds ++ rest))))) e ∙ ap (λ k. suc (suc k)) r

hex_number_is : (ds : List ℕ) → lexeme_of (48 ∷ 120 ∷ ds) ≡ Number (bounded (digits_value 16 ds))
unfolding lexeme_of
hex_number_is ds = refl

-- hex digits at the front
pub hex_digits_front : (ds rest : List ℕ) → IsNumeral 16 ds → run is_name_byte rest ≡ 0
    → tokens (48 ∷ 120 ∷ (ds ++ rest)) ≡ Number (bounded (digits_value 16 ds)) ∷ tokens rest
hex_digits_front [] rest h end = absurd (let p : 0 < 0 = h.0 in omega arith)
hex_digits_front (d ∷ ds) rest h end =
    word_front 48 (120 ∷ d ∷ ds) rest refl refl (hex_length d ds rest (hex_is d h.1.0) (hex_run (d ∷ ds) h.1) end)
    ∙ ap (λ t. t ∷ tokens rest) (hex_number_is (d ∷ ds))

-- a hex number at the front
pub hex_front : (ds rest : List ℕ) (k : ℕ) → IsNumeral 16 ds → digits_value 16 ds ≡ k → k < 2 ^ 64 → run is_name_byte rest ≡ 0
    → tokens (48 ∷ 120 ∷ (ds ++ rest)) ≡ Number (Some k) ∷ tokens rest
hex_front ds rest k h v small end = hex_digits_front ds rest h end ∙ ap (λ o. Number o ∷ tokens rest) (bounded_small (digits_value 16 ds) k v small)

-- hex digits of the same values
pub hex_same : (ds es rest : List ℕ) → IsNumeral 16 ds → IsNumeral 16 es → map digit_value ds ≡ map digit_value es → run is_name_byte rest ≡ 0
    → tokens (48 ∷ 120 ∷ (ds ++ rest)) ≡ tokens (48 ∷ 120 ∷ (es ++ rest))
hex_same ds es rest h i e end =
    let v : digits_value 16 ds ≡ digits_value 16 es = digits_value_is 16 ds ∙ ap (number_from_digits 16) e ∙ sym (digits_value_is 16 es) in
    hex_digits_front ds rest h end ∙ ap (λ k. Number (bounded k) ∷ tokens rest) v ∙ sym (hex_digits_front es rest i end)
