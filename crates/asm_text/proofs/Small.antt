-- The numbers of tokens are below 2^64.
use Rattle.std.proofs.Common.{◌≡◌, ℕ, ◌-◌, ◌<◌, ◌^◌, ◌==◌, nat_lt, zero, suc, Bool, true, false, cond, List, [], ◌∷◌, ◌++◌, take, drop, get_or, refl, arith}
use Rattle.std.proofs.Common.{Some, None}
use Rattle.std.proofs.lemmas.Bool.Decides.{nat_tests}
use Rattle.std.specs.Char.{is_ascii_digit}
use Rattle.std.specs.Str.Parse.{digits_value}
use Rattle.asm_text.specs.Tokens.{Lexeme, tokens, tokens_past, is_blank, is_letter, begins_comment, is_clean, comment_of, word_length, lexeme_of, mark_of}
use Rattle.asm_text.specs.Tokens.{bounded, numeral_value}
use Rattle.asm_text.specs.Tokens.Lexeme.{Name, Number, Stray}

-- a number, if it is one, is below 2^64
unfoldable pub IsSmall : Lexeme → Type 0
IsSmall (Number (Some n)) = n < 2 ^ 64
IsSmall _ = Unit {0}

unfoldable pub AllSmall : List Lexeme → Type 0
AllSmall [] = Unit {0}
AllSmall (t ∷ ts) = IsSmall t × AllSmall ts

bounded_at : (b : Bool) (n : ℕ) → nat_lt n (2 ^ 64) ≡ b → IsSmall (Number (cond b (Some n) None))
unfolding IsSmall
bounded_at true n e = let h : n < 2 ^ 64 = grind (arith, nat_tests) in h
bounded_at false n e = tt

numeral_at : (b : Bool) (m n : ℕ) → IsSmall (Number (cond b (bounded m) (bounded n)))
numeral_at true m n = bounded_at (nat_lt m (2 ^ 64)) m refl
numeral_at false m n = bounded_at (nat_lt n (2 ^ 64)) n refl

mark_small : (a b c d e f : Bool) → IsSmall
    (cond a Lexeme.Colon (cond b Lexeme.Comma (cond c Lexeme.Open (cond d Lexeme.Close (cond e Lexeme.Plus (cond f Lexeme.Minus Stray))))))
unfolding IsSmall
mark_small true b c d e f = tt
mark_small false true c d e f = tt
mark_small false false true d e f = tt
mark_small false false false true e f = tt
mark_small false false false false true f = tt
mark_small false false false false false true = tt
mark_small false false false false false false = tt

word_small : (l d : Bool) (word : List ℕ) (b : ℕ) → IsSmall (cond l (Name word) (cond d (Number (numeral_value word)) (mark_of b)))
unfolding IsSmall
word_small true d word b = tt
word_small false true word b = numeral_at (get_or word 1 0 == 120) (digits_value 16 (drop 2 word)) (digits_value 10 word)
word_small false false word b = mark_small (b == 58) (b == 44) (b == 91) (b == 93) (b == 43) (b == 45)

lexeme_small : (word : List ℕ) → IsSmall (lexeme_of word)
unfolding IsSmall lexeme_of
lexeme_small [] = tt
lexeme_small (b ∷ bs) = word_small (is_letter b) (is_ascii_digit b) (b ∷ bs) b

comment_small : (b : Bool) → AllSmall (cond b [] (Stray ∷ []))
unfolding AllSmall IsSmall
comment_small true = tt
comment_small false = (tt, tt)

past_at : (blank comment : Bool) (x : ℕ) (xs : List ℕ) → ((n : ℕ) → AllSmall (tokens_past n xs))
    → AllSmall (cond blank (tokens_past 0 xs)
    (cond comment (comment_of xs) (lexeme_of (take (word_length (x ∷ xs)) (x ∷ xs)) ∷ tokens_past (word_length (x ∷ xs) - 1) xs)))
unfolding AllSmall
past_at true comment x xs h = h 0
past_at false true x xs h = comment_small (is_clean xs)
past_at false false x xs h = (lexeme_small (take (word_length (x ∷ xs)) (x ∷ xs)), h (word_length (x ∷ xs) - 1))

past_small : (n : ℕ) (xs : List ℕ) → AllSmall (tokens_past n xs)
unfolding AllSmall
past_small n [] = tt
past_small (suc n) (x ∷ xs) = past_small n xs
past_small zero (x ∷ xs) = past_at (is_blank x) (begins_comment x) x xs (λ n. past_small n xs)

pub tokens_small : (line : List ℕ) → AllSmall (tokens line)
tokens_small line = past_small 0 line

pub small_after : (xs ys : List Lexeme) → AllSmall (xs ++ ys) → AllSmall ys
unfolding AllSmall
small_after [] ys h = h
small_after (x ∷ xs) ys h = small_after xs ys h.1

pub small_before : (xs ys : List Lexeme) → AllSmall (xs ++ ys) → AllSmall xs
unfolding AllSmall
small_before [] ys h = tt
small_before (x ∷ xs) ys h = (h.0, small_before xs ys h.1)
