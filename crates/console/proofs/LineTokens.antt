-- Tokens, numbers and hex text.
use Rattle.std.proofs.Common.{◌≡◌, ◌≢◌, ℕ, ◌%◌, ◌*◌, ◌∙◌, ap, inl, inr, codes, Option, Some, None, ◌<◌, ◌≤◌, List, [], ◌∷◌, ◌++◌, length, ◌==◌, All, arith}
use Rattle.std.proofs.Common.{IsAscii, true, false, refl, lit<, get_or, slice_index, zero, suc, subst, sym, Ok}
use Rattle.std.specs.List.{AllPass}
use Rattle.std.specs.Str.Parse.{AllDigits, digits_value}
use Rattle.std.proofs.lemmas.List.{append_cancel_left}
use Rattle.std.specs.Char.{digit_value}
use Rattle.std.proofs.lemmas.Bool.Decides.{nat_tests}
use Rattle.std.proofs.lemmas.List.Elements.{All-nil, All-weaker}
use Rattle.std.proofs.lemmas.List.Splits.{slice_split_at, slice_split_none}
use Rattle.hex.specs.Hex.{is_hex_digit, decode_of}
use Rattle.hex.proofs.HexLemmas.{decode_of-digits, decode_of-ok, decode_of-same}
use Rattle.console.specs.declared.kind.Limits.{Limits}
use Rattle.console.specs.Tokens.{tokens_of, within, IsWithin, IsHex, IsNumber, IsNumberWithin, AreNumbers, AreBytes}

small_digit : (radix c : ℕ) → radix ≤ 36 → digit_value c < radix → c < 128
small_digit radix c h d = grind (arith, nat_tests)

pub ascii_digits : (radix : ℕ) (ds : List ℕ) → radix ≤ 36 → AllDigits radix ds → IsAscii ds
ascii_digits radix [] h d = λ i. lit< tt
ascii_digits radix (c ∷ cs) h d = λ i. elim i as (λ j. get_or (c ∷ cs) j 0 < 128) [ zero ↦ small_digit radix c h d.0 | suc j ↦ ascii_digits radix cs h d.1 j ]

apart : (x : ℕ) → x ≢ 32 → (x == 32) ≡ false
apart x h = grind (arith, nat_tests)

pub tokens_at : (token rest : List ℕ) → All (λ b. b ≢ 32) token → tokens_of (token ++ 32 ∷ rest) ≡ token ∷ tokens_of rest
tokens_at token rest h = slice_split_at (λ b. b == 32) token 32 rest (All-weaker (λ b. b ≢ 32) (λ b. (b == 32) ≡ false) apart token h) refl

pub tokens_whole : (token : List ℕ) → All (λ b. b ≢ 32) token → tokens_of token ≡ token ∷ []
tokens_whole token h = slice_split_none (λ b. b == 32) token (All-weaker (λ b. b ≢ 32) (λ b. (b == 32) ≡ false) apart token h)

pub bytes_from_digits : (token : List ℕ) → 0 < length token → length token % 2 ≡ 0 → AllPass is_hex_digit token → (bytes : List ℕ) × IsHex token bytes
bytes_from_digits token some even all =
    let d = decode_of-digits token even all in
    let k = decode_of-ok token d.0 d.1 in
    (d.0, (omega (arith, k.2), d.1))

pub digits_from_bytes : (token bytes : List ℕ) → IsHex token bytes → (0 < length token) × (length token % 2 ≡ 0) × AllPass is_hex_digit token
digits_from_bytes token bytes b =
    let k = decode_of-ok token bytes b.1 in
    (omega (arith, k.2, b.0), k.0, k.1)

-- ---- numbers

no_x : (w digits : List ℕ) → AllDigits 10 w → w ≡ codes "0x" ++ digits → ⊥
no_x w digits d e = let a = subst (AllDigits 10) e d in absurd (omega (arith, a.1.0))

-- a token is one number at most
pub number_one : (w : List ℕ) (m n : ℕ) → IsNumber w m → IsNumber w n → m ≡ n
number_one w m n p q = elim p.1 [
  | inl d ↦ elim q.1 [ inl e ↦ sym d.2 ∙ e.2 | inr e ↦ absurd (no_x w e.0 d.0.1 e.1) ]
  | inr d ↦ elim q.1 [
    | inl e ↦ absurd (no_x w d.0 e.0.1 d.1)
    | inr e ↦ sym d.4 ∙ ap (λ l. digits_value 16 l) (append_cancel_left (codes "0x") d.0 e.0 (sym d.1 ∙ e.1)) ∙ e.4
  ]
]

-- the next token is no such number
pub no_number_token : (limits : Limits) (tokens left : List (List ℕ)) (token : List ℕ) → tokens ≡ token ∷ left → ((n : ℕ) → IsNumberWithin limits token n → ⊥)
    → (other : List ℕ) (more : List (List ℕ)) (n : ℕ) → tokens ≡ other ∷ more → IsNumberWithin limits other n → ⊥
no_number_token limits tokens left token e none other more n f w =
    let x : token ∷ left ≡ other ∷ more = sym e ∙ f in
    let y : other ≡ token = cc in
    none n (subst (λ t. IsNumberWithin limits t n) y w)

-- one more number
pub numbers_more : (ls : List Limits) (tokens : List (List ℕ)) (ns : List ℕ) (left : List (List ℕ)) (l : Limits) (token : List ℕ) (n : ℕ) (more : List (List ℕ))
    → AreNumbers ls tokens ns left → left ≡ token ∷ more → IsNumberWithin l token n → AreNumbers (ls ++ l ∷ []) tokens (ns ++ n ∷ []) more
numbers_more [] tokens [] left l token n more a e w = rw (sym a ∙ e) (w, refl)
numbers_more [] tokens (m ∷ ns) left l token n more a e w = absurd a
numbers_more (k ∷ ls) (t ∷ tokens) (m ∷ ns) left l token n more a e w = (a.0, numbers_more ls tokens ns left l token n more a.1 e w)
numbers_more (k ∷ ls) [] ns left l token n more a e w = absurd a
numbers_more (k ∷ ls) (t ∷ tokens) [] left l token n more a e w = absurd a

-- where the first are numbers and the next is not, not all are
pub numbers_none : (ls rest : List Limits) (l : Limits) (tokens : List (List ℕ)) (ns ms : List ℕ) (left other : List (List ℕ)) → AreNumbers ls tokens ns left
    → ((token : List ℕ) (more : List (List ℕ)) (n : ℕ) → left ≡ token ∷ more → IsNumberWithin l token n → ⊥) → AreNumbers (ls ++ l ∷ rest) tokens ms other → ⊥
numbers_none [] rest l [] [] ms left other a none b = b
numbers_none [] rest l (t ∷ tokens) [] [] left other a none b = b
numbers_none [] rest l (t ∷ tokens) [] (m ∷ ms) left other a none b = none t tokens m a b.0
numbers_none [] rest l tokens (n ∷ ns) ms left other a none b = absurd a
numbers_none (k ∷ ls) rest l [] ns ms left other a none b = b
numbers_none (k ∷ ls) rest l (t ∷ tokens) [] ms left other a none b = absurd a
numbers_none (k ∷ ls) rest l (t ∷ tokens) (n ∷ ns) [] left other a none b = b
numbers_none (k ∷ ls) rest l (t ∷ tokens) (n ∷ ns) (m ∷ ms) left other a none b = numbers_none ls rest l tokens ns ms left other a.1 none b.1

-- each number is within its limits
pub numbers_within : (ls : List Limits) (tokens : List (List ℕ)) (ns : List ℕ) (left : List (List ℕ)) → AreNumbers ls tokens ns left
    → (i : ℕ) → i < length ls → IsWithin (get_or ls i (within 0 0)) (slice_index ns i)
numbers_within [] tokens ns left a i h = absurd (omega (arith, h))
numbers_within (l ∷ ls) [] ns left a i h = absurd a
numbers_within (l ∷ ls) (t ∷ tokens) [] left a i h = absurd a
numbers_within (l ∷ ls) (t ∷ tokens) (n ∷ ns) left a zero h = a.0.1
numbers_within (l ∷ ls) (t ∷ tokens) (n ∷ ns) left a (suc i) h = numbers_within ls tokens ns left a.1 i (omega (arith, h))

-- numbers are read in one way
pub numbers_one : (ls : List Limits) (tokens : List (List ℕ)) (ns ms : List ℕ) (left other : List (List ℕ)) → AreNumbers ls tokens ns left
    → AreNumbers ls tokens ms other → (ns ≡ ms) × (left ≡ other)
numbers_one [] tokens [] [] left other a b = (refl, a ∙ sym b)
numbers_one [] tokens [] (m ∷ ms) left other a b = absurd b
numbers_one [] tokens (n ∷ ns) ms left other a b = absurd a
numbers_one (l ∷ ls) [] ns ms left other a b = absurd a
numbers_one (l ∷ ls) (t ∷ tokens) [] ms left other a b = absurd a
numbers_one (l ∷ ls) (t ∷ tokens) (n ∷ ns) [] left other a b = absurd b
numbers_one (l ∷ ls) (t ∷ tokens) (n ∷ ns) (m ∷ ms) left other a b =
    let e = number_one t n m a.0.0 b.0.0 in
    let r = numbers_one ls tokens ns ms left other a.1 b.1 in
    (ap (λ x. x ∷ ns) e ∙ ap (λ xs. m ∷ xs) r.0, r.1)

-- ---- bytes

-- bytes are read in one way
pub bytes_one : (most : Option ℕ) (tokens : List (List ℕ)) (xs ys : List ℕ) (left other : List (List ℕ)) → AreBytes most tokens xs left
    → AreBytes most tokens ys other → (xs ≡ ys) × (left ≡ other)
bytes_one None tokens xs ys left other a b = (a.1 ∙ sym b.1, a.0 ∙ sym b.0)
bytes_one (Some most) tokens xs ys left other a b =
    let x : a.0 ∷ left ≡ b.0 ∷ other = sym a.1 ∙ b.1 in
    let y : b.0 ≡ a.0 = cc in
    let z : left ≡ other = cc in
    (decode_of-same a.0 xs ys a.2.1 (subst (λ t. decode_of t ≡ Ok ys) y b.2.1), z)

-- how long the hex text of bytes is
pub hex_length : (text bytes : List ℕ) → decode_of text ≡ Ok bytes → length text ≡ 2 * length bytes
hex_length text bytes e = let k = decode_of-ok text bytes e in omega (arith, k.2)

pub hex_empty : (text bytes : List ℕ) → length text ≡ 0 → decode_of text ≡ Ok bytes → decode_of text ≡ Ok []
hex_empty text [] e d = d
hex_empty text (b ∷ bytes) e d = absurd (let k = hex_length text (b ∷ bytes) d in omega (arith, k, e))

-- no text, no bytes
pub hex_nothing : decode_of [] ≡ Ok []
hex_nothing = let d = decode_of-digits [] refl (All-nil (λ x. is_hex_digit x ≡ true)) in hex_empty [] d.0 refl d.1

-- the next token is hex text
pub bytes_given : (most : ℕ) (tokens left : List (List ℕ)) (text bytes : List ℕ) → tokens ≡ text ∷ left → IsHex text bytes → length bytes ≤ most
    → (bytes : List ℕ) × AreBytes (Some most) tokens bytes left × (decode_of text ≡ Ok bytes)
bytes_given most tokens left text bytes e h s = (bytes, (text, e, h, s), h.1)

-- the next token is no such text
pub bytes_wrong : (most : ℕ) (tokens left : List (List ℕ)) (text : List ℕ) → tokens ≡ text ∷ left
    → ((bytes : List ℕ) → IsHex text bytes → length bytes ≤ most → ⊥)
    → (bytes : List ℕ) (other : List (List ℕ)) → AreBytes (Some most) tokens bytes other → ⊥
bytes_wrong most tokens left text e none bytes other a =
    let x : text ∷ left ≡ a.0 ∷ other = sym e ∙ a.1 in
    let y : a.0 ≡ text = cc in
    none bytes (subst (λ t. IsHex t bytes) y a.2) a.3
