-- Hex text, pair by pair.
use Rattle.std.proofs.Common.{◌≡◌, ℕ, zero, suc, ◌+◌, ◌*◌, ◌/◌, ◌%◌, ◌<◌, List, [], ◌∷◌, ◌++◌, length, take, get_or, slice_index, Option, Some, None, Result}
use Rattle.std.proofs.Common.{Ok, Err, refl, sym, ap, ◌∙◌, append_assoc, subst, arith}
use Rattle.std.proofs.Math.ListN.{set, length-set}
use Rattle.std.proofs.lemmas.List.{take_more, take_more_set}
use Rattle.hex.specs.Hex.{decode_of, decode_pairs, digit_or_error, encode_lower, encode_with, hex_digit_value, lower_digits, pair_value, ◌>>=◌}
use Rattle.hex.proofs.HexLemmas.{decode_of-even, decode_of-ok}
use Rattle.hex.specs.declared.error.FromHexError.{FromHexError}

-- ---- reading

bind_ok : {A B : Type 0} (r : Result A FromHexError) (f : A → Result B FromHexError) (y : B) → (r >>= f) ≡ Ok y → (x : A) × (r ≡ Ok x) × (f x ≡ Ok y)
bind_ok (Ok x) f y h = (x, refl, h)
bind_ok (Err e) f y h = cc h

pair_of : (a b k h l : ℕ) (o p : Option ℕ) → o ≡ Some h → p ≡ Some l
    → (digit_or_error a k o >>= (λ x. digit_or_error b (k + 1) p >>= (λ y. Ok (x * 16 + y)))) ≡ Ok (h * 16 + l)
pair_of a b k h l (Some x) (Some y) e f = let m : x ≡ h = cc in let n : y ≡ l = cc in rw (m, n) refl
pair_of a b k h l None p e f = cc
pair_of a b k h l (Some x) None e f = cc

-- the first byte is that of the first two digits, and the others are those of the others
pairs_split : (k a b : ℕ) (rest value : List ℕ) → decode_pairs k (a ∷ b ∷ rest) ≡ Ok value
    → (byte : ℕ) × (bytes : List ℕ) × (pair_value a b k ≡ Ok byte) × (decode_pairs (k + 2) rest ≡ Ok bytes) × (value ≡ byte ∷ bytes)
unfolding decode_pairs
pairs_split k a b rest value e =
    let p = bind_ok (pair_value a b k) _ value e in
    let q = bind_ok (decode_pairs (k + 2) rest) _ value p.2 in
    let same : value ≡ p.0 ∷ q.0 = cc (q.2) in
    (p.0, q.0, p.1, q.1, same)

pairs_at : (k : ℕ) (text value : List ℕ) (i high low : ℕ) → decode_pairs k text ≡ Ok value → i < length value
    → hex_digit_value (slice_index text (2 * i)) ≡ Some high
    → hex_digit_value (slice_index text (2 * i + 1)) ≡ Some low → get_or value i 0 ≡ high * 16 + low
unfolding decode_pairs
pairs_at k [] value i high low e h x y = absurd (let n : [] ≡ value = cc in let m = ap length n in omega (arith, m, h))
pairs_at k (a ∷ []) value i high low e h x y = cc e
pairs_at k (a ∷ b ∷ rest) value zero high low e h x y =
    let s = pairs_split k a b rest value e in
    let p = pair_of a b k high low (hex_digit_value a) (hex_digit_value b) x y in
    let n : s.0 ≡ high * 16 + low = cc (p, s.2) in
    ap (λ l. get_or l 0 0) s.4 ∙ n
pairs_at k (a ∷ b ∷ rest) value (suc i) high low e h x y =
    let s = pairs_split k a b rest value e in
    let m = ap length s.4 in
    let n : 2 * suc i ≡ suc (suc (2 * i)) = omega arith in
    let o : 2 * suc i + 1 ≡ suc (suc (2 * i + 1)) = omega arith in
    let first = subst (λ j. hex_digit_value (slice_index (a ∷ b ∷ rest) j) ≡ Some high) n x in
    let second = subst (λ j. hex_digit_value (slice_index (a ∷ b ∷ rest) j) ≡ Some low) o y in
    ap (λ l. get_or l (suc i) 0) s.4 ∙ pairs_at (k + 2) rest s.1 i high low s.3 (omega (arith, m, h)) first second

-- the byte of two digits
pub byte_at : (text value : List ℕ) (i high low : ℕ) → decode_of text ≡ Ok value → i < length value → hex_digit_value (slice_index text (2 * i)) ≡ Some high
    → hex_digit_value (slice_index text (2 * i + 1)) ≡ Some low → get_or value i 0 ≡ high * 16 + low
byte_at text value i high low e h x y =
    let k = decode_of-ok text value e in
    pairs_at 0 text value i high low (sym (decode_of-even text k.0) ∙ e) h x y

-- ---- writing

encode_append : (xs ys : List ℕ) → encode_lower (xs ++ ys) ≡ encode_lower xs ++ encode_lower ys
unfolding encode_with
encode_append [] ys = refl
encode_append (x ∷ xs) ys = ap (λ l. encode_with lower_digits (x ∷ []) ++ l) (encode_append xs ys)

encode_one : (b : ℕ) → encode_lower (b ∷ []) ≡ slice_index lower_digits (b / 16) ∷ slice_index lower_digits (b % 16) ∷ []
unfolding encode_with
encode_one b = refl

pair_more : (text done : List ℕ) (i a b : ℕ) → 2 * i + 1 < length text → take (2 * i) text ≡ done
    → take (2 * (i + 1)) (set (set text (2 * i) a) (2 * i + 1) b) ≡ (done ++ a ∷ []) ++ b ∷ []
pair_more text done i a b h e =
    let n : 2 * (i + 1) ≡ (2 * i + 1) + 1 = omega arith in
    let first = take_more_set text (2 * i) a (omega (arith, h)) in
    let l = length-set text (2 * i) a in
    let second = take_more_set (set text (2 * i) a) (2 * i + 1) b (omega (arith, h, l)) in
    ap (λ k. take k (set (set text (2 * i) a) (2 * i + 1) b)) n ∙ second ∙ ap (λ l. l ++ b ∷ []) (first ∙ ap (λ l. l ++ a ∷ []) e)

-- one more byte is written
pub digits_more : (text bytes : List ℕ) (i a b : ℕ) → 2 * i + 1 < length text → i < length bytes → a ≡ slice_index lower_digits (get_or bytes i 0 / 16)
    → b ≡ slice_index lower_digits (get_or bytes i 0 % 16) → take (2 * i) text ≡ encode_lower (take i bytes)
    → take (2 * (i + 1)) (set (set text (2 * i) a) (2 * i + 1) b) ≡ encode_lower (take (i + 1) bytes)
digits_more text bytes i a b h k x y e =
    let byte = get_or bytes i 0 in
    let more : encode_lower (take (i + 1) bytes) ≡ encode_lower (take i bytes) ++ (a ∷ b ∷ []) =
    ap (λ l. encode_lower l) (take_more bytes i 0 k) ∙ encode_append (take i bytes) (byte ∷ []) ∙ ap (λ l. encode_lower (take i bytes) ++ l) (encode_one byte)
    ∙ ap (λ c. encode_lower (take i bytes) ++ (c ∷ slice_index lower_digits (byte % 16) ∷ [])) (sym x)
    ∙ ap (λ c. encode_lower (take i bytes) ++ (a ∷ c ∷ [])) (sym y) in
    pair_more text (encode_lower (take i bytes)) i a b h e ∙ append_assoc (encode_lower (take i bytes)) (a ∷ []) (b ∷ []) ∙ sym more

-- no bytes, no digits
pub no_digits : encode_lower [] ≡ []
unfolding encode_with
no_digits = refl

-- the digits of the first bytes, and then those of the others
pub digits_join : (start done new part more : List ℕ) → done ≡ start ++ encode_lower part → new ≡ done ++ encode_lower more
    → new ≡ start ++ encode_lower (part ++ more)
digits_join start done new part more e f =
    f ∙ ap (λ l. l ++ encode_lower more) e ∙ append_assoc start (encode_lower part) (encode_lower more) ∙ ap (λ l. start ++ l) (sym (encode_append part more))
