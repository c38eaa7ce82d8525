-- Hex digits from the last to the first.
use Rattle.std.proofs.Common.{◌≡◌, ◌≢◌, ◌≤◌, ◌<◌, ◌+◌, ◌-◌, ◌/◌, ◌%◌, ◌^◌, ◌*◌, ◌==◌, ℕ, suc, zero, true, false, cond, List, [], ◌∷◌, drop, length, refl, sym}
use Rattle.std.proofs.Common.{ap, ◌∙◌, arith}
use Rattle.std.proofs.Math.Nat.{pow-succ'}
use Rattle.std.proofs.Math.ListN.{set, length-set}
use Rattle.std.proofs.lemmas.Bool.Decides.{nat_tests}
use Rattle.std.proofs.lemmas.List.{drop-set, drop-set-lt, drop_all}
use Rattle.std.specs.Fmt.{digits, digits_onto, digit_glyph}

-- the last digits of n, at most f, before these
unfoldable pub hexed : ℕ → ℕ → List ℕ → List ℕ
hexed f n acc = digits_onto f 16 false n acc

pub hexed_start : (k : ℕ) → hexed 64 k [] ≡ digits 16 false k
unfolding hexed digits
hexed_start k = refl

test_false : (n : ℕ) → n ≢ 0 → (n == 0) ≡ false
test_false n h = grind (arith, nat_tests)

test_true : (n : ℕ) → n ≡ 0 → (n == 0) ≡ true
test_true n h = grind (arith, nat_tests)

pub hexed_next : (f n : ℕ) (acc : List ℕ) → n / 16 ≢ 0 → hexed (suc f) n acc ≡ hexed f (n / 16) (digit_glyph false (n % 16) ∷ acc)
unfolding hexed
hexed_next f n acc h = ap (λ b. cond b (digit_glyph false (n % 16) ∷ acc) (digits_onto f 16 false (n / 16) (digit_glyph false (n % 16) ∷ acc)))
    (test_false (n / 16) h)

pub hexed_end : (f n : ℕ) (acc : List ℕ) → n / 16 ≡ 0 → hexed (suc f) n acc ≡ digit_glyph false (n % 16) ∷ acc
unfolding hexed
hexed_end f n acc h = ap (λ b. cond b (digit_glyph false (n % 16) ∷ acc) (digits_onto f 16 false (n / 16) (digit_glyph false (n % 16) ∷ acc)))
    (test_true (n / 16) h)

-- a digit more fits before the place
pub place : (at n : ℕ) → n < 16 ^ (at + 1) → n / 16 ≢ 0 → 1 ≤ at
place zero n h e = absurd (e (omega arith))
place (suc at) n h e = omega arith

pub fewer : (at n : ℕ) → 1 ≤ at → n < 16 ^ (at + 1) → n / 16 < 16 ^ (at - 1 + 1)
fewer zero n p h = absurd (omega arith)
fewer (suc at) n p h =
    let e : suc at + 1 ≡ suc (suc at) = omega arith in
    let f : suc at - 1 + 1 ≡ suc at = omega arith in
    let g : 16 ^ (suc at + 1) ≡ 16 * 16 ^ suc at = ap (λ k. 16 ^ k) e ∙ pow-succ' 16 (suc at) in
    let i : 16 ^ (suc at - 1 + 1) ≡ 16 ^ suc at = ap (λ k. 16 ^ k) f in
    omega arith

-- a byte written before the place
pub written_here : (buffer : List ℕ) (i g d : ℕ) → i < length buffer → g ≡ d → drop i (set buffer i g) ≡ d ∷ drop (i + 1) (set buffer i g)
written_here buffer i g d h e = drop-set buffer i g h ∙ ap (λ l. g ∷ l) (sym (drop-set-lt (i + 1) buffer i g (omega arith)))
    ∙ ap (λ x. x ∷ drop (i + 1) (set buffer i g)) e

pub written_after : (buffer : List ℕ) (at g : ℕ) → 1 ≤ at → drop (at - 1 + 1) (set buffer (at - 1) g) ≡ drop at buffer
written_after buffer at g h =
    let e : at - 1 + 1 ≡ at = omega arith in
    ap (λ k. drop k (set buffer (at - 1) g)) e ∙ drop-set-lt at buffer (at - 1) g (omega arith)

pub first_digit : (k g : ℕ) (buffer : List ℕ) → length buffer ≡ 16 → hexed 64 k (drop 16 (set buffer 15 g)) ≡ digits 16 false k
first_digit k g buffer h = ap (hexed 64 k) (drop_all 16 (set buffer 15 g) (omega (arith, length-set {A = ℕ}))) ∙ hexed_start k

pub next_digit : (at n : ℕ) (old : List ℕ) (g : ℕ) (ds : List ℕ) → 1 ≤ at → n / 16 ≢ 0 → drop at old ≡ digit_glyph false (n % 16) ∷ drop (at + 1) old
    → hexed (49 + at) n (drop (at + 1) old) ≡ ds
    → hexed (49 + (at - 1)) (n / 16) (drop (at - 1 + 1) (set old (at - 1) g)) ≡ ds
next_digit at n old g ds p q e h =
    let s : 49 + at ≡ suc (49 + (at - 1)) = omega arith in
    ap (hexed (49 + (at - 1)) (n / 16)) (written_after old at g p ∙ e) ∙ sym (hexed_next (49 + (at - 1)) n (drop (at + 1) old) q)
    ∙ ap (λ f. hexed f n (drop (at + 1) old)) (sym s) ∙ h

pub last_digit : (at n : ℕ) (buffer ds : List ℕ) → n / 16 ≡ 0 → drop at buffer ≡ digit_glyph false (n % 16) ∷ drop (at + 1) buffer
    → hexed (49 + at) n (drop (at + 1) buffer) ≡ ds → drop at buffer ≡ ds
last_digit at n buffer ds q e h =
    let s : 49 + at ≡ suc (48 + at) = omega arith in
    e ∙ sym (hexed_end (48 + at) n (drop (at + 1) buffer) q) ∙ ap (λ f. hexed f n (drop (at + 1) buffer)) (sym s) ∙ h
