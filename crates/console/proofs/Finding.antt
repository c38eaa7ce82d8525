-- Where a byte stands first.
use Rattle.std.proofs.Common.{◌≡◌, ◌≢◌, ℕ, ◌<◌, ◌+◌, ◌==◌, true, List, ◌∷◌, ◌++◌, Option, Some, None, IfSome, IfNone, length, take, drop, All, arith, get_or}
use Rattle.std.proofs.Common.{slice_index, sym, subst, ap, ◌∙◌}
use Rattle.std.proofs.lemmas.List.{take-append-drop, drop_more, get_or-take, length-take}
use Rattle.std.proofs.lemmas.List.Elements.{All-from_get_or}
use Rattle.std.proofs.lemmas.Bool.Decides.{nat_tests}
use Rattle.memchr.specs.Find.{Nowhere, Passes, IsFirstByte, is_byte}

same : (byte x : ℕ) → (x == byte) ≡ true → x ≡ byte
same byte x h = grind (arith, nat_tests)

is_same : (byte x : ℕ) → x ≡ byte → (x == byte) ≡ true
is_same byte x h = grind (arith, nat_tests)

split_at : (byte : ℕ) (text : List ℕ) (at : ℕ) → at < length text → slice_index text at ≡ byte → text ≡ take at text ++ byte ∷ drop (at + 1) text
split_at byte text at h e = sym (take-append-drop at text) ∙ ap (λ l. take at text ++ l) (drop_more text at 0 h ∙ ap (λ b. b ∷ drop (at + 1) text) e)

nowhere : (byte : ℕ) (text : List ℕ) (n : ℕ) → Nowhere (Passes (is_byte byte) text) 0 n → (i : ℕ) → i < n → get_or text i 0 ≢ byte
nowhere byte text n none i h = λ e. none i (omega arith) h (is_same byte _ e)

before : (byte : ℕ) (text : List ℕ) (at : ℕ) → at < length text → Nowhere (Passes (is_byte byte) text) 0 at → All (λ b. b ≢ byte) (take at text)
before byte text at h none = All-from_get_or (λ b. b ≢ byte) (take at text) 0 (λ i lt.
    let k : i < at = omega (arith, lt, length-take at text) in
    subst (λ b. b ≢ byte) (sym (get_or-take at text i 0 k)) (nowhere byte text at none i k))

pub found : (byte : ℕ) (text : List ℕ) (r : Option ℕ) → IsFirstByte (is_byte byte) text r
    → IfSome r (λ at. (at < length text) × (text ≡ take at text ++ byte ∷ drop (at + 1) text) × All (λ b. b ≢ byte) (take at text))
found byte text None h = tt
found byte text (Some at) h = (h.0.high, split_at byte text at h.0.high (same byte _ h.1), before byte text at h.0.high h.0.before)

pub missing : (byte : ℕ) (text : List ℕ) (r : Option ℕ) → IsFirstByte (is_byte byte) text r → IfNone r (All (λ b. b ≢ byte) text)
missing byte text None h = All-from_get_or (λ b. b ≢ byte) text 0 (nowhere byte text (length text) h)
missing byte text (Some at) h = tt
