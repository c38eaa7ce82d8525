-- Noting a number keeps a window one.
use Rattle.std.proofs.Common.{◌≡◌, ℕ, ◌<◌, nat_le, Bool, true, false, cond, List, [], ◌∷◌, ◌++◌, length, refl, arith}
use Rattle.std.proofs.lemmas.Bool.Decides.{nat_tests}
use Rattle.scopes.specs.Windows.{IsWindow, holds, noted, without_oldest}
use Rattle.scopes.proofs.Noting.{after_full, after_room}

shorter : (n : ℕ) → nat_le 4 n ≡ false → n < 4
shorter n e = grind (arith, nat_tests)

pushed : (full : Bool) (n x : ℕ) (xs : List ℕ) → nat_le 4 (length (x ∷ xs)) ≡ full → IsWindow (x ∷ xs) → holds n (x ∷ xs) ≡ false
    → IsWindow (cond full xs (x ∷ xs) ++ n ∷ [])
pushed true n x xs e h none = after_full (x ∷ xs) xs (xs ++ n ∷ []) n h none refl refl
pushed false n x xs e h none = after_room (x ∷ xs) ((x ∷ xs) ++ n ∷ []) n h (shorter (length (x ∷ xs)) e) none refl

by_test : (b : Bool) (n : ℕ) (w : List ℕ) → holds n w ≡ b → IsWindow w → IsWindow (cond b w (without_oldest w ++ n ∷ []))
by_test true n w e h = h
by_test false n [] e h = after_room [] (n ∷ []) n h (omega arith) e refl
by_test false n (x ∷ xs) e h = pushed (nat_le 4 (length (x ∷ xs))) n x xs refl h e

pub stays : (n : ℕ) (w : List ℕ) → IsWindow w → IsWindow (noted n w)
stays n w h = by_test (holds n w) n w refl h
