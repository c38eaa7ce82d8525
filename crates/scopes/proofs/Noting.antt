-- What noting a number does to a window.
use Rattle.std.proofs.Common.{◌≡◌, ℕ, ◌<◌, nat_eq, Bool, true, false, ◌||◌, List, [], ◌∷◌, ◌++◌, length, length-append, refl, ◌∙◌, arith}
use Rattle.std.specs.List.{list_any, remove}
use Rattle.std.proofs.lemmas.List.Folds.{list_any-append}
use Rattle.std.proofs.lemmas.Bool.Decides.{nat_tests}
use Rattle.scopes.specs.Windows.{IsWindow, AreDistinct, holds}

pub neither : (a b : Bool) → (a || b) ≡ false → (a ≡ false) × (b ≡ false)
neither true b h = absurd (cc)
neither false b h = (refl, h)

other : (n x : ℕ) → nat_eq n x ≡ false → nat_eq x n ≡ false
other n x h = grind (arith, nat_tests)

pub distinct_push : (w : List ℕ) (n : ℕ) → AreDistinct w → holds n w ≡ false → AreDistinct (w ++ n ∷ [])
distinct_push [] n d h = (refl, tt)
distinct_push (x ∷ xs) n d h =
    let g = neither (nat_eq n x) (list_any (nat_eq n) xs) h in
    (list_any-append (nat_eq x) xs (n ∷ []) ∙ (rw (d.0, other n x g.0) refl), distinct_push xs n d.1 g.1)

pub after_full : (xs ys zs : List ℕ) (n : ℕ) → IsWindow xs → holds n xs ≡ false → ys ≡ remove xs 0 → zs ≡ ys ++ n ∷ [] → IsWindow zs
after_full [] ys zs n w h p q = rw (q, p) (record { distinct = (refl, tt); room = omega arith })
after_full (x ∷ xs) ys zs n w h p q =
    let g = neither (nat_eq n x) (list_any (nat_eq n) xs) h in
    rw (q, p) (record { distinct = distinct_push xs n w.distinct.1 g.1; room = omega (arith, w.room, length-append xs (n ∷ [])) })

pub after_room : (xs zs : List ℕ) (n : ℕ) → IsWindow xs → length xs < 4 → holds n xs ≡ false → zs ≡ xs ++ n ∷ [] → IsWindow zs
after_room xs zs n w l h q = rw q (record { distinct = distinct_push xs n w.distinct h; room = omega (arith, length-append xs (n ∷ [])) })
