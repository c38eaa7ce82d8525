-- Lists without an element twice, when one is added and when one is taken out.
use Rattle.std.proofs.Common.{◌≡◌, ℕ, nat_eq, Bool, true, false, cond, ◌||◌, List, [], ◌∷◌, ◌++◌, refl, ◌∙◌, arith}
use Rattle.std.specs.List.{list_any, filter}
use Rattle.std.proofs.lemmas.List.Folds.{list_any-append}
use Rattle.std.proofs.lemmas.Bool.Decides.{nat_tests}
use Rattle.debugger.specs.declared.watch.Watch.{Watch}
use Rattle.debugger.specs.DebugState.{AreDistinctBy, is_same_watch}

pub neither : (a b : Bool) → (a || b) ≡ false → (a ≡ false) × (b ≡ false)
neither true b h = absurd (cc)
neither false b h = (refl, h)

pub distinct_push : {X : Type 0} (same : X → X → Bool) (turn : (x y : X) → same x y ≡ same y x) (xs ys : List X) (n : X)
    → AreDistinctBy same xs → list_any (same n) xs ≡ false → ys ≡ xs ++ n ∷ [] → AreDistinctBy same ys
distinct_push same turn [] ys n d h e = rw e (refl, tt)
distinct_push same turn (x ∷ xs) ys n d h e =
    let g = neither (same n x) (list_any (same n) xs) h in
    rw e (list_any-append (same x) xs (n ∷ []) ∙ (rw (d.0, turn x n, g.0) refl), distinct_push same turn xs (xs ++ n ∷ []) n d.1 g.1 refl)

kept_out : {X : Type 0} (p q : X → Bool) (xs : List X) → list_any p xs ≡ false → list_any p (filter q xs) ≡ false
kept_out p q [] h = refl
kept_out p q (x ∷ xs) h =
    let g = neither (p x) (list_any p xs) h in
    by_test (q x) g.0 (kept_out p q xs g.1)
  where
    by_test : (b : Bool) → p x ≡ false → list_any p (filter q xs) ≡ false → list_any p (cond b (x ∷ filter q xs) (filter q xs)) ≡ false
    by_test true one rest = rw one rest
    by_test false one rest = rest

pub distinct_filter : {X : Type 0} (same : X → X → Bool) (q : X → Bool) (xs ys : List X)
    → AreDistinctBy same xs → ys ≡ filter q xs → AreDistinctBy same ys
distinct_filter same q [] ys d e = rw e tt
distinct_filter same q (x ∷ xs) ys d e = rw e (by_test (q x) (kept_out (same x) q xs d.0) (distinct_filter same q xs (filter q xs) d.1 refl))
  where
    by_test : (b : Bool) → list_any (same x) (filter q xs) ≡ false → AreDistinctBy same (filter q xs)
        → AreDistinctBy same (cond b (x ∷ filter q xs) (filter q xs))
    by_test true one rest = (one, rest)
    by_test false one rest = rest

pub nat_eq_turns : (x y : ℕ) → nat_eq x y ≡ nat_eq y x
nat_eq_turns x y = by_tests (nat_eq x y) (nat_eq y x) refl refl
  where
    by_tests : (a b : Bool) → nat_eq x y ≡ a → nat_eq y x ≡ b → a ≡ b
    by_tests true true e f = refl
    by_tests false false e f = refl
    by_tests true false e f = absurd (grind (arith, nat_tests))
    by_tests false true e f = absurd (grind (arith, nat_tests))

pub same_turns : (x y : Watch) → is_same_watch x y ≡ is_same_watch y x
same_turns x y = rw (nat_eq_turns x.number y.number, nat_eq_turns x.offset y.offset, nat_eq_turns x.length y.length) refl
