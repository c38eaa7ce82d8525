-- Sums over lists that change at one place, and how often a number stands in a list.
use Rattle.std.proofs.Common.{◌≡◌, ℕ, zero, suc, ◌+◌, ◌<◌, ◌≤◌, ◌≢◌, List, [], ◌∷◌, ◌++◌, length, set, sym, refl, ap, ◌∙◌, arith, cond, eq-eqb, ne_eqb, ◌⊎◌}
use Rattle.std.proofs.Common.{inl, inr, ⊎_elim}
use mathlib.Core.Logic.{dite}
use native.Mathlib.Decide.{ℕ_discrete}
use mathlib.Core.Option.{some, some-injective, some-ne-none}
use lib.ListN.{get_elem?}
use Rattle.shared_objects.specs.Rule.{total, times, same}
use Rattle.shared_objects.specs.Kinds.{without}

module _ {A : Type 0} (g : A → ℕ) where
  pub total-append : (l m : List A) → total g (l ++ m) ≡ total g l + total g m
  total-append [] m = omega arith
  total-append (x ∷ xs) m = omega (arith, total-append xs m)

  pub total-set : (l : List A) (j : ℕ) (v w : A) → get_elem? l j ≡ some v → total g (set l j w) + g v ≡ total g l + g w
  total-set [] j v w e = absurd (some-ne-none v (sym e))
  total-set (x ∷ xs) zero v w e = omega (arith, ap g (some-injective x v e))
  total-set (x ∷ xs) (suc j) v w e = omega (arith, total-set xs j v w e)

  pub term_le : (l : List A) (j : ℕ) (v : A) → get_elem? l j ≡ some v → g v ≤ total g l
  term_le [] j v e = absurd (some-ne-none v (sym e))
  term_le (x ∷ xs) zero v e = omega (arith, ap g (some-injective x v e))
  term_le (x ∷ xs) (suc j) v e = omega (arith, term_le xs j v e)

  pub terms_le : (l : List A) (j k : ℕ) (v u : A) → k ≢ j → get_elem? l j ≡ some v → get_elem? l k ≡ some u → g v + g u ≤ total g l
  terms_le [] j k v u n e d = absurd (some-ne-none v (sym e))
  terms_le (x ∷ xs) zero zero v u n e d = absurd (n refl)
  terms_le (x ∷ xs) zero (suc k) v u n e d = omega (arith, ap g (some-injective x v e), term_le xs k u d)
  terms_le (x ∷ xs) (suc j) zero v u n e d = omega (arith, ap g (some-injective x u d), term_le xs j v e)
  terms_le (x ∷ xs) (suc j) (suc k) v u n e d = omega (arith, terms_le xs j k v u (λ h. n (ap suc h)) e d)

  -- where each has at most 1, the total is at most the length
  pub total_few : (l : List A) → ((j : ℕ) (v : A) → get_elem? l j ≡ some v → g v ≤ 1) → total g l ≤ length l
  total_few [] h = omega arith
  total_few (x ∷ xs) h = omega (arith, h 0 x refl, total_few xs (λ j v e. h (suc j) v e))

pub set_there : {A : Type 0} (l : List A) (j : ℕ) (v w : A) → get_elem? l j ≡ some v → get_elem? (set l j w) j ≡ some w
set_there [] j v w e = absurd (some-ne-none v (sym e))
set_there (x ∷ xs) zero v w e = refl
set_there (x ∷ xs) (suc j) v w e = set_there xs j v w e

-- one more at the end
pub at_end : {A : Type 0} (l : List A) (a b : A) (j : ℕ) → get_elem? (l ++ a ∷ []) j ≡ some b → (get_elem? l j ≡ some b) ⊎ ((j ≡ length l) × (a ≡ b))
at_end [] a b zero e = inr (refl, some-injective a b e)
at_end [] a b (suc j) e = absurd (some-ne-none b (sym e))
at_end (x ∷ xs) a b zero e = inl e
at_end (x ∷ xs) a b (suc j) e = ⊎_elim (λ h. inl h) (λ t. inr (ap suc t.0, t.1)) (at_end xs a b j e)

pub is_here : (x n : ℕ) → x ≡ n → same x n ≡ 1
is_here x n e = ap (λ b. cond b 1 0) (eq-eqb x n e)

pub is_else : (x n : ℕ) → x ≢ n → same x n ≡ 0
is_else x n e = ap (λ b. cond b 1 0) (ne_eqb x n e)

pub times-snoc : (n m : ℕ) (xs : List ℕ) → times n (xs ++ m ∷ []) ≡ times n xs + same m n
times-snoc n m [] = omega arith
times-snoc n m (x ∷ xs) = omega (arith, times-snoc n m xs)

without_here : (n x : ℕ) (xs : List ℕ) → x ≡ n → without n (x ∷ xs) ≡ xs
without_here n x xs e = ap (λ b. cond b xs (x ∷ without n xs)) (eq-eqb x n e)

without_else : (n x : ℕ) (xs : List ℕ) → x ≢ n → without n (x ∷ xs) ≡ x ∷ without n xs
without_else n x xs e = ap (λ b. cond b xs (x ∷ without n xs)) (ne_eqb x n e)

pub times-without : (n : ℕ) (xs : List ℕ) → 0 < times n xs → times n (without n xs) + 1 ≡ times n xs
times-without n [] h = absurd (omega arith)
times-without n (x ∷ xs) h = dite (ℕ_discrete x n)
    (λ e. omega (arith, ap (times n) (without_here n x xs e), is_here x n e))
    (λ ne. omega (arith, ap (times n) (without_else n x xs ne), is_else x n ne, times-without n xs (omega (arith, is_else x n ne))))

pub times-without_other : (m n : ℕ) (xs : List ℕ) → m ≢ n → times m (without n xs) ≡ times m xs
times-without_other m n [] h = refl
times-without_other m n (x ∷ xs) h = dite (ℕ_discrete x n)
    (λ e. omega (arith, ap (times m) (without_here n x xs e), is_else x m (λ same. h (sym same ∙ e))))
    (λ ne. omega (arith, ap (times m) (without_else n x xs ne), times-without_other m n xs h))
