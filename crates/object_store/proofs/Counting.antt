-- The count of an object stays the number of windows that hold it, whatever a window notes or gives up.
use Rattle.std.proofs.Common.{◌≡◌, ℕ, zero, suc, ◌||◌, IfSome, ◌+◌, ◌-◌, ◌<◌, ◌≤◌, nat_eq, Bool, true, false, cond, List, [], ◌∷◌, ◌++◌, length, replicate, map}
use Rattle.std.proofs.Common.{set, get_or, refl, sym, ◌∙◌, subst, arith, nat_le, ◌≢◌, Option, Some, None}
use Rattle.std.proofs.lemmas.List.{get_or-set_same, get_or-set_other, length-set}
use Rattle.std.proofs.lemmas.List.Sums.{sum_by-set, sum_by-cons}
use Rattle.std.specs.List.{list_any}
use Rattle.std.proofs.lemmas.List.Folds.{list_any-append}
use Rattle.std.proofs.lemmas.Bool.Decides.{nat_tests}
use Rattle.scopes.specs.Windows.{holds, noted, pushed_out, AreDistinct}
use Rattle.object_store.specs.Stores.{holders, weight}
use Rattle.object_store.specs.Bodies.{Kept, CountsHold, lessened, grown, scopes_in}

neither : (a b : Bool) → (a || b) ≡ false → (a ≡ false) × (b ≡ false)
neither true b h = absurd (cc)
neither false b h = (refl, h)

pub below_counts : (bodies : List Kept) (i : ℕ) → 0 < get_or (map scopes_in bodies) i 0 → i < length bodies
below_counts [] i h = absurd (omega arith)
below_counts (b ∷ bodies) zero h = omega arith
below_counts (b ∷ bodies) (suc i) h = let g = below_counts bodies i h in omega arith

-- ---- weights

three : (a b c : Bool) → (a ≡ true → b ≡ false) → (a ≡ true → c ≡ false) → (b ≡ true → c ≡ false)
    → cond (b || (c || false)) 1 0 + cond a 1 0 ≡ cond (a || b) 1 0 + cond c 1 0
three true true c f g h = let e = f refl in absurd (cc)
three true false true f g h = let e = g refl in absurd (cc)
three true false false f g h = refl
three false true true f g h = let e = h refl in absurd (cc)
three false true false f g h = refl
three false false true f g h = refl
three false false false f g h = refl

two : (b c : Bool) → (b ≡ true → c ≡ false) → cond (b || (c || false)) 1 0 + 0 ≡ cond b 1 0 + cond c 1 0
two true true h = let e = h refl in absurd (cc)
two true false h = refl
two false true h = refl
two false false h = refl

same_number : (k x : ℕ) → nat_eq k x ≡ true → k ≡ x
same_number k x h = grind (arith, nat_tests)

-- a number that isn't held isn't one that is
apart : (w : List ℕ) (n k : ℕ) → holds n w ≡ false → holds k w ≡ true → nat_eq k n ≡ false
apart w n k h p = elim (nat_eq k n) as (λ b. nat_eq k n ≡ b → nat_eq k n ≡ false)
    [ false ↦ λ e. e | true ↦ λ e. absurd (let s = same_number k n e in let q : holds n w ≡ true = subst (λ (i : ℕ). holds i w ≡ true) s p in cc) ] refl

abbrev is_out : ℕ → Option ℕ → ℕ
is_out k None = 0
is_out k (Some x) = cond (nat_eq k x) 1 0

appended : (xs : List ℕ) (n k : ℕ) → holds k (xs ++ n ∷ []) ≡ (holds k xs || (nat_eq k n || false))
appended xs n k = list_any-append (nat_eq k) xs (n ∷ [])

first_apart : (x k : ℕ) (xs : List ℕ) → holds x xs ≡ false → nat_eq k x ≡ true → holds k xs ≡ false
first_apart x k xs d e = subst (λ (i : ℕ). holds i xs ≡ false) (sym (same_number k x e)) d

-- with the oldest out or not
shifted : (full : Bool) (x : ℕ) (xs : List ℕ) (n k : ℕ) → AreDistinct (x ∷ xs) → holds n (x ∷ xs) ≡ false
    → weight k (cond full xs (x ∷ xs) ++ n ∷ []) + is_out k (cond full (Some x) None) ≡ weight k (x ∷ xs) + cond (nat_eq k n) 1 0
shifted true x xs n k d h =
    let g = neither (nat_eq n x) (list_any (nat_eq n) xs) h in
    rw (appended xs n k) (three (nat_eq k x) (holds k xs) (nat_eq k n) (first_apart x k xs d.0)
    (λ e. apart (x ∷ xs) n k h (rw e refl)) (λ e. apart xs n k g.1 e))
shifted false x xs n k d h = rw (appended (x ∷ xs) n k) (two (holds k (x ∷ xs)) (nat_eq k n) (apart (x ∷ xs) n k h))

weight_noted : (w : List ℕ) (n k : ℕ) → AreDistinct w → holds n w ≡ false
    → weight k (noted n w) + is_out k (pushed_out n w) ≡ weight k w + cond (nat_eq k n) 1 0
weight_noted [] n k d h = elim (nat_eq k n) as (λ b. cond (b || false) 1 0 + 0 ≡ 0 + cond b 1 0) [ true ↦ refl | false ↦ refl ]
weight_noted (x ∷ xs) n k d h = rw h (shifted (nat_le 4 (length (x ∷ xs))) x xs n k d h)

-- ---- counts

in_range : (counts : List ℕ) (n : ℕ) → 0 < get_or counts n 0 → n < length counts
in_range [] n h = absurd (omega arith)
in_range (b ∷ counts) zero h = omega arith
in_range (b ∷ counts) (suc n) h = let g = in_range counts n h in omega arith

at_grown : (counts : List ℕ) (n k : ℕ) → n < length counts → get_or (grown n counts) k 0 ≡ get_or counts k 0 + cond (nat_eq k n) 1 0
at_grown counts n k h = elim (nat_eq k n) as (λ b. nat_eq k n ≡ b → get_or (grown n counts) k 0 ≡ get_or counts k 0 + cond b 1 0) [
  | true ↦ λ e. let s = same_number k n e in rw s (get_or-set_same counts n (get_or counts n 0 + 1) 0 h)
  | false ↦ λ e. let s : k ≢ n = grind (arith, nat_tests) in get_or-set_other counts n k (get_or counts n 0 + 1) 0 s ∙ omega arith
] refl

at_lessened : (counts : List ℕ) (out : Option ℕ) (k : ℕ) → IfSome out (λ n. 0 < get_or counts n 0)
    → get_or (lessened out counts) k 0 + is_out k out ≡ get_or counts k 0
at_lessened counts None k h = omega arith
at_lessened counts (Some n) k h = elim (nat_eq k n) as (λ b. nat_eq k n ≡ b → get_or (lessened (Some n) counts) k 0 + cond b 1 0 ≡ get_or counts k 0) [
  | true ↦ λ e. let s = same_number k n e in rw s (let g = get_or-set_same counts n (get_or counts n 0 - 1) 0 (in_range counts n h) in omega arith)
  | false ↦ λ e. let s : k ≢ n = grind (arith, nat_tests) in let g = get_or-set_other counts n k (get_or counts n 0 - 1) 0 s in omega arith
] refl

lessened_length : (counts : List ℕ) (out : Option ℕ) → length (lessened out counts) ≡ length counts
lessened_length counts None = refl
lessened_length counts (Some n) = length-set counts n (get_or counts n 0 - 1)

itself : (x : ℕ) (xs : List ℕ) → holds x (x ∷ xs) ≡ true
itself x xs = let e : nat_eq x x ≡ true = grind (arith, nat_tests) in rw e refl

first_held : (full : Bool) (x : ℕ) (xs : List ℕ) → IfSome (cond full (Some x) None) (λ k. holds k (x ∷ xs) ≡ true)
first_held true x xs = itself x xs
first_held false x xs = tt

-- what is pushed out was held
out_held : (w : List ℕ) (n : ℕ) → holds n w ≡ false → IfSome (pushed_out n w) (λ k. holds k w ≡ true)
out_held [] n h = tt
out_held (x ∷ xs) n h = rw h (first_held (nat_le 4 (length (x ∷ xs))) x xs)

put : (windows : List (List ℕ)) (who k : ℕ) (v : List ℕ) → who < length windows
    → holders (set windows who v) k + weight k (get_or windows who []) ≡ holders windows k + weight k v
unfolding holders
put windows who k v h = sum_by-set (weight k) windows who v [] h

held_counted : (counts : List ℕ) (windows : List (List ℕ)) (who k : ℕ) → CountsHold counts windows → who < length windows
    → holds k (get_or windows who []) ≡ true → 0 < get_or counts k 0
held_counted counts windows who k c h p = let g = put windows who k [] h in let q = rw p at g in omega (arith, c.each k)

some_counted : (counts : List ℕ) (windows : List (List ℕ)) (who : ℕ) (o : Option ℕ) → CountsHold counts windows → who < length windows
    → IfSome o (λ k. holds k (get_or windows who []) ≡ true) → IfSome o (λ k. 0 < get_or counts k 0)
some_counted counts windows who None c h p = tt
some_counted counts windows who (Some k) c h p = held_counted counts windows who k c h p

pub out_counted : (counts : List ℕ) (windows : List (List ℕ)) (who n : ℕ) → CountsHold counts windows → who < length windows
    → holds n (get_or windows who []) ≡ false
    → IfSome (pushed_out n (get_or windows who [])) (λ k. 0 < get_or counts k 0)
out_counted counts windows who n c h p = some_counted counts windows who _ c h (out_held (get_or windows who []) n p)

weight_bound : (k : ℕ) (w : List ℕ) → weight k w ≤ 1
weight_bound k w = elim (holds k w) as (λ b. cond b 1 0 ≤ 1) [ true ↦ omega arith | false ↦ omega arith ]

holders_bound : (windows : List (List ℕ)) (k : ℕ) → holders windows k ≤ length windows
unfolding holders
holders_bound [] k = omega arith
holders_bound (w ∷ ws) k = let e : holders (w ∷ ws) k ≡ weight k w + holders ws k = sum_by-cons (weight k) w ws in
    omega (arith, e, holders_bound ws k, weight_bound k w)

-- where one window doesn't hold it, not all do
pub bounded : (counts : List ℕ) (windows : List (List ℕ)) (who n : ℕ) → CountsHold counts windows → who < length windows
    → holds n (get_or windows who []) ≡ false → get_or counts n 0 < length windows
bounded counts windows who n c h p =
    let e = itself n [] in
    let g = rw (p, e) at (put windows who n (n ∷ []) h) in
    omega (arith, g, c.each n, holders_bound (set windows who (n ∷ [])) n, length-set windows who (n ∷ []))

pub counts_noted : (counts : List ℕ) (windows : List (List ℕ)) (who n : ℕ) → CountsHold counts windows → who < length windows → n < length counts
    → AreDistinct (get_or windows who []) → holds n (get_or windows who []) ≡ false
    → CountsHold (grown n (lessened (pushed_out n (get_or windows who [])) counts)) (set windows who (noted n (get_or windows who [])))
counts_noted counts windows who n c h l d p = record {
  each = λ k.
      let w = get_or windows who [] in
      let out = pushed_out n w in
      let a = at_grown (lessened out counts) n k (omega (arith, lessened_length counts out)) in
      let b = at_lessened counts out k (out_counted counts windows who n c h p) in
      let s = put windows who k (noted n w) h in
      let x = weight_noted w n k d p in
      omega (arith, a, b, c.each k, s, x);
}

pub bounded_lessened : (counts : List ℕ) (windows : List (List ℕ)) (who n : ℕ) → CountsHold counts windows → who < length windows
    → holds n (get_or windows who []) ≡ false
    → get_or (lessened (pushed_out n (get_or windows who [])) counts) n 0 < length windows
bounded_lessened counts windows who n c h p =
    let b = at_lessened counts (pushed_out n (get_or windows who [])) n (out_counted counts windows who n c h p) in
    omega (arith, b, bounded counts windows who n c h p)

-- ---- one taken out

pub taken_counted : (counts : List ℕ) (windows : List (List ℕ)) (who n : ℕ) (rest : List ℕ) → CountsHold counts windows → who < length windows
    → get_or windows who [] ≡ n ∷ rest → 0 < get_or counts n 0
taken_counted counts windows who n rest c h e = held_counted counts windows who n c h (rw e (itself n rest))

first_weight : (a b : Bool) → (a ≡ true → b ≡ false) → cond (a || b) 1 0 ≡ cond b 1 0 + cond a 1 0
first_weight true true f = let e = f refl in absurd (cc)
first_weight true false f = refl
first_weight false true f = refl
first_weight false false f = refl

pub counts_taken : (counts : List ℕ) (windows : List (List ℕ)) (who n : ℕ) (rest : List ℕ) → CountsHold counts windows → who < length windows
    → get_or windows who [] ≡ n ∷ rest
    → AreDistinct (n ∷ rest) → CountsHold (lessened (Some n) counts) (set windows who rest)
counts_taken counts windows who n rest c h e d = record {
  each = λ k.
      let b = at_lessened counts (Some n) k (taken_counted counts windows who n rest c h e) in
      let s = rw e at (put windows who k rest h) in
      let x : weight k (n ∷ rest) ≡ weight k rest + cond (nat_eq k n) 1 0 = first_weight (nat_eq k n) (holds k rest) (first_apart n k rest d.0) in
      omega (arith, b, c.each k, s, x);
}

-- ---- at first

pub none_held : (count k : ℕ) → holders (replicate count []) k ≡ 0
unfolding holders
none_held zero k = refl
none_held (suc count) k = let e : holders ([] ∷ replicate count []) k ≡ weight k [] + holders (replicate count []) k =
    sum_by-cons (weight k) [] (replicate count []) in omega (arith, e, none_held count k)

first_count : (k : ℕ) → ◌≡◌ {A = ℕ} (get_or (0 ∷ []) k 0) 0
first_count zero = refl
first_count (suc k) = refl

pub counts_at_first : (windows : List (List ℕ)) → ((k : ℕ) → holders windows k ≡ 0) → CountsHold (0 ∷ []) windows
counts_at_first windows h = record { each = λ k. first_count k ∙ sym (h k) }

-- an object that no window holds
more_zero : (counts : List ℕ) (k : ℕ) → ◌≡◌ {A = ℕ} (get_or (counts ++ 0 ∷ []) k 0) (get_or counts k 0)
more_zero [] zero = refl
more_zero [] (suc k) = refl
more_zero (c ∷ cs) zero = refl
more_zero (c ∷ cs) (suc k) = more_zero cs k

pub uncounted_more : (counts : List ℕ) (windows : List (List ℕ)) → CountsHold counts windows → CountsHold (counts ++ 0 ∷ []) windows
uncounted_more counts windows h = record { each = λ k. more_zero counts k ∙ h.each k }
