-- What writing a machine back changes: the machine of that number, and no other.
use Rattle.std.proofs.Common.{◌≡◌, ◌≢◌, ℕ, zero, suc, ◌-◌, List, [], ◌∷◌, map, Option, Some, None, refl, sym, ap, subst, arith}
use Rattle.std.specs.Prelude.{slice_get, slice_set}
use Rattle.debugger.specs.declared.debuggee.Debuggee.{Debuggee}
use Rattle.world.specs.WorldState.{machine_at, with_machine}

pub not_zero : (ms : List Debuggee) (m : ℕ) (d : Debuggee) → machine_at ms m ≡ Some d → m ≢ 0
not_zero ms zero d e = absurd (cc)
not_zero ms (suc m) d e = λ z. absurd (omega (arith, z))

pub found_once : (o : Option Debuggee) (x y : Debuggee) → o ≡ Some x → o ≡ Some y → x ≡ y
found_once o x y p q = cc

pub found_none : {P : Type 0} (o : Option Debuggee) (d : Debuggee) → o ≡ None → o ≡ Some d → P
found_none o d a b = absurd (cc)

-- ---- written back

map_same : {B : Type 0} (f : Debuggee → B) (xs : List Debuggee) (n : ℕ) (x y : Debuggee) → slice_get xs n ≡ Some x → f y ≡ f x
    → map f (slice_set xs n y) ≡ map f xs
map_same f [] n x y e h = refl
map_same f (z ∷ zs) zero x y e h = let g : z ≡ x = cc in rw (g, h) refl
map_same f (z ∷ zs) (suc n) x y e h = ap (λ l. f z ∷ l) (map_same f zs n x y e h)

-- what is the same in the one that is written is the same in all
pub with_map : {B : Type 0} (f : Debuggee → B) (ms : List Debuggee) (m : ℕ) (x y : Debuggee) → machine_at ms m ≡ Some x → f y ≡ f x
    → map f (with_machine ms m y) ≡ map f ms
with_map f ms zero x y e h = absurd (cc)
with_map f ms (suc n) x y e h =
    let i : suc n - 1 ≡ n = omega arith in
    subst (λ k. map f (slice_set ms k y) ≡ map f ms) (sym i) (map_same f ms n x y e h)

-- ---- the others

other_place : (xs : List Debuggee) (n k : ℕ) (x : Debuggee) → k ≢ n → slice_get (slice_set xs n x) k ≡ slice_get xs k
other_place [] n k x h = refl
other_place (y ∷ ys) zero zero x h = absurd (h refl)
other_place (y ∷ ys) zero (suc k) x h = refl
other_place (y ∷ ys) (suc n) zero x h = refl
other_place (y ∷ ys) (suc n) (suc k) x h = other_place ys n k x (λ e. h (ap suc e))

-- any number but that
pub other_number : (ms : List Debuggee) (m k : ℕ) (d : Debuggee) → m ≢ 0 → k ≢ m → machine_at (with_machine ms m d) k ≡ machine_at ms k
other_number ms m zero d z h = refl
other_number ms zero (suc k) d z h = absurd (z refl)
other_number ms (suc m) (suc k) d z h =
    let e : suc m - 1 ≡ m = omega arith in
    subst (λ n. slice_get (slice_set ms n d) k ≡ slice_get ms k) (sym e) (other_place ms m k d (λ q. h (ap suc q)))

pub other_machine : (ms : List Debuggee) (m k : ℕ) (x y : Debuggee) → machine_at ms m ≡ Some x → k ≢ m → machine_at (with_machine ms m y) k ≡ machine_at ms k
other_machine ms m k x y e h = other_number ms m k y (not_zero ms m x e) h

-- ---- what was written

-- the machine itself
set_place : (xs : List Debuggee) (n : ℕ) (d e : Debuggee) → slice_get xs n ≡ Some d → slice_get (slice_set xs n e) n ≡ Some e
set_place [] n d e h = absurd (cc)
set_place (x ∷ xs) zero d e h = refl
set_place (x ∷ xs) (suc n) d e h = set_place xs n d e h

pub found_set : (xs : List Debuggee) (m : ℕ) (d e : Debuggee) → machine_at xs m ≡ Some d → machine_at (with_machine xs m e) m ≡ Some e
found_set xs zero d e h = absurd (cc)
found_set xs (suc n) d e h = let i : suc n - 1 ≡ n = omega arith in subst (λ k. slice_get (slice_set xs k e) n ≡ Some e) (sym i) (set_place xs n d e h)

-- two that were set
places_swap : (xs : List Debuggee) (n k : ℕ) (x y : Debuggee) → n ≢ k → slice_set (slice_set xs n x) k y ≡ slice_set (slice_set xs k y) n x
places_swap [] n k x y h = refl
places_swap (z ∷ zs) zero zero x y h = absurd (h refl)
places_swap (z ∷ zs) zero (suc k) x y h = refl
places_swap (z ∷ zs) (suc n) zero x y h = refl
places_swap (z ∷ zs) (suc n) (suc k) x y h = ap (λ (l : List Debuggee). z ∷ l) (places_swap zs n k x y (λ e. h (ap suc e)))

pub machines_swap : (xs : List Debuggee) (m k : ℕ) (x y : Debuggee) → m ≢ 0 → k ≢ 0 → m ≢ k
    → with_machine (with_machine xs m x) k y ≡ with_machine (with_machine xs k y) m x
machines_swap xs m k x y a b h = places_swap xs (m - 1) (k - 1) x y (λ e. h (omega (arith, a, b, e)))
