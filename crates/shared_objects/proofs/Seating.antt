-- One seat more.
use Rattle.std.proofs.Common.{◌≡◌, ℕ, ◌+◌, List, [], ◌∷◌, ◌++◌, length, sym, ap, ◌∙◌, arith, ⊎_elim, zero, suc}
use Rattle.std.specs.Prelude.{All}
use Rattle.shared_objects.proofs.Sums.{at_end}
use Rattle.shared_objects.specs.Kinds.{dealt, newcomer}
use Rattle.shared_objects.specs.Opened.{AreFresh, seated}
use Rattle.shared_objects.specs.declared.view.View.{View}
use Rattle.shared_objects.specs.declared.seats.ActorSeat.{ActorSeat}

pub seated_next : (k : ℕ) (v : View) → dealt (seated k v) ≡ seated (k + 1) v
seated_next k v = let a : v.made + k + 1 ≡ v.made + (k + 1) = omega arith in let b : v.alive + k + 1 ≡ v.alive + (k + 1) = omega arith in
    λ i. record v { made = a i; alive = b i }

pub seated_none : (v : View) → v ≡ seated 0 v
seated_none v = let a : v.made ≡ v.made + 0 = omega arith in let b : v.alive ≡ v.alive + 0 = omega arith in λ i. record v { made = a i; alive = b i }

pub fresh_more : (v : View) (actors : List ActorSeat) (a : ActorSeat) → AreFresh v actors → a.seat.me.0 ≡ newcomer (seated (length actors) v) → a.stamp ≡ 0
    → AreFresh v (actors ++ a ∷ [])
fresh_more v actors a fresh is young k x at = ⊎_elim (λ old. fresh k x old)
    (λ (new : (k ≡ length actors) × (a ≡ x)). (
      ap (λ (y : ActorSeat). y.seat.me.0) (sym new.1) ∙ is ∙ ap (λ j. newcomer (seated j v)) (sym new.0),
      ap (λ (y : ActorSeat). y.stamp) (sym new.1) ∙ young,
    ))
    (at_end actors a x k at)

pub all_more : {A : Type 0} (P : A → Type 0) (xs : List A) (x : A) → All P xs → P x → All P (xs ++ x ∷ [])
all_more P [] x a h zero d lt = h
all_more P [] x a h (suc k) d lt = absurd (omega arith)
all_more P (y ∷ ys) x a h zero d lt = a 0 d (omega arith)
all_more P (y ∷ ys) x a h (suc k) d lt = all_more P ys x (λ j e l. a (suc j) e (omega arith)) h k d (omega arith)
