-- What a mover does in turn, put together.
use Rattle.std.proofs.Common.{ℕ, zero, suc, Bool, refl, subst, inl, inr}
use Rattle.far_store.specs.Calls.{Call}
use Rattle.workers.specs.Moves.{MoverState}
use Rattle.workers.specs.Turning.{Serves, LooksOn, InTurn, MovesOn}

module _ {X : Type 0} (returns : Bool) (called : X → Call → X → Type 0) (faults : X → ℕ) (count : ℕ) where
  pub stays : (m : MoverState X) → MovesOn returns called faults count m m
  stays m = (0, refl)

  in_turn : (n k : ℕ) (old mid new : MoverState X) → InTurn returns called faults count n old mid → InTurn returns called faults count k mid new
      → MovesOn returns called faults count old new
  in_turn zero k old mid new first then = (k, subst (λ (m : MoverState X). InTurn returns called faults count k m new) first then)
  in_turn (suc n) k old mid new first then = let rest = in_turn n k first.0 mid new first.2 then in (suc rest.0, (first.0, first.1, rest.1))

  -- first these, and then those
  pub goes_on : (old mid new : MoverState X) → MovesOn returns called faults count old mid → MovesOn returns called faults count mid new
      → MovesOn returns called faults count old new
  goes_on old mid new first then = in_turn first.0 then.0 old mid new first.1 then.1

  pub serves : (old new : MoverState X) → Serves returns called faults old new → MovesOn returns called faults count old new
  serves old new s = (1, (new, inl s, refl))

  pub looks_on : (old new : MoverState X) → LooksOn called faults count old new → MovesOn returns called faults count old new
  looks_on old new l = (1, (new, inr l, refl))
