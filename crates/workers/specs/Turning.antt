-- What a mover does in turn: requests that it serves, and looks of its own accord.
use Rattle.std.specs.Prelude.{◌≡◌, ◌⊎◌, ℕ, zero, suc, Bool}
use Rattle.far_store.specs.Calls.{Call}
use Rattle.placement.specs.declared.places.Moved.{Moved}
use Rattle.workers.specs.declared.job.Direction.{Direction}
use Rattle.workers.specs.declared.movers.Looked.{Looked}
use Rattle.workers.specs.Moves.{MoverState, MovesOne, AsksOne, LooksAt, number_after}

-- It serves one request, to move the object of some number in some direction.
pub record Serves {X : Type 0} (returns : Bool) (called : X → Call → X → Type 0) (faults : X → ℕ) (old new : MoverState X) : Type 0 where
  pub number : ℕ
  pub direction : Direction
  pub moved : Moved
  pub moves : MovesOne direction old.view number moved new.view
  pub asks : AsksOne returns called faults direction old number moved new
  pub last : new.last ≡ old.last

-- It looks at the next of so many objects.
pub record LooksOn {X : Type 0} (called : X → Call → X → Type 0) (faults : X → ℕ) (count : ℕ) (old new : MoverState X) : Type 0 where
  pub looked : Looked
  pub looks : LooksAt called faults old looked new
  pub last : new.last ≡ number_after count old.last

-- It does so many of these, one after the other, and nothing else.
abbrev pub InTurn : {X : Type 0} → Bool → (X → Call → X → Type 0) → (X → ℕ) → ℕ → ℕ → MoverState X → MoverState X → Type 0
InTurn returns called faults count zero old new = new ≡ old
InTurn {X} returns called faults count (suc n) old new = (mid : MoverState X) × (Serves returns called faults old mid ⊎ LooksOn called faults count old mid)
    × InTurn returns called faults count n mid new

-- It does some number of these.
abbrev pub MovesOn : {X : Type 0} → Bool → (X → Call → X → Type 0) → (X → ℕ) → ℕ → MoverState X → MoverState X → Type 0
MovesOn returns called faults count old new = (n : ℕ) × InTurn returns called faults count n old new
