-- What a far store is asked, and what it answers.
use Rattle.std.specs.Prelude.{◌≡◌, ℕ, Bool, true, false, List, [], ◌∷◌, length, Option, Some, None, Result, Ok, Err}
use Rattle.far_store.specs.declared.fault.StoreFault.{StoreFault}
use Rattle.far_store.specs.declared.fault.StoreFault.TheVariants.{Damaged, Memory, Refused}
use Rattle.far_store.specs.Stores.{Rises}

-- one call, with what came of it; a parcel is told by the bytes for which it stands
pub data Call : Type 0 where
  -- these bytes were put, or that failed
  Put : List ℕ → Option StoreFault → Call
  -- the bytes of a parcel were asked for: those that came, or the fault
  Get : List ℕ → Result (List ℕ) StoreFault → Call
  -- a parcel was forgotten
  Forget : List ℕ → Call

-- These calls, one after the other, and no others, lead from one store to the next. `called` says which store a call leaves.
abbrev pub Calls : {X : Type 0} → (X → Call → X → Type 0) → X → List Call → X → Type 0
Calls called old [] new = new ≡ old
Calls {X} called old (c ∷ cs) new = (mid : X) × called old c mid × Calls called mid cs new

-- ---- a get in vain

-- the bytes for which the parcel stands that is kept
abbrev pub parcel_of : Option (List ℕ) → List ℕ
parcel_of None = []
parcel_of (Some bytes) = bytes

-- why bytes are not taken that were to be so many: the fault that came in their place, or that they are more or fewer
abbrev pub Refuses : ℕ → Result (List ℕ) StoreFault → StoreFault → Type 0
Refuses count (Err fault) f = f ≡ fault
Refuses count (Ok came) f = (length came ≡ count → ⊥) × (f ≡ Damaged)

-- The bytes of the parcel are asked for, once, and what comes is not taken.
pub record AsksInVain {X : Type 0} (called : X → Call → X → Type 0) (old : X) (parcel : Option (List ℕ)) (count : ℕ) (f : StoreFault) (new : X) : Type 0 where
  pub outcome : Result (List ℕ) StoreFault
  pub asked : Calls called old (Get (parcel_of parcel) outcome ∷ []) new
  pub refused : Refuses count outcome f

-- ---- the stores

-- what a call leaves of the store in the agent's own memory, which is seen as its count of faults
abbrev pub own_called : ℕ → Call → ℕ → Type 0
own_called old (Put bytes None) new = new ≡ old
own_called old (Put bytes (Some fault)) new = ⊥
own_called old (Get bytes (Ok came)) new = (came ≡ bytes) × (new ≡ old)
own_called old (Get bytes (Err fault)) new = (fault ≡ Memory) × Rises old new
own_called old (Forget bytes) new = new ≡ old

-- a call that may be the one that fails
abbrev pub is_counted : Call → Bool
is_counted (Forget bytes) = false
is_counted _ = true

-- a call that is refused leaves the store; any other is one of the store within
abbrev pub called_unless : {X : Type 0} → Bool → (X → Call → X → Type 0) → X → Call → X → Type 0
called_unless true called old (Put bytes (Some fault)) new = (fault ≡ Refused) × (new ≡ old)
called_unless true called old (Get bytes (Err fault)) new = (fault ≡ Refused) × (new ≡ old)
called_unless true called old _ new = ⊥
called_unless false called old c new = called old c new
