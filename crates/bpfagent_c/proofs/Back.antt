-- What the number says where bytes came back.
use Rattle.std.proofs.Common.{◌≡◌, ◌≢◌, ◌⊎◌, ℕ, arith}
use Rattle.far_store.specs.declared.fault.StoreFault.{StoreFault}
use Rattle.far_store.specs.declared.fault.StoreFault.TheVariants.{Damaged}
use Rattle.placement.specs.declared.places.Moved.{Moved}
use Rattle.placement.specs.declared.places.Moved.TheVariants as moved
use Rattle.placement.specs.declared.places.Place.TheVariants as place
use Rattle.bpfagent_c.specs.declared.numbers.TheConstants.{DAMAGED, FAULT_FAR, OK}
use Rattle.bpfagent_c.specs.Codes.{code_of_back, code_of_moved}

number_of_back : (m : Moved) → (code_of_back m ≡ code_of_moved place.Far m)
    ⊎ ((code_of_back m ≡ DAMAGED) × (code_of_moved place.Far m ≡ FAULT_FAR))
number_of_back m = grind arith

-- it is the number of the reply, or that the bytes are others
pub number_back : (m : Moved) (number : ℕ) → number ≡ code_of_back m
    → (number ≡ code_of_moved place.Far m)
    ⊎ ((number ≡ DAMAGED) × (code_of_moved place.Far m ≡ FAULT_FAR))
number_back m number e = rw e (number_of_back m)

pub back_damaged : (m : Moved) → code_of_back m ≡ DAMAGED → m ≡ moved.Fault Damaged
back_damaged m e = grind arith

pub back_lost : (m : Moved) → code_of_back m ≡ FAULT_FAR → (f : StoreFault) × (m ≡ moved.Fault f) × (f ≢ Damaged)
back_lost m e = grind arith

pub back_done : (m : Moved) → code_of_back m ≡ OK → m ≡ moved.Done
back_done m e = grind arith

-- nothing but other bytes has a number of its own
pub back_else : (m : Moved) → m ≢ moved.Fault Damaged → code_of_back m ≡ code_of_moved place.Far m
back_else m others = grind arith
