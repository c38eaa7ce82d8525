-- What each call leaves of the store in the library for C.
use Rattle.std.specs.Prelude.{◌≡◌, ℕ, ◌+◌, Bool, false, Some, None, Ok, Err}
use Rattle.far_store.specs.Stores.{capped}
use Rattle.far_store.specs.Calls.{Call}
use Rattle.far_store.specs.Calls.Call.{Put, Get, Forget}
use Rattle.far_store.specs.declared.fault.StoreFault.TheVariants.{Refused}

-- whether the store keeps what is put, and how many faults there were
pub record LibraryState : Type 0 where
  pub keeps : Bool
  pub faults : ℕ

-- a fault more
abbrev pub Counts : LibraryState → LibraryState → Type 0
Counts old new = new ≡ record old { faults = capped (old.faults + 1) }

-- A put is of bytes that are kept or handed out, a get of bytes that are kept or come back.
abbrev pub library_called : LibraryState → Call → LibraryState → Type 0
library_called old (Put bytes None) new = new ≡ old
library_called old (Put bytes (Some fault)) new = (fault ≡ Refused) × (old.keeps ≡ false) × Counts old new
library_called old (Get bytes (Ok came)) new = (came ≡ bytes) × (new ≡ old)
library_called old (Get bytes (Err fault)) new = Counts old new
library_called old (Forget bytes) new = new ≡ old
