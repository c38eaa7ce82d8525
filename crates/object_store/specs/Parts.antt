-- What is left of a store that is taken apart.
use Rattle.std.specs.Prelude.{◌≡◌, ℕ, ◌<◌, List, [], ◌∷◌, ◌++◌}
use Rattle.far_store.specs.Calls.{Call}
use Rattle.placement.specs.declared.places.Place.{Place}
use Rattle.placement.specs.declared.places.Place.TheVariants.{Here}
use Rattle.object_store.specs.declared.errors.PartsError.{PartsError}
use Rattle.object_store.specs.declared.errors.PartsError.TheVariants.{NotHere, Memory}
use Rattle.object_store.specs.Bodies.{Kept}
use Rattle.object_store.specs.Stores.{StoreState, Sent, place_of}
use Rattle.object_store.specs.Asking.{forgets}

-- all objects are here
abbrev pub AllHere : List Place → Type 0
AllHere places = (n : ℕ) → place_of places n ≡ Here

-- the same of objects as they are kept
abbrev pub AreHere : List Kept → Type 0
AreHere [] = Unit {0}
AreHere (b ∷ bs) = (b.place ≡ Here) × AreHere bs

-- This object isn't here, and all of lower numbers are.
abbrev pub IsFirstAway : List Place → ℕ → Type 0
IsFirstAway places n = (place_of places n ≡ Here → ⊥) × ((k : ℕ) → k < n → place_of places k ≡ Here)

-- Of the bytes of all numbers, 0 among them, those from number 1 on; and one empty body where no object was made.
abbrev pub bodies_of : List (List ℕ) → List (List ℕ)
bodies_of (none ∷ bytes ∷ more) = bytes ∷ more
bodies_of objects = objects

-- all parcels that are kept are let go of, by rising numbers
abbrev pub forgets_all : List Sent → List Call
forgets_all [] = []
forgets_all (s ∷ ss) = forgets s.parcel ++ forgets_all ss

-- why a store isn't taken apart: the first object that isn't here, or, where all are, that memory ran out
abbrev pub RefusesParts : StoreState → PartsError → Type 0
RefusesParts s (NotHere n) = IsFirstAway s.places n
RefusesParts s Memory = AllHere s.places
