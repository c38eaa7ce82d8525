-- For private functions and proofs alone: whether an access can be done.
use Rattle.std.specs.Prelude.{◌≡◌, ℕ, List, Result, Ok, Err}
use Rattle.memory.specs.declared.access.Op.{Op}
use Rattle.placement.specs.declared.places.Place.{Place}
use Rattle.placement.specs.declared.places.Place.TheVariants as place
use Rattle.object_store.specs.declared.errors.Denied.{Denied}
use Rattle.object_store.specs.declared.errors.Denied.TheVariants.{Outside, Away}
use Rattle.memory.specs.Objects.{Reaches, HasRange}
use Rattle.object_store.specs.Stores.{place_of}

-- Whether an access can be done: it isn't inside, or its object is away, or it can.
abbrev pub Stands : List (List ℕ) → List Place → ℕ → Op → Result Unit Denied → Type 0
Stands objects places n op (Err Outside) = Reaches objects n op → ⊥
Stands objects places n op (Err Away) = Reaches objects n op × (place_of places n ≡ place.Here → ⊥)
Stands objects places n op (Ok u) = Reaches objects n op × (place_of places n ≡ place.Here)

-- Whether a range can be reached: it isn't inside, or its object is away, or it can.
abbrev pub StandsRange : List (List ℕ) → List Place → ℕ → ℕ → ℕ → Result Unit Denied → Type 0
StandsRange objects places n offset count (Err Outside) = HasRange objects n offset count → ⊥
StandsRange objects places n offset count (Err Away) = HasRange objects n offset count × (place_of places n ≡ place.Here → ⊥)
StandsRange objects places n offset count (Ok u) = HasRange objects n offset count × (place_of places n ≡ place.Here)
