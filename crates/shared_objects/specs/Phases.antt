-- What the mover keeps beside its seat.
use Rattle.std.specs.Prelude.{◌≡◌, ℕ, ◌+◌, ◌<◌, true, List, [], ◌∷◌, length, cond, ◌==◌, None}
use Rattle.memory.specs.Objects.{bytes_of}
use Rattle.shared_objects.specs.declared.view.View.{View}
use Rattle.shared_objects.specs.declared.view.Whereabouts.{Whereabouts}
use Rattle.shared_objects.specs.declared.view.Whereabouts.TheVariants as places
use Rattle.shared_objects.specs.declared.seats.Phase.{Phase}
use Rattle.shared_objects.specs.declared.seats.Phase.TheVariants as phases

-- the phase of an object in this place
abbrev pub phase_of : Whereabouts → Phase
phase_of places.Here = phases.In
phase_of (places.Moving bytes) = phases.Moving
phase_of (places.Far bytes) = phases.Far

-- the place of the number in the list, or its length
abbrev pub place_in : ℕ → List ℕ → ℕ
place_in n [] = 0
place_in n (x ∷ xs) = cond (x == n) 0 (place_in n xs + 1)

-- There is an object of this number: a number without bytes is none.
abbrev pub IsObject : List (List ℕ) → ℕ → Type 0
IsObject opening n = 0 < length (bytes_of opening n)

-- The seat that makes the others: it holds no turn and has no entry and no scope.
abbrev pub Makes : View → Type 0
Makes v = (0 < v.made) × (v.live ≡ true) × (v.turn ≡ None) × (v.entries ≡ []) × (v.scopes ≡ []) × (v.passing ≡ [])
