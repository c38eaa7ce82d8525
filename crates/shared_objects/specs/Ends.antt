-- What is shown of each object when the table has closed.
use Rattle.std.specs.Prelude.{◌≡◌, ℕ, ◌<◌, Bool, List, [], ◌∷◌, length}
use mathlib.Core.Option.{some}
use lib.ListN.{get_elem?}
use Rattle.memory.specs.Objects.{bytes_of}
use Rattle.shared_objects.specs.Rule.{place_of}
use Rattle.shared_objects.specs.One.{OneList}
use Rattle.shared_objects.specs.declared.body.Body.{Body}
use Rattle.shared_objects.specs.declared.view.Part.{Part}
use Rattle.shared_objects.specs.declared.view.Whereabouts.{Whereabouts}
use Rattle.shared_objects.specs.declared.view.Whereabouts.TheVariants as places
use Rattle.shared_objects.specs.declared.view.View.{View}
use Rattle.shared_objects.specs.declared.seats.Phase.{Phase}
use Rattle.shared_objects.specs.declared.seats.Phase.TheVariants as phases
use Rattle.shared_objects.specs.declared.closing.ObjectEnd.{ObjectEnd}
use Rattle.shared_objects.specs.declared.closing.ObjectEnd.TheVariants.{Here, Out}

-- what is shown of an object in this phase, with this body in its slot
abbrev pub shown : Phase → Body → ObjectEnd
shown phases.In body = Here body.bytes
shown phases.Moving body = Out
shown phases.Far body = Out

-- what is shown of all objects
abbrev pub all_shown : List Phase → List Body → List ObjectEnd
all_shown [] bodies = []
all_shown (p ∷ ps) [] = []
all_shown (p ∷ ps) (b ∷ bs) = shown p b ∷ all_shown ps bs

-- An object at this place, whose bytes are these, is shown so: out exactly where it was taken, else here with its bytes.
abbrev pub Shows : Whereabouts → List ℕ → ObjectEnd → Type 0
Shows places.Here bytes (Here found) = found.items ≡ bytes
Shows places.Here bytes Out = ⊥
Shows (places.Moving was) bytes (Here found) = ⊥
Shows (places.Moving was) bytes Out = was ≡ bytes
Shows (places.Far was) bytes (Here found) = ⊥
Shows (places.Far was) bytes Out = was ≡ bytes

-- What the table closes with, by the mover's view.
pub record Closes (returns : Bool) (opening : List (List ℕ)) (v : View) (parts : List Part) (ended : List ObjectEnd) : Type 0 where
  -- the bytes of each object
  pub ends : List (List ℕ)
  pub long : (length ended ≡ length opening) × (length ends ≡ length opening)
  pub lengths : (n : ℕ) → n < length opening → length (bytes_of ends n) ≡ length (bytes_of opening n)
  pub shows : (n : ℕ) (e : ObjectEnd) → get_elem? ended n ≡ some e → Shows (place_of v n) (bytes_of ends n) e
  pub list : OneList returns opening parts ends
