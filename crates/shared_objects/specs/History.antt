-- A history: entries, when they are legal, and the bytes that they leave.
use Rattle.std.specs.Prelude.{◌≡◌, ℕ, ◌<◌, List, [], ◌∷◌}
use mathlib.Core.Option.{some}
use lib.ListN.{get_elem?}
use Rattle.memory.specs.declared.deeds.Deed.{Deed}
use Rattle.memory.specs.declared.deeds.Given.{Given}
use Rattle.memory.specs.Deeds.{EndsInside, given_by, left_by}
use Rattle.shared_objects.specs.declared.view.SharedEntry.{SharedEntry}

-- what an actor did to an object at a stamp, where its turn found another, and what it was given
abbrev pub entry : ℕ → ℕ → ℕ → ℕ → Deed → Given → SharedEntry
entry actor stamp found object deed given = record { actor = actor; stamp = stamp; found = found; object = object; deed = deed; given = given }

-- x stands somewhere in the list
abbrev pub Has : {A : Type 0} → List A → A → Type 0
Has xs x = (k : ℕ) × (get_elem? xs k ≡ some x)

-- the stamps rise, from above this one
abbrev pub Rises : ℕ → List SharedEntry → Type 0
Rises floor [] = Unit {0}
Rises floor (e ∷ es) = (floor < e.stamp) × Rises e.stamp es

-- the stamps rise, from above this one, and each turn found the stamp before its own
abbrev pub Chained : ℕ → List SharedEntry → Type 0
Chained floor [] = Unit {0}
Chained floor (e ∷ es) = (e.found ≡ floor) × (floor < e.stamp) × Chained e.stamp es

-- the last stamp, or this one where there is no entry
abbrev pub top : ℕ → List SharedEntry → ℕ
top floor [] = floor
top floor (e ∷ es) = top e.stamp es

-- each entry ends within so many bytes
abbrev pub AllInside : ℕ → List SharedEntry → Type 0
AllInside count [] = Unit {0}
AllInside count (e ∷ es) = EndsInside e.deed count × AllInside count es

-- the bytes after all entries
abbrev pub fold : List ℕ → List SharedEntry → List ℕ
fold bytes [] = bytes
fold bytes (e ∷ es) = fold (left_by e.deed bytes) es

-- each entry was given what its deed gives there
abbrev pub Answers : List ℕ → List SharedEntry → Type 0
Answers bytes [] = Unit {0}
Answers bytes (e ∷ es) = (e.given ≡ given_by e.deed bytes) × Answers (left_by e.deed bytes) es
