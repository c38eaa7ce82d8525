-- All entries as one list, by stamp, then actor.
use Rattle.std.specs.Prelude.{◌≡◌, ◌⊎◌, ℕ, ◌<◌, ◌≤◌, Bool, true, ◌&&◌, ◌||◌, nat_lt, List, [], ◌∷◌, ◌++◌, cond, ◌==◌, length, slice_set}
use mathlib.Core.Option.{some}
use lib.ListN.{get_elem?}
use Rattle.memory.specs.Deeds.{given_by, left_by}
use Rattle.memory.specs.Objects.{bytes_of}
use Rattle.shared_objects.specs.History.{Has, Rises, Chained, AllInside, Answers, top}
use Rattle.shared_objects.specs.Rule.{HasPart}
use Rattle.shared_objects.specs.declared.view.SharedEntry.{SharedEntry}
use Rattle.shared_objects.specs.declared.view.Mark.{Mark}
use Rattle.shared_objects.specs.declared.view.Mark.TheVariants.{Away, Busy, Worn}
use Rattle.shared_objects.specs.declared.view.Part.{Part}

-- One entry stands before another: by stamp, then actor.
abbrev pub Before : SharedEntry → SharedEntry → Type 0
Before e f = (e.stamp < f.stamp) ⊎ ((e.stamp ≡ f.stamp) × (e.actor < f.actor))

-- Each entry stands before all later ones.
abbrev pub InOrder : List SharedEntry → Type 0
InOrder [] = Unit {0}
InOrder (e ∷ es) = ((f : SharedEntry) → Has es f → Before e f) × InOrder es

-- those that a test picks
abbrev pub pick : (SharedEntry → Bool) → List SharedEntry → List SharedEntry
pick q [] = []
pick q (e ∷ es) = cond (q e) (e ∷ pick q es) (pick q es)

-- the entries of one actor
abbrev pub entries_by : ℕ → List SharedEntry → List SharedEntry
entries_by actor es = pick (λ e. e.actor == actor) es

-- the entries of one object
abbrev pub entries_on : ℕ → List SharedEntry → List SharedEntry
entries_on object es = pick (λ e. e.object == object) es

-- the objects after one entry
abbrev pub objects_after : List (List ℕ) → SharedEntry → List (List ℕ)
objects_after objects e = slice_set objects e.object (left_by e.deed (bytes_of objects e.object))

-- From these objects each entry, in turn, was given what its deed gives, and they leave those objects.
abbrev pub Runs : List (List ℕ) → List SharedEntry → List (List ℕ) → Type 0
Runs objects [] ends = objects ≡ ends
Runs objects (e ∷ es) ends = (e.given ≡ given_by e.deed (bytes_of objects e.object)) × Runs (objects_after objects e) es ends

-- Each part rises and has its actor, and no two parts have one actor.
abbrev pub PartsFit : List Part → Type 0
PartsFit parts = ((p : Part) → Has parts p → Rises 0 p.entries × ((e : SharedEntry) → Has p.entries e → e.actor ≡ p.actor))
    × ((j k : ℕ) (p q : Part) → get_elem? parts j ≡ some p → get_elem? parts k ≡ some q → p.actor ≡ q.actor → j ≡ k)

-- whether an entry stands before another, by stamp, then actor
abbrev pub is_before : SharedEntry → SharedEntry → Bool
is_before e f = nat_lt e.stamp f.stamp || ((e.stamp == f.stamp) && nat_lt e.actor f.actor)

-- an entry put in its place
abbrev pub insert : SharedEntry → List SharedEntry → List SharedEntry
insert e [] = e ∷ []
insert e (f ∷ fs) = cond (is_before e f) (e ∷ f ∷ fs) (f ∷ insert e fs)

-- sorted by stamp, then actor
abbrev pub sorted : List SharedEntry → List SharedEntry
sorted [] = []
sorted (e ∷ es) = insert e (sorted es)

-- the entries of all parts
abbrev pub all_entries : List Part → List SharedEntry
all_entries [] = []
all_entries (p ∷ ps) = p.entries ++ all_entries ps

-- A worn turn found no stamp above the object's greatest.
abbrev pub MarkStands : List SharedEntry → Mark → Type 0
MarkStands one (Away n) = Unit {0}
MarkStands one (Busy n) = Unit {0}
MarkStands one (Worn n found) = found ≤ top 0 (entries_on n one)

-- One list of all entries of these parts, which are of objects that there are. Each part is what its actor has in it; along
-- each object stamps rise, each turn found the stamp before its own, and each deed ends inside. Where far stores give back
-- what was put, run from the opening bytes it gives every answer and these bytes.
pub record OneList (returns : Bool) (opening : List (List ℕ)) (parts : List Part) (ends : List (List ℕ)) : Type 0 where
  pub apart : PartsFit parts
  pub one : List SharedEntry
  pub ordered : InOrder one
  pub only : (e : SharedEntry) → Has one e → HasPart parts e
  pub all : (e : SharedEntry) → HasPart parts e → Has one e
  pub near : (e : SharedEntry) → Has one e → e.object < length opening
  pub chained : (n : ℕ) → n < length opening → Chained 0 (entries_on n one)
  pub inside : (n : ℕ) → n < length opening → AllInside (length (bytes_of opening n)) (entries_on n one)
  pub worn : (p : Part) → Has parts p → (m : Mark) → Has p.marks m → MarkStands one m
  pub answers : returns ≡ true → (n : ℕ) → n < length opening → Answers (bytes_of opening n) (entries_on n one)
  pub runs : returns ≡ true → Runs opening one ends
  pub own : (p : Part) → Has parts p → entries_by p.actor one ≡ p.entries
