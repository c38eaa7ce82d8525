-- Memory, as a machine sees it.
use Rattle.std.specs.Prelude.{◌≡◌, ℕ, List, [], ◌∷◌, ◌++◌, length}
use Rattle.memory.specs.declared.access.Op.{Op}
use Rattle.memory.specs.declared.access.Reach.{Reach}
use Rattle.memory.specs.declared.access.Reach.TheVariants.{Done, Outside, Worn}
use Rattle.memory.specs.declared.deeds.Deed.TheVariants.{Accesses}
use Rattle.memory.specs.declared.deeds.Given.TheVariants.{Number}
use Rattle.memory.specs.declared.deeds.Entry.{Entry}
use Rattle.memory.specs.Access.{IsInside, answer}
use Rattle.memory.specs.Objects.{DoesAll, bytes_of}

-- What the user of a memory knows of the objects: all their bytes, where nobody else changes them; else what it did to them
-- itself, in order.
pub data Known : Type 0 where
  AllBytes : List (List ℕ) → Known
  OwnEntries : List Entry → Known

-- it did these entries, and nothing else
abbrev pub Adds : Known → List Entry → Known → Type 0
Adds (AllBytes old) es (AllBytes new) = DoesAll old es new
Adds (OwnEntries old) es (OwnEntries new) = new ≡ old ++ es
Adds _ es _ = ⊥

-- an object has so many bytes, as far as they are known
abbrev pub KnowsLength : Known → ℕ → ℕ → Type 0
KnowsLength (AllBytes objects) n count = count ≡ length (bytes_of objects n)
KnowsLength (OwnEntries es) n count = Unit {0}

-- What may be done with a memory, as relations of it before and after, and what its user knows of the objects.
pub record Memories (M : Type 0) : Type 1 where
  -- one access: before, number, access, answer, after
  pub reaches : M → ℕ → Op → Reach → M → Type 0
  -- all scopes are closed
  pub closes : M → M → Type 0
  -- how many bytes an object has
  pub length_of : M → ℕ → ℕ
  -- what is known of the objects
  pub knows : M → Known
  -- the stamps of an object were found to have run out
  pub is_worn : M → ℕ → Type 0

-- Between two states of a memory its user did these entries to the objects, and nothing else. No length changes, and what is
-- worn stays so.
pub record Did {M : Type 0} (mem : Memories M) (old : M) (es : List Entry) (new : M) : Type 0 where
  pub adds : Adds (mem.knows old) es (mem.knows new)
  pub lengths : (n : ℕ) → mem.length_of new n ≡ mem.length_of old n
  pub worn : (n : ℕ) → mem.is_worn old n → mem.is_worn new n

-- what an access that was answered so adds to the entries: itself, where it was done
abbrev pub entries_added : ℕ → Op → Reach → List Entry
entries_added n op (Done x) = record { number = n; deed = Accesses op; given = Number x } ∷ []
entries_added n op _ = []

-- What every memory promises of the answer to an access to so many bytes: Outside exactly where it isn't inside, done only
-- with the answer of the access on some bytes, and worn only where the object was found so.
abbrev pub Promises : ℕ → Op → Reach → Type 0 → Type 0
Promises n op Outside worn = IsInside op n → ⊥
Promises n op (Done x) worn = IsInside op n × ((bytes : List ℕ) × (length bytes ≡ n) × (x ≡ answer op bytes))
Promises n op Worn worn = IsInside op n × worn
Promises n op _ worn = IsInside op n

-- A memory keeps the promises. An access that is done does this access to the objects, with this answer; one that is answered
-- otherwise does nothing to them, nor does closing scopes. Lengths are those of the bytes, where these are known.
pub record KeepsPromises {M : Type 0} (mem : Memories M) : Type 0 where
  pub answers : (old new : M) (n : ℕ) (op : Op) (r : Reach) → mem.reaches old n op r new → Promises (mem.length_of old n) op r (mem.is_worn new n)
  pub reaches : (old new : M) (n : ℕ) (op : Op) (r : Reach) → mem.reaches old n op r new → Did mem old (entries_added n op r) new
  pub closes : (old new : M) → mem.closes old new → Did mem old [] new
  pub lengths : (m : M) (n : ℕ) → KnowsLength (mem.knows m) n (mem.length_of m n)
