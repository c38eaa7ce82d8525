-- Objects by number: the list of their bytes. A number without bytes is no object; number 0 is none ever.
use Rattle.std.specs.Prelude.{◌≡◌, ℕ, ◌+◌, ◌<◌, ◌≤◌, List, [], ◌∷◌, length, get_or, set}
use Rattle.memory.specs.declared.access.Op.{Op}
use Rattle.memory.specs.declared.deeds.Deed.TheVariants.{Reads, Writes}
use Rattle.memory.specs.declared.deeds.Entry.{Entry}
use Rattle.memory.specs.Access.{IsInside, part}
use Rattle.memory.specs.Deeds.{EndsInside, given_by, left_by}

-- the bytes of object n
abbrev pub bytes_of : List (List ℕ) → ℕ → List ℕ
bytes_of objects n = get_or objects n []

-- the objects, with these bytes as object n
abbrev pub with_bytes : List (List ℕ) → ℕ → List ℕ → List (List ℕ)
with_bytes objects n bytes = set objects n bytes

-- ---- what is done to them

-- the access is inside the object's bytes
abbrev pub Reaches : List (List ℕ) → ℕ → Op → Type 0
Reaches objects n op = IsInside op (length (bytes_of objects n))

-- One entry is done: inside the object's bytes, with what is given back for it, and to no other object.
pub record Does (old : List (List ℕ)) (e : Entry) (new : List (List ℕ)) : Type 0 where
  pub inside : EndsInside e.deed (length (bytes_of old e.number))
  pub gives : e.given ≡ given_by e.deed (bytes_of old e.number)
  pub leaves : new ≡ with_bytes old e.number (left_by e.deed (bytes_of old e.number))

-- entries are done one after the other
abbrev pub DoesAll : List (List ℕ) → List Entry → List (List ℕ) → Type 0
DoesAll old [] new = new ≡ old
DoesAll old (e ∷ es) new = (mid : List (List ℕ)) × Does old e mid × DoesAll mid es new

-- ---- single objects and their ranges

-- there is an object of this number
abbrev pub IsLive : List (List ℕ) → ℕ → Type 0
IsLive objects n = 0 < length (bytes_of objects n)

-- there is an object of this number, and the range ends within its bytes
abbrev pub HasRange : List (List ℕ) → ℕ → ℕ → ℕ → Type 0
HasRange objects n offset count = EndsInside (Reads offset count) (length (bytes_of objects n))

-- so many bytes of the object, from an offset on
abbrev pub range_of : List (List ℕ) → ℕ → ℕ → ℕ → List ℕ
range_of objects n offset count = part offset count (bytes_of objects n)

-- the objects, with other bytes over a range
abbrev pub with_range : List (List ℕ) → ℕ → ℕ → List ℕ → List (List ℕ)
with_range objects n offset bytes = with_bytes objects n (left_by (Writes offset bytes) (bytes_of objects n))

-- ---- limits

-- how many objects are ever made
abbrev pub object_limit : ℕ
object_limit = 1024

-- how many numbers there are: those of the objects, and 0
abbrev pub number_count : ℕ
number_count = object_limit + 1

-- how many bytes an object has at most
abbrev pub object_bytes : ℕ
object_bytes = 65536

-- As many were made as there may be, freed ones included. The list has a place for number 0 beside them.
abbrev pub IsFull : List (List ℕ) → Type 0
IsFull objects = object_limit < length objects

-- Objects as a store has them.
pub record AreObjects (objects : List (List ℕ)) : Type 0 where
  pub none_at_zero : bytes_of objects 0 ≡ []
  pub place_of_zero : 0 < length objects
  pub limit : length objects ≤ number_count
  pub sizes : (n : ℕ) → length (bytes_of objects n) ≤ object_bytes
