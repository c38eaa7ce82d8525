-- What is done to an object at once: an access of a machine, or a range that is read or written. When it is inside, what is
-- given back, and the bytes after it.
use Rattle.std.specs.Prelude.{ℕ, ◌+◌, ◌<◌, ◌≤◌, List, length}
use Rattle.memory.specs.declared.deeds.Deed.{Deed}
use Rattle.memory.specs.declared.deeds.Deed.TheVariants.{Accesses, Reads, Writes}
use Rattle.memory.specs.declared.deeds.Given.{Given}
use Rattle.memory.specs.declared.deeds.Given.TheVariants.{Number, Bytes, Nothing}
use Rattle.memory.specs.Access.{IsInside, answer, after, part, replaced}

-- It ends within so many bytes, of which there is one at least.
abbrev pub EndsInside : Deed → ℕ → Type 0
EndsInside (Accesses op) n = IsInside op n
EndsInside (Reads offset count) n = (0 < n) × (offset + count ≤ n)
EndsInside (Writes offset bytes) n = (0 < n) × (offset + length bytes ≤ n)

-- what is given back, where it is done to these bytes
abbrev pub given_by : Deed → List ℕ → Given
given_by (Accesses op) bytes = Number (answer op bytes)
given_by (Reads offset count) bytes = Bytes (part offset count bytes)
given_by (Writes offset new) bytes = Nothing

-- the bytes after it
abbrev pub left_by : Deed → List ℕ → List ℕ
left_by (Accesses op) bytes = after op bytes
left_by (Reads offset count) bytes = bytes
left_by (Writes offset new) bytes = replaced offset new bytes
