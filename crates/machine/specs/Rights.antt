-- For private functions and proofs alone: the right that grants give on each object, as a table.
use Rattle.std.specs.Prelude.{◌≡◌, ◌≤◌, ℕ, Bool, true, false, not, ◌||◌, List, get_or, replicate}
use Rattle.memory.specs.Objects.{object_limit}
use Rattle.machine.specs.declared.grants.Grant.{Grant}
use Rattle.machine.specs.declared.rights.Right.{Right}
use Rattle.machine.specs.declared.rights.Right.TheVariants.{Nothing, Reads, Writes}
use Rattle.machine.specs.Grants.{GrantState, is_granted, is_listed}

-- a right is enough to read, or to write where that is asked
abbrev pub suffices : Right → Bool → Bool
suffices Nothing writes = false
suffices Reads writes = not writes
suffices Writes writes = true

-- a right with a grant of the same object, for writing or not
abbrev pub joined : Right → Bool → Right
joined right true = Writes
joined Nothing false = Reads
joined Reads false = Reads
joined Writes false = Writes

-- the same right to each number from 0 to the greatest of an object
unfoldable pub full_of : Right → List Right
full_of right = replicate 1025 right

-- Of each number up to the greatest of an object the table says what the grants say.
abbrev pub IsTableOf : GrantState → List Right → Type 0
IsTableOf g table = (n : ℕ) → n ≤ object_limit → (writes : Bool) → suffices (get_or table n Nothing) writes ≡ is_granted g writes n

-- By the table each object up to that number may be read and written.
abbrev pub IsOpenTable : List Right → ℕ → Type 0
IsOpenTable table last = (n : ℕ) → n ≤ last → (writes : Bool) → suffices (get_or table n Nothing) writes ≡ true

-- Each object up to that number may be read and written.
abbrev pub IsOpen : GrantState → ℕ → Type 0
IsOpen g last = (last ≤ object_limit) × ((n : ℕ) → n ≤ last → (writes : Bool) → is_granted g writes n ≡ true)

-- That is the greatest such number.
abbrev pub IsLastOpen : GrantState → ℕ → Type 0
IsLastOpen g last = IsOpen g last × ((n : ℕ) → IsOpen g n → n ≤ last)

-- The new table allows what the old one allowed, and what the grant allows, and no more.
abbrev pub HasMore : List Right → Grant → List Right → Type 0
HasMore old g new = (n : ℕ) → n ≤ object_limit → (writes : Bool)
    → suffices (get_or new n Nothing) writes ≡ is_listed writes n g || suffices (get_or old n Nothing) writes
