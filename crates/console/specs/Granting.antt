-- The words that grant objects to a machine.
use Rattle.std.specs.Prelude.{◌≡◌, ℕ, ◌<◌, ◌≤◌, Bool, true, false, if◌then◌else◌, List, [], ◌∷◌, length}
use Rattle.memory.specs.Objects.{object_limit}
use Rattle.machine.specs.declared.grants.Grant.{Grant}
use Rattle.machine.specs.Grants.{GrantState, all_granted}
use Rattle.console.specs.declared.kind.Limits.{Limits}
use Rattle.console.specs.Tokens.{within, IsNumberWithin}

-- the number of an object that there may be
abbrev pub object_number : Limits
object_number = within 1 object_limit

-- `w` to write an object too, `r` to read it alone
abbrev pub grant_letter : Bool → ℕ
grant_letter writes = if writes then 119 else 114

-- a letter, and behind it the number of the object
abbrev pub IsGrant : List ℕ → Grant → Type 0
IsGrant word grant = (digits : List ℕ) × (word ≡ grant_letter grant.writes ∷ digits) × IsNumberWithin object_number digits grant.number

-- each word is one of the grants, in order
abbrev pub WordsAre : List (List ℕ) → List Grant → Type 0
WordsAre [] [] = Unit {0}
WordsAre (word ∷ words) (grant ∷ grants) = IsGrant word grant × WordsAre words grants
WordsAre _ _ = ⊥

-- the numbers rise, the first from above this one
abbrev pub RiseFrom : ℕ → List Grant → Type 0
RiseFrom n [] = Unit {0}
RiseFrom n (grant ∷ grants) = (n < grant.number) × RiseFrom grant.number grants

-- how many objects are granted one by one at most
abbrev pub grant_limit : ℕ
grant_limit = 16

-- what the words that come last grant: some objects, or all where there may be no words
abbrev pub AreGrants : Bool → List (List ℕ) → GrantState → Type 0
AreGrants false words grants = (words ≡ []) × (grants ≡ all_granted)
AreGrants true words grants = (listed : List Grant) × WordsAre words listed × RiseFrom 0 listed × (length listed ≤ grant_limit)
    × (grants ≡ record { all = false; listed = listed })
