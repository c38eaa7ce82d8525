-- Which objects a machine may reach.
use Rattle.std.specs.Prelude.{ℕ, nat_eq, nat_le, Bool, true, false, not, ◌||◌, ◌&&◌, List, []}
use Rattle.std.specs.List.{list_any}
use Rattle.memory.specs.Objects.{object_limit}
use Rattle.memory.specs.declared.access.Action.{Action}
use Rattle.memory.specs.declared.access.Action.TheVariants.{Load, Store, Atomic}
use Rattle.machine.specs.declared.grants.Grant.{Grant}

-- all objects, for reading and writing, or those that are listed
pub record GrantState : Type 0 where
  pub all : Bool
  pub listed : List Grant

-- every object is granted for writing
abbrev pub all_granted : GrantState
all_granted = record { all = true; listed = [] }

-- the number may be that of an object
abbrev pub is_object_number : ℕ → Bool
is_object_number n = nat_le 1 n && nat_le n object_limit

-- an object that is granted, for writing too where that is asked
abbrev pub is_listed : Bool → ℕ → Grant → Bool
is_listed writes n g = nat_eq g.number n && (g.writes || not writes)

-- The machine may read the object of the number, or write it too. A number that is no object's needs no grant.
abbrev pub is_granted : GrantState → Bool → ℕ → Bool
is_granted g writes n = not (is_object_number n) || (g.all || list_any (is_listed writes n) g.listed)

-- an access that may write needs to be granted for writing, a compare-exchange too
abbrev pub is_writing : Action → Bool
is_writing (Load size) = false
is_writing (Store size value) = true
is_writing (Atomic width op src r0) = true
