-- A store of objects, as its callers see it: the bytes of each object, where it is, and which machines have it in scope.
use Rattle.std.specs.Prelude.{◌≡◌, ℕ, ◌+◌, ◌<◌, ◌≤◌, Bool, false, cond, List, [], ◌∷◌, length, get_or, set, replicate, Option, None}
use Rattle.std.specs.List.{sum_by}
use Rattle.scopes.specs.Windows.{holds, noted, machine_limit, window_count}
use Rattle.far_store.specs.Stores.{capped}
use Rattle.memory.specs.declared.access.Op.{Op}
use Rattle.memory.specs.declared.access.Reach.{Reach}
use Rattle.memory.specs.declared.access.Reach.TheVariants.{Done, Away, Outside}
use Rattle.placement.specs.declared.places.Place.{Place}
use Rattle.placement.specs.declared.places.Place.TheVariants.{Here, Far}
use Rattle.memory.specs.Access.{answer, after}
use Rattle.memory.specs.Memories.Known.{AllBytes}
use Rattle.memory.specs.Memories.{Memories}
use Rattle.memory.specs.Objects.{Reaches, IsLive, AreObjects, bytes_of, with_bytes}

-- a store, as its callers see it: each object's bytes and place, the windows, the budget, and the far store's faults
pub record StoreState : Type 0 where
  -- the bytes of each number, wherever they are
  pub objects : List (List ℕ)
  -- the place of each number
  pub places : List Place
  -- the window of each machine
  pub windows : List (List ℕ)
  -- how many bytes the objects that aren't far may have
  pub budget : ℕ
  -- how many faults the far store had
  pub faults : ℕ

-- What the far store has of an object.
pub record Sent : Type 0 where
  -- for which bytes the parcel stands that is kept of it, if one is
  pub parcel : Option (List ℕ)
  -- these are its bytes as they are, so that they need not be sent again
  pub clean : Bool

-- nothing was sent
abbrev pub unsent : Sent
unsent = record { parcel = None; clean = false }

-- what the far store has of object n
abbrev pub sent_of : List Sent → ℕ → Sent
sent_of sent n = get_or sent n unsent

-- A store, as those see it who look at its far store too.
pub record StoreWithin (X : Type 0) : Type 0 where
  pub state : StoreState
  -- the far store
  pub far : X
  -- what it has of each number
  pub sent : List Sent

-- ---- places

-- the place of object n
abbrev pub place_of : List Place → ℕ → Place
place_of places n = get_or places n Here

-- the store, with object n in this place
abbrev pub with_place : StoreState → ℕ → Place → StoreState
with_place s n p = record s { places = set s.places n p }

-- there is an object of this number, and it is in this place
abbrev pub StandsAt : Place → StoreState → ℕ → Type 0
StandsAt p s n = IsLive s.objects n × (place_of s.places n ≡ p)

-- ---- windows

-- a window stands at this number
abbrev pub HasWindow : ℕ → Type 0
HasWindow who = who ≤ machine_limit

-- the window of a machine
abbrev pub window_of : List (List ℕ) → ℕ → List ℕ
window_of windows who = get_or windows who []

-- the store, with this window as that of the machine
abbrev pub with_window : StoreState → ℕ → List ℕ → StoreState
with_window s who w = record s { windows = set s.windows who w }

-- whether a window holds the number, as 1 or 0
abbrev pub weight : ℕ → List ℕ → ℕ
weight n w = cond (holds n w) 1 0

-- how many windows hold the number
unfoldable pub holders : List (List ℕ) → ℕ → ℕ
holders windows n = sum_by (weight n) windows

-- a machine has the object in scope
abbrev pub IsScoped : StoreState → ℕ → Type 0
IsScoped s n = 0 < holders s.windows n

-- ---- the budget

-- what an object takes of the budget: nothing where it is far
abbrev pub near_length : Place → List ℕ → ℕ
near_length Far bytes = 0
near_length p bytes = length bytes

-- the lengths of all objects that aren't far
abbrev pub near_bytes : List (List ℕ) → List Place → ℕ
near_bytes (o ∷ os) (p ∷ ps) = near_length p o + near_bytes os ps
near_bytes _ _ = 0

-- there is room for so many bytes more
abbrev pub HasRoom : StoreState → ℕ → Type 0
HasRoom s count = near_bytes s.objects s.places + count ≤ s.budget

-- ---- stores

-- a store without objects, with this budget, over a far store that had so many faults
abbrev pub store_start : ℕ → ℕ → StoreState
store_start budget faults = record { objects = [] ∷ []; places = Here ∷ []; windows = replicate window_count []; budget = budget; faults = faults }

-- A store as it always is.
pub record IsStore (s : StoreState) : Type 0 where
  pub objects : AreObjects s.objects
  pub places : length s.places ≡ length s.objects
  pub windows : length s.windows ≡ window_count
  pub room : near_bytes s.objects s.places ≤ s.budget

-- The far store's count of faults rose, or has long been at its greatest.
abbrev pub HasRisen : ℕ → ℕ → Type 0
HasRisen old new = capped (old + 1) ≤ new

-- ---- accesses

-- One access by a machine. Outside exactly where it isn't inside; else away exactly where the object isn't here; else it
-- is done, and noted in the machine's window.
abbrev pub Touches : ℕ → StoreState → ℕ → Op → Reach → StoreState → Type 0
Touches who old n op Outside new = (Reaches old.objects n op → ⊥) × (new ≡ old)
Touches who old n op Away new = Reaches old.objects n op × (place_of old.places n ≡ Here → ⊥) × (new ≡ old)
Touches who old n op (Done x) new = Reaches old.objects n op × (place_of old.places n ≡ Here) × (x ≡ answer op (bytes_of old.objects n))
    × (new ≡ record old {
      objects = with_bytes old.objects n (after op (bytes_of old.objects n));
      windows = set old.windows who (noted n (window_of old.windows who));
    })
Touches who old n op _ new = ⊥

-- a store as the memory of a machine
abbrev pub store_memory : ℕ → Memories StoreState
store_memory who = record {
  reaches = Touches who;
  closes = λ old new. new ≡ with_window old who [];
  length_of = λ s n. length (bytes_of s.objects n);
  knows = λ s. AllBytes s.objects;
  is_worn = λ s n. ⊥;
}
