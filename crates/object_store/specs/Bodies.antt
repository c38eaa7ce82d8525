-- Objects as a store keeps them: more than its callers see of them, and what is always true of it.
use Rattle.std.specs.Prelude.{◌≡◌, ℕ, ◌+◌, ◌-◌, Bool, true, false, cond, List, [], length, map, get_or, set, Option, Some, None, is_some}
use Rattle.placement.specs.declared.places.Place.{Place}
use Rattle.placement.specs.declared.places.Place.TheVariants.{Here, Leaving, Far, Returning}
use Rattle.memory.specs.Objects.{AreObjects}
use Rattle.object_store.specs.Stores.{Sent, holders, near_bytes}
use Rattle.scopes.specs.Windows.{window_count}

-- ---- one object

-- what is kept of one object
pub record Kept : Type 0 where
  -- wherever they are
  pub bytes : List ℕ
  pub place : Place
  -- how many windows hold it
  pub scopes : ℕ
  -- for which bytes its parcel stands, if it keeps one
  pub parcel : Option (List ℕ)
  -- its parcel stands for its bytes, so that it need not be sent again
  pub clean : Bool

-- for which bytes a parcel stands
abbrev pub sent : {P : Type 0} → (P → List ℕ) → Option P → List ℕ
sent stands_for None = []
sent stands_for (Some p) = stands_for p

-- the far store alone has the bytes of an object in this place
abbrev pub is_out : Place → Bool
is_out Here = false
is_out Leaving = false
is_out Far = true
is_out Returning = true

-- the bytes of an object in this place
abbrev pub contents : {P : Type 0} → (P → List ℕ) → Place → List ℕ → Option P → List ℕ
contents stands_for place bytes parcel = cond (is_out place) (sent stands_for parcel) bytes

-- An object as it is always kept, by its fields: how many bytes it has, the bytes that are here, for how many of them memory is
-- taken, its parcel, its place, and the mark that its parcel stands for its bytes (clean).
pub record IsKept {P : Type 0} (stands_for : P
    → List ℕ) (count : ℕ) (bytes : List ℕ) (memory : ℕ) (parcel : Option P) (place : Place) (clean : Bool) : Type 0 where
  -- the length that is kept is that of its bytes, wherever they are
  pub length_is : length (contents stands_for place bytes parcel) ≡ count
  -- a number without bytes keeps no parcel
  pub freed : count ≡ 0 → is_some parcel ≡ false
  -- nor does it take memory
  pub gone : count ≡ 0 → memory ≡ 0
  -- an object that is out takes no memory here
  pub away : is_out place ≡ true → memory ≡ 0
  -- it has a parcel, which alone leads to its bytes
  pub sent_out : is_out place ≡ true → is_some parcel ≡ true
  -- only an object with a parcel is clean
  pub kept_clean : clean ≡ true → is_some parcel ≡ true
  -- and its parcel stands for its bytes as they are
  pub same_clean : clean ≡ true → sent stands_for parcel ≡ contents stands_for place bytes parcel

-- What it is once its bytes came back: the same, and clean, or, where the store doesn't promise that, as many.
abbrev pub ReturnsTo : Bool → Kept → Kept → Type 0
ReturnsTo true old new = new ≡ record old { place = Here; clean = true }
ReturnsTo false old new = (length new.bytes ≡ length old.bytes) × (new ≡ record old { bytes = new.bytes; place = Here; clean = false })

-- its bytes, wherever they are
abbrev pub bytes_in : Kept → List ℕ
bytes_in k = k.bytes

-- its place
abbrev pub place_in : Kept → Place
place_in k = k.place

-- how many windows hold it
abbrev pub scopes_in : Kept → ℕ
scopes_in k = k.scopes

-- what the far store has of it
abbrev pub sent_in : Kept → Sent
sent_in k = record { parcel = k.parcel; clean = k.clean }

-- So many windows hold the objects, and nothing else has changed.
pub record IsCounted (old : List Kept) (held : List ℕ) (new : List Kept) : Type 0 where
  pub counts : map scopes_in new ≡ held
  pub bytes : map bytes_in new ≡ map bytes_in old
  pub places : map place_in new ≡ map place_in old
  pub sent : map sent_in new ≡ map sent_in old

-- ---- counts

-- The count of each object is the number of windows that hold it.
pub record CountsHold (counts : List ℕ) (windows : List (List ℕ)) : Type 0 where
  pub each : (n : ℕ) → get_or counts n 0 ≡ holders windows n

-- a window less, where one number is pushed out of it
abbrev pub lessened : Option ℕ → List ℕ → List ℕ
lessened None counts = counts
lessened (Some n) counts = set counts n (get_or counts n 0 - 1)

-- a window more
abbrev pub grown : ℕ → List ℕ → List ℕ
grown n counts = set counts n (get_or counts n 0 + 1)

-- ---- a store

-- A store as it is always kept, with so many bytes left of its budget.
pub record IsKeptStore (bodies : List Kept) (windows : List (List ℕ)) (budget spare : ℕ) : Type 0 where
  -- number 0 is no object, and neither the count nor a length is above its limit
  pub objects : AreObjects (map bytes_in bodies)
  -- the count of each object is that of the windows that hold it
  pub counts : CountsHold (map scopes_in bodies) windows
  -- a window for each machine, and one at number 0
  pub windows_are : length windows ≡ window_count
  -- what is spare, with the bytes of all objects that aren't far, is the budget
  pub budget_is : spare + near_bytes (map bytes_in bodies) (map place_in bodies) ≡ budget
