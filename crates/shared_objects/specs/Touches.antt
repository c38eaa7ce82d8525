-- What an access of an actor does: its view and stamp before, the object, the deed, and the view and stamp after. All else of
-- the view stays, the actor among it.
use Rattle.std.specs.Prelude.{◌≡◌, ℕ, ◌+◌, ◌^◌, ◌<◌, ◌≤◌, max, List, length, Result, Ok, Err}
use Rattle.memory.specs.declared.access.Op.{Op}
use Rattle.memory.specs.declared.access.Reach.{Reach}
use Rattle.memory.specs.declared.access.Reach.TheVariants as reach
use Rattle.memory.specs.declared.deeds.Deed.{Deed}
use Rattle.memory.specs.declared.deeds.Deed.TheVariants.{Accesses, Reads, Writes}
use Rattle.memory.specs.declared.deeds.Given.{Given}
use Rattle.memory.specs.declared.deeds.Given.TheVariants.{Number, Bytes, Nothing}
use Rattle.memory.specs.Deeds.{EndsInside, given_by}
use Rattle.memory.specs.Objects.{bytes_of}
use Rattle.shared_objects.specs.History.{entry}
use Rattle.shared_objects.specs.Kinds.{looking, marked, recorded, worn_out}
use Rattle.shared_objects.specs.declared.view.View.{View}
use Rattle.shared_objects.specs.declared.view.Mark.TheVariants.{Away, Busy}
use Rattle.shared_objects.specs.declared.errors.Denied.{Denied}
use Rattle.shared_objects.specs.declared.errors.Denied.TheVariants as denied
use Rattle.shared_objects.specs.declared.errors.GetError.{GetError}
use Rattle.shared_objects.specs.declared.errors.GetError.TheVariants as get_error

-- The deed is inside the object's bytes.
abbrev pub IsInside : View → ℕ → Deed → Type 0
IsInside v n deed = EndsInside deed (length (bytes_of v.opening n))

-- It is done, with one entry more.
pub record Does (v : View) (before n : ℕ) (deed : Deed) (given : Given) (w : View) (stamp : ℕ) : Type 0 where
  pub inside : IsInside v n deed
  -- it was given what the deed gives on these bytes, which are as long as the object
  pub bytes : List ℕ
  pub long : length bytes ≡ length (bytes_of v.opening n)
  pub given_is : given ≡ given_by deed bytes
  -- the stamp is one above the greater of the seat's and the one that its turn found
  pub found : ℕ
  pub stamp_is : stamp ≡ max before found + 1
  pub below : stamp < 2 ^ 48
  -- the entry is of this deed and this answer
  pub view_is : w ≡ recorded (entry v.actor stamp found n deed given) (looking n v)

-- The object was found away.
abbrev pub FindsAway : View → ℕ → ℕ → Deed → View → ℕ → Type 0
FindsAway v before n deed w stamp = IsInside v n deed × (stamp ≡ before) × (w ≡ marked (Away n) v)

-- Another had the turn.
abbrev pub FindsBusy : View → ℕ → ℕ → Deed → View → ℕ → Type 0
FindsBusy v before n deed w stamp = IsInside v n deed × (stamp ≡ before) × (w ≡ marked (Busy n) (looking n v))

-- The stamps have run out.
abbrev pub FindsWorn : View → ℕ → ℕ → Deed → View → ℕ → Type 0
FindsWorn v before n deed w stamp = IsInside v n deed × (stamp ≡ before)
    × ((found : ℕ) × (2 ^ 48 ≤ max before found + 1) × (w ≡ worn_out n found (looking n v)))

-- It isn't inside, and nothing changed. No step is made; this can't be said here, since steps that undo one another, as a scope
-- that is opened and closed again, leave the same view.
abbrev pub FindsOutside : View → ℕ → ℕ → Deed → View → ℕ → Type 0
FindsOutside v before n deed w stamp = (IsInside v n deed → ⊥) × (stamp ≡ before) × (w ≡ v)

-- an access of a machine
abbrev pub Touches : View → ℕ → ℕ → Op → Reach → View → ℕ → Type 0
Touches v before n op (reach.Done x) w stamp = Does v before n (Accesses op) (Number x) w stamp
Touches v before n op reach.Away w stamp = FindsAway v before n (Accesses op) w stamp
Touches v before n op reach.Busy w stamp = FindsBusy v before n (Accesses op) w stamp
Touches v before n op reach.Outside w stamp = FindsOutside v before n (Accesses op) w stamp
Touches v before n op reach.Worn w stamp = FindsWorn v before n (Accesses op) w stamp

-- what a machine is answered where its access is denied
abbrev pub reach_of : Denied → Reach
reach_of denied.Outside = reach.Outside
reach_of denied.Away = reach.Away
reach_of denied.Busy = reach.Busy
reach_of denied.Worn = reach.Worn

-- why a deed is denied
abbrev pub Denies : View → ℕ → ℕ → Deed → Denied → View → ℕ → Type 0
Denies v before n deed denied.Outside w stamp = FindsOutside v before n deed w stamp
Denies v before n deed denied.Away w stamp = FindsAway v before n deed w stamp
Denies v before n deed denied.Busy w stamp = FindsBusy v before n deed w stamp
Denies v before n deed denied.Worn w stamp = FindsWorn v before n deed w stamp

-- a range that is written
abbrev pub PutsRange : View → ℕ → ℕ → ℕ → List ℕ → Result Unit Denied → View → ℕ → Type 0
PutsRange v before n offset bytes (Ok u) w stamp = Does v before n (Writes offset bytes) Nothing w stamp
PutsRange v before n offset bytes (Err why) w stamp = Denies v before n (Writes offset bytes) why w stamp

-- There was no memory for the bytes of a range that is inside, and nothing changed.
abbrev pub LacksMemory : View → ℕ → ℕ → Deed → View → ℕ → Type 0
LacksMemory v before n deed w stamp = IsInside v n deed × (stamp ≡ before) × (w ≡ v)

-- a range that is read
abbrev pub GetsRange : View → ℕ → ℕ → ℕ → ℕ → Result (List ℕ) GetError → View → ℕ → Type 0
GetsRange v before n offset count (Ok bytes) w stamp = Does v before n (Reads offset count) (Bytes bytes) w stamp
GetsRange v before n offset count (Err (get_error.Denied why)) w stamp = Denies v before n (Reads offset count) why w stamp
GetsRange v before n offset count (Err get_error.Memory) w stamp = LacksMemory v before n (Reads offset count) w stamp
