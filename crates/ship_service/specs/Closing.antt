-- What the service leaves when it closes.
use Rattle.std.specs.Prelude.{◌≡◌, ℕ, ◌<◌, ◌==◌, if◌then◌else◌, Bool, true, List, ◌++◌, length, map, slice_get, slice_index_or, Option, Some, None, Result, Vec}
use Rattle.std.specs.Prelude.{IfOk}
use Rattle.std.specs.declared.alloc.Global.{Global}
use Rattle.atomic_table.specs.Seated.{TableId}
use Rattle.far_store.specs.declared.fault.StoreFault.{StoreFault}
use Rattle.memory.specs.Objects.{bytes_of}
use Rattle.scopes.specs.Windows.{machine_limit}
use Rattle.shared_objects.specs.History.{Has}
use Rattle.shared_objects.specs.One.{OneList, entries_by}
use Rattle.shared_objects.specs.Parts.{part_of}
use Rattle.shared_objects.specs.Rule.{place_of}
use Rattle.shared_objects.specs.SeatMemories.{own_entry}
use Rattle.shared_objects.specs.declared.closing.ObjectEnd.{ObjectEnd}
use Rattle.shared_objects.specs.declared.closing.ObjectEnd.TheVariants as ended
use Rattle.shared_objects.specs.declared.seats.ActorSeat.{ActorSeat}
use Rattle.shared_objects.specs.declared.view.SharedEntry.{SharedEntry}
use Rattle.shared_objects.specs.declared.view.Part.{Part}
use Rattle.shared_objects.specs.declared.view.Whereabouts.{Whereabouts}
use Rattle.shared_objects.specs.declared.view.Whereabouts.TheVariants.{Here, Far}
use Rattle.machine.specs.MachineState.{MachineState}
use Rattle.machine.specs.Replay.{IsReplay}
use Rattle.workers.specs.Cells.{RunningState, StartedAs, lengths_of, is_marked_worn}
use Rattle.workers.specs.Closing.{WereCells}
use Rattle.workers.specs.Moves.{MoverState}
use Rattle.workers.specs.declared.closing.ClosedCell.{ClosedCell}

-- What is left, as callers see it.
pub record ClosedState (X : Type 0) : Type 0 where
  -- by number, how many bytes the object has: a number that is no object's has none
  pub lengths : List ℕ
  -- by number, whether the object is here, with its bytes, or out
  pub objects : List ObjectEnd
  -- number and machine of each cell
  pub cells : List ClosedCell
  -- the far store
  pub store : X
  -- by number, for which bytes the parcel stands that is kept of the object, if one is
  pub parcels : List (Option (List ℕ))

-- The lengths are those of the opening bytes, which never change.
abbrev pub AreLengths : List (List ℕ) → List ℕ → Type 0
AreLengths opening lengths = (length lengths ≡ length opening) × ((n : ℕ) → n < length opening → slice_index_or lengths n 0 ≡ length (bytes_of opening n))

-- How an object closes, by its place for the mover: with these bytes, shown so, and with a parcel that stands for these bytes, or none.
pub data EndsAs (place : Whereabouts) (bytes : List ℕ) (shown : ObjectEnd) (parcel : Option (List ℕ)) : Type 0 where
  -- it is here, with its bytes, and no parcel is kept
  AtHome : place ≡ Here → (found : Vec ℕ Global) → shown ≡ ended.Here found → found.items ≡ bytes → parcel ≡ None → EndsAs place bytes shown parcel
  -- it is far, and shown as out; the parcel stands for its bytes
  Away : place ≡ Far bytes → shown ≡ ended.Out → parcel ≡ Some bytes → EndsAs place bytes shown parcel

-- The object of a number, as it closes. None is on its way.
pub record ObjectCloses {X : Type 0} (opening : List (List ℕ)) (mover : MoverState X) (ends : List (List ℕ)) (state : ClosedState X) (n : ℕ) : Type 0 where
  -- it has as many bytes as it was opened with
  pub long : length (bytes_of ends n) ≡ length (bytes_of opening n)
  pub length_is : slice_index_or state.lengths n 0 ≡ length (bytes_of opening n)
  pub shown : ObjectEnd
  pub shown_is : slice_get state.objects n ≡ Some shown
  pub ends_as : EndsAs (place_of mover.view n) (bytes_of ends n) shown (slice_index_or state.parcels n None)

-- There are as many numbers as there were at the opening.
pub record KeepsNumbers {X : Type 0} (opening ends : List (List ℕ)) (state : ClosedState X) : Type 0 where
  pub ends_are : length ends ≡ length opening
  pub lengths_are : length state.lengths ≡ length opening
  pub objects_are : length state.objects ≡ length opening
  pub parcels_are : length state.parcels ≡ length opening

-- What the service of the table of this name leaves, by what its mover and the seats of its connections were then.
pub record Settles {X : Type 0} (returns : Bool) (table : TableId) (opening : List (List ℕ)) (starts : List MachineState) (mover : MoverState X)
    (connections : List ActorSeat) (state : ClosedState X) : Type 0 where
  -- the seats of the cells, one for each machine that there may be
  pub seats : List ActorSeat
  pub all : length seats ≡ machine_limit
  -- each machine is the replay of its seat's entries from its start
  pub machines : WereCells table opening starts seats state.cells
  -- the bytes with which each object closes, by number
  pub ends : List (List ℕ)
  pub numbers : KeepsNumbers opening ends state
  pub objects : (n : ℕ) → n < length opening → ObjectCloses opening mover ends state n
  -- all entries of all seats, those of the machines first, are one list, in which each actor has its own; by it each object has
  -- these bytes
  pub list : OneList returns opening (map part_of (seats ++ connections)) ends
  pub store : state.store ≡ mover.store

-- ---- what is read of it

-- the object of a number: a number without bytes is none
abbrev pub live_object : {X : Type 0} → ClosedState X → ℕ → Option ObjectEnd
live_object state n = if slice_index_or state.lengths n 0 == 0 then None else slice_get state.objects n

-- What the far store gives for a parcel. Where it gives back what was put, bytes that come are those for which the parcel stands.
abbrev pub GivesParcel : Bool → Option (List ℕ) → Result (Vec ℕ Global) StoreFault → Type 0
GivesParcel returns parcel given = (bytes : List ℕ) × (parcel ≡ Some bytes) × IfOk given (λ came. returns ≡ true → came.items ≡ bytes)

-- ---- laws

-- A machine is the replay, from its start, of what its actor has in the list: that is one of these parts, whose marks say which
-- objects' stamps had run out.
pub record ReplaysShare (opening : List (List ℕ)) (starts : List MachineState) (parts : List Part) (one : List SharedEntry) (number : ℕ)
    (r : RunningState) : Type 0 where
  pub share : Part
  pub there : Has parts share
  pub actor : share.actor ≡ number
  pub entries : entries_by number one ≡ share.entries
  pub start : MachineState
  pub started : StartedAs starts number r.shipped start
  pub replay : IsReplay (lengths_of opening) (is_marked_worn share.marks) start (map own_entry share.entries) r.debuggee.machine

-- Each machine that is left is the replay of its own share of the one list.
abbrev pub MachinesReplayTheList : Type 0 → Bool → TableId → List (List ℕ) → List MachineState → Type 0
MachinesReplayTheList X returns table opening starts = (mover : MoverState X) (connections : List ActorSeat) (state : ClosedState X)
    → (s : Settles returns table opening starts mover connections state)
    → (c : ClosedCell) (r : RunningState) → Has state.cells c → c.running ≡ Some r
    → ReplaysShare opening starts (map part_of (s.seats ++ connections)) s.list.one c.number r
