-- What a store asks of its far store, call by call and in order, and what the far store has of each object then. A call of
-- which nothing is said here asks nothing.
use Rattle.std.specs.Prelude.{◌≡◌, ℕ, Bool, false, List, [], ◌∷◌, ◌++◌, length, set, if◌then◌else◌, Option, Some, None, Ok}
use Rattle.far_store.specs.declared.fault.StoreFault.{StoreFault}
use Rattle.far_store.specs.Calls.Call.{Put, Get, Forget}
use Rattle.far_store.specs.Calls.{Call, Calls, AsksInVain, parcel_of}
use Rattle.memory.specs.declared.access.Action.{Action}
use Rattle.memory.specs.declared.access.Action.TheVariants.{Load}
use Rattle.memory.specs.declared.access.Op.{Op}
use Rattle.memory.specs.declared.access.Reach.{Reach}
use Rattle.memory.specs.declared.access.Reach.TheVariants.{Done}
use Rattle.memory.specs.Objects.{bytes_of}
use Rattle.placement.specs.declared.places.Moved.{Moved}
use Rattle.placement.specs.declared.places.Moved.TheVariants as moved
use Rattle.object_store.specs.Stores.{Sent, StoreWithin, unsent, sent_of}

-- ---- the calls

-- the parcel that is kept, if one is, is let go of
abbrev pub forgets : Option (List ℕ) → List Call
forgets None = []
forgets (Some bytes) = Forget bytes ∷ []

-- An object that leaves: a clean one isn't sent again. For any other the parcel that is kept is let go of first, and its bytes
-- are put, once.
abbrev pub leave_calls : Sent → List ℕ → Option StoreFault → List Call
leave_calls sent bytes outcome = if sent.clean then [] else (forgets sent.parcel ++ Put bytes outcome ∷ [])

-- ---- the calls of a store

-- nothing is asked, and the far store has what it had
pub record AsksNothing {X : Type 0} (old new : StoreWithin X) : Type 0 where
  pub far : new.far ≡ old.far
  pub sent : new.sent ≡ old.sent

-- An access leaves an object clean that was, where it is a load.
abbrev pub clean_after : Action → Bool → Bool
clean_after (Load size) clean = clean
clean_after _ clean = false

-- what an access leaves of the mark that the object is clean
abbrev pub sent_after : Op → Reach → List Sent → ℕ → List Sent
sent_after op (Done x) sent n = set sent n (record (sent_of sent n) { clean = clean_after op.action (sent_of sent n).clean })
sent_after op _ sent n = sent

-- Freeing an object lets go of its parcel.
abbrev pub AsksToFree : {X : Type 0} → (X → Call → X → Type 0) → StoreWithin X → ℕ → Moved → StoreWithin X → Type 0
AsksToFree called old n moved.Done new = Calls called old.far (forgets (sent_of old.sent n).parcel) new.far × (new.sent ≡ set old.sent n unsent)
AsksToFree called old n _ new = AsksNothing old new

-- An object that leaves is sent, unless it is clean; a fault is that of the put.
abbrev pub AsksToLeave : {X : Type 0} → (X → Call → X → Type 0) → StoreWithin X → ℕ → Moved → StoreWithin X → Type 0
AsksToLeave called old n moved.Done new = Calls called old.far (leave_calls (sent_of old.sent n) (bytes_of old.state.objects n) None) new.far
    × (new.sent ≡ set old.sent n (record (sent_of old.sent n) { parcel = Some (bytes_of old.state.objects n) }))
AsksToLeave called old n (moved.Fault f) new = ((sent_of old.sent n).clean ≡ false)
    × Calls called old.far (leave_calls (sent_of old.sent n) (bytes_of old.state.objects n) (Some f)) new.far
    × (new.sent ≡ set old.sent n unsent)
AsksToLeave called old n _ new = AsksNothing old new

-- An object that returns is got, and what is got are its bytes then. Over a store that returns what was put it is clean.
abbrev pub AsksToReturn : {X : Type 0} → Bool → (X → Call → X → Type 0) → StoreWithin X → ℕ → Moved → StoreWithin X → Type 0
AsksToReturn returns called old n moved.Done new =
    Calls called old.far (Get (parcel_of (sent_of old.sent n).parcel) (Ok (bytes_of new.state.objects n)) ∷ []) new.far
    × (new.sent ≡ set old.sent n (record (sent_of old.sent n) { clean = returns }))
AsksToReturn returns called old n (moved.Fault f) new =
    AsksInVain called old.far (sent_of old.sent n).parcel (length (bytes_of old.state.objects n)) f new.far × (new.sent ≡ old.sent)
AsksToReturn returns called old n _ new = AsksNothing old new
