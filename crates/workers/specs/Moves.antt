-- What the mover of a table keeps between two requests, and what it does with one.
use Rattle.std.specs.Prelude.{◌≡◌, ◌≢◌, ◌⊎◌, ℕ, ◌+◌, ◌≤◌, nat_lt, Bool, true, false, if◌then◌else◌, ◌&&◌, List, [], ◌∷◌, length, slice_index_or, Option, Some}
use Rattle.std.specs.Prelude.{None, Ok}
use Rattle.atomic_table.specs.Seated.{TableId}
use Rattle.memory.specs.Objects.{bytes_of, object_limit}
use Rattle.far_store.specs.Stores.{Rises}
use Rattle.far_store.specs.Calls.{Call, Calls, AsksInVain}
use Rattle.far_store.specs.Calls.Call.{Put, Get, Forget}
use Rattle.far_store.specs.declared.fault.StoreFault.{StoreFault}
use Rattle.far_store.specs.declared.fault.StoreFault.TheVariants.{Damaged}
use Rattle.placement.specs.declared.places.Place.{Place}
use Rattle.placement.specs.declared.places.Place.TheVariants as place
use Rattle.placement.specs.declared.places.Moved.{Moved}
use Rattle.placement.specs.declared.places.Moved.TheVariants.{Done, NoObject, Misplaced, Scoped, Fault}
use Rattle.shared_objects.specs.Kinds.{placed, with_cooling}
use Rattle.shared_objects.specs.Phases.{IsObject, phase_of}
use Rattle.shared_objects.specs.Rule.{place_of}
use Rattle.shared_objects.specs.declared.seats.MoverSeat.{MoverSeat}
use Rattle.shared_objects.specs.declared.seats.Phase.{Phase}
use Rattle.shared_objects.specs.declared.seats.Phase.TheVariants as phases
use Rattle.shared_objects.specs.declared.view.Whereabouts.{Whereabouts}
use Rattle.shared_objects.specs.declared.view.Whereabouts.TheVariants.{Here, Moving, Far}
use Rattle.shared_objects.specs.declared.view.View.{View}
use Rattle.workers.specs.declared.job.Direction.{Direction}
use Rattle.workers.specs.declared.job.Direction.TheVariants.{Leave, Return}
use Rattle.workers.specs.declared.movers.Looked.{Looked}
use Rattle.workers.specs.declared.movers.Looked.TheVariants as looked

-- ---- what a mover keeps

-- A mover, as its callers see it.
pub record MoverState (X : Type 0) : Type 0 where
  -- what its seat knows
  pub view : View
  -- the far store
  pub store : X
  -- by number, for which bytes the parcel stands that is kept of the object, if one is
  pub parcels : List (Option (List ℕ))
  -- the object at which it looked last of its own accord
  pub last : ℕ

-- It knows the opening bytes and the kind of far store, made so many other seats, and took none of them in.
abbrev pub IsMoverView : List (List ℕ) → Bool → ℕ → View → Type 0
IsMoverView opening returns seats v = (v.opening ≡ opening) × (v.returns ≡ returns) × (v.alive ≡ seats + 1) × (v.gathered ≡ [])

-- The mover's seat of the table of this name.
abbrev pub IsMoverSeat : TableId → List (List ℕ) → Bool → ℕ → MoverSeat → Type 0
IsMoverSeat table opening returns seats seat = (seat.seat.table_id ≡ table) × IsMoverView opening returns seats seat.seat.me.0

-- A parcel is kept of an object exactly where it is far, and stands for the bytes with which it was taken, which are as long as
-- the opening ones. No object is on its way.
abbrev pub KeepsParcel : List ℕ → Whereabouts → Option (List ℕ) → Type 0
KeepsParcel opening Here parcel = parcel ≡ None
KeepsParcel opening (Moving bytes) parcel = ⊥
KeepsParcel opening (Far bytes) parcel = (parcel ≡ Some bytes) × (length bytes ≡ length opening)

-- So it is with each object.
abbrev pub KeepsParcels : View → List (Option (List ℕ)) → Type 0
KeepsParcels v parcels = (length parcels ≡ length v.opening) × ((n : ℕ) → KeepsParcel (bytes_of v.opening n) (place_of v n) (slice_index_or parcels n None))

-- ---- what a request does to places

-- The place that a refusal names: none is on its way.
abbrev pub IsNamedPlace : Whereabouts → Place → Type 0
IsNamedPlace Here p = p ≡ place.Here
IsNamedPlace (Moving bytes) p = ⊥
IsNamedPlace (Far bytes) p = p ≡ place.Far

-- There is no such object, or it isn't in the phase from which it would be moved. Nothing changes.
abbrev pub RefusesRequest : Phase → View → ℕ → Moved → View → Type 0
RefusesRequest from v n NoObject w = (IsObject v.opening n → ⊥) × (w ≡ v)
RefusesRequest from v n (Misplaced p) w = IsObject v.opening n × (phase_of (place_of v n) ≢ from) × IsNamedPlace (place_of v n) p × (w ≡ v)
RefusesRequest from v n _ w = ⊥

-- An object that is here goes to the far store, with bytes as long as the opening ones. Where it is held, as by a scope, or
-- the far store fails, it stays here.
abbrev pub LeavesFor : View → ℕ → Moved → View → Type 0
LeavesFor v n Done w = IsObject v.opening n × (place_of v n ≡ Here)
    × ((bytes : List ℕ) × (length bytes ≡ length (bytes_of v.opening n)) × (w ≡ placed n (Far bytes) v))
LeavesFor v n Scoped w = IsObject v.opening n × (place_of v n ≡ Here) × (w ≡ v)
LeavesFor v n (Fault f) w = IsObject v.opening n × (place_of v n ≡ Here) × (w ≡ v)
LeavesFor v n moved w = RefusesRequest phases.In v n moved w

-- An object that is far comes back. Where the far store fails it stays far.
abbrev pub ReturnsFrom : View → ℕ → Moved → View → Type 0
ReturnsFrom v n Done w = IsObject v.opening n × (phase_of (place_of v n) ≡ phases.Far) × (w ≡ placed n Here v)
ReturnsFrom v n (Fault f) w = IsObject v.opening n × (phase_of (place_of v n) ≡ phases.Far) × (w ≡ v)
ReturnsFrom v n moved w = RefusesRequest phases.Far v n moved w

-- One request: the mover's view before, the object, what became of it, and the view after.
abbrev pub MovesOne : Direction → View → ℕ → Moved → View → Type 0
MovesOne Leave v n moved w = LeavesFor v n moved w
MovesOne Return v n moved w = ReturnsFrom v n moved w

-- ---- what a request asks of the far store

-- Nothing is asked.
abbrev pub AsksNothing : {X : Type 0} → X → X → Type 0
AsksNothing old new = new ≡ old

-- The bytes of object n were put, once, and it is far with these.
pub record Sends {X : Type 0} (called : X → Call → X → Type 0) (faults : X → ℕ) (old : X) (n : ℕ) (w : View) (new : X) : Type 0 where
  pub bytes : List ℕ
  pub is_far : place_of w n ≡ Far bytes
  pub calls : Calls called old (Put bytes None ∷ []) new
  pub no_fault : faults new ≡ faults old

-- Its bytes were put, once, and that failed.
pub record FailsToSend {X : Type 0} (called : X → Call → X → Type 0) (faults : X → ℕ) (v : View) (old : X) (n : ℕ) (f : StoreFault) (new : X) : Type 0 where
  pub bytes : List ℕ
  pub as_long : length bytes ≡ length (bytes_of v.opening n)
  pub calls : Calls called old (Put bytes (Some f) ∷ []) new
  pub one_fault : Rises (faults old) (faults new)

-- What an object that leaves asks, by what became of it.
abbrev pub AsksToLeave : {X : Type 0} → (X → Call → X → Type 0) → (X → ℕ) → View → X → ℕ → Moved → View → X → Type 0
AsksToLeave called faults v old n Done w new = Sends called faults old n w new
AsksToLeave called faults v old n (Fault f) w new = FailsToSend called faults v old n f new
AsksToLeave called faults v old n _ w new = AsksNothing old new

-- The bytes with which object n was taken were got, once, and as many came. Then its parcel was forgotten, which may count faults.
pub record Brings {X : Type 0} (called : X → Call → X → Type 0) (faults : X → ℕ) (v : View) (old : X) (n : ℕ) (new : X) : Type 0 where
  pub bytes : List ℕ
  pub was_far : place_of v n ≡ Far bytes
  pub came : List ℕ
  pub as_many : length came ≡ length bytes
  pub calls : Calls called old (Get bytes (Ok came) ∷ Forget bytes ∷ []) new
  pub no_fewer_faults : faults old ≤ faults new

-- The far store's faults rose by one; or it doesn't promise to return what was put, and gave more bytes or fewer.
abbrev pub FailsToBring : Bool → ℕ → StoreFault → ℕ → Type 0
FailsToBring returns old f new = Rises old new ⊎ ((returns ≡ false) × (f ≡ Damaged) × (new ≡ old))

-- The bytes with which it was taken were asked for, once, and what came was not taken. Its parcel is kept.
pub record BringsNone {X : Type 0} (returns : Bool) (called : X → Call → X → Type 0) (faults : X
    → ℕ) (v : View) (old : X) (n : ℕ) (f : StoreFault) (new : X) : Type 0 where
  pub bytes : List ℕ
  pub was_far : place_of v n ≡ Far bytes
  pub asked : AsksInVain called old (Some bytes) (length bytes) f new
  pub faults_are : FailsToBring returns (faults old) f (faults new)

-- What an object that returns asks, by what became of it.
abbrev pub AsksToReturn : {X : Type 0} → Bool → (X → Call → X → Type 0) → (X → ℕ) → View → X → ℕ → Moved → X → Type 0
AsksToReturn returns called faults v old n Done new = Brings called faults v old n new
AsksToReturn returns called faults v old n (Fault f) new = BringsNone returns called faults v old n f new
AsksToReturn returns called faults v old n _ new = AsksNothing old new

-- What one request asks of the far store, call by call and in order, and what becomes of its count of faults.
abbrev pub AsksOne : {X : Type 0} → Bool → (X → Call → X → Type 0) → (X → ℕ) → Direction → MoverState X → ℕ → Moved → MoverState X → Type 0
AsksOne returns called faults Leave old n moved new = AsksToLeave called faults old.view old.store n moved new.view new.store
AsksOne returns called faults Return old n moved new = AsksToReturn returns called faults old.view old.store n moved new.store

-- ---- looking

-- the number of the object after the last, among so many numbers: after the greatest it is 1
abbrev pub number_after : ℕ → ℕ → ℕ
number_after count last = if nat_lt (last + 1) count && nat_lt last object_limit then (last + 1) else 1

-- A mover looks at the object whose number it keeps then: one that was hot is cooled and stays; one that was cold is asked to leave, unless it is
-- awaited and stays.
abbrev pub LooksAt : {X : Type 0} → (X → Call → X → Type 0) → (X → ℕ) → MoverState X → Looked → MoverState X → Type 0
LooksAt called faults old looked.NoObject new = (IsObject old.view.opening new.last → ⊥) × (new.view ≡ old.view) × (new.store ≡ old.store)
LooksAt called faults old looked.Hot new = IsObject old.view.opening new.last × (new.view ≡ with_cooling new.last true old.view) × (new.store ≡ old.store)
LooksAt called faults old looked.Awaited new = IsObject old.view.opening new.last × (new.view ≡ with_cooling new.last false old.view) × (new.store ≡ old.store)
LooksAt called faults old (looked.Cold moved) new = IsObject old.view.opening new.last
    × LeavesFor (with_cooling new.last false old.view) new.last moved new.view
    × AsksToLeave called faults (with_cooling new.last false old.view) old.store new.last moved new.view new.store
