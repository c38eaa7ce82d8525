-- What the calls of a store do: the state before, the answer, and the state after. A refusal changes nothing; refusals are
-- tested in the order in which they stand.
use Rattle.std.specs.Prelude.{◌≡◌, ◌⊎◌, ℕ, ◌≤◌, Bool, true, false, List, [], ◌∷◌, ◌++◌, length, replicate, Result, Ok, Err}
use Rattle.placement.specs.declared.places.Place.{Place}
use Rattle.placement.specs.declared.places.Place.TheVariants.{Here, Leaving, Far, Returning}
use Rattle.placement.specs.declared.places.Moved.{Moved}
use Rattle.placement.specs.declared.places.Moved.TheVariants.{Done, NoObject, Misplaced, Scoped, NoRoom, Fault}
use Rattle.object_store.specs.declared.errors.MakeError.{MakeError}
use Rattle.object_store.specs.declared.errors.MakeError.TheVariants as make_error
use Rattle.object_store.specs.declared.errors.GetError.{GetError}
use Rattle.object_store.specs.declared.errors.GetError.TheVariants as get_error
use Rattle.object_store.specs.declared.errors.Denied.{Denied}
use Rattle.object_store.specs.declared.errors.Denied.TheVariants as denied
use Rattle.memory.specs.Objects.{IsLive, IsFull, HasRange, bytes_of, with_bytes, range_of, with_range}
use Rattle.object_store.specs.Stores.{StoreState, StandsAt, HasRoom, HasRisen, IsScoped, place_of, with_place}

-- ---- objects

-- Making an object of so many zeros. Numbers count up from 1; none is used again.
abbrev pub Makes : StoreState → ℕ → Result ℕ MakeError → StoreState → Type 0
Makes old count (Ok n) new = (IsFull old.objects → ⊥) × HasRoom old count × (n ≡ length old.objects)
    × (new ≡ record old { objects = old.objects ++ replicate count 0 ∷ []; places = old.places ++ Here ∷ [] })
Makes old count (Err make_error.Full) new = IsFull old.objects × (new ≡ old)
Makes old count (Err make_error.NoRoom) new = (IsFull old.objects → ⊥) × (HasRoom old count → ⊥) × (new ≡ old)
Makes old count (Err make_error.Memory) new = (IsFull old.objects → ⊥) × HasRoom old count × (new ≡ old)

-- Reading a range.
abbrev pub Gets : StoreState → ℕ → ℕ → ℕ → Result (List ℕ) GetError → Type 0
Gets s n offset count (Ok bytes) = HasRange s.objects n offset count × (place_of s.places n ≡ Here) × (bytes ≡ range_of s.objects n offset count)
Gets s n offset count (Err (get_error.Denied denied.Outside)) = HasRange s.objects n offset count → ⊥
Gets s n offset count (Err (get_error.Denied denied.Away)) = HasRange s.objects n offset count × (place_of s.places n ≡ Here → ⊥)
Gets s n offset count (Err get_error.Memory) = HasRange s.objects n offset count × (place_of s.places n ≡ Here)

-- Writing over a range.
abbrev pub Puts : StoreState → ℕ → ℕ → List ℕ → Result Unit Denied → StoreState → Type 0
Puts old n offset bytes (Ok u) new = HasRange old.objects n offset (length bytes) × (place_of old.places n ≡ Here)
    × (new ≡ record old { objects = with_range old.objects n offset bytes })
Puts old n offset bytes (Err denied.Outside) new = (HasRange old.objects n offset (length bytes) → ⊥) × (new ≡ old)
Puts old n offset bytes (Err denied.Away) new = HasRange old.objects n offset (length bytes) × (place_of old.places n ≡ Here → ⊥) × (new ≡ old)

-- ---- moves

-- There is no such object, or it isn't in the place from which it would be moved.
abbrev pub RefusesMove : Place → StoreState → ℕ → Moved → StoreState → Type 0
RefusesMove from old n NoObject new = (IsLive old.objects n → ⊥) × (new ≡ old)
RefusesMove from old n (Misplaced p) new = StandsAt p old n × (p ≡ from → ⊥) × (new ≡ old)
RefusesMove from old n _ new = ⊥

-- Freeing an object that is here, where no machine has it in scope: no bytes are left of it, and its place in the list
-- stays. The far store may be told to forget it, and may fail at that.
abbrev pub Frees : StoreState → ℕ → Moved → StoreState → Type 0
Frees old n Scoped new = StandsAt Here old n × IsScoped old n × (new ≡ old)
Frees old n Done new = StandsAt Here old n × (IsScoped old n → ⊥) × (old.faults ≤ new.faults)
    × (new ≡ record old { objects = with_bytes old.objects n []; faults = new.faults })
Frees old n m new = RefusesMove Here old n m new

-- An object leaves where it is here and no machine has it in scope.
abbrev pub BeginsLeave : StoreState → ℕ → Moved → StoreState → Type 0
BeginsLeave old n Scoped new = StandsAt Here old n × IsScoped old n × (new ≡ old)
BeginsLeave old n Done new = StandsAt Here old n × (IsScoped old n → ⊥) × (new ≡ with_place old n Leaving)
BeginsLeave old n m new = RefusesMove Here old n m new

-- An object that leaves is far; where the far store fails, it is here again.
abbrev pub EndsLeave : StoreState → ℕ → Moved → StoreState → Type 0
EndsLeave old n (Fault f) new = StandsAt Leaving old n × HasRisen old.faults new.faults
    × (new ≡ record (with_place old n Here) { faults = new.faults })
EndsLeave old n Done new = StandsAt Leaving old n × (old.faults ≤ new.faults)
    × (new ≡ record (with_place old n Far) { faults = new.faults })
EndsLeave old n m new = RefusesMove Leaving old n m new

-- An object that is far returns where there is room for it.
abbrev pub BeginsReturn : StoreState → ℕ → Moved → StoreState → Type 0
BeginsReturn old n NoRoom new = StandsAt Far old n × (HasRoom old (length (bytes_of old.objects n)) → ⊥) × (new ≡ old)
BeginsReturn old n Done new = StandsAt Far old n × HasRoom old (length (bytes_of old.objects n)) × (new ≡ with_place old n Returning)
BeginsReturn old n m new = RefusesMove Far old n m new

-- What a far store gives back: the bytes that were put, where it returns those; else any, but as many.
abbrev pub ComesBack : Bool → StoreState → ℕ → StoreState → Type 0
ComesBack true old n new = new ≡ with_place old n Here
ComesBack false old n new = (length (bytes_of new.objects n) ≡ length (bytes_of old.objects n))
    × (new ≡ record (with_place old n Here) { objects = with_bytes old.objects n (bytes_of new.objects n) })

-- A far store fails where its faults rose. One that doesn't promise to return what was put also fails where it gives back
-- too many bytes or too few, and its faults stay then.
abbrev pub FailsToReturn : Bool → ℕ → ℕ → Type 0
FailsToReturn true old new = HasRisen old new
FailsToReturn false old new = HasRisen old new ⊎ (new ≡ old)

-- An object that returns is here, over a store that returns the bytes that were put or over one that doesn't promise it;
-- where the far store fails, it is far again.
abbrev pub EndsReturn : Bool → StoreState → ℕ → Moved → StoreState → Type 0
EndsReturn returns old n (Fault f) new = StandsAt Returning old n × FailsToReturn returns old.faults new.faults
    × (new ≡ record (with_place old n Far) { faults = new.faults })
EndsReturn returns old n Done new = StandsAt Returning old n × ComesBack returns old n new
EndsReturn returns old n m new = RefusesMove Returning old n m new
