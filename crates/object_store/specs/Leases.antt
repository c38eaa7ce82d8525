-- One object that is taken out of a store for a time. The store that is seen meanwhile is the one with the object in its place.
use Rattle.std.specs.Prelude.{◌≡◌, ◌⊎◌, ℕ, ◌+◌, ◌<◌, ◌≤◌, true, [], length, set}
use Rattle.memory.specs.Objects.{bytes_of, with_bytes, object_bytes}
use Rattle.placement.specs.declared.places.Place.TheVariants.{Here}
use Rattle.scopes.specs.Windows.{holds}
use Rattle.object_store.specs.Stores.{StoreWithin, HasWindow, near_bytes, place_of, unsent, window_of}
use Rattle.object_store.specs.Bodies.{Kept, sent_in}

-- the store without object n: a number without bytes, of which the far store has nothing
abbrev pub without : {X : Type 0} → StoreWithin X → ℕ → StoreWithin X
without s n = record s { state = record s.state { objects = with_bytes s.state.objects n [] }; sent = set s.sent n unsent }

-- the store with this object as object n
abbrev pub filled : {X : Type 0} → StoreWithin X → ℕ → Kept → StoreWithin X
filled s n k = record s { state = record s.state { objects = with_bytes s.state.objects n k.bytes }; sent = set s.sent n (sent_in k) }

-- An object is out of the store, which has a place for it and room.
pub record IsOut {X : Type 0} (s : StoreWithin X) (n : ℕ) (k : Kept) : Type 0 where
  pub inside : n < length s.state.objects
  pub sent : n < length s.sent
  pub numbered : 0 < n
  pub none : bytes_of s.state.objects n ≡ []
  pub place : place_of s.state.places n ≡ Here
  pub there : k.place ≡ Here
  pub short : length k.bytes ≤ object_bytes
  pub room : near_bytes s.state.objects s.state.places + length k.bytes ≤ s.state.budget

-- No object is out.
pub record IsIdle {X : Type 0} (s : StoreWithin X) (n : ℕ) (k : Kept) : Type 0 where
  pub past : length s.state.objects ≤ n
  pub unsent : length s.sent ≤ n
  pub none : k.bytes ≡ []

-- The object is out, and the machine has it in scope.
pub record IsLeased {X : Type 0} (who : ℕ) (s : StoreWithin X) (n : ℕ) (k : Kept) : Type 0 where
  pub out : IsOut s n k
  pub live : 0 < length k.bytes
  pub window : who < length s.state.windows
  pub held : holds n (window_of s.state.windows who) ≡ true

-- No object is out, or one that the machine has in scope.
abbrev pub IsLeasing : {X : Type 0} → ℕ → StoreWithin X → ℕ → Kept → Type 0
IsLeasing who s n k = HasWindow who × (IsIdle s n k ⊎ IsLeased who s n k)
