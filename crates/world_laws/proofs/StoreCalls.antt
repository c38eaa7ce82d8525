-- What a call does to the store where it does something, and what it does where it is a move.
use Rattle.std.proofs.Common.{◌≡◌, ◌+◌, ◌≤◌, ℕ, nat_eq, Bool, true, false, cond, List, [], ◌∷◌, ◌++◌, length, replicate, refl, arith}
use Rattle.memory.specs.Objects.{IsLive, bytes_of, with_bytes}
use Rattle.placement.specs.declared.places.Place.{Place}
use Rattle.placement.specs.declared.places.Place.TheVariants as place
use Rattle.placement.specs.declared.places.Moved.TheVariants as moved
use Rattle.object_store.specs.Stores.{StoreState, StandsAt, HasRoom, HasRisen, IsScoped, near_bytes, near_length, with_place}
use Rattle.world.specs.declared.replies.Reply.{Reply}
use Rattle.world.specs.declared.replies.Reply.TheVariants as reply
use Rattle.world.specs.Places.{placed}
use Rattle.world_laws.specs.Replies.{is_refusal, TellsFault}

-- ---- what replies tell

-- the reply tells where an object is
abbrev pub is_placing : Reply → Bool
is_placing (reply.Made n) = true
is_placing (reply.Freed n (moved.Fault f)) = true
is_placing (reply.Moved n kind moved.Done) = true
is_placing (reply.Moved n kind (moved.Fault f)) = true
is_placing _ = false

abbrev pub is_made : Reply → Bool
is_made (reply.Made n) = true
is_made _ = false

pub quiet : (r : Reply) (n : ℕ) (p : Place) → is_placing r ≡ false → placed n p r ≡ p
quiet r n p e = grind arith

pub unmade : (r : Reply) → is_placing r ≡ false → is_made r ≡ false
unmade (reply.Made n) e = absurd (cc)
unmade _ e = refl

-- the reply tells that object n is at a place, and nothing else
abbrev pub Tells : ℕ → Place → Reply → Type 0
Tells n to r = (k : ℕ) (p : Place) → placed k p r ≡ cond (nat_eq n k) to p

-- ---- calls

-- a move from a place to another, and its reply
pub record IsMove (old : StoreState) (n : ℕ) («from» to : Place) (faults : ℕ) (r : Reply) : Type 0 where
  pub stands : StandsAt «from» old n
  -- it keeps the budget
  pub fits : near_bytes old.objects old.places ≤ old.budget
      → near_bytes old.objects old.places + near_length to (bytes_of old.objects n) ≤ old.budget + near_length «from» (bytes_of old.objects n)
  -- what is in scope isn't moved
  pub unscoped : «from» ≡ place.Here → IsScoped old n → ⊥
  pub done : is_refusal r ≡ false
  pub replied : Tells n to r
  pub is_unmade : is_made r ≡ false
  -- a fault tells the object and its place
  pub fault : (k : ℕ) (p : Place) → TellsFault k p r → HasRisen old.faults faults × (k ≡ n) × (p ≡ to)

pub data StoreCall (old : StoreState) (r : Reply) (new : StoreState) : Type 0 where
  Grown : (count : ℕ) → HasRoom old count → r ≡ reply.Made (length old.objects)
      → new ≡ record old { objects = old.objects ++ replicate count 0 ∷ []; places = old.places ++ place.Here ∷ [] } → StoreCall old r new
  Filled : (n : ℕ) (bytes : List ℕ) (faults : ℕ) → is_placing r ≡ false → IsLive old.objects n → length bytes ≤ length (bytes_of old.objects n)
      → new ≡ record old { objects = with_bytes old.objects n bytes; faults = faults } → StoreCall old r new
  Placed : (n : ℕ) («from» to : Place) (faults : ℕ) → IsMove old n «from» to faults r
      → new ≡ record (with_place old n to) { faults = faults } → StoreCall old r new

-- ---- moves

pub data Move (old : StoreState) (n : ℕ) (r : Reply) (new : StoreState) : Type 0 where
  Refused : is_placing r ≡ false → new ≡ old → Move old n r new
  Moves : («from» to : Place) (faults : ℕ) → IsMove old n «from» to faults r → new ≡ record (with_place old n to) { faults = faults } → Move old n r new
