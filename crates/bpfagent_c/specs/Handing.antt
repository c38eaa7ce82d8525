-- What is told of objects whose bytes the caller keeps, and of where objects are.
use Rattle.std.specs.Prelude.{◌≡◌, ℕ, zero, suc, nat_lt, Bool, true, false, ◌&&◌, cond, List, [], ◌∷◌, ◌++◌, length, Option, None, Some}
use Rattle.sha2.specs.Sha256.{sha256}
use Rattle.memory.specs.Objects.{IsLive, bytes_of}
use Rattle.placement.specs.declared.places.Place.{Place}
use Rattle.placement.specs.declared.places.Place.TheVariants as place
use Rattle.placement.specs.declared.places.Moved.{Moved}
use Rattle.placement.specs.declared.places.Moved.TheVariants as moved
use Rattle.object_store.specs.Stores.{StoreState, StandsAt, place_of}
use Rattle.object_store.specs.Handing.{FreesFar}
use Rattle.world.specs.declared.replies.Reply.{Reply}
use Rattle.world.specs.declared.replies.Reply.TheVariants as reply
use Rattle.world.specs.declared.world.moving.Move.TheVariants as move
use Rattle.bpfagent_c.specs.declared.handle.Agent.{Agent}
use Rattle.bpfagent_c.specs.Codes.{code_of_moved}
use Rattle.bpfagent_c.specs.Shown.{over}

-- the bytes of the agent's object n, wherever they are
abbrev pub bytes_at : Agent → ℕ → List ℕ
bytes_at agent n = bytes_of agent.held.state.store.state.objects n

-- There is an agent, and it stays as it is.
abbrev pub IsCalm : Agent → Agent → Type 0
IsCalm old new = (old.live ≡ true) × (new.live ≡ true) × (new.held.state ≡ old.held.state)

-- ---- bytes that are handed out

-- the bytes of an object that left stand over the first of the buffer
abbrev pub left_over : Reply → List ℕ → List ℕ → List ℕ
left_over (reply.Moved n move.Left moved.Done) bytes old = over bytes old
left_over _ bytes old = old

-- how many they are
abbrev pub left_count : Reply → List ℕ → ℕ → ℕ
left_count (reply.Moved n move.Left moved.Done) bytes old = length bytes
left_count _ bytes old = old

-- their SHA-256
abbrev pub left_digest : Reply → List ℕ → List ℕ → List ℕ
left_digest (reply.Moved n move.Left moved.Done) bytes old = sha256 bytes
left_digest _ bytes old = old

-- ---- objects that are freed where they are far

-- object n of the agent is freed where it is far, and the number is that of the reply
pub record Forgets (n : ℕ) (old : Agent) (number : ℕ) (new : Agent) : Type 0 where
  pub moved : Moved
  pub live : new.live ≡ true
  pub frees : FreesFar old.held.state.store.state n moved new.held.state.store.state
  pub machines : new.held.state.machines ≡ old.held.state.machines
  pub number_is : number ≡ code_of_moved place.Far moved

-- ---- places

-- where object n is, if there is one of this number
abbrev pub IsIn : Agent → ℕ → Option Place → Type 0
IsIn agent n None = IsLive agent.held.state.store.state.objects n → ⊥
IsIn agent n (Some p) = StandsAt p agent.held.state.store.state n

-- two places are the same
abbrev pub is_place : Place → Place → Bool
is_place place.Here place.Here = true
is_place place.Leaving place.Leaving = true
is_place place.Far place.Far = true
is_place place.Returning place.Returning = true
is_place _ _ = false

-- there is an object n, and it is in this place
abbrev pub is_at : Place → StoreState → ℕ → Bool
is_at p s n = nat_lt 0 (length (bytes_of s.objects n)) && is_place p (place_of s.places n)

-- the objects of the numbers from 1 to k that are in this place, by rising numbers
unfoldable pub standing : Place → StoreState → ℕ → List ℕ
standing p s zero = []
standing p s (suc k) = standing p s k ++ cond (is_at p s (suc k)) (suc k ∷ []) []
