-- For private functions and proofs alone: what conversations make of the seats of connections.
use Rattle.std.specs.Prelude.{◌≡◌, ◌⊎◌, ℕ, Bool, true, List, None}
use Rattle.atomic_table.specs.Seated.{TableId}
use Rattle.shared_objects.specs.declared.seats.ActorSeat.{ActorSeat}
use Rattle.workers.specs.TableNames.{Passage}
use Rattle.workers.specs.TableNames.Passage.{Conversed}
use Rattle.ship_service.specs.Opening.{IsFreshSeat}

-- A connection's seat before anybody comes to it: as the table of this name made it.
abbrev pub IsUnused : TableId → Bool → List (List ℕ) → ActorSeat → Type 0
IsUnused table returns opening seat = (actor : ℕ) × IsFreshSeat table returns opening actor seat

-- One conversation left the seat so, which began with one that was unused. No bytes of its stream were known beforehand, so these were a
-- client's, and none of the service's own.
abbrev pub IsConversed : TableId → Bool → List (List ℕ) → (Passage → Bool) → ActorSeat → Type 0
IsConversed table returns opening passed seat = (first : ActorSeat) × IsUnused table returns opening first × (passed (Conversed None first seat) ≡ true)

-- How a connection's seat is when the service has ended: nobody came to it, or one client did.
abbrev pub HadOneClient : TableId → Bool → List (List ℕ) → (Passage → Bool) → ActorSeat → Type 0
HadOneClient table returns opening passed seat = ∥ IsUnused table returns opening seat ⊎ IsConversed table returns opening passed seat ∥₁
