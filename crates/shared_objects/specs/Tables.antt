-- Which table a seat is of, and what a table was opened with.
use Rattle.std.specs.Prelude.{◌≡◌, ℕ, Bool, List, []}
use Rattle.shared_objects.specs.declared.view.View.{View}
use Rattle.shared_objects.specs.Opening.{opening_bytes}
use Rattle.shared_objects.specs.declared.seats.ActorSeat.{ActorSeat}
use Rattle.shared_objects.specs.declared.seats.MoverSeat.{MoverSeat}
use Rattle.shared_objects.specs.declared.table.SharedTable.{SharedTable}

-- the bytes that the table was opened with, by number
abbrev pub table_opening : SharedTable → List (List ℕ)
table_opening shared = opening_bytes shared.table.shared.key.bodies.value

-- whether the table was told that far stores give back what was put
abbrev pub table_returns : SharedTable → Bool
table_returns shared = shared.table.shared.key.returns

-- what an actor knows
abbrev pub actor_view : ActorSeat → View
actor_view actor = actor.seat.me.0

-- what the mover knows
abbrev pub mover_view : MoverSeat → View
mover_view mover = mover.seat.me.0

-- The seat is an actor's of this table.
abbrev pub IsActorOf : SharedTable → ActorSeat → Type 0
IsActorOf shared actor = (actor.seat.table_id ≡ shared.table.shared.table_id) × (actor.seat.me.0.opening ≡ table_opening shared)

-- The seat is an actor's of this table, and has no scope open.
abbrev pub IsShutOf : SharedTable → ActorSeat → Type 0
IsShutOf shared actor = IsActorOf shared actor × (actor.seat.me.0.scopes ≡ [])

-- The seat is the mover's of this table.
abbrev pub IsMoverOf : SharedTable → MoverSeat → Type 0
IsMoverOf shared mover = (mover.seat.table_id ≡ shared.table.shared.table_id) × (mover.seat.me.0.opening ≡ table_opening shared)
    × (mover.seat.me.0.returns ≡ table_returns shared)
