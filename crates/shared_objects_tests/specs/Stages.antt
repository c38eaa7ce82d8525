-- A table with all its seats.
use Rattle.std.specs.Prelude.{◌≡◌, ℕ, ◌+◌, List, [], length, All}
use Rattle.shared_objects.specs.Tables.{IsActorOf, IsMoverOf}
use Rattle.shared_objects.specs.declared.seats.ActorSeat.{ActorSeat}
use Rattle.shared_objects.specs.declared.seats.MoverSeat.{MoverSeat}
use Rattle.shared_objects.specs.declared.table.SharedTable.{SharedTable}

-- The mover's seat of the table, which took no seat in, where so many actors have theirs.
abbrev pub IsLastOf : SharedTable → MoverSeat → ℕ → Type 0
IsLastOf table mover count = IsMoverOf table mover × (mover.seat.me.0.gathered ≡ []) × (mover.seat.me.0.alive ≡ count + 1)

-- These are all seats of the table.
abbrev pub AreSeatsOf : SharedTable → List ActorSeat → MoverSeat → Type 0
AreSeatsOf table actors mover = All (IsActorOf table) actors × IsLastOf table mover (length actors)
