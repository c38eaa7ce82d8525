-- The seats of a table that was opened.
use Rattle.std.specs.Prelude.{Bool, List, All}
use Rattle.shared_objects.specs.Kinds.{dealer}
use Rattle.shared_objects.specs.Opened.{AreFresh}
use Rattle.shared_objects.specs.Tables.{IsActorOf, table_opening}
use Rattle.shared_objects.specs.declared.seats.ActorSeat.{ActorSeat}
use Rattle.shared_objects.specs.declared.table.SharedTable.{SharedTable}

-- The seats are the first ones of the table, in order, and have done nothing; far stores give back what was put, or don't.
abbrev pub AreNewSeats : Bool → SharedTable → List ActorSeat → Type 0
AreNewSeats returns shared seats = AreFresh (dealer returns (table_opening shared)) seats × All (IsActorOf shared) seats
