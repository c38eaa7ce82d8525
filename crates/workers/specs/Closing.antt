-- What the cells of a pool leave when it is taken apart.
use Rattle.std.specs.Prelude.{◌≡◌, ℕ, List, [], ◌∷◌}
use Rattle.atomic_table.specs.Seated.{TableId}
use Rattle.machine.specs.MachineState.{MachineState}
use Rattle.shared_objects.specs.declared.seats.ActorSeat.{ActorSeat}
use Rattle.workers.specs.Cells.{IsSeatOf, FitsCell, seat_state}
use Rattle.workers.specs.declared.closing.ClosedCell.{ClosedCell}

-- A cell and its seat, apart: the machine is the replay of the seat's entries from its start.
pub record WasCell (table : TableId) (opening : List (List ℕ)) (starts : List MachineState) (seat : ActorSeat) (c : ClosedCell) : Type 0 where
  -- the seat is of the table of this name, and of the cell's number
  pub seat_of : IsSeatOf table opening seat
  pub actor_is : seat.seat.me.0.actor ≡ c.number
  pub fits : FitsCell opening starts c.number (seat_state seat) c.running

-- So it is with each seat and the cell in its place.
abbrev pub WereCells : TableId → List (List ℕ) → List MachineState → List ActorSeat → List ClosedCell → Type 0
WereCells table opening starts [] [] = Unit {0}
WereCells table opening starts (seat ∷ seats) (c ∷ cs) = WasCell table opening starts seat c × WereCells table opening starts seats cs
WereCells table opening starts _ _ = ⊥
