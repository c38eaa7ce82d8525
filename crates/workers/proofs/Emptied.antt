-- Cells that are taken apart one after the other.
use Rattle.std.proofs.Common.{ℕ, List, [], ◌∷◌, ◌++◌}
use Rattle.atomic_table.specs.Seated.{TableId}
use Rattle.machine.specs.MachineState.{MachineState}
use Rattle.shared_objects.specs.declared.seats.ActorSeat.{ActorSeat}
use Rattle.workers.specs.Closing.{WasCell, WereCells}
use Rattle.workers.specs.declared.closing.ClosedCell.{ClosedCell}

-- one more
pub one_more : (table : TableId) (opening : List (List ℕ)) (starts : List MachineState) (ss : List ActorSeat) (cs : List ClosedCell)
    (s : ActorSeat) (c : ClosedCell)
    → WereCells table opening starts ss cs → WasCell table opening starts s c → WereCells table opening starts (ss ++ s ∷ []) (cs ++ c ∷ [])
one_more table opening starts [] [] s c w h = (h, tt)
one_more table opening starts [] (d ∷ cs) s c w h = absurd w
one_more table opening starts (r ∷ ss) [] s c w h = absurd w
one_more table opening starts (r ∷ ss) (d ∷ cs) s c w h = (w.0, one_more table opening starts ss cs s c w.1 h)
