use Rattle.std.proofs.Common.{◌≡◌, length}
use Rattle.workers.specs.Closing.{WereCells}
use Rattle.workers.proofs.closing.parts_of.Given as goal

abbrev pub invariant-loop-cell : goal.invariant-loop-cell
invariant-loop-cell g l = WereCells g.K.TableName.table g.K.TableName.opening g.K.TableName.starts l.seats.items l.closed.items
    × (length l.seats.items ≡ length l.yielded)
