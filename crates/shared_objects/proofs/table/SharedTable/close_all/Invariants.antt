use Rattle.std.proofs.Common.{◌≡◌, length}
use Rattle.shared_objects.specs.Kinds.{shut}
use Rattle.shared_objects.specs.Resting.{Rests, AllBelow}
use Rattle.shared_objects.proofs.table.SharedTable.close_all.Given as goal

abbrev pub invariant-loop-oldest : goal.invariant-loop-oldest
invariant-loop-oldest l = (l.seat.table_id ≡ l.fn.seat.table_id) × Rests l.seat.me × (l.seat.me.0.scopes ≡ l.window)
    × AllBelow (length l.self.lengths.items) l.window × (shut l.seat.me.0 ≡ shut l.fn.seat.me.0)

abbrev pub decreases-loop-oldest : goal.decreases-loop-oldest
decreases-loop-oldest l = length l.window
