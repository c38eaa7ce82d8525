use Rattle.std.proofs.Common.{◌-◌, ◌≤◌, length}
use Rattle.std.specs.Io.KnownBytes.{Consumes}
use Rattle.streams.proofs.reading.read_at_most.Given as goal

abbrev pub invariant-loop-piece : goal.invariant-loop-piece
invariant-loop-piece g l = (length l.input.items ≤ l.limit) × Consumes (g.R.Read.remaining l.fn.reader) (g.R.Read.remaining l.reader) l.input.items

abbrev pub decreases-loop-piece : goal.decreases-loop-piece
decreases-loop-piece g l = l.limit - length l.input.items
