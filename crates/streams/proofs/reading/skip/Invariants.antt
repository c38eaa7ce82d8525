use Rattle.std.proofs.Common.{◌-◌, ◌≤◌}
use Rattle.streams.specs.Streams.{ConsumesCounted}
use Rattle.streams.proofs.reading.skip.Given as goal

abbrev pub invariant-loop-skipped : goal.invariant-loop-skipped
invariant-loop-skipped g l = (l.skipped ≤ l.count) × ConsumesCounted l.skipped (g.R.Read.remaining l.fn.reader) (g.R.Read.remaining l.reader)

abbrev pub decreases-loop-skipped : goal.decreases-loop-skipped
decreases-loop-skipped g l = l.count - l.skipped
