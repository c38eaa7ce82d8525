use Rattle.std.proofs.Common.{take, Ok}
use Rattle.far_stream.specs.Deferring.{ForgetsHear}
use Rattle.far_stream.proofs.forgets.hear_all.Given as goal

abbrev pub invariant-loop-id : goal.invariant-loop-id
invariant-loop-id g l = ForgetsHear (take l.id-index l.ids) (g.R.Read.remaining l.fn.reader) (g.R.Read.remaining l.reader) (Ok tt)
