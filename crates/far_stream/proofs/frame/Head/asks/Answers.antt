use Rattle.far_stream.specs.declared.frame.FrameKind.TheVariants.{Put, Get, Forget}
use Rattle.far_stream.proofs.Serving.{no_kind}
use Rattle.far_stream.proofs.frame.Head.asks.Goals as goal

pub returns-in_err-of-clause-none : goal.returns-in_err-of-clause-none
returns-in_err-of-clause-none c =
    let other = c.in_err-of.ensures.none in
    rw c.from_residual.ensures (no_kind c.args.self.kind c.args.self.count (other Put) (other Get) (other Forget))
