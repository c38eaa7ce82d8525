use Rattle.std.proofs.Common.{sym, ◌∙◌, arith}
use Rattle.ship_service.proofs.Tried.{put_again, tried, tried_all}
use Rattle.ship_service.proofs.ranges.put.Goals as goal

pub loop-retry-preserved : goal.loop-retry-preserved
loop-retry-preserved g c = (
  c.put_once-reply.ensures.of,
  omega (arith, c.loop-retry-test.true),
  put_again _ _ _ _ _ _ _ _ (sym c.is_busy.ensures ∙ c.if-not-is_busy.false) c.loop-retry.invariant.2 c.put_once-reply.ensures.put,
)

pub returns-then-not-is_busy-clause-put : goal.returns-then-not-is_busy-clause-put
returns-then-not-is_busy-clause-put g c =
    tried _ _ _ _ _ _ _ c.loop-retry.invariant.2 c.put_once-reply.ensures.put (sym c.is_busy.ensures ∙ c.if-not-is_busy.true) c.loop-retry.invariant.1

pub returns-clause-put : goal.returns-clause-put
returns-clause-put g c = tried_all _ _ _ _ _ _ _ c.loop-retry.invariant.2 c.put_once.ensures.put (omega (
  arith,
  c.loop-retry-test.false,
  c.loop-retry.invariant.1,
))
