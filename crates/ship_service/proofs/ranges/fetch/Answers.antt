use Rattle.std.proofs.Common.{sym, ◌∙◌, arith}
use Rattle.ship_service.proofs.Tried.{get_again, tried, tried_all}
use Rattle.ship_service.proofs.ranges.fetch.Goals as goal

pub loop-retry-preserved : goal.loop-retry-preserved
loop-retry-preserved g c = (
  c.fetch_once-found.ensures.of,
  omega (arith, c.loop-retry-test.true),
  get_again _ _ _ _ _ _ _ _ (sym c.found_busy.ensures ∙ c.if-not-found_busy.false) c.loop-retry.invariant.2 c.fetch_once-found.ensures.get,
)

pub returns-then-not-found_busy-clause-get : goal.returns-then-not-found_busy-clause-get
returns-then-not-found_busy-clause-get g c =
    tried _ _ _ _ _ _ _ c.loop-retry.invariant.2 c.fetch_once-found.ensures.get (sym c.found_busy.ensures ∙ c.if-not-found_busy.true) c.loop-retry.invariant.1

pub returns-clause-get : goal.returns-clause-get
returns-clause-get g c = tried_all _ _ _ _ _ _ _ c.loop-retry.invariant.2 c.fetch_once.ensures.get (omega (
  arith,
  c.loop-retry-test.false,
  c.loop-retry.invariant.1,
))
