use Rattle.ship_service.proofs.Tried.{got_once}
use Rattle.ship_service.proofs.ranges.fetch_once.Goals as goal

pub returns-clause-get : goal.returns-clause-get
returns-clause-get g c = got_once c.get.result c.get.ensures.got c.get.ensures.refused
