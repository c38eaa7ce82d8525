use Rattle.std.proofs.Common.{ap}
use Rattle.workers.specs.Pools.{machines_of}
use Rattle.workers.specs.TableNames.{each_passed}
use Rattle.world.specs.WorldState.{state_of}
use Rattle.ship_service.proofs.Saying.{says_more, tells_of_world}
use Rattle.ship_service.proofs.listening.listen_over.Goals as goal

pub returns-clause-says : goal.returns-clause-says
returns-clause-says g c =
    says_more _ _ _ _ _ c.listen_opened.result
    (tells_of_world _ _ _ _ _ each_passed (state_of c.args.world) c.in_ok-opened.ensures.opening (ap machines_of c.in_ok-opened.ensures.machines)) c.listen_opened.ensures.says
