use Rattle.agent.proofs.Started.{ended}
use Rattle.agent.proofs.running.run.Goals as goal

pub returns : goal.returns
returns g c = ended _ _ _ _ _ c.in_ok-_world.ensures
