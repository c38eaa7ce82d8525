use Rattle.ship_service.proofs.Granted.{seen_granted}
use Rattle.ship_service.proofs.laws.seen_machines_are_granted.Goals as goal

pub returns : goal.returns
returns g c = seen_granted g.K.TableName.opening g.K.TableName.starts
