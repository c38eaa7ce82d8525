use Rattle.ship_service.proofs.Granted.{shares_granted}
use Rattle.ship_service.proofs.laws.shares_are_granted.Goals as goal

pub returns : goal.returns
returns g c = shares_granted g.K.TableName.opening g.K.TableName.starts
