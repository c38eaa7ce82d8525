use Rattle.ship_service.proofs.Found.{opened_machines_stay}
use Rattle.ship_service.proofs.laws.opened_machines_stay.Goals as goal

pub returns : goal.returns
returns g c = opened_machines_stay g.K.TableName.opening g.K.TableName.starts g.K.TableName.passed
