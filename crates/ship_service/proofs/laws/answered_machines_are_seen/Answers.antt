use Rattle.ship_service.proofs.Seen.{answered_seen}
use Rattle.ship_service.proofs.laws.answered_machines_are_seen.Goals as goal

pub returns : goal.returns
returns g c = answered_seen g.K.TableName.opening g.K.TableName.starts g.K.TableName.passed
