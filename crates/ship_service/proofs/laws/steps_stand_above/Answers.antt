use Rattle.ship_service.proofs.Rising.{steps_above}
use Rattle.ship_service.proofs.laws.steps_stand_above.Goals as goal

pub returns : goal.returns
returns g c = steps_above g.K.TableName.opening g.K.TableName.starts g.K.TableName.passed
