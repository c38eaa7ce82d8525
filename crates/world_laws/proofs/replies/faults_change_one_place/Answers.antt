use Rattle.world_laws.proofs.Faults.{faults_keep}
use Rattle.world_laws.proofs.replies.faults_change_one_place.Goals as goal

pub returns : goal.returns
returns c = faults_keep
