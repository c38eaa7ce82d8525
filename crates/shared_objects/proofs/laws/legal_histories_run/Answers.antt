use Rattle.shared_objects.proofs.Legal.{one_run}
use Rattle.shared_objects.proofs.laws.legal_histories_run.Goals as goal

pub returns : goal.returns
returns c = one_run
