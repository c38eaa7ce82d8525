use Rattle.shared_objects.proofs.Legal.{has_history}
use Rattle.shared_objects.proofs.laws.tables_have_histories.Goals as goal

pub returns : goal.returns
returns c = has_history
