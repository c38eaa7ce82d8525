use Rattle.shared_objects.proofs.Few.{counts_few}
use Rattle.shared_objects.proofs.laws.counts_stay_few.Goals as goal

pub returns : goal.returns
returns c = counts_few
