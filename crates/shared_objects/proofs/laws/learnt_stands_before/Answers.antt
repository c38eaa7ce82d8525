use Rattle.shared_objects.proofs.Learnt.{learnt_before}
use Rattle.shared_objects.proofs.laws.learnt_stands_before.Goals as goal

pub returns : goal.returns
returns c = learnt_before
