use Rattle.shared_objects.proofs.Legal.{one_legal}
use Rattle.shared_objects.proofs.laws.one_lists_are_legal.Goals as goal

pub returns : goal.returns
returns c = one_legal
