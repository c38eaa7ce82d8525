use Rattle.shared_objects.proofs.Learnt.{stamps_cover}
use Rattle.shared_objects.proofs.laws.stamps_cover.Goals as goal

pub returns : goal.returns
returns c = stamps_cover
