use Rattle.world_laws.proofs.Numbers.{numbers_count_up}
use Rattle.world_laws.proofs.replies.numbers_count_up.Goals as goal

pub returns : goal.returns
returns c = numbers_count_up
