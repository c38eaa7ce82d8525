use Rattle.machine.proofs.Granted.{replays_are_confined}
use Rattle.machine.proofs.laws.replays_are_confined.Goals as goal

pub returns : goal.returns
returns c = replays_are_confined
