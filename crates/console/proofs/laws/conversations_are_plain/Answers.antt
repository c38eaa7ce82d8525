use Rattle.world.proofs.Undebugged_runs.{neither_changes_anything}
use Rattle.console.proofs.laws.conversations_are_plain.Goals as goal

pub returns : goal.returns
returns c = λ old new input output rest e. neither_changes_anything _ _ _ _ e.run
