use Rattle.console.proofs.CommandReading.{reads_named}
use Rattle.console.proofs.commands.read_tokens.Goals as goal

pub returns-in-Some : goal.returns-in-Some
returns-in-Some c = reads_named _ _ _ _ _ c.in_ok-name.ensures.ok c.in-Some.ensures c.read_parameters.ensures
