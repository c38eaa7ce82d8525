use Rattle.std.proofs.Common.{◌∙◌, ap}
use Rattle.clap.specs.Words.{found_of}
use Rattle.agent.specs.CommandLine.{is_told}
use Rattle.agent.proofs.Given.{source_of_rows}
use Rattle.agent.proofs.arguments.is_given.Goals as goal

pub returns : goal.returns
returns c = c.is_told.ensures ∙ ap is_told (c.value_source.ensures ∙ source_of_rows (found_of c.args.matches.now) c.args.name.now)
