use Rattle.std.proofs.Common.{refl}
use Rattle.agent.specs.CommandLine.{budget_option}
use Rattle.agent.specs.OptionNumbers.{number_rule}
use Rattle.agent.proofs.Globals.{with_last}
use Rattle.agent.proofs.arguments.make_run.Goals as goal

pub returns : goal.returns
returns c = with_last _ _ _ (number_rule budget_option) refl c.make_subcommand.ensures c.make_budget.ensures c.arg.result c.arg.ensures
