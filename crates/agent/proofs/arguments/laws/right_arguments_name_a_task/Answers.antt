use Rattle.agent.proofs.Subcommands.{right_names_a_task}
use Rattle.agent.proofs.arguments.laws.right_arguments_name_a_task.Goals as goal

pub returns : goal.returns
returns c = right_names_a_task
