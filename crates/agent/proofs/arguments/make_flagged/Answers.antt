use Rattle.std.proofs.Common.{refl}
use Rattle.agent.specs.CommandLine.{flag_rule}
use Rattle.agent.proofs.Globals.{with_last}
use Rattle.agent.proofs.arguments.make_flagged.Goals as goal

pub returns : goal.returns
returns c = with_last _ _ _ (flag_rule c.args.flag.now) refl c.make_subcommand.ensures c.make_flag.ensures c.arg.result c.arg.ensures
