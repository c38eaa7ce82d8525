use Rattle.std.proofs.Common.{refl, codes}
use Rattle.agent.specs.CommandLine.{flag_rule}
use Rattle.agent.proofs.Globals.{with_arg, with_last}
use Rattle.agent.proofs.arguments.make_dis.Goals as goal

pub returns : goal.returns
returns c =
    let slots = with_arg _ _ _ (flag_rule (codes "slots")) refl c.make_subcommand.ensures c.make_flag.ensures _ c.in_ok-arg.ensures in
    with_last _ _ _ (flag_rule (codes "llvm")) refl slots c.make_flag-2.ensures c.arg-2.result c.arg-2.ensures
