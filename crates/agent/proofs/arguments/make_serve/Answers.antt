use Rattle.std.proofs.Common.{refl, codes}
use Rattle.agent.specs.CommandLine.{budget_option, connections_option, far_rule, far_timeout_option, flag_rule, keep_option, port_option, unix_rule, verbose_rule, workers_option}
use Rattle.agent.specs.OptionNumbers.{number_rule}
use Rattle.agent.proofs.Globals.{with_arg, with_last}
use Rattle.agent.proofs.arguments.make_serve.Goals as goal

pub returns : goal.returns
returns c =
    let port = with_arg _ _ _ (number_rule port_option) refl c.make_subcommand.ensures c.make_port.ensures _ c.in_ok-arg.ensures in
    let unix = with_arg _ _ _ unix_rule refl port c.make_unix.ensures _ c.in_ok-arg-2.ensures in
    let connections = with_arg _ _ _ (number_rule connections_option) refl unix c.make_connections.ensures _ c.in_ok-arg-3.ensures in
    let workers = with_arg _ _ _ (number_rule workers_option) refl connections c.make_workers.ensures _ c.in_ok-arg-4.ensures in
    let budget = with_arg _ _ _ (number_rule budget_option) refl workers c.make_budget.ensures _ c.in_ok-arg-5.ensures in
    let sweep = with_arg _ _ _ (flag_rule (codes "sweep")) refl budget c.make_flag.ensures _ c.in_ok-arg-6.ensures in
    let keep = with_arg _ _ _ (number_rule keep_option) refl sweep c.make_keep.ensures _ c.in_ok-arg-7.ensures in
    let far = with_arg _ _ _ far_rule refl keep c.make_far.ensures _ c.in_ok-arg-8.ensures in
    let far_timeout = with_arg _ _ _ (number_rule far_timeout_option) refl far c.make_far_timeout.ensures _ c.in_ok-arg-9.ensures in
    with_last _ _ _ verbose_rule refl far_timeout c.make_verbose.ensures c.arg-10.result c.arg-10.ensures
