use Rattle.std.proofs.Common.{refl}
use Rattle.agent.specs.CommandLine.{idle_option, memory_option, port_option, verbose_rule}
use Rattle.agent.specs.OptionNumbers.{number_rule}
use Rattle.agent.proofs.Globals.{with_arg, with_last}
use Rattle.agent.proofs.arguments.make_store.Goals as goal

pub returns : goal.returns
returns c =
    let port = with_arg _ _ _ (number_rule port_option) refl c.make_subcommand.ensures c.make_port.ensures _ c.in_ok-arg.ensures in
    let idle = with_arg _ _ _ (number_rule idle_option) refl port c.make_idle.ensures _ c.in_ok-arg-2.ensures in
    let memory = with_arg _ _ _ (number_rule memory_option) refl idle c.make_memory.ensures _ c.in_ok-arg-3.ensures in
    with_last _ _ _ verbose_rule refl memory c.make_verbose.ensures c.arg-4.result c.arg-4.ensures
