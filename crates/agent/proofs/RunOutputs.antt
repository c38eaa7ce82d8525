-- What a whole conversation of `run` says.
use Rattle.std.proofs.Common.{ℕ, List, ◌++◌, ap, ◌∙◌}
use Rattle.world.specs.WorldState.{WorldState, world_start}
use Rattle.world.proofs.Undebugged_runs.{neither_changes_anything}
use Rattle.console.specs.Agent.{agent}
use Rattle.console.specs.Conversations.{Converses}
use Rattle.console.specs.Lines.{cut_of}
use Rattle.agent.specs.Theorems.{IsRunOf, RunTheorem}

pub is_run : (budget : ℕ) (input output : List ℕ) (end : WorldState) → Converses agent (world_start budget 0) input output end → IsRunOf budget input output end
is_run budget input output end h = let e = h.2 in record {
  turns = e.turns;
  rest = h.1;
  heard = e.heard;
  unended = h.3;
  written = h.4 ∙ ap (λ (w : List ℕ). w ++ cut_of h.1) e.written;
  each = e.each;
  run = e.run;
  plain = neither_changes_anything _ _ _ _ e.run;
}

pub run_theorem : RunTheorem
run_theorem budget input before after unread done h = (h.1.0, h.0, h.1.1, is_run budget input h.1.0 h.0 h.1.2)
