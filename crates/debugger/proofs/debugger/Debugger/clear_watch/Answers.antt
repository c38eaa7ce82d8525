use Rattle.std.proofs.Common.{not}
use Rattle.debugger.specs.DebugState.{is_same_watch}
use Rattle.debugger.proofs.Distinct.{distinct_filter}
use Rattle.debugger.proofs.debugger.Debugger.clear_watch.Goals as goal

pub invariant_of-self : goal.invariant_of-self
invariant_of-self c = (
  c.self.invariant.0,
  distinct_filter is_same_watch (λ other. not (is_same_watch c.at-watch.result other)) c.self.inside.watches.items _
      c.self.invariant.1 (rw c.as_slice-2.ensures.value at c.ranges_but-self-inside.ensures),
)
