use Rattle.std.proofs.Common.{nat_eq, not}
use Rattle.debugger.proofs.Distinct.{distinct_filter}
use Rattle.debugger.proofs.debugger.Debugger.clear_break.Goals as goal

pub invariant_of-self : goal.invariant_of-self
invariant_of-self c = (
  distinct_filter nat_eq (λ other. not (nat_eq c.args.slot other)) c.self.inside.breakpoints.items _ c.self.invariant.0
      (rw c.as_slice-2.ensures.value at c.slots_but-self-inside.ensures),
  c.self.invariant.1,
)
