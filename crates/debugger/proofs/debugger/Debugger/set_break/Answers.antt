use Rattle.std.proofs.Common.{◌≡◌, nat_eq, false, sym, ◌∙◌}
use Rattle.std.specs.List.{list_any}
use Rattle.debugger.proofs.Distinct.{distinct_push, nat_eq_turns}
use Rattle.debugger.proofs.debugger.Debugger.set_break.Goals as goal

pub invariant_of-self : goal.invariant_of-self
invariant_of-self c =
    let none : list_any (nat_eq c.args.slot) c.self.inside.breakpoints.items ≡ false =
    rw c.as_slice.ensures.value at (sym c.has_slot.ensures ∙ c.if-has_slot.false) in
    (distinct_push nat_eq nat_eq_turns _ _ c.args.slot c.self.invariant.0 none c.push.ensures.items, c.self.invariant.1)
