use Rattle.std.proofs.Common.{◌≡◌, false, sym, ◌∙◌}
use Rattle.std.specs.List.{list_any}
use Rattle.debugger.specs.DebugState.{is_same_watch}
use Rattle.debugger.proofs.Distinct.{distinct_push, same_turns}
use Rattle.debugger.proofs.debugger.Debugger.set_watch.Goals as goal

pub invariant_of-self : goal.invariant_of-self
invariant_of-self c =
    let none : list_any (is_same_watch c.at-watch.result) c.self.inside.watches.items ≡ false =
    rw c.as_slice.ensures.value at (sym c.has_range.ensures ∙ c.if-has_range.false) in
    (c.self.invariant.0, distinct_push is_same_watch same_turns _ _ c.at-watch.result c.self.invariant.1 none c.push.ensures.items)
