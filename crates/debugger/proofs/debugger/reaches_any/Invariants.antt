use Rattle.std.proofs.Common.{◌≡◌, false, take}
use Rattle.std.specs.List.{list_any}
use Rattle.debugger.specs.DebugState.{overlaps}
use Rattle.debugger.proofs.debugger.reaches_any.Given as goal

abbrev pub invariant-loop-w : goal.invariant-loop-w
invariant-loop-w l = list_any (overlaps l.written) (take l.w-index l.watches) ≡ false
