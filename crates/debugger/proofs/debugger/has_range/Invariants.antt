use Rattle.std.proofs.Common.{◌≡◌, false, take}
use Rattle.std.specs.List.{list_any}
use Rattle.debugger.specs.DebugState.{is_same_watch}
use Rattle.debugger.proofs.debugger.has_range.Given as goal

abbrev pub invariant-loop-w : goal.invariant-loop-w
invariant-loop-w l = list_any (is_same_watch l.watch) (take l.w-index l.watches) ≡ false
