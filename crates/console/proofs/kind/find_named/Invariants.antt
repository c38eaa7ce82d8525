use Rattle.std.proofs.Common.{◌≡◌, drop}
use Rattle.console.specs.Commands.{first_named}
use Rattle.console.proofs.kind.find_named.Given as goal

abbrev pub invariant-loop-kind : goal.invariant-loop-kind
invariant-loop-kind l = first_named l.name (drop l.kind-index l.kinds) ≡ first_named l.name l.kinds
