use Rattle.std.proofs.Common.{◌≡◌, ◌++◌, drop}
use Rattle.std.specs.String.{string_bytes}
use Rattle.agent.specs.AsmLeaves.{text_of_bytes}
use Rattle.agent.proofs.assembly.assembling.text_of.Given as goal

abbrev pub invariant-loop-b : goal.invariant-loop-b
invariant-loop-b l = string_bytes l.text ++ text_of_bytes (drop l.b-index l.bytes) ≡ text_of_bytes l.bytes
