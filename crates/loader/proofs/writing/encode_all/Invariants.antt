use Rattle.std.proofs.Common.{◌≡◌, ◌++◌, drop}
use Rattle.loader.specs.Instructions.{encodings}
use Rattle.loader.proofs.writing.encode_all.Given as goal

abbrev pub invariant-loop-i : goal.invariant-loop-i
invariant-loop-i l = l.code.items ++ encodings (drop l.i-index l.instrs) ≡ encodings l.instrs
