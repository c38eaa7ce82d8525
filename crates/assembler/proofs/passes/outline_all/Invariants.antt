use Rattle.std.proofs.Common.{◌≡◌, ◌≤◌, ◌+◌, length}
use Rattle.std.specs.Str.Lines.{lines}
use Rattle.asm_grammar.specs.Views.{look_in, AllBelow}
use Rattle.assembler.specs.Passes.{outlined, nowhere}
use Rattle.assembler.proofs.passes.outline_all.Given as goal

abbrev pub decreases-loop-line : goal.decreases-loop-line
decreases-loop-line l = length l.rest

abbrev pub invariant-loop-line : goal.invariant-loop-line
invariant-loop-line l = record {
  so_far : outlined (l.number + 1) (look_in l.labels) l.slot (lines l.rest) ≡ outlined 1 nowhere 0 (lines l.fn.text);
  slots : AllBelow l.labels;
  slot : l.slot ≤ 4096;
  number : l.number + length l.rest ≤ length l.fn.text;
}
