use Rattle.std.proofs.Common.{◌≡◌, ◌≤◌, ◌+◌, ◌++◌, length, Ok}
use Rattle.std.specs.Str.Lines.{lines}
use Rattle.asm_grammar.specs.Grammar.{Look}
use Rattle.asm_grammar.specs.Views.{look_in}
use Rattle.assembler.specs.Passes.{outlined, assembled, onto}
use Rattle.assembler.proofs.passes.assemble_all.Given as goal

abbrev pub decreases-loop-line : goal.decreases-loop-line
decreases-loop-line l = length l.rest

abbrev pub invariant-loop-line : goal.invariant-loop-line
invariant-loop-line l = record {
  so_far : onto (λ is. l.code.items ++ is) (assembled (l.number + 1) (look_in l.labels) l.slot (lines l.rest))
      ≡ assembled 1 (look_in l.labels) 0 (lines l.fn.text);
  sound : (before : Look) × (outlined (l.number + 1) before l.slot (lines l.rest) ≡ Ok (look_in l.labels));
  slot : l.slot ≤ 4096;
  number : l.number + length l.rest ≤ length l.fn.text;
}
