use Rattle.std.proofs.Common.{◌≡◌, drop, nat_eq, true}
use Rattle.asm_text.specs.Tokens.{lexemes_left}
use Rattle.asm_grammar.specs.Blame.{operand_from}
use Rattle.asm_grammar.proofs.blame.find_operand.Given as goal

abbrev pub invariant-loop-i : goal.invariant-loop-i
invariant-loop-i l = record {
  so_far : operand_from l.why (nat_eq l.i 0) (drop l.i l.sorts) (lexemes_left l.rest) ≡ operand_from l.fn.why true l.sorts (lexemes_left l.fn.tokens);
  line : l.rest.line.now ≡ l.fn.tokens.line.now;
}
