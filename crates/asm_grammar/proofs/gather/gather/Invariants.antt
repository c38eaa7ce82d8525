use Rattle.std.proofs.Common.{◌≡◌, ◌≤◌, drop, nat_eq, true}
use Rattle.arrayvec.specs.ArrayVec.{array_vec_len}
use Rattle.asm_text.specs.Tokens.{lexemes_left}
use Rattle.asm_grammar.specs.Reading.{gather_operands, nothing}
use Rattle.asm_grammar.specs.Views.{gathered_seen, look_in}
use Rattle.asm_grammar.proofs.gather.gather.Given as goal

abbrev pub invariant-loop-i : goal.invariant-loop-i
invariant-loop-i l = record {
  so_far : gather_operands (look_in l.labels) l.n (nat_eq l.i 0) (gathered_seen l.g) (drop l.i l.sorts) (lexemes_left l.tokens)
      ≡ gather_operands (look_in l.labels) l.n true nothing l.sorts (lexemes_left l.fn.tokens);
  few : array_vec_len l.g.operands ≤ l.i;
}
