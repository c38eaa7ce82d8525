use Rattle.std.proofs.Common.{◌≡◌, drop, nat_eq, true}
use Rattle.asm_text.specs.Tokens.{lexemes_left}
use Rattle.asm_grammar.specs.Wanting.{wanted_from}
use Rattle.asm_grammar.proofs.wanted.wanted_operand.Given as goal

abbrev pub invariant-loop-i : goal.invariant-loop-i
invariant-loop-i l = wanted_from l.why (nat_eq l.i 0) (drop l.i l.sorts) (lexemes_left l.rest) ≡ wanted_from l.fn.why true l.sorts (lexemes_left l.fn.tokens)
