use Rattle.std.proofs.Common.{◌≡◌, ◌-◌, length}
use Rattle.asm_text.specs.Tokens.{lexemes_left}
use Rattle.asm_grammar.specs.Blame.{first_from}
use Rattle.asm_grammar.proofs.blame.find_first.Given as goal

abbrev pub invariant-loop-found : goal.invariant-loop-found
invariant-loop-found l = record {
  so_far : first_from l.fn.numbers (lexemes_left l.rest) ≡ first_from l.fn.numbers (lexemes_left l.fn.tokens);
  same : lexemes_left l.here ≡ lexemes_left l.rest;
  line : l.rest.line.now ≡ l.fn.tokens.line.now;
  here : l.here.line.now ≡ l.fn.tokens.line.now;
}

abbrev pub decreases-loop-found : goal.decreases-loop-found
decreases-loop-found l = length l.rest.line.now - l.rest.at
