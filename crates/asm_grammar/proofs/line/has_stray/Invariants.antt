use Rattle.std.proofs.Common.{◌≡◌, ◌-◌, length}
use Rattle.asm_text.specs.Tokens.{lexemes_left, tokens}
use Rattle.asm_grammar.specs.Grammar.{has_stray}
use Rattle.asm_grammar.proofs.line.has_stray.Given as goal

abbrev pub invariant-loop-found : goal.invariant-loop-found
invariant-loop-found l = has_stray (lexemes_left l.rest) ≡ has_stray (tokens l.line)

abbrev pub decreases-loop-found : goal.decreases-loop-found
decreases-loop-found l = length l.rest.line.now - l.rest.at
