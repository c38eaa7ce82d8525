use Rattle.std.proofs.Common.{◌≡◌, length}
use Rattle.console.specs.Tokens.{tokens_left}
use Rattle.console.proofs.GrantWords.{ReadSoFar}
use Rattle.console.proofs.tokens.Tokens.some_grants.Given as goal

abbrev pub invariant-words : goal.invariant-words
invariant-words l = record {
  count : length l.grants.listed ≡ l.count;
  so_far : ReadSoFar (tokens_left l.fn.self) (tokens_left l.self) l.grants l.last;
}
