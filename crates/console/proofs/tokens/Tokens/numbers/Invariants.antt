use Rattle.std.proofs.Common.{◌≡◌, take, length}
use Rattle.console.specs.Tokens.{tokens_left, AreNumbers}
use Rattle.console.proofs.tokens.Tokens.numbers.Given as goal

abbrev pub invariant-loop-i : goal.invariant-loop-i
invariant-loop-i l = record {
  room : length l.numbers ≡ 6;
  so_far : AreNumbers (take l.i l.limits) (tokens_left l.fn.self) (take l.i l.numbers) (tokens_left l.self);
}
