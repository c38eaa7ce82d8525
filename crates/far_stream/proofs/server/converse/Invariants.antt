use Rattle.std.proofs.Common.{◌≡◌, List, [], length}
use Rattle.far_stream.specs.Conversations.{Turn, TakesTurns}
use Rattle.far_stream.proofs.server.converse.Given as goal

abbrev pub invariant-loop-turns : goal.invariant-loop-turns
invariant-loop-turns g l = (turns : List Turn) × (length turns ≡ l._turns)
    × TakesTurns g.S.Read.remaining g.S.Write.contents l.fn.stream [] turns l.kept.items l.stream
