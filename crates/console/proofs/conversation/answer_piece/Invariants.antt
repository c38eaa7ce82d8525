use Rattle.std.proofs.Common.{◌≡◌, ℕ, List, ◌++◌, length, map, IsFalse}
use Rattle.console.specs.Lines.{IsLine}
use Rattle.console.specs.Held.{clip}
use Rattle.console.specs.Conversations.{AnswersSoFar}
use Rattle.console.specs.StreamCalls.{StreamCalls, line_ends}
use Rattle.console.specs.StreamCalls.StreamCall.{LineWritten}
use Rattle.console.proofs.conversation.answer_piece.Given as goal

abbrev pub invariant-loop-rest : goal.invariant-loop-rest
invariant-loop-rest g l = record {
  open_line : IsFalse l.console.waits;
  answers : (seen : List ℕ) × (l.piece ≡ seen ++ l.rest) × ((line : List ℕ) → IsLine line → l.fn.console.line ≡ clip line →
      AnswersSoFar g.A.Answerer.protocol (g.A.Answerer.state l.fn.answerer) (line
      ++ seen) (g.L.Link.contents l.fn.link l.fn.writer) (g.L.Link.contents l.link l.writer) (g.A.Answerer.state l.answerer) l.console)
      × (replies : List (List ℕ)) × (length replies ≡ line_ends seen)
      × StreamCalls g.L.Link.called l.reader l.fn.writer (map LineWritten replies) l.reader l.writer;
}

abbrev pub decreases-loop-rest : goal.decreases-loop-rest
decreases-loop-rest g l = length l.rest
