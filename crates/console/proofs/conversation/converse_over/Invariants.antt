use Rattle.std.proofs.Common.{ℕ, List, ◌++◌}
use Rattle.std.specs.Io.KnownBytes.{Consumes}
use Rattle.console.specs.Held.{held_bytes}
use Rattle.console.specs.Conversations.{AnswersSoFar}
use Rattle.console.specs.StreamCalls.{StreamCall, StreamCalls, Rounds}
use Rattle.console.proofs.conversation.converse_over.Given as goal

abbrev pub invariant-loop-reads : goal.invariant-loop-reads
invariant-loop-reads g l = (seen : List ℕ) × Consumes (g.L.Link.remaining l.fn.reader) (g.L.Link.remaining l.reader) seen
    × AnswersSoFar g.A.Answerer.protocol (g.A.Answerer.state l.fn.answerer) (held_bytes l.fn.console
    ++ seen) (g.L.Link.contents l.fn.link l.fn.writer) (g.L.Link.contents l.link l.writer) (g.A.Answerer.state l.answerer) l.console
    × (calls : List StreamCall) × StreamCalls g.L.Link.called l.fn.reader l.fn.writer calls l.reader l.writer × Rounds l.fn.console.waits l._reads calls
