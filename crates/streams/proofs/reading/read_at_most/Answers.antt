use Rattle.std.proofs.Common.{arith, rules}
use Rattle.streams.proofs.ReadAtMost.{consumes_piece, whole_at_end, whole_at_limit}
use Rattle.streams.proofs.reading.read_at_most.Goals as goal

pub returns-in-Ok-eq0-clause-whole : goal.returns-in-Ok-eq0-clause-whole
returns-in-Ok-eq0-clause-whole g c =
    whole_at_end c.args.limit c.in-Ok-eq0.field-0 _ _ _ c.loop-piece.input.items c.read.new.buf c.in-Ok-eq0.field-0-test (search rules)
    c.loop-piece.invariant.0 c.loop-piece.invariant.1 c.in-Ok-eq0.ensures.bytes

pub returns-then-is_err-clause-consumed : goal.returns-then-is_err-clause-consumed
returns-then-is_err-clause-consumed g c =
    consumes_piece c.args.limit c.in-Ok.n _ _ _ c.loop-piece.input.items c.read.new.buf (search rules) c.loop-piece.invariant.1 c.in-Ok.ensures.bytes.0

pub returns-clause-whole : goal.returns-clause-whole
returns-clause-whole g c = whole_at_limit c.args.limit _ _ c.loop-piece.input.items (omega (
  arith,
  c.loop-piece.invariant.0,
  c.loop-piece-test.false,
)) c.loop-piece.invariant.1
