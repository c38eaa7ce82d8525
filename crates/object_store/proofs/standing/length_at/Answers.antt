use Rattle.std.proofs.Common.{length, ap, sym, ◌∙◌, arith}
use Rattle.object_store.specs.Bodies.{bytes_in}
use Rattle.object_store.proofs.Listed.{bytes_at, no_bytes_at}
use Rattle.object_store.proofs.standing.length_at.Goals as goal

pub returns-then-number-bodies-clause-value : goal.returns-then-number-bodies-clause-value
returns-then-number-bodies-clause-value g c = sym (ap length (no_bytes_at c.args.bodies.now c.args.number (omega arith)))

pub returns-clause-value : goal.returns-clause-value
returns-clause-value g c = c.len.ensures
    ∙ ap length (ap bytes_in c.index-bodies-number.is ∙ bytes_at c.args.bodies.now c.args.number c.index-bodies-number.result (omega arith))
