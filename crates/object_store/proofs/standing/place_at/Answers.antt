use Rattle.std.proofs.Common.{sym, ap, ◌∙◌, arith}
use Rattle.object_store.specs.Bodies.{place_in}
use Rattle.object_store.proofs.Listed.{place_at}
use Rattle.object_store.proofs.standing.place_at.Goals as goal

pub returns-clause-some : goal.returns-clause-some
returns-clause-some g c = (
  omega (arith, c.length_at.ensures.value),
  sym (c.place.ensures ∙ ap place_in c.index-bodies-number.is
      ∙ place_at c.args.bodies.now c.args.number c.index-bodies-number.result (c.length_at.ensures.found (omega arith))),
)
