use Rattle.std.proofs.Common.{ℕ, sym, ◌∙◌, subst, arith}
use Rattle.placement.specs.declared.places.Moved.TheVariants.{NoObject}
use Rattle.shared_objects.specs.Phases.{IsObject}
use Rattle.shared_objects.specs.declared.view.View.{View}
use Rattle.workers.specs.Moves.{MoverState, MovesOne}
use Rattle.workers.proofs.Placing.{none_moved}
use Rattle.workers.proofs.movers.Mover.one_landing.Goals as goal

pub returns-then-length-eq0-clause-moves : goal.returns-then-length-eq0-clause-moves
returns-then-length-eq0-clause-moves g c =
    let v : View = c.self.inside.seat.seat.me.0 in let n : ℕ = c.args.number in
    subst (λ (s : MoverState g.row.F.Denot). MovesOne c.args.direction s.view n NoObject s.view) c.self.view_is
    (none_moved c.args.direction v n (λ o.
    let p = subst (λ x. IsObject x n) (c.self.invariant.0.1.0 ∙ sym c.table-shared.ensures.of.1) o in
    omega (arith, p, c.length.ensures.length, c.if-length-eq0.true)))
