use Rattle.std.proofs.Common.{ap, ◌∙◌, subst, None}
use Rattle.workers.specs.Cells.{seat_state, CellState, FitsCell}
use Rattle.workers.proofs.Replayed.{shipped_replayed}
use Rattle.workers.proofs.cell.Locked.ship.Goals as goal

pub invariant_of-self : goal.invariant_of-self
invariant_of-self g c =
    let old = c.self.invariant in let F = FitsCell g.K.TableName.opening g.K.TableName.starts c.self.inside.number (seat_state c.self.inside.seat) in
    let empty : F None = subst F (ap (λ (s : CellState). s.running) c.self.view_is ∙ c.requires) old.2 in (
      old.0,
      old.1,
      shipped_replayed g.K.TableName.opening g.K.TableName.starts c.self.inside.number (seat_state c.self.inside.seat) c.shipped.result
          c.args.program c.args.start c.shipped.ensures.valid c.shipped.ensures.five c.shipped.ensures.is empty.1 empty.0,
    )
