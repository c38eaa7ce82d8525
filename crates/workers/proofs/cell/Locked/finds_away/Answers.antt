use Rattle.std.proofs.Common.{ℕ, List, refl, sym, subst, arith}
use Rattle.shared_objects.specs.Kinds.{Witness}
use Rattle.shared_objects.specs.Phases.{IsObject}
use Rattle.shared_objects.specs.Tables.{table_returns}
use Rattle.workers.specs.Cells.{CellState}
use Rattle.workers.specs.Cells.SeesAway.{NoObject, Looked}
use Rattle.workers.proofs.cell.Locked.finds_away.Goals as goal

pub returns-then-length-eq0-clause-away : goal.returns-then-length-eq0-clause-away
returns-then-length-eq0-clause-away g c =
    NoObject (λ o. let p = subst (λ x. IsObject x c.args.object) (sym c.requires.1) o in omega (arith, p, c.length.ensures.length, c.if-length-eq0.true)) refl

pub returns-clause-away : goal.returns-clause-away
returns-clause-away g c =
    let R = table_returns c.args.shared.now in let n : ℕ = c.args.object in
    let seen = subst (λ (o : List (List ℕ)). Witness R o c.self.inside.seat.seat.me.0 n c.look.result) c.requires.1 c.look.ensures.rule in
    Looked c.look.result (subst (λ (s : CellState). Witness R g.K.TableName.opening s.seat.view n c.look.result) c.self.view_is seen) c.is_away.ensures
