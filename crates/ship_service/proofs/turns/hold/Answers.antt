use Rattle.std.proofs.Common.{◌≡◌, true, sym, ap, ◌∙◌, subst}
use Rattle.workers.specs.Cells.{CellState}
use Rattle.workers.specs.TableNames.Passage.{Lends}
use Rattle.ship_service.specs.Served.{IsCell}
use Rattle.ship_service.proofs.Kept.{cell_now, turned_number}
use Rattle.ship_service.proofs.turns.hold.Goals as goal

pub returns-clause-takes : goal.returns-clause-takes
returns-clause-takes g c =
    let was = subst (IsCell g.K.TableName.opening g.K.TableName.starts c.args.machine) (sym c.deref_mut.ensures.value) c.in-Some.ensures.some in
    let t = c.take_and_learn-on.ensures in (
      c.take_and_learn-on.new.locked,
      record {
        before = c.deref_mut.result.now;
        holds = record {
          before_is = was;
          after_is = subst (IsCell g.K.TableName.opening g.K.TableName.starts c.args.machine) c.deref.ensures
              (cell_now _ _ _ c.deref.result.now (ap (λ (x : CellState). x.number) c.deref.ensures
              ∙ (turned_number _ _ _ t.turn ∙ was.number_is)) c.fact.ensures.number c.fact.ensures.opening c.fact.ensures.stamped c.fact.ensures.fits);
          lends = subst (λ (s : CellState). g.K.TableName.passed (Lends s) ≡ true) (sym c.deref_mut.ensures.value) c.in-Some.ensures.lent;
          leaves = c.give_back.ensures;
        };
        turn = t.turn;
        learns = t.learns;
      },
    )
