use Rattle.std.proofs.Common.{◌≡◌, true, ◌+◌, refl, sym, ◌∙◌, ap, subst, inr, None}
use Rattle.workers.specs.Cells.{CellState}
use Rattle.workers.specs.TableNames.Passage.{Lends}
use Rattle.ship_service.specs.Served.{IsCell}
use Rattle.ship_service.proofs.Kept.{shipped_number, cell_now}
use Rattle.ship_service.proofs.cells.ship.Goals as goal

pub returns : goal.returns
returns g c =
    let found = c.in-Ok.ensures.found in let same = sym c.deref_mut.ensures.value in let t = c.ship_lent-said.ensures in
    let was = subst (IsCell g.K.TableName.opening g.K.TableName.starts (c.in-Ok.found.1 + 1)) same found.1 in
    inr record {
      lesser = c.in-Ok.found.1;
      lent_before = c.fact-2.ensures;
      before = c.deref_mut.result.now;
      after = c.ship_lent-said.new.locked;
      said = c.ship_lent-said.result;
      exists = found.0;
      holds = record {
        before_is = was;
        after_is = subst (IsCell g.K.TableName.opening g.K.TableName.starts (c.in-Ok.found.1 + 1)) c.deref.ensures
            (cell_now _ _ _ c.deref.result.now (ap (λ (x : CellState). x.number) c.deref.ensures
            ∙ (shipped_number _ _ _ _ _ t ∙ was.number_is)) c.fact-3.ensures.number c.fact-3.ensures.opening c.fact-3.ensures.stamped c.fact-3.ensures.fits);
        lends = subst (λ (s : CellState). g.K.TableName.passed (Lends s) ≡ true) same c.in-Ok.ensures.lent;
        leaves = c.give_back.ensures;
      };
      empty = subst (λ (x : CellState). x.running ≡ None) same found.2;
      reply_is = refl;
      ships = t;
    }
