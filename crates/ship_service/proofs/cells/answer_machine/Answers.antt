use Rattle.std.proofs.Common.{◌≡◌, true, sym, ap, ◌∙◌, refl, subst, inl, inr}
use Rattle.workers.specs.Cells.{CellState, seat_state}
use Rattle.workers.specs.TableNames.Passage.{Lends}
use Rattle.ship_service.specs.Served.{IsCell}
use Rattle.ship_service.proofs.Kept.{answered_number, cell_now}
use Rattle.ship_service.proofs.cells.answer_machine.Goals as goal

pub returns-then-resumes-clause-serves : goal.returns-then-resumes-clause-serves
returns-then-resumes-clause-serves g c =
    let was = subst (IsCell g.K.TableName.opening g.K.TableName.starts c.args.machine) (sym c.deref_mut.ensures.value) c.in-Some.ensures.some in
    let t = c.answer_lent-said.ensures.answers in
    inr record {
      before = c.deref_mut.result.now;
      left = c.answer_lent-said.new.locked;
      answered = seat_state c.answer_lent-said.new.seat;
      after = c.go_on.ensures.goes.0;
      said = c.answer_lent-said.result;
      holds = record {
        before_is = was;
        after_is = subst (IsCell g.K.TableName.opening g.K.TableName.starts c.args.machine) c.deref.ensures
            (cell_now _ _ _ c.deref.result.now (ap (λ (x : CellState). x.number) c.deref.ensures
            ∙ (answered_number _ _ _ _ _ _ _ t ∙ was.number_is)) c.fact.ensures.number c.fact.ensures.opening c.fact.ensures.stamped c.fact.ensures.fits);
        lends = subst (λ (s : CellState). g.K.TableName.passed (Lends s) ≡ true) (sym c.deref_mut.ensures.value) c.in-Some.ensures.lent;
        leaves = c.give_back.ensures;
      };
      reply_is = refl;
      answers = t;
      goes_on = inl (c.resumes.ensures.yes c.if-resumes.true, c.go_on.ensures.goes.1);
    }

pub returns-clause-serves : goal.returns-clause-serves
returns-clause-serves g c =
    let was = subst (IsCell g.K.TableName.opening g.K.TableName.starts c.args.machine) (sym c.deref_mut.ensures.value) c.in-Some.ensures.some in
    let t = c.answer_lent-said.ensures.answers in
    inr record {
      before = c.deref_mut.result.now;
      left = c.answer_lent-said.new.locked;
      answered = seat_state c.answer_lent-said.new.seat;
      after = c.answer_lent-said.new.locked;
      said = c.answer_lent-said.result;
      holds = record {
        before_is = was;
        after_is = subst (IsCell g.K.TableName.opening g.K.TableName.starts c.args.machine) c.deref.ensures
            (cell_now _ _ _ c.deref.result.now (ap (λ (x : CellState). x.number) c.deref.ensures
            ∙ (answered_number _ _ _ _ _ _ _ t ∙ was.number_is)) c.fact.ensures.number c.fact.ensures.opening c.fact.ensures.stamped c.fact.ensures.fits);
        lends = subst (λ (s : CellState). g.K.TableName.passed (Lends s) ≡ true) (sym c.deref_mut.ensures.value) c.in-Some.ensures.lent;
        leaves = c.give_back.ensures;
      };
      reply_is = refl;
      answers = t;
      goes_on = inr (c.resumes.ensures.no c.if-resumes.false, refl, refl);
    }
