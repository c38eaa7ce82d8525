use Rattle.std.proofs.Common.{sym, ap, ◌∙◌, subst, Some}
use Rattle.debugger.specs.Debuggees.{AnswersStep}
use Rattle.workers.specs.Cells.{SeatState, seat_state, seat_acts, CellState, FitsCell}
use Rattle.workers.proofs.Replayed.{stays_replayed, answer_actor}
use Rattle.workers.proofs.cell.Locked.step.Goals as goal

pub invariant_of-self-2 : goal.invariant_of-self-2
invariant_of-self-2 g c =
    let old = c.self.invariant in let F = FitsCell g.K.TableName.opening g.K.TableName.starts c.self.inside.number (seat_state c.self.inside.seat) in
    let was : F (Some c.in_ok-running.running.now) = subst F (sym c.in_ok-running.ensures.value) old.2 in (
      (c.step.ensures.seat.0 ∙ c.requires.0, c.step.ensures.seat.1 ∙ c.requires.1),
      answer_actor c.args.way _ _ _ _ _ c.step.ensures.step ∙ old.1,
      stays_replayed g.K.TableName.opening g.K.TableName.starts c.self.inside.number c.args.way _ _ _ _ _ old.0.1 c.step.ensures.step c.step.ensures.same was,
    )

pub returns-clause-step : goal.returns-clause-step
returns-clause-step g c = record {
  before = c.in_ok-running.running.now;
  after = c.step.new.self;
  seat = seat_state c.step.new.seat;
  had = ap (λ (s : CellState). s.running) (sym c.self.view_is) ∙ sym c.in_ok-running.ensures.value;
  step = subst (λ (s : SeatState). AnswersStep seat_acts c.args.way c.in_ok-running.running.now.debuggee s c.step.result c.step.new.self.debuggee
      (seat_state c.step.new.seat)) (ap (λ (s : CellState). s.seat) c.self.view_is) c.step.ensures.step;
  same = c.step.ensures.same;
  becomes = ap (λ (s : CellState). record s { seat = seat_state c.step.new.seat; running = Some c.step.new.self }) c.self.view_is;
}
