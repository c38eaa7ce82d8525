use Rattle.std.proofs.Common.{sym, ap, ◌∙◌, subst, Some}
use Rattle.debugger.specs.Running.{RunsUpTo}
use Rattle.workers.specs.Cells.{SeatState, seat_state, seat_acts, CellState, FitsCell, RunsCell}
use Rattle.workers.proofs.Chained.{run_replayed, run_actor, cell_runs}
use Rattle.workers.proofs.cell.Locked.run.Goals as goal

pub invariant_of-self-2 : goal.invariant_of-self-2
invariant_of-self-2 g c =
    let old = c.self.invariant in let F = FitsCell g.K.TableName.opening g.K.TableName.starts c.self.inside.number (seat_state c.self.inside.seat) in
    let was : F (Some c.in_ok-running.running.now) = subst F (sym c.in_ok-running.ensures.value) old.2 in (
      (c.run.ensures.seat.0 ∙ c.requires.0, c.run.ensures.seat.1 ∙ c.requires.1),
      run_actor _ _ _ _ _ _ _ c.run.ensures.runs ∙ old.1,
      run_replayed g.K.TableName.opening g.K.TableName.starts c.self.inside.number _ _ _ _ _ _ _ old.0.1 c.run.ensures.runs c.run.ensures.same was,
    )

pub returns-clause-run : goal.returns-clause-run
returns-clause-run g c =
    let ran = c.run.result.ran in let end = c.run.result.end in let seat = seat_state c.run.new.seat in
    let had = ap (λ (s : CellState). s.running) (sym c.self.view_is) ∙ sym c.in_ok-running.ensures.value in
    let runs = subst (λ (s : SeatState). RunsUpTo seat_acts c.args.most c.in_ok-running.running.now.debuggee s ran end c.run.new.self.debuggee seat)
    (ap (λ (s : CellState). s.seat) c.self.view_is) c.run.ensures.runs in
    subst (λ (s : CellState). RunsCell c.args.most c.args.self.now ran end (record s { seat = seat; running = Some c.run.new.self })) (sym c.self.view_is)
    (cell_runs c.args.self.now c.in_ok-running.running.now c.run.new.self seat c.args.most ran end had c.run.ensures.same runs)
