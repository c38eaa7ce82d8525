use Rattle.std.proofs.Common.{rules, ap, ◌∙◌}
use Rattle.workers.specs.Cells.{RunningState}
use Rattle.workers.proofs.Seated.{seat_answer}
use Rattle.workers.proofs.Replayed.{answer_keeps}
use Rattle.workers.proofs.running.Running.step.Goals as goal

pub returns-clause-seat : goal.returns-clause-seat
returns-clause-seat c =
    let k = seat_answer (λ m. m.seat.now.seat.me.0) (λ m. m.seat.now.stamp) (λ m. m.seat.ghost_name) (λ m. m.shared) _ _ _ _ _ _ c.step.ensures.step in
    let l = k.1.loan_is in let t = ap (λ b. b.now) k.1.table_is in let r = c.step.ensures.ready in search rules

pub returns-clause-step : goal.returns-clause-step
returns-clause-step c =
    let k = seat_answer (λ m. m.seat.now.seat.me.0) (λ m. m.seat.now.stamp) (λ m. m.seat.ghost_name) (λ m. m.shared) _ _ _ _ _ _ c.step.ensures.step in
    let a = k.0 in let l = k.1.loan_is in let v = ap (λ (r : RunningState). r.debuggee) c.self.view_is in search rules

pub returns-clause-same : goal.returns-clause-same
returns-clause-same c =
    let k = seat_answer (λ m. m.seat.now.seat.me.0) (λ m. m.seat.now.stamp) (λ m. m.seat.ghost_name) (λ m. m.shared) _ _ _ _ _ _ c.step.ensures.step in
    answer_keeps c.args.way _ _ _ _ _ c.self.inside.shipment c.frames.ensures.whole k.0 ∙ ap (λ (r : RunningState). r.shipped) c.self.view_is
