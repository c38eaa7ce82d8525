use Rattle.std.proofs.Common.{rules}
use Rattle.world.proofs.Lent.{lent_answer, within_answer}
use Rattle.world.proofs.machines.step_over.Goals as goal

pub returns-clause-steps : goal.returns-clause-steps
returns-clause-steps g c = let k = lent_answer (λ m. m.store.now) (λ m. m.store.ghost_name) (λ m. m.who) _ _ _ _ _ _ c.step.ensures.step in
    let t = within_answer _ _ _ _ _ _ _ k.0 in let l = k.1.loan_is in search rules

pub returns-clause-asks : goal.returns-clause-asks
returns-clause-asks g c = let k = lent_answer (λ m. m.store.now) (λ m. m.store.ghost_name) (λ m. m.who) _ _ _ _ _ _ c.step.ensures.step in let t = k.0 in
    let l = k.1.loan_is in search rules
