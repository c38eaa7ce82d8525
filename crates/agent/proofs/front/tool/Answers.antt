use Rattle.std.proofs.Common.{◌≡◌, ℕ, Some, ◌∙◌, subst, sym}
use Rattle.std.proofs.KnownBytes.{Keeps-refl}
use Rattle.clap.specs.Words.{kind_of}
use Rattle.agent.specs.TaskLeaves.{StreamStates, TaskLeaves}
use Rattle.agent.specs.declared.arguments.Task.{Task}
use Rattle.agent.proofs.OutOfMemory.{memory_leaves}
use Rattle.agent.proofs.front.tool.Goals as goal

-- ---- there was no memory to read the arguments, or they are wrong

pub returns-in-Err-clause-right : goal.returns-in-Err-clause-right
returns-in-Err-clause-right g c task right asked =
    memory_leaves task (g.R.Read.remaining c.args.reader.now) _ _ _ _ _ c.in-Err.error c.show_answer.result _ right c.in-Err.ensures.err
    c.show_answer.ensures c.number-in-Err.ensures

pub returns-in-Err-clause-wrong : goal.returns-in-Err-clause-wrong
returns-in-Err-clause-wrong g c wrong =
    ((kind_of c.in-Err.error, c.show_answer.result, c.in-Err.ensures.err, c.show_answer.ensures, c.number-in-Err.ensures), Keeps-refl (g.R.Read.remaining c.args.reader.now))

-- ---- a task was done

-- the task that was done is the one that was asked for
same_left : (done found asked : Task) → done ≡ found → Some found ≡ Some asked → (s : StreamStates) (number status : ℕ) → number ≡ status
    → TaskLeaves done s status → TaskLeaves asked s number
same_left done found asked done_is is s number status number_is left = let same : done ≡ asked = cc in
    subst (λ task. TaskLeaves task s number) same (subst (TaskLeaves done s) (sym number_is) left)

pub returns-in-Ok-clause-right : goal.returns-in-Ok-clause-right
returns-in-Ok-clause-right g c task right asked =
    same_left _ _ task c.task.ensures (sym c.in-Ok.ensures.ok.1 ∙ asked) _ _ _ c.number.ensures c.do_task.ensures
