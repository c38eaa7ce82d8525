use Rattle.far_server.proofs.Telling.{nothing_told, told_next}
use Rattle.far_server.proofs.listening.tell_all.Goals as goal

pub loop-init : goal.loop-init
loop-init g c = nothing_told _

pub loop-preserved : goal.loop-preserved
loop-preserved g c = told_next _ _ _ _ _ c.loop.invariant c.tell.ensures
