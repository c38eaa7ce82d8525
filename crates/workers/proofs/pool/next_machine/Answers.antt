use Rattle.workers.proofs.Coming.{machines_step}
use Rattle.workers.proofs.pool.next_machine.Goals as goal

pub returns-clause-machine : goal.returns-clause-machine
returns-clause-machine g c = (machines_step g.K.TableName.starts c.args._before c.args.left.now c.next.new.self c.next.result c.next.ensures.cases c.requires).0

pub returns-clause-rest : goal.returns-clause-rest
returns-clause-rest g c = (machines_step g.K.TableName.starts c.args._before c.args.left.now c.next.new.self c.next.result c.next.ensures.cases c.requires).1
