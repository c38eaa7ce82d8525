use Rattle.debugger.proofs.debugger.Debugger.apply.Goals as goal

pub returns-in-Break : goal.returns-in-Break
returns-in-Break c = rw c.in-Break.is c.set_break.ensures

pub returns-in-Unbreak : goal.returns-in-Unbreak
returns-in-Unbreak c = rw c.in-Unbreak.is (c.clear_break.ensures c.args.program.now)

pub returns-in-Watch : goal.returns-in-Watch
returns-in-Watch c = rw c.in-Watch.is (c.set_watch.ensures c.args.program.now)

pub returns-in-Unwatch : goal.returns-in-Unwatch
returns-in-Unwatch c = rw c.in-Unwatch.is (c.clear_watch.ensures c.args.program.now)

pub returns-in-Resume : goal.returns-in-Resume
returns-in-Resume c = rw c.in-Resume.is (c.resume.ensures c.args.program.now)
