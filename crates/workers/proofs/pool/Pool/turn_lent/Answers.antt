use Rattle.std.proofs.Common.{None, refl, arith}
use Rattle.workers.proofs.pool.Pool.turn_lent.Goals as goal

-- there is no machine, and nothing was done
pub returns-in_default : goal.returns-in_default
returns-in_default g c =
    let same = c.in_default.ensures.none.1 in
    record {
      most = 0;
      few = omega arith;
      ran = 0;
      end = None;
      mid = c.args.locked.now;
      runs = (refl, refl);
      queues = ((c.args.locked.now.queued, same), λ _. same);
    }

-- it ran as often as it may
pub returns-then-is_none : goal.returns-then-is_none
returns-then-is_none g c =
    record {
      most = 64;
      few = omega arith;
      ran = c.in-Some.run'.ran;
      end = c.in-Some.run'.end;
      mid = c.run.new.self;
      runs = c.in-Some.ensures.run;
      queues = ((c.run.new.self.queued, refl), λ _. refl);
    }
