use Rattle.std.specs.Prelude.{length}
use Rattle.workers.proofs.Turned.{serves}
use Rattle.workers.proofs.threads.serve_request.Goals as goal

pub returns : goal.returns
returns g c = record {
  chain = serves g.F.FarStore.RETURNS g.F.FarStore.called g.F.FarStore.faults_of (length g.K.TableName.opening) c.args.mover.now
      c.one_landing-moved.new.self (record {
        number = c.args.request.number;
        direction = c.args.request.direction;
        moved = c.one_landing-moved.result;
        moves = c.one_landing-moved.ensures.moves;
        asks = c.one_landing-moved.ensures.asks;
        last = c.one_landing-moved.ensures.last;
      });
}
