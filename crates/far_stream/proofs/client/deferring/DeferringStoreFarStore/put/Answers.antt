use Rattle.std.proofs.Common.{rules, Err}
use Rattle.far_stream.specs.Deferring.{SendsPut}
use Rattle.far_stream.proofs.Deferred.{put_noted}
use Rattle.far_stream.proofs.client.deferring.DeferringStoreFarStore.put.Goals as goal

pub returns-in-Err-clause-puts : goal.returns-in-Err-clause-puts
returns-in-Err-clause-puts g c =
    let sends : SendsPut g.S.Read.remaining g.S.Write.contents c.args.self.now c.args.bytes.items (Err c.in-Err.fault)
    (record { client = c.send_put.new.self; deferred = c.send_put.new.forgets }) = search rules in
    put_noted g.S.Read.remaining g.S.Write.contents c.args.self.now c.args.bytes.items c.in-Err.fault c.send_put.new.self c.note.new.self
    c.send_put.new.forgets (search rules) c.note.ensures.stream c.note.ensures.puts sends

pub returns-in-Err-clause-failed : goal.returns-in-Err-clause-failed
returns-in-Err-clause-failed g c = returns-in-Err-clause-puts g c
