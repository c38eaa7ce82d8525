use Rattle.std.proofs.Common.{rules, Ok, Err}
use Rattle.far_stream.specs.Deferring.{GetsAfter, SendsGet}
use Rattle.far_stream.proofs.Deferred.{get_noted}
use Rattle.far_stream.proofs.client.deferring.DeferringStoreFarStore.get.Goals as goal

pub returns-in-Ok-clause-called : goal.returns-in-Ok-clause-called
returns-in-Ok-clause-called g c =
    let parcel = c.args.parcel.now in
    let gets : GetsAfter g.S.Read.remaining g.S.Write.contents c.args.self.now parcel (Ok c.in-Ok.bytes.items)
    (record { client = c.send_get.new.self; deferred = c.send_get.new.forgets }) = search rules in
    (parcel.id, gets)

pub returns-in-Err-clause-gets : goal.returns-in-Err-clause-gets
returns-in-Err-clause-gets g c =
    let sends : SendsGet g.S.Read.remaining g.S.Write.contents c.args.self.now c.args.parcel.now (Err c.in-Err.fault)
    (record { client = c.send_get.new.self; deferred = c.send_get.new.forgets }) = search rules in
    get_noted g.S.Read.remaining g.S.Write.contents c.args.self.now c.args.parcel.now c.in-Err.fault c.send_get.new.self c.note.new.self
    c.send_get.new.forgets (search rules) c.note.ensures.stream c.note.ensures.puts sends

pub returns-in-Err-clause-failed : goal.returns-in-Err-clause-failed
returns-in-Err-clause-failed g c = (c.args.parcel.now.id, returns-in-Err-clause-gets g c)
