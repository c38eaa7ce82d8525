use Rattle.std.proofs.Common.{rules, ◌≡◌, ◌≤◌, Ok, Err, None, length}
use Rattle.far_stream.specs.Deferring.{SendsForget, deferred_limit}
use Rattle.far_stream.proofs.Deferred.{forget_noted, forget_sent}
use Rattle.far_stream.proofs.client.deferring.DeferringStoreFarStore.forget.Goals as goal

pub returns-in-Err-clause-defers : goal.returns-in-Err-clause-defers
returns-in-Err-clause-defers g c =
    let full : c.args.self.now.client.broken ≡ None → deferred_limit ≤ length c.args.self.now.deferred = search rules in
    let sends : SendsForget g.S.Read.remaining g.S.Write.contents c.args.self.now c.args.parcel.id (Err c.in-Err.fault)
    (record { client = c.send_forget.new.self; deferred = c.send_forget.new.forgets }) = search rules in
    forget_noted g.S.Read.remaining g.S.Write.contents c.args.self.now c.args.parcel.id c.in-Err.fault c.send_forget.new.self c.note.new.self
    c.send_forget.new.forgets full (search rules) c.note.ensures.stream c.note.ensures.puts sends

pub returns-in-Err-clause-called : goal.returns-in-Err-clause-called
returns-in-Err-clause-called g c = (c.args.parcel.id, returns-in-Err-clause-defers g c)

pub returns-clause-defers : goal.returns-clause-defers
returns-clause-defers g c =
    let full : c.args.self.now.client.broken ≡ None → deferred_limit ≤ length c.args.self.now.deferred = search rules in
    let sends : SendsForget g.S.Read.remaining g.S.Write.contents c.args.self.now c.args.parcel.id (Ok tt)
    (record { client = c.send_forget.new.self; deferred = c.send_forget.new.forgets }) = search rules in
    forget_sent g.S.Read.remaining g.S.Write.contents c.args.self.now (record { client = c.send_forget.new.self; deferred = c.send_forget.new.forgets })
    c.args.parcel.id full (search rules) sends

pub returns-clause-called : goal.returns-clause-called
returns-clause-called g c = (c.args.parcel.id, returns-clause-defers g c)
