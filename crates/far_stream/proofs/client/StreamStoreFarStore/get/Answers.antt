use Rattle.std.proofs.Common.{rules, Ok, Err}
use Rattle.far_stream.specs.Client.{GetsOver}
use Rattle.far_stream.proofs.client.StreamStoreFarStore.get.Goals as goal

pub returns-in-Ok-clause-called : goal.returns-in-Ok-clause-called
returns-in-Ok-clause-called g c =
    let parcel = c.args.parcel.now in
    let gets : GetsOver g.S.Read.remaining g.S.Write.contents c.args.self.now parcel (Ok c.in-Ok.bytes.items) c.ask_to_get.new.self = search rules in
    (parcel.id, gets)

pub returns-in-Err-clause-failed : goal.returns-in-Err-clause-failed
returns-in-Err-clause-failed g c =
    let parcel = c.args.parcel.now in
    let gets : GetsOver g.S.Read.remaining g.S.Write.contents c.args.self.now parcel (Err c.in-Err.fault) c.note.new.self = search rules in
    (parcel.id, gets)
