use Rattle.std.proofs.Common.{◌≡◌, length, refl, rules}
use Rattle.memory.specs.Access.{IsInside}
use Rattle.object_store.proofs.Leasing.{leased, told_done}
use Rattle.object_store.proofs.stores.leased.LeasedMemoryMemory.touch.Goals as goal

pub returns-clause-touch : goal.returns-clause-touch
returns-clause-touch g c =
    let same : c.args.number ≡ c.args.self.now.lease.at = search rules in
    let inside : IsInside c.args.op.now (length c.args.self.now.lease.body.bytes) = search rules in
    let out = leased c.args.self.now.who c.args.self.now.store.now c.args.self.now.lease.at c.args.self.now.lease.body c.args.op.now c.requires inside in (
      rw same (told_done c.args.self.now.who c.args.self.now.store.now c.args.self.now.lease.at c.args.self.now.lease.body c.act.new.self c.args.op.now
          c.act.result out inside
          c.act.ensures.answer c.act.ensures.new),
      record { loan_is = refl; who_is = refl },
    )
