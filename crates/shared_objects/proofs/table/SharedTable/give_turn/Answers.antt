use Rattle.std.proofs.Common.{arith, ap, ◌≡◌}
use Rattle.shared_objects.specs.Kinds.{turn}
use Rattle.shared_objects.specs.declared.view.SharedEntry.{SharedEntry}
use Rattle.shared_objects.proofs.Keeps.{records_ok}
use Rattle.shared_objects.proofs.table.SharedTable.give_turn.Goals as goal

pub fetch_add-requires : goal.fetch_add-requires
fetch_add-requires g c = let t = c.args.self.now in let lt = c.requires.object in let h = c.requires.held in let e = g.T.Told.entry in
    let body = h.4 in let q = c.requires.entry in
    let stamp_is : e.stamp ≡ c.args.stamp = ap (λ (x : SharedEntry). x.stamp) q in (
      c.requires.seat,
      omega (arith, t.words),
      records_ok _ _ _ _ _ (turn c.args.n c.args.found h.0) body.0 _ e _ (omega (
        arith,
        t.slots,
      )) body.1 h.1 (ap (λ (x : SharedEntry). x.actor) q) (ap (λ (x : SharedEntry). x.object) q)
          (ap (λ (x : SharedEntry). x.found) q) h.2 (omega arith) (omega arith) (omega arith) h.3 body.2 (omega arith) c.requires.live.0 c.requires.live.1,
    )
