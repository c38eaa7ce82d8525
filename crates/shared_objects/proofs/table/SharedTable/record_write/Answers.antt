use Rattle.std.proofs.Common.{refl}
use Rattle.shared_objects.proofs.Acting.{told_by}
use Rattle.shared_objects.proofs.table.SharedTable.record_write.Goals as goal

pub give_turn-requires-clause-held : goal.give_turn-requires-clause-held
give_turn-requires-clause-held g c = let h = c.requires.held in
    let t = told_by c.args.seat.now.me c.args.n h.0 _ _ c.requires.entry (h.2, h.3) refl h.4 in
    (h.0, h.1, t.0, t.1, t.2)
