use Rattle.std.proofs.Common.{◌∙◌}
use Rattle.shared_objects.proofs.Acting.{first_held, still_alone}
use Rattle.shared_objects.proofs.table.SharedTable.write.Goals as goal

pub slot_mut-requires : goal.slot_mut-requires
slot_mut-requires c = (c.requires.seat, first_held c.args.seat.now.me c.args.n _ c.requires.held)

pub returns-clause-held : goal.returns-clause-held
returns-clause-held c = let alone = still_alone c.args.seat.now.me c.args.n _ c.requires.held in let held = c.slot_mut.result.now in
    (held, c.slot_mut.ensures.value ∙ alone held, (c.write.new.self, alone c.write.new.self, c.write.ensures))
