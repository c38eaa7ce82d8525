use Rattle.std.proofs.Common.{sym}
use Rattle.asm_grammar.proofs.gather.Gathered.add.Goals as goal

pub distance-requires-clause-to : goal.distance-requires-clause-to
distance-requires-clause-to c = c.requires.slots c.in-To.name.now c.in-Some.slot.now (sym c.in-Some.ensures.value)

pub distance-requires-in-Some-get-clause-to : goal.distance-requires-in-Some-get-clause-to
distance-requires-in-Some-get-clause-to c = c.requires.slots c.in-LongTo.name.now c.in-Some-get.slot.now (sym c.in-Some-get.ensures.value)
