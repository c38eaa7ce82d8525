use Rattle.std.proofs.Common.{arith}
use Rattle.object_store.proofs.Leasing.{reached}
use Rattle.object_store.proofs.stores.leased.touch_other.Goals as goal

pub begin-requires-clause-stands : goal.begin-requires-clause-stands
begin-requires-clause-stands g c = (reached c.args.who c.end.new.store c.touch-answer.new.self c.args.number c.args.op _ (record {
  touches = c.in-Done.ensures.touches;
  far = c.in-Done.ensures.far;
  sent = c.in-Done.ensures.sent;
}) (omega (arith, c.requires.0, c.count-count.ensures.store.windows))).stands

pub begin-requires-clause-held : goal.begin-requires-clause-held
begin-requires-clause-held g c = (reached c.args.who c.end.new.store c.touch-answer.new.self c.args.number c.args.op _ (record {
  touches = c.in-Done.ensures.touches;
  far = c.in-Done.ensures.far;
  sent = c.in-Done.ensures.sent;
}) (omega (arith, c.requires.0, c.count-count.ensures.store.windows))).held
