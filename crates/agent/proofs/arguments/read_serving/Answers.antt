use Rattle.std.proofs.Common.{refl}
use Rattle.agent.proofs.arguments.read_serving.Goals as goal

pub returns : goal.returns
returns c = rw (
  c.read_number.ensures,
  c.read_number-2.ensures,
  c.read_number-3.ensures,
  c.read_number-4.ensures,
  c.read_number-5.ensures,
  c.read_number-6.ensures,
  c.is_given.ensures,
  c.is_set.ensures,
  c.is_set-2.ensures,
) refl
