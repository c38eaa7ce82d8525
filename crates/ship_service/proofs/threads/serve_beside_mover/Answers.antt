use Rattle.std.proofs.Common.{rules}
use Rattle.ship_service.proofs.threads.serve_beside_mover.Goals as goal

pub scoped-requires : goal.scoped-requires
scoped-requires g c = record { at = λ a. (search rules, (c.requires.first, (c.requires.unused, search rules))) }
