use Rattle.std.proofs.Common.{ap}
use Rattle.std.specs.Prelude.{Bool}
use Rattle.workers.specs.TableNames.{Passage}
use Rattle.workers.specs.TableNames.Passage.{Machine}
use Rattle.workers.proofs.cell.Occupied.fact.Goals as goal

pub returns : goal.returns
returns g c = λ m low high. ap (λ (passed : Passage → Bool). passed (Machine m)) c.self.invariant
