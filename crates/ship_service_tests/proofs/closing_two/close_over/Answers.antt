use Rattle.std.proofs.Common.{ℕ, List, subst, sym}
use Rattle.shared_objects.specs.Kinds.{dealer}
use Rattle.shared_objects.specs.Opened.{AreFresh}
use Rattle.ship_service_tests.proofs.closing_two.close_over.Goals as goal

pub last_seat-requires : goal.last_seat-requires
last_seat-requires g c = (
  subst (λ (bodies : List (List ℕ)). AreFresh (dealer g.F.FarStore.RETURNS bodies) c.in_ok-shared.seats.items) (sym c.in_ok-shared.ensures.2)
      c.in_ok-shared.ensures.4,
  c.in_ok-shared.ensures.1,
)
