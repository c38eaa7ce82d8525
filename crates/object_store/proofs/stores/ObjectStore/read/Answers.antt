use Rattle.std.proofs.Common.{refl, List, ℕ, length, take, drop, ap, ◌∙◌}
use Rattle.object_store.proofs.Listed.{read_at}
use Rattle.object_store.proofs.stores.ObjectStore.read.Goals as goal

pub read-requires : goal.read-requires
read-requires g c =
    let is = read_at c.args.number (c.in_ok-stand_range.ensures.found refl) c.index-bodies-index.is in
    record { here = is.place ∙ c.in_ok-stand_range.ensures.stands.1; inside = rw is.bytes c.in_ok-stand_range.ensures.stands.0.1 }

pub returns-clause-got : goal.returns-clause-got
returns-clause-got g c =
    let is = read_at c.args.number (c.in_ok-stand_range.ensures.found refl) c.index-bodies-index.is in
    let here = rw c.as_slice-bodies.ensures.value at c.in_ok-stand_range.ensures.stands in
    let bytes = rw c.as_slice-bodies.ensures.value at is.bytes in
    rw (← c.self.view_is) (here.0, here.1, c.read.ensures ∙ ap (λ (l : List ℕ). take (length c.args.into.now) (drop c.args.offset l)) bytes)
