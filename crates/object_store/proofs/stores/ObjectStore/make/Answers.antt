use Rattle.std.proofs.Common.{◌≡◌, ◌≤◌, ◌+◌, ◌-◌, length, arith, rules}
use Rattle.placement.specs.declared.places.Place.TheVariants.{Here}
use Rattle.memory.specs.Objects.{object_bytes, object_limit}
use Rattle.object_store.proofs.Keeping.{made}
use Rattle.object_store.proofs.stores.ObjectStore.make.Goals as goal

pub invariant_of-self : goal.invariant_of-self
invariant_of-self g c =
    let room : length c.self.inside.bodies.items ≤ object_limit = search rules in
    let short : length c.with_bytes.result.bytes ≤ object_bytes = search rules in
    let place : c.with_bytes.result.place ≡ Here = search rules in
    let scopes : c.with_bytes.result.scopes ≡ 0 = search rules in
    let left : c.self.inside.spare - c.args.length + length c.with_bytes.result.bytes ≡ c.self.inside.spare = search (rules, arith) in (
      made c.self.inside.bodies.items c.push_reserved.new.self.items c.with_bytes.result c.self.inside.windows _ _ _ c.self.invariant.0
          c.push_reserved.ensures.items place scopes room short left,
      omega (arith, c.push_reserved.ensures.capacity, c.self.invariant.1),
    )
