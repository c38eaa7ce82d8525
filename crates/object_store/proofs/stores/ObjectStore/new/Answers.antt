use Rattle.std.proofs.Common.{◌≡◌, [], ◌∷◌, false, None, refl, arith, rules}
use Rattle.placement.specs.declared.places.Place.TheVariants.{Here}
use Rattle.scopes.specs.Windows.{window_count}
use Rattle.object_store.proofs.Keeping.{all_same, first_store}
use Rattle.object_store.proofs.stores.ObjectStore.new.Goals as goal

pub invariant_of-result : goal.invariant_of-result
invariant_of-result g c =
    let items : c.push_reserved.new.self.items ≡ record { bytes = []; place = Here; scopes = 0; parcel = None; clean = false } ∷ [] = search rules in
    let windows = all_same window_count [] c.default.result c.default.ensures.long c.default.ensures.at in
    (first_store _ _ c.args.budget items windows, omega (arith, c.push_reserved.ensures.capacity, c.in_ok-bodies.ensures.exact))

pub returns : goal.returns
returns g c =
    let items : c.push_reserved.new.self.items ≡ record { bytes = []; place = Here; scopes = 0; parcel = None; clean = false } ∷ [] = search rules in
    let windows = all_same window_count [] c.default.result c.default.ensures.long c.default.ensures.at in
    rw (items, windows) refl
