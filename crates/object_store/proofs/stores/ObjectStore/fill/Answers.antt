use Rattle.std.proofs.Common.{refl, ap, arith}
use Rattle.object_store.specs.Bodies.{scopes_in}
use Rattle.object_store.proofs.Found.{back, seen_by}
use Rattle.object_store.proofs.Keeping.{changed}
use Rattle.object_store.proofs.Leasing.{vacant}
use Rattle.object_store.proofs.stores.ObjectStore.fill.Goals as goal

pub fill-requires : goal.fill-requires
fill-requires g c =
    let fits = rw (← c.self.view_is) at c.requires in
    record { here = (vacant c.self.inside.bodies c.index-bodies-index.result fits c.as_mut_slice-bodies.ensures.value).place; there = fits.there }

pub invariant_of-self : goal.invariant_of-self
invariant_of-self g c =
    let fits = rw (← c.self.view_is) at c.requires in
    let is = vacant c.self.inside.bodies c.index-bodies-index.result fits c.as_mut_slice-bodies.ensures.value in
    rw (back c.self.inside.bodies c.args.number c.fill.new.self c.as_mut_slice-bodies.ensures.value c.as_mut_slice-bodies.ensures.len, c.fill.ensures) (
      changed c.self.inside.bodies.items _ _ c.self.inside.spare _ c.args.number _ c.self.invariant.0 is.inside fits.numbered (ap scopes_in is.is) fits.short
          (rw (← is.is, fits.there, is.place, is.empty) (omega (arith, c.len-needed.ensures, c.self.invariant.0.budget_is, fits.room))),
      c.self.invariant.1,
    )

pub returns : goal.returns
returns g c =
    let fits = rw (← c.self.view_is) at c.requires in
    let is = vacant c.self.inside.bodies c.index-bodies-index.result fits c.as_mut_slice-bodies.ensures.value in
    let now = seen_by c.self.inside.bodies c.args.number c.as_mut_slice-bodies.ensures.value c.as_mut_slice-bodies.ensures.len c.fill.ensures in
    rw (← c.self.view_is, now.bytes, now.places, now.sent, fits.there, is.stays) refl
