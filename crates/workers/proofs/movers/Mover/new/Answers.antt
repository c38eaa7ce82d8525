use Rattle.std.proofs.Common.{ℕ, List, map, sym, ap, ◌∙◌, arith}
use Rattle.std.proofs.lemmas.List.{length-map}
use Rattle.far_store.specs.Stores.{parcel_bytes}
use Rattle.shared_objects.specs.declared.view.Whereabouts.TheVariants.{Here}
use Rattle.shared_objects.specs.declared.view.View.{View}
use Rattle.workers.proofs.Placing.{keeps_none}
use Rattle.workers.proofs.movers.Mover.new.Goals as goal

pub invariant_of-result : goal.invariant_of-result
invariant_of-result g c =
    let v : View = c.args.seat.seat.me.0 in let fresh = c.requires.fresh in let opening = ap (λ (u : View). u.opening) fresh in (
      (c.requires.table, (opening, ap (λ (u : View). u.returns) fresh, ap (λ (u : View). u.alive) fresh ∙ omega arith, ap (λ (u : View). u.gathered) fresh)),
      keeps_none v (map (parcel_bytes g.F.FarStore.bytes_in) c.loop.parcels.items)
          (ap (λ (u : View). u.out) fresh ∙ ap (map (λ (_ : List ℕ). Here)) (sym opening))
          (length-map c.loop.parcels.items (parcel_bytes g.F.FarStore.bytes_in)
          ∙ omega (arith, c.loop.invariant.0, c.loop.auto.counter-end, c.loop-test.false, c.numbers-end.ensures))
          c.loop.invariant.1,
    )
