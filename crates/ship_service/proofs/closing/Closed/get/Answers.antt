use Rattle.std.proofs.Common.{ℕ, None, sym, ap, ◌∙◌, arith}
use Rattle.std.specs.Prelude.{slice_index_or}
use Rattle.ship_service.specs.Closing.{ClosedState}
use Rattle.ship_service.proofs.Settled.{stands}
use Rattle.ship_service.proofs.closing.Closed.get.Goals as goal

pub returns-clause-some : goal.returns-clause-some
returns-clause-some g c =
    let m = c.self.inside in let n : ℕ = c.args.number in (
      g.F.FarStore.bytes_in c.in_ok-parcel.parcel.now,
      ap (λ (s : ClosedState g.row.F.Denot). slice_index_or s.parcels n None) (sym c.self.view_is)
          ∙ stands g.F.FarStore.bytes_in m.parcels.items n c.index.result.now c.in_ok-parcel.parcel.now (omega (
            arith,
            c.if-number-len.false,
            c.len.ensures,
            m.parcels.ok.0,
          )) c.index.ensures (sym c.in_ok-parcel.ensures.value),
      c.get.ensures.bytes,
    )
