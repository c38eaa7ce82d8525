use Rattle.std.proofs.Common.{◌≡◌, List, ℕ, length, None, refl, sym, ap, ◌∙◌, subst}
use Rattle.far_store.specs.Calls.Call.{Put}
use Rattle.shared_objects.specs.Kinds.{placed, sent}
use Rattle.shared_objects.specs.Rule.{place_of}
use Rattle.shared_objects.specs.declared.view.Whereabouts.TheVariants.{Here, Far}
use Rattle.shared_objects.specs.declared.view.View.{View}
use Rattle.workers.proofs.Placing.{inside, went, stayed}
use Rattle.workers.proofs.movers.send.Goals as goal

pub returns-in-Ok-clause-sent : goal.returns-in-Ok-clause-sent
returns-in-Ok-clause-sent g c =
    let v : View = c.args.seat.now.seat.me.0 in let n : ℕ = c.args.number in let l = c.in-Taken.ensures.leave in let b : List ℕ = c.in-Taken.bytes.items in
    let p = c.in-Ok.ensures.parcel in
    let e : c.end_leave.new.mover.seat.me.0 ≡ placed n (Far b) v =
    c.end_leave.ensures.view ∙ ap (λ (u : View). placed n (sent (place_of u n)) u) l.2 ∙ went v n b (inside v n c.requires.object c.args.seat.now.wide) in (
      e ∙ ap (λ (x : List ℕ). placed n (Far x) v) (sym p),
      ap length p ∙ l.3,
      (c.put.new.self, subst (λ (x : List ℕ). g.F.FarStore.called c.args.store.now (Put x None) c.put.new.self) (sym p) c.in-Ok.ensures.called, refl),
      c.in-Ok.ensures.calm,
    )

pub returns-in-Err-clause-sent : goal.returns-in-Err-clause-sent
returns-in-Err-clause-sent g c =
    let v : View = c.args.seat.now.seat.me.0 in let n : ℕ = c.args.number in let l = c.in-Taken.ensures.leave in let b : List ℕ = c.in-Taken.bytes.items in
    let e : c.undo_leave.new.mover.seat.me.0 ≡ v = c.undo_leave.ensures.view ∙ ap (placed n Here) l.2 ∙ stayed v n b l.1 in (
      e,
      (c.requires.object, l.1, e),
      record { bytes = b; as_long = l.3; calls = (c.put.new.self, c.in-Err.ensures.failed, refl); one_fault = c.in-Err.ensures.fault },
    )
