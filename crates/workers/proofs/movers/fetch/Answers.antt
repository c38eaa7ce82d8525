use Rattle.std.proofs.Common.{◌≡◌, ℕ, length, Ok, Err, refl, sym, ap, ◌∙◌, inl, inr}
use Rattle.memory.specs.Objects.{bytes_of}
use Rattle.shared_objects.specs.Kinds.{placed, sent}
use Rattle.shared_objects.specs.Rule.{place_of}
use Rattle.shared_objects.specs.declared.view.View.{View}
use Rattle.shared_objects.specs.declared.view.Whereabouts.TheVariants.{Here}
use Rattle.workers.proofs.Placing.{inside, kept_away, came, false_or}
use Rattle.workers.proofs.movers.fetch.Goals as goal

pub returns-in-Err-clause-fetched : goal.returns-in-Err-clause-fetched
returns-in-Err-clause-fetched g c =
    let v : View = c.args.seat.now.seat.me.0 in let n : ℕ = c.args.number in
    let e : c.undo_return.new.mover.seat.me.0 ≡ v =
    c.undo_return.ensures.view ∙ ap (λ (u : View). placed n (sent (place_of u n)) u) c.begin_return.ensures.view
    ∙ kept_away v n (g.F.FarStore.bytes_in c.args.parcel.now) (inside v n c.requires.object c.args.seat.now.wide) c.requires.far in (
      e,
      record { outcome = Err c.in-Err.fault; asked = (c.get.new.self, c.in-Err.ensures.failed, refl); refused = refl },
      inl c.in-Err.ensures.fault,
    )

pub returns-in-Err-end_return-clause-fetched : goal.returns-in-Err-end_return-clause-fetched
returns-in-Err-end_return-clause-fetched g c =
    let v : View = c.args.seat.now.seat.me.0 in let n : ℕ = c.args.number in let h = c.in-Err-end_return.ensures.view in
    let e : c.undo_return-in-Err-end_return.new.mover.seat.me.0 ≡ v =
    c.undo_return-in-Err-end_return.ensures.view ∙ ap (λ (u : View). placed n (sent (place_of u n)) u) (h.2 ∙ c.begin_return.ensures.view)
    ∙ kept_away v n (g.F.FarStore.bytes_in c.args.parcel.now) (inside v n c.requires.object c.args.seat.now.wide) c.requires.far in
    let other : length c.in-Ok.bytes.items ≡ length (g.F.FarStore.bytes_in c.args.parcel.now)
    → ⊥ = λ k. h.0 (k ∙ c.requires.long ∙ ap (λ (u : View). length (bytes_of u.opening n)) (sym c.begin_return.ensures.view)) in (
      e,
      record { outcome = Ok c.in-Ok.bytes.items; asked = (c.get.new.self, c.in-Ok.ensures.called, refl); refused = (other, refl) },
      inr (false_or g.F.FarStore.RETURNS (λ r. other (ap length (c.in-Ok.ensures.bytes r))), refl, c.in-Ok.ensures.calm),
    )

pub returns-clause-fetched : goal.returns-clause-fetched
returns-clause-fetched g c =
    let v : View = c.args.seat.now.seat.me.0 in let n : ℕ = c.args.number in let h = c.in-Ok-end_return.ensures.view in
    let e : c.end_return.new.mover.seat.me.0 ≡ placed n Here v = h.1 ∙ ap (placed n Here) c.begin_return.ensures.view ∙ came v n in (
      e,
      (
        c.in-Ok.bytes.items,
        h.0 ∙ ap (λ (u : View). length (bytes_of u.opening n)) c.begin_return.ensures.view ∙ sym c.requires.long,
        (c.get.new.self, c.in-Ok.ensures.called, refl),
      ),
      c.in-Ok.ensures.calm,
    )
