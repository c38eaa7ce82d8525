use Rattle.std.proofs.Common.{arith, ap, sym, ◌∙◌, subst, ◌≡◌, ℕ, ◌<◌, List, ◌∷◌, length, drop}
use Rattle.std.specs.Prelude.{vec_capacity}
use Rattle.std.proofs.lemmas.List.{length-map}
use Rattle.atomic_table.specs.Table.{rest}
use Rattle.shared_objects.specs.Opening.{opening_bytes}
use Rattle.shared_objects.specs.Rule.{place_of, bytes_taken, is_moving}
use Rattle.shared_objects.specs.Phases.{phase_of}
use Rattle.shared_objects.specs.Kinds.{placed, sent}
use Rattle.shared_objects.specs.declared.view.View.{View}
use Rattle.shared_objects.specs.declared.view.Whereabouts.{Whereabouts}
use Rattle.shared_objects.specs.declared.seats.Phase.TheVariants as phases
use Rattle.shared_objects.proofs.Logs.{object_home}
use Rattle.shared_objects.proofs.MoverKeeps.{sends_ok}
use Rattle.shared_objects.proofs.Slots.{numbers, inside, is_moving_place, first_slot, numbers_rest, landed_fits}
use Rattle.shared_objects.proofs.table.SharedTable.end_leave.Goals as goal

pub fetch_add-requires : goal.fetch_add-requires
fetch_add-requires c = let m = c.args.mover.now in let v : View = m.seat.me.0 in let n : ℕ = c.args.number in
    let t = is_moving_place (place_of v n) c.requires.phase in let z = c.args.self.now in
    let b = c.bring.ensures in
    let key : List (List ℕ) = opening_bytes c.args.self.now.table.shared.key.bodies.value in
    let wide = inside v n t.0 (ap bytes_taken t.1) in
    let near : n < length key = omega (arith, wide, m.wide, ap length c.requires.mover.1) in
    let long : length c.args.self.now.lengths.items ≡ length key = ap length z.sizes ∙ length-map key length in
    let slot = first_slot c.bring.new.seat.me.1 n b.first.0 (sym b.ordered ∙ b.first.1) in
    let e = b.same.1 in (
      b.same.0 ∙ c.requires.mover.0,
      omega (arith, z.words),
      sends_ok _ _ _ _ _ n t.0 slot.0 _ (omega (arith, z.slots)) slot.1 (ap (λ (u : View). place_of u n) e ∙ t.1)
          (subst (λ (u : View). n < length u.out) (sym e) wide) (ap (λ (u : View). u.live) e ∙ m.makes.1),
    )

pub returns-clause-view : goal.returns-clause-view
returns-clause-view c = let n : ℕ = c.args.number in let b = c.bring.ensures in
    ap (λ y. y.0) c.fetch_add.ensures.2 ∙ ap (λ k. placed k (sent (place_of c.bring.new.seat.me.0 k)) c.bring.new.seat.me.0) (object_home n)
    ∙ ap (λ (u : View). placed n (sent (place_of u n)) u) b.same.1

pub invariant_of-mover : goal.invariant_of-mover
invariant_of-mover c = let m = c.args.mover.now in let v : View = m.seat.me.0 in let n : ℕ = c.args.number in
    let t = is_moving_place (place_of v n) c.requires.phase in
    let b = c.bring.ensures in let f = c.fetch_add.ensures.2 in
    let wide = inside v n t.0 (ap bytes_taken t.1) in
    let p : Whereabouts = sent (place_of v n) in
    let e : c.fetch_add.new.seat.me.0 ≡ placed n p v =
    ap (λ y. y.0) f ∙ ap (λ k. placed k (sent (place_of c.bring.new.seat.me.0 k)) c.bring.new.seat.me.0) (object_home n)
    ∙ ap (λ (u : View). placed n (sent (place_of u n)) u) b.same.1 in
    let slots : numbers c.fetch_add.new.seat.me.1 ≡ numbers (rest c.bring.new.seat.me.1) = ap (λ y. numbers y.1) f in
    let is = c.remove.ensures.items in
    let less : c.remove.new.self.items ≡ b.first.0 = is ∙ ap (drop 1) b.first.1 in
    landed_fits m _ n p c.fetch_add.new.seat.me.1 phases.Far c.remove.new.self.items (vec_capacity c.remove.new.self) wide e
    (ap (λ (y : Whereabouts). phase_of (sent y)) t.1) (is ∙ ap (drop 1) b.ordered ∙ numbers_rest c.bring.new.seat.me.1 ∙ sym slots)
    (omega (arith, b.room.1, c.remove.ensures.capacity))
    c.bring.new.order.items (b.first.1 ∙ ap (λ l. n ∷ l) (sym less)) b.held b.room.0 (ap is_moving t.1) (ap (λ (y : Whereabouts). is_moving (sent y)) t.1)
