use Rattle.std.proofs.Common.{arith, ap, sym, ◌∙◌, subst, ◌≡◌, ℕ, ◌<◌, List, ◌∷◌, length, drop, refl}
use Rattle.std.specs.Prelude.{vec_capacity}
use Rattle.std.proofs.lemmas.List.{length-map}
use Rattle.atomic_table.specs.Table.{rest}
use Rattle.memory.specs.Objects.{bytes_of}
use Rattle.shared_objects.specs.Opening.{opening_bytes}
use Rattle.shared_objects.specs.Rule.{place_of, bytes_taken, is_moving}
use Rattle.shared_objects.specs.Kinds.{placed}
use Rattle.shared_objects.specs.declared.view.View.{View}
use Rattle.shared_objects.specs.declared.view.Whereabouts.TheVariants as places
use Rattle.shared_objects.specs.declared.seats.Phase.TheVariants as phases
use Rattle.shared_objects.proofs.Logs.{object_home}
use Rattle.shared_objects.proofs.Keeps.{some_is}
use Rattle.shared_objects.proofs.MoverKeeps.{lands_ok}
use Rattle.shared_objects.proofs.Slots.{numbers, inside, is_moving_place, first_slot, numbers_rest, landed_fits}
use Rattle.shared_objects.proofs.table.SharedTable.land.Goals as goal

pub exchange-requires : goal.exchange-requires
exchange-requires c = let b = c.bring.ensures in let t = b.first in
    (b.same.0 ∙ c.requires.mover.0, first_slot c.bring.new.seat.me.1 c.args.n t.0 (sym b.ordered ∙ t.1))

pub fetch_sub-requires : goal.fetch_sub-requires
fetch_sub-requires c = let m = c.args.mover.now in let v : View = m.seat.me.0 in let n : ℕ = c.args.n in
    let t = is_moving_place (place_of v n) c.requires.phase in let z = c.args.self.now in
    let b = c.bring.ensures in let x = c.exchange.ensures in
    let key : List (List ℕ) = opening_bytes c.args.self.now.table.shared.key.bodies.value in
    let wide = inside v n t.0 (ap bytes_taken t.1) in
    let near : n < length key = omega (arith, wide, m.wide, ap length c.requires.mover.1) in
    let long : length c.args.self.now.lengths.items ≡ length key = ap length z.sizes ∙ length-map key length in
    let e : c.exchange.new.seat.me.0 ≡ v = ap (λ y. y.0) x.3 ∙ b.same.1 in
    let as_long : length t.0 ≡ length (bytes_of key n) → length c.args.bytes.items ≡ length (bytes_of key n) =
    subst (λ (o : List (List ℕ)). length t.0 ≡ length (bytes_of o n)
    → length c.args.bytes.items ≡ length (bytes_of o n)) c.requires.mover.1 (c.requires.long t.0 (ap bytes_taken t.1)) in (
      x.0 ∙ b.same.0 ∙ c.requires.mover.0,
      omega (arith, z.words),
      lands_ok _ _ _ _ _ n t.0 _ _ (omega (arith, z.slots)) (ap (λ y. y.1) x.3) (ap (λ (u : View). place_of u n) e ∙ t.1) as_long
          (λ r. some_is c.args.bytes.items t.0 (sym (c.requires.body (c.requires.mover.2 ∙ r)) ∙ ap bytes_taken t.1))
          (subst (λ (u : View). n < length u.out) (sym e) wide) (ap (λ (u : View). u.live) e ∙ m.makes.1),
    )

pub invariant_of-mover : goal.invariant_of-mover
invariant_of-mover c = let m = c.args.mover.now in let v : View = m.seat.me.0 in let n : ℕ = c.args.n in
    let t = is_moving_place (place_of v n) c.requires.phase in
    let b = c.bring.ensures in let x = c.exchange.ensures in let f = c.fetch_sub.ensures.2 in
    let wide = inside v n t.0 (ap bytes_taken t.1) in
    let e : c.fetch_sub.new.seat.me.0 ≡ placed n places.Here v =
    ap (λ y. y.0) f ∙ ap (λ k. placed k places.Here c.exchange.new.seat.me.0) (object_home n) ∙ ap (λ y. placed n places.Here y.0) x.3
    ∙ ap (placed n places.Here) b.same.1 in
    let slots : numbers c.fetch_sub.new.seat.me.1 ≡ numbers (rest c.bring.new.seat.me.1) = ap (λ y. numbers y.1) f ∙ ap (λ y. numbers (rest y.1)) x.3 in
    let is = c.remove.ensures.items in
    let less : c.remove.new.self.items ≡ b.first.0 = is ∙ ap (drop 1) b.first.1 in
    landed_fits m _ n places.Here c.fetch_sub.new.seat.me.1 phases.In c.remove.new.self.items (vec_capacity c.remove.new.self) wide e refl
    (is ∙ ap (drop 1) b.ordered ∙ numbers_rest c.bring.new.seat.me.1 ∙ sym slots) (omega (arith, b.room.1, c.remove.ensures.capacity))
    c.bring.new.order.items (b.first.1 ∙ ap (λ l. n ∷ l) (sym less)) b.held b.room.0 (ap is_moving t.1) refl
