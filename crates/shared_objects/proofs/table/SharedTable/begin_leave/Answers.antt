use Rattle.std.proofs.Common.{arith, ap, sym, ◌∙◌, subst, ◌≡◌, ℕ, ◌<◌, List, [], ◌∷◌, ◌++◌, length, refl}
use Rattle.std.specs.Prelude.{vec_capacity}
use Rattle.std.proofs.lemmas.List.{length-map}
use Rattle.atomic_table.specs.Table.{rest, turned}
use Rattle.memory.specs.Objects.{bytes_of}
use Rattle.shared_objects.specs.Opening.{opening_bytes}
use Rattle.shared_objects.specs.Rule.{is_moving}
use Rattle.shared_objects.specs.Kinds.{Sat, placed}
use Rattle.shared_objects.specs.declared.body.Body.{Body}
use Rattle.shared_objects.specs.declared.view.View.{View}
use Rattle.shared_objects.specs.declared.view.Whereabouts.{Whereabouts}
use Rattle.shared_objects.specs.declared.view.Whereabouts.TheVariants as places
use Rattle.shared_objects.specs.declared.seats.Phase.TheVariants as phases
use Rattle.shared_objects.proofs.Logs.{object_home}
use Rattle.shared_objects.proofs.MoverKeeps.{lifts_ok}
use Rattle.shared_objects.proofs.Slots.{numbers, map-append, taken_fits, room_left}
use Rattle.shared_objects.proofs.table.SharedTable.begin_leave.Goals as goal

pub compare_exchange-found-requires : goal.compare_exchange-found-requires
compare_exchange-found-requires c = let m = c.args.mover.now in let z = c.args.self.now in let n : ℕ = c.args.number in
    let key : List (List ℕ) = opening_bytes z.table.shared.key.bodies.value in
    let lt : n < length z.lengths.items = c.length.ensures.object (omega (arith, c.if-length-eq0.false)) in
    let long : length z.lengths.items ≡ length key = ap length z.sizes ∙ length-map key length in (
      c.requires.mover.0,
      omega (arith, z.words),
      lifts_ok _ _ _ _ _ n _ _ (omega (arith, z.slots)) c.in-Some.ensures.some.0 c.in-Some.ensures.some.1 (omega (
        arith,
        m.wide,
        ap length c.requires.mover.1,
      )) m.makes.1,
    )

pub exchange-bytes-requires : goal.exchange-bytes-requires
exchange-bytes-requires c = let n : ℕ = c.args.number in let h = c.compare_exchange-found.ensures in
    let t = subst (λ k. (b : Body) × (◌≡◌ {A = Sat} c.compare_exchange-found.new.seat.me (
      placed k (places.Moving b.bytes.items) c.args.mover.now.seat.me.0,
      (k, b) ∷ c.args.mover.now.seat.me.1,
    )) × (length b.bytes.items ≡ length (bytes_of c.args.mover.now.seat.me.0.opening k))) (object_home n)
    (h.2.1 c.if-found-old.false) in
    (h.0 ∙ c.requires.mover.0, (t.0, ap (λ m. m.1) t.1 ∙ ap (λ m. (n, t.0) ∷ rest m.1) (sym t.1)))

pub push_reserved-requires : goal.push_reserved-requires
push_reserved-requires c = let m = c.args.mover.now in let z = c.args.self.now in let v : View = m.seat.me.0 in let n : ℕ = c.args.number in
    let key : List (List ℕ) = opening_bytes z.table.shared.key.bodies.value in
    let lt : n < length z.lengths.items = c.length.ensures.object (omega (arith, c.if-length-eq0.false)) in
    let long : length z.lengths.items ≡ length key = ap length z.sizes ∙ length-map key length in
    let wide : n < length v.out = omega (arith, m.wide, ap length c.requires.mover.1) in
    omega (arith, m.counted, m.room, m.wide, m.order.ok.0, room_left v.out n wide (ap is_moving (c.if-not-is_here.ensures.here refl)))

pub invariant_of-mover-2 : goal.invariant_of-mover-2
invariant_of-mover-2 c = let m = c.args.mover.now in let v : View = m.seat.me.0 in let n : ℕ = c.args.number in let z = c.args.self.now in
    let key : List (List ℕ) = opening_bytes z.table.shared.key.bodies.value in
    let lt : n < length z.lengths.items = c.length.ensures.object (omega (arith, c.if-length-eq0.false)) in
    let long : length z.lengths.items ≡ length key = ap length z.sizes ∙ length-map key length in
    let wide : n < length v.out = omega (arith, m.wide, ap length c.requires.mover.1) in
    let t = subst (λ k. (b : Body) × (◌≡◌ {A = Sat} c.compare_exchange-found.new.seat.me (placed k (places.Moving b.bytes.items) v, (k, b) ∷ m.seat.me.1))
    × (length b.bytes.items ≡ length (bytes_of v.opening k))) (object_home n) (c.compare_exchange-found.ensures.2.1 c.if-found-old.false) in
    let x = c.exchange-bytes.ensures.3 in let r = c.turn.ensures.2 in
    let p : Whereabouts = places.Moving t.0.bytes.items in
    let e : c.turn.new.self.me.0 ≡ placed n p v = ap (λ y. y.0) r ∙ ap (λ y. y.0) x ∙ ap (λ y. y.0) t.1 in
    let slots : numbers c.turn.new.self.me.1 ≡ numbers m.seat.me.1 ++ n ∷ [] =
    ap (λ y. numbers y.1) r ∙ ap (λ y. numbers (turned y.1)) x
    ∙ map-append (rest c.compare_exchange-found.new.seat.me.1) ((n, record { bytes = c.new.result }) ∷ [])
    ∙ ap (λ y. numbers (rest y.1) ++ n ∷ []) t.1 in
    let is = c.push_reserved.ensures.items in
    taken_fits m _ n p c.turn.new.self.me.1 phases.Moving c.push_reserved.new.self.items (vec_capacity c.push_reserved.new.self) wide e refl
    (is ∙ ap (λ l. l ++ n ∷ []) m.ordered ∙ sym slots)
    (omega (arith, c.push_reserved.ensures.capacity)) is (ap is_moving (c.if-not-is_here.ensures.here refl)) refl
