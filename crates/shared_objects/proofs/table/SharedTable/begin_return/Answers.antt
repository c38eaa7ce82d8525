use Rattle.std.proofs.Common.{arith, ap, sym, ◌∙◌, ◌≡◌, ℕ, ◌*◌, ◌<◌, List, [], ◌∷◌, ◌++◌, length}
use Rattle.std.specs.Prelude.{vec_capacity}
use Rattle.std.proofs.lemmas.List.{length-map}
use Rattle.atomic_table.specs.Table.{turned}
use Rattle.shared_objects.specs.Opening.{opening_bytes}
use Rattle.shared_objects.specs.Rule.{place_of, bytes_taken, is_moving}
use Rattle.shared_objects.specs.Phases.{phase_of}
use Rattle.shared_objects.specs.Kinds.{placed, called, object_at}
use Rattle.shared_objects.specs.declared.view.View.{View}
use Rattle.shared_objects.specs.declared.view.Whereabouts.{Whereabouts}
use Rattle.shared_objects.specs.declared.seats.Phase.TheVariants as phases
use Rattle.shared_objects.proofs.Logs.{object_home}
use Rattle.shared_objects.proofs.MoverKeeps.{calls_ok}
use Rattle.shared_objects.proofs.Slots.{numbers, map-append, inside, is_far_place, taken_fits, room_left}
use Rattle.shared_objects.proofs.table.SharedTable.begin_return.Goals as goal

pub fetch_sub-requires : goal.fetch_sub-requires
fetch_sub-requires c = let m = c.args.mover.now in let v : View = m.seat.me.0 in let n : ℕ = c.args.number in
    let t = is_far_place (place_of v n) c.requires.phase in let z = c.args.self.now in
    let key : List (List ℕ) = opening_bytes c.args.self.now.table.shared.key.bodies.value in
    let wide = inside v n t.0 (ap bytes_taken t.1) in
    let near : n < length key = omega (arith, wide, m.wide, ap length c.requires.mover.1) in
    let long : length c.args.self.now.lengths.items ≡ length key = ap length z.sizes ∙ length-map key length in
    (c.requires.mover.0, omega (arith, z.words), calls_ok _ _ _ _ _ n t.0 (omega (arith, z.slots)) t.1 wide m.makes.1)

pub push_reserved-requires : goal.push_reserved-requires
push_reserved-requires c = let m = c.args.mover.now in let v : View = m.seat.me.0 in let n : ℕ = c.args.number in
    let t = is_far_place (place_of v n) c.requires.phase in
    let wide = inside v n t.0 (ap bytes_taken t.1) in
    omega (arith, m.counted, m.room, m.wide, room_left v.out n wide (ap is_moving t.1))

pub returns-clause-view : goal.returns-clause-view
returns-clause-view c = let n : ℕ = c.args.number in let v : View = c.args.mover.now.seat.me.0 in
    ap (λ y. y.0) c.turn.ensures.2 ∙ ap (λ y. y.0) c.fetch_sub.ensures.2.1 ∙ ap (λ k. placed k (called (place_of v k)) v) (object_home n)

pub invariant_of-mover : goal.invariant_of-mover
invariant_of-mover c = let m = c.args.mover.now in let v : View = m.seat.me.0 in let n : ℕ = c.args.number in
    let t = is_far_place (place_of v n) c.requires.phase in
    let f = c.fetch_sub.ensures.2 in let r = c.turn.ensures.2 in
    let wide = inside v n t.0 (ap bytes_taken t.1) in
    let p : Whereabouts = called (place_of v n) in
    let e : c.turn.new.self.me.0 ≡ placed n p v = ap (λ y. y.0) r ∙ ap (λ y. y.0) f.1 ∙ ap (λ k. placed k (called (place_of v k)) v) (object_home n) in
    let slots : numbers c.turn.new.self.me.1 ≡ numbers m.seat.me.1 ++ n ∷ [] =
    ap (λ y. numbers y.1) r ∙ ap (λ y. numbers (turned y.1)) f.1 ∙ map-append m.seat.me.1 ((object_at (n * 16), f.0) ∷ [])
    ∙ ap (λ k. numbers m.seat.me.1 ++ k ∷ []) (object_home n) in
    let is = c.push_reserved.ensures.items in
    taken_fits m _ n p c.turn.new.self.me.1 phases.Moving c.push_reserved.new.self.items (vec_capacity c.push_reserved.new.self) wide e
    (ap (λ (y : Whereabouts). phase_of (called y)) t.1) (is ∙ ap (λ l. l ++ n ∷ []) m.ordered ∙ sym slots)
    (omega (arith, c.push_reserved.ensures.capacity)) is (ap is_moving t.1) (ap (λ (y : Whereabouts). is_moving (called y)) t.1)
