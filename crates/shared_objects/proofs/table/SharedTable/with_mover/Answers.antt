use Rattle.std.proofs.Common.{arith, ap, sym, ◌∙◌, ◌≡◌, ℕ, ◌+◌, ◌*◌, ◌<◌, ◌≤◌, length, map, List, subst, get_or, replicate, Vec, Global, refl, lit<}
use Rattle.std.specs.Prelude.{vec_capacity}
use Rattle.std.proofs.lemmas.List.{length-map}
use Rattle.shared_objects.specs.Opening.{opening_bytes}
use Rattle.shared_objects.specs.Rule.{place_of, times, is_moving, total}
use Rattle.shared_objects.specs.Kinds.{dealer}
use Rattle.shared_objects.specs.Phases.{phase_of, Makes}
use Rattle.shared_objects.specs.declared.body.Body.{Body}
use Rattle.shared_objects.specs.declared.view.View.{View}
use Rattle.shared_objects.specs.declared.view.Whereabouts.TheVariants as places
use Rattle.shared_objects.proofs.Logs.{map_map}
use Rattle.shared_objects.proofs.Keeps.{starts_ok, all_here}
use Rattle.shared_objects.proofs.Slots.{numbers, all_in, zeros_at, zeros_long, none_on_way}
use Rattle.shared_objects.proofs.table.SharedTable.with_mover.Goals as goal

pub new-requires : goal.new-requires
new-requires c =
    let key : opening_bytes c.of.result.value ≡ opening_bytes c.args.bodies = ap opening_bytes c.of.ensures in
    let f = c.in_ok-slots.ensures ∙ sym key in
    let many : length c.in_ok-slots.slots.items ≡ length (opening_bytes c.of.result.value) =
    sym (length-map c.in_ok-slots.slots.items (λ (b : Body). b.bytes.items)) ∙ ap length f in
    let words : c.deref-3.result.now ≡ replicate (c.len-2.result * 16) 0 = c.deref-3.ensures.value ∙ c.in_ok-words.ensures.items_if_clones_equal (λ y e. e) in
    starts_ok _ _ _ _ (omega (
      arith,
      ap length words,
      zeros_long (c.len-2.result * 16),
      many,
      c.len-2.ensures,
      c.in_ok-slots.slots.ok.0,
    )) (λ n. ap (λ (l : List ℕ). get_or l n 0) words ∙ zeros_at (c.len-2.result * 16) n) f

pub invariant_of-result : goal.invariant_of-result
invariant_of-result c = let o = c.in-Ok.ensures.ok in
    let key : opening_bytes c.of.result.value ≡ opening_bytes c.args.bodies = ap opening_bytes c.of.ensures in
    let f = c.in_ok-slots.ensures ∙ sym key in
    let many : length c.in_ok-slots.slots.items ≡ length (opening_bytes c.of.result.value) =
    sym (length-map c.in_ok-slots.slots.items (λ (b : Body). b.bytes.items)) ∙ ap length f in
    let words : c.deref-3.result.now ≡ replicate (c.len-2.result * 16) 0 = c.deref-3.ensures.value ∙ c.in_ok-words.ensures.items_if_clones_equal (λ y e. e) in
    let told : opening_bytes c.in-Ok.made.0.shared.key.bodies.value ≡ opening_bytes c.of.result.value = ap (λ k. opening_bytes k.bodies.value) o.5 in
    let sizes : c.in_ok-lengths.lengths.items ≡ map (λ (b : Body). length b.bytes.items) c.in_ok-slots.slots.items =
    c.in_ok-lengths.ensures ∙ ap (map (λ (b : Body). length b.bytes.items)) c.deref.ensures.value in
    let as_many : length c.in_ok-lengths.lengths.items ≡ length c.in_ok-slots.slots.items =
    ap length sizes ∙ length-map c.in_ok-slots.slots.items (λ (b : Body). length b.bytes.items) in
    let count : length (opening_bytes c.args.bodies) ≡ length c.args.bodies.items + 1 =
    omega (arith, length-map c.args.bodies.items (λ (b : Vec ℕ Global). b.items)) in
    record {
      words = omega (arith, o.0, ap length words, zeros_long (c.len-2.result * 16), as_many, c.len-2.ensures, c.in_ok-slots.slots.ok.0);
      slots = o.1 ∙ sym as_many;
      sizes = sizes ∙ map_map (λ (b : Body). b.bytes.items) c.in_ok-slots.slots.items ∙ ap (map length) f ∙ ap (map length) (sym told);
      few = (omega (arith, as_many, many, ap length key, count), omega (arith, as_many, many, ap length key, count, c.requires));
    }

pub invariant_of-result-2 : goal.invariant_of-result-2
invariant_of-result-2 c = let o = c.in-Ok.ensures.ok in
    let key : opening_bytes c.of.result.value ≡ opening_bytes c.args.bodies = ap opening_bytes c.of.ensures in
    let f = c.in_ok-slots.ensures ∙ sym key in
    let os : List (List ℕ) = opening_bytes c.of.result.value in
    let many : length c.in_ok-slots.slots.items ≡ length os = sym (length-map c.in_ok-slots.slots.items (λ (b : Body). b.bytes.items)) ∙ ap length f in
    let e = ap (λ y. y.0) o.4 in record {
      makes = subst Makes (sym e) (lit< tt, refl, refl, refl, refl, refl);
      phased = subst (λ (u : View). c.in_ok-phases.phases.items ≡ map phase_of u.out) (sym e) (c.in_ok-phases.ensures
          ∙ all_in c.deref-2.result.now os (ap length c.deref-2.ensures.value ∙ many));
      wide = subst (λ (u : View). length u.out ≡ length u.opening) (sym e) (length-map os (λ (_ : List ℕ). places.Here));
      ordered = c.in_ok-order.ensures.items ∙ ap (λ y. numbers y.1) (sym o.4);
      held = subst (λ (u : View). (n : ℕ) → is_moving (place_of u n) ≡ 1
          → 0 < times n c.in_ok-order.order.items) (sym e)
          (λ n q. absurd (let z : is_moving (place_of (dealer c.args.returns os) n) ≡ 0 = ap is_moving (all_here os n) in omega (arith, z, q)));
      counted = subst (λ (u : View). length c.in_ok-order.order.items ≡ total is_moving u.out) (sym e) (ap length c.in_ok-order.ensures.items
          ∙ sym (none_on_way os));
      room = subst (λ (u : View). length u.opening ≤ vec_capacity c.in_ok-order.order) (sym e) (omega (
        arith,
        c.in_ok-order.ensures.capacity,
        c.len.ensures,
        many,
        c.in_ok-slots.slots.ok.0,
      ));
    }
