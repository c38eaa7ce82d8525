use Rattle.std.proofs.Common.{ℕ, ◌<◌, List, [], ◌∷◌, ◌++◌, length, take, drop, ap, sym, ◌∙◌, subst, arith}
use Rattle.shared_objects.specs.Rule.{times}
use Rattle.shared_objects.specs.Phases.{place_in}
use Rattle.shared_objects.proofs.Slots.{numbers, numbers_turned, times_turned, nearer, times_long, some_held, first_last}
use Rattle.shared_objects.proofs.moving.bring.Goals as goal

pub loop-seat-smaller : goal.loop-seat-smaller
loop-seat-smaller c = let old : List ℕ = c.loop-seat.order.items in
    let held : 0 < times c.args.n old = omega (arith, c.loop-seat.invariant.1 c.args.n, c.requires.held) in
    let is = c.push_reserved.ensures.items ∙ ap (λ l. l ++ c.remove-first.result ∷ []) c.remove-first.ensures.items
    ∙ first_last old c.remove-first.result (some_held c.args.n old held) c.remove-first.ensures.value in
    subst (λ l. place_in c.args.n l < place_in c.args.n old) (sym is) (nearer c.args.n old c.index.result.now c.index.ensures c.loop-seat-test.true held)

pub loop-seat-preserved : goal.loop-seat-preserved
loop-seat-preserved c = let old : List ℕ = c.loop-seat.order.items in let i = c.loop-seat.invariant in
    let held : 0 < times c.args.n old = omega (arith, i.1 c.args.n, c.requires.held) in
    let is = c.push_reserved.ensures.items ∙ ap (λ l. l ++ c.remove-first.result ∷ []) c.remove-first.ensures.items
    ∙ first_last old c.remove-first.result (some_held c.args.n old held) c.remove-first.ensures.value in
    let t = c.turn.ensures in (
      is ∙ ap (λ l. drop 1 l ++ take 1 l) i.0 ∙ sym (numbers_turned c.loop-seat.seat.me.1) ∙ ap (λ m. numbers m.1) (sym t.2),
      (λ m. ap (times m) is ∙ times_turned m old ∙ i.1 m),
      t.0 ∙ i.2,
      ap (λ m. m.0) t.2 ∙ i.3,
      omega (arith, ap length is, times_long old, i.4),
      c.push_reserved.ensures.capacity ∙ c.remove-first.ensures.capacity ∙ i.5,
    )
