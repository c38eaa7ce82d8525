use Rattle.std.proofs.Common.{arith, ap, ◌∙◌, sym, ◌≡◌, ◌+◌, false, take, ◌++◌, ◌∷◌, [], get_or-set_other, get_or-set_same, length, set, ◌<◌}
use mathlib.Core.Logic.{dite}
use native.Mathlib.Decide.{ℕ_discrete}
use Rattle.std.specs.Prelude.{slice_index_or}
use Rattle.std.specs.Mem.Slots.{slots_items, slots_filled, slots_counts}
use Rattle.shared_objects.specs.Ends.{all_shown}
use Rattle.shared_objects.specs.declared.seats.Phase.TheVariants.{In}
use Rattle.shared_objects.proofs.Joining.{shown_next, phase_at, taken_long}
use Rattle.shared_objects.proofs.closing.emptied.Goals as goal

pub push_reserved-requires : goal.push_reserved-requires
push_reserved-requires c = let v = c.loop-i.invariant in let i = c.loop-i.i in let q = (slots_counts c.loop-i.closed.slots).0 in
    let many : length c.loop-i.ended.items ≡ i =
    ap length v.4 ∙ taken_long c.args.phases.now (slots_items c.loop-i.closed.slots) i (omega (arith, c.loop-i-test.true)) (omega (
      arith,
      c.loop-i-test.true,
      q,
      v.5,
    )) in
    omega (arith, many, v.6, v.3, c.requires.phases, c.loop-i-test.true, c.loop-i.ended.ok)

pub loop-i-preserved : goal.loop-i-preserved
loop-i-preserved c = let o = c.take-body.ensures.others in let v = c.loop-i.invariant in let i = c.loop-i.i in let t = c.loop-i-test.true in
    let near : i < length (slots_filled c.loop-i.closed.slots) = let q = (slots_counts c.loop-i.closed.slots).1 in omega (arith, v.3, c.requires.phases, t) in (
      (λ k lo hi. ap (λ l. slice_index_or l k false) o.1 ∙ get_or-set_other (slots_filled c.loop-i.closed.slots) i k false false (λ e. omega (arith, e))
          ∙ v.0 k (omega arith) (omega (arith, o.2))),
      (λ k lt. dite (ℕ_discrete k i)
          (λ e. ap (λ l. slice_index_or l k false) o.1 ∙ ap (λ j. slice_index_or (set (slots_filled c.loop-i.closed.slots) i false) j false) e
          ∙ get_or-set_same (slots_filled c.loop-i.closed.slots) i false false near)
          (λ ne. ap (λ l. slice_index_or l k false) o.1 ∙ get_or-set_other (slots_filled c.loop-i.closed.slots) i k false false ne
          ∙ v.1 k (omega (arith, ne)))),
      o.0 ∙ v.2,
      o.2 ∙ v.3,
      c.push_reserved.ensures.items ∙ ap (λ l. l ++ c.show.result ∷ []) v.4
          ∙ ap (λ e. all_shown (take i c.args.phases.now) (take i (slots_items c.loop-i.closed.slots)) ++ e ∷ []) c.show.ensures
          ∙ sym (shown_next c.args.phases.now (slots_items c.loop-i.closed.slots) i (slice_index_or c.args.phases.now i In) c.take-body.result
          (phase_at c.args.phases.now i In t) c.take-body.ensures.value) ∙ ap (λ l. all_shown (take (i + 1) c.args.phases.now) (take (i + 1) l)) (sym o.0),
      omega (arith, o.2, v.3, c.requires.phases, t),
      omega (arith, o.2, v.6, c.push_reserved.ensures.capacity),
    )
