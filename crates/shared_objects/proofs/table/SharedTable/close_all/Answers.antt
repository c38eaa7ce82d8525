use Rattle.std.proofs.Common.{ap, ◌∙◌, subst, ℕ, refl}
use Rattle.scopes.specs.Windows.{IsWindow}
use Rattle.shared_objects.specs.Rule.{times}
use Rattle.shared_objects.specs.Kinds.{without_scope, shut, without}
use Rattle.shared_objects.specs.Resting.{AllBelow}
use Rattle.shared_objects.proofs.Noted.{below_popped, popped_once, without_first}
use Rattle.shared_objects.proofs.Acting.{rests_after}
use Rattle.shared_objects.proofs.table.SharedTable.close_all.Goals as goal

pub close_scope-requires-clause-object : goal.close_scope-requires-clause-object
close_scope-requires-clause-object c = let i = c.loop-oldest.invariant in
    (below_popped _ c.in-Some.oldest c.pop.new.self (subst (AllBelow _) c.in-Some.ensures.some i.3)).0

pub close_scope-requires-clause-open : goal.close_scope-requires-clause-open
close_scope-requires-clause-open c = let i = c.loop-oldest.invariant in let n : ℕ = c.in-Some.oldest in
    ap (times n) (i.2 ∙ c.in-Some.ensures.some) ∙ popped_once n c.pop.new.self (subst IsWindow c.in-Some.ensures.some c.pop.ensures.window)

pub loop-oldest-preserved : goal.loop-oldest-preserved
loop-oldest-preserved c = let i = c.loop-oldest.invariant in let n : ℕ = c.in-Some.oldest in let me = c.close_scope.ensures.me in
    let old = c.loop-oldest.seat.me in (
      c.close_scope.ensures.id ∙ i.0,
      rests_after old c.close_scope.new.seat.me (without_scope n old.0) i.1 (me ∙ ap (λ l. (without_scope n old.0, l)) i.1.0) i.1.1 refl refl refl refl refl,
      ap (λ m. m.0.scopes) me ∙ ap (without n) (i.2 ∙ c.in-Some.ensures.some) ∙ without_first n c.pop.new.self,
      (below_popped _ n c.pop.new.self (subst (AllBelow _) c.in-Some.ensures.some i.3)).1,
      ap (λ m. shut m.0) me ∙ i.4,
    )
