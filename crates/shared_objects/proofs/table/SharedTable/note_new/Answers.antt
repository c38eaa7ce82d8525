use Rattle.std.proofs.Common.{arith, ap, sym, ◌∙◌, ℕ, List, [], ◌∷◌, ◌++◌}
use Rattle.shared_objects.specs.Rule.{times}
use Rattle.shared_objects.proofs.Noted.{times_none, pushed_once, pushed_below}
use Rattle.shared_objects.proofs.table.SharedTable.note_new.Goals as goal

pub open_scope-requires-clause-shut : goal.open_scope-requires-clause-shut
open_scope-requires-clause-shut c =
    omega (
      arith,
      ap (times c.args.number) c.requires.window.0,
      ap (times c.args.number) c.requires.rests.5,
      times_none c.args.number c.args.window.now c.requires.new,
    )

pub close_scope-requires-clause-object : goal.close_scope-requires-clause-object
close_scope-requires-clause-object c = pushed_below _ c.args.number c.in-Some.oldest c.args.window.now c.requires.window.1 c.requires.new
    (sym c.note_new.ensures.out ∙ c.in-Some.is)

pub close_scope-requires-clause-open : goal.close_scope-requires-clause-open
close_scope-requires-clause-open c = ap (λ m. times c.in-Some.oldest m.0.scopes) c.if-not-open_scope.ensures.me
    ∙ ap (λ (l : List ℕ). times c.in-Some.oldest (l ++ c.args.number ∷ [])) c.requires.window.0
    ∙ pushed_once c.args.number c.in-Some.oldest c.args.window.now c.note_new.ensures.window c.requires.new (sym c.note_new.ensures.out ∙ c.in-Some.is)
