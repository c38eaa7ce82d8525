use Rattle.std.proofs.Common.{ℕ, ◌<◌, ◌-◌, subst, sym}
use Rattle.object_store.proofs.Listed.{scopes_at, counted_at}
use Rattle.object_store.proofs.scoping.end_scope.Goals as goal

pub close_scope-requires : goal.close_scope-requires
close_scope-requires g c = subst (λ (n : ℕ). 0 < n)
    (sym (scopes_at c.args.bodies.now c.args.number c.index-bodies-number.result c.requires.object)) c.requires.held

pub returns : goal.returns
returns g c = counted_at c.args.bodies.now c.args.number c.index-bodies-number.result c.close_scope.new.self (λ (n : ℕ). n - 1)
    c.requires.object c.close_scope.ensures
