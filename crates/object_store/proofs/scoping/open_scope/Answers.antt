use Rattle.std.proofs.Common.{ℕ, ◌<◌, ◌+◌, subst, sym}
use Rattle.object_store.proofs.Listed.{scopes_at, counted_at}
use Rattle.object_store.proofs.scoping.open_scope.Goals as goal

pub open_scope-requires : goal.open_scope-requires
open_scope-requires g c = subst (λ (n : ℕ). n < 255)
    (sym (scopes_at c.args.bodies.now c.args.number c.index-bodies-number.result c.requires.object)) c.requires.fits

pub returns : goal.returns
returns g c = counted_at c.args.bodies.now c.args.number c.index-bodies-number.result c.open_scope.new.self (λ (n : ℕ). n + 1)
    c.requires.object c.open_scope.ensures
