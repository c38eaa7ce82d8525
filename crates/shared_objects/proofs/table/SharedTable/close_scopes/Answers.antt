use Rattle.std.proofs.Common.{ap, sym, ◌∙◌, subst, ◌≤◌, refl}
use Rattle.shared_objects.specs.History.{top}
use Rattle.shared_objects.specs.Kinds.{shut}
use Rattle.shared_objects.specs.Resting.{AllBelow}
use Rattle.shared_objects.proofs.Noted.{below_none}
use Rattle.shared_objects.proofs.Acting.{rests_after}
use Rattle.shared_objects.proofs.table.SharedTable.close_scopes.Goals as goal

pub invariant_of-actor : goal.invariant_of-actor
invariant_of-actor c = let a = c.args.actor.now in let r = a.rests in let me = c.close_all.ensures.me in record {
  rests = rests_after a.seat.me c.close_all.new.seat.me (shut a.seat.me.0) r me r.1 refl refl refl refl refl;
  opens = ap (λ m. m.0.scopes) me ∙ sym c.close_all.ensures.window;
  near = subst (AllBelow _) (sym c.close_all.ensures.window) (below_none _);
  stamped = subst (λ m. top 0 m.0.entries ≤ a.stamp) (sym me) a.stamped;
}
