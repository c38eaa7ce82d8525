use Rattle.std.proofs.Common.{arith, ap, ◌∷◌, ◌∙◌, ℕ, List, subst}
use Rattle.shared_objects.specs.Kinds.{Took}
use Rattle.shared_objects.specs.declared.body.Body.{Body}
use Rattle.shared_objects.proofs.Keeps.{turns_ok}
use Rattle.shared_objects.proofs.Logs.{object_home}
use Rattle.shared_objects.proofs.table.SharedTable.take_turn.Goals as goal

pub fetch_or-found-requires : goal.fetch_or-found-requires
fetch_or-found-requires c = let t = c.args.self.now in let lt = c.requires.object in (
  c.requires.seat,
  omega (arith, t.words),
  turns_ok _ _ _ _ _ c.args.n (omega (arith, t.slots)) c.requires.rests.1 c.requires.open.0 c.requires.open.1 c.requires.live.0 c.requires.live.1,
)

pub returns-then-found-eq0-clause-me : goal.returns-then-found-eq0-clause-me
returns-then-found-eq0-clause-me c = let t =
    subst (λ k. Took k c.fetch_or-found.result c.args.seat.now.me c.fetch_or-found.new.seat.me) (object_home c.args.n)
    (c.fetch_or-found.ensures.2.1 c.if-found-eq0.true) in
    (t.0, ap (λ m. m.1) t.1 ∙ ap (λ (l : List (ℕ × Body)). (c.args.n, t.0) ∷ l) c.requires.rests.0, (ap (λ m. m.0) t.1, t.2))
