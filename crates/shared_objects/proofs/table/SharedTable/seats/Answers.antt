use Rattle.std.proofs.Common.{arith, ap, sym, ◌∙◌, subst, ◌≡◌, ℕ, ◌+◌, List, [], ◌∷◌, length, length-append}
use Rattle.std.specs.Prelude.{All}
use Rattle.shared_objects.specs.Kinds.{dealt, newcomer}
use Rattle.shared_objects.specs.Opened.{AreFresh, seated}
use Rattle.shared_objects.specs.Tables.{IsActorOf}
use Rattle.shared_objects.specs.declared.view.View.{View}
use Rattle.shared_objects.specs.declared.seats.ActorSeat.{ActorSeat}
use Rattle.shared_objects.proofs.Seating.{seated_next, fresh_more, all_more}
use Rattle.shared_objects.proofs.table.SharedTable.seats.Goals as goal

pub loop-actors-preserved : goal.loop-actors-preserved
loop-actors-preserved c = let i = c.loop-actors.invariant in let xs : List ActorSeat = c.loop-actors.actors.items in let new : ActorSeat = c.seat.result in
    let v : View = c.args.mover.now.seat.me.0 in
    let p = c.in_ok-push.ensures.items in
    let long : length c.push.new.self.items ≡ length xs + 1 = omega (arith, ap length p, length-append xs (new ∷ [])) in (
      c.seat.ensures.mover,
      c.seat.ensures.view ∙ ap dealt i.1 ∙ seated_next (length xs) v ∙ ap (λ (k : ℕ). seated k v) (sym long),
      subst (AreFresh v) (sym p) (fresh_more v xs new i.2 (c.seat.ensures.actor.2 ∙ ap newcomer i.1) c.seat.ensures.actor.1),
      subst (All (IsActorOf c.args.self.now)) (sym p) (all_more (IsActorOf c.args.self.now) xs new i.3 c.seat.ensures.actor.0),
      omega (arith, long, c.loop-actors-test.true, c.len.ensures, c.loop-actors.actors.ok.0),
    )

pub returns-clause-seats : goal.returns-clause-seats
returns-clause-seats c = let i = c.loop-actors.invariant in let v : View = c.args.mover.now.seat.me.0 in
    let e : length c.loop-actors.actors.items ≡ c.args.count = omega (arith, i.4, c.loop-actors-test.false, c.len.ensures, c.loop-actors.actors.ok.0) in
    (e, i.1 ∙ ap (λ (k : ℕ). seated k v) e, i.2, i.3)
