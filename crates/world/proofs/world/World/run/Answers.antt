use Rattle.std.proofs.Common.{List, [], ◌∷◌, ◌++◌, ap, ◌∙◌, refl, append_assoc, arith}
use Rattle.world.specs.Run.{Runs}
use Rattle.world.specs.Answers.{Answers}
use Rattle.world.specs.Asking.{AnswersWithin}
use Rattle.world.specs.WorldState.{state_of}
use Rattle.world.specs.declared.replies.Reply.{Reply}
use Rattle.world.proofs.Joined.{Runs-append}
use Rattle.world.proofs.Undebugged_runs.{neither_changes_anything}
use Rattle.world.proofs.world.World.run.Goals as goal

pub loop-event-preserved : goal.loop-event-preserved
loop-event-preserved g c =
    let i = c.loop-event.invariant in
    let s = rw c.in-Some.is at c.next.ensures.steps in
    let within : Runs (AnswersWithin g.F.FarStore.called) c.args.self.now (c.loop-event.yielded ++ c.in-Some.event ∷ []) (i.run.0
    ++ c.apply.result ∷ []) c.apply.new.self =
    Runs-append (AnswersWithin g.F.FarStore.called) c.args.self.now c.loop-event.self c.apply.new.self c.loop-event.yielded i.run.0 (c.in-Some.event
    ∷ []) (c.apply.result ∷ []) i.run.2 (c.apply.new.self, (c.apply.ensures.answers, c.apply.ensures.asks), refl) in
    let run : Runs Answers (state_of c.args.self.now) (c.loop-event.yielded ++ c.in-Some.event ∷ []) (i.run.0
    ++ c.apply.result ∷ []) (state_of c.apply.new.self) =
    Runs-append Answers (state_of c.args.self.now) (state_of c.loop-event.self) (state_of c.apply.new.self) c.loop-event.yielded i.run.0 (c.in-Some.event
    ∷ []) (c.apply.result ∷ []) i.run.3 (state_of c.apply.new.self, c.apply.ensures.answers, refl) in
    record {
      run = (
        i.run.0 ++ c.apply.result ∷ [],
        rw c.push_reserved.ensures.items (ap (λ (l : List Reply). l ++ c.apply.result ∷ []) i.run.1 ∙ append_assoc _ i.run.0 (c.apply.result ∷ [])),
        within,
        run,
        neither_changes_anything _ _ _ _ run,
      );
      room = omega (arith, s.1);
    }
