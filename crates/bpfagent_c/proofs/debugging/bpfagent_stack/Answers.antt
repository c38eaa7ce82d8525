use Rattle.std.proofs.Common.{rules, ◌≡◌, length, true, Some, sym, subst, ◌∙◌}
use Rattle.debugger.specs.declared.commands.MachineCommand.TheVariants.{Show}
use Rattle.debugger.specs.declared.show.ShowCommand.TheVariants.{Stack}
use Rattle.library_store.specs.Calls.{LibraryState}
use Rattle.world.specs.Answers.{Answers}
use Rattle.world.specs.Machines.{refused_stack}
use Rattle.world.specs.WorldState.{WorldWithin, state_of}
use Rattle.world.specs.declared.events.Event.TheVariants.{Machine}
use Rattle.world.specs.declared.replies.Reply.{Reply}
use Rattle.world.specs.declared.replies.Reply.TheVariants.{Shown}
use Rattle.debugger.specs.declared.show.ShowReply.TheVariants.{Bytes}
use Rattle.bpfagent_c.proofs.Reading.{over_as_many, stack_shows_nothing}
use Rattle.bpfagent_c.proofs.debugging.bpfagent_stack.Goals as goal
use Rattle.bpfagent_c.proofs.debugging.bpfagent_stack.Goals.{in-Ok, in-Err}

pub returns-clause-replied : goal.returns-clause-replied
returns-clause-replied c =
    let same : c.deref.result.now ≡ c.args.agent.now.held.state = search rules in
    let live : c.args.agent.now.live ≡ true = search rules in
    let after : c.give.new.agent.held.state ≡ c.args.agent.now.held.state = search rules in
    let carry : (r : Reply) → Answers (state_of c.deref.result.now) (Machine c.args.machine (Show (Stack c.args.offset (length c.args.bytes.now))))
    r (state_of c.deref.result.now)
    → Answers (state_of c.args.agent.now.held.state) (Machine c.args.machine (Show (Stack c.args.offset (length c.args.bytes.now)))) r
    (state_of c.give.new.agent.held.state)
    = λ r h. subst (λ (x : WorldWithin LibraryState).
    Answers (state_of c.args.agent.now.held.state) (Machine c.args.machine (Show (Stack c.args.offset (length c.args.bytes.now)))) r (state_of x)) (sym after)
    (subst (λ (x : WorldWithin LibraryState).
    Answers (state_of x) (Machine c.args.machine (Show (Stack c.args.offset (length c.args.bytes.now)))) r (state_of x)) same h) in
    elim c.match-read_stack.branch [
      | in-Ok w ↦
          let shown : Answers (state_of c.deref.result.now) (Machine c.args.machine (Show (Stack c.args.offset (length c.args.bytes.now))))
          (Shown c.args.machine (Bytes c.read_stack.new.into)) (state_of c.deref.result.now) = search rules in (
            Some (Shown c.args.machine (Bytes c.read_stack.new.into)),
            (live, c.give.ensures.live, carry (Shown c.args.machine (Bytes c.read_stack.new.into)) shown),
            w.number-is,
            over_as_many c.read_stack.new.into c.args.bytes.now (search rules),
          )
      | in-Err w ↦
          let refused : Answers (state_of c.deref.result.now) (Machine c.args.machine (Show (Stack c.args.offset (length c.args.bytes.now))))
          (refused_stack c.args.machine w.in-Err.error) (state_of c.deref.result.now) = search rules in (
            Some (refused_stack c.args.machine w.in-Err.error),
            (live, c.give.ensures.live, carry (refused_stack c.args.machine w.in-Err.error) refused),
            w.number-is ∙ w.code_of_stack-number.ensures.number c.args.machine,
            search rules ∙ stack_shows_nothing c.args.machine w.in-Err.error c.args.bytes.now,
          )
    ]
