use Rattle.std.proofs.Common.{rules, ◌≡◌, length, true, Some, sym, subst, ◌∙◌, ap, arith}
use Rattle.library_store.specs.Calls.{LibraryState}
use Rattle.world.specs.WorldState.{WorldWithin, state_of}
use Rattle.world.specs.Answers.{AnswersGet, denied}
use Rattle.world.specs.declared.replies.Reply.TheVariants.{Bytes}
use Rattle.bpfagent_c.specs.declared.numbers.TheConstants.{NOMEM, OK}
use Rattle.bpfagent_c.proofs.Reading.{over_as_many, denied_shows_nothing}
use Rattle.bpfagent_c.proofs.objects.get.Goals as goal
use Rattle.bpfagent_c.proofs.objects.get.Goals.{in-Ok, in-Err}

pub returns : goal.returns
returns c =
    let same : c.deref.result.now ≡ c.args.agent.now.held.state = search rules in
    let live : c.args.agent.now.live ≡ true = search rules in
    let after : c.give.new.agent.held.state ≡ c.args.agent.now.held.state = search rules in
    elim c.match-read.branch [
      | in-Ok w ↦
          let shown : AnswersGet c.deref.result.now.store.state c.args.object c.args.offset (length c.args.bytes.now) (Bytes c.read.new.into) = search rules in
          record {
            replied = (
              Some (Bytes c.read.new.into),
              (
                live,
                c.give.ensures.live,
                (
                  subst (λ (x : WorldWithin LibraryState).
                      AnswersGet x.store.state c.args.object c.args.offset (length c.args.bytes.now) (Bytes c.read.new.into)) same shown,
                  ap state_of after,
                ),
              ),
              w.number-is,
              over_as_many c.read.new.into c.args.bytes.now (search rules),
            );
            memory = λ e. let k : OK ≡ NOMEM = sym w.number-is ∙ e in
                omega (arith, k);
          }
      | in-Err w ↦
          let refused : AnswersGet c.deref.result.now.store.state c.args.object c.args.offset (length c.args.bytes.now)
          (denied c.args.object w.in-Err.why) = search rules in
          record {
            replied = (
              Some (denied c.args.object w.in-Err.why),
              (
                live,
                c.give.ensures.live,
                (
                  subst (λ (x : WorldWithin LibraryState).
                      AnswersGet x.store.state c.args.object c.args.offset (length c.args.bytes.now) (denied c.args.object w.in-Err.why)) same refused,
                  ap state_of after,
                ),
              ),
              w.number-is ∙ w.code_of_denied-number.ensures.number c.args.object,
              search rules ∙ denied_shows_nothing c.args.object w.in-Err.why c.args.bytes.now,
            );
            memory = λ e. w.code_of_denied-number.ensures.memory (sym w.number-is ∙ e);
          }
    ]
