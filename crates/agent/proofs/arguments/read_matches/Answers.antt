use Rattle.std.proofs.Common.{◌≡◌, ◌∙◌, [], List, Result, Ok, Err, IfErr, IfOk, ap, map, refl, subst, sym, true}
use Rattle.clap.specs.Words.{App, FailsBy, HasKind, HasMatchesOf, fault_of, is_simple, is_simple_and_free, subcommand_of, subcommand_rows_of}
use Rattle.clap.specs.Walk.{Text}
use Rattle.clap.specs.declared.error.Error.{Error}
use Rattle.clap.specs.declared.parser.matches.ArgMatches.{ArgMatches}
use Rattle.clap.proofs.OnLiterals.{clap_on_literals}
use Rattle.agent.specs.CommandLine.{command_line, faults_of}
use Rattle.agent.proofs.arguments.read_matches.Goals as goal

simple : is_simple command_line ≡ true
unfolding clap_on_literals
simple = refl

free : is_simple_and_free command_line ≡ true
unfolding clap_on_literals
free = refl

-- what a parse by a command line says that is this one
module _ (words : List Text) (line : App) (is : line ≡ command_line) where
  matched : (r : Result ArgMatches Error) → FailsBy (fault_of line words) r → IfOk r (HasMatchesOf line words)
      → IfOk r (λ m. (faults_of words ≡ []) × (subcommand_rows_of m ≡ subcommand_of command_line words))
  matched (Ok m) right has = (
    ap (λ (a : App). fault_of a words) (sym is) ∙ right,
    (has (ap is_simple is ∙ simple)).1 ∙ ap (λ (a : App). subcommand_of a words) is,
  )
  matched (Err error) fails has = tt

  failed : (r : Result ArgMatches Error) → FailsBy (fault_of line words) r → IfErr r (HasKind (faults_of words))
  failed (Ok m) right = tt
  failed (Err error) fails = subst (λ (a : App). HasKind (fault_of a words) error) is fails

pub returns-clause-ok : goal.returns-clause-ok
returns-clause-ok g c =
    let line_is = c.in_ok-make_command.ensures in
    matched (map g.S.AsStr.text c.args.arguments.now) _ line_is c.try_get_matches_from.result
    (c.try_get_matches_from.ensures.kinds (ap is_simple_and_free line_is ∙ free)) c.try_get_matches_from.ensures.matches

pub returns-clause-err : goal.returns-clause-err
returns-clause-err g c =
    let line_is = c.in_ok-make_command.ensures in
    failed (map g.S.AsStr.text c.args.arguments.now) _ line_is c.try_get_matches_from.result
    (c.try_get_matches_from.ensures.kinds (ap is_simple_and_free line_is ∙ free))
