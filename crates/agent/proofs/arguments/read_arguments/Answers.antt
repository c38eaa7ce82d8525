use Rattle.std.proofs.Common.{◌≡◌, IsSome, subst, ◌∙◌, ap, ap₂, refl, sym, true, false, is_some, map, List, Option, None, Some, option_map, codes}
use Rattle.std.specs.Prelude.{option_and_then}
use Rattle.std.proofs.lemmas.Result.{err_from_is_err_and}
use Rattle.clap.specs.Walk.{Row, Text, first_of}
use Rattle.clap.specs.Words.{found_of, rows_of}
use Rattle.clap.proofs.WalkLemmas.{first_value-rows}
use Rattle.agent.specs.CommandLine.{IfServer, IsFarAs, IsUnixAs, task_named}
use Rattle.agent.proofs.Subcommands.{IsEntered, needed, right_enters}
use Rattle.agent.proofs.arguments.read_arguments.Goals as goal

module _ {X A B : Type 0} (f : X → A) (g : X → B) where
  firsts : (o : Option X) → option_map f o ≡ option_map (λ (p : A × B). p.0) (option_map (λ x. (f x, g x)) o)
  firsts None = refl
  firsts (Some x) = refl

  joined : (o : Option X) (p : Option (A × B)) → option_map f o ≡ option_map (λ q. q.0) p → option_map g o ≡ option_map (λ q. q.1) p
      → option_map (λ x. (f x, g x)) o ≡ p
  joined None None e h = refl
  joined None (Some q) e h = absurd (cc)
  joined (Some x) None e h = absurd (cc)
  joined (Some x) (Some q) e h = let a : f x ≡ q.0 = cc in let b : g x ≡ q.1 = cc in ap₂ (λ u v. Some (u, v)) a b

pub unreachable-requires : goal.unreachable-requires
unreachable-requires g c =
    let right = right_enters (map g.S.AsStr.text c.args.arguments.now) c.in_ok-matches.ensures.ok.0 in
    let seen = joined _ _ _ _ (c.subcommand.ensures.name ∙ firsts _ _ _) c.subcommand.ensures.rows ∙ c.in_ok-matches.ensures.ok.1 in
    let some = ap is_some seen ∙ right.0 in
    let none : false ≡ true = rw c.in_default.is at some in
    cc none

pub task_called-requires : goal.task_called-requires
task_called-requires g c =
    let right = right_enters (map g.S.AsStr.text c.args.arguments.now) c.in_ok-matches.ensures.ok.0 in
    let seen = joined _ _ _ _ (c.subcommand.ensures.name ∙ firsts _ _ _) c.subcommand.ensures.rows ∙ c.in_ok-matches.ensures.ok.1 in
    let pair = rw c.in-Some.is at seen in
    let entered = subst IsEntered (sym pair) right.1 in
    let needs = needed c.in-Some.name.now (rows_of (found_of c.in-Some.inner.now)) entered.1 in
    record { run = needs.0; store = needs.1; serve = needs.2 }

pub unreachable-requires-in_default-task_called : goal.unreachable-requires-in_default-task_called
unreachable-requires-in_default-task_called g c =
    let right = right_enters (map g.S.AsStr.text c.args.arguments.now) c.in_ok-matches.ensures.ok.0 in
    let seen = joined _ _ _ _ (c.subcommand.ensures.name ∙ firsts _ _ _) c.subcommand.ensures.rows ∙ c.in_ok-matches.ensures.ok.1 in
    let pair = rw c.in-Some.is at seen in
    let some = (subst IsEntered (sym pair) right.1).0 in
    let none : false ≡ true = subst (λ o. IsSome o) (sym c.task_called.ensures ∙ c.in_default-task_called.is) some in
    cc none

pub returns-clause-ok : goal.returns-clause-ok
returns-clause-ok g c =
    let seen = joined _ _ _ _ (c.subcommand.ensures.name ∙ firsts _ _ _) c.subcommand.ensures.rows ∙ c.in_ok-matches.ensures.ok.1 in
    let pair = rw c.in-Some.is at seen in (
      c.in_ok-matches.ensures.ok.0,
      ap (option_and_then (λ p. task_named p.0 p.1)) (sym pair) ∙ sym c.task_called.ensures ∙ c.in-Some-task_called.is
          ∙ ap Some (sym c.new.ensures.task),
    )

pub returns-clause-far : goal.returns-clause-far
returns-clause-far g c =
    let seen = joined _ _ _ _ (c.subcommand.ensures.name ∙ firsts _ _ _) c.subcommand.ensures.rows ∙ c.in_ok-matches.ensures.ok.1 in
    let pair = rw c.in-Some.is at seen in
    let told = c.get_str.ensures ∙ first_value-rows (found_of c.in-Some.inner.now) (codes "far")
    ∙ ap (λ (o : Option (Text × List Row)). option_and_then (λ p. first_of (codes "far") p.1) o) pair in
    subst (λ address. IfServer (IsFarAs address) c.new.result) told c.new.ensures.far

pub returns-clause-unix : goal.returns-clause-unix
returns-clause-unix g c =
    let seen = joined _ _ _ _ (c.subcommand.ensures.name ∙ firsts _ _ _) c.subcommand.ensures.rows ∙ c.in_ok-matches.ensures.ok.1 in
    let pair = rw c.in-Some.is at seen in
    let told = c.get_str-2.ensures ∙ first_value-rows (found_of c.in-Some.inner.now) (codes "unix")
    ∙ ap (λ (o : Option (Text × List Row)). option_and_then (λ p. first_of (codes "unix") p.1) o) pair in
    subst (λ path. IfServer (IsUnixAs path) c.new.result) told c.new.ensures.unix

pub returns-in_err-matches-clause-err : goal.returns-in_err-matches-clause-err
returns-in_err-matches-clause-err g c =
    let p = err_from_is_err_and c.from_residual.result c.from_residual.ensures.1 in
    rw (p.1, p.2) c.in_err-matches.ensures.err
