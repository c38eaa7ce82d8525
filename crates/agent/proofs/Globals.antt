-- Simple arguments aren't passed on to subcommands.
use Rattle.std.proofs.Common.{◌≡◌, ◌∙◌, ◌&&◌, ◌||◌, not, is_some, ap, ap₂, refl, true, false, Bool, Result}
use Rattle.std.specs.Prelude.{IfOk}
use Rattle.std.proofs.lemmas.Result.{IfOk-weaker}
use Rattle.clap.specs.Built.{AddsArg}
use Rattle.clap.specs.Words.{App, Rule, app_of, rule_of, with_rule}
use Rattle.clap.specs.Walk.{is_empty}
use Rattle.clap.specs.declared.builder.arg.Arg.{Arg}
use Rattle.clap.specs.declared.builder.command.Command.{Command}
use Rattle.clap.specs.declared.builder.command.Command.TheOpen.{Command-F}
use Rattle.agent.specs.CommandLine.{IsLocal}

abbrev pub local_of : Command-F Command → Bool
local_of f = f.has_globals

is_last : (a b c d e f g h i j : Bool) → (a && (b && (c && (d && (e && (f && (g && (h && (i && j))))))))) ≡ true → j ≡ true
is_last true true true true true true true true true j h = h
is_last false b c d e f g h i j k = absurd (cc)
is_last true false c d e f g h i j k = absurd (cc)
is_last true true false d e f g h i j k = absurd (cc)
is_last true true true false e f g h i j k = absurd (cc)
is_last true true true true false f g h i j k = absurd (cc)
is_last true true true true true false g h i j k = absurd (cc)
is_last true true true true true true false h i j k = absurd (cc)
is_last true true true true true true true false i j k = absurd (cc)
is_last true true true true true true true true false j k = absurd (cc)

not_true : (b : Bool) → not b ≡ true → b ≡ false
not_true true h = absurd (cc)
not_true false h = refl

-- a simple argument is not global
pub not_global : (a : Arg) (rule : Rule) → rule.is_simple ≡ true → rule_of a ≡ rule → a.global ≡ false
not_global a rule simple is = not_true a.global (is_last (is_empty a.overrides.items) (is_empty a.default_vals_ifs.items) (is_empty a.groups.items)
    (not (is_some a.val_delim)) (not (is_some a.terminator)) (not a.allow_hyphen_values) (not a.allow_negative_numbers)
    (not a.require_equals) (not a.last) (not a.global)
    (ap (λ (r : Rule). r.is_simple) is ∙ simple))

-- a command with one simple argument more
module _ (c : Command) (a : Arg) (app : App) (rule : Rule) (simple : rule.is_simple ≡ true) (made : (app_of c ≡ app) × IsLocal c) (is : rule_of a ≡ rule) where
  pub with_arg : (new : Command) → AddsArg c a new → (app_of new ≡ with_rule app rule) × IsLocal new
  with_arg new adds =
      let local = not_global a rule simple is in
      (adds.shape local ∙ ap₂ with_rule made.0 is, adds.globals ∙ ap₂ (λ x y. x || y) made.1 local)

  -- the last one
  pub with_last : {E : Type 0} (r : Result Command E) → IfOk r (λ new. AddsArg c a new)
      → IfOk r (λ new. ((app_of new).top ≡ (with_rule app rule).top) × IsLocal new)
  with_last r adds = IfOk-weaker r _ _ (λ new added. let made = with_arg new added in (ap (λ (a : App). a.top) made.0, made.1)) adds
