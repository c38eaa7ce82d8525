-- Right arguments name a subcommand, since one is required.
use Rattle.std.proofs.Common.{◌≡◌, Bool, true, false, not, ◌&&◌, List, [], ◌∷◌, ◌++◌, Option, None, Some, is_some, IsSome, map, refl, subst, option_map, cond}
use Rattle.std.proofs.Common.{codes, arith}
use Rattle.std.specs.Prelude.{option_and_then}
use Rattle.std.specs.List.{AllByRecursion, list_any}
use Rattle.std.specs.Option.{option_map_or}
use Rattle.std.specs.Str.{bytes_eq}
use Rattle.clap.specs.Facts.{explicit_source}
use Rattle.clap.specs.Kinds.{Kinds, check_kinds, or_else}
use Rattle.clap.specs.Faults.{built_fault, check_fault, defaults_fault, entered_fault, level_fault, settle_fault, walk_fault}
use Rattle.clap.specs.Simple.{App, Shape, built, entered, filled, names_of, rows_at, subcommand_of}
use Rattle.clap.specs.Takes.{is_given}
use Rattle.clap.specs.Walk.{Held, Row, Rule, Text, answers_to, finished, nothing_held, settled, walk, walk_from}
use Rattle.clap.proofs.OnLiterals.{clap_on_literals}
use Rattle.agent.specs.CommandLine.{HasServing, HasStoring, budget_option, command_line, connections_option}
use Rattle.agent.specs.CommandLine.{far_rule, far_timeout_option, faults_of, flag_rule, idle_option, keep_option, memory_option, port_option, run_shape}
use Rattle.agent.specs.CommandLine.{serve_shape, store_shape, subcommands, Subcommand, task_named, task_of, unix_rule, verbose_rule, workers_option}
use Rattle.agent.specs.OptionNumbers.{HasNumber, NumberOption, number_rule}
use Rattle.agent.proofs.Numbers.{ArePlain, IsPlain, first_empty, rest_empty, help, options_built, number_at}

last_empty : (first second third fourth last : Kinds) → or_else first (or_else second (or_else third (or_else fourth last))) ≡ [] → last ≡ []
last_empty first second third fourth last right =
    rest_empty fourth last (rest_empty third (or_else fourth last) (rest_empty second (or_else third (or_else fourth last))
    (rest_empty first (or_else second (or_else third (or_else fourth last))) right)))

none_wanted : (help subcommand argument : Bool) → check_kinds help subcommand argument ≡ [] → subcommand ≡ false
none_wanted true subcommand argument right = absurd (cc)
none_wanted false true argument right = absurd (cc)
none_wanted false false argument right = refl

required_met : (has required help argument : Bool) → required ≡ true → check_kinds help (not has && required) argument ≡ [] → has ≡ true
required_met true required help argument is right = refl
required_met false true help argument is right = absurd (let none : true ≡ false = none_wanted help true argument right in cc)
required_met false false help argument is right = absurd (cc)

subcommand_entered : (app : App) (held : Held) (words : List Text) → app.top.subcommand_required ≡ true
    → built_fault app held words ≡ [] → is_some (entered app (walk app.top.rules (names_of app) held words).stopped) ≡ true
subcommand_entered app held words required right =
    let s = app.top in
    let end = (walk s.rules (names_of app) held words).held in
    let stop = (walk s.rules (names_of app) held words).stopped in
    let rows = finished s.rules end in
    let has = is_some (entered app stop) in
    required_met has s.subcommand_required (not has && (s.arg_required_else_help && not (list_any (λ (r : Row). explicit_source r.source) rows)))
    (not (s.subcommand_negates_reqs && has) && list_any (λ a. a.required && not (is_given a.id rows)) s.rules) required
    (last_empty (walk_fault s (names_of app) (walk_from held) words) (entered_fault app stop) (settle_fault s.rules s.args_override_self end)
    (defaults_fault (settled s.rules end).rows s.rules) (check_fault s rows has) right)

-- ---- the subcommands and their options, as they are built

-- without the option for help
abbrev built_rules : Shape → List Rule
built_rules s = map filled s.rules

abbrev with_help : Shape → Shape
with_help s = options_built s.name (built_rules s ++ help ∷ [])

number_plain : (opt : NumberOption) → IsPlain (filled (number_rule opt))
number_plain opt = record { index = refl; last = λ values rows. refl }

flag_plain : (name : Text) → IsPlain (filled (flag_rule name))
flag_plain name = record { index = refl; last = λ values rows. refl }

far_plain : IsPlain (filled far_rule)
far_plain = record { index = refl; last = λ values rows. refl }

unix_plain : IsPlain (filled unix_rule)
unix_plain = record { index = refl; last = λ values rows. refl }

verbose_plain : IsPlain (filled verbose_rule)
verbose_plain = record { index = refl; last = λ values rows. refl }

store_plain : ArePlain (built_rules store_shape)
store_plain = (number_plain port_option, (number_plain idle_option, (number_plain memory_option, (verbose_plain, tt))))

serve_plain : ArePlain (built_rules serve_shape)
serve_plain = (
  number_plain port_option,
  (
    unix_plain,
    (
      number_plain connections_option,
      (
        number_plain workers_option,
        (
          number_plain budget_option,
          (flag_plain (codes "sweep"), (number_plain keep_option, (far_plain, (number_plain far_timeout_option, (verbose_plain, tt))))),
        ),
      ),
    ),
  ),
)

-- the one that this word names, if it names one
abbrev chosen : List Subcommand → Text → Option Shape
chosen [] word = None
chosen (s ∷ more) word = cond (answers_to word (s.shape.name, [])) (Some (with_help s.shape)) (chosen more word)

module _ (P : Option Shape → Type 0) where
  either_shape : (is : Bool) (s : Shape) (other : Option Shape) → P (Some s) → P other → P (cond is (Some s) other)
  either_shape true s other this that = this
  either_shape false s other this that = that

  -- what holds of none and of each holds of the one that is named
  chosen_has : (subs : List Subcommand) (word : Text) → P None → AllByRecursion (λ s. P (Some (with_help s.shape))) subs → P (chosen subs word)
  chosen_has [] word none each = none
  chosen_has (s ∷ more) word none each =
      either_shape (answers_to word (s.shape.name, [])) (with_help s.shape) (chosen more word) each.0 (chosen_has more word none each.1)

-- ---- what is entered has a task, and its numbers

-- the one where it is so, else the other
abbrev Either : Bool → Type 0 → Type 0 → Type 0
Either true A B = A
Either false A B = B

-- the numbers of the subcommand of this name: `run` has its budget, `store` and `serve` all of their own
abbrev pub HasNumbers : Text → List Row → Type 0
HasNumbers name rows = Either (bytes_eq name (codes "run")) (HasNumber 32 (codes "budget") rows)
    (Either (bytes_eq name (codes "store")) (HasStoring rows) (Either (bytes_eq name (codes "serve")) (HasServing rows) (Unit {0})))

-- the same by its name
pub needed : (name : Text) (rows : List Row) → HasNumbers name rows
    → (name ≡ codes "run" → HasNumber 32 (codes "budget") rows) × (name ≡ codes "store" → HasStoring rows)
    × (name ≡ codes "serve" → HasServing rows)
needed name rows has = (λ e. subst (λ n. HasNumbers n rows) e has, λ e. subst (λ n. HasNumbers n rows) e has, λ e. subst (λ n. HasNumbers n rows) e has)

abbrev pub IsEntered : Option (Text × List Row) → Type 0
IsEntered None = Unit {0}
IsEntered (Some p) = IsSome (task_named p.0 p.1) × HasNumbers p.0 p.1

run_named : (rows : List Row) → HasNumber 32 (codes "budget") rows → IsEntered (Some (codes "run", rows))
run_named rows b = (rw b.found refl, b)

store_named : (rows : List Row) → HasStoring rows → IsEntered (Some (codes "store", rows))
store_named rows b = (rw (b.port.found, b.idle.found, b.memory.found) refl, b)

serve_named : (rows : List Row) → HasServing rows → IsEntered (Some (codes "serve", rows))
serve_named rows b = (rw (b.port.found, b.connections.found, b.workers.found, b.budget.found, b.keep.found, b.far_timeout.found) refl, b)

run_entered : (words : List Text) → level_fault (with_help run_shape) [] nothing_held words false [] ≡ []
    → IsEntered (Some (rows_at (with_help run_shape) words))
run_entered words f = run_named _ (number_at budget_option refl refl 32 (omega arith) (codes "run") (built_rules run_shape) (
  number_plain budget_option,
  tt,
) 0 refl refl refl words f)

store_entered : (words : List Text) → level_fault (with_help store_shape) [] nothing_held words false [] ≡ []
    → IsEntered (Some (rows_at (with_help store_shape) words))
store_entered words f = store_named _ (record {
  port = number_at port_option refl refl 16 (omega arith) (codes "store") (built_rules store_shape) store_plain 0 refl refl refl words f;
  idle = number_at idle_option refl refl 32 (omega arith) (codes "store") (built_rules store_shape) store_plain 1 refl refl refl words f;
  memory = number_at memory_option refl refl 32 (omega arith) (codes "store") (built_rules store_shape) store_plain 2 refl refl refl words f;
})

serve_entered : (words : List Text) → level_fault (with_help serve_shape) [] nothing_held words false [] ≡ []
    → IsEntered (Some (rows_at (with_help serve_shape) words))
serve_entered words f = serve_named _ (record {
  port = number_at port_option refl refl 16 (omega arith) (codes "serve") (built_rules serve_shape) serve_plain 0 refl refl refl words f;
  connections = number_at connections_option refl refl 8 (omega arith) (codes "serve") (built_rules serve_shape) serve_plain 2 refl refl refl words f;
  workers = number_at workers_option refl refl 8 (omega arith) (codes "serve") (built_rules serve_shape) serve_plain 3 refl refl refl words f;
  budget = number_at budget_option refl refl 32 (omega arith) (codes "serve") (built_rules serve_shape) serve_plain 4 refl refl refl words f;
  keep = number_at keep_option refl refl 32 (omega arith) (codes "serve") (built_rules serve_shape) serve_plain 6 refl refl refl words f;
  far_timeout = number_at far_timeout_option refl refl 32 (omega arith) (codes "serve") (built_rules serve_shape) serve_plain 8 refl refl refl words f;
})

entered_good : (stop : Option (Text × List Text)) → entered_fault (built command_line) stop ≡ [] → IsEntered (entered (built command_line) stop)
unfolding clap_on_literals
entered_good None f = tt
entered_good (Some p) f =
    chosen_has (λ o. option_map_or (λ s. level_fault s [] nothing_held p.1 false []) o [] ≡ [] → IsEntered (option_map (λ s. rows_at s p.1) o))
    subcommands p.0 (λ _. tt)
    (search (run_entered p.1, store_entered p.1, serve_entered p.1)) f

-- right arguments enter a subcommand
pub right_enters : (arguments : List Text) → faults_of arguments ≡ []
    → (is_some (subcommand_of command_line arguments) ≡ true) × IsEntered (subcommand_of command_line arguments)
unfolding clap_on_literals
right_enters arguments right = (
  subcommand_entered (built command_line) nothing_held arguments refl right,
  entered_good (walk (built command_line).top.rules (names_of (built command_line)) nothing_held arguments).stopped (first_empty _ _ (rest_empty _ _ right)),
)

entered_named : (o : Option (Text × List Row)) → is_some o ≡ true → IsEntered o → IsSome (option_and_then (λ p. task_named p.0 p.1) o)
entered_named None some e = absurd (cc)
entered_named (Some p) some e = e.0

pub right_names_a_task : (arguments : List Text) → faults_of arguments ≡ [] → IsSome (task_of arguments)
right_names_a_task arguments right = let e = right_enters arguments right in entered_named _ e.0 e.1
