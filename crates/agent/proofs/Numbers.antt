-- Right arguments of a subcommand with options have, of each option that is a number and has a default, one that its parser takes.
use Rattle.std.proofs.Common.{◌≡◌, ℕ, ◌<◌, ◌^◌, ◌==◌, Bool, true, false, not, ◌&&◌, ◌||◌, cond, List, [], ◌∷◌, ◌++◌, length, zero, suc, take, drop, Option}
use Rattle.std.proofs.Common.{None, Some, is_some, subst, refl, sym, ap, ◌∙◌, codes, arith}
use Rattle.std.specs.Prelude.{find, fold, encode_utf8, nat_lt, option_and_then, slice_get}
use Rattle.std.specs.Option.{option_map_or}
use Rattle.std.specs.Str.{bytes_eq, chars}
use Rattle.std.proofs.lemmas.Bool.Decides.{nat_tests}
use Rattle.std.proofs.lemmas.Slice.Eq.{bytes_eq-Decides}
use Rattle.clap.specs.Lexer.{long_of, short_of, without_minus}
use Rattle.clap.specs.Kinds.{Kinds, or_else, range_kinds}
use Rattle.clap.specs.Values.{Accepts}
use Rattle.clap.specs.ValueTests.{accepts}
use Rattle.clap.specs.Faults.{bundle_fault, bundle_step_fault, flag_word_fault, flags_fault, level_fault, long_fault, option_fault, react_fault, set_fault}
use Rattle.clap.specs.Faults.{short_fault, step_fault, use_fault, walk_fault, word_fault}
use Rattle.clap.specs.Simple.{Shape, filled, help_rule, new_shape}
use Rattle.clap.specs.Walk.{Held, Outcome, Row, bundle, default_rows, flag_met, reading_by, takes_values, values_or_missing, with_values, has_long, has_short}
use Rattle.clap.specs.Walk.{long_or_other, more_values, row_text, Rule, Step, Text, Waiting, Walk, after_flag, after_step, arg_by_id, arg_by_index, arg_by_long}
use Rattle.clap.specs.Walk.{arg_by_short, attached_value, bundle_met, bundle_step, has_row, at_row, long_met, nothing_held, one_of, option_met, option_word}
use Rattle.clap.specs.Walk.{plain_word, reacted, rows_after, settled, settled_rows, to_positional, short_met, short_or_plain, used, used_by_id, walk, walk_from}
use Rattle.clap.specs.Walk.{walked, walked_from, with_default, without, word_met}
use Rattle.clap.specs.Walk.Outcome.{done, waits, plain, refused}
use Rattle.clap.specs.Walk.Step.{next, trailing, subcommand, value}
use Rattle.clap.specs.Walk.Waiting.{idle, option, positional}
use Rattle.clap.specs.declared.builder.value_parser.Reading.{Reading}
use Rattle.clap.specs.declared.builder.value_parser.Reading.TheVariants.{WithoutMinus}
use Rattle.clap.specs.declared.parser.matches.ValueSource.{ValueSource}
use Rattle.clap.specs.declared.parser.matches.ValueSource.TheVariants.{CommandLine, DefaultValue}
use Rattle.clap.specs.declared.error.kind.ErrorKind.{ErrorKind}
use Rattle.clap.specs.declared.error.kind.ErrorKind.TheVariants as kind
use Rattle.clap.proofs.ValueTestLemmas.{accepts-Accepts}
use Rattle.agent.specs.OptionNumbers.{HasNumber, NumberOption, number_parser, number_rule}

-- ---- first faults

pub first_empty : (first others : Kinds) → or_else first others ≡ [] → first ≡ []
first_empty [] others right = refl
first_empty (k ∷ ks) others right = absurd (cc)

pub rest_empty : (first others : Kinds) → or_else first others ≡ [] → others ≡ []
rest_empty [] others right = right
rest_empty (k ∷ ks) others right = absurd (cc)

never : (first ks : Kinds) (k : ErrorKind) → or_else first (k ∷ ks) ≡ [] → ⊥
never first ks k right = let bad : k ∷ ks ≡ [] = rest_empty first (k ∷ ks) right in absurd (cc)

abbrev pub help : Rule
help = filled help_rule

-- a subcommand of this name, with these arguments, as it is built
abbrev pub options_built : Text → List Rule → Shape
options_built title rules = record (new_shape title) { rules = rules; no_binary_name = true; disable_help_subcommand = true; is_built = true }

-- ---- one option that is a number
module _ (opt : NumberOption) (own : bytes_eq opt.name opt.name ≡ true) (fine : accepts false (number_parser opt.least opt.limit) opt.default ≡ true) where
  abbrev pub number : Rule
  number = filled (number_rule opt)

  -- ---- what is read of the number

  abbrev pub is_number : Row → Bool
  is_number r = bytes_eq r.id opt.name

  pub record IsRead (r : Row) : Type 0 where
    pub text : Text
    pub others : List Text
    pub values : r.values ≡ text ∷ others
    pub reading : r.reading ≡ WithoutMinus
    pub accepted : accepts false (number_parser opt.least opt.limit) text ≡ true

  abbrev pub IsGood : Option Row → Type 0
  IsGood None = Unit {0}
  IsGood (Some r) = IsRead r

  -- the number, if it is there, passed its parser
  abbrev pub Good : List Row → Type 0
  Good rows = IsGood (find is_number rows)

  found_good : (o p : Option Row) → o ≡ p → IsGood p → IsGood o
  found_good o p same g = subst IsGood (sym same) g

  both_false : (a b : Bool) → (a || b) ≡ false → (a ≡ false) × (b ≡ false)
  both_false true b e = absurd (cc)
  both_false false b e = (refl, e)

  -- the number of a new row
  module _ (change : Row → List Row) (new : Row) (is_own : is_number new ≡ true) where
    appended : (rows : List Row) → has_row opt.name rows ≡ false → find is_number (at_row opt.name change (new ∷ []) rows) ≡ Some new
    appended [] none = rw is_own refl
    appended (r ∷ rows) none = let n = both_false (is_number r) (has_row opt.name rows) none in rw (n.0, n.0) (appended rows n.1)

  kept_without : (rows : List Row) → has_row opt.name rows ≡ false → without opt.name rows ≡ rows
  kept_without [] none = refl
  kept_without (r ∷ rows) none = let n = both_false (is_number r) (has_row opt.name rows) none in rw n.0 (ap (λ l. r ∷ l) (kept_without rows n.1))

  abbrev new_row : ValueSource → Text → Row
  new_row source v = record { id = opt.name; values = v ∷ []; count = None; source = Some source; reading = WithoutMinus }

  not_repeated : (h : Bool) → cond (h && true) (kind.ArgumentConflict ∷ []) [] ≡ [] → h ≡ false
  not_repeated true e = absurd (cc)
  not_repeated false e = refl

  is_accepted : (b : Bool) (k : ErrorKind) → or_else (cond b [] (k ∷ [])) [] ≡ [] → b ≡ true
  is_accepted true k e = refl
  is_accepted false k e = absurd (cc)

  one_wanted : (none one : Bool) (other others : Kinds)
      → or_else (cond (true && none) (kind.InvalidValue ∷ []) (cond true (cond one [] (kind.WrongNumberOfValues ∷ [])) other)) others ≡ [] → one ≡ true
  one_wanted true one other others e = absurd (cc)
  one_wanted false true other others e = refl
  one_wanted false false other others e = absurd (cc)

  one_value : (n : ℕ) (others : Kinds) → or_else (range_kinds 1 1 n) others ≡ [] → n ≡ 1
  one_value n others f =
      let one = one_wanted (n == 0) (1 == n) (cond (nat_lt n 1) (kind.TooFewValues ∷ []) (cond (nat_lt 1 n) (kind.TooManyValues ∷ []) [])) others f in
      grind (arith, nat_tests)

  -- ---- one use of an argument

  -- a use that isn't refused keeps what is read of the number
  abbrev pub Sound : Rule → Type 0
  Sound a = (values : List Text) (rows : List Row) → Good rows → use_fault false a values rows ≡ [] → Good (used a values rows)

  sound_number : Sound number
  sound_number [] rows g f = absurd (cc)
  sound_number (v ∷ []) rows g f =
      let none = not_repeated (has_row opt.name rows) (first_empty _ _ f) in
      let a = is_accepted (accepts false (number_parser opt.least opt.limit) v) _ (rest_empty _ _ f) in
      rw (kept_without rows none, appended _ (new_row CommandLine v) own rows none) (record {
        text = v;
        others = [];
        values = refl;
        reading = refl;
        accepted = a;
      })
  sound_number (v ∷ w ∷ rest) rows g f =
      let one = one_value (length (v ∷ w ∷ rest)) (set_fault false number (v ∷ w ∷ rest) rows) f in
      absurd (omega (arith, one))

  sound_help : Sound help
  sound_help values rows g f = absurd (never _ _ _ f)

  -- what a test misses isn't found first
  missed : (b : Bool) (found others : Option Row) → b ≡ false → cond b found others ≡ others
  missed true found others e = absurd (cc)
  missed false found others e = refl

  -- ---- another option, of this name

  module _ (id : Text) (other : bytes_eq id opt.name ≡ false) where
    not_own : (r : Row) → bytes_eq r.id id ≡ true → is_number r ≡ false
    not_own r same = subst (λ t. bytes_eq t opt.name ≡ false) (sym ((bytes_eq-Decides r.id id).0 same)) other

    kept_at : (b : Bool) (r : Row) (rows changed rest : List Row) → (b ≡ true → find is_number changed ≡ find is_number (r ∷ rows))
        → find is_number rest ≡ find is_number rows
        → find is_number (cond b changed (r ∷ rest)) ≡ find is_number (r ∷ rows)
    kept_at true r rows changed rest same more = same refl
    kept_at false r rows changed rest same more = ap (λ o. cond (is_number r) (Some r) o) more

    -- what changes the other's row leaves the number's
    kept_over : (change : Row → List Row) (missing : List Row)
        → ((r : Row) (rows : List Row) → is_number r ≡ false → find is_number (change r ++ rows) ≡ find is_number (r ∷ rows))
        → find is_number missing ≡ None → (rows : List Row) → find is_number (at_row id change missing rows) ≡ find is_number rows
    kept_over change missing changes none [] = none
    kept_over change missing changes none (r ∷ rows) =
        kept_at (bytes_eq r.id id) r rows (change r
        ++ rows) (at_row id change missing rows) (λ e. changes r rows (not_own r e)) (kept_over change missing changes none rows)

    kept_valued : (how : Reading) (s : ValueSource) (values : List Text) (rows : List Row)
        → find is_number (with_values id how s values rows) ≡ find is_number rows
    kept_valued how s values rows = kept_over (more_values s values) (record { id = id; values = values; count = None; source = Some s; reading = how }
        ∷ []) (λ r rows no. missed (is_number r) _ (find is_number rows) no
        ∙ sym (missed (is_number r) (Some r) (find is_number rows) no)) (missed (bytes_eq id opt.name) _ None other) rows

    kept_less : (rows : List Row) → find is_number (without id rows) ≡ find is_number rows
    kept_less rows = kept_over (λ _. []) [] (λ r rows no. sym (missed (is_number r) (Some r) (find is_number rows) no)) refl rows

    kept_default : (how : Reading) (values : List Text) (rows : List Row) → find is_number (default_rows id how values rows) ≡ find is_number rows
    kept_default how [] rows = refl
    kept_default how (v ∷ vs) rows = kept_valued how DefaultValue (v ∷ vs) rows

  kept_either : (b : Bool) (rows more : List Row) → find is_number more ≡ find is_number rows → find is_number (cond b rows more) ≡ find is_number rows
  kept_either true rows more same = refl
  kept_either false rows more same = same

  -- ---- all arguments

  -- A use that isn't refused keeps what is read of the number, and so does the argument's default; it isn't known by its place.
  pub record Fits (a : Rule) : Type 0 where
    pub sound : Sound a
    pub index : a.index ≡ None
    pub kept : (rows : List Row) → find is_number (with_default rows a) ≡ find is_number rows

  -- another argument, which has the values of its last use
  pub fits_other : (a : Rule) → bytes_eq a.id opt.name ≡ false → a.index ≡ None
      → ((values : List Text) (rows : List Row)
      → used a values rows ≡ with_values a.id (reading_by a) CommandLine (values_or_missing a values) (without a.id rows)) → Fits a
  fits_other a other index last = record {
    sound = λ values rows g f. found_good _ _ (ap (λ rs. find is_number rs) (last values rows)
        ∙ (kept_valued a.id other (reading_by a) CommandLine (values_or_missing a values) (without a.id rows) ∙ kept_less a.id other rows)) g;
    index = index;
    kept = λ rows. kept_either (has_row a.id rows) rows (default_rows a.id (reading_by a) a.defaults rows)
        (kept_default a.id other (reading_by a) a.defaults rows);
  }

  pub fits_help : Fits help
  fits_help = record {
    sound = sound_help;
    index = refl;
    kept = λ rows. kept_either (has_row (codes "help") rows) rows rows refl;
  }

  abbrev pub AllFit : List Rule → Type 0
  AllFit [] = Unit {0}
  AllFit (a ∷ rules) = Fits a × AllFit rules

  -- the same without the default, which the number itself has
  abbrev AllFine : List Rule → Type 0
  AllFine [] = Unit {0}
  AllFine (a ∷ rules) = (Sound a × (a.index ≡ None)) × AllFine rules

  fine_others : (rules : List Rule) → AllFit rules → AllFine rules
  fine_others [] fit = tt
  fine_others (a ∷ rules) fit = ((fit.0.sound, fit.0.index), fine_others rules fit.1)

  fine_all : (before after : List Rule) → AllFit before → AllFit after → AllFine (before ++ number ∷ after)
  fine_all [] after fit rest = ((sound_number, refl), fine_others after rest)
  fine_all (a ∷ before) after fit rest = ((fit.0.sound, fit.0.index), fine_all before after fit.1 rest)

  -- what is said of each argument holds of one that is found
  among_at : (b : Bool) (P : Option Rule → Type 0) (a : Rule) (o : Option Rule) → P (Some a) → P o → P (cond b (Some a) o)
  among_at true P a o this others = this
  among_at false P a o this others = others

  among_all : (P : Option Rule → Type 0) → P None → ((a : Rule) → Sound a → P (Some a)) → (test : Rule → Bool) (rules : List Rule)
      → AllFine rules → P (find test rules)
  among_all P none some test [] fine = none
  among_all P none some test (a ∷ rules) fine = among_at (test a) P a (find test rules) (some a fine.0.0) (among_all P none some test rules fine.1)

  no_index : (i : ℕ) (o : Option ℕ) → o ≡ None → option_map_or (λ k. k == i) o false ≡ false
  no_index i None e = refl
  no_index i (Some k) e = absurd (cc)

  left_out : (b : Bool) (a : Rule) (others : Option Rule) → b ≡ false → others ≡ None → cond b (Some a) others ≡ None
  left_out true a others e none = absurd (cc)
  left_out false a others e none = none

  -- none is known by its place
  no_positional : (i : ℕ) (rules : List Rule) → AllFine rules → find (λ (a : Rule). option_map_or (λ k. k == i) a.index false) rules ≡ None
  no_positional i [] fine = refl
  no_positional i (a ∷ rules) fine = left_out (option_map_or (λ k. k == i) a.index false) a
      (find (λ (r : Rule). option_map_or (λ k. k == i) r.index false) rules) (no_index i a.index fine.0.1) (no_positional i rules fine.1)

  -- ---- the defaults

  found_first : (b : Bool) (r : Row) (o : Option Row) (others : Bool) → (others ≡ true → is_some o ≡ true) → (b || others) ≡ true
      → is_some (cond b (Some r) o) ≡ true
  found_first true r o others more e = refl
  found_first false r o others more e = more e

  has_found : (rows : List Row) → has_row opt.name rows ≡ true → is_some (find is_number rows) ≡ true
  has_found [] has = absurd (cc)
  has_found (r ∷ rows) has = found_first (is_number r) r (find is_number rows) (has_row opt.name rows) (has_found rows) has

  found_text : (o : Option Row) → IsGood o → is_some o ≡ true
      → (text : Text) × Accepts false (number_parser opt.least opt.limit) text × (option_and_then row_text o ≡ Some (without_minus text))
  found_text None g some = absurd (cc)
  found_text (Some r) g some = (g.text, accepts-Accepts false (number_parser opt.least opt.limit) g.text g.accepted, rw (g.reading, g.values) refl)

  abbrev HasOwn : List Row → Type 0
  HasOwn rows = (text : Text) × Accepts false (number_parser opt.least opt.limit) text × (one_of opt.name rows ≡ Some (without_minus text))

  own_good : (o p : Option Row) → o ≡ p → ((text : Text) × Accepts false (number_parser opt.least opt.limit) text
      × (option_and_then row_text p ≡ Some (without_minus text)))
      → ((text : Text) × Accepts false (number_parser opt.least opt.limit) text × (option_and_then row_text o ≡ Some (without_minus text)))
  own_good o p same has = subst (λ q. (text : Text) × Accepts false (number_parser opt.least opt.limit) text
      × (option_and_then row_text q ≡ Some (without_minus text))) (sym same) has

  -- the defaults of other arguments leave it
  has_still : (rules : List Rule) → AllFit rules → (rows : List Row) → HasOwn rows → HasOwn (fold with_default rows rules)
  has_still [] fit rows has = has
  has_still (a ∷ rules) fit rows has = has_still rules fit.1 (with_default rows a) (own_good _ _ (fit.0.kept rows) has)

  number_there : (b : Bool) (rows : List Row) → has_row opt.name rows ≡ b → Good rows
      → HasOwn (cond b rows (default_rows opt.name WithoutMinus (opt.default ∷ []) rows))
  number_there true rows has g = found_text _ g (has_found rows has)
  number_there false rows none g =
      let e = appended (more_values DefaultValue (opt.default ∷ [])) (new_row DefaultValue opt.default) own rows none in
      (opt.default, accepts-Accepts false (number_parser opt.least opt.limit) opt.default fine, rw e refl)

  has_after : (before after : List Rule) → AllFit before → AllFit after → (rows : List Row) → Good rows
      → HasOwn (fold with_default rows (before ++ number ∷ after))
  has_after [] after first others rows g = has_still after others (with_default rows number) (number_there (has_row opt.name rows) rows refl g)
  has_after (a ∷ before) after first others rows g = has_after before after first.1 others (with_default rows a) (found_good _ _ (first.0.kept rows) g)

  -- ---- the arguments of a subcommand, which fit, with the number among them
  module _ (title : Text) (before after : List Rule) (first : AllFit before) (others : AllFit after) where
    abbrev pub rules : List Rule
    rules = before ++ number ∷ after

    all_fine : AllFine rules
    all_fine = fine_all before after first others

    among : (test : Rule → Bool) (P : Option Rule → Type 0) → P None → ((a : Rule) → Sound a → P (Some a)) → P (find test rules)
    among test P none some = among_all P none some test rules all_fine

    settle_good : (p : Option (Text × List Text)) (rows : List Row) → Good rows
        → option_map_or (λ q. option_map_or (λ a. use_fault false a q.1 rows) (arg_by_id rules q.0) []) p [] ≡ [] → Good (settled_rows rules p rows)
    settle_good None rows g f = g
    settle_good (Some q) rows g f =
        among (λ a. bytes_eq a.id q.0) (λ o. option_map_or (λ a. use_fault false a q.1 rows) o [] ≡ [] → Good (used_by_id o q.1 rows))
        (λ _. g) (λ a sound. sound q.1 rows g) f

    react_good : (a : Rule) → Sound a → (values : List Text) (h : Held) → Good h.rows → react_fault rules false a values h ≡ []
        → Good (reacted rules a values h).rows
    react_good a sound values h g f = sound values (settled rules h).rows (settle_good h.pending h.rows g (first_empty _ _ f)) (rest_empty _ _ f)

    option_good : (a : Rule) → Sound a → (v : Option Text) (h : Held) → Good h.rows → option_fault rules false a v h ≡ [] → Good (option_met rules a v h).0.rows
    option_good a sound (Some v) h g f = react_good a sound (v ∷ []) h g f
    option_good a sound None h g f = settle_good h.pending h.rows g f

    -- ---- one word

    long_at : (b : Bool) (a : Rule) → Sound a → (v : Option Text) (h : Held) → Good h.rows
        → cond b (option_fault rules false a v h) (cond (is_some v) (kind.TooManyValues ∷ []) (react_fault rules false a [] h)) ≡ []
        → Good (cond b (option_met rules a v h) (flag_met rules a v h)).0.rows
    long_at true a sound v h g f = option_good a sound v h g f
    long_at false a sound None h g f = react_good a sound [] h g f
    long_at false a sound (Some v) h g f = g

    long_good : (name : Text) (v : Option Text) (h : Held) → Good h.rows → long_fault rules false (arg_by_long rules name) v h ≡ []
        → Good (long_met rules (arg_by_long rules name) v h).0.rows
    long_good name v h g f =
        among (λ a. not (is_some a.index) && has_long a name) (λ o. long_fault rules false o v h ≡ [] → Good (long_met rules o v h).0.rows)
        (λ _. g) (λ a sound. long_at (takes_values a) a sound v h g) f

    short_at : (b : Bool) (a : Rule) → Sound a → (v : Option Text) (h : Held) (met : Held → Held × Outcome) (fault : Held → Kinds)
        → ((k : Held) → Good k.rows → fault k ≡ [] → Good (met k).0.rows) → Good h.rows
        → cond b (option_fault rules false a v h) (or_else (react_fault rules false a [] h) (fault (reacted rules a [] h))) ≡ []
        → Good (cond b (option_met rules a v h) (met (reacted rules a [] h))).0.rows
    short_at true a sound v h met fault more g f = option_good a sound v h g f
    short_at false a sound v h met fault more g f = more (reacted rules a [] h) (react_good a sound [] h g (first_empty _ _ f)) (rest_empty _ _ f)

    short_good : (x : ℕ) (rest : Text) (h : Held) (met : Held → Held × Outcome) (fault : Held → Kinds)
        → ((k : Held) → Good k.rows → fault k ≡ [] → Good (met k).0.rows) → Good h.rows
        → short_fault rules false (arg_by_short rules x) rest h fault ≡ [] → Good (short_met rules (arg_by_short rules x) rest h met).0.rows
    short_good x rest h met fault more g f =
        among (λ a. not (is_some a.index) && has_short a x) (λ o. short_fault rules false o rest h fault ≡ [] → Good (short_met rules o rest h met).0.rows)
        (λ _. g) (λ a sound. short_at (takes_values a) a sound (attached_value rest) h met fault more g) f

    flag_step_good : (o : Option ℕ) (flags : Text) (skip : ℕ) (so_far : Outcome) (h : Held) (met : Text → ℕ → Outcome → Held
        → Held × Outcome) (fault : Text → ℕ → Held → Kinds)
        → ((rest : Text) (n : ℕ) (so : Outcome) (k : Held) → Good k.rows → fault rest n k ≡ [] → Good (met rest n so k).0.rows)
        → Good h.rows → bundle_step_fault rules false o flags skip h fault ≡ [] → Good (bundle_step rules o flags skip so_far h met).0.rows
    flag_step_good None flags skip so_far h met fault more g f = g
    flag_step_good (Some x) flags zero so_far h met fault more g f =
        let rest = drop (length (encode_utf8 x)) flags in
        short_good x rest h (met rest 0 done) (fault rest 0) (more rest 0 done) g f
    flag_step_good (Some x) flags (suc skip) so_far h met fault more g f = more (drop (length (encode_utf8 x)) flags) skip so_far h g f

    flags_good : (k : ℕ) (flags : Text) (skip : ℕ) (so_far : Outcome) (h : Held) → Good h.rows → flags_fault rules false k flags skip h ≡ []
        → Good (bundle_met rules k flags skip so_far h).0.rows
    unfolding bundle_met flags_fault
    flags_good zero flags skip so_far h g f = g
    flags_good (suc k) flags skip so_far h g f =
        flag_step_good (slice_get (chars flags) 0) flags skip so_far h (bundle_met rules k) (flags_fault rules false k) (flags_good k) g f

    option_kept : (o : Option Rule) (id word : Text) (h : Held) → (option_word o id word h).0.rows ≡ h.rows
    option_kept None id word h = refl
    option_kept (Some a) id word h = refl

    plain_kept : (waiting : Waiting) (word : Text) (h : Held) → (plain_word rules waiting word h).0.rows ≡ h.rows
    plain_kept idle word h = refl
    plain_kept (option id) word h = option_kept (arg_by_id rules id) id word h
    plain_kept positional word h = refl

    after_kept : (waiting : Waiting) (word : Text) (h : Held) (o : Outcome) → (after_flag rules waiting word h o).0.rows ≡ h.rows
    after_kept waiting word h done = refl
    after_kept waiting word h (waits id) = refl
    after_kept waiting word h plain = plain_kept waiting word h
    after_kept waiting word h refused = plain_kept waiting word h

    kept_good : (a b : List Row) → a ≡ b → Good b → Good a
    kept_good a b e g = subst Good (sym e) g

    bundle_good : (o : Option Text) (waiting : Waiting) (word : Text) (h : Held) → Good h.rows
        → option_map_or (λ flags. bundle_fault rules false flags h) o [] ≡ [] → Good (short_or_plain rules waiting word o h).0.rows
    bundle_good None waiting word h g f = kept_good _ _ (plain_kept waiting word h) g
    bundle_good (Some flags) waiting word h g f =
        let met = bundle rules flags h in
        kept_good _ _ (after_kept waiting word met.0 met.1) (flags_good (length flags) flags h.skip plain (record h { skip = 0 }) g f)

    flag_good : (p : Option (Text × Option Text)) (waiting : Waiting) (word : Text) (h : Held) → Good h.rows
        → flag_word_fault rules false p word h ≡ [] → Good (long_or_other rules waiting word p h).0.rows
    flag_good None waiting word h g f = bundle_good (short_of word) waiting word h g f
    flag_good (Some p) waiting word h g f =
        let met = long_met rules (arg_by_long rules p.0) p.1 h in
        kept_good _ _ (after_kept waiting word met.0 met.1) (long_good p.0 p.1 h g f)

    other_good : (dashes : Bool) (waiting : Waiting) (position : ℕ) (word : Text) (h : Held) → Good h.rows
        → cond dashes [] (flag_word_fault rules false (long_of word) word h) ≡ []
        → Good (cond dashes (h, trailing position) (long_or_other rules waiting word (long_of word) h)).0.rows
    other_good true waiting position word h g f = g
    other_good false waiting position word h g f = flag_good (long_of word) waiting word h g f

    word_good : (is_trailing : Bool) (waiting : Waiting) (position : ℕ) (word : Text) (h : Held) → Good h.rows
        → word_fault (options_built title rules) [] is_trailing waiting word h ≡ [] → Good (word_met rules [] is_trailing waiting position word h).0.rows
    word_good true waiting position word h g f = g
    word_good false idle position word h g f = other_good (bytes_eq word (45 ∷ 45 ∷ [])) idle position word h g f
    word_good false (option id) position word h g f = other_good (bytes_eq word (45 ∷ 45 ∷ [])) (option id) position word h g f
    word_good false positional position word h g f = other_good (bytes_eq word (45 ∷ 45 ∷ [])) positional position word h g f

    -- ---- all words

    positional_kept : (o : Option Rule) (word : Text) (w : Walk) (h : Held) → o ≡ None → (to_positional rules o word w h).held ≡ h
    positional_kept None word w h e = refl
    positional_kept (Some a) word w h e = absurd (cc)

    step_kept : (word : Text) (w : Walk) (h : Held) (step : Step) → (after_step rules word w h step).held ≡ h
    step_kept word w h (next waiting) = refl
    step_kept word w h (trailing position) = refl
    step_kept word w h (subcommand name) = refl
    step_kept word w h value = positional_kept (arg_by_index rules w.position) word w h (no_positional w.position rules all_fine)

    turn_good : (o : Option (Text × List Text)) (w : Walk) (word : Text) → Good w.held.rows
        → cond (is_some o) [] (or_else (word_fault (options_built title rules) [] w.is_trailing w.waiting word w.held)
        (step_fault (options_built title rules) w.position (word_met rules [] w.is_trailing w.waiting w.position word w.held).0
        (word_met rules [] w.is_trailing w.waiting w.position word w.held).1)) ≡ []
        → Good (walked_from rules [] o w word).held.rows
    turn_good (Some p) w word g f = g
    turn_good None w word g f =
        let met = word_met rules [] w.is_trailing w.waiting w.position word w.held in
        kept_good _ _ (ap (λ (h : Held). h.rows) (step_kept word w met.0 met.1))
        (word_good w.is_trailing w.waiting w.position word w.held g (first_empty _ _ f))

    walk_good : (w : Walk) (words : List Text) → Good w.held.rows → walk_fault (options_built title rules) [] w words ≡ []
        → Good (fold (walked rules []) w words).held.rows
    unfolding walk_fault walked
    walk_good w [] g f = g
    walk_good w (word ∷ words) g f = walk_good (walked rules [] w word) words (turn_good w.stopped w word g (first_empty _ _ f)) (rest_empty _ _ f)

    pub has_number : (bits : ℕ) → opt.limit < 2 ^ bits → (words : List Text) → level_fault (options_built title rules) [] nothing_held words false [] ≡ []
        → HasNumber bits opt.name (rows_after rules [] words)
    has_number bits fits words f =
        let end = (walk rules [] nothing_held words).held in
        let g = walk_good (walk_from nothing_held) words tt (first_empty _ _ f) in
        let has = has_after before after first others (settled rules end).rows (settle_good end.pending end.rows g (first_empty _ _ (rest_empty _ _ f))) in
        record { least = opt.least; limit = opt.limit; fits = fits; text = has.0; accepted = has.1; found = has.2 }

-- ---- the arguments of a subcommand

-- It has the values of its last use, and isn't known by its place.
pub record IsPlain (a : Rule) : Type 0 where
  pub index : a.index ≡ None
  pub last : (values : List Text) (rows : List Row)
      → used a values rows ≡ with_values a.id (reading_by a) CommandLine (values_or_missing a values) (without a.id rows)

abbrev pub ArePlain : List Rule → Type 0
ArePlain [] = Unit {0}
ArePlain (a ∷ rules) = IsPlain a × ArePlain rules

-- none of these has this name
abbrev pub none_named : Text → List Rule → Bool
none_named name [] = true
none_named name (a ∷ rules) = not (bytes_eq a.id name) && none_named name rules

first_plain : (k : ℕ) (rules : List Rule) → ArePlain rules → ArePlain (take k rules)
first_plain zero [] are = tt
first_plain zero (a ∷ rules) are = tt
first_plain (suc k) [] are = tt
first_plain (suc k) (a ∷ rules) are = (are.0, first_plain k rules are.1)

last_plain : (k : ℕ) (rules : List Rule) → ArePlain rules → ArePlain (drop k rules)
last_plain zero [] are = tt
last_plain zero (a ∷ rules) are = are
last_plain (suc k) [] are = tt
last_plain (suc k) (a ∷ rules) are = last_plain k rules are.1

not_first : (a b : Bool) → (not a && b) ≡ true → (a ≡ false) × (b ≡ true)
not_first true b e = absurd (cc)
not_first false b e = (refl, e)

module _ (opt : NumberOption) (own : bytes_eq opt.name opt.name ≡ true) (fine : accepts false (number_parser opt.least opt.limit) opt.default ≡ true) where
  fit : (rules : List Rule) → ArePlain rules → none_named opt.name rules ≡ true → AllFit opt own fine rules
  fit [] are none = tt
  fit (a ∷ rules) are none =
      let n = not_first (bytes_eq a.id opt.name) (none_named opt.name rules) none in
      (fits_other opt own fine a n.0 are.0.index are.0.last, fit rules are.1 n.1)

  with_help : (rules : List Rule) → AllFit opt own fine rules → AllFit opt own fine (rules ++ help ∷ [])
  with_help [] all = (fits_help opt own fine, tt)
  with_help (a ∷ rules) all = (all.0, with_help rules all.1)

  -- right arguments of a subcommand with these options have the one at place k
  pub number_at : (bits : ℕ) → opt.limit < 2 ^ bits → (title : Text) (rules : List Rule) → ArePlain rules
      → (k : ℕ) → none_named opt.name (take k rules) ≡ true → none_named opt.name (drop (suc k) rules) ≡ true
      → take k rules ++ filled (number_rule opt) ∷ (drop (suc k) rules ++ help ∷ []) ≡ rules ++ help ∷ []
      → (words : List Text) → level_fault (options_built title (rules ++ help ∷ [])) [] nothing_held words false [] ≡ []
      → HasNumber bits opt.name (rows_after (rules ++ help ∷ []) [] words)
  number_at bits fits title rules are k before after same words f =
      subst (λ (all : List Rule). level_fault (options_built title all) [] nothing_held words false [] ≡ []
      → HasNumber bits opt.name (rows_after all [] words)) same
      (has_number opt own fine title (take k rules) (drop (suc k) rules
      ++ help ∷ []) (fit _ (first_plain k rules are) before) (with_help _ (fit _ (last_plain (suc k) rules are) after)) bits fits words) f
