-- Where the value of an argument comes from, by the rows of the matches.
use Rattle.std.proofs.Common.{◌≡◌, ◌∙◌, Option, Some, None, ap, refl, option_map}
use Rattle.std.specs.Prelude.{find, option_and_then}
use Rattle.std.specs.Str.{bytes_eq}
use Rattle.clap.specs.Facts.{Entry}
use Rattle.clap.specs.Matches.{matched_of}
use Rattle.clap.specs.Walk.{Row, Text, row_of, rows_of}
use Rattle.clap.specs.declared.parser.matches.Found.{Found}
use Rattle.clap.specs.declared.parser.matches.MatchedArg.{MatchedArg}
use Rattle.clap.proofs.WalkLemmas.{find-map}

of_entry : (o : Option Entry) → option_and_then (λ (a : MatchedArg). a.source) (option_map (λ e. e.1) o)
    ≡ option_and_then (λ (r : Row). r.source) (option_map row_of o)
of_entry None = refl
of_entry (Some e) = refl

pub source_of_rows : (f : Found) (id : Text) → option_and_then (λ (a : MatchedArg). a.source) (matched_of f id)
    ≡ option_and_then (λ (r : Row). r.source) (find (λ r. bytes_eq r.id id) (rows_of f))
source_of_rows f id = of_entry (find (λ e. bytes_eq e.0.now id) f.entries.items)
    ∙ ap (λ (o : Option Row). option_and_then (λ (r : Row). r.source) o) (find-map (λ r. bytes_eq r.id id) row_of f.entries.items)
