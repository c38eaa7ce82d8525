use Rattle.std.proofs.Common.{false, codes, ◌∙◌, ap, rules}
use Rattle.std.specs.Option.{option_map_or}
use Rattle.std.specs.Str.{bytes_eq}
use Rattle.clap.specs.Words.{found_of}
use Rattle.clap.proofs.WalkLemmas.{first_value-rows}
use Rattle.agent.proofs.arguments.is_set.Goals as goal

pub returns-in-Some : goal.returns-in-Some
returns-in-Some c =
    let e = c.get_str.ensures ∙ first_value-rows (found_of c.args.matches.now) c.args.name.now in
    let f = rw c.in-Some.is at e in
    search rules ∙ ap (λ o. option_map_or (λ text. bytes_eq text (codes "true")) o false) f

pub returns-in-None : goal.returns-in-None
returns-in-None c =
    let e = c.get_str.ensures ∙ first_value-rows (found_of c.args.matches.now) c.args.name.now in
    let f = rw c.in-None.is at e in
    ap (λ o. option_map_or (λ text. bytes_eq text (codes "true")) o false) f
