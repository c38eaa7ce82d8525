use Rattle.std.proofs.Common.{◌≡◌, Some, None, sym, ap, ◌∙◌, option_map}
use Rattle.clap.specs.Words.{found_of, rows_of}
use Rattle.clap.proofs.WalkLemmas.{one_text-rows}
use Rattle.agent.proofs.ReadNumber.{number_read}
use Rattle.agent.proofs.arguments.read_number.Goals as goal

pub unreachable-requires : goal.unreachable-requires
unreachable-requires g c =
    let f = found_of c.args.matches.now in
    let got = number_read _ g.N.Number.value g.N.Number.bits g.met.N.Number.parses c.args.name.now (rows_of f) c.requires c.get_one.result
    (λ text e. c.get_one.ensures.value text (one_text-rows f c.args.name.now ∙ e)) in
    let bad : None ≡ Some got.0 = sym c.in_default.is ∙ got.1 in
    cc

pub returns : goal.returns
returns g c =
    let f = found_of c.args.matches.now in
    let got = number_read _ g.N.Number.value g.N.Number.bits g.met.N.Number.parses c.args.name.now (rows_of f) c.requires c.get_one.result
    (λ text e. c.get_one.ensures.value text (one_text-rows f c.args.name.now ∙ e)) in
    got.2 ∙ ap (option_map g.N.Number.value) (sym got.1 ∙ c.in-Some.is)
