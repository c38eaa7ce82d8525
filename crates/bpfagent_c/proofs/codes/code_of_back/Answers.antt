use Rattle.std.proofs.Common.{◌≢◌, sym, ◌∙◌, rules}
use Rattle.far_store.specs.declared.fault.StoreFault.TheVariants.{Damaged}
use Rattle.placement.specs.declared.places.Moved.TheVariants as moved
use Rattle.bpfagent_c.proofs.Back.{back_else}
use Rattle.bpfagent_c.proofs.codes.code_of_back.Goals as goal

pub returns : goal.returns
returns c =
    let others : c.args.moved ≢ moved.Fault Damaged = search rules in
    c.code_of_moved.ensures ∙ sym (back_else c.args.moved others)
