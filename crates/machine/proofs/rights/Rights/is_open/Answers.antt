use Rattle.std.proofs.Common.{sym, subst, arith}
use Rattle.machine.specs.Grants.{GrantState}
use Rattle.machine.specs.Rights.{IsOpen}
use Rattle.machine.proofs.rights.Rights.is_open.Goals as goal

pub returns-clause-closed : goal.returns-clause-closed
returns-clause-closed c all =
    let most = c.self.invariant.1.1 c.args.number (subst (λ (g : GrantState). IsOpen g c.args.number) (sym c.self.view_is) all) in
    grind (arith, most)
