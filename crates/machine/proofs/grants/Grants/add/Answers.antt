use Rattle.std.proofs.Common.{◌≡◌, suc, ◌+◌, ◌<◌, ◌++◌, ◌∷◌, [], nat_eq, false, length, slice_set, subst, arith, ap, ◌∙◌}
use Rattle.std.proofs.lemmas.Bool.Decides.{nat_tests}
use Rattle.std.proofs.lemmas.List.{length-set}
use Rattle.machine.specs.declared.grants.Grant.{Grant}
use Rattle.machine.specs.Grants.{GrantState}
use Rattle.machine.specs.KeptGrants.{grants_in, AreKept}
use Rattle.machine.proofs.KeptGrants.{kept_count, one_kept, one_more}
use Rattle.machine.proofs.grants.Grants.add.Goals as goal

pub bounds-self-inside-count : goal.bounds-self-inside-count
bounds-self-inside-count c =
    let e = ap (λ (g : GrantState). length g.listed) c.self.view_is in
    omega (arith, e, kept_count c.self.inside.count c.self.inside.kept c.self.invariant.0, c.requires.room)

pub listed : goal.listed
listed c =
    let e = ap (λ (g : GrantState). length g.listed) c.self.view_is in
    omega (arith, e, kept_count c.self.inside.count c.self.inside.kept c.self.invariant.0, c.requires.room, c.self.invariant.1)

pub invariant_of-self : goal.invariant_of-self
invariant_of-self c =
    let e = ap (λ (g : GrantState). length g.listed) c.self.view_is in
    let l : c.self.inside.count < length c.self.inside.kept =
    omega (arith, e, kept_count c.self.inside.count c.self.inside.kept c.self.invariant.0, c.requires.room, c.self.invariant.1) in
    let number : c.of.result.number ≡ c.args.grant.number = ap (λ (g : Grant). g.number) c.of.ensures in
    let z : nat_eq c.of.result.number 0 ≡ false = grind (arith, nat_tests, number, c.requires.object.0) in
    let more : suc c.self.inside.count ≡ c.self.inside.count + 1 = omega arith in (
      subst (λ n. AreKept n (slice_set c.self.inside.kept c.self.inside.count c.of.result)) more
          (one_kept c.self.inside.count c.self.inside.kept c.of.result c.self.invariant.0 l z),
      length-set c.self.inside.kept c.self.inside.count c.of.result ∙ c.self.invariant.1,
    )

pub returns : goal.returns
returns c =
    let e = ap (λ (g : GrantState). length g.listed) c.self.view_is in
    let l : c.self.inside.count < length c.self.inside.kept =
    omega (arith, e, kept_count c.self.inside.count c.self.inside.kept c.self.invariant.0, c.requires.room, c.self.invariant.1) in
    let number : c.of.result.number ≡ c.args.grant.number = ap (λ (g : Grant). g.number) c.of.ensures in
    let z : nat_eq c.of.result.number 0 ≡ false = grind (arith, nat_tests, number, c.requires.object.0) in
    let m = one_more c.self.inside.count c.self.inside.kept c.of.result c.self.invariant.0 l z in
    ap (λ gs. record { all = c.self.inside.all; listed = gs }) (m ∙ ap (λ (g : Grant). grants_in c.self.inside.kept ++ g ∷ []) c.of.ensures)
    ∙ ap (λ (g : GrantState). record { all = g.all; listed = g.listed ++ c.args.grant ∷ [] }) c.self.view_is
