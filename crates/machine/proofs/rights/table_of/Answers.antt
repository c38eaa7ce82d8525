use Rattle.std.proofs.Common.{◌≡◌, take, false, sym, ◌∙◌, subst, arith}
use Rattle.std.proofs.lemmas.List.{take_all, take_more}
use Rattle.machine.specs.declared.grants.Grant.{Grant}
use Rattle.machine.specs.KeptGrants.{grants_in}
use Rattle.machine.specs.Rights.{IsTableOf, HasMore}
use Rattle.machine.proofs.TableOfRights.{all_table, no_table, kept_table, listed_table}
use Rattle.machine.proofs.rights.table_of.Goals as goal

pub returns-then-is_all : goal.returns-then-is_all
returns-then-is_all c = all_table c.args.grants.now c.full_of.result (sym c.is_all.ensures ∙ c.if-is_all.true) c.full_of.ensures

pub loop-kept-init : goal.loop-kept-init
loop-kept-init c = rw c.full_of-table.ensures no_table

pub loop-kept-preserved : goal.loop-kept-preserved
loop-kept-preserved c =
    let all = c.kept-all.result.now in
    let index = c.loop-kept.kept-index in
    let one : Grant = c.kept-item.result in
    let more : HasMore c.loop-kept.table one c.add.new.table =
    subst (λ (g : Grant). HasMore c.loop-kept.table g c.add.new.table) c.grant.ensures c.add.ensures in
    rw (
      take_more all index one c.loop-kept-test.true,
      sym c.kept-item.is,
    ) (kept_table (take index all) one c.loop-kept.table c.add.new.table c.loop-kept.invariant more)

pub returns : goal.returns
returns c =
    let all = c.kept-all.result.now in
    let index = c.loop-kept.kept-index in
    let whole : take index all ≡ all = take_all index all (omega (arith, c.loop-kept.auto.kept-index-end, c.loop-kept-test.false)) in
    let read : IsTableOf (record { all = false; listed = grants_in all }) c.loop-kept.table =
    subst (λ ws. IsTableOf (record { all = false; listed = grants_in ws }) c.loop-kept.table) whole c.loop-kept.invariant in
    listed_table c.args.grants.now all c.loop-kept.table (sym c.is_all.ensures ∙ c.if-is_all.false) c.kept-all.ensures read
