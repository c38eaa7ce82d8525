use Rattle.std.proofs.Common.{◌∷◌, [], ◌∙◌, ap, arith, length, length-append}
use Rattle.std.proofs.lemmas.List.Elements.{All-more}
use Rattle.machine.specs.Grants.{GrantState}
use Rattle.bpfagent_c.specs.Shown.{IsGrant}
use Rattle.bpfagent_c.proofs.Granting.{granted_more}
use Rattle.bpfagent_c.proofs.shown.grants_of.Goals as goal

pub loop-one-preserved : goal.loop-one-preserved
loop-one-preserved c =
    let i = c.loop-one.invariant in
    let s = c.in_ok-grant.ensures.some in
    let listed = ap (λ (g : GrantState). g.listed) c.add.ensures in
    let count = ap length listed ∙ length-append c.loop-one.grants.listed (c.in_ok-grant.grant ∷ []) in
    let room = i.room in
    record {
      all = ap (λ (g : GrantState). g.all) c.add.ensures ∙ i.all;
      listed = listed ∙ granted_more c.args.granted.now c.loop-one.one-index _ c.loop-one.grants.listed c.in_ok-grant.grant c.loop-one-test.true i.listed s.0;
      are = All-more IsGrant c.args.granted.now c.loop-one.one-index _ c.loop-one-test.true i.are s.1;
      room = omega (arith, count, room);
      few = i.few;
    }
