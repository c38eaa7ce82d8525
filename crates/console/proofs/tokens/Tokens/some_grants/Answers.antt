use Rattle.std.proofs.Common.{◌≡◌, [], ◌∷◌, length, refl, ap, ◌∙◌, length-append, arith}
use Rattle.std.proofs.lemmas.Result.{err_from_is_err_and}
use Rattle.machine.specs.Grants.{GrantState}
use Rattle.console.proofs.GrantWords.{so_far_more, so_far_wrong, so_far_full}
use Rattle.console.proofs.tokens.Tokens.some_grants.Goals as goal

pub returns-in_default-read_grant-clause-err : goal.returns-in_default-read_grant-clause-err
returns-in_default-read_grant-clause-err c = (refl, so_far_wrong _ _ _ _ c.words.invariant.so_far _ _ c.in-Some.ensures c.in_default-read_grant.ensures.none)

pub words-preserved : goal.words-preserved
words-preserved c =
    let grants = c.words.grants in
    let x = c.in-Some-read_grant.grant in
    let k = c.in-Some-read_grant.ensures.some in
    let e = ap (λ (g : GrantState). length g.listed) c.add.ensures in
    let l = length-append grants.listed (x ∷ []) in
    record {
      count = omega (arith, e, l, c.words.invariant.count);
      so_far = so_far_more _ _ _ _ c.words.invariant.so_far _ _ x _ c.in-Some.ensures k.0 k.1 c.add.ensures;
    }

pub returns-in_err-end-clause-err : goal.returns-in_err-end-clause-err
returns-in_err-end-clause-err c =
    let x = err_from_is_err_and c.from_residual.result c.from_residual.ensures.1 in
    let e = c.in_err-end.ensures.err in
    let full : length c.words.grants.listed ≡ 16 = omega (arith, c.words.invariant.count, c.words-test.false, c.words.auto.count-end) in
    rw x.1 (x.2 ∙ e.0, so_far_full _ _ _ _ c.words.invariant.so_far e.1 full)
