use Rattle.std.proofs.Common.{◌∙◌, take, drop, suc, get_or, subst, arith}
use Rattle.std.proofs.Math.Seq.{split_at}
use Rattle.std.proofs.lemmas.List.{take_more, take_more_set, length-set}
use Rattle.std.proofs.lemmas.Result.{err_from_is_err_and}
use Rattle.console.specs.Tokens.{tokens_left, within, AreNumbers}
use Rattle.console.proofs.LineTokens.{numbers_more, numbers_none}
use Rattle.console.proofs.tokens.Tokens.numbers.Goals as goal

pub returns-in_err-numbers-clause-err : goal.returns-in_err-numbers-clause-err
returns-in_err-numbers-clause-err c =
    let x = err_from_is_err_and c.from_residual.result c.from_residual.ensures.1 in
    let e = c.in_err-numbers.ensures.err in
    let i = c.loop-i.i in
    let all = c.args.limits.now in
    let tokens = tokens_left c.args.self.now in
    rw x.1 (
      x.2 ∙ e.0,
      λ numbers left a. numbers_none (take i all) (drop (suc i) all) (get_or all i (within 0 0)) tokens (take i c.loop-i.numbers) numbers
          (tokens_left c.loop-i.self) left c.loop-i.invariant.so_far e.1
          (subst (λ ls. AreNumbers ls tokens numbers left) (split_at all i (within 0 0) c.loop-i-test.true) a),
    )

pub loop-i-preserved : goal.loop-i-preserved
loop-i-preserved c =
    let k = c.in_ok-numbers.ensures.ok in
    let i = c.loop-i.i in
    let all = c.args.limits.now in
    let room = c.loop-i.invariant.room in
    record {
      room = length-set c.loop-i.numbers i c.in_ok-numbers.field-0 ∙ room;
      so_far = rw (
        take_more all i (within 0 0) c.loop-i-test.true,
        take_more_set c.loop-i.numbers i c.in_ok-numbers.field-0 (omega (arith, c.loop-i-test.true, c.requires, room)),
      )
          (numbers_more (take i all) _ (take i c.loop-i.numbers) _ (get_or all i (within 0 0)) k.0 c.in_ok-numbers.field-0 _ c.loop-i.invariant.so_far k.1 k.2);
    }
