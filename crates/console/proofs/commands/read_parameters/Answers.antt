use Rattle.std.proofs.Common.{subst, take, length, get_or}
use Rattle.std.proofs.lemmas.List.{get_or-take}
use Rattle.std.proofs.lemmas.Result.{err_from_is_err_and}
use Rattle.console.specs.Tokens.{within, IsWithin}
use Rattle.console.specs.Commands.{number_limits}
use Rattle.console.proofs.LineTokens.{numbers_within}
use Rattle.console.proofs.CommandReading.{numbers_read, without_bytes, without_grants, without_memory}
use Rattle.console.proofs.commands.read_parameters.Goals as goal

pub returns-in_err-text : goal.returns-in_err-text
returns-in_err-text c =
    let x = err_from_is_err_and c.from_residual-in_err-text.result c.from_residual-in_err-text.ensures.1 in
    without_bytes c.args.kind _ _ _ c.in_ok-numbers.numbers c.numbers.ensures.limits c.in_ok-numbers.ensures.ok _ c.bytes.ensures _ _ _
    x.1 x.2 c.in_err-text.ensures.err

pub returns-in_err-grants : goal.returns-in_err-grants
returns-in_err-grants c =
    let x = err_from_is_err_and c.from_residual-in_err-grants.result c.from_residual-in_err-grants.ensures.1 in
    without_grants c.args.kind _ _ _ c.in_ok-numbers.numbers c.numbers.ensures.limits c.in_ok-numbers.ensures.ok _ c.bytes.ensures _ _ _ x.1 x.2
    _ _ c.takes_grants.ensures c.in_ok-text.text.now c.in_ok-text.ensures.ok c.in_err-grants.ensures.err

pub returns-in_err-bytes : goal.returns-in_err-bytes
returns-in_err-bytes c =
    let x = err_from_is_err_and c.from_residual-in_err-bytes.result c.from_residual-in_err-bytes.ensures.1 in
    without_memory c.args.kind _ _ _ c.in_ok-numbers.numbers c.numbers.ensures.limits c.in_ok-numbers.ensures.ok _ c.bytes.ensures _ _ _ x.1 x.2
    _ _ c.takes_grants.ensures c.in_ok-text.text.now c.in_ok-text.ensures.ok c.in_ok-grants.grants c.in_ok-grants.ensures.ok c.in_err-bytes.ensures.err

pub event-requires : goal.event-requires
event-requires c =
    let kind = c.args.kind in
    let numbers = c.in_ok-numbers.numbers in
    let count = length (number_limits kind) in
    let first = numbers_read kind _ _ _ numbers c.numbers.ensures.limits c.in_ok-numbers.ensures.ok in
    λ i h. subst (IsWithin (get_or (number_limits kind) i (within 0 0))) (get_or-take count numbers i 0 h)
    (numbers_within (number_limits kind) _ (take count numbers) _ first i h)
