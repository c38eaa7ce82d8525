use Rattle.std.proofs.Common.{◌≡◌, ℕ, ◌+◌, ◌*◌, ◌<◌, List, [], ◌∷◌, ◌++◌, length, take, Ok, sym, ap, ◌∙◌, arith}
use Rattle.std.proofs.lemmas.List.{take_all, take_more, take_more_set}
use Rattle.hex.proofs.HexLemmas.{decode_of-ok}
use Rattle.console.proofs.HexPairs.{byte_at}
use Rattle.console.proofs.digits.write_bytes.Goals as goal

pub value_of-requires : goal.value_of-requires
value_of-requires c =
    let k = decode_of-ok c.args.text.now c.requires.text.0 c.requires.text.1 in
    k.1 (2 * c.loop-i.i) 0 (omega (arith, c.loop-i-test.true, c.requires.room))

pub value_of-requires-in-loop-i : goal.value_of-requires-in-loop-i
value_of-requires-in-loop-i c =
    let k = decode_of-ok c.args.text.now c.requires.text.0 c.requires.text.1 in
    k.1 (2 * c.loop-i.i + 1) 0 (omega (arith, c.loop-i-test.true, c.requires.room))

pub loop-i-preserved : goal.loop-i-preserved
loop-i-preserved c = λ value e.
    let i = c.loop-i.i in
    let k = decode_of-ok c.args.text.now value e in
    let within : i < length value = omega (arith, k.2, c.loop-i-test.true, c.requires.room) in
    let byte = c.value_of.result * 16 + c.value_of-in-loop-i.result in
    let b = byte_at c.args.text.now value i _ _ e within c.value_of.ensures c.value_of-in-loop-i.ensures in
    take_more_set c.loop-i.bytes i byte (omega (arith, c.loop-i-test.true, c.loop-i.auto.bytes)) ∙ ap (λ l. l ++ byte ∷ []) (c.loop-i.invariant value e)
    ∙ ap (λ (x : ℕ). take i value ++ x ∷ []) (sym b) ∙ sym (take_more value i 0 within)

pub returns : goal.returns
returns c =
    let i = c.loop-i.i in
    let value = c.requires.text.0 in
    let e = c.requires.text.1 in
    let k = decode_of-ok c.args.text.now value e in
    let all : take i c.loop-i.bytes ≡ c.loop-i.bytes = take_all i c.loop-i.bytes (omega (arith, c.loop-i-test.false, c.loop-i.auto.bytes)) in
    let whole : take i value ≡ value = take_all i value (omega (arith, k.2, c.loop-i-test.false, c.requires.room)) in
    let same : c.loop-i.bytes ≡ value = sym all ∙ c.loop-i.invariant value e ∙ whole in
    e ∙ ap (λ (l : List ℕ). Ok l) (sym same)
