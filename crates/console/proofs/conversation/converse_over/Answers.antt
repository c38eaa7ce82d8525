use Rattle.std.proofs.Common.{ℕ, List, [], ◌∷◌, ◌++◌, ◌≡◌, map, take, refl, sym, ap, ◌∙◌, append_assoc, append-nil, inl, inr, arith, true, false, codes}
use Rattle.std.proofs.lemmas.List.{length-take}
use Rattle.std.proofs.lemmas.Result.{err_from_is_err_and}
use Rattle.std.proofs.KnownBytes.{Consumes-nil, Consumes-trans, Consumes-kept}
use Rattle.console.specs.Lines.{ended}
use Rattle.console.specs.Held.{Held, held_bytes}
use Rattle.console.specs.StreamCalls.StreamCall.{ReadGave, ReadFailed, LineWritten, LineBroken}
use Rattle.console.specs.StreamCalls.Rounds.{Start, Round}
use Rattle.console.specs.StreamCalls.UpToABreak.{AtOnce, InARound, AtTheEnd}
use Rattle.console.proofs.CallsMade.{calls_append, ended_call}
use Rattle.console.proofs.Exchanges.{answers_join, answers_kept, fails_join}
use Rattle.console.proofs.Endings.{none_seen, ends_whole, ends_cut, breaks_cut, stops_reading, stops_writing}
use Rattle.console.proofs.conversation.converse_over.Goals as goal

pub returns-in_err-answer_waiting-clause-write : goal.returns-in_err-answer_waiting-clause-write
returns-in_err-answer_waiting-clause-write g c = λ _.
    let a = g.L.Link.remaining c.args.reader.now in
    stops_writing g.A.Answerer.protocol _ _ (held_bytes c.args.console.now) [] a a _ _ [] (Consumes-nil a) (omega arith)
    (rw append-nil (let l = c.in_err-answer_waiting.ensures.line in c.in_err-answer_waiting.ensures.err c.args.console.now.line l.0 (sym l.1)))

pub loop-reads-init : goal.loop-reads-init
loop-reads-init g c = (
  [],
  Consumes-nil _,
  rw append-nil (let l = c.in_ok-answer_waiting.ensures.line in c.in_ok-answer_waiting.ensures.ok c.args.console.now.line l.0 (sym l.1)),
  map LineWritten c.in_ok-answer_waiting.ensures.calls.0,
  c.in_ok-answer_waiting.ensures.calls.2,
  Start c.in_ok-answer_waiting.ensures.calls.0 c.in_ok-answer_waiting.ensures.calls.1,
)

pub loop-reads-preserved : goal.loop-reads-preserved
loop-reads-preserved g c =
    let i = c.loop-reads.invariant in
    let a = c.in_ok-answer_piece-in-Ok.ensures in
    let p = take c.in-Ok.n c.read.new.buffer in
    let k = answers_kept g.A.Answerer.protocol _ _ _ _ _ _ _ i.2 c.in-Ok.ensures.kept in (
      i.0 ++ p,
      Consumes-trans _ _ _ i.0 p i.1 c.in-Ok.ensures.bytes.0,
      rw (← append_assoc (held_bytes c.args.console.now) i.0 p)
          (answers_join g.A.Answerer.protocol _ _ _ _ p _ _ _ _ _ k
          (c.in_ok-answer_piece-in-Ok.ensures.ok k.rest k.is_open (ap (λ (h : Held). h.line) k.holds))),
      i.3 ++ ReadGave p ∷ map LineWritten a.calls.0,
      calls_append g.L.Link.called i.3 (ReadGave p ∷ map LineWritten a.calls.0) _ _ _ _ _ _ i.4 (_, _, c.in-Ok.ensures.gave, a.calls.2),
      Round _ i.3 p a.calls.0 i.5 (omega (arith, length-take c.in-Ok.n c.read.new.buffer, c.read.auto.buffer)) a.calls.1,
    )

pub returns-in_err-answer_piece-in-Ok-clause-write : goal.returns-in_err-answer_piece-in-Ok-clause-write
returns-in_err-answer_piece-in-Ok-clause-write g c = λ _.
    let i = c.loop-reads.invariant in
    let p = take c.in-Ok.n c.read.new.buffer in
    let k = answers_kept g.A.Answerer.protocol _ _ _ _ _ _ _ i.2 c.in-Ok.ensures.kept in
    let f = c.in_err-answer_piece-in-Ok.ensures.err k.rest k.is_open (ap (λ (h : Held). h.line) k.holds) in
    stops_writing g.A.Answerer.protocol _ _ (held_bytes c.args.console.now) (i.0
    ++ p) _ _ _ _ f.0 (Consumes-trans _ _ _ i.0 p i.1 c.in-Ok.ensures.bytes.0) (omega (
      arith,
      f.1,
      length-take c.in-Ok.n c.read.new.buffer,
      c.read.auto.buffer,
    ))
    (rw (← append_assoc (held_bytes c.args.console.now) i.0 p) (fails_join g.A.Answerer.protocol f.0 _ _ _ _ p _ _ _ _ k f.2))

pub returns-in-Err-clause-read : goal.returns-in-Err-clause-read
returns-in-Err-clause-read g c = λ _.
    let i = c.loop-reads.invariant in
    stops_reading g.A.Answerer.protocol _ _ (held_bytes c.args.console.now) i.0 _ _ _ _ _ (Consumes-kept _ _ _ i.0 i.1 c.in-Err.ensures.bytes)
    (answers_kept g.A.Answerer.protocol _ _ _ _ _ _ _ i.2 c.in-Err.ensures.kept)

pub returns-clause-read : goal.returns-clause-read
returns-clause-read g c = λ _.
    let i = c.loop-reads.invariant in
    stops_reading g.A.Answerer.protocol _ _ (held_bytes c.args.console.now) i.0 _ _ _ _ _ i.1 i.2

pub returns-else-cut-clause-ok : goal.returns-else-cut-clause-ok
returns-else-cut-clause-ok g c =
    let i = c.loop-reads.invariant in
    let b = c.in-Ok-eq0.ensures.bytes in
    let zero : c.in-Ok-eq0.field-0 ≡ 0 = c.in-Ok-eq0.field-0-test in
    ends_whole g.A.Answerer.protocol _ _ (held_bytes c.args.console.now) i.0 _ _ _ _ _
    (none_seen _ _ i.0 c.read.new.buffer c.in-Ok-eq0.field-0 zero (Consumes-trans _ _ _ i.0 _ i.1 b.0)) (b.1 zero (omega (arith, c.read.auto.buffer)))
    (answers_kept g.A.Answerer.protocol _ _ _ _ _ _ _ i.2 c.in-Ok-eq0.ensures.kept)
    (λ n. let t = c.rest-cut.ensures.1 (ap (λ (h : Held). h.waits) i.2.holds, n) in absurd (let e : true ≡ false = sym t ∙ c.if-cut.false in cc))

pub returns-in_ok-write_line-in-Ok-eq0-clause-ok : goal.returns-in_ok-write_line-in-Ok-eq0-clause-ok
returns-in_ok-write_line-in-Ok-eq0-clause-ok g c =
    let i = c.loop-reads.invariant in
    let b = c.in-Ok-eq0.ensures.bytes in
    let zero : c.in-Ok-eq0.field-0 ≡ 0 = c.in-Ok-eq0.field-0-test in
    ends_cut g.A.Answerer.protocol _ _ (held_bytes c.args.console.now) i.0 _ _ _ _ _ _
    (none_seen _ _ i.0 c.read.new.buffer c.in-Ok-eq0.field-0 zero (Consumes-trans _ _ _ i.0 _ i.1 b.0)) (b.1 zero (omega (arith, c.read.auto.buffer)))
    (answers_kept g.A.Answerer.protocol _ _ _ _ _ _ _ i.2 c.in-Ok-eq0.ensures.kept)
    (c.rest-cut.ensures.0 c.if-cut.true).1 c.in_ok-write_line-in-Ok-eq0.ensures.ok

pub returns-in_err-write_line-in-Ok-eq0-clause-write : goal.returns-in_err-write_line-in-Ok-eq0-clause-write
returns-in_err-write_line-in-Ok-eq0-clause-write g c = λ _.
    let i = c.loop-reads.invariant in
    let b = c.in-Ok-eq0.ensures.bytes in
    let zero : c.in-Ok-eq0.field-0 ≡ 0 = c.in-Ok-eq0.field-0-test in
    let r = c.in_err-write_line-in-Ok-eq0.ensures.err in
    breaks_cut g.A.Answerer.protocol _ _ (held_bytes c.args.console.now) i.0 _ _ _ _ _ _ r.0 r.1
    (none_seen _ _ i.0 c.read.new.buffer c.in-Ok-eq0.field-0 zero (Consumes-trans _ _ _ i.0 _ i.1 b.0)) (b.1 zero (omega (arith, c.read.auto.buffer)))
    (answers_kept g.A.Answerer.protocol _ _ _ _ _ _ _ i.2 c.in-Ok-eq0.ensures.kept)
    (c.rest-cut.ensures.0 c.if-cut.true).1 r.2 r.3 r.4

pub returns-in_err-answer_waiting-clause-calls : goal.returns-in_err-answer_waiting-clause-calls
returns-in_err-answer_waiting-clause-calls g c =
    let b = c.in_err-answer_waiting.ensures.broken in
    let x = err_from_is_err_and c.from_residual.result c.from_residual.ensures.1 in
    (LineBroken b.1 ∷ [], b.2, rw (x.1, x.2) ([], AtOnce b.0, (b.1, refl)))

pub returns-in_err-answer_piece-in-Ok-clause-calls : goal.returns-in_err-answer_piece-in-Ok-clause-calls
returns-in_err-answer_piece-in-Ok-clause-calls g c =
    let i = c.loop-reads.invariant in
    let b = c.in_err-answer_piece-in-Ok.ensures.broken in
    let x = err_from_is_err_and c.from_residual-in_err-answer_piece-in-Ok.result c.from_residual-in_err-answer_piece-in-Ok.ensures.1 in
    let p = take c.in-Ok.n c.read.new.buffer in
    let before = i.3 ++ ReadGave p ∷ map LineWritten b.0 in (
      i.3 ++ ReadGave p ∷ (map LineWritten b.0 ++ LineBroken b.2 ∷ []),
      calls_append g.L.Link.called i.3 (ReadGave p ∷ (map LineWritten b.0 ++ LineBroken b.2 ∷ [])) _ _ _ _ _ _ i.4 (_, _, c.in-Ok.ensures.gave, b.3),
      rw (x.1, x.2) (before, InARound _ i.3 p b.0 i.5 b.1, (b.2, sym (append_assoc i.3 (ReadGave p ∷ map LineWritten b.0) (LineBroken b.2 ∷ [])))),
    )

pub returns-in-Err-clause-calls : goal.returns-in-Err-clause-calls
returns-in-Err-clause-calls g c =
    let i = c.loop-reads.invariant in (
      i.3 ++ ReadFailed ∷ [],
      calls_append g.L.Link.called i.3 (ReadFailed ∷ []) _ _ _ _ _ _ i.4 (_, _, c.in-Err.ensures.failed, (refl, refl)),
      (_, i.3, i.5, inl refl),
    )

pub returns-clause-calls : goal.returns-clause-calls
returns-clause-calls g c =
    let i = c.loop-reads.invariant in (i.3, i.4, (_, i.3, i.5, inr (refl, omega arith)))

pub returns-else-cut-clause-calls : goal.returns-else-cut-clause-calls
returns-else-cut-clause-calls g c =
    let i = c.loop-reads.invariant in
    let e = ended_call g.L.Link.called _ _ _ _ c.read.new.buffer c.in-Ok-eq0.field-0 c.in-Ok-eq0.field-0-test c.in-Ok-eq0.ensures.gave in (
      i.3 ++ ReadGave [] ∷ [],
      calls_append g.L.Link.called i.3 (ReadGave [] ∷ []) _ _ _ _ _ _ i.4 (_, _, e, (refl, refl)),
      (_, i.3, i.5, inl refl),
    )

pub returns-in_ok-write_line-in-Ok-eq0-clause-calls : goal.returns-in_ok-write_line-in-Ok-eq0-clause-calls
returns-in_ok-write_line-in-Ok-eq0-clause-calls g c =
    let i = c.loop-reads.invariant in
    let cut : List ℕ = ended (codes "cut") in
    let e = ended_call g.L.Link.called _ _ _ _ c.read.new.buffer c.in-Ok-eq0.field-0 c.in-Ok-eq0.field-0-test c.in-Ok-eq0.ensures.gave in (
      i.3 ++ ReadGave [] ∷ LineWritten cut ∷ [],
      calls_append g.L.Link.called i.3 (ReadGave [] ∷ LineWritten cut ∷ []) _ _ _ _ _ _ i.4 (
        _,
        _,
        e,
        (_, _, c.in_ok-write_line-in-Ok-eq0.ensures.written, (refl, refl)),
      ),
      (_, i.3, i.5, inr refl),
    )

pub returns-in_err-write_line-in-Ok-eq0-clause-calls : goal.returns-in_err-write_line-in-Ok-eq0-clause-calls
returns-in_err-write_line-in-Ok-eq0-clause-calls g c =
    let i = c.loop-reads.invariant in
    let cut : List ℕ = ended (codes "cut") in
    let e = ended_call g.L.Link.called _ _ _ _ c.read.new.buffer c.in-Ok-eq0.field-0 c.in-Ok-eq0.field-0-test c.in-Ok-eq0.ensures.gave in
    let x = err_from_is_err_and c.from_residual-in_err-write_line-in-Ok-eq0.result c.from_residual-in_err-write_line-in-Ok-eq0.ensures.1 in (
      i.3 ++ ReadGave [] ∷ LineBroken cut ∷ [],
      calls_append g.L.Link.called i.3 (ReadGave [] ∷ LineBroken cut ∷ []) _ _ _ _ _ _ i.4 (
        _,
        _,
        e,
        (_, _, c.in_err-write_line-in-Ok-eq0.ensures.broken, (refl, refl)),
      ),
      rw (x.1, x.2) (i.3 ++ ReadGave [] ∷ [], AtTheEnd _ i.3 i.5, (cut, sym (append_assoc i.3 (ReadGave [] ∷ []) (LineBroken cut ∷ [])))),
    )
