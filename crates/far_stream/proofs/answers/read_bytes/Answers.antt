use Rattle.std.proofs.Common.{◌++◌, inr, subst}
use Rattle.std.specs.Io.KnownBytes.{Consumes}
use Rattle.std.proofs.KnownBytes.{Consumes-trans}
use Rattle.far_stream.specs.Frames.{head, done}
use Rattle.far_stream.proofs.Filling.{lost_short}
use Rattle.far_stream.proofs.answers.read_bytes.Goals as goal

pub returns : goal.returns
returns g c =
    let count = c.in_ok-count.count in
    let came = c.in_ok-count.ensures in
    let part = lost_short c.in-Err-CutOff.field-0 c.in-Err-CutOff.field-0-0 _ _ _ c.in-Err-CutOff.field-0-is c.in-Err-CutOff.ensures.err in
    let before = g.R.Read.remaining c.args.reader.now in
    let after = g.R.Read.remaining c.read_payload.new.reader in
    let all = Consumes-trans before (g.R.Read.remaining c.read_answer.new.reader) after (head done c.id.result count) part.0 came.1 part.2 in
    inr (count, part.0, came.0, part.1, subst (λ id. Consumes before after (head done id count ++ part.0)) c.id.ensures all)
