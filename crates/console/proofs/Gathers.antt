-- Replies that are written together.
use Rattle.std.proofs.Common.{◌≡◌, ℕ, ◌<◌, List, [], ◌∷◌, ◌++◌, length, length-append, refl, sym, ap, ◌∙◌, append_assoc, append-nil, Option, Some, None, subst, arith}
use Rattle.std.specs.Bool.{⊤}
use Rattle.std.proofs.Common.{◌⊎◌, IfSome, inl, inr, Result, Ok, Err, OnOk, OnErr}
use Rattle.std.proofs.lemmas.List.{append_cancel_left}
use Rattle.std.proofs.KnownBytes.{Appends-kept, Appends-nil, Appends-trans}
use Rattle.std.specs.Result.{IsErrOf}
use Rattle.std.specs.Io.KnownBytes.{Appends, Keeps}
use Rattle.streams.specs.Streams.{AppendsPart}
use Rattle.console.specs.declared.fault.DriveFault.{DriveFault}
use Rattle.console.specs.declared.fault.DriveFault.TheVariants as drive
use Rattle.console.specs.Lines.{cut_of}
use Rattle.console.specs.Held.{Held}
use Rattle.console.specs.Conversations.{Protocol, Exchange, DueReply, FailsInCut, FailsInReply, AnswersAll, StopsReading, StopsWriting}
use Rattle.console.specs.StreamCalls.{StreamCall, StreamCalls}
use Rattle.console.specs.Gathered.{grows, kept_after, StopsShort}
use Rattle.console.proofs.Exchanges.{exchange_join, exchange_one}

-- nothing of a line is written
pub appends_none : (a b : Option (List ℕ)) (line : List ℕ) → Keeps a b → 0 < length line → AppendsPart a b line
appends_none a b line k some = ([], line, refl, some, Appends-kept a a b [] (Appends-nil a) k)

-- a writer took some bytes, and then a line
pub grown_ok : {X E : Type 0} (r : Result X E) (a b c : Option (List ℕ)) (bytes line : List ℕ) → Appends a b bytes → OnOk r (Appends b c line)
    → OnOk r (grows a c)
grown_ok (Ok x) a b c bytes line g h = (bytes ++ line, Appends-trans a b c bytes line g h)
grown_ok (Err e) a b c bytes line g h = tt

-- or a part of it
pub grown_err : {X E : Type 0} (r : Result X E) (a b c : Option (List ℕ)) (bytes line : List ℕ) → Appends a b bytes → OnErr r (AppendsPart b c line)
    → OnErr r (grows a c)
grown_err (Ok x) a b c bytes line g h = tt
grown_err (Err e) a b c bytes line g h = (bytes ++ h.0, Appends-trans a b c bytes h.0 g h.4)

-- after calls of which each may make a writer grow, it has grown
pub calls_grow : {R W : Type 0} (contents : W → Option (List ℕ)) (calls : List StreamCall) (r s : R) (w v : W)
    → StreamCalls (λ reader writer call reader_after writer_after. grows (contents writer) (contents writer_after)) r w calls s v
    → grows (contents w) (contents v)
calls_grow contents [] r s w v h = subst (λ x. grows (contents w) (contents x)) (sym h.1) ([], Appends-nil (contents w))
calls_grow contents (x ∷ xs) r s w v h =
    let g = calls_grow contents xs h.0 s h.1 v h.3 in
    (h.2.0 ++ g.0, Appends-trans (contents w) (contents h.1) (contents v) h.2.0 g.0 h.2.1 g.1)

-- What a writer holds in the end, and what of the output isn't written.
record Sent (before : List ℕ) (after : Option (List ℕ)) (output kept : List ℕ) : Type 0 where
  wrote : List ℕ
  after_is : after ≡ Some (before ++ wrote)
  output_is : output ≡ wrote ++ kept

-- The writer held these bytes, then took some while the output was gathered, and then the first of those that were kept.
sent : (before : List ℕ) (mid after : Option (List ℕ)) (first held more kept output : List ℕ) → Appends (Some before) mid first
    → Appends (kept_after (Some before) []) (kept_after mid held) output
    → held ≡ more ++ kept → Appends mid after more → Sent before after output kept
sent before None after first held more kept output a b c d = absurd a
sent before (Some m) None first held more kept output a b c d = absurd d
sent before (Some m) (Some x) first held more kept output a b c d = record {
  wrote = first ++ more;
  after_is = ap (λ l. Some l) (d ∙ ap (λ l. l ++ more) a ∙ append_assoc before first more);
  output_is =
      append_cancel_left before output ((first ++ more) ++ kept)
      (sym (ap (λ l. l ++ output) (append-nil before)) ∙ sym b ∙ ap (λ l. l ++ held) a ∙ append_assoc before first held
      ∙ ap (λ l. before ++ (first ++ l)) c ∙ ap (λ l. before ++ l) (sym (append_assoc first more kept)));
}

-- where nothing is left, the writer took the output
pub all_sent : (before mid after : Option (List ℕ)) (held more kept output : List ℕ) → Appends (kept_after before []) (kept_after mid held) output
    → held ≡ more ++ kept → Appends mid after more → kept ≡ [] → Appends before after output
all_sent None mid after held more kept output b c d e = tt
all_sent (Some x) None after held more kept output b c d e = absurd b
all_sent (Some x) (Some m) None held more kept output b c d e = absurd d
all_sent (Some x) (Some m) (Some y) held more kept output b c d e =
    d ∙ ap (λ l. m ++ l) (sym (append-nil more) ∙ ap (λ l. more ++ l) (sym e) ∙ sym c) ∙ b ∙ ap (λ l. l ++ output) (append-nil x)

module _ (p : Protocol) (old new : p.State) where
  -- the next line is answered too
  next_too : (mid : p.State) (heard written rest ahead due : List ℕ) → Exchange p old heard written mid rest → DueReply p ahead mid rest due new
      → Exchange p old heard (written ++ due) new ahead
  next_too mid heard written rest ahead due x n =
      subst (λ i. Exchange p old i (written ++ due) new ahead) (append-nil heard)
      (exchange_join p old mid new heard written rest [] due ahead x
      (exchange_one p mid new n.0 due ahead (rest ++ []) (append-nil rest ∙ n.1) n.2))

  -- what is missing of replies of which a part is gathered, and not all of that is written
  missing_of : (written due part wrote kept missing output : List ℕ) → due ≡ part ++ missing → output ≡ written ++ part → output ≡ wrote ++ kept
      → written ++ due ≡ wrote ++ (kept ++ missing)
  missing_of written due part wrote kept missing output a b c =
      ap (λ l. written ++ l) a ∙ sym (append_assoc written part missing) ∙ ap (λ l. l ++ missing) (sym b ∙ c) ∙ append_assoc wrote kept missing

  longer : (xs ys : List ℕ) → 0 < length ys → 0 < length (xs ++ ys)
  longer xs ys h =
      let a = length-append xs ys in
      omega (arith, a, h)

  module _ (input before : List ℕ) (mid after unread : Option (List ℕ)) (first held more kept : List ℕ)
      (grew : Appends (Some before) mid first) (held_is : held ≡ more ++ kept) (took : Appends mid after more) where
    -- a write failed while the output was gathered
    pub short_writing : StopsWriting p old input (kept_after (Some before) []) (kept_after mid held) new unread
        → StopsShort p old input before after new unread
    short_writing w = writing w.heard w.more w.parts w.kept w.fails
      where
        writing : (heard rest_of_input : List ℕ) → input ≡ heard ++ rest_of_input → unread ≡ Some rest_of_input
            → ((ahead : List ℕ) × (length ahead < 4096) × FailsInReply p ahead old heard (kept_after (Some before) []) (kept_after mid held) new)
            ⊎ ((rest_of_input ≡ []) × FailsInCut p old heard (kept_after (Some before) []) (kept_after mid held) new)
            → StopsShort p old input before after new unread
        writing heard left parts is (inl x) =
            let output = x.2.0 in
            let b = x.2.2 in
            let s = sent before mid after first held more kept output grew x.2.1 held_is took in record {
              heard = heard;
              more = left;
              replies = b.written ++ b.due;
              rest = x.0;
              last = [];
              wrote = s.wrote;
              missing = kept ++ b.missing;
              parts = parts;
              so_far = next_too b.mid heard b.written b.rest x.0 b.due b.so_far b.next;
              ends = inl (refl, is);
              due = append-nil (b.written ++ b.due)
                  ∙ missing_of b.written b.due b.part s.wrote kept b.missing output b.broken b.wrote s.output_is;
              misses = longer kept b.missing b.misses;
              appended = s.after_is;
            }
        writing heard left parts is (inr x) =
            let output = x.1.0 in
            let b = x.1.2 in
            let s = sent before mid after first held more kept output grew x.1.1 held_is took in record {
              heard = heard;
              more = left;
              replies = b.written;
              rest = b.rest;
              last = b.due;
              wrote = s.wrote;
              missing = kept ++ b.missing;
              parts = parts;
              so_far = subst (λ t. Exchange p old heard b.written t b.rest) (sym b.next.3) b.so_far;
              ends = inr (x.0, b.next.0, b.next.2);
              due = missing_of b.written b.due b.part s.wrote kept b.missing output b.broken b.wrote s.output_is;
              misses = longer kept b.missing b.misses;
              appended = s.after_is;
            }

    module _ (left_some : 0 < length kept) where
      -- a read failed, and not all replies are written
      pub short_reading : (k : Held) → StopsReading p old input (kept_after (Some before) []) (kept_after mid held) new k unread
          → StopsShort p old input before after new unread
      short_reading k r =
          let x = r.answers in
          let s = sent before mid after first held more kept x.output grew x.appended held_is took in record {
            heard = r.heard;
            more = r.more;
            replies = x.output;
            rest = x.rest;
            last = [];
            wrote = s.wrote;
            missing = kept;
            parts = r.parts;
            so_far = x.so_far;
            ends = inl (refl, r.kept);
            due = append-nil x.output ∙ s.output_is;
            misses = left_some;
            appended = s.after_is;
          }

      -- the input has ended, and not all replies are written
      pub short_ending : AnswersAll p old input (kept_after (Some before) []) (kept_after mid held) new → StopsShort p old input before after new unread
      short_ending x =
          let s = sent before mid after first held more kept x.0 grew x.1 held_is took in record {
            heard = input;
            more = [];
            replies = x.2.0;
            rest = x.2.1;
            last = cut_of x.2.1;
            wrote = s.wrote;
            missing = kept;
            parts = sym (append-nil input);
            so_far = x.2.2;
            ends = inr (refl, x.2.3, refl);
            due = sym x.2.4 ∙ s.output_is;
            misses = left_some;
            appended = s.after_is;
          }

-- A conversation was gathered for a writer that began so, grew to the middle while bytes were held for it, and then took the first
-- of these.
module _ (p : Protocol) (old new : p.State) (input : Option (List ℕ)) (heard begun held more kept : List ℕ) (start mid after unread : Option (List ℕ))
    (none : begun ≡ []) (held_is : held ≡ more ++ kept) (took : Appends mid after more) where
  -- A conversation ended, and not all that was gathered is written.
  pub short_of : (r : Result ⊤ DriveFault) (k : Held) → grows start mid → 0 < length kept
      → OnOk r (IfSome input (λ x. AnswersAll p old (heard ++ x) (kept_after start begun) (kept_after mid held) new))
      → (IsErrOf r drive.Read → IfSome input (λ x. StopsReading p old (heard ++ x) (kept_after start begun) (kept_after mid held) new k unread))
      → (IsErrOf r drive.Write → IfSome input (λ x. StopsWriting p old (heard ++ x) (kept_after start begun) (kept_after mid held) new unread))
      → IfSome input (λ x. IfSome start (λ before. StopsShort p old (heard ++ x) before after new unread))
  short_of r k grew some ok read write = known input start grew r ok read write
    where
      known : (i s : Option (List ℕ)) → grows s mid → (q : Result ⊤ DriveFault)
          → OnOk q (IfSome i (λ x. AnswersAll p old (heard ++ x) (kept_after s begun) (kept_after mid held) new))
          → (IsErrOf q drive.Read → IfSome i (λ x. StopsReading p old (heard ++ x) (kept_after s begun) (kept_after mid held) new k unread))
          → (IsErrOf q drive.Write → IfSome i (λ x. StopsWriting p old (heard ++ x) (kept_after s begun) (kept_after mid held) new unread))
          → IfSome i (λ x. IfSome s (λ before. StopsShort p old (heard ++ x) before after new unread))
      known None s g q a b c = tt
      known (Some x) None g q a b c = tt
      known (Some x) (Some y) g (Ok v) a b c =
          short_ending p old new (heard ++ x) y mid after unread g.0 held more kept g.1 held_is took some
          (subst (λ z. AnswersAll p old (heard ++ x) (kept_after (Some y) z) (kept_after mid held) new) none a)
      known (Some x) (Some y) g (Err drive.Read) a b c =
          short_reading p old new (heard ++ x) y mid after unread g.0 held more kept g.1 held_is took some k
          (subst (λ z. StopsReading p old (heard ++ x) (kept_after (Some y) z) (kept_after mid held) new k unread) none (b refl))
      known (Some x) (Some y) g (Err drive.Write) a b c =
          short_writing p old new (heard ++ x) y mid after unread g.0 held more kept g.1 held_is took
          (subst (λ z. StopsWriting p old (heard ++ x) (kept_after (Some y) z) (kept_after mid held) new unread) none (c refl))

  -- A write failed while the replies were gathered.
  pub short_by_write : grows start mid
      → IfSome input (λ x. StopsWriting p old (heard ++ x) (kept_after start begun) (kept_after mid held) new unread)
      → IfSome input (λ x. IfSome start (λ before. StopsShort p old (heard ++ x) before after new unread))
  short_by_write grew write = known input start grew write
    where
      known : (i s : Option (List ℕ)) → grows s mid
          → IfSome i (λ x. StopsWriting p old (heard ++ x) (kept_after s begun) (kept_after mid held) new unread)
          → IfSome i (λ x. IfSome s (λ before. StopsShort p old (heard ++ x) before after new unread))
      known None s g c = tt
      known (Some x) None g c = tt
      known (Some x) (Some y) g c =
          short_writing p old new (heard ++ x) y mid after unread g.0 held more kept g.1 held_is took
          (subst (λ z. StopsWriting p old (heard ++ x) (kept_after (Some y) z) (kept_after mid held) new unread) none c)

  module _ (all : kept ≡ []) where
    whole : (output : List ℕ) → Appends (kept_after start begun) (kept_after mid held) output → Appends start after output
    whole output a = all_sent start mid after held more kept output
        (subst (λ z. Appends (kept_after start z) (kept_after mid held) output) none a) held_is took all

    -- All that was gathered is written, and the input has ended.
    pub answers_whole : {E : Type 0} (r : Result ⊤ E)
        → OnOk r (IfSome input (λ x. AnswersAll p old (heard ++ x) (kept_after start begun) (kept_after mid held) new))
        → OnOk r (IfSome input (λ x. AnswersAll p old (heard ++ x) start after new))
    answers_whole (Ok v) a = known input a
      where
        known : (i : Option (List ℕ)) → IfSome i (λ x. AnswersAll p old (heard ++ x) (kept_after start begun) (kept_after mid held) new)
            → IfSome i (λ x. AnswersAll p old (heard ++ x) start after new)
        known None b = tt
        known (Some x) b = (b.0, whole b.0 b.1, b.2)
    answers_whole (Err e) a = tt

    -- or a read failed
    pub stops_whole : (k : Held) → IfSome input (λ x. StopsReading p old (heard ++ x) (kept_after start begun) (kept_after mid held) new k unread)
        → IfSome input (λ x. StopsReading p old (heard ++ x) start after new k unread)
    stops_whole k a = known input a
      where
        known : (i : Option (List ℕ)) → IfSome i (λ x. StopsReading p old (heard ++ x) (kept_after start begun) (kept_after mid held) new k unread)
            → IfSome i (λ x. StopsReading p old (heard ++ x) start after new k unread)
        known None b = tt
        known (Some x) b = record {
          heard = b.heard;
          more = b.more;
          parts = b.parts;
          kept = b.kept;
          answers = record {
            output = b.answers.output;
            rest = b.answers.rest;
            appended = whole b.answers.output b.answers.appended;
            so_far = b.answers.so_far;
            is_open = b.answers.is_open;
            holds = b.answers.holds;
          };
        }
