-- Exchanges, joined.
use Rattle.std.proofs.Common.{◌≡◌, ◌≢◌, ℕ, ◌+◌, ◌<◌, List, [], ◌∷◌, ◌++◌, length, take, refl, sym, ap, ◌∙◌, append_assoc, append-nil, Option, Bool, IsTrue}
use Rattle.std.proofs.Common.{IsFalse, false, inl, inr, subst, arith, flat_map}
use Rattle.std.proofs.lemmas.List.{take_all}
use Rattle.std.proofs.lemmas.List.Concat.{flat_map-append}
use Rattle.std.proofs.lemmas.List.Elements.{All-append, All-nil, All-cons}
use Rattle.std.proofs.Math.Seq.{take-append-add}
use Rattle.std.proofs.KnownBytes.{Appends-kept, Appends-nil, Appends-trans}
use Rattle.std.specs.Io.KnownBytes.{Appends, Keeps}
use Rattle.world.proofs.Joined.{Runs-append}
use Rattle.console.specs.Lines.{IsLine, ended}
use Rattle.console.specs.Held.{Held, clip, nothing_held, bytes_so_far, TakesBytes}
use Rattle.console.specs.Conversations.{Protocol, IsTurn, turn_line, turn_text, turn_commands, turn_replies, heard_of, written_of, Answered, Exchange}
use Rattle.console.specs.Conversations.{AnswersSoFar, FailsInReply}
use Rattle.console.proofs.Clips.{clip-append}

module _ (p : Protocol) where
  -- nothing is answered yet
  pub exchange_none : (s : p.State) (line : List ℕ) → Exchange p s line [] s line
  exchange_none s line = record { turns = []; each = All-nil (IsTurn p); heard = refl; written = refl; run = refl }

  -- one line is answered
  pub exchange_one : (s t : p.State) (line bytes more input : List ℕ) → input ≡ ended line ++ more → Answered p s line bytes t → Exchange p s input bytes t more
  exchange_one s t line bytes more input e a = record {
    turns = a.0 ∷ [];
    each = All-cons (IsTurn p) a.0 [] a.2 (All-nil (IsTurn p));
    heard = e ∙ ap (λ l. ended l ++ more) (sym a.1) ∙ ap (λ l. l ++ more) (sym (append-nil (ended (turn_line p a.0))));
    written = a.4 ∙ sym (append-nil (ended (turn_text p a.0)));
    run = a.3;
  }

  pub exchange_join : (a b c : p.State) (i o r j q t : List ℕ) → Exchange p a i o b r → Exchange p b (r ++ j) q c t → Exchange p a (i ++ j) (o ++ q) c t
  exchange_join a b c i o r j q t x y = record {
    turns = x.turns ++ y.turns;
    each = All-append (IsTurn p) x.turns y.turns x.each y.each;
    heard = ap (λ l. l ++ j) x.heard ∙ append_assoc (heard_of p x.turns) r j ∙ ap (λ l. heard_of p x.turns ++ l) y.heard
        ∙ sym (append_assoc (heard_of p x.turns) (heard_of p y.turns) t)
        ∙ ap (λ l. l ++ t) (sym (flat_map-append (λ turn. ended (turn_line p turn)) x.turns y.turns));
    written = ap (λ l. l ++ q) x.written ∙ ap (λ l. written_of p x.turns ++ l) y.written
        ∙ sym (flat_map-append (λ turn. ended (turn_text p turn)) x.turns y.turns);
    run = rw (flat_map-append (turn_commands p) x.turns y.turns, flat_map-append (turn_replies p) x.turns y.turns)
        (Runs-append p.step a b c (flat_map (turn_commands p) x.turns) (flat_map (turn_replies p) x.turns) (flat_map (turn_commands p) y.turns)
        (flat_map (turn_replies p) y.turns) x.run y.run);
  }

  -- more input may follow
  pub exchange_more : (a b : p.State) (i o r j : List ℕ) → Exchange p a i o b r → Exchange p a (i ++ j) o b (r ++ j)
  exchange_more a b i o r j x = record {
    turns = x.turns;
    each = x.each;
    heard = ap (λ l. l ++ j) x.heard ∙ append_assoc (heard_of p x.turns) r j;
    written = x.written;
    run = x.run;
  }

  pub answers_join : (a b c : p.State) (i j : List ℕ) (u v w : Option (List ℕ)) (h k : Held) (x : AnswersSoFar p a i u v b h)
      → AnswersSoFar p b (x.rest ++ j) v w c k → AnswersSoFar p a (i ++ j) u w c k
  answers_join a b c i j u v w h k x y = record {
    output = x.output ++ y.output;
    rest = y.rest;
    appended = Appends-trans u v w x.output y.output x.appended y.appended;
    so_far = exchange_join a b c i x.output x.rest j y.output y.rest x.so_far y.so_far;
    is_open = y.is_open;
    holds = y.holds;
  }

  -- what is known stays as it was
  pub answers_kept : (a b : p.State) (i : List ℕ) (u v w : Option (List ℕ)) (h : Held) → AnswersSoFar p a i u v b h → Keeps v w
      → AnswersSoFar p a i u w b h
  answers_kept a b i u v w h x k = record {
    output = x.output;
    rest = x.rest;
    appended = Appends-kept u v w x.output x.appended k;
    so_far = x.so_far;
    is_open = x.is_open;
    holds = x.holds;
  }

  pub fails_join : (ahead : List ℕ) (a b c : p.State) (i j : List ℕ) (u v w : Option (List ℕ)) (h : Held) (x : AnswersSoFar p a i u v b h)
      → FailsInReply p ahead b (x.rest ++ j) v w c
      → FailsInReply p ahead a (i ++ j) u w c
  fails_join ahead a b c i j u v w h x y =
      let z = y.2 in (
        x.output ++ y.0,
        Appends-trans u v w x.output y.0 x.appended y.1,
        record {
          written = x.output ++ z.written;
          rest = z.rest;
          mid = z.mid;
          due = z.due;
          part = z.part;
          missing = z.missing;
          so_far = exchange_join a b z.mid i x.output x.rest j z.written z.rest x.so_far z.so_far;
          next = z.next;
          broken = z.broken;
          misses = z.misses;
          wrote = ap (λ l. x.output ++ l) z.wrote ∙ sym (append_assoc x.output z.written z.part);
        },
      )

  -- more was read when a write failed
  pub fails_more : (ahead : List ℕ) (a b : p.State) (i j : List ℕ) (u v : Option (List ℕ)) → FailsInReply p ahead a i u v b
      → FailsInReply p (ahead ++ j) a (i ++ j) u v b
  fails_more ahead a b i j u v y =
      let z = y.2 in
      let n = z.next in (
        y.0,
        y.1,
        record {
          written = z.written;
          rest = z.rest ++ j;
          mid = z.mid;
          due = z.due;
          part = z.part;
          missing = z.missing;
          so_far = exchange_more a z.mid i z.written z.rest j z.so_far;
          next = (n.0, ap (λ l. l ++ j) n.1 ∙ append_assoc (ended n.0) ahead j, n.2);
          broken = z.broken;
          misses = z.misses;
          wrote = z.wrote;
        },
      )

-- ---- what a console holds

pub so_far_waits : (line : List ℕ) (waits : Bool) → IsTrue waits → bytes_so_far line waits ≡ ended line
so_far_waits line waits e = rw e refl

pub so_far_open : (line : List ℕ) (waits : Bool) → IsFalse waits → bytes_so_far line waits ≡ line
so_far_open line waits e = rw e refl

pub held_is : (h : Held) (line : List ℕ) → h.line ≡ line → IsFalse h.waits → h ≡ record { line = line; waits = false }
held_is h line e f = rw (← e, ← f) refl

module _ (p : Protocol) where
  -- nothing is answered of a line that is still coming
  pub answers_none : (s : p.State) (line : List ℕ) (u : Option (List ℕ)) (h : Held) → IsLine line → h.line ≡ clip line → IsFalse h.waits
      → AnswersSoFar p s line u u s h
  answers_none s line u h l e f = record {
    output = [];
    rest = line;
    appended = Appends-nil u;
    so_far = exchange_none p s line;
    is_open = l;
    holds = held_is h (clip line) e f;
  }

  -- a line is answered
  pub answers_line : (s t : p.State) (line bytes input : List ℕ) (u v : Option (List ℕ)) (h : Held) → input ≡ ended line → Answered p s line bytes t
      → Appends u v bytes → h ≡ nothing_held → AnswersSoFar p s input u v t h
  answers_line s t line bytes input u v h e a w n = record {
    output = bytes;
    rest = [];
    appended = w;
    so_far = exchange_one p s t line bytes [] input (e ∙ sym (append-nil (ended line))) a;
    is_open = All-nil (λ b. b ≢ 10);
    holds = n;
  }

  -- a line's answer breaks off
  pub fails_line : (s t : p.State) (line bytes input part missing : List ℕ) (u v : Option (List ℕ)) → input ≡ ended line → Answered p s line bytes t
      → bytes ≡ part ++ missing → 0 < length missing → Appends u v part → FailsInReply p [] s input u v t
  fails_line s t line bytes input part missing u v e a b m w = (
    part,
    w,
    record {
      written = [];
      rest = input;
      mid = s;
      due = bytes;
      part = part;
      missing = missing;
      so_far = exchange_none p s input;
      next = (line, e ∙ sym (append-nil (ended line)), a);
      broken = b;
      misses = m;
      wrote = refl;
    },
  )

-- the line that a console holds which took bytes
record Fed (rest taken : List ℕ) (held : Held) : Type 0 where
  line : List ℕ
  is_line : IsLine line
  bytes : rest ++ taken ≡ bytes_so_far line held.waits
  clipped : held.line ≡ clip line

-- the bytes up to and with the line end
pub take_through_end : (piece more : List ℕ) (n : ℕ) → n ≡ length piece + 1 → take n (piece ++ 10 ∷ more) ≡ piece ++ 10 ∷ []
take_through_end piece more n e = rw e (take-append-add piece (10 ∷ more) 1)

fed : (old rest bytes : List ℕ) (n : ℕ) (h : Held) → IsLine rest → old ≡ clip rest → TakesBytes old bytes n h → Fed rest (take n bytes) h
fed old rest bytes n h l e (inl f) = record {
  line = rest ++ bytes;
  is_line = All-append (λ b. b ≢ 10) rest bytes l f.0;
  bytes = rw (f.1, take_all (length bytes) bytes (omega arith)) (sym (so_far_open (rest ++ bytes) h.waits (ap (λ (x : Held). x.waits) f.2)));
  clipped = ap (λ (x : Held). x.line) f.2 ∙ ap (λ x. clip (x ++ bytes)) e ∙ clip-append 70001 rest bytes;
}
fed old rest bytes n h l e (inr f) = record {
  line = rest ++ f.0;
  is_line = All-append (λ b. b ≢ 10) rest f.0 l f.3;
  bytes = rw f.2 (rw (take_through_end f.0 f.1 n f.4) (sym (append_assoc rest f.0 (10 ∷ []))))
      ∙ sym (so_far_waits (rest ++ f.0) h.waits (ap (λ (x : Held). x.waits) f.5));
  clipped = ap (λ (x : Held). x.line) f.5 ∙ ap (λ x. clip (x ++ f.0)) e ∙ clip-append 70001 rest f.0;
}

-- bytes are taken, and the line that then waits, if one does, is answered
module _ (p : Protocol) (a b c : p.State) (i bytes : List ℕ) (u v w : Option (List ℕ)) (h k : Held) (n : ℕ) where
  pub answers_fed : (new : Held) → AnswersSoFar p a i u v b h → TakesBytes h.line bytes n k
      → ((line : List ℕ) → IsLine line → k.line ≡ clip line → AnswersSoFar p b (bytes_so_far line k.waits) v w c new)
      → AnswersSoFar p a (i ++ take n bytes) u w c new
  answers_fed new x f answer =
      let l = fed h.line x.rest bytes n k x.is_open (ap (λ (y : Held). y.line) x.holds) f in
      answers_join p a b c i (take n bytes) u v w h new x (subst (λ j. AnswersSoFar p b j v w c new) (sym l.bytes) (answer l.line l.is_line l.clipped))

  pub fails_fed : AnswersSoFar p a i u v b h → TakesBytes h.line bytes n k
      → ((line : List ℕ) → IsLine line → k.line ≡ clip line → FailsInReply p [] b (bytes_so_far line k.waits) v w c)
      → FailsInReply p [] a (i ++ take n bytes) u w c
  fails_fed x f answer =
      let l = fed h.line x.rest bytes n k x.is_open (ap (λ (y : Held). y.line) x.holds) f in
      fails_join p [] a b c i (take n bytes) u v w h x (subst (λ j. FailsInReply p [] b j v w c) (sym l.bytes) (answer l.line l.is_line l.clipped))
