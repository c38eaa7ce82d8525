-- What was read was there.
use Rattle.std.proofs.Common.{◌≡◌, ℕ, Bool, true, false, cond, List, [], ◌∷◌, ◌++◌, refl, sym, ap, ◌∙◌, subst, append_assoc, append-nil, codes, Option, Some}
use Rattle.std.proofs.Common.{None, option_and_then, Ok, Err, ℤ}
use Rattle.std.proofs.lemmas.Slice.Eq.{bytes_eq-Decides}
use Rattle.std.specs.Str.{bytes_eq}
use Rattle.asm_text.specs.Tokens.{Lexeme}
use Rattle.asm_text.specs.Tokens.Lexeme.{Name, Comma}
use Rattle.isa_table.specs.declared.instr.Instr.{Instr}
use Rattle.asm_table.specs.declared.mnemonic.Mnemonic.{Mnemonic}
use Rattle.asm_table.specs.declared.mnemonic.Mnemonic.TheVariants as mnemonic
use Rattle.asm_table.specs.declared.mnemonic.Sort.{Sort}
use Rattle.asm_table.specs.declared.operands.AsmOperand.{AsmOperand}
use Rattle.asm_table.specs.declared.operands.AsmOperand.TheVariants as operand
use Rattle.asm_table.specs.Mnemonics.{name, sorts}
use Rattle.asm_table.specs.Names.{named, has_two_words}
use Rattle.asm_table.specs.Parts.{mnemonic_of, operands_of, instr_of_parts}
use Rattle.asm_table.proofs.Each.{built_is}
use Rattle.asm_table.proofs.Lookups.{named_is, named_local}
use Rattle.asm_grammar.specs.declared.why.Why.TheVariants as why
use Rattle.asm_grammar.specs.Writing.{Written, lexemes_of, joined, more}
use Rattle.asm_grammar.specs.Sorts.{Taken, operand_taken, distance}
use Rattle.asm_grammar.specs.Sorts.Taken.{No, Out, Is, To, LongTo}
use Rattle.asm_grammar.specs.Grammar.{Look, StandsFor, Stand, Means, head}
use Rattle.asm_grammar.specs.Reading.{Gathered, nothing, gather_operands, step, added, aimed, next_operand, after_call, headed, mnemonic_at, finished, judged}
use Rattle.asm_grammar.specs.Reading.{said, body, by_mnemonic}
use Rattle.asm_grammar.proofs.Meant.{having, operand_found, same_pair, head_one}

pub and_then_some : {A B : Type 0} (f : A → Option B) (o : Option A) (y : B) → option_and_then f o ≡ Some y → (x : A) × (o ≡ Some x) × (f x ≡ Some y)
and_then_some f None y e = absurd (cc e)
and_then_some f (Some x) y e = (x, refl, e)

judged_is : (u : Bool) (o : Option Instr) (i : Instr) → said (judged u o) ≡ Ok (Some i) → (u ≡ false) × (o ≡ Some i)
judged_is u None i e = absurd (cc e)
judged_is true (Some j) i e = absurd (cc e)
judged_is false (Some j) i e = let k : j ≡ i = cc e in (refl, ap (λ x. Some x) k)

-- ---- the mnemonic that was found

local_found : (w : List ℕ) (ts : List Lexeme) (m : Mnemonic) (rest : List Lexeme) (b : Bool) → bytes_eq w (codes "local") ≡ b
    → ◌≡◌ {A = Mnemonic × List Lexeme} (cond b (mnemonic.CallLocal, ts) (mnemonic.CallHelper, Name w ∷ ts)) (m, rest)
    → Name (codes "call") ∷ Name w ∷ ts ≡ head m ++ rest
local_found w ts m rest true b e =
    let k = same_pair mnemonic.CallLocal m ts rest (ap (λ (x : Mnemonic × List Lexeme). Some x) e) in
    ap (λ v. Name (codes "call") ∷ Name v ∷ ts) ((bytes_eq-Decides w (codes "local")).0 b) ∙ ap (λ r. Name (codes "call") ∷ Name (codes "local") ∷ r) k.1
    ∙ ap (λ x. head x ++ rest) k.0
local_found w ts m rest false b e =
    let k = same_pair mnemonic.CallHelper m (Name w ∷ ts) rest (ap (λ (x : Mnemonic × List Lexeme). Some x) e) in
    ap (λ r. Name (codes "call") ∷ r) k.1 ∙ ap (λ x. head x ++ rest) k.0

helper_found : (ts : List Lexeme) (m : Mnemonic) (rest : List Lexeme) → ◌≡◌ {A = Mnemonic × List Lexeme} (mnemonic.CallHelper, ts) (m, rest)
    → Name (codes "call") ∷ ts ≡ head m ++ rest
helper_found ts m rest e =
    let k = same_pair mnemonic.CallHelper m ts rest (ap (λ (x : Mnemonic × List Lexeme). Some x) e) in
    ap (λ r. Name (codes "call") ∷ r) k.1 ∙ ap (λ x. head x ++ rest) k.0

called_found : (ts : List Lexeme) (m : Mnemonic) (rest : List Lexeme) → after_call ts ≡ (m, rest) → Name (codes "call") ∷ ts ≡ head m ++ rest
called_found (Name w ∷ ts) m rest e = local_found w ts m rest (bytes_eq w (codes "local")) refl e
called_found [] m rest e = helper_found [] m rest e
called_found (t ∷ ts) m rest e = helper_found (t ∷ ts) m rest e

other_found : (k : Mnemonic) (ts : List Lexeme) (m : Mnemonic) (rest : List Lexeme) → head k ≡ Name (name k) ∷ []
    → ◌≡◌ {A = Option (Mnemonic × List Lexeme)} (Some (k, ts)) (Some (m, rest)) → Name (name k) ∷ ts ≡ head m ++ rest
other_found k ts m rest h e =
    let p = same_pair k m ts rest e in
    ap (λ x. x ++ ts) (sym h) ∙ ap (λ r. head k ++ r) p.1 ∙ ap (λ x. head x ++ rest) p.0

headed_found : (k : Mnemonic) (ts : List Lexeme) (m : Mnemonic) (rest : List Lexeme) → has_two_words k ≡ false → headed (Some k) ts ≡ Some (m, rest)
    → Name (name k) ∷ ts ≡ head m ++ rest
headed_found mnemonic.CallLocal ts m rest l e = absurd (cc l)
headed_found mnemonic.CallHelper ts m rest l e = let k : ◌≡◌ {A = Mnemonic × List Lexeme} (after_call ts) (m, rest) = cc e in called_found ts m rest k
headed_found k ts m rest l e = other_found k ts m rest (head_one k l) e

named_found : (w : List ℕ) (ts : List Lexeme) (m : Mnemonic) (rest : List Lexeme) (o : Option Mnemonic) → named w ≡ o → headed o ts ≡ Some (m, rest)
    → Name w ∷ ts ≡ head m ++ rest
named_found w ts m rest None f e = absurd (cc e)
named_found w ts m rest (Some k) f e = ap (λ x. Name x ∷ ts) (named_is w k f) ∙ headed_found k ts m rest (named_local w k f) e

pub mnemonic_found : (ts : List Lexeme) (m : Mnemonic) (rest : List Lexeme) → mnemonic_at ts ≡ Some (m, rest) → ts ≡ head m ++ rest
mnemonic_found (Name w ∷ ts) m rest e = named_found w ts m rest (named w) refl e
mnemonic_found _ m rest e = absurd (cc e)

-- the tokens of written operands, after a comma unless they are first
abbrev pub from : Bool → List Written → List Lexeme
from true ws = joined ws
from false ws = more ws

pub from_none : (first : Bool) → from first [] ≡ []
from_none true = refl
from_none false = refl

pub from_next : (first : Bool) (ts : List Lexeme) (w : Written) (rest : List Lexeme) (ws : List Written) → next_operand first ts ≡ Some (w, rest)
    → rest ≡ more ws → ts ≡ from first (w ∷ ws)
from_next true ts w rest ws e f = operand_found ts w rest e ∙ ap (λ x. lexemes_of w ++ x) f
from_next false (Comma ∷ ts) w rest ws e f = ap (λ x. Comma ∷ x) (operand_found ts w rest e ∙ ap (λ x. lexemes_of w ++ x) f)
from_next false _ w rest ws e f = absurd (cc e)

module _ (look : Look) (n : ℕ) where
  -- one more operand, with nothing wrong
  pub record Added (g h : Gathered) (t : Taken) : Type 0 where
    pub o : AsmOperand
    pub stands : StandsFor look n t o
    pub operands : h.operands ≡ g.operands ++ o ∷ []
    pub in_range : g.out ≡ false
    pub known : g.unknown ≡ false

  aimed_none : (f : ℤ → AsmOperand) (g h : Gathered) (t : Taken) → aimed f n g None ≡ h → h.unknown ≡ false → Added g h t
  aimed_none f g h t e u = let k : true ≡ false = ap (λ (x : Gathered). x.unknown) e ∙ u in absurd (cc k)

  aimed_some : (f : ℤ → AsmOperand) (g h : Gathered) (t : Taken) (slot : ℕ) → StandsFor look n t (f (distance slot n)) → aimed f n g (Some slot) ≡ h
      → h.out ≡ false → h.unknown ≡ false → Added g h t
  aimed_some f g h t slot s e o u = record {
    o = f (distance slot n);
    stands = s;
    operands = sym (ap (λ (x : Gathered). x.operands) e);
    in_range = ap (λ (x : Gathered). x.out) e ∙ o;
    known = ap (λ (x : Gathered). x.unknown) e ∙ u;
  }

  to_is : (g h : Gathered) (w : List ℕ) (o : Option ℕ) → look w ≡ o → aimed (λ z. operand.Offset z) n g o ≡ h → h.out ≡ false
      → h.unknown ≡ false → Added g h (To w)
  to_is g h w None l e f u = aimed_none (λ z. operand.Offset z) g h (To w) e u
  to_is g h w (Some slot) l e f u = aimed_some (λ z. operand.Offset z) g h (To w) slot (slot, l, refl) e f u

  long_to_is : (g h : Gathered) (w : List ℕ) (o : Option ℕ) → look w ≡ o → aimed (λ z. operand.LongOffset z) n g o ≡ h → h.out ≡ false
      → h.unknown ≡ false → Added g h (LongTo w)
  long_to_is g h w None l e f u = aimed_none (λ z. operand.LongOffset z) g h (LongTo w) e u
  long_to_is g h w (Some slot) l e f u = aimed_some (λ z. operand.LongOffset z) g h (LongTo w) slot (slot, l, refl) e f u

  added_is : (g h : Gathered) (t : Taken) → added look n g t ≡ Some h → h.out ≡ false → h.unknown ≡ false → Added g h t
  added_is g h No e f u = absurd (cc e)
  added_is g h Out e f u = let j : having g.operands true g.unknown ≡ h = cc e in let k : true ≡ false = ap (λ (x : Gathered). x.out) j ∙ f in absurd (cc k)
  added_is g h (Is o) e f u =
      let j : having (g.operands ++ o ∷ []) g.out g.unknown ≡ h = cc e in
      record {
        o = o;
        stands = refl;
        operands = sym (ap (λ (x : Gathered). x.operands) j);
        in_range = ap (λ (x : Gathered). x.out) j ∙ f;
        known = ap (λ (x : Gathered). x.unknown) j ∙ u;
      }
  added_is g h (To w) e f u = let j : aimed (λ z. operand.Offset z) n g (look w) ≡ h = cc e in to_is g h w (look w) refl j f u
  added_is g h (LongTo w) e f u = let j : aimed (λ z. operand.LongOffset z) n g (look w) ≡ h = cc e in long_to_is g h w (look w) refl j f u

  -- operands that were read, with nothing wrong
  pub record Read (first : Bool) (g h : Gathered) (ss : List Sort) (ts : List Lexeme) : Type 0 where
    pub ws : List Written
    pub os : List AsmOperand
    pub tokens : ts ≡ from first ws
    pub stand : Stand look n ss ws os
    pub operands : h.operands ≡ g.operands ++ os
    pub in_range : g.out ≡ false
    pub known : g.unknown ≡ false

  pub step_is : (first : Bool) (g : Gathered) (s : Sort) (ts : List Lexeme) (x : Gathered × List Lexeme) → step look n first g s ts ≡ Some x
      → (w : Written) × (next_operand first ts ≡ Some (w, x.1)) × (added look n g (operand_taken s w) ≡ Some x.0)
  unfolding step
  step_is first g s ts x e =
      let a = and_then_some _ (next_operand first ts) x e in
      let b = and_then_some _ (added look n g (operand_taken s a.0.0)) x a.2 in
      let p : ◌≡◌ {A = Gathered × List Lexeme} (b.0, a.0.1) x = cc b.2 in (
        a.0.0,
        a.1 ∙ ap (λ (r : List Lexeme). Some (a.0.0, r)) (ap (λ (y : Gathered × List Lexeme). y.1) p),
        b.1 ∙ ap (λ (r : Gathered). Some r) (ap (λ (y : Gathered × List Lexeme). y.0) p),
      )

  pub gathered_is : (first : Bool) (g h : Gathered) (ss : List Sort) (ts : List Lexeme) → gather_operands look n first g ss ts ≡ Some h → h.out ≡ false
      → h.unknown ≡ false → Read first g h ss ts
  gathered_is first g h [] [] e f u =
      let j : g ≡ h = cc e in
      record {
        ws = [];
        os = [];
        tokens = sym (from_none first);
        stand = tt;
        operands = sym (ap (λ (x : Gathered). x.operands) j) ∙ sym (append-nil g.operands);
        in_range = ap (λ (x : Gathered). x.out) j ∙ f;
        known = ap (λ (x : Gathered). x.unknown) j ∙ u;
      }
  gathered_is first g h [] (t ∷ ts) e f u = absurd (cc e)
  gathered_is first g h (s ∷ ss) ts e f u =
      let a = and_then_some _ (step look n first g s ts) h e in
      let k = step_is first g s ts a.0 a.1 in
      let r = gathered_is false a.0.0 h ss a.0.1 a.2 f u in
      let d = added_is g a.0.0 (operand_taken s k.0) k.2 r.in_range r.known in
      record {
        ws = k.0 ∷ r.ws;
        os = d.o ∷ r.os;
        tokens = from_next first ts k.0 a.0.1 r.ws k.1 r.tokens;
        stand = (d.stands, r.stand);
        operands = r.operands ∙ ap (λ x. x ++ r.os) d.operands ∙ append_assoc g.operands (d.o ∷ []) r.os;
        in_range = d.in_range;
        known = d.known;
      }

  finished_is : (m : Mnemonic) (g : Gathered) (i : Instr) (o : Bool) → g.out ≡ o → said (finished m (Some g)) ≡ Ok (Some i)
      → (g.out ≡ false) × (g.unknown ≡ false) × (instr_of_parts m g.operands ≡ Some i)
  finished_is m g i true a e = absurd (let k : Err why.Range ≡ Ok (Some i) =
      sym (ap (λ t. said (cond t (Err why.Range) (judged g.unknown (instr_of_parts m g.operands)))) a) ∙ e in cc k)
  finished_is m g i false a e =
      let k = judged_is g.unknown (instr_of_parts m g.operands) i
      (sym (ap (λ t. said (cond t (Err why.Range) (judged g.unknown (instr_of_parts m g.operands)))) a) ∙ e) in
      (a, k.0, k.1)

  means_at : (ts rest : List Lexeme) (i : Instr) (m : Mnemonic) (og : Option Gathered) → ts ≡ head m ++ rest
      → gather_operands look n true nothing (sorts m) rest ≡ og → said (finished m og) ≡ Ok (Some i) → Means look n ts i
  means_at ts rest i m None e f h = absurd (cc h)
  means_at ts rest i m (Some g) e f h =
      let k = finished_is m g i g.out refl h in
      let b = built_is m g.operands i k.2 in
      let r = gathered_is true nothing g (sorts m) rest f k.0 k.1 in
      let q : r.os ≡ operands_of i = sym r.operands ∙ sym b.1 in (
        r.ws,
        e ∙ ap (λ x. head x ++ rest) (sym b.0) ∙ ap (λ x. head (mnemonic_of i) ++ x) r.tokens,
        subst (λ os. Stand look n (sorts (mnemonic_of i)) r.ws os) q (subst (λ x. Stand look n (sorts x) r.ws r.os) (sym b.0) r.stand),
      )

  means_named : (ts : List Lexeme) (i : Instr) (o : Option (Mnemonic × List Lexeme)) → mnemonic_at ts ≡ o
      → by_mnemonic look n o ≡ Ok (Some i) → Means look n ts i
  means_named ts i None e h = absurd (cc h)
  means_named ts i (Some x) e h = means_at ts x.1 i x.0 (gather_operands look n true nothing (sorts x.0) x.1) (mnemonic_found ts x.0 x.1 e) refl h

  -- what is read as an instruction means it
  pub says_means : (ts : List Lexeme) (i : Instr) → body look n ts ≡ Ok (Some i) → Means look n ts i
  says_means [] i h = absurd (cc h)
  says_means (t ∷ ts) i h = means_named (t ∷ ts) i (mnemonic_at (t ∷ ts)) refl h
