-- What is read is what the tokens mean.
use Rattle.std.proofs.Common.{◌≡◌, ◌^◌, inl, inr, ℕ, Bool, true, false, List, [], ◌∷◌, ◌++◌, refl, sym, ap, ◌∙◌, append_assoc, append-nil, codes, Option, Some}
use Rattle.std.proofs.Common.{None, option_and_then, Ok}
use Rattle.asm_text.specs.Tokens.{Lexeme}
use Rattle.asm_text.specs.Tokens.Lexeme.{Name, Number, Comma, Open, Close, Plus, Minus}
use Rattle.isa_table.specs.declared.instr.Instr.{Instr}
use Rattle.asm_table.specs.declared.mnemonic.Mnemonic.{Mnemonic}
use Rattle.asm_table.specs.declared.mnemonic.Mnemonic.TheVariants as mnemonic
use Rattle.asm_table.specs.declared.mnemonic.Sort.{Sort}
use Rattle.asm_table.specs.declared.mnemonic.Sort.TheVariants as sort
use Rattle.asm_table.specs.declared.operands.AsmOperand.{AsmOperand}
use Rattle.asm_table.specs.declared.operands.AsmOperand.TheVariants as operand
use Rattle.asm_table.specs.Mnemonics.{name, sorts, slots_of}
use Rattle.asm_table.specs.Names.{has_two_words}
use Rattle.asm_table.specs.Parts.{mnemonic_of, operands_of}
use Rattle.asm_table.proofs.Each.{built_again, named_name}
use Rattle.asm_grammar.specs.declared.written.Sign.{Sign}
use Rattle.asm_grammar.specs.declared.written.Sign.TheVariants as sign
use Rattle.asm_grammar.specs.Writing.{Written, lexemes_of, sign_token, joined, more, operand_at, signed_at, memory_at, base_at, offset_at, close_at}
use Rattle.asm_grammar.specs.Writing.Written.{Word, Bare, Signed, Memory, MemoryAt}
use Rattle.asm_grammar.specs.Sorts.{Taken, operand_taken, counted, fitting}
use Rattle.asm_grammar.specs.Sorts.Taken.{No, Out, Is, To, LongTo}
use Rattle.asm_grammar.specs.Grammar.{Look, StandsFor, Stand, Means, head, AimsNowhere, OneAimsNowhere}
use Rattle.asm_grammar.specs.Reading.{Gathered, nothing, gather_operands, added, aimed, after_call, headed, mnemonic_at, finished, judged, said, body}
use Rattle.asm_grammar.specs.Reading.{by_mnemonic, mnemonic_slots, body_slots}
use Rattle.asm_grammar.proofs.Gathers.{step_some}

-- ---- one operand, both ways

pub operand_again : (w : Written) (rest : List Lexeme) → operand_at (lexemes_of w ++ rest) ≡ Some (w, rest)
operand_again (Word w) rest = refl
operand_again (Bare n) rest = refl
operand_again (Signed sign.Plus n) rest = refl
operand_again (Signed sign.Minus n) rest = refl
operand_again (Memory w) rest = refl
operand_again (MemoryAt w sign.Plus n) rest = refl
operand_again (MemoryAt w sign.Minus n) rest = refl

pub same_pair : {A B : Type 0} (a c : A) (b d : B) → ◌≡◌ {A = Option (A × B)} (Some (a, b)) (Some (c, d)) → (a ≡ c) × (b ≡ d)
same_pair {A} {B} a c b d e = let k : ◌≡◌ {A = A × B} (a, b) (c, d) = cc e in (ap (λ (x : A × B). x.0) k, ap (λ (x : A × B). x.1) k)

-- what was read, in the place of what was found
put : (v w : Written) (ts rest : List Lexeme) → ◌≡◌ {A = Option (Written × List Lexeme)} (Some (v, ts)) (Some (w, rest))
    → lexemes_of v ++ ts ≡ lexemes_of w ++ rest
put v w ts rest e = let k = same_pair v w ts rest e in ap (λ x. lexemes_of v ++ x) k.1 ∙ ap (λ x. lexemes_of x ++ rest) k.0

signed_found : (s : Sign) (ts : List Lexeme) (w : Written) (rest : List Lexeme) → signed_at s ts ≡ Some (w, rest) → sign_token s ∷ ts ≡ lexemes_of w ++ rest
signed_found s (Number n ∷ ts) w rest e = put (Signed s n) w ts rest e
signed_found s _ w rest e = absurd (cc e)

close_found : (v : Written) (front ts : List Lexeme) (w : Written) (rest : List Lexeme) → ((xs : List Lexeme) → front ++ Close ∷ xs ≡ lexemes_of v ++ xs)
    → close_at v ts ≡ Some (w, rest) → front ++ ts ≡ lexemes_of w ++ rest
close_found v front (Close ∷ ts) w rest h e = h ts ∙ put v w ts rest e
close_found v front _ w rest h e = absurd (cc e)

offset_found : (name : List ℕ) (s : Sign) (ts : List Lexeme) (w : Written) (rest : List Lexeme) → offset_at name s ts ≡ Some (w, rest)
    → Open ∷ Name name ∷ sign_token s ∷ ts ≡ lexemes_of w ++ rest
offset_found name s (Number n ∷ ts) w rest e = close_found (MemoryAt name s n) (Open ∷ Name name ∷ sign_token s ∷ Number n ∷ []) ts w rest (λ xs. refl) e
offset_found name s _ w rest e = absurd (cc e)

base_found : (name : List ℕ) (ts : List Lexeme) (w : Written) (rest : List Lexeme) → base_at name ts ≡ Some (w, rest)
    → Open ∷ Name name ∷ ts ≡ lexemes_of w ++ rest
base_found name (Close ∷ ts) w rest e = put (Memory name) w ts rest e
base_found name (Plus ∷ ts) w rest e = offset_found name sign.Plus ts w rest e
base_found name (Minus ∷ ts) w rest e = offset_found name sign.Minus ts w rest e
base_found name _ w rest e = absurd (cc e)

memory_found : (ts : List Lexeme) (w : Written) (rest : List Lexeme) → memory_at ts ≡ Some (w, rest) → Open ∷ ts ≡ lexemes_of w ++ rest
memory_found (Name name ∷ ts) w rest e = base_found name ts w rest e
memory_found _ w rest e = absurd (cc e)

pub operand_found : (ts : List Lexeme) (w : Written) (rest : List Lexeme) → operand_at ts ≡ Some (w, rest) → ts ≡ lexemes_of w ++ rest
operand_found (Name name ∷ ts) w rest e = put (Word name) w ts rest e
operand_found (Number n ∷ ts) w rest e = put (Bare n) w ts rest e
operand_found (Plus ∷ ts) w rest e = signed_found sign.Plus ts w rest e
operand_found (Minus ∷ ts) w rest e = signed_found sign.Minus ts w rest e
operand_found (Open ∷ ts) w rest e = memory_found ts w rest e
operand_found _ w rest e = absurd (cc e)

-- ---- the mnemonic at the front, both ways

is_helper : Mnemonic → Bool
is_helper mnemonic.CallHelper = true
is_helper _ = false

-- the tokens don't begin with a name
NoName : List Lexeme → Type 0
NoName (Name w ∷ ts) = ⊥
NoName ts = Unit {0}

called_none : (ts : List Lexeme) → NoName ts → after_call ts ≡ (mnemonic.CallHelper, ts)
unfolding NoName
called_none (Name w ∷ ts) h = absurd h
called_none _ h = refl

headed_other : (m : Mnemonic) (ts : List Lexeme) → is_helper m ≡ false → headed (Some m) ts ≡ Some (m, ts)
unfolding is_helper
headed_other mnemonic.CallHelper ts h = absurd (cc h)
headed_other _ ts h = refl

pub head_one : (m : Mnemonic) → has_two_words m ≡ false → head m ≡ Name (name m) ∷ []
head_one mnemonic.CallLocal h = absurd (cc h)
head_one _ h = refl

headed_named : (m : Mnemonic) (ts : List Lexeme) → has_two_words m ≡ false → (is_helper m ≡ true → NoName ts) → (b : Bool) → is_helper m ≡ b
    → headed (Some m) ts ≡ Some (m, ts)
unfolding is_helper
headed_named mnemonic.CallHelper ts l h b e = ap (λ (x : Mnemonic × List Lexeme). Some x) (called_none ts (h refl))
headed_named m ts l h false e = headed_other m ts e
headed_named m ts l h true e = absurd (cc e)

mnemonic_named : (m : Mnemonic) (ts : List Lexeme) → has_two_words m ≡ false → (is_helper m ≡ true → NoName ts) → mnemonic_at (head m ++ ts) ≡ Some (m, ts)
mnemonic_named m ts l h =
    ap (λ x. mnemonic_at (x ++ ts)) (head_one m l) ∙ ap (λ o. headed o ts) (named_name m l) ∙ headed_named m ts l h (is_helper m) refl

mnemonic_again_at : (m : Mnemonic) (ts : List Lexeme) (b : Bool) → has_two_words m ≡ b → (is_helper m ≡ true → NoName ts)
    → mnemonic_at (head m ++ ts) ≡ Some (m, ts)
mnemonic_again_at mnemonic.CallLocal ts b e h = ap (λ o. headed o (Name (codes "local") ∷ ts)) (named_name mnemonic.CallHelper refl)
mnemonic_again_at m ts false e h = mnemonic_named m ts e h
mnemonic_again_at m ts true e h = absurd (cc e)

mnemonic_again : (m : Mnemonic) (ts : List Lexeme) → (is_helper m ≡ true → NoName ts) → mnemonic_at (head m ++ ts) ≡ Some (m, ts)
mnemonic_again m ts h = mnemonic_again_at m ts (has_two_words m) refl h

-- ---- all operands, both ways

abbrev pub having : List AsmOperand → Bool → Bool → Gathered
having os out unknown = record { operands = os; out = out; unknown = unknown }

module _ (look : Look) (n : ℕ) where
  added_stands : (g : Gathered) (t : Taken) (o : AsmOperand) → StandsFor look n t o → added look n g t ≡ Some (having (g.operands ++ o ∷ []) g.out g.unknown)
  added_stands g No o h = absurd h
  added_stands g Out o h = absurd h
  added_stands g (Is p) o h = ap (λ x. Some (having (g.operands ++ x ∷ []) g.out g.unknown)) h
  added_stands g (To w) o h = ap (λ x. Some (aimed (λ z. operand.Offset z) n g x)) h.1 ∙ ap (λ x. Some (having (g.operands ++ x ∷ []) g.out g.unknown)) h.2
  added_stands g (LongTo w) o h = ap (λ x. Some (aimed (λ z. operand.LongOffset z) n g x)) h.1
      ∙ ap (λ x. Some (having (g.operands ++ x ∷ []) g.out g.unknown)) h.2

  regrouped : (g : Gathered) (o : AsmOperand) (os : List AsmOperand)
      → Some (having ((g.operands ++ o ∷ []) ++ os) g.out g.unknown) ≡ Some (having (g.operands ++ (o ∷ os)) g.out g.unknown)
  regrouped g o os = ap (λ x. Some (having (x) g.out g.unknown)) (append_assoc g.operands (o ∷ []) os)

  more_stand : (g : Gathered) (ss : List Sort) (ws : List Written) (os : List AsmOperand) → Stand look n ss ws os
      → gather_operands look n false g ss (more ws) ≡ Some (having (g.operands ++ os) g.out g.unknown)
  more_stand g [] [] [] h = ap (λ x. Some (having (x) g.out g.unknown)) (sym (append-nil g.operands))
  more_stand g (s ∷ ss) (w ∷ ws) (o ∷ os) h =
      let g2 = having (g.operands ++ o ∷ []) g.out g.unknown in
      ap (option_and_then (λ (x : Gathered × List Lexeme). gather_operands look n false x.0 ss x.1))
      (step_some look n false g g2 s w (Comma ∷ (lexemes_of w ++ more ws)) (more ws) (operand_again w (more ws)) (added_stands g (operand_taken s w) o h.0))
      ∙ more_stand g2 ss ws os h.1 ∙ regrouped g o os
  more_stand g _ _ _ h = absurd h

  pub joined_stand : (ss : List Sort) (ws : List Written) (os : List AsmOperand) → Stand look n ss ws os
      → gather_operands look n true nothing ss (joined ws) ≡ Some (having (os) false false)
  joined_stand [] [] [] h = refl
  joined_stand (s ∷ ss) (w ∷ ws) (o ∷ os) h =
      let g2 = having (o ∷ []) false false in
      ap (option_and_then (λ (x : Gathered × List Lexeme). gather_operands look n false x.0 ss x.1))
      (step_some look n true nothing g2 s w (lexemes_of w ++ more ws) (more ws) (operand_again w (more ws)) (added_stands nothing (operand_taken s w) o h.0))
      ∙ more_stand g2 ss ws os h.1
  joined_stand _ _ _ h = absurd h

  -- the operands of a helper call begin with no name
  number_first : (ws : List Written) (os : List AsmOperand) → Stand look n (sort.Imm ∷ []) ws os → NoName (joined ws)
  unfolding NoName
  number_first [] os h = absurd h
  number_first (Word w ∷ ws) [] h = absurd h
  number_first (Word w ∷ ws) (o ∷ os) h = absurd h.0
  number_first (Bare k ∷ ws) os h = tt
  number_first (Signed sign.Plus k ∷ ws) os h = tt
  number_first (Signed sign.Minus k ∷ ws) os h = tt
  number_first (Memory w ∷ ws) os h = tt
  number_first (MemoryAt w s k ∷ ws) os h = tt

  helper_first : (m : Mnemonic) (ws : List Written) (os : List AsmOperand) → Stand look n (sorts m) ws os → is_helper m ≡ true → NoName (joined ws)
  unfolding is_helper
  helper_first mnemonic.CallHelper ws os h e = number_first ws os h
  helper_first _ ws os h e = absurd (cc e)

  -- the mnemonic of an instruction that is meant is at the front
  means_mnemonic : (ts : List Lexeme) (i : Instr) (h : Means look n ts i) → mnemonic_at ts ≡ Some (mnemonic_of i, joined h.0)
  means_mnemonic ts i h = ap mnemonic_at h.1 ∙ mnemonic_again (mnemonic_of i) (joined h.0) (helper_first (mnemonic_of i) h.0 (operands_of i) h.2)

  pub means_slots : (ts : List Lexeme) (i : Instr) → Means look n ts i → body_slots ts ≡ slots_of (mnemonic_of i)
  means_slots ts i h = ap mnemonic_slots (means_mnemonic ts i h)

  body_named : (ts : List Lexeme) (x : Mnemonic × List Lexeme) → mnemonic_at ts ≡ Some x → body look n ts ≡ by_mnemonic look n (Some x)
  body_named [] x e = absurd (cc e)
  body_named (t ∷ ts) x e = ap (by_mnemonic look n) e

  -- what means an instruction is read as it
  pub means_says : (ts : List Lexeme) (i : Instr) → Means look n ts i → body look n ts ≡ Ok (Some i)
  means_says ts i h =
      let m = mnemonic_of i in
      body_named ts (m, joined h.0) (means_mnemonic ts i h)
      ∙ ap (λ g. said (finished m g)) (joined_stand (sorts m) h.0 (operands_of i) h.2)
      ∙ ap (λ o. said (judged false o)) (built_again i)

  -- ---- a label that stands nowhere isn't the operand of a helper call

  no_aim : {A : Type 0} (f : A → AsmOperand) (x : Option A) → AimsNowhere look (counted f x) → ⊥
  no_aim f None h = h
  no_aim f (Some a) h = h

  number_aims : (w : Written) → AimsNowhere look (operand_taken sort.Imm w) → ⊥
  number_aims (Bare k) h = no_aim (λ z. operand.Imm z) (fitting (2 ^ 31) sign.Plus k) h
  number_aims (Signed s k) h = no_aim (λ z. operand.Imm z) (fitting (2 ^ 31) s k) h
  number_aims (Word w) h = h
  number_aims (Memory w) h = h
  number_aims (MemoryAt w s k) h = h

  number_aimless : (ws : List Written) → OneAimsNowhere look (sort.Imm ∷ []) ws → ⊥
  number_aimless [] h = h
  number_aimless (w ∷ ws) (inl h) = number_aims w h
  number_aimless (w ∷ ws) (inr h) = h

  helper_aimless : (m : Mnemonic) (ws : List Written) → OneAimsNowhere look (sorts m) ws → is_helper m ≡ true → NoName (joined ws)
  unfolding is_helper
  helper_aimless mnemonic.CallHelper ws h e = absurd (number_aimless ws h)
  helper_aimless _ ws h e = absurd (cc e)

  -- what uses a label that stands nowhere is read by its mnemonic
  pub used_body : (ts : List Lexeme) (m : Mnemonic) (ws : List Written) → ts ≡ head m ++ joined ws → OneAimsNowhere look (sorts m) ws
      → body look n ts ≡ said (finished m (gather_operands look n true nothing (sorts m) (joined ws)))
  used_body ts m ws e h = body_named ts (m, joined ws) (ap mnemonic_at e ∙ mnemonic_again m (joined ws) (helper_aimless m ws h))
