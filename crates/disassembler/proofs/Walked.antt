-- A program is read instruction by instruction.
use Rattle.std.proofs.Common.{◌≡◌, ℕ, ◌+◌, ◌≤◌, Bool, true, false, inl, inr, List, [], ◌∷◌, ◌++◌, length, refl, sym, ap, ◌∙◌, subst, arith, append_assoc}
use Rattle.std.proofs.Common.{append-nil}
use Rattle.isa_table.specs.declared.instr.Instr.{Instr}
use Rattle.isa_table.specs.Slots.{slots}
use Rattle.loader.specs.Instructions.{slot_count, StandsIn}
use Rattle.loader.specs.ValidCode.{IsCode, ValidCode, IsAt, IsRowAt}
use Rattle.loader.proofs.Positions.{one_code, slots_positive, length_encodings}
use Rattle.asm_table.specs.Canonical.{line_text, text_of}
use Rattle.disassembler.specs.TextOf.{HasLines, IsShownAs, IsTextOf, lines_from, shown_line}

-- ---- where instructions stand

stands_from : (is : List Instr) (from n : ℕ) (j : Instr) → StandsIn is from n j → from ≤ n
stands_from [] from n j h = absurd h
stands_from (i ∷ is) from n j (inl h) = omega (arith, h.0)
stands_from (i ∷ is) from n j (inr h) = let k = stands_from is (from + slots i) n j h in omega (arith, k)

stands_past : (is : List Instr) (i j : Instr) (from : ℕ) → StandsIn is (from + slots i) from j → ⊥
stands_past is i j from h =
    let k = stands_from is (from + slots i) from j h in
    let p = slots_positive i in
    omega (arith, k, p)

-- the instruction that stands where a list begins is its first
first_stands : (left : List Instr) (from : ℕ) (i : Instr) → StandsIn left from from i → (rest : List Instr) × (left ≡ i ∷ rest)
first_stands [] from i h = absurd h
first_stands (j ∷ js) from i (inl h) = (js, ap (λ x. x ∷ js) (sym h.1))
first_stands (j ∷ js) from i (inr h) = absurd (stands_past js j i from h)

-- and so after others
next_stands : (done left : List Instr) (from n : ℕ) (i : Instr) → n ≡ from + slot_count done → StandsIn (done ++ left) from n i
    → (rest : List Instr) × (left ≡ i ∷ rest)
next_stands [] left from n i e h = first_stands left from i (subst (λ k. StandsIn left from k i) (let f : n ≡ from = omega (arith, e) in f) h)
next_stands (d ∷ ds) left from n i e (inl h) = let p = slots_positive d in absurd (omega (arith, e, h.0, p))
next_stands (d ∷ ds) left from n i e (inr h) = next_stands ds left (from + slots d) n i (omega (arith, e)) h

stands_there : (done rest : List Instr) (from n : ℕ) (i : Instr) → n ≡ from + slot_count done → StandsIn (done ++ i ∷ rest) from n i
stands_there [] rest from n i e = inl (omega (arith, e), refl)
stands_there (d ∷ ds) rest from n i e = inr (stands_there ds rest (from + slots d) n i (omega (arith, e)))

count_more : (done : List Instr) (i : Instr) (rest : List Instr) → slot_count (done ++ i ∷ rest) ≡ slot_count done + slots i + slot_count rest
count_more [] i rest = let e : slot_count (i ∷ rest) ≡ slots i + slot_count rest = refl in omega (arith, e)
count_more (d ∷ ds) i rest =
    let k = count_more ds i rest in
    let e : slot_count (d ∷ (ds ++ i ∷ rest)) ≡ slots d + slot_count (ds ++ i ∷ rest) = refl in
    let f : slot_count (d ∷ ds) ≡ slots d + slot_count ds = refl in
    omega (arith, k, e, f)

-- without slots the lines in the canonical spelling are the text
plain_lines : (from : ℕ) (code : List Instr) → lines_from line_text false from code ≡ text_of code
plain_lines from [] = refl
plain_lines from (i ∷ is) = ap (λ l. (line_text i ++ 10 ∷ []) ++ l) (plain_lines (from + slots i) is) ∙ append_assoc (line_text i) (10 ∷ []) (text_of is)

pub plain_text : (bytes text : List ℕ) → HasLines line_text false bytes text → IsTextOf bytes text
plain_text bytes text s = (s.0, s.1, s.2 ∙ plain_lines 0 s.0)

pub shown : (has_slots : Bool) (bytes text : List ℕ) → HasLines line_text has_slots bytes text → IsShownAs has_slots bytes text
shown false bytes text s = plain_text bytes text s
shown true bytes text s = s

-- ---- the walk

short : (bytes : List ℕ) (code : List Instr) → IsCode bytes code → slot_count code ≤ 4096
short bytes code c =
    let e = ap length c.encoded ∙ length_encodings code in
    omega (arith, e, c.short)

module _ (spelled : Instr → List ℕ) (has_slots : Bool) where
  lines_more : (from slot : ℕ) (done : List Instr) (i : Instr) → slot ≡ from + slot_count done
      → lines_from spelled has_slots from (done ++ i ∷ []) ≡ lines_from spelled has_slots from done ++ shown_line spelled has_slots slot i
  lines_more from slot [] i e = append-nil _ ∙ ap (λ n. shown_line spelled has_slots n i) (let f : from ≡ slot = omega (arith, e) in f)
  lines_more from slot (d ∷ ds) i e =
      let k : slot_count (d ∷ ds) ≡ slots d + slot_count ds = refl in
      ap (λ l. shown_line spelled has_slots from d ++ l) (lines_more (from + slots d) slot ds i (omega (arith, e, k)))
      ∙ sym (append_assoc (shown_line spelled has_slots from d) (lines_from spelled has_slots (from + slots d) ds) (shown_line spelled has_slots slot i))

  -- The code up to this slot is written.
  pub record Walked (bytes : List ℕ) (slot : ℕ) (text : List ℕ) : Type 0 where
    pub done : List Instr
    pub left : List Instr
    pub is_code : IsCode bytes (done ++ left)
    pub place : slot ≡ slot_count done
    pub written : text ≡ lines_from spelled has_slots 0 done

  pub none_walked : (bytes : List ℕ) → ValidCode bytes → Walked bytes 0 []
  none_walked bytes v = record { done = []; left = v.0; is_code = v.1; place = refl; written = refl }

  pub record Next (bytes : List ℕ) (slot : ℕ) (text : List ℕ) (i : Instr) : Type 0 where
    pub walked : Walked bytes (slot + slots i) (text ++ shown_line spelled has_slots slot i)
    pub bound : slot + slots i ≤ 4096

  next_at : (bytes : List ℕ) (slot : ℕ) (text : List ℕ) (i : Instr) (w : Walked bytes slot text) (rest : List Instr)
      → w.left ≡ i ∷ rest → Next bytes slot text i
  next_at bytes slot text i w rest e =
      let c : IsCode bytes (w.done ++ i ∷ rest) = subst (λ l. IsCode bytes (w.done ++ l)) e w.is_code in
      let n = count_more w.done i rest in
      let one = count_more w.done i [] in
      let s = short bytes (w.done ++ i ∷ rest) c in
      record {
        walked = record {
          done = w.done ++ i ∷ [];
          left = rest;
          is_code = subst (λ l. IsCode bytes l) (sym (append_assoc w.done (i ∷ []) rest)) c;
          place = omega (arith, one, w.place);
          written = ap (λ t. t ++ shown_line spelled has_slots slot i) w.written ∙ sym (lines_more 0 slot w.done i (omega (arith, w.place)));
        };
        bound = omega (arith, n, s, w.place);
      }

  pub next_walked : (bytes : List ℕ) (slot : ℕ) (text : List ℕ) (i : Instr) → Walked bytes slot text → IsRowAt bytes slot i → Next bytes slot text i
  next_walked bytes slot text i w r =
      let same : r.code ≡ w.done ++ w.left = one_code bytes r.code (w.done ++ w.left) r.is_code w.is_code in
      let n = next_stands w.done w.left 0 slot i (omega (arith, w.place)) (subst (λ l. StandsIn l 0 slot i) same r.stands) in
      next_at bytes slot text i w n.0 n.1

  all_at : (bytes : List ℕ) (slot : ℕ) (text : List ℕ) (done left : List Instr) → IsCode bytes (done ++ left) → slot ≡ slot_count done
      → text ≡ lines_from spelled has_slots 0 done → (IsAt bytes slot → ⊥) → HasLines spelled has_slots bytes text
  all_at bytes slot text done [] c s t h = (done, subst (λ l. IsCode bytes l) (append-nil done) c, t)
  all_at bytes slot text done (i ∷ rest) c s t h = absurd (h (done ++ i ∷ rest, c, (i, stands_there done rest 0 slot i (omega (arith, s)))))

  pub all_walked : (bytes : List ℕ) (slot : ℕ) (text : List ℕ) → Walked bytes slot text → (IsAt bytes slot → ⊥) → HasLines spelled has_slots bytes text
  all_walked bytes slot text w h = all_at bytes slot text w.done w.left w.is_code w.place w.written h
