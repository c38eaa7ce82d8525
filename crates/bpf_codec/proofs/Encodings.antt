-- What the encodings say of one another and of faults, and what is read at a slot.
use Rattle.std.proofs.Common.{◌≡◌, ℕ, ◌+◌, ◌*◌, ◌/◌, ◌<◌, ◌^◌, true, false, List, [], ◌∷◌, ◌++◌, length, get_or, drop, Some, Result, Ok, Err, ◌==◌, refl, ap}
use Rattle.std.proofs.Common.{subst, sym, ◌∙◌, arith, append_assoc, append-nil, inl, inr, ◌⊎◌, ◌≤◌}
use Rattle.std.specs.Prelude.{IfOk, IfErr, All, nat_lt}
use Rattle.std.proofs.lemmas.Bool.Decides.{nat_tests}
use Rattle.std.proofs.lemmas.Bool.{cases_lt}
use Rattle.std.proofs.lemmas.List.{length-drop, get_or_past}
use Rattle.isa_table.specs.Words.{low_bytes}
use Rattle.isa_table.specs.Rows.{row_of}
use Rattle.isa_table.specs.declared.instr.Instr.{Instr}
use Rattle.isa_table.specs.declared.instr.Instr.TheVariants.{LoadImm64}
use Rattle.bpf_codec.specs.declared.layout.Field.{Field}
use Rattle.bpf_codec.specs.declared.layout.Field.TheVariants.{Wide}
use Rattle.bpf_codec.specs.declared.fault.Fault.{Fault}
use Rattle.bpf_codec.specs.declared.fault.Fault.TheVariants as fault
use Rattle.bpf_codec.specs.declared.slot.Slot.{Slot}
use Rattle.isa_table.specs.Slots.{slots}
use Rattle.bpf_codec.specs.Slots.{layout, first, fields, slot_bytes, second, encoding, FitsField, Fits, Begins, next_word, zeros_after, padded}
use Rattle.bpf_codec.specs.Slots.{NoneBeginsAnother, NoneShared}
use Rattle.bpf_codec.specs.Faults.{has_fault, IsLeastFault, BeginsWithSome, NoFaultWhereEncoded}
use Rattle.bpf_codec.specs.Decoding.{◌>>=◌, rows_of, row_for, checked, next_imm, operands, built, decoded_as, decoded, with_slots}
use Rattle.bpf_codec.proofs.Fields.{is_wide_imm, next_in}
use Rattle.bpf_codec.proofs.Rows.{placed, row_found}
use Rattle.bpf_codec.proofs.Built.{second_in, second_is, again}
use Rattle.bpf_codec.proofs.Bytes.{IsBytes, bytes_from, first_narrow, fields_again, slot_long, bytes_again_4, parts}
use Rattle.bpf_codec.proofs.Outcome.{Outcome, outcome}

-- ---- an encoding is read again

-- an imm field's second slot
next_again : (n : ℕ) (x : Field) (rest : List ℕ) → is_wide_imm x ≡ (n == 0x18) → FitsField x → next_imm n (second_in x ++ rest) ≡ Ok (next_in x)
unfolding next_imm
next_again n (Wide v) rest w f =
    let long : nat_lt (length ((0 ∷ 0 ∷ 0 ∷ 0 ∷ low_bytes 4 (v / 2 ^ 32)) ++ rest)) 8 ≡ false = grind (arith, nat_tests) in
    rw (sym w, long, bytes_again_4 (v / 2 ^ 32) (omega arith)) refl
next_again n _ rest w f = rw (sym w) refl

by_found_row : (rows : List Instr) (xs : List ℕ) (r : Instr) → row_for (fields xs) rows ≡ Some r
    → decoded_as rows xs ≡ (next_imm (fields xs).opcode (drop 8 xs) >>= λ n. Ok (built r (operands (fields xs) n)))
unfolding checked
by_found_row [] xs r e = absurd (cc)
by_found_row (i ∷ is) xs r e = rw e refl

by_slot : (xs tail : List ℕ) (f : Slot) (r : Instr) (n : ℕ) → nat_lt (length xs) 8 ≡ false → fields xs ≡ f → drop 8 xs ≡ tail
    → row_for f (rows_of f.opcode) ≡ Some r → next_imm f.opcode tail ≡ Ok n → decoded xs ≡ Ok (built r (operands f n))
unfolding decoded
by_slot xs tail f r n l e d w m =
    let g : row_for (fields xs) (rows_of (fields xs).opcode) ≡ Some r = subst (λ (s : Slot). row_for s (rows_of s.opcode) ≡ Some r) (sym e) w in
    let k : next_imm (fields xs).opcode (drop 8 xs) ≡ Ok n =
    subst (λ (s : Slot). next_imm s.opcode (drop 8 xs) ≡ Ok n) (sym e) (subst (λ (t : List ℕ). next_imm f.opcode t ≡ Ok n) (sym d) m) in
    rw l (by_found_row (rows_of (fields xs).opcode) xs r g ∙ ap (λ (q : Result ℕ Fault). q >>= λ v. Ok (built r (operands (fields xs) v))) k
    ∙ ap (λ (s : Slot). Ok (built r (operands s n))) e)

pub decoded_again : (i : Instr) (xs : List ℕ) → Fits i → Begins xs i → decoded xs ≡ Ok i
decoded_again i xs h b =
    let p = placed i in
    let e = parts i xs b in
    let l : nat_lt (length xs) 8 ≡ false = subst (λ (ys : List ℕ). nat_lt (length ys) 8 ≡ false) (sym e) (slot_long (first i) (second i ++ b.0)) in
    let s = second_is i in
    let n : next_imm (first i).opcode (second i ++ b.0) ≡ Ok (next_word i) =
    subst (λ (t : List ℕ). next_imm (first i).opcode (t ++ b.0) ≡ Ok (next_word i)) (sym s.0) (next_again (first i).opcode (layout i).imm b.0 p.wide h.1
    ∙ ap Ok (sym s.1)) in
    by_slot xs (second i ++ b.0) (first i) (row_of i) (next_word i) l (ap fields e
    ∙ fields_again (first i) (second i ++ b.0) (first_narrow i p)) (ap (drop 8) e) (row_found i) n
    ∙ ap Ok (again i h)

-- ---- laws

least_stands : (xs : List ℕ) (f : Fault) → IsLeastFault f xs → has_fault f xs ≡ false → ⊥
unfolding IsLeastFault
least_stands xs f h n = let k : has_fault f xs ≡ true = h.0 in cc

pub none_begins_another : NoneBeginsAnother
none_begins_another i j rest fi fj e =
    let a : decoded (encoding i ++ rest) ≡ Ok i = decoded_again i (encoding i ++ rest) fi (rest, refl) in
    let b : decoded (encoding j) ≡ Ok j = decoded_again j (encoding j) fj ([], sym (append-nil (encoding j))) in
    let k : decoded (encoding i ++ rest) ≡ decoded (encoding j) = ap decoded e in
    cc

pub none_shared : NoneShared
none_shared i j fi fj e = none_begins_another i j [] fi fj (append-nil (encoding i) ∙ e)

all_bytes : (xs : List ℕ) → All (λ b. b < 256) xs → IsBytes xs
all_bytes xs h k = go (cases_lt k (length xs))
  where
    go : (k < length xs) ⊎ (length xs ≤ k) → get_or xs k 0 < 256
    go (inl l) = h k 0 l
    go (inr g) = rw (get_or_past xs k 0 g) (omega arith)

pub no_fault_where_encoded : NoFaultWhereEncoded
no_fault_where_encoded xs bytes = (from (decoded xs) refl, λ w. to w.0 w.1 w.2)
  where
    from : (r : Result Instr Fault) → decoded xs ≡ r → ((f : Fault) → has_fault f xs ≡ false) → BeginsWithSome xs
    from (Ok i) e n = let o : Outcome xs (Ok i) = subst (Outcome xs) e (outcome xs (all_bytes xs bytes)) in (i, o.1, o.2)
    from (Err f) e n = let o : Outcome xs (Err f) = subst (Outcome xs) e (outcome xs (all_bytes xs bytes)) in absurd (least_stands xs f o (n f))

    to : (i : Instr) → Fits i → Begins xs i → (f : Fault) → has_fault f xs ≡ false
    to i h b = let o : Outcome xs (Ok i) = subst (Outcome xs) (decoded_again i xs h b) (outcome xs (all_bytes xs bytes)) in o.0

-- ---- what is read at a slot

pub past_the_end : (xs : List ℕ) (n : ℕ) → length xs / 8 < n → with_slots (decoded (drop (8 * n) xs)) ≡ Err fault.Short
unfolding decoded
past_the_end xs n h =
    let short : length (drop (8 * n) xs) < 8 = omega (arith, length-drop (8 * n) xs, h) in
    let e : nat_lt (length (drop (8 * n) xs)) 8 ≡ true = grind (arith, nat_tests, short) in
    rw e refl

pair : Instr → ℕ → Instr × ℕ
pair i n = (i, n)

pub found_at : (xs : List ℕ) (n : ℕ) (r : Result (Instr × ℕ) Fault) → IsBytes xs → r ≡ with_slots (decoded (drop n xs))
    → IfOk r (λ x. Fits x.0 × Begins (drop n xs) x.0 × (x.1 ≡ slots x.0))
unfolding pair
found_at xs n (Err e) b h = tt
found_at xs n (Ok x) b h = go (decoded (drop n xs)) (outcome (drop n xs) (bytes_from xs n b)) h
  where
    go : (d : Result Instr Fault) → Outcome (drop n xs) d → Ok x ≡ with_slots d → Fits x.0 × Begins (drop n xs) x.0 × (x.1 ≡ slots x.0)
    go (Ok i) o e = let same : pair i (slots i) ≡ x = cc in
        subst (λ (y : Instr × ℕ). Fits y.0 × Begins (drop n xs) y.0 × (y.1 ≡ slots y.0)) same (o.1, o.2, refl)
    go (Err f) o e = absurd (cc)

pub only_at : (xs : List ℕ) (r : Result (Instr × ℕ) Fault) → r ≡ with_slots (decoded xs) → (i : Instr) → Fits i → Begins xs i → r ≡ Ok (i, slots i)
only_at xs r h i fits begins = h ∙ rw (decoded_again i xs fits begins) refl

pub fault_at : (xs : List ℕ) (n : ℕ) (r : Result (Instr × ℕ) Fault) → IsBytes xs → r ≡ with_slots (decoded (drop n xs))
    → IfErr r (λ e. IsLeastFault e (drop n xs))
fault_at xs n (Ok x) b h = tt
fault_at xs n (Err e) b h = go (decoded (drop n xs)) (outcome (drop n xs) (bytes_from xs n b)) h
  where
    go : (d : Result Instr Fault) → Outcome (drop n xs) d → Err e ≡ with_slots d → IsLeastFault e (drop n xs)
    go (Ok i) o k = absurd (cc)
    go (Err f) o k = let same : f ≡ e = cc in subst (λ (g : Fault). IsLeastFault g (drop n xs)) same o

-- ---- what is written

pub tail_is : (i : Instr) → 0 ∷ 0 ∷ 0 ∷ 0 ∷ low_bytes 4 (next_word i) ≡ second i ++ zeros_after i
tail_is (LoadImm64 d v) = refl
tail_is _ = refl

pub padded_is : (i : Instr) → slot_bytes (first i) ++ (0 ∷ 0 ∷ 0 ∷ 0 ∷ low_bytes 4 (next_word i)) ≡ padded i
padded_is i = ap (λ (t : List ℕ). slot_bytes (first i) ++ t) (tail_is i) ∙ sym (append_assoc (slot_bytes (first i)) (second i) (zeros_after i))

-- the registers' byte is one
pub registers_fit : (i : Instr) → (first i).dst + 16 * (first i).src < 256
registers_fit i = let n = first_narrow i (placed i) in omega (arith, n.dst, n.src)
