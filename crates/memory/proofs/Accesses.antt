-- What accesses leave alone.
use Rattle.std.proofs.Common.{◌≡◌, ◌≢◌, ℕ, ◌+◌, ◌-◌, ◌*◌, ◌/◌, ◌%◌, ◌^◌, ◌<◌, ◌≤◌, zero, suc, true, false, nat_lt, IsTrue, List, [], ◌∷◌, ◌++◌, length, take}
use Rattle.std.proofs.Common.{drop, get_or, set, Option, Some, None, refl, sym, ap, ◌∙◌, arith}
use Rattle.std.specs.Prelude.{is_some, ◌==◌, if◌then◌else◌}
use Rattle.std.specs.Int.{byte_at, bytes_low_first}
use Rattle.std.proofs.lemmas.List.{get_or-set_other, get_or-take, get_or-drop, get_or_append_left, get_or-append_right, length-take-le, set-get_or}
use Rattle.std.proofs.lemmas.Bool.Decides.{nat_tests}
use Rattle.std.proofs.Math.Arith.{mod-mul}
use Rattle.std.proofs.Math.Nat.{div-div-eq-div-mul, div-one, one-le-pow, pow-suc}
use Rattle.std.proofs.Math.Seq.{take-append_seam, drop-append_seam}
use Rattle.byteorder.specs.Numbers.{length-bytes_low_first}
use Rattle.isa_table.specs.declared.instr.Size.{Size}
use Rattle.isa_table.specs.declared.instr.Size.TheVariants.{Byte, Half, Word, Double}
use Rattle.isa_table.specs.declared.instr.Width.{Width}
use Rattle.isa_table.specs.declared.instr.AtomicOp.TheVariants.{CompareExchange}
use Rattle.isa_table.specs.Words.{unsigned, number_of, low_bytes}
use Rattle.isa_table.specs.Table.{size_bytes, width_bits}
use Rattle.memory.specs.declared.access.Op.{Op}
use Rattle.memory.specs.declared.access.Action.{Action}
use Rattle.memory.specs.declared.access.Action.TheVariants.{Load, Store, Atomic}
use Rattle.memory.specs.declared.access.Reach.TheVariants.{Done, Away, Busy, Outside, Worn}
use Rattle.memory.specs.Access.{IsInside, writes, size_of, count_of, old_number, number_put, action_answer, answer, replaced, with_number, after}
use Rattle.memory.specs.Objects.{bytes_of, with_bytes}
use Rattle.memory.specs.Laws as laws
use Rattle.memory.proofs.Lengths.{length-after, length-set_at}

-- ---- an access says by its answer whether it wrote

pub written_as_answered : (a : Action) (old : ℕ) → writes a (action_answer a old) ≡ is_some (number_put a old)
written_as_answered (Load size) old = refl
written_as_answered (Store size value) old = refl
written_as_answered (Atomic width op src r0) old = refl

-- ---- bytes

some_is : (o : Option ℕ) → is_some o ≡ false → o ≡ None
some_is None h = refl
some_is (Some x) h = absurd (cc)

written_none : (o n : ℕ) (v : Option ℕ) (bytes : List ℕ) → is_some v ≡ false → with_number o n v bytes ≡ bytes
written_none o n None bytes h = refl
written_none o n (Some x) bytes h = absurd (cc)

pub unwritten_after : (op : Op) (bytes : List ℕ) → writes op.action (answer op bytes) ≡ false → after op bytes ≡ bytes
unwritten_after op bytes h =
    written_none op.offset (count_of op) (number_put op.action (old_number op bytes)) bytes (sym (written_as_answered op.action (old_number op bytes)) ∙ h)

replaced_before : (o : ℕ) (new bytes : List ℕ) (i : ℕ) → o + length new ≤ length bytes → i < o → get_or (replaced o new bytes) i 0 ≡ get_or bytes i 0
replaced_before o new bytes i h k =
    get_or_append_left (take o bytes) (new ++ drop (o + length new) bytes) 0 i (let e = length-take-le o bytes (omega arith) in omega arith)
    ∙ get_or-take o bytes i 0 k

replaced_after : (o : ℕ) (new bytes : List ℕ) (i : ℕ) → o + length new ≤ length bytes → o + length new ≤ i
    → get_or (replaced o new bytes) i 0 ≡ get_or bytes i 0
replaced_after o new bytes i h k =
    let front = length-take-le o bytes (omega arith) in
    let past : o + length new + (i - o - length new) ≡ i = omega arith in
    get_or-append_right (take o bytes) (new ++ drop (o + length new) bytes) o i 0 front (omega arith)
    ∙ get_or-append_right new (drop (o + length new) bytes) (length new) (i - o) 0 refl (omega arith)
    ∙ get_or-drop (o + length new) bytes (i - o - length new) 0
    ∙ ap (λ (j : ℕ). get_or bytes j 0) past

written_elsewhere : (o n : ℕ) (v : Option ℕ) (bytes : List ℕ) (i : ℕ) → o + n ≤ length bytes → (is_some v ≡ true → o ≤ i → i < o + n → ⊥)
    → get_or (with_number o n v bytes) i 0 ≡ get_or bytes i 0
written_elsewhere o n None bytes i h k = refl
written_elsewhere o n (Some x) bytes i h k =
    let count = length-bytes_low_first 0 n x in
    elim (nat_lt i o) as (λ b. nat_lt i o ≡ b → get_or (replaced o (low_bytes n x) bytes) i 0 ≡ get_or bytes i 0) [
      | true ↦ λ e. replaced_before o (low_bytes n x) bytes i (omega arith) (grind (arith, nat_tests))
      | false ↦ λ e.
          let from : o ≤ i = grind (arith, nat_tests) in
          elim (nat_lt i (o + n)) as (λ b. nat_lt i (o + n) ≡ b → get_or (replaced o (low_bytes n x) bytes) i 0 ≡ get_or bytes i 0) [
            | true ↦ λ f. absurd (k refl from (grind (arith, nat_tests)))
            | false ↦ λ f. let to : o + n ≤ i = grind (arith, nat_tests) in replaced_after o (low_bytes n x) bytes i (omega arith) (omega arith)
          ] refl
    ] refl

-- ---- numbers in bytes

byte_at-pow : (i x : ℕ) → byte_at i x ≡ x / 256 ^ i % 256
byte_at-pow zero x = ap (λ (y : ℕ). y % 256) (sym (div-one x))
byte_at-pow (suc i) x = refl

pow_pos256 : (n : ℕ) → zero < 256 ^ n
pow_pos256 n = let h = one-le-pow n 256 (omega arith) in omega arith

pub number_of-low_first : (k i x : ℕ) → number_of (bytes_low_first i k x) ≡ x / 256 ^ i % 256 ^ k
number_of-low_first zero i x = omega arith
number_of-low_first (suc k) i x =
    let ih = number_of-low_first k (suc i) x in
    let shift : x / 256 ^ suc i ≡ x / 256 ^ i / 256 = ap (λ (p : ℕ). x / p) (pow-suc 256 i) ∙ sym (div-div-eq-div-mul x (256 ^ i) 256) in
    let split = mod-mul (x / 256 ^ i) {m = 256 ^ k} {c = 256} (pow_pos256 k) (omega arith) in
    rw (ih, shift, byte_at-pow i x, pow-suc 256 k, split) (omega arith)

replaced_held : (o : ℕ) (new bytes : List ℕ) → o + length new ≤ length bytes → take (length new) (drop o (replaced o new bytes)) ≡ new
replaced_held o new bytes h =
    let front = length-take-le o bytes (omega arith) in
    let rest = drop-append_seam (take o bytes) (new ++ drop (o + length new) bytes) in
    rw (rw front at rest) (take-append_seam new (drop (o + length new) bytes))

pub stored_held : (o k x : ℕ) (bytes : List ℕ) → o + k ≤ length bytes → number_of (take k (drop o (replaced o (low_bytes k x) bytes))) ≡ x % 256 ^ k
stored_held o k x bytes h =
    let count = length-bytes_low_first 0 k x in
    let same = replaced_held o (low_bytes k x) bytes (omega arith) in
    ap (λ (j : ℕ). number_of (take j (drop o (replaced o (low_bytes k x) bytes)))) (sym count) ∙ ap number_of same ∙ number_of-low_first k 0 x
    ∙ ap (λ (y : ℕ). y % 256 ^ k) (div-one x)

stored_size : (size : Size) (o x : ℕ) (bytes : List ℕ) → o + size_bytes size ≤ length bytes
    → number_of (take (size_bytes size) (drop o (replaced o (low_bytes (size_bytes size) x) bytes))) ≡ unsigned (8 * size_bytes size) x
stored_size Byte o x bytes h = stored_held o 1 x bytes h
stored_size Half o x bytes h = stored_held o 2 x bytes h
stored_size Word o x bytes h = stored_held o 4 x bytes h
stored_size Double o x bytes h = stored_held o 8 x bytes h

-- ---- objects

set_same_at : (objects : List (List ℕ)) (n : ℕ) (b : List ℕ) → 0 < length (get_or objects n []) → get_or (set objects n b) n [] ≡ b
set_same_at [] n b h = absurd (omega arith)
set_same_at (x ∷ xs) zero b h = refl
set_same_at (x ∷ xs) (suc n) b h = set_same_at xs n b h

pub set_commutes : {A : Type 0} (xs : List A) (n m : ℕ) (a b : A) → n ≢ m → set (set xs n a) m b ≡ set (set xs m b) n a
set_commutes {A = A} [] n m a b h = refl
set_commutes {A = A} (x ∷ xs) zero zero a b h = absurd (h refl)
set_commutes {A = A} (x ∷ xs) zero (suc m) a b h = refl
set_commutes {A = A} (x ∷ xs) (suc n) zero a b h = refl
set_commutes {A = A} (x ∷ xs) (suc n) (suc m) a b h = ap (λ (ys : List A). x ∷ ys) (set_commutes xs n m a b (λ e. h (ap suc e)))

some_bytes : (size : Size) → 0 < size_bytes size
some_bytes Byte = omega arith
some_bytes Half = omega arith
some_bytes Word = omega arith
some_bytes Double = omega arith

-- an access that is inside is of an object
some_inside : (op : Op) (n : ℕ) → IsInside op n → 0 < n
some_inside op n h = let c = some_bytes (size_of op.action) in omega arith

pub bytes_accessed : (old : List (List ℕ)) (n : ℕ) (op : Op) → IsInside op (length (bytes_of old n))
    → bytes_of (with_bytes old n (after op (bytes_of old n))) n ≡ after op (bytes_of old n)
bytes_accessed old n op h = set_same_at old n (after op (bytes_of old n)) (some_inside op (length (bytes_of old n)) h)

-- ---- the laws

pub writes_inside : laws.WritesAreInside
writes_inside old new n op x i h w = let inside = h.0 in omega (arith, w.to)

pub bytes_stay : laws.OtherBytesStay
bytes_stay old new n op x i h w =
    let same = bytes_accessed old n op h.0 in
    let at = rw h.1 at (λ (p : IsTrue (writes op.action x)) (q : op.offset ≤ i) (s : i < op.offset + count_of op).
    w (record { wrote = p; «from» = q; to = s })) in
    rw (h.2, same) (written_elsewhere op.offset (count_of op) (number_put op.action (old_number op (bytes_of old n))) (bytes_of old n) i h.0
    (λ p q s. at (written_as_answered op.action (old_number op (bytes_of old n)) ∙ p) q s))

pub unwritten : laws.UnwrittenStays
unwritten old new n op x h e =
    let none = unwritten_after op (bytes_of old n) (rw h.1 at e) in
    h.2 ∙ ap (with_bytes old n) none ∙ set-get_or old n []

not_same : (old r x : ℕ) → old ≢ r → is_some (if old == r then Some x else None) ≡ false
not_same old r x h = elim (old == r) as (λ b. (old == r) ≡ b → is_some (if b then Some x else None) ≡ false) [
  | true ↦ λ e. absurd (h (grind (arith, nat_tests)))
  | false ↦ λ e. refl
] refl

exchange_failed : (width : Width) (src r0 old : ℕ) → old ≢ unsigned (width_bits width) r0 → writes (Atomic width CompareExchange src r0) old ≡ false
exchange_failed width src r0 old h = not_same old (unsigned (width_bits width) r0) (unsigned (width_bits width) src) h

pub failed : laws.FailedExchangesChangeNothing
failed old new n offset width src r0 x h e =
    unwritten old new n (record { offset = offset; action = Atomic width CompareExchange src r0 }) x h (exchange_failed width src r0 x e)

pub others : laws.OtherObjectsStay
others old new n k op (Done x) h d = rw h.2 (get_or-set_other old n k (after op (bytes_of old n)) [] d)
others old new n k op Outside h d = rw h.1 refl
others old new n k op Away h d = absurd h
others old new n k op Busy h d = absurd h
others old new n k op Worn h d = absurd h

pub lengths : laws.LengthsStay
lengths old new n k op (Done x) h = rw h.2 (length-set_at old n k (after op (bytes_of old n)) (length-after op (bytes_of old n) h.0))
lengths old new n k op Outside h = rw h.1 refl
lengths old new n k op Away h = absurd h
lengths old new n k op Busy h = absurd h
lengths old new n k op Worn h = absurd h

pub loads : laws.LoadsWhatWasStored
loads old mid new n offset size value x y s l =
    let same = bytes_accessed old n (record { offset = offset; action = Store size value }) s.0 in
    l.1 ∙ rw (s.2, same) (stored_size size offset value (bytes_of old n) s.0)

pub one_way : laws.AccessesOneWay
one_way old new other n op (Done x) (Done y) h k = (ap Done (h.1 ∙ sym k.1), h.2 ∙ sym k.2)
one_way old new other n op Outside Outside h k = (refl, h.1 ∙ sym k.1)
one_way old new other n op (Done x) Outside h k = absurd (k.0 h.0)
one_way old new other n op Outside (Done y) h k = absurd (h.0 k.0)
one_way old new other n op (Done x) Away h k = absurd k
one_way old new other n op (Done x) Busy h k = absurd k
one_way old new other n op (Done x) Worn h k = absurd k
one_way old new other n op Outside Away h k = absurd k
one_way old new other n op Outside Busy h k = absurd k
one_way old new other n op Outside Worn h k = absurd k
one_way old new other n op Away s h k = absurd h
one_way old new other n op Busy s h k = absurd h
one_way old new other n op Worn s h k = absurd h

pub commute : laws.AccessesCommute
commute old mid new n m op other (Done x) (Done y) d h k =
    let a = after op (bytes_of old n) in
    let b = after other (bytes_of old m) in
    let same : bytes_of mid m ≡ bytes_of old m = rw h.2 (get_or-set_other old n m a [] (λ e. d (sym e))) in
    let kept : bytes_of (with_bytes old m b) n ≡ bytes_of old n = get_or-set_other old m n b [] d in
    let end : new ≡ with_bytes (with_bytes old m b) n a = rw same at k.2 ∙ ap (λ (o : List (List ℕ)). with_bytes o m b) h.2 ∙ set_commutes old n m a b d in
    (with_bytes old m b, (rw same at k.0, rw same at k.1, refl), rw kept (h.0, h.1, end))
commute old mid new n m op other (Done x) Outside d h k =
    let same : bytes_of mid m ≡ bytes_of old m = rw h.2 (get_or-set_other old n m (after op (bytes_of old n)) [] (λ e. d (sym e))) in
    (old, (rw same at k.0, refl), (h.0, h.1, k.1 ∙ h.2))
commute old mid new n m op other Outside (Done y) d h k =
    let kept : bytes_of (with_bytes old m (after other (bytes_of old m))) n ≡ bytes_of old n = get_or-set_other old m n (after other (bytes_of old m)) [] d in
    (with_bytes old m (after other (bytes_of old m)), (rw h.1 at k.0, rw h.1 at k.1, refl), rw kept (h.0, rw h.1 at k.2))
commute old mid new n m op other Outside Outside d h k = (old, (rw h.1 at k.0, refl), (h.0, k.1 ∙ h.1))
commute old mid new n m op other r Away d h k = absurd k
commute old mid new n m op other r Busy d h k = absurd k
commute old mid new n m op other r Worn d h k = absurd k
commute old mid new n m op other Away s d h k = absurd h
commute old mid new n m op other Busy s d h k = absurd h
commute old mid new n m op other Worn s d h k = absurd h
