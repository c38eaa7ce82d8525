-- Heads as bytes.
use Rattle.std.proofs.Common.{◌≡◌, ℕ, zero, suc, ◌<◌, List, [], ◌∷◌, ◌++◌, length, take, drop, get_or, slice_index, refl, sym, arith}
use Rattle.std.proofs.lemmas.Nat.{be_bytes_4, be_bytes_8}
use Rattle.byteorder.specs.Endian.{big_bytes, big_number}
use Rattle.far_stream.specs.Frames.{head}

-- a head has thirteen bytes
pub length-head : (kind id count : ℕ) → length (head kind id count) ≡ 13
unfolding head
length-head kind id count = refl

small_front : (n : ℕ) (bytes : List ℕ) → ((i : ℕ) → get_or bytes i 0 < 256) → (i : ℕ) → get_or (take n bytes) i 0 < 256
small_front zero bytes small i = omega arith
small_front (suc n) [] small i = omega arith
small_front (suc n) (b ∷ bytes) small zero = small zero
small_front (suc n) (b ∷ bytes) small (suc i) = small_front n bytes (λ j. small (suc j)) i

small_back : (n : ℕ) (bytes : List ℕ) → ((i : ℕ) → get_or bytes i 0 < 256) → (i : ℕ) → get_or (drop n bytes) i 0 < 256
small_back zero bytes small i = small i
small_back (suc n) [] small i = omega arith
small_back (suc n) (b ∷ bytes) small i = small_back n bytes (λ j. small (suc j)) i

eight : (a b c d e f g h : ℕ) (rest : List ℕ) → ((i : ℕ) → get_or (a ∷ b ∷ c ∷ d ∷ e ∷ f ∷ g ∷ h ∷ []) i 0 < 256)
    → big_bytes 8 (big_number 8 (a ∷ b ∷ c ∷ d ∷ e ∷ f ∷ g ∷ h ∷ rest)) ≡ a ∷ b ∷ c ∷ d ∷ e ∷ f ∷ g ∷ h ∷ []
eight a b c d e f g h rest small = be_bytes_8 (a ∷ b ∷ c ∷ d ∷ e ∷ f ∷ g ∷ h
    ∷ []) (big_number 8 (a ∷ b ∷ c ∷ d ∷ e ∷ f ∷ g ∷ h ∷ rest)) refl small (omega arith)

four : (a b c d : ℕ) (rest : List ℕ) → ((i : ℕ) → get_or (a ∷ b ∷ c ∷ d ∷ []) i 0 < 256)
    → big_bytes 4 (big_number 4 (a ∷ b ∷ c ∷ d ∷ rest)) ≡ a ∷ b ∷ c ∷ d ∷ []
four a b c d rest small = be_bytes_4 (a ∷ b ∷ c ∷ d ∷ []) (big_number 4 (a ∷ b ∷ c ∷ d ∷ rest)) refl small (omega arith)

-- thirteen bytes are the head that is read of them
pub head_read : (bytes : List ℕ) → length bytes ≡ 13 → ((i : ℕ) → get_or bytes i 0 < 256)
    → bytes ≡ head (slice_index bytes 0) (big_number 8 (take 12 (drop 1 bytes))) (big_number 4 (take 4 (drop 9 bytes)))
unfolding head
head_read [] len small = absurd (omega arith)
head_read (a ∷ []) len small = absurd (omega arith)
head_read (a ∷ b ∷ []) len small = absurd (omega arith)
head_read (a ∷ b ∷ c ∷ []) len small = absurd (omega arith)
head_read (a ∷ b ∷ c ∷ d ∷ []) len small = absurd (omega arith)
head_read (a ∷ b ∷ c ∷ d ∷ e ∷ []) len small = absurd (omega arith)
head_read (a ∷ b ∷ c ∷ d ∷ e ∷ f ∷ []) len small = absurd (omega arith)
head_read (a ∷ b ∷ c ∷ d ∷ e ∷ f ∷ g ∷ []) len small = absurd (omega arith)
head_read (a ∷ b ∷ c ∷ d ∷ e ∷ f ∷ g ∷ h ∷ []) len small = absurd (omega arith)
head_read (a ∷ b ∷ c ∷ d ∷ e ∷ f ∷ g ∷ h ∷ i ∷ []) len small = absurd (omega arith)
head_read (a ∷ b ∷ c ∷ d ∷ e ∷ f ∷ g ∷ h ∷ i ∷ j ∷ []) len small = absurd (omega arith)
head_read (a ∷ b ∷ c ∷ d ∷ e ∷ f ∷ g ∷ h ∷ i ∷ j ∷ k ∷ []) len small = absurd (omega arith)
head_read (a ∷ b ∷ c ∷ d ∷ e ∷ f ∷ g ∷ h ∷ i ∷ j ∷ k ∷ l ∷ []) len small = absurd (omega arith)
head_read (a ∷ b ∷ c ∷ d ∷ e ∷ f ∷ g ∷ h ∷ i ∷ j ∷ k ∷ l ∷ m ∷ []) len small =
    let bytes = a ∷ b ∷ c ∷ d ∷ e ∷ f ∷ g ∷ h ∷ i ∷ j ∷ k ∷ l ∷ m ∷ [] in
    let id = eight b c d e f g h i (j ∷ k ∷ l ∷ m ∷ []) (small_front 8 (drop 1 bytes) (small_back 1 bytes small)) in
    let count = four j k l m [] (small_back 9 bytes small) in
    λ p. a ∷ (sym id p ++ sym count p)
head_read (a ∷ b ∷ c ∷ d ∷ e ∷ f ∷ g ∷ h ∷ i ∷ j ∷ k ∷ l ∷ m ∷ n ∷ bytes) len small = absurd (omega arith)
