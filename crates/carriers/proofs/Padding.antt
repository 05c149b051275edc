-- Octets of cells, the last filled up with zeros. Assumes Tables, Rows, Spelt, FieldCells.
use Rattle.std.proofs.Common.{◌≡◌, ℕ, zero, suc, ◌+◌, ◌-◌, ◌*◌, ◌/◌, ◌%◌, ◌^◌, ◌<◌, ◌≤◌, min, cond, eqb, ◌≢◌, List, [], ◌∷◌, ◌++◌, length, take, drop, set, replicate, Ok, sym, refl, ap, ◌∙◌, ap₂, inl, inr, append_assoc, mod-eq_of_lt, mul_assoc, add_comm, suc-add, zero-add, arith, length-append, drop_of_length-le, take_all, get_or-set_other, get_or-set_same, take_at, take-add, pow-add, shl_lt, shr-shr}
use lib.ListN.{length-replicate}
use lib.Pow.{shl-shr}
use lib.Seq.{drop-append-le}
use Rattle.std.proofs.lemmas.List.{append-nil, get_or_append_left}
use Rattle.std.proofs.lemmas.Bool.{cases_lt}
use Rattle.carriers.specs.declared.bit.Bit.TheVariants.{Zero, One}
use Rattle.carriers.specs.Bits.{bit_of}
use Rattle.carriers.specs.Cells.{Cell, bit, table}
use Rattle.carriers.specs.Octets.{octet_at}
use Rattle.carriers.specs.Fields.{bits_of}
use Rattle.carriers.specs.FieldReading.{read_bits}
use Rattle.carriers.specs.ReadingLaws.{Spelt}
use Rattle.carriers.specs.Copying.{octet_count, padded}
use Rattle.carriers.proofs.Tables.{table_same, table_add}
use Rattle.carriers.proofs.Rows.{bits_length}
use Rattle.carriers.proofs.Spelt.{field_spelt}

-- a number that is shifted up ends in zeros
powers : (v i j : ℕ) → v * 2 ^ (i + 1 + j) ≡ v * 2 ^ i * 2 * 2 ^ j
powers v i j = ap (λ n. v * n) (pow-add 2 (i + 1) j ∙ ap (λ n. n * 2 ^ j) (pow-add 2 i 1)) ∙ sym (mul_assoc v (2 ^ i * 2) (2 ^ j)) ∙ ap (λ n. n * 2 ^ j) (sym (mul_assoc v (2 ^ i) 2))

zero_bits : (j k v : ℕ) → j ≤ k → bits_of j (v * 2 ^ k) ≡ replicate j (bit Zero)
zero_bits zero k v h = refl
zero_bits (suc j) k v h =
    let i : ℕ = k - suc j in
    let e : k ≡ (k - suc j) + 1 + j = omega arith in
    let up : v * 2 ^ k ≡ v * 2 ^ i * 2 * 2 ^ j = ap (λ n. v * 2 ^ n) e ∙ powers v i j in
    let half : v * 2 ^ k / 2 ^ j ≡ v * 2 ^ i * 2 = ap (λ n. n / 2 ^ j) up ∙ shl-shr (v * 2 ^ i * 2) j in
    let even : v * 2 ^ k / 2 ^ j % 2 ≡ 0 = ap (λ n. n % 2) half ∙ twice (v * 2 ^ i) in
    ap₂ (λ b (l : List Cell). bit b ∷ l) (ap (λ n. cond (eqb n 0) Zero One) even) (zero_bits j k v (omega arith))
  where
    twice : (n : ℕ) → n * 2 % 2 ≡ 0
    twice n = omega arith

pub bits_up : (n k v : ℕ) → bits_of (n + k) (v * 2 ^ k) ≡ bits_of n v ++ replicate k (bit Zero)
bits_up zero k v = ap (λ m. bits_of m (v * 2 ^ k)) (zero-add k) ∙ zero_bits k k v (omega arith)
bits_up (suc n) k v =
    let same : v * 2 ^ k / 2 ^ (n + k) ≡ v / 2 ^ n =
    ap (λ m. v * 2 ^ k / 2 ^ m) (add_comm n k) ∙ sym (shr-shr (v * 2 ^ k) k n) ∙ ap (λ m. m / 2 ^ n) (shl-shr v k) in
    ap (λ m. bits_of m (v * 2 ^ k)) (suc-add n k)
    ∙ ap₂ (λ b (l : List Cell). bit b ∷ l) (ap bit_of same) (bits_up n k v)

-- eight cells of the list, or those that are left and zeros
pub padded_length : (cs : List Cell) → length (padded cs) ≡ 8 * octet_count cs
unfolding padded
padded_length cs = simp (length-append, length-replicate) (omega arith)

octet_spelt : (cs : List Cell) (i w v : ℕ) → 8 * i < length cs → w ≡ min (length cs - 8 * i) 8 → Spelt cs (8 * i) w v → bits_of 8 (v * 2 ^ (8 - w)) ≡ take 8 (drop (8 * i) (padded cs))
unfolding padded
octet_spelt cs i w v within is spelt =
    let n : ℕ = 8 * octet_count cs - length cs in
    let pad : List Cell = replicate n (bit Zero) in
    let short : 8 * i ≤ length cs = omega arith in
    let from : drop (8 * i) (cs ++ pad) ≡ (bits_of w v ++ drop (8 * i + w) cs) ++ pad = drop-append-le (8 * i) cs pad short ∙ ap (λ (l : List Cell). l ++ pad) spelt.1 in
    let eight : w + (8 - w) ≡ 8 = omega arith in
    let up : bits_of 8 (v * 2 ^ (8 - w)) ≡ bits_of w v ++ replicate (8 - w) (bit Zero) = ap (λ m. bits_of m (v * 2 ^ (8 - w))) (sym eight) ∙ bits_up w (8 - w) v in
    up ∙ elim (cases_lt (length cs - 8 * i) 8) [
      | inl l ↦
          let end : length cs ≤ 8 * i + w = omega arith in
          let none : drop (8 * i + w) cs ≡ [] = drop_of_length-le cs end in
          let left : n ≡ 8 - w = omega arith in
          let all : (bits_of w v ++ drop (8 * i + w) cs) ++ pad ≡ bits_of w v ++ replicate (8 - w) (bit Zero) = ap (λ (l : List Cell). (bits_of w v ++ l) ++ pad) none ∙ ap (λ (l : List Cell). l ++ pad) (append-nil (bits_of w v)) ∙ ap (λ m. bits_of w v ++ replicate m (bit Zero)) left in
          let long : length (bits_of w v ++ replicate (8 - w) (bit Zero)) ≤ 8 = simp (length-append, length-replicate, bits_length) (omega arith) in
          sym (ap (take 8) (from ∙ all) ∙ take_all 8 _ long)
      | inr l ↦
          let full : 8 - w ≡ 0 = omega arith in
          let eight : length (bits_of w v) ≡ 8 = bits_length w v ∙ omega arith in
          let nothing : bits_of w v ++ replicate (8 - w) (bit Zero) ≡ bits_of w v = ap (λ m. bits_of w v ++ replicate m (bit Zero)) full ∙ append-nil (bits_of w v) in
          nothing ∙ sym (ap (take 8) (from ∙ append_assoc (bits_of w v) (drop (8 * i + w) cs) pad) ∙ take_at (bits_of w v) (drop (8 * i + w) cs ++ pad) 8 eight)
    ]

-- a number of at most eight bits, shifted up to an octet
shifted_up : (w v : ℕ) → w ≤ 8 → v < 2 ^ w → v * 2 ^ (8 - w) < 256
shifted_up w v h small = let e : w + (8 - w) ≡ 8 = omega arith in let p = shl_lt w (8 - w) small in rw e at p

-- what is read of such cells, as code shifts it up
pub octet_fits : (cs : List Cell) (i w v : ℕ) → w ≡ min (length cs - 8 * i) 8 → Ok v ≡ read_bits cs (8 * i) w 0 → (v * 2 ^ (8 - w)) % 4294967296 < 256
octet_fits cs i w v is said =
    let p = shifted_up w v (omega arith) (field_spelt cs (8 * i) w v (sym said)).0 in
    let m : (v * 2 ^ (8 - w)) % 4294967296 ≡ v * 2 ^ (8 - w) = mod-eq_of_lt (omega arith) in
    rw m p

pub octet_read : (cs : List Cell) (i w v : ℕ) → 8 * i < length cs → w ≡ min (length cs - 8 * i) 8 → Ok v ≡ read_bits cs (8 * i) w 0 → bits_of 8 ((v * 2 ^ (8 - w)) % 4294967296) ≡ take 8 (drop (8 * i) (padded cs))
octet_read cs i w v within is said =
    let spelt = field_spelt cs (8 * i) w v (sym said) in
    let p = shifted_up w v (omega arith) spelt.0 in
    let m : (v * 2 ^ (8 - w)) % 4294967296 ≡ v * 2 ^ (8 - w) = mod-eq_of_lt (omega arith) in
    ap (bits_of 8) m ∙ octet_spelt cs i w v within is spelt

-- an octet in its place
bits_table : (r : ℕ) → table (λ k. bit (bit_of (r / 2 ^ (7 - k)))) 8 ≡ bits_of 8 r
unfolding table
bits_table r = refl

octet_set : (out : List ℕ) (i r : ℕ) → i < length out → table (octet_at (set out i r)) (8 * i + 8) ≡ table (octet_at out) (8 * i) ++ bits_of 8 r
octet_set out i r h =
    let f = octet_at (set out i r) in
    table_add f (8 * i) 8
    ∙ ap₂ (λ (x y : List Cell). x ++ y)
    (table_same f (octet_at out) (8 * i) (λ j l. let ne : j / 8 ≢ i = omega arith in ap (λ x. bit (bit_of (x / 2 ^ (7 - j % 8)))) (get_or-set_other out i (j / 8) r 0 ne)))
    (table_same (λ k. f (8 * i + k)) (λ k. bit (bit_of (r / 2 ^ (7 - k)))) 8 (λ k l. let q : (8 * i + k) / 8 ≡ i = omega arith in let m : (8 * i + k) % 8 ≡ k = omega arith in rw (q, m) (ap (λ x. bit (bit_of (x / 2 ^ (7 - k)))) (get_or-set_same out i r 0 h))) ∙ bits_table r)

-- one octet more of a list that fills up the octets
pub octet_more : (out : List ℕ) (cs : List Cell) (i r : ℕ) → i < length out → table (octet_at out) (8 * i) ≡ take (8 * i) cs → bits_of 8 r ≡ take 8 (drop (8 * i) cs) → table (octet_at (set out i r)) (8 * (i + 1)) ≡ take (8 * (i + 1)) cs
octet_more out cs i r h front here =
    let e : 8 * (i + 1) ≡ 8 * i + 8 = omega arith in
    rw e (octet_set out i r h ∙ ap₂ (λ (x y : List Cell). x ++ y) front here ∙ sym (take-add (8 * i) 8 cs))

-- octets that were filled up, before those that were left alone
octets_front : (xs ys : List ℕ) (n : ℕ) → n ≤ length xs → table (octet_at (xs ++ ys)) (8 * n) ≡ table (octet_at xs) (8 * n)
octets_front xs ys n h = table_same (octet_at (xs ++ ys)) (octet_at xs) (8 * n) (λ j l. ap (λ x. bit (bit_of (x / 2 ^ (7 - j % 8)))) (get_or_append_left xs ys 0 (j / 8) (omega arith)))

pub octets_filled : (cs : List Cell) (xs ys : List ℕ) (n i : ℕ) → n ≡ octet_count cs → n ≡ i → length xs ≡ n → table (octet_at xs) (8 * i) ≡ take (8 * i) (padded cs) → table (octet_at (xs ++ ys)) (8 * n) ≡ padded cs
octets_filled cs xs ys n i count all long front =
    let whole = padded_length cs in
    octets_front xs ys n (omega arith) ∙ (rw (← all) at front) ∙ take_all (8 * n) (padded cs) (omega arith)
