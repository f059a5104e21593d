-- Rows of bytes put one after another into a buffer. Assumes nothing.
use mathlib.Core.Path.{◌≡◌, refl, sym, ap, ◌∙◌}
use mathlib.Core.List.{List, ◌∷◌, ◌++◌}
use Prim.Native.Nat.{ℕ, zero, suc, ◌+◌, ◌-◌, ◌*◌, ◌<◌, ◌≤◌}
use native.Mathlib.Nat.{mul-le-mul_right}
use native.Mathlib.Numerals.{add-one}
use native.Mathlib.Omega.{arith}
use lib.ListN.{length, get_or, set, drop, length-append, length-drop}
use lib.Seq.{sets, set_split, drop-set-lt, length-sets, length-take-le, get_or-take, get_or-drop}
use Rattle.std.specs.List.{between}
use Rattle.refusals.specs.Search.{tabulate}
use Rattle.refusals.proofs.TabulatedLists.{tabulate_is}
use Rattle.buffers.proofs.StoredBytes.{put_next}
use Rattle.records.specs.Encoding.{rows_of}

-- the first byte, and i rows of k bytes each, are put
pub record RowsPut (row : ℕ → List ℕ) (k count : ℕ) (old : List ℕ) (i : ℕ) (buffer : List ℕ) : Type 0 where
  pub size : length buffer ≡ length old
  pub is : buffer ≡ (count ∷ rows_of row i) ++ drop (1 + k * i) old

pub put_none : (row : ℕ → List ℕ) (k count : ℕ) (entry : List ℕ) → 0 < length entry
    → RowsPut row k count (set entry 0 count) 0 (set entry 0 count)
unfolding rows_of
put_none row k count entry some =
    let first : 1 ≡ 1 + k * 0 = omega arith in
    record {
      size = refl;
      is =
          set_split entry 0 count some ∙ ap (λ (l : List ℕ). count ∷ l) (sym (drop-set-lt 1 entry 0 count (omega arith)))
          ∙ ap (λ (n : ℕ). count ∷ drop n (set entry 0 count)) first;
    }

module _ (row : ℕ → List ℕ) (k : ℕ) (wide : (n : ℕ) → length (row n) ≡ k) where
  pub rows_length : (n : ℕ) → length (rows_of row n) ≡ k * n
  unfolding rows_of
  rows_length zero = omega arith
  rows_length (suc n) = length-append (rows_of row n) (row n) ∙ omega (arith, rows_length n, wide n)

  module _ (count : ℕ) (old : List ℕ) (i : ℕ) (buffer : List ℕ) (P : RowsPut row k count old i buffer) where
    pub put_more : 1 + k * i + k ≤ length old → RowsPut row k count old (i + 1) (sets buffer (1 + k * i) (row i))
    unfolding rows_of
    put_more room =
        let here : length (count ∷ rows_of row i) ≡ 1 + k * i = omega (arith, rows_length i) in
        let next : 1 + k * i + length (row i) ≡ 1 + k * (i + 1) = omega (arith, wide i) in
        record {
          size = length-sets buffer (1 + k * i) (row i) ∙ P.size;
          is =
              put_next (count ∷ rows_of row i) old (row i) buffer (sets buffer (1 + k * i) (row i)) (1 + k * i) (1 + k * (i + 1))
              P.is refl here next (omega arith)
              ∙ ap (λ (n : ℕ). (count ∷ rows_of row n) ++ drop (1 + k * (i + 1)) old) (sym (add-one i));
        }

-- all rows are put
pub put_all : (row : ℕ → List ℕ) (k count : ℕ) (entry : List ℕ) (i size : ℕ) (buffer : List ℕ)
    → RowsPut row k count (set entry 0 count) i buffer → i ≡ 64
    → 1 + k * 64 ≡ size
    → buffer ≡ (count ∷ rows_of row 64) ++ drop size entry
put_all row k count entry i size buffer P end all =
    P.is ∙ ap (λ (n : ℕ). (count ∷ rows_of row n) ++ drop (1 + k * n) (set entry 0 count)) end
    ∙ ap (λ (l : List ℕ). (count ∷ rows_of row 64) ++ l)
    (drop-set-lt (1 + k * 64) entry 0 count (omega arith) ∙ ap (λ (n : ℕ). drop n entry) all)

-- field i of row n lies within 64 rows behind byte 0
pub row_inside : (width i n : ℕ) → i < width → n < 64 → 1 + n * width + i < 64 * width + 1
row_inside width i n low few = omega (arith, mul-le-mul_right {m = suc n} {n = 64} width few)

-- the bytes from a place on
pub tabulated : {part : List ℕ} (bytes : List ℕ) (at n : ℕ) → part ≡ between at (at + n) bytes → at + n ≤ length bytes
    → part ≡ tabulate n (λ k. get_or bytes (at + k) 0)
tabulated {part} bytes at n is inside =
    sym
    (tabulate_is (λ k. get_or bytes (at + k) 0) part n
    (ap length is ∙ length-take-le (at + n - at) (drop at bytes) (omega (arith, length-drop at bytes)) ∙ omega arith)
    (λ k low. sym (ap (λ (l : List ℕ). get_or l k 0) is ∙ get_or-take (at + n - at) (drop at bytes) k 0 (omega arith) ∙ get_or-drop at bytes k 0)))
