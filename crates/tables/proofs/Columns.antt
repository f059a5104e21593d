-- A record's array that is filled with a table's numbers, line by line, as far as they are in range. Assumes nothing.
use mathlib.Core.Path.{◌≡◌, refl, sym, ap, ◌∙◌}
use mathlib.Core.Bool.{Bool, not}
use mathlib.Core.List.{List, [], ◌∷◌, ◌++◌}
use Prim.Native.Nat.{ℕ, zero, suc, ◌+◌, ◌-◌, ◌<◌, ◌≤◌}
use native.Mathlib.Decide.{dec_lt}
use native.Mathlib.Omega.{arith}
use lib.ListN.{length, get_or, drop, replicate, length-append, length-drop, length-replicate, get_or-replicate, get_or-append, get_or-eq_default}
use lib.Seq.{ext_get_or, get_or-append-add, get_or-drop}
use lib.Dec.{leb}
use borrow.Author.Tests.{le-leb}
use Rattle.refusals.specs.Search.{first_below, tabulate}
use Rattle.refusals.proofs.Scan.{first_same}
use Rattle.refusals.proofs.TabulatedLists.{length_tabulate, tabulate_at, tabulate_same}
use Rattle.tables.specs.declared.Column.{Column}
use Rattle.tables.specs.Lines.{parted, value_lines, shown_line}
use Rattle.tables.specs.Numbers.{decimal}
use Rattle.tables.specs.Table.{number_at, column}
use Rattle.tables.specs.Reading.{Kept, kept_number, within, Ranged}

abbrev pub zeros : List ℕ
zeros = replicate 64 0

-- a range from 0 on
pub within_most : (most n : ℕ) → within 0 most n ≡ leb n most
unfolding within
within_most most n = rw (le-leb 0 n (omega arith))

-- line i's number j is outside its range
module _ (store : List ℕ) (j least most : ℕ) where
  abbrev pub outside : ℕ → Bool
  outside i = not (within least most (kept_number store j i))

pub column_at : (f : List ℕ) (j n : ℕ) → n < 64 → get_or (column f j) n 0 ≡ number_at f j n
unfolding column
column_at f j n low = tabulate_at (number_at f j) 64 n low

-- past the last line there are zeros
number_past : (f : List ℕ) (j n : ℕ) → length (value_lines f) ≤ n → number_at f j n ≡ 0
unfolding number_at shown_line parted decimal
number_past f j n high = rw (get_or-eq_default (value_lines f) [] high) (only j)
  where
    only : (j : ℕ) → decimal 0 (get_or ([] ∷ []) j []) ≡ 0
    only zero = refl
    only (suc j) = refl

-- the array holds the numbers j of the first i lines
pub record Filled (f : List ℕ) (j i : ℕ) (l : List ℕ) : Type 0 where
  pub is : l ≡ tabulate i (number_at f j) ++ drop i zeros

-- a column that is read from a store that has the file's numbers
pub record OfFile (f : List ℕ) (j least most count : ℕ) (read : Column) : Type 0 where
  pub fewer : read.lines ≤ count
  pub lines_are : read.lines ≡ first_below (λ i. not (within least most (number_at f j i))) count
  pub filled : Filled f j read.lines read.values

pub of_file :
    {k count : ℕ} (f store : List ℕ)
    → Kept k f count store
    → (lines j least most : ℕ) (read : Column)
    → lines ≤ count
    → lines ≤ 64
    → j < k
    → Ranged store lines j least most read
    → OfFile f j least most lines read
unfolding kept_number
of_file f store kept lines j least most read fewer few field R =
    let at : (i : ℕ) → i < lines → kept_number store j i ≡ number_at f j i = λ i low. kept.number i j (omega arith) (omega arith) field in
    record {
      fewer = R.fewer;
      lines_are =
          R.lines_are
          ∙ first_same (outside store j least most) (λ i. not (within least most (number_at f j i))) lines
          (λ i low. ap (λ (n : ℕ). not (within least most n)) (at i low));
      filled =
          record {
            is =
                R.values_are
                ∙ ap (λ (l : List ℕ). l ++ drop read.lines zeros)
                (tabulate_same (kept_number store j) (number_at f j) read.lines (λ i low. at i (omega (arith, R.fewer))));
          };
    }

filled_all : (f : List ℕ) (j count : ℕ) (l : List ℕ) → count ≤ 64 → count ≡ length (value_lines f) → Filled f j count l → l ≡ column f j
unfolding column
filled_all f j count l most all F =
    F.is ∙ ext_get_or 0 (tabulate count (number_at f j) ++ drop count zeros) (tabulate 64 (number_at f j)) (size ∙ sym (length_tabulate (number_at f j) 64)) each
  where
    size : length (tabulate count (number_at f j) ++ drop count zeros) ≡ 64
    size =
        length-append (tabulate count (number_at f j)) (drop count zeros)
        ∙ omega (arith, length_tabulate (number_at f j) count, length-drop count zeros, length-replicate {A = ℕ} 64 0)

    at : (i : ℕ) → i < 64 → Dec (i < count) → get_or (tabulate count (number_at f j) ++ drop count zeros) i 0 ≡ number_at f j i
    at i low (yes h) =
        get_or-append (tabulate count (number_at f j)) (drop count zeros) 0 i (omega (arith, length_tabulate (number_at f j) count))
        ∙ tabulate_at (number_at f j) count i h
    at i low (no h) =
        let e : i ≡ length (tabulate count (number_at f j)) + (i - count) = omega (arith, length_tabulate (number_at f j) count) in
        let back : count + (i - count) ≡ i = omega arith in
        ap (λ (n : ℕ). get_or (tabulate count (number_at f j) ++ drop count zeros) n 0) e
        ∙ get_or-append-add (tabulate count (number_at f j)) (drop count zeros) (i - count) 0
        ∙ get_or-drop count zeros (i - count) 0
        ∙ ap (λ (n : ℕ). get_or zeros n 0) back
        ∙ get_or-replicate {A = ℕ} 64 i 0 0 low
        ∙ sym (number_past f j i (omega arith))

    each : (i : ℕ) → i < length (tabulate count (number_at f j) ++ drop count zeros)
        → get_or (tabulate count (number_at f j) ++ drop count zeros) i 0 ≡ get_or (tabulate 64 (number_at f j)) i 0
    each i low = let h : i < 64 = omega (arith, size) in at i h (dec_lt i count) ∙ sym (tabulate_at (number_at f j) 64 i h)

-- a column of which no number was outside its range is the file's
pub read_all :
    (f : List ℕ) (j least most lines count : ℕ) (read : Column)
    → OfFile f j least most lines read
    → lines ≤ count
    → count ≤ read.lines
    → count ≤ 64
    → count ≡ length (value_lines f)
    → read.values ≡ column f j
read_all f j least most lines count read R low high few all =
    filled_all f j read.lines read.values (omega (arith, R.fewer)) (omega (arith, R.fewer)) R.filled
