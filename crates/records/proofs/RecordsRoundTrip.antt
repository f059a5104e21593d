-- Decoding what was encoded gives it back, whatever bytes follow; and encoding the cell that was decoded gives its bytes back.
-- Assumes nothing.
use mathlib.Core.Path.{◌≡◌, refl, sym, ap, ◌∙◌}
use mathlib.Core.Logic.{⊎_elim}
use mathlib.Core.Bool.{false}
use mathlib.Core.List.{List, ◌∷◌, ◌++◌, append_assoc}
use Prim.Native.Nat.{ℕ, zero, suc, ◌+◌, ◌*◌, ◌<◌, ◌≤◌}
use native.Mathlib.Nat.{le_of_suc-le-suc, eq-or-lt_of_le, not-suc-le-zero, mul-le-mul_right}
use native.Mathlib.Omega.{arith}
use lib.ListN.{length, get_or, take, drop, length-append, length-drop, get_or-append}
use lib.Seq.{get_or-append-add, get_or-take, get_or-drop, length-take-le, take-suc, take-add, ext_get_or}
use lib.Dec.{ltb}
use borrow.Author.Tests.{le-ltb}
use Rattle.refusals.specs.Search.{tabulate}
use Rattle.refusals.proofs.TabulatedLists.{length_tabulate, tabulate_at, tabulate_is}
use Rattle.cell.specs.declared.Cell.{Cell}
use Rattle.cell.proofs.LongerCell.{Columns}
use Rattle.recipe.specs.declared.Recipe.{Recipe}
use Rattle.records.specs.Encoding.{rows_of, cell_row, cell_bytes, recipe_row, recipe_bytes, column_of, cell_from, recipe_from}
use Rattle.records.proofs.ByteRows.{rows_length}

module _ (row : ℕ → List ℕ) (k : ℕ) (wide : (n : ℕ) → length (row n) ≡ k) where
  -- a byte of a row stands behind the bytes of the rows before it
  row_at : (m n i : ℕ) → n < m → i < k → get_or (rows_of row m) (n * k + i) 0 ≡ get_or (row n) i 0
  unfolding rows_of
  row_at zero n i low inside = absurd (not-suc-le-zero low)
  row_at (suc m) n i low inside = ⊎_elim last (λ less. earlier less (row_at m n i less inside)) (eq-or-lt_of_le (le_of_suc-le-suc low))
    where
      size : length (rows_of row m) ≡ m * k
      size = omega (arith, rows_length row k wide m)

      last : n ≡ m → get_or (rows_of row m ++ row m) (n * k + i) 0 ≡ get_or (row n) i 0
      last e =
          rw e (ap (λ (s : ℕ). get_or (rows_of row m ++ row m) (s + i) 0) (sym size) ∙ get_or-append-add (rows_of row m) (row m) i 0)

      earlier : n < m → get_or (rows_of row m) (n * k + i) 0 ≡ get_or (row n) i 0 → get_or (rows_of row m ++ row m) (n * k + i) 0 ≡ get_or (row n) i 0
      earlier less here = get_or-append (rows_of row m) (row m) 0 (n * k + i) (omega (arith, size, mul-le-mul_right k less)) ∙ here

  -- so the column of a record's field is read back, from the rows of a record and whatever follows
  column_back :
      (count : ℕ) (rest : List ℕ) (i : ℕ) (column : List ℕ)
      → i < k
      → length column ≡ 64
      → ((n : ℕ) → get_or (row n) i 0 ≡ get_or column n 0)
      → column_of k ((count ∷ rows_of row 64) ++ rest) i ≡ column
  unfolding column_of
  column_back count rest i column inside size same =
      tabulate_is _ column 64 size
      (λ n low. ap (λ (m : ℕ). get_or ((count ∷ rows_of row 64) ++ rest) m 0) (place n)
      ∙ get_or-append (rows_of row 64) rest 0 (n * k + i) (within n low) ∙ row_at 64 n i low inside ∙ same n)
    where
      place : (n : ℕ) → 1 + n * k + i ≡ suc (n * k + i)
      place n = omega arith

      within : (n : ℕ) → n < 64 → n * k + i < length (rows_of row 64)
      within n low = omega (arith, rows_length row k wide 64, mul-le-mul_right k low)

  -- and rows of what was read from bytes as columns are these bytes
  rows_back : (bytes : List ℕ) → ((n i : ℕ) → i < k → get_or (row n) i 0 ≡ get_or (column_of k bytes i) n 0)
      → (m : ℕ) → m ≤ 64 → 1 + k * m ≤ length bytes
      → get_or bytes 0 0 ∷ rows_of row m ≡ take (1 + k * m) bytes
  unfolding rows_of column_of
  rows_back bytes same zero few long =
      let first : 1 + k * 0 ≡ 1 = omega arith in
      rw first (sym (take-suc bytes 0 0 (omega arith)))
  rows_back bytes same (suc m) few long =
      let before = 1 + k * m in
      let enough : before + k ≤ length bytes = omega arith in
      let size : length (take k (drop before bytes)) ≡ k = length-take-le k (drop before bytes) (omega (arith, length-drop before bytes)) in
      let inside : (i : ℕ) → i < length (row m) → i < k = λ i low. omega (arith, wide m) in
      let here : (i : ℕ) → 1 + m * k + i ≡ before + i = λ i. omega arith in
      let byte : (i : ℕ) → i < length (row m) → get_or (row m) i 0 ≡ get_or (take k (drop before bytes)) i 0 =
      λ i low. same m i (inside i low) ∙ tabulate_at (λ n. get_or bytes (1 + n * k + i) 0) 64 m few
      ∙ ap (λ (n : ℕ). get_or bytes n 0) (here i)
      ∙ sym (get_or-take k (drop before bytes) i 0 (inside i low) ∙ get_or-drop before bytes i 0) in
      let next : before + k ≡ 1 + k * suc m = omega arith in
      ap (λ (l : List ℕ). l ++ row m) (rows_back bytes same m (omega arith) (omega arith))
      ∙ ap (λ (l : List ℕ). take before bytes ++ l) (ext_get_or 0 (row m) (take k (drop before bytes)) (wide m ∙ sym size) byte)
      ∙ sym (take-add before k bytes)
      ∙ ap (λ (n : ℕ). take n bytes) next

-- a cell record as it stands in memory: every column has 64 lines, and there are six limits
pub record WholeCell (c : Cell) : Type 0 where
  pub columns : Columns c
  pub limits : length c.limits ≡ 6

pub cell_back : (c : Cell) (rest : List ℕ) → WholeCell c → cell_from (cell_bytes c ++ rest) ≡ c
unfolding cell_from cell_bytes cell_row
cell_back c rest whole =
    let wide : (n : ℕ) → length (cell_row c n) ≡ 5 = λ n. refl in
    let lines = c.count ∷ rows_of (cell_row c) 64 in
    let size : length lines ≡ 321 = omega (arith, rows_length (cell_row c) 5 wide 64) in
    let limits = tabulate 6 (λ k. get_or c.limits k 0) in
    let six : length limits ≡ 6 = length_tabulate (λ k. get_or c.limits k 0) 6 in
    let behind = limits ++ rest in
    let long : 327 ≤ length (lines ++ behind) =
    omega (arith, length-append lines behind, length-append limits rest) in
    let limit : (k : ℕ) → k < 6 → get_or (lines ++ behind) (321 + k) 0 ≡ get_or c.limits k 0 =
    λ k low. ap (λ (n : ℕ). get_or (lines ++ behind) (n + k) 0) (sym size) ∙ get_or-append-add lines behind k 0
    ∙ get_or-append limits rest 0 k (omega arith) ∙ tabulate_at (λ k. get_or c.limits k 0) 6 k low in
    ap cell_from (append_assoc lines limits rest) ∙ rw (le-ltb _ 327 long) (λ i. record {
      count = c.count;
      resource = column_back (cell_row c) 5 wide c.count behind 0 c.resource (omega arith) whole.columns.resource (λ n. refl) i;
      from = column_back (cell_row c) 5 wide c.count behind 1 c.from (omega arith) whole.columns.from (λ n. refl) i;
      act = column_back (cell_row c) 5 wide c.count behind 2 c.act (omega arith) whole.columns.act (λ n. refl) i;
      arg = column_back (cell_row c) 5 wide c.count behind 3 c.arg (omega arith) whole.columns.arg (λ n. refl) i;
      to = column_back (cell_row c) 5 wide c.count behind 4 c.to (omega arith) whole.columns.to (λ n. refl) i;
      limits = tabulate_is (λ k. get_or (lines ++ behind) (321 + k) 0) c.limits 6 whole.limits limit i;
    })

-- the same of a recipe record
pub record WholeRecipe (r : Recipe) : Type 0 where
  pub point : length r.point ≡ 64
  pub kind : length r.kind ≡ 64
  pub op : length r.op ≡ 64
  pub takes : length r.takes ≡ 64
  pub gives : length r.gives ≡ 64
  pub then : length r.then ≡ 64
  pub otherwise : length r.otherwise ≡ 64

-- "449 bytes"
pub recipe_length : (r : Recipe) → length (recipe_bytes r) ≡ 449
unfolding recipe_bytes recipe_row
recipe_length r = omega (arith, rows_length (recipe_row r) 7 (λ n. refl) 64)

pub recipe_back : (r : Recipe) (rest : List ℕ) → WholeRecipe r → recipe_from (recipe_bytes r ++ rest) ≡ r
unfolding recipe_from recipe_bytes recipe_row
recipe_back r rest whole =
    let wide : (n : ℕ) → length (recipe_row r n) ≡ 7 = λ n. refl in
    let long : 449 ≤ length (recipe_bytes r ++ rest) = omega (arith, length-append (recipe_bytes r) rest, recipe_length r) in
    rw (le-ltb _ 449 long) (λ i. record {
      count = r.count;
      point = column_back (recipe_row r) 7 wide r.count rest 0 r.point (omega arith) whole.point (λ n. refl) i;
      kind = column_back (recipe_row r) 7 wide r.count rest 1 r.kind (omega arith) whole.kind (λ n. refl) i;
      op = column_back (recipe_row r) 7 wide r.count rest 2 r.op (omega arith) whole.op (λ n. refl) i;
      takes = column_back (recipe_row r) 7 wide r.count rest 3 r.takes (omega arith) whole.takes (λ n. refl) i;
      gives = column_back (recipe_row r) 7 wide r.count rest 4 r.gives (omega arith) whole.gives (λ n. refl) i;
      then = column_back (recipe_row r) 7 wide r.count rest 5 r.then (omega arith) whole.then (λ n. refl) i;
      otherwise = column_back (recipe_row r) 7 wide r.count rest 6 r.otherwise (omega arith) whole.otherwise (λ n. refl) i;
    })

-- a cell that bytes hold is whole
pub bytes_whole_cell : (bytes : List ℕ) → 327 ≤ length bytes → WholeCell (cell_from bytes)
unfolding cell_from column_of
bytes_whole_cell bytes long =
    rw (le-ltb (length bytes) 327 long)
    (record {
      columns =
          record {
            resource = length_tabulate _ 64;
            from = length_tabulate _ 64;
            act = length_tabulate _ 64;
            arg = length_tabulate _ 64;
            to = length_tabulate _ 64;
          };
      limits = length_tabulate _ 6;
    })

-- a cell with these limits in the place of its own
abbrev pub limited_to : Cell → List ℕ → Cell
limited_to c limits =
    record {
      count = c.count;
      resource = c.resource;
      from = c.from;
      act = c.act;
      arg = c.arg;
      to = c.to;
      limits = limits;
    }

module _ (bytes : List ℕ) (long : 327 ≤ length bytes) where
  -- a cell that was decoded, but for its limits, is encoded as the bytes that held it and these limits
  pub cell_lines_back : (limits : List ℕ) → cell_bytes (limited_to (cell_from bytes) limits) ≡ take 321 bytes ++ tabulate 6 (λ k. get_or limits k 0)
  unfolding cell_from cell_bytes cell_row
  cell_lines_back limits =
      ap (λ (l : List ℕ). l ++ tabulate 6 (λ k. get_or limits k 0))
      (ap (λ (n : ℕ). n ∷ rows_of row 64) count ∙ rows_back row 5 (λ n. refl) bytes field 64 (omega arith) (omega arith))
    where
      row : ℕ → List ℕ
      row = cell_row (limited_to (cell_from bytes) limits)

      held : ltb (length bytes) 327 ≡ false
      held = le-ltb (length bytes) 327 long

      count : (cell_from bytes).count ≡ get_or bytes 0 0
      count = rw held

      field : (n i : ℕ) → i < 5 → get_or (row n) i 0 ≡ get_or (column_of 5 bytes i) n 0
      field n zero low = rw held
      field n (suc zero) low = rw held
      field n (suc (suc zero)) low = rw held
      field n (suc (suc (suc zero))) low = rw held
      field n (suc (suc (suc (suc zero)))) low = rw held
      field n (suc (suc (suc (suc (suc i))))) low = absurd (omega arith)

  -- so with its own limits it is encoded as those bytes
  pub cell_bytes_back : cell_bytes (cell_from bytes) ≡ take 327 bytes
  unfolding cell_from
  cell_bytes_back =
      cell_lines_back (cell_from bytes).limits ∙ ap (λ (l : List ℕ). take 321 bytes ++ l) own ∙ sym (take-add 321 6 bytes)
    where
      limit : (k : ℕ) → k < 6 → get_or (cell_from bytes).limits k 0 ≡ get_or (take 6 (drop 321 bytes)) k 0
      limit k low =
          rw (le-ltb (length bytes) 327 long)
          (tabulate_at (λ k. get_or bytes (321 + k) 0) 6 k low ∙ sym (get_or-take 6 (drop 321 bytes) k 0 low ∙ get_or-drop 321 bytes k 0))

      own : tabulate 6 (λ k. get_or (cell_from bytes).limits k 0) ≡ take 6 (drop 321 bytes)
      own =
          tabulate_is (λ k. get_or (cell_from bytes).limits k 0) (take 6 (drop 321 bytes)) 6
          (length-take-le 6 (drop 321 bytes) (omega (arith, length-drop 321 bytes))) limit
