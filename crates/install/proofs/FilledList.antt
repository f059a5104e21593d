-- The lent buffer, line by line. Assumes nothing.
use mathlib.Core.Path.{◌≡◌, refl, sym, ap, ◌∙◌}
use mathlib.Core.List.{List, [], ◌∷◌, ◌++◌}
use Prim.Native.Nat.{ℕ, ◌+◌, ◌*◌, ◌/◌, ◌<◌, ◌≤◌}
use native.Mathlib.Nat.{min-le_left}
use native.Mathlib.Omega.{arith}
use lib.ListN.{length, take, drop, length-append, length-take, length-drop}
use lib.Seq.{take-nil, take_all, take-append-le, sets}
use Rattle.buffers.proofs.StoredBytes.{put_next}
use Rattle.cell.specs.declared.OperationLine.{OperationLine}
use Rattle.install.specs.Order.{line_bytes, bytes_of, filled_with}

bytes_append : (xs ys : List OperationLine) → bytes_of (xs ++ ys) ≡ bytes_of xs ++ bytes_of ys
unfolding bytes_of line_bytes
bytes_append [] ys = refl
bytes_append (x ∷ xs) ys = ap (λ (bs : List ℕ). x.resource ∷ x.from ∷ x.operation ∷ x.to ∷ bs) (bytes_append xs ys)

bytes_one : (l : OperationLine) → bytes_of (l ∷ []) ≡ line_bytes l
unfolding bytes_of line_bytes
bytes_one l = refl

bytes_length : (xs : List OperationLine) → length (bytes_of xs) ≡ 4 * length xs
unfolding bytes_of line_bytes
bytes_length [] = refl
bytes_length (x ∷ xs) = omega (arith, bytes_length xs)

module _ (buffer : List ℕ) where
  pub filled_none : filled_with [] buffer ≡ buffer
  unfolding filled_with bytes_of
  filled_none = ap (λ (xs : List OperationLine). bytes_of xs ++ drop (length (bytes_of xs)) buffer) (take-nil (length buffer / 4))

  -- as long as they fit
  all_fit : (xs : List OperationLine) → length xs ≤ length buffer / 4 → filled_with xs buffer ≡ bytes_of xs ++ drop (4 * length xs) buffer
  unfolding filled_with
  all_fit xs room =
      ap (λ (ys : List OperationLine). bytes_of ys ++ drop (length (bytes_of ys)) buffer) (take_all (length buffer / 4) xs room)
      ∙ ap (λ (n : ℕ). bytes_of xs ++ drop n buffer) (bytes_length xs)

  module _ (xs : List OperationLine) (l : OperationLine) where
    -- a line that does not fit is not written
    filled_past : length buffer / 4 ≤ length xs → filled_with (xs ++ (l ∷ [])) buffer ≡ filled_with xs buffer
    unfolding filled_with
    filled_past full =
        ap (λ (ys : List OperationLine). bytes_of ys ++ drop (length (bytes_of ys)) buffer) (take-append-le (length buffer / 4) xs (l ∷ []) full)

    -- one that fits is written behind those before it
    filled_more :
        length xs < length buffer / 4
        → filled_with (xs ++ (l ∷ [])) buffer ≡ sets (filled_with xs buffer) (4 * length xs) (line_bytes l)
    unfolding line_bytes
    filled_more room =
        all_fit (xs ++ (l ∷ [])) (omega (arith, length-append xs (l ∷ [])))
        ∙ ap (λ (n : ℕ). bytes_of (xs ++ (l ∷ [])) ++ drop n buffer) next
        ∙ ap (λ (bs : List ℕ). bs ++ drop (4 * length xs + 4) buffer) (bytes_append xs (l ∷ []) ∙ ap (λ (bs : List ℕ). bytes_of xs ++ bs) (bytes_one l))
        ∙ sym
        (put_next (bytes_of xs) buffer (line_bytes l) (filled_with xs buffer) (sets (filled_with xs buffer) (4 * length xs) (line_bytes l))
        (4 * length xs) (4 * length xs + 4) (all_fit xs (omega arith)) refl (bytes_length xs) refl (omega arith))
      where
        next : 4 * length (xs ++ (l ∷ [])) ≡ 4 * length xs + 4
        next = omega (arith, length-append xs (l ∷ []))

  -- the buffer keeps its length
  filled_length : (xs : List OperationLine) → length (filled_with xs buffer) ≡ length buffer
  unfolding filled_with
  filled_length xs =
      let few : length (take (length buffer / 4) xs) ≤ length buffer / 4 =
      omega (arith, length-take (length buffer / 4) xs, min-le_left (length buffer / 4) (length xs)) in
      length-append (bytes_of (take (length buffer / 4) xs)) (drop (length (bytes_of (take (length buffer / 4) xs))) buffer)
      ∙ omega (
        arith,
        bytes_length (take (length buffer / 4) xs),
        length-drop (length (bytes_of (take (length buffer / 4) xs))) buffer,
      )

  -- what the code does with a line, behind so many that were found
  module _ (xs : List OperationLine) (l : OperationLine) (found : ℕ) (list : List ℕ) (many : found ≡ length xs) (is : list ≡ filled_with xs buffer) where
    pub put_past : length list / 4 ≤ found → list ≡ filled_with (xs ++ (l ∷ [])) buffer
    put_past full =
        let same : length list ≡ length buffer = ap length is ∙ filled_length xs in
        is ∙ sym (filled_past xs l (omega arith))

    pub put_there : found < length list / 4 → sets list (4 * found) (line_bytes l) ≡ filled_with (xs ++ (l ∷ [])) buffer
    put_there room =
        let same : length list ≡ length buffer = ap length is ∙ filled_length xs in
        ap (λ (b : List ℕ). sets b (4 * found) (line_bytes l)) is
        ∙ ap (λ (n : ℕ). sets (filled_with xs buffer) (4 * n) (line_bytes l)) many
        ∙ sym (filled_more xs l (omega arith))
