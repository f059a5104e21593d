-- A text that a byte parts: its first piece and the rest; and so the lines of a file, from where the line before ended.
-- Assumes nothing.
use mathlib.Core.Path.{◌≡◌, refl, sym, ap, ◌∙◌}
use mathlib.Core.Bool.{Bool, true, false, cond, not}
use mathlib.Core.List.{List, [], ◌∷◌}
use Prim.Native.Nat.{ℕ, suc, ◌+◌, ◌-◌, ◌<◌, ◌≤◌}
use native.Mathlib.Decide.{dec_lt}
use native.Mathlib.Omega.{arith}
use lib.Dec.{eqb, ltb}
use lib.ListN.{length, take, drop, length-drop, drop_of_length-le}
use lib.Seq.{drop-drop, take_all}
use borrow.Author.Tests.{lt-ltb, le-ltb}
use Rattle.std.specs.Prelude.{None, Some}
use Rattle.std.specs.Option.{unwrap_or}
use Rattle.std.specs.List.{position, position_or_len}
use Rattle.tables.specs.Lines.{lengthened, parted, lines, extent}
use Rattle.tables.specs.Reading.{NextLine, up_to, past, ended, last, unended}

module _ (x : ℕ) where
  pub up_to_within : (s : List ℕ) → length (up_to x s) ≤ length s
  unfolding up_to
  up_to_within [] = omega arith
  up_to_within (b ∷ s) = step (eqb b x) (up_to_within s)
    where
      step : (t : Bool) → length (up_to x s) ≤ length s → length (cond t [] (b ∷ up_to x s)) ≤ suc (length s)
      step true h = omega arith
      step false h = omega arith

  pub past_drop : (s : List ℕ) → past x s ≡ drop (suc (length (up_to x s))) s
  unfolding up_to past
  past_drop [] = refl
  past_drop (b ∷ s) = step (eqb b x) (past_drop s)
    where
      step : (t : Bool) → past x s ≡ drop (suc (length (up_to x s))) s → cond t s (past x s) ≡ drop (length (cond t [] (b ∷ up_to x s))) s
      step true h = refl
      step false h = h

  pub up_to_take : (s : List ℕ) → take (length (up_to x s)) s ≡ up_to x s
  unfolding up_to
  up_to_take [] = refl
  up_to_take (b ∷ s) = step (eqb b x) (up_to_take s)
    where
      step : (t : Bool) → take (length (up_to x s)) s ≡ up_to x s → take (length (cond t [] (b ∷ up_to x s))) (b ∷ s) ≡ cond t [] (b ∷ up_to x s)
      step true h = refl
      step false h = ap (λ (l : List ℕ). b ∷ l) h

  -- what a search for the byte finds
  up_to_position : (s : List ℕ) → position_or_len (λ b. eqb b x) s ≡ length (up_to x s)
  unfolding up_to
  up_to_position [] = refl
  up_to_position (b ∷ s) = step (eqb b x) (up_to_position s)
    where
      step : (t : Bool) → position_or_len (λ b. eqb b x) s ≡ length (up_to x s)
          → cond (not t) (1 + position_or_len (λ b. eqb b x) s) 0 ≡ length (cond t [] (b ∷ up_to x s))
      step true h = refl
      step false h = omega (arith, h)

  pub up_to_found : (s : List ℕ) → unwrap_or (position (λ b. eqb b x) s) (length s) ≡ length (up_to x s)
  up_to_found s = rw up_to_position (decide (dec_lt (length (up_to x s)) (length s)))
    where
      decide : Dec (length (up_to x s) < length s)
          → unwrap_or (cond (ltb (length (up_to x s)) (length s)) (Some (length (up_to x s))) None) (length s) ≡ length (up_to x s)
      decide (yes low) = rw (lt-ltb (length (up_to x s)) (length s) low)
      decide (no high) = rw (le-ltb (length (up_to x s)) (length s) (omega arith)) (omega (arith, up_to_within s))

  -- the first piece, where the byte stands in the text
  pub parted_past : (s : List ℕ) → length (up_to x s) < length s → parted x s ≡ up_to x s ∷ parted x (past x s)
  unfolding up_to past parted lengthened
  parted_past [] low = absurd (omega arith)
  parted_past (b ∷ s) low = step (eqb b x) (λ h. parted_past s h) low
    where
      step : (t : Bool) → (length (up_to x s) < length s → parted x s ≡ up_to x s ∷ parted x (past x s))
          → length (cond t [] (b ∷ up_to x s)) < suc (length s)
          → cond t ([] ∷ parted x s) (lengthened b (parted x s)) ≡ cond t [] (b ∷ up_to x s) ∷ parted x (cond t s (past x s))
      step true rec h = refl
      step false rec h = ap (lengthened b) (rec (omega arith))

  -- and where it does not
  pub parted_whole : (s : List ℕ) → length s ≤ length (up_to x s) → parted x s ≡ s ∷ []
  unfolding up_to parted lengthened
  parted_whole [] low = refl
  parted_whole (b ∷ s) low = step (eqb b x) (λ h. parted_whole s h) low
    where
      step : (t : Bool) → (length s ≤ length (up_to x s) → parted x s ≡ s ∷ []) → suc (length s) ≤ length (cond t [] (b ∷ up_to x s))
          → cond t ([] ∷ parted x s) (lengthened b (parted x s)) ≡ (b ∷ s) ∷ []
      step true rec h = absurd (omega arith)
      step false rec h = ap (lengthened b) (rec (omega arith))

  pub record Pieces (s : List ℕ) : Type 0 where
    pub first : List ℕ
    pub more : List (List ℕ)
    pub are : parted x s ≡ first ∷ more

  -- there is always a piece
  pub pieces : (s : List ℕ) → Pieces s
  unfolding parted lengthened
  pieces [] = record { first = []; more = []; are = refl }
  pieces (b ∷ s) = step (eqb b x) refl (pieces s)
    where
      step : (t : Bool) → eqb b x ≡ t → Pieces s → Pieces (b ∷ s)
      step true e p = record { first = []; more = parted x s; are = rw e }
      step false e p = record { first = b ∷ p.first; more = p.more; are = rw (e, p.are) }

-- the lines are all pieces but the last
pub lines_ended : (s : List ℕ) → lines s ≡ ended (parted 10 s)
unfolding lines ended
lines_ended s = front (parted 10 s)
  where
    front : (q : List (List ℕ)) → take (length q - 1) q ≡ ended q
    front [] = refl
    front (piece ∷ []) = refl
    front (piece ∷ (next ∷ rest)) =
        let one : length (piece ∷ (next ∷ rest)) - 1 ≡ suc (length (next ∷ rest) - 1) = omega arith in
        ap (λ (n : ℕ). take n (piece ∷ (next ∷ rest))) one ∙ ap (λ (q : List (List ℕ)). piece ∷ q) (front (next ∷ rest))

-- a text that starts with a line
module _ (s : List ℕ) (low : length (up_to 10 s) < length s) where
  pub lines_past : lines s ≡ up_to 10 s ∷ lines (past 10 s)
  unfolding ended
  lines_past =
      let p = pieces 10 (past 10 s) in
      let parts : ended (parted 10 s) ≡ up_to 10 s ∷ ended (parted 10 (past 10 s)) = rw (parted_past 10 s low, p.are) in
      lines_ended s ∙ parts ∙ ap (λ (q : List (List ℕ)). up_to 10 s ∷ q) (sym (lines_ended (past 10 s)))

  pub unended_past : unended s ≡ unended (past 10 s)
  unfolding unended last
  unended_past = let p = pieces 10 (past 10 s) in rw (parted_past 10 s low, p.are)

-- a text in which no line ends
module _ (s : List ℕ) (high : length s ≤ length (up_to 10 s)) where
  pub lines_none : lines s ≡ []
  unfolding ended
  lines_none = lines_ended s ∙ rw (parted_whole 10 s high)

  pub unended_all : unended s ≡ s
  unfolding unended last
  unended_all = rw (parted_whole 10 s high)

-- the lines with their bytes 10, and what no byte 10 ends, are the whole text
pub extent_lines : (s : List ℕ) → extent (lines s) + length (unended s) ≡ length s
unfolding unended extent ended last parted lengthened
extent_lines s = rw (lines_ended s) (whole s)
  where
    longer : (b : ℕ) (first : List ℕ) (more : List (List ℕ))
        → extent (ended ((b ∷ first) ∷ more)) + length (last ((b ∷ first) ∷ more)) ≡ suc (extent (ended (first ∷ more)) + length (last (first ∷ more)))
    longer b first [] = omega arith
    longer b first (next ∷ more) = omega arith

    whole : (s : List ℕ) → extent (ended (parted 10 s)) + length (last (parted 10 s)) ≡ length s
    whole [] = refl
    whole (b ∷ s) = let p = pieces 10 s in step (eqb b 10) p.first p.more p.are (whole s)
      where
        step : (t : Bool) (first : List ℕ) (more : List (List ℕ)) → parted 10 s ≡ first ∷ more
            → extent (ended (parted 10 s)) + length (last (parted 10 s)) ≡ length s
            → extent (ended (cond t ([] ∷ parted 10 s) (lengthened b (parted 10 s)))) + length
            (last (cond t ([] ∷ parted 10 s) (lengthened b (parted 10 s)))) ≡ suc (length s)
        step true first more are h = rw are (omega (arith, rw are at h))
        step false first more are h = rw are (longer b first more ∙ ap suc (rw are at h))

-- what `&f[at..]` is
pub rest : (f : List ℕ) (at : ℕ) → take (length f - at) (drop at f) ≡ drop at f
rest f at = take_all (length f - at) (drop at f) (omega (arith, length-drop at f))

-- the line at a place of a file, and where the next one starts
module _ (f : List ℕ) (at n : ℕ) (fits : at ≤ length f) (is : n ≡ length (up_to 10 (drop at f))) where
  pub line_within : at + n ≤ length f
  line_within = omega (arith, up_to_within 10 (drop at f), length-drop at f)

  pub next_some : at + n < length f → NextLine f at (at + n + 1)
  next_some low =
      let e : at + suc (length (up_to 10 (drop at f))) ≡ at + n + 1 = omega arith in
      record {
        within = omega arith;
        rest = sym (past_drop 10 (drop at f) ∙ drop-drop (suc (length (up_to 10 (drop at f)))) at f ∙ ap (λ (k : ℕ). drop k f) e);
        moved = λ (_ : length (up_to 10 (drop at f)) < length (drop at f)). omega arith;
      }

  pub next_none : length f ≤ at + n → NextLine f at (at + n)
  next_none high =
      let end : length f ≤ at + suc (length (up_to 10 (drop at f))) = omega arith in
      record {
        within = line_within;
        rest =
            drop_of_length-le f high
            ∙ sym (past_drop 10 (drop at f) ∙ drop-drop (suc (length (up_to 10 (drop at f)))) at f ∙ drop_of_length-le f end);
        moved = λ (low : length (up_to 10 (drop at f)) < length (drop at f)). absurd (omega (arith, length-drop at f));
      }
