-- A walk from line to line of a file, each from where the one before it ended. Assumes nothing.
use mathlib.Core.Path.{◌≡◌, refl, sym, ap, ◌∙◌}
use mathlib.Core.List.{List, [], ◌∷◌, ◌++◌}
use Prim.Native.Nat.{ℕ, suc, ◌+◌, ◌-◌, ◌<◌, ◌≤◌}
use native.Mathlib.Decide.{dec_lt}
use native.Mathlib.Numerals.{add-one}
use native.Mathlib.Omega.{arith}
use lib.ListN.{length, get_or, take, drop, length-drop, drop_of_length-le, get_or-eq_default}
use lib.Seq.{drop-drop, get_or-drop, take-suc}
use borrow.Author.Tests.{lt-ltb, le-ltb}
use Rattle.tables.specs.Lines.{parted, lines, value_lines, shown_line, extent, line_start}
use Rattle.tables.specs.Reading.{NextLine, Lies, Lacks, up_to, past}
use Rattle.tables.proofs.TextPieces.{up_to_within, up_to_take, past_drop, lines_past, lines_none}

pub no_lines : lines [] ≡ []
unfolding lines parted
no_lines = refl

extent_append : (a b : List (List ℕ)) → extent (a ++ b) ≡ extent a + extent b
unfolding extent
extent_append [] b = omega arith
extent_append (l ∷ a) b = omega (arith, extent_append a b)

past_none : (s : List ℕ) → length s ≤ length (up_to 10 s) → past 10 s ≡ []
past_none s high = let all : length s ≤ suc (length (up_to 10 s)) = omega arith in past_drop 10 s ∙ drop_of_length-le s all

-- the value lines are those of what follows the names line
pub value_lines_lem : (f : List ℕ) → value_lines f ≡ lines (past 10 f)
unfolding value_lines
value_lines_lem f = decide (dec_lt (length (up_to 10 f)) (length f))
  where
    decide : Dec (length (up_to 10 f) < length f) → drop 1 (lines f) ≡ lines (past 10 f)
    decide (yes low) = ap (drop 1) (lines_past f low)
    decide (no h) =
        let high : length f ≤ length (up_to 10 f) = omega arith in
        ap (drop 1) (lines_none f high) ∙ sym (ap lines (past_none f high) ∙ no_lines)

-- a text that has lines starts with one
pub starts_line : (s : List ℕ) → 0 < length (lines s) → length (up_to 10 s) < length s
starts_line s some = decide (dec_lt (length (up_to 10 s)) (length s))
  where
    decide : Dec (length (up_to 10 s) < length s) → length (up_to 10 s) < length s
    decide (yes h) = h
    decide (no h) =
        let none : lines s ≡ [] = lines_none s (omega arith) in
        absurd (omega (arith, ap length none))

-- the walk stands at `at` before value line k
pub record Stands (f : List ℕ) (k at : ℕ) : Type 0 where
  pub within : at ≤ length f
  pub lines_are : lines (drop at f) ≡ drop k (value_lines f)
  pub at_is : k < length (value_lines f) → at ≡ length (up_to 10 f) + 1 + extent (take k (value_lines f))

-- a file that has value lines has a names line
names_end : (f : List ℕ) → 0 < length (value_lines f) → length (up_to 10 f) < length f
unfolding value_lines
names_end f some = decide (dec_lt (length (up_to 10 f)) (length f))
  where
    decide : Dec (length (up_to 10 f) < length f) → length (up_to 10 f) < length f
    decide (yes h) = h
    decide (no h) =
        let none : drop 1 (lines f) ≡ [] = ap (drop 1) (lines_none f (omega arith)) in
        absurd (omega (arith, ap length none))

-- where a value line starts
start_at : (f : List ℕ) (n : ℕ) → 0 < length (value_lines f) → extent (take (n + 1) (lines f)) ≡ length (up_to 10 f) + 1 + extent (take n (value_lines f))
unfolding extent
start_at f n some =
    let all : lines f ≡ up_to 10 f ∷ value_lines f =
    lines_past f (names_end f some) ∙ ap (λ (l : List (List ℕ)). up_to 10 f ∷ l) (sym (value_lines_lem f)) in
    ap (λ (l : List (List ℕ)). extent (take (n + 1) l)) all ∙ ap (λ (i : ℕ). extent (take i (up_to 10 f ∷ value_lines f))) (add-one n)

-- past the names line
pub stands_first : (f : List ℕ) (r : ℕ) → NextLine f 0 r → Stands f 0 r
unfolding extent
stands_first f r N =
    record {
      within = N.within;
      lines_are = ap lines N.rest ∙ sym (value_lines_lem f);
      at_is = λ (some : 0 < length (value_lines f)). omega (arith, N.moved (names_end f some));
    }

module _ (f : List ℕ) (k at : ℕ) (S : Stands f k at) where
  lines_left : length (lines (drop at f)) ≡ length (value_lines f) - k
  lines_left = ap length S.lines_are ∙ length-drop k (value_lines f)

  -- a step to the next line
  pub stands_next : (r : ℕ) → NextLine f at r → Stands f (k + 1) r
  unfolding extent
  stands_next r N =
      record {
        within = N.within;
        lines_are = ap lines N.rest ∙ step (dec_lt (length (up_to 10 (drop at f))) (length (drop at f)));
        at_is = λ (some : k + 1 < length (value_lines f)). moved some;
      }
    where
      one_more : drop (k + 1) (value_lines f) ≡ drop 1 (lines (drop at f))
      one_more = sym (ap (drop 1) S.lines_are ∙ drop-drop 1 k (value_lines f))

      step : Dec (length (up_to 10 (drop at f)) < length (drop at f)) → lines (past 10 (drop at f)) ≡ drop (k + 1) (value_lines f)
      step (yes low) = sym (one_more ∙ ap (drop 1) (lines_past (drop at f) low))
      step (no high) =
          ap lines (past_none (drop at f) (omega arith)) ∙ no_lines ∙ sym (one_more ∙ ap (drop 1) (lines_none (drop at f) (omega arith)))

      moved : k + 1 < length (value_lines f) → r ≡ length (up_to 10 f) + 1 + extent (take (k + 1) (value_lines f))
      moved some =
          let low : length (up_to 10 (drop at f)) < length (drop at f) = starts_line (drop at f) (omega (arith, lines_left)) in
          let here : up_to 10 (drop at f) ≡ get_or (value_lines f) k [] =
          sym (ap (λ (l : List (List ℕ)). get_or l 0 []) (sym S.lines_are ∙ lines_past (drop at f) low))
          ∙ get_or-drop k (value_lines f) 0 [] ∙ ap (λ (i : ℕ). get_or (value_lines f) i []) (omega arith) in
          let more : extent (take (k + 1) (value_lines f)) ≡ extent (take k (value_lines f)) + (length (get_or (value_lines f) k []) + 1 + 0) =
          ap (λ (i : ℕ). extent (take i (value_lines f))) (add-one k)
          ∙ ap extent (take-suc (value_lines f) k [] (omega arith))
          ∙ extent_append (take k (value_lines f)) (get_or (value_lines f) k [] ∷ []) in
          omega (arith, N.moved low, S.at_is (omega arith), ap length here)

-- no such line
found_none : (f : List ℕ) (n : ℕ) → length (value_lines f) ≤ n → Lacks f n
unfolding shown_line line_start
found_none f n high =
    record { fewer = high; start_is = rw (le-ltb n (length (value_lines f)) high); bytes = get_or-eq_default (value_lines f) [] high }

-- the walk is at the file's end
pub found_past : (f : List ℕ) (k at : ℕ) → Stands f k at → at ≡ length f → (n : ℕ) → k < n → Lacks f n
found_past f k at S end n more =
    let all : length f ≤ at = omega arith in
    let none : lines (drop at f) ≡ [] = ap lines (drop_of_length-le f all) ∙ no_lines in
    found_none f n (omega (arith, lines_left f k at S, ap length none))

module _ (f : List ℕ) (n at : ℕ) (S : Stands f n at) where
  -- no byte 10 ends what stands here
  pub found_end : (m : ℕ) → m ≡ length (up_to 10 (drop at f)) → m ≡ length f - at → Lacks f n
  found_end m is end =
      let none : lines (drop at f) ≡ [] = lines_none (drop at f) (omega (arith, length-drop at f)) in
      found_none f n (omega (arith, lines_left f n at S, ap length none))

  -- the line
  pub found_line : (m : ℕ) → m ≡ length (up_to 10 (drop at f)) → (m ≡ length f - at → ⊥) → Lies f n (record { start = at; length = m })
  unfolding shown_line line_start
  found_line m is more =
      let low : length (up_to 10 (drop at f)) < length (drop at f) = omega (arith, length-drop at f, up_to_within 10 (drop at f), ne) in
      let here : get_or (value_lines f) n [] ≡ up_to 10 (drop at f) =
      sym (get_or-drop n (value_lines f) 0 [] ∙ ap (λ (i : ℕ). get_or (value_lines f) i []) (omega arith))
      ∙ ap (λ (l : List (List ℕ)). get_or l 0 []) (sym S.lines_are ∙ lines_past (drop at f) low) in
      let inside : n < length (value_lines f) = omega (arith, lines_left f n at S, ap length (lines_past (drop at f) low)) in
      record {
        there = inside;
        start_is = rw (lt-ltb n (length (value_lines f)) inside) (S.at_is inside ∙ sym (start_at f n (omega arith)));
        length_is = is ∙ sym (ap length here);
        inside = omega (arith, length-drop at f);
        bytes = ap (λ (i : ℕ). take i (drop at f)) is ∙ up_to_take 10 (drop at f) ∙ sym here;
      }
    where
      ne : (length (up_to 10 (drop at f)) ≡ length f - at) → ⊥
      ne e = more (is ∙ e)
