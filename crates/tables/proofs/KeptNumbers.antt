-- What rule 2 finds, and the numbers that it keeps. Assumes nothing.
use mathlib.Core.Path.{◌≡◌, refl, sym, ap, ◌∙◌}
use mathlib.Core.Bool.{Bool, true, false, cond, ◌||◌}
use mathlib.Core.List.{List, [], ◌++◌}
use Prim.Native.Nat.{ℕ, ◌+◌, ◌*◌, ◌<◌, ◌≤◌}
use native.Mathlib.Decide.{dec_lt}
use native.Mathlib.Omega.{arith}
use lib.Dec.{ltb}
use lib.ListN.{length, get_or, take, drop, replicate, length-map, get_or-append, get_or-map}
use lib.Seq.{sets-eq, length-sets, length-take-le, get_or-drop, get_or-take, get_or-append-add}
use borrow.Author.Tests.{lt-ltb, le-ltb, eqb-true}
use Rattle.std.specs.Prelude.{Some, Result, Ok, Err}
use Rattle.refusals.specs.declared.Refusal.TheVariants.{Form}
use Rattle.refusals.specs.declared.Broken.{Broken}
use Rattle.refusals.proofs.Verdicts.{and_left}
use Rattle.tables.specs.declared.Line.{Line}
use Rattle.tables.specs.Lines.{parted, lines, value_lines, shown_line, extent}
use Rattle.tables.specs.Numbers.{decimal, is_row}
use Rattle.tables.specs.Table.{first_broken, is_broken, number_at}
use Rattle.tables.specs.Reading.{line_of, breaks, form_of, kept_line, Kept, FormChecked, up_to, past, unended, numbers}
use Rattle.tables.proofs.TextPieces.{lines_past, unended_past, extent_lines}
use Rattle.tables.proofs.ValueLines.{Judges, a_row}

-- what rule 2 found
pub whole : (k : ℕ) (f : List ℕ) (count : ℕ) → Ok count ≡ form_of k f → (breaks k f ≡ false) × (count ≡ length (value_lines f))
unfolding form_of
whole k f count e = judge (breaks k f) e
  where
    judge : (t : Bool)
        → ◌≡◌ {A = Result ℕ Broken} (Ok count)
        (cond t (Err (record { rule = Form; line = first_broken k (value_lines f) + 2 })) (Ok (length (value_lines f))))
        → (t ≡ false) × (count ≡ length (value_lines f))
    judge true w = (cc, cc)
    judge false w = (refl, cc)

pub broken : (k : ℕ) (f : List ℕ) (b : Broken) → Err b ≡ form_of k f
    → (breaks k f ≡ true) × (b ≡ record { rule = Form; line = first_broken k (value_lines f) + 2 })
unfolding form_of
broken k f b e = judge (breaks k f) e
  where
    judge : (t : Bool)
        → Err b ≡ cond t (Err (record { rule = Form; line = first_broken k (value_lines f) + 2 })) (Ok (length (value_lines f)))
        → (t ≡ true) × (b ≡ record { rule = Form; line = first_broken k (value_lines f) + 2 })
    judge true w = (refl, cc)
    judge false w = (cc, cc)

-- and in a file with a names line that is what the rule asks
pub breaks_is : (k : ℕ) (f : List ℕ) → length (up_to 10 f) < length f → breaks k f ≡ is_broken k f
unfolding breaks is_broken
breaks_is k f named =
    ap (λ (t : Bool). ltb (first_broken k (value_lines f)) (length (value_lines f)) || t) (decide (dec_lt 0 (length (unended (past 10 f)))))
  where
    all : extent (lines f) + length (unended (past 10 f)) ≡ length f
    all = ap (λ (t : List ℕ). extent (lines f) + length t) (sym (unended_past f named)) ∙ extent_lines f

    decide : Dec (0 < length (unended (past 10 f))) → ltb 0 (length (unended (past 10 f))) ≡ ltb (extent (lines f)) (length f)
    decide (yes some) = lt-ltb 0 (length (unended (past 10 f))) some ∙ sym (lt-ltb (extent (lines f)) (length f) (omega (arith, all)))
    decide (no none) = le-ltb 0 (length (unended (past 10 f))) (omega arith) ∙ sym (le-ltb (extent (lines f)) (length f) (omega (arith, all)))

row_length : (k : ℕ) (l : List ℕ) → is_row k l ≡ true → length (numbers l) ≡ k
unfolding is_row numbers
row_length k l good = length-map (parted 44 l) (decimal 0) ∙ eqb-true (length (parted 44 l)) k (and_left _ _ good)

-- the line at hand is value line n, and its numbers are the file's
module _ (k : ℕ) (f : List ℕ) (n at : ℕ) (J : Judges k f n at) (L : Line) (is : Some L ≡ line_of k (drop at f)) (few : k ≤ 7) where
  pub line_size : length L.values ≡ 7
  line_size = let r = a_row k (drop at f) L is in ap length r.values_are ∙ length-sets (replicate 7 0) 0 (numbers (up_to 10 (drop at f)))

  pub line_number : (j : ℕ) → j < k → get_or L.values j 0 ≡ number_at f j n
  unfolding number_at shown_line numbers decimal
  line_number j less =
      let r = a_row k (drop at f) L is in
      let l = up_to 10 (drop at f) in
      let here : get_or (value_lines f) n [] ≡ l =
      sym (get_or-drop n (value_lines f) 0 [] ∙ ap (λ (i : ℕ). get_or (value_lines f) i []) (omega arith))
      ∙ ap (λ (ls : List (List ℕ)). get_or ls 0 []) (sym J.lines_are ∙ lines_past (drop at f) r.ended) in
      let wide : length (numbers l) ≡ k = row_length k l r.good in
      ap (λ (vs : List ℕ). get_or vs j 0) (r.values_are ∙ sets-eq (numbers l) (replicate 7 0) 0 (omega arith))
      ∙ get_or-append (numbers l) (drop (0 + length (numbers l)) (replicate 7 0)) 0 j (omega arith)
      ∙ get_or-map (decimal 0) (parted 44 l) j []
      ∙ ap (λ (t : List ℕ). decimal 0 (get_or (parted 44 t) j [])) (sym here)

-- values put into a store: what stands among them, and what stands before
module _ (l vs : List ℕ) (at : ℕ) (room : at ≤ length l) where
  front : length (take at l) ≡ at
  front = length-take-le at l room

  stored_in : (j : ℕ) (after : List ℕ) → j < length vs → get_or (take at l ++ (vs ++ after)) (at + j) 0 ≡ get_or vs j 0
  stored_in j after low =
      ap (λ (i : ℕ). get_or (take at l ++ (vs ++ after)) (i + j) 0) (sym front)
      ∙ get_or-append-add (take at l) (vs ++ after) j 0
      ∙ get_or-append vs after 0 j low

  stored_under : (p : ℕ) (after : List ℕ) → p < at → get_or (take at l ++ after) p 0 ≡ get_or l p 0
  stored_under p after low = get_or-append (take at l) after 0 p (omega (arith, front)) ∙ get_or-take at l p 0 low

pub kept_none : (k : ℕ) (f store : List ℕ) → Kept k f 0 store
kept_none k f store = record { number = λ i j low few less. absurd (omega arith) }

-- one line more
pub kept_more : (k : ℕ) (f : List ℕ) (n : ℕ) (store vs : List ℕ) → k ≤ length vs → length vs ≡ 7 → 448 ≤ length store → Kept k f n store
    → ((j : ℕ) → j < k → get_or vs j 0 ≡ number_at f j n)
    → Kept k f (n + 1) (kept_line store n vs)
unfolding kept_line
kept_more k f n store vs few size room K line = record { number = λ i j low small less. place i j low small less (dec_lt i n) (dec_lt n 64) }
  where
    after : List ℕ
    after = drop (n * 7 + 7) store

    place : (i j : ℕ) → i < n + 1 → i < 64 → j < k → Dec (i < n) → Dec (n < 64)
        → get_or (cond (ltb n 64) (take (n * 7) store ++ (vs ++ after)) store) (i * 7 + j) 0 ≡ number_at f j i
    place i j low small less (yes before) (yes inside) =
        rw (lt-ltb n 64 inside) (stored_under store vs (n * 7) (omega arith) (i * 7 + j) (vs ++ after) (omega arith) ∙ K.number i j before small less)
    place i j low small less (yes before) (no past) = rw (le-ltb n 64 (omega arith)) (K.number i j before small less)
    place i j low small less (no here) q =
        let e : i ≡ n = omega arith in
        rw (e, lt-ltb n 64 (omega arith)) (stored_in store vs (n * 7) (omega arith) j after (omega arith) ∙ line j less)

pub checked_broken : (k : ℕ) (f : List ℕ) (b : Broken) (store : List ℕ) → Err b ≡ form_of k f → FormChecked k f (Err b) store
checked_broken k f b store e =
    record { form_is = e; kept = λ (count : ℕ) (w : ◌≡◌ {A = Result ℕ Broken} (Err b) (Ok count)). cc }

pub checked_whole : (k : ℕ) (f : List ℕ) (n : ℕ) (store : List ℕ) → Ok n ≡ form_of k f → Kept k f n store → FormChecked k f (Ok n) store
checked_whole k f n store e K =
    record { form_is = e; kept = λ (count : ℕ) (w : ◌≡◌ {A = Result ℕ Broken} (Ok n) (Ok count)). let same : n ≡ count = cc in rw same at K }
