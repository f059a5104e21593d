-- Rule 2 from line to line: n value lines are judged, and the file from `at` on is left. Assumes nothing.
use mathlib.Core.Path.{◌≡◌, refl, sym, ap, ◌∙◌}
use mathlib.Core.Bool.{Bool, true, false, cond, ◌&&◌, ◌||◌}
use mathlib.Core.List.{List, [], ◌∷◌}
use Prim.Native.Nat.{ℕ, suc, ◌+◌, ◌<◌, ◌≤◌}
use native.Mathlib.Omega.{arith}
use lib.Dec.{ltb}
use lib.ListN.{length, drop, replicate, length-drop, drop_of_length-le}
use lib.Seq.{sets, drop-drop}
use borrow.Author.Tests.{lt-ltb, le-ltb, ltb-true, ltb-false}
use Rattle.std.specs.Prelude.{Option, None, Some, Result, Ok, Err}
use Rattle.std.proofs.lemmas.Option.{cond_some}
use Rattle.refusals.specs.declared.Refusal.TheVariants.{Form}
use Rattle.refusals.specs.declared.Broken.{Broken}
use Rattle.refusals.proofs.Verdicts.{and_left, and_right}
use Rattle.tables.specs.declared.Line.{Line}
use Rattle.tables.specs.Lines.{parted, lines, value_lines}
use Rattle.tables.specs.Numbers.{is_row}
use Rattle.tables.specs.Table.{first_broken}
use Rattle.tables.specs.Reading.{NextLine, has, starts_row, line_of, breaks, form_of, up_to, past, last, unended, numbers}
use Rattle.tables.proofs.TextPieces.{past_drop, lines_past, lines_none, unended_past, unended_all}
use Rattle.tables.proofs.LineWalk.{no_lines, value_lines_lem}

-- what a line says of the text: k numbers
module _ (k : ℕ) (s : List ℕ) (L : Line) (is : Some L ≡ line_of k s) where
  pub record Row : Type 0 where
    pub ended : length (up_to 10 s) < length s
    pub good : is_row k (up_to 10 s) ≡ true
    pub length_is : L.length ≡ suc (length (up_to 10 s))
    pub values_are : L.values ≡ sets (replicate 7 0) 0 (numbers (up_to 10 s))

  pub a_row : Row
  unfolding line_of starts_row has
  a_row =
      let p = cond_some (starts_row k s) _ L (sym is) in
      record {
        ended = ltb-true (length (up_to 10 s)) (length s) (and_left _ _ p.0);
        good = and_right _ _ p.0;
        length_is = sym (ap (λ (M : Line). M.length) p.1);
        values_are = sym (ap (λ (M : Line). M.values) p.1);
      }

-- no line: no byte 10 ends it, or it isn't k numbers
module _ (k : ℕ) (s : List ℕ) where
  data NoRow : Type 0 where
    unended_row : length s ≤ length (up_to 10 s) → NoRow
    broken_row : length (up_to 10 s) < length s → is_row k (up_to 10 s) ≡ false → NoRow

  no_row : None ≡ line_of k s → NoRow
  unfolding line_of starts_row has
  no_row none = judge (ltb (length (up_to 10 s)) (length s)) (is_row k (up_to 10 s)) refl refl none
    where
      judge : (a b : Bool) → ltb (length (up_to 10 s)) (length s) ≡ a → is_row k (up_to 10 s) ≡ b
          → ◌≡◌ {A = Option Line} None
          (cond (a && b) (Some (record { length = suc (length (up_to 10 s)); values = sets (replicate 7 0) 0 (numbers (up_to 10 s)) })) None)
          → NoRow
      judge true true e g l = cc
      judge true false e g l = broken_row (ltb-true (length (up_to 10 s)) (length s) e) g
      judge false b e g l = unended_row (ltb-false (length (up_to 10 s)) (length s) e)

pub record Judges (k : ℕ) (f : List ℕ) (n at : ℕ) : Type 0 where
  pub within : at ≤ length f
  pub fewer : n ≤ at
  pub broken : n + first_broken k (lines (drop at f)) ≡ first_broken k (value_lines f)
  pub count : n + length (lines (drop at f)) ≡ length (value_lines f)
  pub tail : unended (drop at f) ≡ unended (past 10 f)
  pub lines_are : lines (drop at f) ≡ drop n (value_lines f)

pub judges_none : (k : ℕ) (f : List ℕ) (r : ℕ) → NextLine f 0 r → Judges k f 0 r
judges_none k f r N =
    record {
      within = N.within;
      fewer = omega arith;
      broken = ap (λ (t : List ℕ). 0 + first_broken k (lines t)) N.rest ∙ omega (arith, ap (first_broken k) (value_lines_lem f));
      count = ap (λ (t : List ℕ). 0 + length (lines t)) N.rest ∙ omega (arith, ap length (value_lines_lem f));
      tail = ap unended N.rest;
      lines_are = ap lines N.rest ∙ sym (value_lines_lem f);
    }

no_tail : unended [] ≡ []
unfolding unended parted last
no_tail = refl

module _ (k : ℕ) (f : List ℕ) (n at : ℕ) (J : Judges k f n at) where
  pub judges_end : length f ≤ at → Ok n ≡ form_of k f
  unfolding form_of breaks first_broken
  judges_end end =
      let none : drop at f ≡ [] = drop_of_length-le f end in
      let b : first_broken k (value_lines f) ≡ n = sym J.broken ∙ ap (λ (t : List (List ℕ)). n + first_broken k t) (ap lines none ∙ no_lines) ∙ omega arith in
      let m : length (value_lines f) ≡ n = sym J.count ∙ ap (λ (t : List (List ℕ)). n + length t) (ap lines none ∙ no_lines) ∙ omega arith in
      let t : unended (past 10 f) ≡ [] = sym J.tail ∙ ap unended none ∙ no_tail in
      rw (b, m, t, le-ltb n n (omega arith))

  module _ (L : Line) (is : Some L ≡ line_of k (drop at f)) where
    pub row_within : at + L.length ≤ length f
    row_within =
        let r = a_row k (drop at f) L is in
        omega (arith, r.ended, r.length_is, length-drop at f, J.within)

    pub judges_more : Judges k f (n + 1) (at + L.length)
    unfolding first_broken
    judges_more =
        let r = a_row k (drop at f) L is in
        let s = drop at f in
        let next : drop (at + L.length) f ≡ past 10 s =
        ap (λ (m : ℕ). drop (at + m) f) r.length_is ∙ sym (drop-drop (suc (length (up_to 10 s))) at f) ∙ sym (past_drop 10 s) in
        let ls : lines s ≡ up_to 10 s ∷ lines (drop (at + L.length) f) = lines_past s r.ended ∙ ap (λ (t : List ℕ). up_to 10 s ∷ lines t) (sym next) in
        let b : first_broken k (lines s) ≡ suc (first_broken k (lines (drop (at + L.length) f))) = rw (ls, r.good) in
        record {
          within = row_within;
          fewer = omega (arith, r.length_is, J.fewer);
          broken = omega (arith, b, J.broken);
          count = omega (arith, ap length ls, J.count);
          tail = ap unended next ∙ sym (unended_past s r.ended) ∙ J.tail;
          lines_are = sym (sym (ap (drop 1) J.lines_are ∙ drop-drop 1 n (value_lines f)) ∙ ap (drop 1) ls);
        }

  pub judges_broken : at < length f → None ≡ line_of k (drop at f) → Err (record { rule = Form; line = n + 2 }) ≡ form_of k f
  unfolding form_of breaks first_broken
  judges_broken low none = decide (no_row k (drop at f) none)
    where
      refused : Result ℕ Broken
      refused = Err (record { rule = Form; line = n + 2 })

      shut : (t : Bool) → refused ≡ cond (t || true) refused (Ok (length (value_lines f)))
      shut true = refl
      shut false = refl

      decide : NoRow k (drop at f) → refused ≡ form_of k f
      decide (unended_row high) =
          let b : first_broken k (value_lines f) ≡ n =
          sym J.broken ∙ ap (λ (t : List (List ℕ)). n + first_broken k t) (lines_none (drop at f) high)
          ∙ omega arith in
          let t : unended (past 10 f) ≡ drop at f = sym J.tail ∙ unended_all (drop at f) high in
          rw (b, t, lt-ltb 0 (length (drop at f)) (omega (arith, length-drop at f))) (shut (ltb n (length (value_lines f))))
      decide (broken_row ended bad) =
          let ls = lines_past (drop at f) ended in
          let z : first_broken k (lines (drop at f)) ≡ 0 = rw (ls, bad) in
          let b : first_broken k (value_lines f) ≡ n = omega (arith, J.broken, z) in
          rw (b, lt-ltb n (length (value_lines f)) (omega (arith, J.count, ap length ls)))
