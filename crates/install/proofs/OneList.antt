-- The list is determined: two lists that rise and have the same lines are one, so two calls on the same records give the same count and
-- the same bytes. Assumes nothing.
use mathlib.Core.Path.{◌≡◌, refl, sym, ap, subst, ◌∙◌}
use mathlib.Core.Logic.{◌⊎◌, inl, inr}
use mathlib.Core.Bool.{Bool, true, false, true≢false, ◌&&◌, ◌||◌}
use mathlib.Core.List.{List, [], ◌∷◌}
use Prim.Native.Nat.{ℕ, ◌<◌}
use native.Mathlib.Omega.{arith}
use lib.ListN.{length}
use lib.Dec.{eqb, ltb}
use borrow.Author.Tests.{eqb-true, ltb-true}
use Rattle.refusals.specs.Verdict.{Accepted}
use Rattle.refusals.proofs.Verdicts.{and_left, and_right, or_cases}
use Rattle.cell.specs.declared.Cell.{Cell}
use Rattle.cell.specs.declared.OperationLine.{OperationLine}
use Rattle.recipe.specs.declared.Recipe.{Recipe}
use Rattle.simulation.specs.Simulation.{Realisable}
use Rattle.install.specs.Order.{same_line, is_among, comes_before, is_first, rises, filled_with}
use Rattle.install.specs.Call.{Listing, check_install, Listed, InstallCall}
use Rattle.install.proofs.Members.{same_line_lem, line_same, or_either, none_among}

-- what comes first of four numbers
level : (a b : ℕ) (rest : Bool) → (ltb a b || (eqb a b && rest)) ≡ true → (a < b) ⊎ ((a ≡ b) × (rest ≡ true))
level a b rest e = decide (or_cases (ltb a b) _ e)
  where
    decide : (ltb a b ≡ true) ⊎ ((eqb a b && rest) ≡ true) → (a < b) ⊎ ((a ≡ b) × (rest ≡ true))
    decide (inl less) = inl (ltb-true a b less)
    decide (inr same) = inr (eqb-true a b (and_left (eqb a b) rest same), and_right (eqb a b) rest same)

level_once :
    (a b : ℕ) (s t : Bool)
    → (s ≡ true → t ≡ true → ⊥)
    → (ltb a b || (eqb a b && s)) ≡ true
    → (ltb b a || (eqb b a && t)) ≡ true
    → ⊥
level_once a b s t rest e f = decide (level a b s e) (level b a t f)
  where
    decide : (a < b) ⊎ ((a ≡ b) × (s ≡ true)) → (b < a) ⊎ ((b ≡ a) × (t ≡ true)) → ⊥
    decide (inl less) (inl more) = omega arith
    decide (inl less) (inr same) = omega (arith, same.0)
    decide (inr same) (inl more) = omega (arith, same.0)
    decide (inr same) (inr again) = rest same.1 again.1

-- of two lines not both come before the other
before_once : (l m : OperationLine) → comes_before l m ≡ true → comes_before m l ≡ true → ⊥
unfolding comes_before
before_once l m =
    level_once l.resource m.resource _ _
    (level_once l.from m.from _ _
    (level_once l.operation m.operation _ _
    (λ e f.
    let less : l.to < m.to = ltb-true l.to m.to e in
    let more : m.to < l.to = ltb-true m.to l.to f in omega arith)))

first_before : (l m : OperationLine) (xs : List OperationLine) → is_first l xs ≡ true → is_among m xs ≡ true → comes_before l m ≡ true
unfolding is_first is_among
first_before l m [] first there = absurd (true≢false (sym there))
first_before l m (x ∷ xs) first there = decide (first_before l m xs) (or_cases (same_line m x) _ there)
  where
    decide : (is_first l xs ≡ true → is_among m xs ≡ true → comes_before l m ≡ true) → (same_line m x ≡ true) ⊎ (is_among m xs ≡ true) → comes_before l m ≡ true
    decide on (inl same) = subst (λ (y : OperationLine). comes_before l y ≡ true) (sym (same_line_lem m x same)) (and_left (comes_before l x) (is_first l xs) first)
    decide on (inr later) = on (and_right (comes_before l x) (is_first l xs) first) later

-- the first lines of two such lists are the same, and so are the rests
pub same_lists :
    (xs ys : List OperationLine)
    → rises xs ≡ true
    → rises ys ≡ true
    → ((l : OperationLine) → is_among l xs ≡ true → is_among l ys ≡ true)
    → ((l : OperationLine) → is_among l ys ≡ true → is_among l xs ≡ true)
    → xs ≡ ys
unfolding rises is_among
same_lists [] [] up down to back = refl
same_lists [] (y ∷ ys) up down to back = absurd (none_among y (back y (rw (line_same y))))
same_lists (x ∷ xs) [] up down to back = absurd (none_among x (to x (rw (line_same x))))
same_lists (x ∷ xs) (y ∷ ys) up down to back =
    (λ i. heads i ∷ xs)
    ∙ ap (λ (zs : List OperationLine). y ∷ zs)
    (same_lists xs ys (and_right (is_first x xs) (rises xs) up) (and_right (is_first y ys) (rises ys) down) (onward heads) (backward heads))
  where
    least : is_first x xs ≡ true
    least = and_left (is_first x xs) (rises xs) up

    least' : is_first y ys ≡ true
    least' = and_left (is_first y ys) (rises ys) down

    heads : x ≡ y
    heads = decide (or_cases (same_line x y) _ (to x (rw (line_same x)))) (or_cases (same_line y x) _ (back y (rw (line_same y))))
      where
        decide : (same_line x y ≡ true) ⊎ (is_among x ys ≡ true) → (same_line y x ≡ true) ⊎ (is_among y xs ≡ true) → x ≡ y
        decide (inl same) other = same_line_lem x y same
        decide (inr there) (inl same) = sym (same_line_lem y x same)
        decide (inr there) (inr here) = absurd (before_once x y (first_before x y xs least here) (first_before y x ys least' there))

    onward : x ≡ y → (l : OperationLine) → is_among l xs ≡ true → is_among l ys ≡ true
    onward e l there = decide (or_cases (same_line l y) _ (to l (or_either (same_line l x) there)))
      where
        decide : (same_line l y ≡ true) ⊎ (is_among l ys ≡ true) → is_among l ys ≡ true
        decide (inr here) = here
        decide (inl same) =
            let is : l ≡ x = same_line_lem l y same ∙ sym e in
            let less : comes_before x x ≡ true = subst (λ (m : OperationLine). comes_before x m ≡ true) is (first_before x l xs least there) in
            absurd (before_once x x less less)

    backward : x ≡ y → (l : OperationLine) → is_among l ys ≡ true → is_among l xs ≡ true
    backward e l there = decide (or_cases (same_line l x) _ (back l (or_either (same_line l y) there)))
      where
        decide : (same_line l x ≡ true) ⊎ (is_among l xs ≡ true) → is_among l xs ≡ true
        decide (inr here) = here
        decide (inl same) =
            let is : l ≡ y = same_line_lem l x same ∙ e in
            let less : comes_before y y ≡ true = subst (λ (m : OperationLine). comes_before y m ≡ true) is (first_before y l ys least' there) in
            absurd (before_once y y less less)

-- so the lines that mend a cell are one list
pub listed_once : (c : Cell) (r : Recipe) (xs ys : List OperationLine) → Listed c r xs → Listed c r ys → xs ≡ ys
listed_once c r xs ys L M =
    same_lists xs ys L.order M.order (λ l there. M.every l (L.candidates l there) (L.mend l there))
    (λ l there. L.every l (M.candidates l there) (M.mend l there))

-- whether two lists are the same can be tested
eq_lines : List OperationLine → List OperationLine → Bool
eq_lines [] [] = true
eq_lines [] (y ∷ ys) = false
eq_lines (x ∷ xs) [] = false
eq_lines (x ∷ xs) (y ∷ ys) = same_line x y && eq_lines xs ys

eq_lines_lem : (xs ys : List OperationLine) → eq_lines xs ys ≡ true → xs ≡ ys
unfolding eq_lines
eq_lines_lem [] [] e = refl
eq_lines_lem [] (y ∷ ys) e = absurd (true≢false (sym e))
eq_lines_lem (x ∷ xs) [] e = absurd (true≢false (sym e))
eq_lines_lem (x ∷ xs) (y ∷ ys) e =
    let head : x ≡ y = same_line_lem x y (and_left (same_line x y) (eq_lines xs ys) e) in
    let tail : xs ≡ ys = eq_lines_lem xs ys (and_right (same_line x y) (eq_lines xs ys) e) in
    λ i. head i ∷ tail i

lines_eq : (xs : List OperationLine) → eq_lines xs xs ≡ true
unfolding eq_lines
lines_eq [] = refl
lines_eq (x ∷ xs) = rw (line_same x, lines_eq xs)

not_other : (xs ys : List OperationLine) → ((xs ≡ ys → ⊥) → ⊥) → xs ≡ ys
not_other xs ys same = decide (eq_lines xs ys) refl
  where
    decide : (b : Bool) → eq_lines xs ys ≡ b → xs ≡ ys
    decide true e = eq_lines_lem xs ys e
    decide false e =
        absurd (same (λ is. true≢false (sym (lines_eq xs) ∙ ap (eq_lines xs) is ∙ e)))

-- two calls on the same records, with the same lengths and the same buffer lent: their answers, and the buffers afterwards
pub record SameAnswer (answer again : Listing) (list' list'' : List ℕ) : Type 0 where
  pub verdict : answer.verdict ≡ again.verdict
  pub count : answer.count ≡ again.count
  pub list : list' ≡ list''

module _
    (c : Cell) (r : Recipe) (table scratch list : List ℕ)
    {table' scratch' list' table'' scratch'' list'' : List ℕ} {answer again : Listing}
    (A : InstallCall c r table scratch list table' scratch' list' answer)
    (B : InstallCall c r table scratch list table'' scratch'' list'' again)
  where
    same_lines : A.lines ≡ B.lines
    same_lines =
        not_other A.lines B.lines
        (λ other.
        let none : A.lines ≡ [] → B.lines ≡ [] → ⊥ = λ e f. other (e ∙ sym f) in
        let lacks : Realisable c (r ∷ []) → ⊥ = λ realisable. none (A.none_needed realisable) (B.none_needed realisable) in
        let refused : check_install c r (length table) (length scratch) ≡ Accepted → ⊥ =
        λ accepted. other (listed_once c r A.lines B.lines (A.listed accepted lacks) (B.listed accepted lacks)) in
        none (A.none_refused refused) (B.none_refused refused))

    -- what is free is the content of table and scratch alone
    pub one_answer : SameAnswer answer again list' list''
    one_answer =
        record {
          verdict = A.verdict_is ∙ sym B.verdict_is;
          count = A.count_is ∙ ap length same_lines ∙ sym B.count_is;
          list = A.list_is ∙ ap (λ (lines : List OperationLine). filled_with lines list) same_lines ∙ sym B.list_is;
        }
