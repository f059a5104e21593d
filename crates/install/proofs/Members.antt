-- What is among the lines of a list, and lists that rise. Assumes nothing.
use mathlib.Core.Path.{◌≡◌, refl, sym, ap, ◌∙◌}
use mathlib.Core.Logic.{◌⊎◌, inl, inr}
use mathlib.Core.Bool.{Bool, true, false, true≢false, ◌||◌, or_assoc}
use mathlib.Core.List.{List, [], ◌∷◌, ◌++◌}
use borrow.Author.Tests.{eqb-true, eq-eqb}
use Rattle.refusals.proofs.Verdicts.{and_left, and_right, or_cases}
use Rattle.cell.specs.declared.OperationLine.{OperationLine}
use Rattle.install.specs.Order.{same_line, is_among, comes_before, is_first, rises}

pub same_line_lem : (l m : OperationLine) → same_line l m ≡ true → l ≡ m
unfolding same_line
same_line_lem l m e =
    let resource : l.resource ≡ m.resource = eqb-true _ _ (search and_left) in
    let from : l.from ≡ m.from = eqb-true _ _ (search (and_left, and_right)) in
    let operation : l.operation ≡ m.operation = eqb-true _ _ (search (and_left, and_right)) in
    let to : l.to ≡ m.to = eqb-true _ _ (search (and_left, and_right)) in
    λ i. record { resource = resource i; from = from i; operation = operation i; to = to i }

pub line_same : (l : OperationLine) → same_line l l ≡ true
unfolding same_line
line_same l =
    rw (eq-eqb l.resource l.resource refl, eq-eqb l.from l.from refl, eq-eqb l.operation l.operation refl, eq-eqb l.to l.to refl)

-- a test holds beside any other
pub or_either : (x : Bool) {y : Bool} → y ≡ true → (x || y) ≡ true
or_either true e = refl
or_either false e = e

module _ (l : OperationLine) where
  among_append : (xs ys : List OperationLine) → is_among l (xs ++ ys) ≡ (is_among l xs || is_among l ys)
  unfolding is_among
  among_append [] ys = refl
  among_append (x ∷ xs) ys = ap (λ (b : Bool). same_line l x || b) (among_append xs ys) ∙ sym (or_assoc (same_line l x) (is_among l xs) (is_among l ys))

  pub among_one : (m : OperationLine) → is_among l (m ∷ []) ≡ true → l ≡ m
  unfolding is_among
  among_one m e = decide (or_cases (same_line l m) false e)
    where
      decide : (same_line l m ≡ true) ⊎ (false ≡ true) → l ≡ m
      decide (inl same) = same_line_lem l m same
      decide (inr none) = absurd (true≢false (sym none))

  -- a line among those of a list and one more
  pub among_more : (xs : List OperationLine) (m : OperationLine) → is_among l (xs ++ (m ∷ [])) ≡ true → (is_among l xs ≡ true) ⊎ (l ≡ m)
  among_more xs m e = decide (or_cases (is_among l xs) _ (sym (among_append xs (m ∷ [])) ∙ e))
    where
      decide : (is_among l xs ≡ true) ⊎ (is_among l (m ∷ []) ≡ true) → (is_among l xs ≡ true) ⊎ (l ≡ m)
      decide (inl there) = inl there
      decide (inr here) = inr (among_one m here)

  pub among_before : (xs : List OperationLine) (m : OperationLine) → is_among l xs ≡ true → is_among l (xs ++ (m ∷ [])) ≡ true
  among_before xs m there = among_append xs (m ∷ []) ∙ rw there

  pub among_last : (xs : List OperationLine) → is_among l (xs ++ (l ∷ [])) ≡ true
  unfolding is_among
  among_last xs = among_append xs (l ∷ []) ∙ or_either (is_among l xs) (rw (line_same l))

  pub none_among : is_among l [] ≡ true → ⊥
  unfolding is_among
  none_among e = true≢false (sym e)

  -- where it stands in the list
  pub record Stands (xs : List OperationLine) : Type 0 where
    pub before : List OperationLine
    pub after : List OperationLine
    pub split : xs ≡ before ++ (l ∷ after)

  pub among_stands : (xs : List OperationLine) → is_among l xs ≡ true → Stands xs
  unfolding is_among
  among_stands [] e = absurd (true≢false (sym e))
  among_stands (x ∷ xs) e = decide (among_stands xs) (or_cases (same_line l x) _ e)
    where
      decide : (is_among l xs ≡ true → Stands xs) → (same_line l x ≡ true) ⊎ (is_among l xs ≡ true) → Stands (x ∷ xs)
      decide on (inl same) = record { before = []; after = xs; split = ap (λ (m : OperationLine). m ∷ xs) (sym (same_line_lem l x same)) }
      decide on (inr later) =
          let S = on later in
          record { before = x ∷ S.before; after = S.after; split = ap (λ (ys : List OperationLine). x ∷ ys) S.split }

-- a list that rises goes on rising with a line that comes after all of its lines
first_more : (l m : OperationLine) (xs : List OperationLine) → is_first l xs ≡ true → comes_before l m ≡ true → is_first l (xs ++ (m ∷ [])) ≡ true
unfolding is_first
first_more l m [] e less = rw less
first_more l m (x ∷ xs) e less = rw (and_left (comes_before l x) (is_first l xs) e, first_more l m xs (and_right (comes_before l x) (is_first l xs) e) less)

pub rises_more :
    (xs : List OperationLine) (m : OperationLine)
    → rises xs ≡ true
    → ((l : OperationLine) → is_among l xs ≡ true → comes_before l m ≡ true)
    → rises (xs ++ (m ∷ [])) ≡ true
unfolding rises is_first is_among
rises_more [] m e after = refl
rises_more (x ∷ xs) m e after =
    rw (
      first_more x m xs (and_left (is_first x xs) (rises xs) e) (after x (rw (line_same x))),
      rises_more xs m (and_right (is_first x xs) (rises xs) e) (λ l there. after l (or_either (same_line l x) there)),
    )
