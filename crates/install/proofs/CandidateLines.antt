-- A candidate is a line of a resource and of states that the cell has, and it has a number. Assumes nothing.
use mathlib.Core.Path.{◌≡◌, sym, ap, ◌∙◌}
use mathlib.Core.Bool.{Bool, true, false, true≢false, not, ◌&&◌, and-false}
use mathlib.Core.List.{List, [], ◌∷◌}
use Prim.Native.Nat.{ℕ, ◌*◌, ◌<◌, ◌≤◌}
use native.Mathlib.Decide.{dec_lt}
use native.Mathlib.Omega.{arith}
use lib.ListN.{get_or}
use lib.Dec.{eqb}
use borrow.Author.Tests.{ltb-true, lt-ltb, ne_eqb, not-true}
use Rattle.refusals.proofs.EveryBelow.{any_none}
use Rattle.refusals.proofs.Verdicts.{and_left, and_right}
use Rattle.cell.specs.declared.Cell.{Cell}
use Rattle.cell.specs.declared.OperationLine.{OperationLine}
use Rattle.recipe.specs.declared.Recipe.{Recipe}
use Rattle.recipe.proofs.AcceptedRecord.{line_in_range, each_accepts}
use Rattle.positions.specs.declared.Sizes.{Sizes}
use Rattle.positions.specs.Sizes.{resource_count, state_count, sizes_for, sizes_of}
use Rattle.positions.specs.Checked.{Checked}
use Rattle.positions.proofs.LongerSizes.{Suits, states_most, EachSuits, suits_none, suits_more}
use Rattle.install.specs.Candidates.{has_state, names_at, is_named, is_in_cell, is_candidate}
use Rattle.install.specs.Order.{same_line, is_among}
use Rattle.install.specs.Search.{number_of, line_at}
use Rattle.install.proofs.LineNumbers.{Digits, line_number}
use Rattle.install.proofs.Members.{line_same, or_either}

module _ (c : Cell) (r : Recipe) (z : Sizes) (K : Checked c r z) where
  -- an operation that the recipe names is in range
  named_most : (o : ℕ) → is_named r o ≡ true → o ≤ 63
  unfolding is_named names_at
  named_most o named = decide (dec_lt 63 o)
    where
      decide : Dec (63 < o) → o ≤ 63
      decide (no low) = omega arith
      decide (yes high) =
          absurd (true≢false (sym named
          ∙ any_none (names_at r o) r.count
          (λ n low.
          let other : get_or r.op n 0 ≡ o → ⊥ = λ (e : get_or r.op n 0 ≡ o). omega (arith, (line_in_range r (each_accepts r K.recipe_passes).fourth n low).op) in
          ap (λ (b : Bool). not (eqb (get_or r.kind n 0) 0) && b) (ne_eqb (get_or r.op n 0) o other)
          ∙ and-false (not (eqb (get_or r.kind n 0) 0)))))

  module _ (l : OperationLine) (is : is_candidate c r l ≡ true) where
    pub candidate_suits : Suits c l
    unfolding is_candidate has_state
    candidate_suits =
        record {
          resource = ltb-true _ _ (search (and_left, and_right));
          from = ltb-true _ _ (search (and_left, and_right));
          to = ltb-true _ _ (search (and_left, and_right));
          operation = named_most l.operation (search (and_left, and_right));
        }

    pub candidate_named : is_named r l.operation ≡ true
    unfolding is_candidate
    candidate_named = search (and_left, and_right)

    pub candidate_new : is_in_cell c l ≡ false
    unfolding is_candidate
    candidate_new = not-true _ (search (and_left, and_right))

    pub candidate_digits : Digits l
    candidate_digits =
        let most = states_most c l K.cell_passes candidate_suits in
        record {
          from = omega (arith, candidate_suits.from);
          operation = omega (arith, candidate_suits.operation);
          to = omega (arith, candidate_suits.to);
        }

    pub candidate_line : line_at (number_of l) ≡ l
    candidate_line = line_number l candidate_digits

    pub candidate_number : number_of l < 4096 * resource_count c
    unfolding number_of
    candidate_number =
        let D = candidate_digits in omega (arith, D.from, D.operation, D.to, candidate_suits.resource)

  -- a list of candidates
  pub candidates_suit : (ls : List OperationLine) → ((l : OperationLine) → is_among l ls ≡ true → is_candidate c r l ≡ true) → EachSuits c ls
  unfolding is_among
  candidates_suit [] all = suits_none
  candidates_suit (l ∷ ls) all =
      suits_more (candidate_suits l (all l (rw (line_same l)))) (candidates_suit ls (λ m there. all m (or_either (same_line m l) there)))

-- R, by the sizes
pub own_resources : (c : Cell) (r : Recipe) (z : Sizes) → z ≡ sizes_of c r → z.resources ≡ resource_count c
unfolding sizes_for
own_resources c r z own = ap (λ (x : Sizes). x.resources) own

-- what makes a line a candidate
pub is_candidate_lem :
    (c : Cell) (r : Recipe) (l : OperationLine)
    → Suits c l
    → is_named r l.operation ≡ true
    → is_in_cell c l ≡ false
    → is_candidate c r l ≡ true
unfolding is_candidate has_state
is_candidate_lem c r l S named new =
    let states = state_count c.resource c.from c.to c.count l.resource in
    rw (
      lt-ltb l.resource (resource_count c) S.resource,
      lt-ltb l.from states S.from,
      lt-ltb l.to states S.to,
      named,
      new,
    )
