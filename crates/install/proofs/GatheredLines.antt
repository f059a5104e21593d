-- A group of candidates, one after another. Assumes nothing.
use mathlib.Core.Path.{◌≡◌, refl, sym, ap, subst, ◌∙◌}
use mathlib.Core.Logic.{⊎_elim}
use mathlib.Core.Bool.{true, false, true≢false}
use mathlib.Core.List.{List, [], ◌∷◌, ◌++◌}
use Prim.Native.Nat.{ℕ, ◌+◌, ◌<◌, ◌≤◌}
use native.Mathlib.Decide.{dec_lt, ℕ_discrete}
use native.Mathlib.Omega.{arith}
use lib.ListN.{length, length-append}
use Rattle.cell.specs.declared.Cell.{Cell}
use Rattle.cell.specs.declared.OperationLine.{OperationLine}
use Rattle.cell.specs.Longer.{with_line, with_lines}
use Rattle.cell.proofs.LongerCell.{lines_last}
use Rattle.recipe.specs.declared.Recipe.{Recipe}
use Rattle.install.specs.Candidates.{is_candidate}
use Rattle.install.specs.Order.{is_among}
use Rattle.install.specs.Search.{line_at, is_tried, Gathered}
use Rattle.install.proofs.Members.{none_among, among_more, among_before, among_last}

-- a list of no length has no lines
pub no_lines : (xs : List OperationLine) → length xs ≡ 0 → xs ≡ []
no_lines [] none = refl
no_lines (x ∷ xs) none = absurd (omega arith)

module _ (c : Cell) (r : Recipe) where
  pub gathered_none : (from : ℕ) → Gathered c r from from 0 from c
  unfolding with_lines
  gathered_none from =
      record {
        lines = [];
        cell_is = refl;
        added_is = refl;
        candidates = λ l there. absurd (none_among l there);
        every = λ n (least : from ≤ n) (most : n < from). absurd (omega arith);
        alone = λ (one : ◌≡◌ {A = ℕ} 0 1). absurd (omega arith);
      }

  module _ {from next added last : ℕ} {longer : Cell} (G : Gathered c r from next added last longer) where
    -- the next candidate is added
    pub gathered_more :
        {candidate : ℕ} {longer' : Cell}
        → ((m : ℕ) → next ≤ m → m < candidate → is_tried c r m ≡ false)
        → is_tried c r candidate ≡ true
        → longer' ≡ with_line longer (line_at candidate)
        → Gathered c r from (candidate + 1) (added + 1) candidate longer'
    unfolding is_tried
    gathered_more {candidate} {longer'} none found is =
        record {
          lines = G.lines ++ (line_at candidate ∷ []);
          cell_is = is ∙ ap (λ (d : Cell). with_line d (line_at candidate)) G.cell_is ∙ sym (lines_last c G.lines (line_at candidate));
          added_is = omega (arith, G.added_is, length-append G.lines (line_at candidate ∷ []));
          candidates =
              λ l there. ⊎_elim (G.candidates l) (λ e. subst (λ (m : OperationLine). is_candidate c r m ≡ true) (sym e) found)
              (among_more l G.lines (line_at candidate) there);
          every = λ n least most tried. at n least most tried (dec_lt n next) (ℕ_discrete n candidate);
          alone =
              λ (one : added + 1 ≡ 1). ap (λ (xs : List OperationLine). xs ++ (line_at candidate ∷ [])) (no_lines G.lines (omega (arith, G.added_is)));
        }
      where
        at :
            (n : ℕ)
            → from ≤ n
            → n < candidate + 1
            → is_candidate c r (line_at n) ≡ true
            → Dec (n < next)
            → Dec (n ≡ candidate)
            → is_among (line_at n) (G.lines ++ (line_at candidate ∷ [])) ≡ true
        at n least most tried (yes before) d = among_before (line_at n) G.lines (line_at candidate) (G.every n least before tried)
        at n least most tried (no past) (yes e) =
            subst (λ (k : ℕ). is_among (line_at k) (G.lines ++ (line_at candidate ∷ [])) ≡ true) (sym e) (among_last (line_at candidate) G.lines)
        at n least most tried (no past) (no other) = absurd (true≢false (sym tried ∙ none n (omega arith) (omega arith)))

    -- there is none any more
    pub gathered_end : {end : ℕ} → ((m : ℕ) → next ≤ m → m < end → is_tried c r m ≡ false) → Gathered c r from end added last longer
    gathered_end {end} none =
        record {
          lines = G.lines;
          cell_is = G.cell_is;
          added_is = G.added_is;
          candidates = G.candidates;
          every = λ n least most tried. at n least most tried (dec_lt n next);
          alone = G.alone;
        }
      where
        at : (n : ℕ) → from ≤ n → n < end → is_tried c r n ≡ true → Dec (n < next) → is_among (line_at n) G.lines ≡ true
        at n least most tried (yes before) = G.every n least before tried
        at n least most tried (no past) = absurd (true≢false (sym tried ∙ none n (omega arith) most))
