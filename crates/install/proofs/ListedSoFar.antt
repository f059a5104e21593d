-- The list while the search goes on: lines that do not mend are passed over, a line that does is put behind the others, and at the
-- end the list is that of all lines that mend. Assumes nothing.
use mathlib.Core.Path.{◌≡◌, refl, sym, ap, subst, ◌∙◌}
use mathlib.Core.Logic.{◌⊎◌, ⊎_elim}
use mathlib.Core.Bool.{true}
use mathlib.Core.List.{List, [], ◌∷◌, ◌++◌}
use Prim.Native.Nat.{ℕ, ◌+◌, ◌*◌, ◌<◌, ◌≤◌}
use native.Mathlib.Decide.{dec_lt, ℕ_discrete}
use native.Mathlib.Omega.{arith}
use lib.ListN.{length-append}
use Rattle.cell.specs.declared.Cell.{Cell}
use Rattle.cell.specs.declared.OperationLine.{OperationLine}
use Rattle.recipe.specs.declared.Recipe.{Recipe}
use Rattle.positions.specs.declared.Sizes.{Sizes}
use Rattle.positions.specs.Sizes.{resource_count}
use Rattle.positions.specs.Checked.{Checked}
use Rattle.install.specs.Candidates.{is_candidate, Mends}
use Rattle.install.specs.Order.{is_among, comes_before, rises, filled_with}
use Rattle.install.specs.Call.{Listed}
use Rattle.install.specs.Search.{line_at, number_of, is_tried, SoFar}
use Rattle.install.proofs.LineNumbers.{digits_at, number_line, numbers_rise}
use Rattle.install.proofs.Members.{none_among, among_more, among_before, among_last, rises_more}
use Rattle.install.proofs.FilledList.{filled_none}
use Rattle.install.proofs.CandidateLines.{candidate_digits, candidate_line, candidate_number}

module _ (c : Cell) (r : Recipe) (buffer : List ℕ) where
  -- before the first
  pub so_far_none : SoFar c r buffer 0 0 buffer
  unfolding rises
  so_far_none =
      record {
        lines = [];
        count_is = refl;
        list_is = sym (filled_none buffer);
        candidates = λ l there. absurd (none_among l there);
        mend = λ l there. absurd (none_among l there);
        below = λ l there. absurd (none_among l there);
        every = λ (m : ℕ) (low : m < 0) tried mends. absurd (omega arith);
        order = refl;
      }

  pub so_far_at : {n m found : ℕ} {list : List ℕ} → n ≡ m → SoFar c r buffer n found list → SoFar c r buffer m found list
  so_far_at {found = found} {list = list} e = subst (λ (k : ℕ). SoFar c r buffer k found list) e

  -- lines of which none mends are passed over
  pub so_far_past :
      {n next found : ℕ} {list : List ℕ}
      → n ≤ next
      → ((m : ℕ) → n ≤ m → m < next → is_tried c r m ≡ true → Mends c r (line_at m) → ⊥)
      → SoFar c r buffer n found list
      → SoFar c r buffer next found list
  so_far_past {n} {next} onward none S =
      record {
        lines = S.lines;
        count_is = S.count_is;
        list_is = S.list_is;
        candidates = S.candidates;
        mend = S.mend;
        below = λ l there. let low = S.below l there in omega arith;
        every = λ m low tried mends. decide m low tried mends (dec_lt m n);
        order = S.order;
      }
    where
      decide : (m : ℕ) → m < next → is_tried c r m ≡ true → Mends c r (line_at m) → Dec (m < n) → is_among (line_at m) S.lines ≡ true
      decide m low tried mends (yes before) = S.every m before tried mends
      decide m low tried mends (no past) = absurd (none m (omega arith) low tried mends)

  -- one that mends, with no other beside it, is listed
  module _ (z : Sizes) (K : Checked c r z) {n last next found : ℕ} {list list' : List ℕ} where
    pub so_far_one :
        n ≤ last
        → last < next
        → is_tried c r last ≡ true
        → Mends c r (line_at last)
        → ((m : ℕ) → n ≤ m → m < next → (m ≡ last → ⊥) → is_tried c r m ≡ true → ⊥)
        → (S : SoFar c r buffer n found list)
        → list' ≡ filled_with (S.lines ++ (line_at last ∷ [])) buffer
        → SoFar c r buffer next (found + 1) list'
    unfolding is_tried
    so_far_one from inside tried mends alone S put =
        record {
          lines = S.lines ++ (line_at last ∷ []);
          count_is = omega (arith, S.count_is, length-append S.lines (line_at last ∷ []));
          list_is = put;
          candidates = λ l there. ⊎_elim (S.candidates l) (λ e. subst (λ (m : OperationLine). is_candidate c r m ≡ true) (sym e) tried) (split l there);
          mend = λ l there. ⊎_elim (S.mend l) (λ e. subst (Mends c r) (sym e) mends) (split l there);
          below = λ l there. ⊎_elim (earlier l) (here l) (split l there);
          every = λ m low test good. decide m low test good (ℕ_discrete m last) (dec_lt m n);
          order = rises_more S.lines (line_at last) S.order (λ l there. after l there);
        }
      where
        split : (l : OperationLine) → is_among l (S.lines ++ (line_at last ∷ [])) ≡ true → (is_among l S.lines ≡ true) ⊎ (l ≡ line_at last)
        split l = among_more l S.lines (line_at last)

        earlier : (l : OperationLine) → is_among l S.lines ≡ true → number_of l < next
        earlier l there = let low = S.below l there in omega arith

        here : (l : OperationLine) → l ≡ line_at last → number_of l < next
        here l e = let is : number_of l ≡ last = ap number_of e ∙ number_line last in omega arith

        after : (l : OperationLine) → is_among l S.lines ≡ true → comes_before l (line_at last) ≡ true
        after l there =
            let low = S.below l there in
            let is = number_line last in
            numbers_rise l (line_at last) (candidate_digits c r z K l (S.candidates l there)) (digits_at last) (omega arith)

        decide :
            (m : ℕ)
            → m < next
            → is_candidate c r (line_at m) ≡ true
            → Mends c r (line_at m)
            → Dec (m ≡ last)
            → Dec (m < n)
            → is_among (line_at m) (S.lines ++ (line_at last ∷ [])) ≡ true
        decide m low test good (yes e) d = subst (λ (k : ℕ). is_among (line_at k) (S.lines ++ (line_at last ∷ [])) ≡ true) (sym e) (among_last (line_at last) S.lines)
        decide m low test good (no other) (yes before) = among_before (line_at m) S.lines (line_at last) (S.every m before test good)
        decide m low test good (no other) (no past) = absurd (alone m (omega arith) low other test)

  -- behind the last number
  pub so_far_all :
      (z : Sizes)
      → Checked c r z
      → {n found : ℕ} {list : List ℕ}
      → n ≡ 4096 * resource_count c
      → (S : SoFar c r buffer n found list)
      → Listed c r S.lines
  unfolding is_tried
  so_far_all z K {n} all S =
      record {
        candidates = S.candidates;
        mend = S.mend;
        every = every;
        order = S.order;
      }
    where
      every : (l : OperationLine) → is_candidate c r l ≡ true → Mends c r l → is_among l S.lines ≡ true
      every l is mends =
          let line : line_at (number_of l) ≡ l = candidate_line c r z K l is in
          subst (λ (m : OperationLine). is_among m S.lines ≡ true) line
          (S.every (number_of l) (omega (arith, all, candidate_number c r z K l is))
          (subst (λ (m : OperationLine). is_candidate c r m ≡ true) (sym line) is) (subst (Mends c r) (sym line) mends))
