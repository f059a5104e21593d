-- A group is tried: where the search goes on. Assumes nothing.
use mathlib.Core.Path.{◌≡◌, sym, ap, subst, ◌∙◌}
use mathlib.Core.Bool.{Bool, true, false}
use mathlib.Core.List.{List, [], ◌∷◌, ◌++◌}
use Prim.Native.Nat.{ℕ, ◌+◌, ◌*◌, ◌-◌, ◌<◌, ◌≤◌}
use native.Mathlib.Omega.{arith}
use lib.ListN.{length}
use Rattle.cell.specs.declared.Cell.{Cell}
use Rattle.cell.specs.declared.OperationLine.{OperationLine}
use Rattle.cell.specs.Longer.{with_lines}
use Rattle.recipe.specs.declared.Recipe.{Recipe}
use Rattle.positions.specs.declared.Sizes.{Sizes}
use Rattle.positions.specs.Checked.{Checked}
use Rattle.positions.specs.Position.{start}
use Rattle.positions.proofs.LongerSizes.{lines_checked}
use Rattle.positions.proofs.SizeBounds.{resources_six}
use Rattle.chapters.specs.Joined.{first_point}
use Rattle.simulation.specs.Simulation.{Greatest}
use Rattle.simulation.proofs.OneRecipe as single
use Rattle.planner.specs.Decision.{Decides}
use Rattle.install.specs.declared.Group.{Group}
use Rattle.install.specs.declared.Progress.{Progress}
use Rattle.install.specs.Candidates.{Mends}
use Rattle.install.specs.Order.{is_among, filled_with}
use Rattle.install.specs.Search.{line_at, number_of, is_tried, Asked, GroupOf, SoFar, Standing, Behind, Tried}
use Rattle.install.proofs.Members.{none_among, among_one, among_last}
use Rattle.install.proofs.LineNumbers.{number_line}
use Rattle.install.proofs.CandidateLines.{own_resources, candidates_suit}
use Rattle.install.proofs.GatheredLines.{no_lines}
use Rattle.install.proofs.GroupsOfLines.{group_mends_none, one_mends}
use Rattle.install.proofs.ListedSoFar.{so_far_past, so_far_one}

-- the numbers of all lines, and where the search begins
module _ (c : Cell) (r : Recipe) (z : Sizes) (A : Asked c r z) where
  pub numbers_most : 4096 * z.resources ≤ 24576
  numbers_most = omega (arith, own_resources c r z A.own, resources_six c A.checked.cell_passes)

  pub standing_first : Standing c (4096 * z.resources) (record { next = 0; size = 1; halved = false; found = 0 })
  standing_first =
      record { most = numbers_most; within = omega arith; some = omega (arith, A.free); fits = omega (arith, A.free); few = omega arith }

module _ (c : Cell) (r : Recipe) (z : Sizes) (A : Asked c r z) (end : ℕ) (at : Progress) (S : Standing c end at)
    (group : Group) (G : GroupOf c r at.next end at.size group) where
  few : c.count + length G.gathered.lines ≤ 64
  few = omega (arith, S.fits, G.most, G.gathered.added_is)

  -- the cell with the group passes its rules
  pub group_checked : Checked group.cell r z
  group_checked =
      subst (λ (d : Cell). Checked d r z) (sym G.gathered.cell_is)
      (lines_checked c G.gathered.lines r z A.columns few (candidates_suit c r z A.checked G.gathered.lines G.gathered.candidates) A.checked)

  -- behind it, whatever was found
  pub goes_behind :
      {list list' : List ℕ} {found most : ℕ} {at' : Progress}
      → most ≡ 64 - c.count
      → found ≤ group.end
      → ((buffer : List ℕ) → SoFar c r buffer at.next at.found list → SoFar c r buffer group.end found list')
      → Behind group.end found most at'
      → Tried c r end at list at' list'
  goes_behind {list' = list'} {at' = at'} all low on B =
      record {
        standing =
            record {
              most = S.most;
              within = omega (arith, B.next_is, G.within);
              some = B.some;
              fits = omega (arith, B.fits, A.free);
              few = omega (arith, B.next_is, B.found_is);
            };
        nearer = omega (arith, B.next_is, B.fits, G.onward, G.within, S.some);
        so_far =
            λ buffer F.
            subst (λ (n : ℕ). SoFar c r buffer n at'.found list') (sym B.next_is)
            (subst (λ (n : ℕ). SoFar c r buffer group.end n list') (sym B.found_is) (on buffer F));
      }

  -- a group of which no line mends
  pub none_mends :
      {list : List ℕ}
      → ((l : OperationLine) → is_among l G.gathered.lines ≡ true → Mends c r l → ⊥)
      → (buffer : List ℕ)
      → SoFar c r buffer at.next at.found list
      → SoFar c r buffer group.end at.found list
  none_mends none buffer =
      so_far_past c r buffer (omega (arith, G.onward))
      (λ m least most tried mends. none (line_at m) (G.gathered.every m least most tried) mends)

  pub empty_mends_none : group.added ≡ 0 → (l : OperationLine) → is_among l G.gathered.lines ≡ true → Mends c r l → ⊥
  empty_mends_none none l there mends =
      none_among l (subst (λ (xs : List OperationLine). is_among l xs ≡ true) (no_lines G.gathered.lines (omega (arith, G.gathered.added_is))) there)

  module _ {answer : Bool} (D : Decides group.cell r z answer) where
    held : Greatest (with_lines c G.gathered.lines) (r ∷ []) (single.alone z) first_point start → Greatest group.cell (r ∷ []) (single.alone z) first_point start
    held = subst (λ (d : Cell). Greatest d (r ∷ []) (single.alone z) first_point start) (sym G.gathered.cell_is)

    -- a group that does not make the recipe realisable
    pub refused_mends_none : answer ≡ false → (l : OperationLine) → is_among l G.gathered.lines ≡ true → Mends c r l → ⊥
    refused_mends_none refused l there =
        group_mends_none c r z A.columns A.checked A.own G.gathered.lines few (λ holds. D.no_lacks refused (held holds)) l there
        (G.gathered.candidates l there)

    -- a line that does so alone
    module _ (one : group.added ≡ 1) (accepted : answer ≡ true) where
      alone : G.gathered.lines ≡ line_at group.last ∷ []
      alone = G.gathered.alone one

      last_among : is_among (line_at group.last) G.gathered.lines ≡ true
      last_among =
          subst (λ (xs : List OperationLine). is_among (line_at group.last) xs ≡ true) (sym alone) (among_last (line_at group.last) [])

      last_tried : is_tried c r group.last ≡ true
      unfolding is_tried
      last_tried = G.gathered.candidates (line_at group.last) last_among

      last_mends : Mends c r (line_at group.last)
      unfolding is_tried
      last_mends =
          one_mends c r z A.columns A.checked A.own G.gathered.lines (line_at group.last) alone A.free last_tried
          (subst (λ (d : Cell). Greatest d (r ∷ []) (single.alone z) first_point start) G.gathered.cell_is (D.yes_holds accepted))

      no_other : (m : ℕ) → at.next ≤ m → m < group.end → (m ≡ group.last → ⊥) → is_tried c r m ≡ true → ⊥
      no_other m least most other tried =
          let same : line_at m ≡ line_at group.last =
          among_one (line_at m) (line_at group.last)
          (subst (λ (xs : List OperationLine). is_among (line_at m) xs ≡ true) alone (G.gathered.every m least most tried)) in
          other (sym (number_line m) ∙ ap number_of same ∙ number_line group.last)

      pub one_found :
          {list list' : List ℕ} {found : ℕ} (buffer : List ℕ) (F : SoFar c r buffer at.next at.found list)
          → found ≡ at.found + 1
          → list' ≡ filled_with (F.lines ++ (line_at group.last ∷ [])) buffer
          → SoFar c r buffer group.end found list'
      one_found {list' = list'} buffer F more put =
          subst (λ (n : ℕ). SoFar c r buffer group.end n list') (sym more)
          (so_far_one c r buffer z A.checked G.last_from (G.last_in (omega arith)) last_tried last_mends no_other F put)
