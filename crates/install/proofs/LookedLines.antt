-- One look at a line by its number: which lines are passed over with it. Assumes nothing.
use mathlib.Core.Path.{◌≡◌, refl, sym, ap, subst, ◌∙◌}
use mathlib.Core.Bool.{Bool, true, false, true≢false}
use mathlib.Core.List.{List}
use Prim.Native.Nat.{ℕ, ◌+◌, ◌*◌, ◌/◌, ◌%◌, ◌<◌, ◌≤◌}
use native.Mathlib.Nat.{div-div-eq-div-mul}
use native.Mathlib.Omega.{arith}
use lib.ListN.{get_or}
use Rattle.cell.specs.declared.Cell.{Cell}
use Rattle.cell.specs.declared.OperationLine.{OperationLine}
use Rattle.recipe.specs.declared.Recipe.{Recipe}
use Rattle.positions.specs.declared.Sizes.{Sizes}
use Rattle.positions.specs.Sizes.{resource_count, state_count, sizes_for}
use Rattle.positions.proofs.SizeBounds.{resources_six, count_at}
use Rattle.positions.proofs.LongerSizes.{Suits}
use Rattle.install.specs.Candidates.{is_named, is_in_cell, is_candidate}
use Rattle.install.specs.Search.{line_at, is_tried, Question, Looked}
use Rattle.install.specs.declared.candidates.Look.TheVariants.{Candidate, Past}
use Rattle.install.proofs.CandidateLines.{candidate_suits, candidate_named, candidate_new, own_resources, is_candidate_lem}

never : (b : Bool) → (b ≡ true → ⊥) → b ≡ false
never true out = absurd (out refl)
never false out = refl

-- the numbers of a line
module _ (l : OperationLine) (n : ℕ) (is : l ≡ line_at n) where
  resource_is : l.resource ≡ n / 4096
  unfolding line_at
  resource_is = ap (λ (m : OperationLine). m.resource) is

  from_is : l.from ≡ n / 512 % 8
  unfolding line_at
  from_is = ap (λ (m : OperationLine). m.from) is

  operation_is : l.operation ≡ n / 8 % 64
  unfolding line_at
  operation_is = ap (λ (m : OperationLine). m.operation) is

  to_is : l.to ≡ n % 8
  unfolding line_at
  to_is = ap (λ (m : OperationLine). m.to) is

  pub line_range : n < 24576 → (l.resource < 6) × (l.operation < 64)
  line_range low = (omega (arith, resource_is), omega (arith, operation_is))

module _ (c : Cell) (r : Recipe) (z : Sizes) (named : List Bool) (Q : Question c r z named) where
  resources_are : z.resources ≡ resource_count c
  resources_are = own_resources c r z Q.asked.own

  states_are : (k : ℕ) → k < 6 → get_or z.states k 0 ≡ state_count c.resource c.from c.to c.count k
  unfolding sizes_for
  states_are k low = ap (λ (x : Sizes). get_or x.states k 0) Q.asked.own ∙ count_at c Q.asked.checked.cell_passes k low

  module _ (l : OperationLine) (n : ℕ) (is : l ≡ line_at n) (inside : n < 4096 * z.resources) where
    six : l.resource < 6
    six = omega (arith, resource_is l n is, resources_are, resources_six c Q.asked.checked.cell_passes)

    -- a line with the same resource as this one has as many states
    same_states : (m : ℕ) → m / 4096 ≡ n / 4096 → get_or z.states l.resource 0 ≡ state_count c.resource c.from c.to c.count (line_at m).resource
    unfolding line_at
    same_states m same =
        states_are l.resource six ∙ ap (state_count c.resource c.from c.to c.count) (resource_is l n is ∙ sym same)

    tried_suits : (m : ℕ) → is_tried c r m ≡ true → Suits c (line_at m)
    unfolding is_tried
    tried_suits m = candidate_suits c r z Q.asked.checked (line_at m)

    pub look_from : get_or z.states l.resource 0 ≤ l.from → Looked c r n (Past ((n / 512 + 1) * 512))
    unfolding line_at
    look_from past =
        λ m least most. never _
        (λ tried.
        let row : m / 512 ≡ n / 512 = omega arith in
        let same : m / 4096 ≡ n / 4096 = omega (arith, div-div-eq-div-mul m 512 8, div-div-eq-div-mul n 512 8) in
        omega (arith, (tried_suits m tried).from, same_states m same, from_is l n is))

    pub look_named : get_or named l.operation false ≡ false → Looked c r n (Past ((n / 8 + 1) * 8))
    unfolding line_at is_tried
    look_named none =
        λ m least most. never _
        (λ tried.
        let row : m / 8 ≡ n / 8 = omega arith in
        let few : l.operation < 64 = omega (arith, operation_is l n is) in
        let same : l.operation ≡ m / 8 % 64 = operation_is l n is ∙ ap (λ (k : ℕ). k % 64) (sym row) in
        true≢false
        (sym (candidate_named c r z Q.asked.checked (line_at m) tried)
        ∙ ap (is_named r) (sym same)
        ∙ sym (Q.names l.operation few)
        ∙ none))

    pub look_to : get_or z.states l.resource 0 ≤ l.to → Looked c r n (Past ((n / 8 + 1) * 8))
    unfolding line_at
    look_to past =
        λ m least most. never _
        (λ tried.
        let row : m / 8 ≡ n / 8 = omega arith in
        let same : m / 4096 ≡ n / 4096 = omega (arith, div-div-eq-div-mul m 8 512, div-div-eq-div-mul n 8 512) in
        omega (arith, (tried_suits m tried).to, same_states m same, to_is l n is))

    pub look_there : is_in_cell c l ≡ true → Looked c r n (Past (n + 1))
    unfolding is_tried
    look_there there =
        λ m least most. never _
        (λ tried.
        let same : l ≡ line_at m = is ∙ ap line_at (omega arith) in
        true≢false (sym there ∙ ap (is_in_cell c) same ∙ candidate_new c r z Q.asked.checked (line_at m) tried))

    pub look_found :
        l.from < get_or z.states l.resource 0
        → get_or named l.operation false ≡ true
        → l.to < get_or z.states l.resource 0
        → is_in_cell c l ≡ false
        → Looked c r n Candidate
    unfolding is_tried
    look_found from names to new =
        subst (λ (m : OperationLine). is_candidate c r m ≡ true) is
        (is_candidate_lem c r l
        (record {
          resource = omega (arith, resource_is l n is, resources_are);
          from = omega (arith, states_are l.resource six);
          to = omega (arith, states_are l.resource six);
          operation = omega (arith, operation_is l n is);
        })
        (sym (Q.names l.operation (omega (arith, operation_is l n is))) ∙ names)
        new)
