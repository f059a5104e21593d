use mathlib.Core.Path.{◌≡◌, refl, ap, ◌∙◌}
use mathlib.Core.List.{[], ◌∷◌, ◌++◌}
use native.Mathlib.Omega.{arith}
use Rattle.cell.specs.declared.OperationLine.{OperationLine}
use Rattle.install.specs.Order.{filled_with}
use Rattle.install.proofs.TriedGroups.{group_checked, goes_behind, none_mends, empty_mends_none, refused_mends_none, one_found}
use Rattle.install.proofs.Mending.attempt.Goals as goal

pub returns-then-group-eq0 : goal.returns-then-group-eq0
returns-then-group-eq0 c =
    let a = c.args in
    let G = c.gather-group.ensures a.self.now.recipe.now c.requires.question in
    goes_behind _ _ _ c.requires.question.asked _ _ c.requires.standing _ G refl
    (omega (arith, c.requires.standing.few, G.onward))
    (none_mends _ _ _ c.requires.question.asked _ _ c.requires.standing _ G
    (empty_mends_none _ _ _ c.requires.question.asked _ _ c.requires.standing _ G c.if-group-eq0.true))
    c.behind.ensures

pub returns-then-not-is_realisable : goal.returns-then-not-is_realisable
returns-then-not-is_realisable c =
    let a = c.args in
    let G = c.gather-group.ensures a.self.now.recipe.now c.requires.question in
    goes_behind _ _ _ c.requires.question.asked _ _ c.requires.standing _ G refl
    (omega (arith, c.requires.standing.few, G.onward))
    (none_mends _ _ _ c.requires.question.asked _ _ c.requires.standing _ G
    (refused_mends_none _ _ _ c.requires.question.asked _ _ c.requires.standing _ G
    c.is_realisable.ensures c.if-not-is_realisable.true))
    c.behind-then-not-is_realisable.ensures

pub returns : goal.returns
returns c =
    let a = c.args in
    let G = c.gather-group.ensures a.self.now.recipe.now c.requires.question in
    let there : c.gather-group.result.added ≡ 0 → ⊥ = c.if-group-eq0.false in
    let one : c.gather-group.result.added ≡ 1 = omega (arith, c.if-group-gt1.false) in
    let found = c.put_line-found.ensures in
    goes_behind _ _ _ c.requires.question.asked _ _ c.requires.standing _ G refl
    (omega (arith, found.0, c.requires.standing.few, G.onward))
    (λ buffer F.
    one_found _ _ _ c.requires.question.asked _ _ c.requires.standing _ G
    c.is_realisable.ensures one c.if-not-is_realisable.false buffer F found.0
    (found.1 buffer F.lines F.count_is F.list_is ∙ ap (λ (l : OperationLine). filled_with (F.lines ++ (l ∷ [])) buffer) c.line_at.ensures))
    c.behind-2.ensures

pub is_realisable-requires-clause-checked : goal.is_realisable-requires-clause-checked
is_realisable-requires-clause-checked c =
    group_checked _ _ _ c.requires.question.asked _ _ c.requires.standing _ (c.gather-group.ensures c.args.self.now.recipe.now c.requires.question)
