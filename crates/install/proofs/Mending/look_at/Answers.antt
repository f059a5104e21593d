use mathlib.Core.Path.{sym, ◌∙◌}
use Rattle.install.proofs.LookedLines.{line_range, look_from, look_named, look_to, look_there, look_found}
use Rattle.install.proofs.Mending.look_at.Goals as goal

pub bounds-self-line : goal.bounds-self-line
bounds-self-line c = (line_range _ c.args.n c.line_at-line.ensures c.requires.n_bound).0

pub bounds-self-line-else-count-line : goal.bounds-self-line-else-count-line
bounds-self-line-else-count-line c = (line_range _ c.args.n c.line_at-line.ensures c.requires.n_bound).1

pub returns-then-count-line-clause-looked : goal.returns-then-count-line-clause-looked
returns-then-count-line-clause-looked c r Q inside = look_from _ r _ _ Q _ _ c.line_at-line.ensures inside c.if-count-line.true

pub returns-then-not-self-line-clause-looked : goal.returns-then-not-self-line-clause-looked
returns-then-not-self-line-clause-looked c r Q inside = look_named _ r _ _ Q _ _ c.line_at-line.ensures inside c.if-not-self-line.true

pub returns-then-count-line-2-clause-looked : goal.returns-then-count-line-2-clause-looked
returns-then-count-line-2-clause-looked c r Q inside = look_to _ r _ _ Q _ _ c.line_at-line.ensures inside c.if-count-line-2.true

pub returns-then-is_in_cell-clause-looked : goal.returns-then-is_in_cell-clause-looked
returns-then-is_in_cell-clause-looked c r Q inside =
    look_there _ r _ _ Q _ _ c.line_at-line.ensures inside (sym c.is_in_cell.ensures ∙ c.if-is_in_cell.true)

pub returns-else-is_in_cell-clause-looked : goal.returns-else-is_in_cell-clause-looked
returns-else-is_in_cell-clause-looked c r Q inside =
    look_found _ r _ _ Q _ _ c.line_at-line.ensures inside c.if-count-line.false c.if-not-self-line.false c.if-count-line-2.false
    (sym c.is_in_cell.ensures ∙ c.if-is_in_cell.false)
