use lib.ListN.{length}
use mathlib.Core.Path.{◌≡◌, sym, ◌∙◌}
use Prim.Native.Nat.{◌<◌}
use borrow.Author.Rules.{rules}
use borrow.Author.Tests.{leb-false}
use native.Mathlib.Omega.{arith}
use Rattle.std.proofs.lemmas.Result.{err_from_is_err_and}
use Rattle.refusals.proofs.Verdicts.{no_line_accepts}
use Rattle.refusals.proofs.Rules.{tried_ok, tried_last}
use Rattle.cell.proofs.LongerCell.{Columns}
use Rattle.positions.proofs.AcceptedRecords.{both_ok}
use Rattle.marks.proofs.MarkSets.{same_room}
use Rattle.planner.proofs.OnePlan.{one_refused, one_tried, OnePassed, one_passed, held_realisable, realisable_held}
use Rattle.install.specs.Call.{rule21, check_install}
use Rattle.install.specs.Search.{Asked}
use Rattle.install.proofs.InstallAnswers.{plan_refused, free_accepted, install_refused, install_none, install_listed}
use Rattle.install.proofs.install.Goals as goal
use Rattle.install.proofs.install.Goals.{After-no_line, After-is_realisable}

pub returns-in_err-check_records : goal.returns-in_err-check_records
returns-in_err-check_records c =
    let p = err_from_is_err_and c.from_residual.result c.from_residual.ensures.1 in
    let told = c.in_err-check_records.was in
    rw (p.1, p.2)
    (install_refused _ _ _ _ _ (sym (plan_refused _ _ _ _ (one_refused _ _ _ _ c.check_records.ensures told) told) ∙ told))

pub measure-sizes-requires : goal.measure-sizes-requires
measure-sizes-requires c =
    let all = both_ok _ _ (sym c.check_records.ensures ∙ c.in_ok-check_records.was) in
    record {
      cell_value = all.0;
      recipe_value = all.1;
    }

pub check_call-requires : goal.check_call-requires
check_call-requires c = (both_ok _ _ (sym c.check_records.ensures ∙ c.in_ok-check_records.was)).1

pub returns-in_err-check_call : goal.returns-in_err-check_call
returns-in_err-check_call c =
    let p = err_from_is_err_and c.from_residual-in_err-check_call.result c.from_residual-in_err-check_call.ensures.1 in
    let told = c.in_err-check_call.was in
    rw (p.1, p.2)
    (install_refused _ _ _ _ _
    (sym (plan_refused _ _ _ _
    (one_tried _ _ _ _ c.check_records.ensures c.in_ok-check_records.was c.measure-sizes.ensures.0 c.check_call.ensures)
    told)
    ∙ told))

-- the rules before 21 accept
passed : (c : After-no_line) → OnePassed c.args.cell c.args.recipe c.args.table.now c.args.scratch.now c.measure-sizes.result
passed c =
    one_passed _ _ _ _ c.check_records.ensures c.in_ok-check_records.was c.measure-sizes.ensures.0 c.check_call.ensures
    c.in_ok-check_call.was

pub returns-in_err-no_line : goal.returns-in_err-no_line
unfolding check_install rule21
returns-in_err-no_line c =
    let p = err_from_is_err_and c.from_residual-in_err-no_line.result c.from_residual-in_err-no_line.ensures.1 in
    rw (p.1, p.2)
    (install_refused _ _ _ _ _
    (tried_ok _ _ (passed (goal.at.returns-in_err-no_line c).After-no_line).accepted
    ∙ tried_last _
    ∙ sym c.no_line.ensures
    ∙ c.in_err-no_line.was))

pub is_realisable-requires : goal.is_realisable-requires
is_realisable-requires c =
    let P = passed (goal.at.is_realisable-requires c).After-no_line in
    record {
      checked = P.checked;
      positions_in_bounds = P.long;
      sizes_bound = P.roomy;
    }

-- 21 does too
free : (c : After-is_realisable) → c.args.cell.count < 64
free c = leb-false _ _ (no_line_accepts _ _ (sym c.no_line.ensures ∙ c.in_ok-no_line.was))

pub returns-then-is_realisable : goal.returns-then-is_realisable
returns-then-is_realisable c =
    let P = passed (goal.at.returns-then-is_realisable c).After-no_line in
    install_none _ _ _ _ _ (free_accepted _ _ _ _ P.accepted (free (goal.at.returns-then-is_realisable c).After-is_realisable))
    c.is_realisable.auto.table c.is_realisable.auto.marks
    (held_realisable _ _ _ P.own (c.is_realisable.ensures.yes_holds c.if-is_realisable.true))

-- what the search asks
asked : (c : After-is_realisable) → OnePassed c.args.cell c.args.recipe c.args.table.now c.args.scratch.now c.measure-sizes.result
    → Asked c.args.cell c.args.recipe c.measure-sizes.result
asked c P =
    let C : Columns c.args.cell =
    record {
      resource = (let h : length c.args.cell.resource ≡ 64 = search rules in h);
      from = (let h : length c.args.cell.from ≡ 64 = search rules in h);
      act = (let h : length c.args.cell.act ≡ 64 = search rules in h);
      arg = (let h : length c.args.cell.arg ≡ 64 = search rules in h);
      to = (let h : length c.args.cell.to ≡ 64 = search rules in h);
    } in
    record { columns = C; checked = P.checked; own = P.own; free = free c }

pub seek-requires : goal.seek-requires
seek-requires c =
    let P = passed (goal.at.seek-requires c).After-no_line in
    record {
      asked = asked (goal.at.seek-requires c).After-is_realisable P;
      positions_in_bounds = omega (arith, P.long, c.is_realisable.auto.table);
      sizes_bound = omega (arith, P.roomy, same_room c.args.scratch.now c.is_realisable.new.marks c.is_realisable.auto.marks);
    }

pub returns : goal.returns
returns c =
    let P = passed (goal.at.returns c).After-no_line in
    let A = asked (goal.at.returns c).After-is_realisable P in
    install_listed _ _ _ _ _ (free_accepted _ _ _ _ P.accepted A.free) (c.seek.auto.table ∙ c.is_realisable.auto.table)
    (c.seek.auto.scratch ∙ c.is_realisable.auto.marks) _ A
    (λ realisable. c.is_realisable.ensures.no_lacks c.if-is_realisable.false (realisable_held _ _ _ P.own realisable))
    c.seek.ensures.0 c.seek.ensures.1
