use mathlib.Core.Path.{◌≡◌, sym, ap, ◌∙◌}
use mathlib.Core.Bool.{false}
use mathlib.Core.List.{[], ◌∷◌}
use lib.ListN.{length}
use Rattle.std.proofs.lemmas.Result.{err_from_is_err_and}
use Rattle.refusals.specs.Verdict.{Accepted, first_refusal}
use Rattle.refusals.proofs.Rules.{tried_last, part_err, part_ok}
use Rattle.positions.specs.Rules as positions
use Rattle.chapters.specs.Sizes.{sizes_in}
use Rattle.chapters.specs.Rules.{record_rules, rule13, check_sizes}
use Rattle.chapters.specs.Records.{chapters_from}
use Rattle.chapters.specs.Survey.{Counted}
use Rattle.chapters.proofs.ChapterSizes.{small_survey, most_rule13}
use Rattle.chapters.proofs.AcceptedChapters.{records_accepted, seen_at}
use Rattle.chapters.proofs.check.Goals as goal

pub check_records-requires : goal.check_records-requires
check_records-requires c = seen_at _ _ _ _ c.is_earlier.ensures c.chapter.ensures c.look-seen.ensures

pub returns-in_err-survey : goal.returns-in_err-survey
unfolding check_sizes
returns-in_err-survey c =
    let p = err_from_is_err_and c.from_residual.result c.from_residual.ensures.1 in
    rw (p.1, p.2) (sym (part_err (record_rules false c.args.cell (chapters_from c.args.recipes.now)) _ (rw c.in_err-survey.was at c.check_records.ensures)))

pub measure_for-requires : goal.measure_for-requires
measure_for-requires c =
    let rs = chapters_from c.args.recipes.now in
    let tried : (first_refusal (record_rules false c.args.cell rs) ≡ Accepted) × Counted rs 0 c.in_ok-survey.survey =
    rw c.in_ok-survey.was at c.check_records.ensures in
    let R = records_accepted false c.args.cell rs tried.0 in
    let small = small_survey _ 0 _ tried.1 R.recipes_pass R.most in
    record {
      cell_value = R.cell_passes;
      points_bound = (small.most, small.parts);
    }

pub returns : goal.returns
unfolding check_sizes
returns c =
    let rs = chapters_from c.args.recipes.now in
    let tried : (first_refusal (record_rules false c.args.cell rs) ≡ Accepted) × Counted rs 0 c.in_ok-survey.survey =
    rw c.in_ok-survey.was at c.check_records.ensures in
    c.check_size.ensures ∙ ap positions.rule13 c.measure_for.ensures.0
    ∙ most_rule13 rs 0 c.in_ok-survey.survey tried.1 c.args.cell
    ∙ sym (part_ok (record_rules false c.args.cell rs) (rule13 (sizes_in c.args.cell rs) (length rs) ∷ []) tried.0 ∙ tried_last _)
