use Rattle.run.proofs.FoundEntry.{wide_small}
use Rattle.run.proofs.entry.find.Goals as goal

pub overflow_mul-wide : goal.overflow_mul-wide
overflow_mul-wide c =
    record { fits = wide_small _ _ c.args.run c.in_ok-survey.was c.survey.ensures c.measure_for-sizes.ensures c.with_points-own.ensures.0 }
