use Rattle.chapters.specs.Records.{chapters_from}
use Rattle.chapters.specs.Survey.{SeesAt}
use Rattle.chapters.proofs.CountedChapters.{SoFar}
use Rattle.chapters.proofs.counts.survey.Given as goal

abbrev pub invariant-loop-k : goal.invariant-loop-k
invariant-loop-k l = SoFar l.plans (chapters_from l.recipes) l.wanted l.k l.counts × SeesAt l.plans (chapters_from l.recipes) l.wanted l.seen
