use mathlib.Core.Path.{◌≡◌, ap₂, ◌∙◌}
use Prim.Native.Nat.{◌<◌}
use native.Mathlib.Numerals.{add-one}
use native.Mathlib.Omega.{arith}
use lib.ListN.{length}
use Rattle.std.proofs.lemmas.Result.{err_from_is_err_and}
use Rattle.positions.specs.Sizes.{parts_of}
use Rattle.positions.proofs.SizeBounds.{points_sixteen}
use Rattle.chapters.specs.Joined.{chapter_at, is_earlier}
use Rattle.chapters.specs.Sizes.{points_at}
use Rattle.chapters.specs.Rules.{chapter_rules, chapters_rules}
use Rattle.chapters.specs.Records.{chapters_from}
use Rattle.chapters.specs.Survey.{SeesAccepted, counted_with}
use Rattle.chapters.proofs.RulesInTurn.{turn_refuses}
use Rattle.chapters.proofs.AcceptedChapters.{chapter_accepted}
use Rattle.chapters.proofs.CountedChapters.{counted_none, room, counted_next, counted_all}
use Rattle.chapters.proofs.counts.survey.Goals as goal

pub loop-k-init : goal.loop-k-init
loop-k-init c =
    let s = c.args in
    (counted_none s.plans (chapters_from s.recipes.now) s.wanted, c.requires.sees_at)

pub look_at-requires : goal.look_at-requires
look_at-requires c = c.loop-k.invariant.1

pub returns-in_err-here : goal.returns-in_err-here
unfolding chapters_rules
returns-in_err-here c =
    let p = err_from_is_err_and c.from_residual.result c.from_residual.ensures.1 in
    let l = c.loop-k in
    let s = c.args in
    let rs = chapters_from s.recipes.now in
    rw (p.1, p.2)
    (turn_refuses (λ i. chapter_rules s.plans (is_earlier rs i) (chapter_at rs i)) l.k (length rs) (omega (arith, c.requires.number_value))
    l.invariant.0.accepted (rw c.in_err-here.was at c.look_at.ensures))

pub count-counts-requires : goal.count-counts-requires
count-counts-requires c =
    let l = c.loop-k in
    let s = c.args in
    let rs = chapters_from s.recipes.now in
    let seen : SeesAccepted s.plans (is_earlier rs l.k) (chapter_at rs l.k) c.in_ok-here.here = rw c.in_ok-here.was at c.look_at.ensures in
    let few : l.k < 8 = omega (arith, c.requires.number_bound) in
    record {
      before_bound = room s.plans rs s.wanted l.k l.counts l.invariant.0 few;
      points_bound = rw seen.points_are (points_sixteen _ (chapter_accepted _ _ _ seen.told).recipe_passes);
    }

pub loop-k-preserved : goal.loop-k-preserved
unfolding points_at
loop-k-preserved c =
    let l = c.loop-k in
    let s = c.args in
    let rs = chapters_from s.recipes.now in
    let seen : SeesAccepted s.plans (is_earlier rs l.k) (chapter_at rs l.k) c.in_ok-here.here = rw c.in_ok-here.was at c.look_at.ensures in
    let counts : c.count-counts.result ≡ counted_with l.counts l.k s.wanted (points_at rs l.k) (parts_of (chapter_at rs l.k)) =
    c.count-counts.ensures ∙ ap₂ (counted_with l.counts l.k s.wanted) seen.points_are seen.parts_are in (
      rw (counts, add-one l.k)
          (counted_next s.plans rs s.wanted l.k l.counts l.invariant.0 (omega (arith, c.requires.number_value)) seen.told),
      l.invariant.1,
    )

pub returns : goal.returns
returns c =
    let l = c.loop-k in
    let s = c.args in
    counted_all s.plans (chapters_from s.recipes.now) s.wanted l.k l.counts l.invariant.0
    (omega (arith, c.requires.number_value, l.invariant.0.few))
