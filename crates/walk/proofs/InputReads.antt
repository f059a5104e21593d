-- Reads of standard input, one after another. Assumes nothing.
use mathlib.Core.Path.{◌≡◌, refl, sym, ap, subst, ◌∙◌}
use mathlib.Core.Bool.{Bool, true, false, cond, true≢false}
use mathlib.Core.List.{List, [], ◌++◌}
use Prim.Native.Nat.{ℕ, ◌+◌, ◌≤◌}
use native.Mathlib.Omega.{arith}
use lib.ListN.{length, take, length-append}
use lib.Seq.{length-take-le}
use Rattle.std.specs.declared.option.Option.{Option}
use Rattle.std.specs.Io.KnownBytes.{Appends, Consumes}
use Rattle.std.proofs.KnownBytes.{Appends-nil, Appends-trans, Consumes-nil, Consumes-trans}
use Rattle.cell.specs.declared.Cell.{Cell}
use Rattle.recipe.specs.declared.Recipe.{Recipe}
use Rattle.run.specs.declared.Run.{Run}
use Rattle.run.specs.Calls.{fresh_run}
use Rattle.walk.specs.declared.Step.{Step}
use Rattle.printout.specs.Turn.{walked, printed}
use Rattle.walk.specs.Output.{Stepped, Followed, FollowedOn}
use Rattle.printout.proofs.InputInParts.{walked_parts, printed_parts}

not_true_false : (b : Bool) → (b ≡ true → ⊥) → b ≡ false
not_true_false true fails = absurd (fails refl)
not_true_false false fails = refl

module _ (c : Cell) (r : Recipe) (table : List ℕ) where
  module _ (run : Run) (bytes text : List ℕ) where
    -- a read that gives nothing
    pub step_ended : (got : ℕ) → got ≡ 0 → Stepped c r table run bytes text (record { got = got; length = 0; failed = false; more = false; run = run })
    unfolding walked printed
    step_ended got e =
        rw e
        (record {
          bytes_inside = omega arith;
          text_inside = omega arith;
          text_is = refl;
          run_is = refl;
          more_is = λ some kept. absurd (some refl);
          ended = λ none. refl;
          failed_ends = λ failed. refl;
        })

  -- after so many reads
  pub record Following (done : ℕ) (step : Step) : Type 0 where
    pub input : List ℕ
    pub run_is : step.run ≡ (walked c r table fresh_run input).run
    pub goes_on : step.more ≡ true → (walked c r table fresh_run input).more ≡ true
    pub stops : step.more ≡ false → (step.got ≡ 0 → ⊥) → step.failed ≡ false → (walked c r table fresh_run input).more ≡ false
    pub used : step.more ≡ true → done ≤ length input

  pub following_none : (run : Run) → run ≡ fresh_run → Following 0 (record { got = 0; length = 0; failed = false; more = true; run = run })
  unfolding walked
  following_none run fresh =
      record {
        input = [];
        run_is = fresh;
        goes_on = λ on. refl;
        stops = λ (over : true ≡ false). absurd (true≢false over);
        used = λ on. omega arith;
      }

  module _ (done : ℕ) (before after : Step) (bytes text : List ℕ)
      (F : Following done before) (on : before.more ≡ true)
      (S : Stepped c r table before.run bytes text after) where
    joined : walked c r table fresh_run (F.input ++ take after.got bytes) ≡ walked c r table before.run (take after.got bytes)
    joined =
        walked_parts c r table fresh_run F.input (take after.got bytes)
        ∙ (λ i. cond (F.goes_on on i) (walked c r table (sym F.run_is i) (take after.got bytes)) (walked c r table fresh_run F.input))

    came : after.more ≡ true → after.got ≡ 0 → ⊥
    came more none = true≢false (sym more ∙ S.ended none)

    kept : after.more ≡ true → after.failed ≡ false
    kept more = not_true_false after.failed (λ failed. true≢false (sym more ∙ S.failed_ends failed))

    -- what is handed over for a read is what the definition prints next
    pub handed_next : printed c r table fresh_run (F.input ++ take after.got bytes) ≡ printed c r table fresh_run F.input ++ take after.length text
    handed_next =
        printed_parts c r table fresh_run F.input (take after.got bytes)
        ∙ (λ i. printed c r table fresh_run F.input ++ cond (F.goes_on on i) (printed c r table (sym F.run_is i) (take after.got bytes)) [])
        ∙ ap (λ (l : List ℕ). printed c r table fresh_run F.input ++ l) (sym S.text_is)

    pub following_next : Following (done + 1) after
    following_next =
        record {
          input = F.input ++ take after.got bytes;
          run_is = S.run_is ∙ (λ i. (sym joined i).run);
          goes_on = λ more. (λ i. (joined i).more) ∙ sym (S.more_is (came more) (kept more)) ∙ more;
          stops = λ over here written. (λ i. (joined i).more) ∙ sym (S.more_is here written) ∙ over;
          used = λ more.
              let one : after.got ≡ 0 → ⊥ = came more in
              omega (arith, F.used on, length-append F.input (take after.got bytes), length-take-le after.got bytes S.bytes_inside);
        }

  module _ (reads done : ℕ) (step : Step) (F : Following done step) where
    pub followed_all : reads ≤ done → Followed c r table reads step
    followed_all all = record { input = F.input; run_is = F.run_is; goes_on = F.goes_on; stops = F.stops; used_up = λ more. omega (arith, F.used more) }

    pub followed_over : step.more ≡ false → Followed c r table reads step
    followed_over over =
        record {
          input = F.input;
          run_is = F.run_is;
          goes_on = F.goes_on;
          stops = F.stops;
          used_up = λ more. absurd (true≢false (sym more ∙ over));
        }

  -- the same of streams: what the reader had left and has left, and what the writer held and holds
  pub record FollowingOn (done : ℕ) (step : Step) (had has held holds : Option (List ℕ)) : Type 0 where
    pub following : Following done step
    pub read : Consumes had has following.input
    pub lines : step.failed ≡ false → Appends held holds (printed c r table fresh_run following.input)
    pub unfailed : step.more ≡ true → step.failed ≡ false

  pub following_on_none : (had held : Option (List ℕ)) (run : Run) → run ≡ fresh_run
      → FollowingOn 0 (record { got = 0; length = 0; failed = false; more = true; run = run }) had had held held
  unfolding printed following_none
  following_on_none had held run fresh =
      record {
        following = following_none run fresh;
        read = Consumes-nil had;
        lines = λ written. Appends-nil held;
        unfailed = λ on. refl;
      }

  module _
      (done : ℕ) (before after : Step) (bytes text : List ℕ) (had has has' held holds holds' : Option (List ℕ))
      (F : FollowingOn done before had has held holds) (on : before.more ≡ true)
      (S : Stepped c r table before.run bytes text after)
      (read : Consumes has has' (take after.got bytes))
      (written : after.failed ≡ false → Appends holds holds' (take after.length text))
    where
      pub following_on_next : FollowingOn (done + 1) after had has' held holds'
      unfolding following_next
      following_on_next =
          record {
            following = following_next done before after bytes text F.following on S;
            read = Consumes-trans had has has' F.following.input (take after.got bytes) F.read read;
            lines = λ kept.
                subst (Appends held holds') (sym (handed_next done before after bytes text F.following on S))
                (Appends-trans held holds holds' _ _ (F.lines (F.unfailed on)) (written kept));
            unfailed = kept done before after bytes text F.following on S;
          }

  module _ (reads done : ℕ) (step : Step) (had has held holds : Option (List ℕ)) (F : FollowingOn done step had has held holds) where
    pub followed_on_all : reads ≤ done → FollowedOn c r table reads step had has held holds
    unfolding followed_all
    followed_on_all all = record { followed = followed_all reads done step F.following all; read = F.read; lines = F.lines }

    pub followed_on_over : step.more ≡ false → FollowedOn c r table reads step had has held holds
    unfolding followed_over
    followed_on_over over = record { followed = followed_over reads done step F.following over; read = F.read; lines = F.lines }
