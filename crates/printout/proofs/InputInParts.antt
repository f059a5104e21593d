-- Input that comes in parts makes the same walk, and prints the same, as if it came at once. Assumes nothing.
use mathlib.Core.Path.{◌≡◌, refl, sym, ap, ◌∙◌, subst}
use mathlib.Core.Bool.{Bool, true, false, cond}
use mathlib.Core.List.{List, [], ◌∷◌, ◌++◌, append_assoc, append-nil}
use Prim.Native.Nat.{ℕ, ◌+◌, ◌<◌, ◌≤◌}
use native.Mathlib.Numerals.{add-one}
use native.Mathlib.Omega.{arith}
use lib.ListN.{length, get_or, take, drop, take-append-drop}
use lib.Seq.{take_all, take-suc}
use Rattle.cell.specs.declared.Cell.{Cell}
use Rattle.recipe.specs.declared.Recipe.{Recipe}
use Rattle.run.specs.declared.Run.{Run}
use Rattle.printout.specs.declared.Answer.{Answer}
use Rattle.printout.specs.Turn.{Told, told, Answered, Walk, walked, printed, Answers}
use Rattle.printout.proofs.ByteAnswers.{line_few}

module _ (c : Cell) (r : Recipe) (table : List ℕ) where
  pub walked_parts : (run : Run) (xs ys : List ℕ) → walked c r table run (xs ++ ys)
      ≡ cond (walked c r table run xs).more (walked c r table (walked c r table run xs).run ys) (walked c r table run xs)
  unfolding walked
  walked_parts run [] ys = refl
  walked_parts run (x ∷ xs) ys = go (told c r table run x).more (walked_parts (told c r table run x).run xs ys)
    where
      next : Run
      next = (told c r table run x).run

      stopped : Walk
      stopped = record { more = false; run = (told c r table run x).run }

      go : (b : Bool)
          → walked c r table next (xs ++ ys) ≡ cond (walked c r table next xs).more
          (walked c r table (walked c r table next xs).run ys) (walked c r table next xs)
          → cond b (walked c r table next (xs ++ ys)) stopped
          ≡ cond (cond b (walked c r table next xs) stopped).more
          (walked c r table (cond b (walked c r table next xs) stopped).run ys)
          (cond b (walked c r table next xs) stopped)
      go true h = h
      go false h = refl

  pub printed_parts : (run : Run) (xs ys : List ℕ) → printed c r table run (xs ++ ys)
      ≡ printed c r table run xs ++ cond (walked c r table run xs).more (printed c r table (walked c r table run xs).run ys) []
  unfolding walked printed
  printed_parts run [] ys = refl
  printed_parts run (x ∷ xs) ys = go (told c r table run x).more (printed_parts (told c r table run x).run xs ys)
    where
      next : Run
      next = (told c r table run x).run

      stopped : Walk
      stopped = record { more = false; run = (told c r table run x).run }

      go : (b : Bool) → printed c r table next (xs ++ ys) ≡ printed c r table next xs
          ++ cond (walked c r table next xs).more (printed c r table (walked c r table next xs).run ys) []
          → (told c r table run x).line ++ cond b (printed c r table next (xs ++ ys)) []
          ≡ ((told c r table run x).line ++ cond b (printed c r table next xs) [])
          ++ cond (cond b (walked c r table next xs) stopped).more (printed c r table (cond b (walked c r table next xs) stopped).run ys) []
      go true h =
          ap (λ (l : List ℕ). (told c r table run x).line ++ l) h
          ∙ sym
          (append_assoc (told c r table run x).line (printed c r table next xs)
          (cond (walked c r table next xs).more (printed c r table (walked c r table next xs).run ys) []))
      go false h = sym (append-nil ((told c r table run x).line ++ []))

  -- where the walk has ended, more input changes nothing
  rest_idle : (run : Run) (xs ys : List ℕ) → (walked c r table run xs).more ≡ false → walked c r table run (xs ++ ys) ≡ walked c r table run xs
  rest_idle run xs ys stopped =
      walked_parts run xs ys
      ∙ ap (λ (b : Bool). cond b (walked c r table (walked c r table run xs).run ys) (walked c r table run xs)) stopped

  rest_silent : (run : Run) (xs ys : List ℕ) → (walked c r table run xs).more ≡ false → printed c r table run (xs ++ ys) ≡ printed c r table run xs
  rest_silent run xs ys stopped =
      printed_parts run xs ys
      ∙ ap (λ (b : Bool). printed c r table run xs ++ cond b (printed c r table (walked c r table run xs).run ys) []) stopped
      ∙ append-nil (printed c r table run xs)

  -- the answer to no byte
  pub answers_none : (run : Run) (bytes text : List ℕ) → Answers c r table run (take 0 bytes) text (record { length = 0; more = true; run = run })
  unfolding walked printed
  answers_none run bytes text = record { inside = omega arith; lines_are = refl; more_is = refl; run_is = refl }

  -- and to one byte more
  module _
      (run : Run) (bytes text text' : List ℕ) (i : ℕ) (low : i < length bytes) (all next : Answer)
      (before : Answers c r table run (take i bytes) text all)
      (on : all.more ≡ true)
      (answered : Answered (told c r table all.run (get_or bytes i 0)) text text' all.length next)
    where
      one : take (i + 1) bytes ≡ take i bytes ++ (get_or bytes i 0 ∷ [])
      one = rw (add-one i) (take-suc bytes i 0 low)

      going : (walked c r table run (take i bytes)).more ≡ true
      going = sym before.more_is ∙ on

      told_is : told c r table all.run (get_or bytes i 0) ≡ told c r table (walked c r table run (take i bytes)).run (get_or bytes i 0)
      told_is = ap (λ (at : Run). told c r table at (get_or bytes i 0)) before.run_is

      abbrev after : Told
      after = told c r table (walked c r table run (take i bytes)).run (get_or bytes i 0)

      walked_one : ◌≡◌ {A = Walk} (walked c r table run (take (i + 1) bytes)) (record { more = after.more; run = after.run })
      unfolding walked
      walked_one = rw (one, walked_parts run (take i bytes) (get_or bytes i 0 ∷ []), going) (by_more after.more)
        where
          by_more : (b : Bool)
              → ◌≡◌ {A = Walk}
              (cond b (record { more = true; run = after.run }) (record { more = false; run = after.run }))
              (record { more = b; run = after.run })
          by_more true = refl
          by_more false = refl

      printed_one : printed c r table run (take (i + 1) bytes) ≡ printed c r table run (take i bytes) ++ after.line
      unfolding printed
      printed_one =
          rw (one, printed_parts run (take i bytes) (get_or bytes i 0 ∷ []), going)
          (ap (λ (l : List ℕ). printed c r table run (take i bytes) ++ l) (by_more after.more))
        where
          by_more : (b : Bool) → after.line ++ cond b [] [] ≡ after.line
          by_more true = append-nil after.line
          by_more false = append-nil after.line

      pub answers_next : Answers c r table run (take (i + 1) bytes) text' next
      answers_next =
          record {
            inside = answered.line_is.inside;
            lines_are =
                answered.line_is.bytes_are
                ∙ (λ j. before.lines_are j ++ (told_is j).line)
                ∙ sym printed_one;
            more_is = answered.more_is ∙ (λ j. (told_is j).more) ∙ (λ j. (sym walked_one j).more);
            run_is = answered.run_is ∙ (λ j. (told_is j).run) ∙ (λ j. (sym walked_one j).run);
          }

      -- what one byte more adds
      pub answers_few : next.length ≤ all.length + 64
      answers_few = omega (arith, answered.line_is.end_is, line_few c r table all.run (get_or bytes i 0))

      -- a byte that ends the walk answers all bytes
      pub answers_ended : next.more ≡ false → Answers c r table run bytes text' next
      answers_ended over =
          let stopped : (walked c r table run (take (i + 1) bytes)).more ≡ false = sym answers_next.more_is ∙ over in
          let parts : take (i + 1) bytes ++ drop (i + 1) bytes ≡ bytes = take-append-drop (i + 1) bytes in
          record {
            inside = answers_next.inside;
            lines_are =
                answers_next.lines_are ∙ sym (rest_silent run (take (i + 1) bytes) (drop (i + 1) bytes) stopped)
                ∙ ap (λ (l : List ℕ). printed c r table run l) parts;
            more_is =
                answers_next.more_is
                ∙ (λ j. (sym (rest_idle run (take (i + 1) bytes) (drop (i + 1) bytes) stopped) j).more)
                ∙ ap (λ (l : List ℕ). (walked c r table run l).more) parts;
            run_is =
                answers_next.run_is
                ∙ (λ j. (sym (rest_idle run (take (i + 1) bytes) (drop (i + 1) bytes) stopped) j).run)
                ∙ ap (λ (l : List ℕ). (walked c r table run l).run) parts;
          }

  -- and to all of them
  pub answers_all : {text : List ℕ} {all : Answer} (run : Run) (bytes : List ℕ) (i : ℕ) → length bytes ≤ i
      → Answers c r table run (take i bytes) text all → Answers c r table run bytes text all
  answers_all {text} {all} run bytes i past answers = subst (λ (l : List ℕ). Answers c r table run l text all) (take_all i bytes past) answers
