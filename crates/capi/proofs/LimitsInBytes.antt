-- What a call that reads limits leaves of a record's bytes, whatever they are: all of them if it is refused, and all but the six
-- limits in any case. Assumes nothing.
use mathlib.Core.Path.{◌≡◌, refl, sym, ap, subst, ◌∙◌}
use mathlib.Core.Bool.{Bool, true, false, cond}
use mathlib.Core.List.{List, ◌++◌, append_assoc}
use Prim.Native.Nat.{ℕ, ◌<◌, ◌≤◌}
use native.Mathlib.Omega.{arith}
use lib.ListN.{length, get_or, take, drop, length-append, length-drop, take-append-drop}
use lib.Seq.{take_at, drop_at, length-take-le}
use lib.Dec.{ltb}
use borrow.Author.Tests.{lt-ltb, le-ltb, ltb-false}
use Rattle.std.specs.Prelude.{Err}
use Rattle.refusals.specs.Verdict.{Verdict, Accepted, first_refusal, no_line, if_accepted, rule3}
use Rattle.refusals.specs.Search.{tabulate}
use Rattle.refusals.proofs.TabulatedLists.{length_tabulate}
use Rattle.cell.specs.declared.Cell.{Cell}
use Rattle.cell.specs.Rules.{cell_rules, check_cell}
use Rattle.limits.specs.Reader.{at_no_line, judge_limits, limited, read_limits}
use Rattle.records.specs.Encoding.{cell_bytes, cell_from}
use Rattle.records.proofs.RecordsRoundTrip.{WholeCell, cell_back, bytes_whole_cell, limited_to, cell_lines_back, cell_bytes_back}
use Rattle.capi.specs.Encoding.{code_of}
use Rattle.capi.specs.Answer.{LimitsAnswered}

-- "returns it unchanged when it refuses"
own_cell : (verdict : Verdict) (c other : Cell) → (code_of verdict ≡ 0 → ⊥) → if_accepted verdict other c ≡ c
unfolding if_accepted code_of
own_cell Accepted c other refused = absurd (refused refl)
own_cell (Err broken) c other refused = refl

-- "The limit becomes part of the cell record", and nothing else: with other limits or its own the record is as it was handed in
pub only_limits : (file : List ℕ) (c : Cell) → (read_limits file c).cell ≡ limited_to c (read_limits file c).cell.limits
unfolding read_limits limited if_accepted
only_limits file c = kept (judge_limits file c)
  where
    kept : (verdict : Verdict) → if_accepted verdict (limited file c) c ≡ limited_to c (if_accepted verdict (limited file c) c).limits
    kept Accepted = refl
    kept (Err broken) = refl

-- and there are six of them if there were six
six_limits : (file : List ℕ) (c : Cell) → length c.limits ≡ 6 → length (read_limits file c).cell.limits ≡ 6
unfolding read_limits limited if_accepted
six_limits file c own = counted (judge_limits file c)
  where
    counted : (verdict : Verdict) → length (if_accepted verdict (limited file c) c).limits ≡ 6
    counted Accepted = length_tabulate _ 6
    counted (Err broken) = own

-- the bytes before the limits and those behind them stay
pub record AllButLimits (entry exit : List ℕ) : Type 0 where
  pub before : take 321 exit ≡ take 321 entry
  pub behind : drop 327 exit ≡ drop 327 entry
  pub size : length exit ≡ length entry

module _ (file entry exit : List ℕ) (answer : ℕ) (told : LimitsAnswered (read_limits file (cell_from entry)) entry exit answer) where
  -- a number other than 0 is answered: the bytes stay, those of a record and those behind it, and bytes too few for a record too
  pub refused_limits_stay : (answer ≡ 0 → ⊥) → exit ≡ entry
  unfolding read_limits
  refused_limits_stay refused = told.buffer_is ∙ decide (ltb (length entry) 327) refl
    where
      same : (read_limits file (cell_from entry)).cell ≡ cell_from entry
      same = own_cell (judge_limits file (cell_from entry)) (cell_from entry) _ (λ none. refused (told.answer_is ∙ none))

      decide : (short : Bool) → ltb (length entry) 327 ≡ short
          → cond short entry (cell_bytes (read_limits file (cell_from entry)).cell ++ drop 327 entry) ≡ entry
      decide true e = refl
      decide false e =
          ap (λ (c : Cell). cell_bytes c ++ drop 327 entry) same
          ∙ ap (λ (l : List ℕ). l ++ drop 327 entry) (cell_bytes_back entry (ltb-false (length entry) 327 e))
          ∙ take-append-drop 327 entry

  -- bytes too few for a record count as one of no lines: they get 3, and no line is named
  pub short_record_refused : length entry < 327 → answer ≡ 3
  unfolding cell_from code_of read_limits judge_limits at_no_line check_cell cell_rules rule3 no_line first_refusal
  short_record_refused short = told.answer_is ∙ rw (lt-ltb (length entry) 327 short)

  pub all_but_limits_stay : AllButLimits entry exit
  all_but_limits_stay = decide (ltb (length entry) 327) refl
    where
      limits : List ℕ
      limits = tabulate 6 (λ k. get_or (read_limits file (cell_from entry)).cell.limits k 0)

      six : length limits ≡ 6
      six = length_tabulate (λ k. get_or (read_limits file (cell_from entry)).cell.limits k 0) 6

      put : 327 ≤ length entry → cell_bytes (read_limits file (cell_from entry)).cell ≡ take 321 entry ++ limits
      put long = ap cell_bytes (only_limits file (cell_from entry)) ∙ cell_lines_back entry long (read_limits file (cell_from entry)).cell.limits

      short_stays : exit ≡ entry → AllButLimits entry exit
      short_stays e = record { before = ap (take 321) e; behind = ap (drop 327) e; size = ap length e }

      split : 327 ≤ length entry → exit ≡ (take 321 entry ++ limits) ++ drop 327 entry → AllButLimits entry exit
      split long e =
          let lines : length (take 321 entry) ≡ 321 = length-take-le 321 entry (omega arith) in
          let both : length (take 321 entry ++ limits) ≡ 327 = omega (arith, length-append (take 321 entry) limits, six) in
          record {
            before =
                ap (take 321) (e ∙ append_assoc (take 321 entry) limits (drop 327 entry))
                ∙ take_at (take 321 entry) (limits ++ drop 327 entry) 321 lines;
            behind = ap (drop 327) e ∙ drop_at (take 321 entry ++ limits) (drop 327 entry) 327 both;
            size = ap length e ∙ length-append (take 321 entry ++ limits) (drop 327 entry) ∙ omega (arith, length-drop 327 entry);
          }

      decide : (short : Bool) → ltb (length entry) 327 ≡ short → AllButLimits entry exit
      decide true e = short_stays (told.buffer_is ∙ rw e)
      decide false e =
          let long = ltb-false (length entry) 327 e in
          split long (told.buffer_is ∙ rw e (ap (λ (l : List ℕ). l ++ drop 327 entry) (put long)))

  -- so the bytes hold the record that the reader returns, and a call that is handed them then works with its limits
  pub record_held : 327 ≤ length entry → cell_from exit ≡ (read_limits file (cell_from entry)).cell
  record_held long = ap cell_from (told.buffer_is ∙ rw (le-ltb (length entry) 327 long)) ∙ cell_back (read_limits file (cell_from entry)).cell (drop 327 entry) whole
    where
      held : WholeCell (cell_from entry)
      held = bytes_whole_cell entry long

      whole : WholeCell (read_limits file (cell_from entry)).cell
      whole =
          subst WholeCell (sym (only_limits file (cell_from entry)))
          (record {
            columns =
                record {
                  resource = held.columns.resource;
                  from = held.columns.from;
                  act = held.columns.act;
                  arg = held.columns.arg;
                  to = held.columns.to;
                };
            limits = six_limits file (cell_from entry) held.limits;
          })
