-- A cell with operation lines more, behind its own: it has the lines that it had and then these, it has no resource more, and it passes
-- its rules. Assumes nothing.
use mathlib.Core.Path.{◌≡◌, refl, sym, ap, subst, ◌∙◌}
use mathlib.Core.Logic.{⊎_elim}
use mathlib.Core.Bool.{Bool, true, false, not, ◌&&◌, ◌||◌, true≢false}
use mathlib.Core.List.{List, [], ◌∷◌, ◌++◌}
use Prim.Native.Nat.{ℕ, suc, ◌+◌, ◌<◌, ◌≤◌}
use native.Mathlib.Nat.{le_of_suc-le-suc, eq-or-lt_of_le}
use native.Mathlib.Omega.{arith}
use lib.ListN.{length, get_or, length-set, length-append}
use lib.Seq.{get_or-set_same, get_or-set_other}
use lib.Dec.{eqb}
use borrow.Author.Tests.{le-leb, le-ltb, ne_eqb, not-false}
use Rattle.refusals.specs.Verdict.{Accepted, first_refusal, no_line, rule3}
use Rattle.refusals.specs.declared.Refusal.TheVariants.{LineCount, Range, ResourceGap, NoPartner, LimitResource, RejectLine}
use Rattle.refusals.specs.Search.{any_below, is_of}
use Rattle.refusals.proofs.Scan.{greatest_within, greatest_longer}
use Rattle.refusals.proofs.EveryBelow.{any_none, any_not, any_longer}
use Rattle.refusals.proofs.Verdicts.{none_breaks, none_broken, no_line_kept, no_line_accepts}
use Rattle.refusals.proofs.Rules.{first_accepts, rest_accepts}
use Rattle.cell.specs.declared.Cell.{Cell}
use Rattle.cell.specs.declared.OperationLine.{OperationLine}
use Rattle.cell.specs.Rules.{in_range, leaves_range, rule4, rule4_limits, greatest_resource, resource_count, has_no_line, gap, rule5}
use Rattle.cell.specs.Rules.{partner, unpaired, rule6, alike, limits_absent, rule20, stray, rule23, cell_rules, check_cell}
use Rattle.cell.specs.Longer.{with_line, with_lines}
use Rattle.cell.proofs.AcceptedRecord.{line_in_range, each_accepts}
use Rattle.cell.proofs.RejectGates.{alike_in}

-- a cell record as it stands in memory: every column has 64 lines
pub record Columns (c : Cell) : Type 0 where
  pub resource : length c.resource ≡ 64
  pub from : length c.from ≡ 64
  pub act : length c.act ≡ 64
  pub arg : length c.arg ≡ 64
  pub to : length c.to ≡ 64

-- line n of d has the numbers of line m of c
pub record SameLine (c : Cell) (m : ℕ) (d : Cell) (n : ℕ) : Type 0 where
  pub resource : get_or d.resource n 0 ≡ get_or c.resource m 0
  pub from : get_or d.from n 0 ≡ get_or c.from m 0
  pub act : get_or d.act n 0 ≡ get_or c.act m 0
  pub arg : get_or d.arg n 0 ≡ get_or c.arg m 0
  pub to : get_or d.to n 0 ≡ get_or c.to m 0

-- line n of c is this operation line
pub record IsLine (c : Cell) (n : ℕ) (l : OperationLine) : Type 0 where
  pub resource : get_or c.resource n 0 ≡ l.resource
  pub from : get_or c.from n 0 ≡ l.from
  pub act : get_or c.act n 0 ≡ 1
  pub arg : get_or c.arg n 0 ≡ l.operation
  pub to : get_or c.to n 0 ≡ l.to

module _ (c : Cell) (l : OperationLine) where
  -- the columns are as long as they were
  pub columns_longer : Columns c → Columns (with_line c l)
  unfolding with_line
  columns_longer C =
      record {
        resource = length-set c.resource c.count l.resource ∙ C.resource;
        from = length-set c.from c.count l.from ∙ C.from;
        act = length-set c.act c.count 1 ∙ C.act;
        arg = length-set c.arg c.count l.operation ∙ C.arg;
        to = length-set c.to c.count l.to ∙ C.to;
      }

  -- the cell's own lines stay
  pub line_kept : (n : ℕ) → n < c.count → SameLine c n (with_line c l) n
  unfolding with_line
  line_kept n low =
      let ne : n ≡ c.count → ⊥ = λ (e : n ≡ c.count). omega arith in
      record {
        resource = get_or-set_other c.resource c.count n l.resource 0 ne;
        from = get_or-set_other c.from c.count n l.from 0 ne;
        act = get_or-set_other c.act c.count n 1 0 ne;
        arg = get_or-set_other c.arg c.count n l.operation 0 ne;
        to = get_or-set_other c.to c.count n l.to 0 ne;
      }

  -- and the added one is behind them
  pub line_added : Columns c → c.count < 64 → IsLine (with_line c l) c.count l
  unfolding with_line
  line_added C few =
      record {
        resource = get_or-set_same c.resource c.count l.resource 0 (omega (arith, C.resource));
        from = get_or-set_same c.from c.count l.from 0 (omega (arith, C.from));
        act = get_or-set_same c.act c.count 1 0 (omega (arith, C.act));
        arg = get_or-set_same c.arg c.count l.operation 0 (omega (arith, C.arg));
        to = get_or-set_same c.to c.count l.to 0 (omega (arith, C.to));
      }

-- lines added in two parts are added one part after the other
lines_joined : (c : Cell) (ls ms : List OperationLine) → with_lines c (ls ++ ms) ≡ with_lines (with_lines c ls) ms
unfolding with_lines
lines_joined c [] ms = refl
lines_joined c (l ∷ ls) ms = lines_joined (with_line c l) ls ms

-- so the last is added to the cell with the others
pub lines_last : (c : Cell) (ls : List OperationLine) (l : OperationLine) → with_lines c (ls ++ (l ∷ [])) ≡ with_line (with_lines c ls) l
unfolding with_lines
lines_last c ls l = lines_joined c ls (l ∷ [])

-- there are as many lines more
pub lines_count : (c : Cell) (ls : List OperationLine) → (with_lines c ls).count ≡ c.count + length ls
unfolding with_line with_lines
lines_count c [] = omega arith
lines_count c (l ∷ ls) = omega (arith, lines_count (with_line c l) ls)

-- the limits are the cell's
pub lines_limits : (c : Cell) (ls : List OperationLine) → (with_lines c ls).limits ≡ c.limits
unfolding with_line with_lines
lines_limits c [] = refl
lines_limits c (l ∷ ls) = lines_limits (with_line c l) ls

-- the columns are as long as they were
columns_lines : (c : Cell) (ls : List OperationLine) → Columns c → Columns (with_lines c ls)
unfolding with_lines
columns_lines c [] C = C
columns_lines c (l ∷ ls) C = columns_lines (with_line c l) ls (columns_longer c l C)

-- the cell's own lines stay
pub lines_kept : (c : Cell) (ls : List OperationLine) (n : ℕ) → n < c.count → SameLine c n (with_lines c ls) n
unfolding with_line with_lines
lines_kept c [] n low = record { resource = refl; from = refl; act = refl; arg = refl; to = refl }
lines_kept c (l ∷ ls) n low =
    let first = line_kept c l n low in
    let rest = lines_kept (with_line c l) ls n (omega arith) in
    record {
      resource = rest.resource ∙ first.resource;
      from = rest.from ∙ first.from;
      act = rest.act ∙ first.act;
      arg = rest.arg ∙ first.arg;
      to = rest.to ∙ first.to;
    }

-- where a line has the numbers of an operation line, it is that line
same_is : {c d : Cell} {m n : ℕ} {l : OperationLine} → SameLine c m d n → IsLine c m l → IsLine d n l
same_is same is =
    record {
      resource = same.resource ∙ is.resource;
      from = same.from ∙ is.from;
      act = same.act ∙ is.act;
      arg = same.arg ∙ is.arg;
      to = same.to ∙ is.to;
    }

-- the first of the added lines is behind the cell's own
line_first : (c : Cell) (l : OperationLine) (after : List OperationLine) → Columns c → c.count < 64 → IsLine (with_lines c (l ∷ after)) c.count l
unfolding with_line with_lines
line_first c l after C few = same_is (lines_kept (with_line c l) after c.count (omega arith)) (line_added c l C few)

-- and each of them behind those before it
pub lines_added :
    (c : Cell) (before : List OperationLine) (l : OperationLine) (after : List OperationLine)
    → Columns c
    → c.count + length (before ++ (l ∷ after)) ≤ 64
    → IsLine (with_lines c (before ++ (l ∷ after))) (c.count + length before) l
lines_added c before l after C few =
    let d = with_lines c before in
    let low : d.count < 64 = omega (arith, lines_count c before, length-append before (l ∷ after)) in
    subst (λ (x : Cell). IsLine x (c.count + length before) l) (sym (lines_joined c before (l ∷ after)))
    (subst (λ (n : ℕ). IsLine (with_lines d (l ∷ after)) n l) (lines_count c before)
    (line_first d l after (columns_lines c before C) low))

-- all of them are operation lines
pub lines_act :
    (c : Cell) (ls : List OperationLine)
    → Columns c
    → c.count + length ls ≤ 64
    → (m : ℕ)
    → c.count ≤ m
    → m < (with_lines c ls).count
    → get_or (with_lines c ls).act m 0 ≡ 1
unfolding with_line with_lines
lines_act c [] C few m past low = absurd (omega arith)
lines_act c (l ∷ ls) C few m past low =
    ⊎_elim
    (λ (e : c.count ≡ m). subst (λ (n : ℕ). get_or (with_lines c (l ∷ ls)).act n 0 ≡ 1) e (line_first c l ls C (omega arith)).act)
    (λ (lt : c.count < m). lines_act (with_line c l) ls (columns_longer c l C) (omega arith) m lt low)
    (eq-or-lt_of_le past)

-- lines that have the numbers of others are alike where these are
alike_kept : (c d : Cell) (wanted i k : ℕ) → SameLine c i d i → SameLine c k d k → alike_in c wanted i k ≡ alike_in d wanted i k
unfolding alike
alike_kept c d wanted i k I K = rw (I.resource, I.from, I.arg, K.resource, K.from, K.act, K.arg)

-- of a line more whose resource is one of the cell's
module _ (c : Cell) (l : OperationLine) (C : Columns c) (few : c.count < 64) (own : l.resource < resource_count c) where
  -- the greatest resource number is the cell's
  longer_greatest : greatest_resource (with_line c l).resource (with_line c l).count ≡ greatest_resource c.resource c.count
  unfolding with_line greatest_resource
  longer_greatest =
      greatest_longer (λ n. get_or c.resource n 0) (λ n. get_or (with_line c l).resource n 0) c.count
      (λ n low. (line_kept c l n low).resource) (omega (arith, (line_added c l C few).resource))

  -- there is no resource more
  pub longer_resources : resource_count (with_line c l) ≡ resource_count c
  longer_resources = ap (λ (n : ℕ). n + 1) longer_greatest

  -- each line is one of the cell's or the added one
  by_line :
      (P : ℕ → Type 0)
      → ((n : ℕ) → n < c.count → SameLine c n (with_line c l) n → P n)
      → (IsLine (with_line c l) c.count l → P c.count)
      → (n : ℕ)
      → n < (with_line c l).count
      → P n
  unfolding with_line
  by_line P kept added n low =
      ⊎_elim (λ (e : n ≡ c.count). subst P (sym e) (added (line_added c l C few))) (λ (lt : n < c.count). kept n lt (line_kept c l n lt))
      (eq-or-lt_of_le (le_of_suc-le-suc low))

  -- the count is still one to 64
  third : rule3 (with_line c l).count ≡ Accepted
  unfolding rule3 with_line
  third = no_line_kept LineCount _ (rw (ne_eqb (suc c.count) 0 (λ (e : suc c.count ≡ 0). omega arith), le-ltb 64 (suc c.count) few))

  module _ (accepted : check_cell c ≡ Accepted) where
    -- the resource of the added line is in range
    resource_most : l.resource ≤ 5
    unfolding greatest_resource
    resource_most =
        omega (
          arith,
          own,
          greatest_within (λ n. get_or c.resource n 0) c.count 5
              (λ n low. (line_in_range c (each_accepts c accepted).fourth n low).resource),
        )

    -- and so are its other numbers
    fourth : l.from ≤ 7 → l.operation ≤ 63 → l.to ≤ 7 → rule4 (with_line c l) ≡ Accepted
    unfolding rule4 leaves_range in_range
    fourth from operation to = none_broken Range leaves d.count (by_line (λ n. leaves n ≡ false) kept added)
      where
        d : Cell
        d = with_line c l

        leaves : ℕ → Bool
        leaves = leaves_range d.resource d.from d.act d.arg d.to

        kept : (n : ℕ) → n < c.count → SameLine c n d n → leaves n ≡ false
        kept n low S = rw (S.resource, S.from, S.act, S.arg, S.to) (none_breaks _ _ _ (each_accepts c accepted).fourth n low)

        added : IsLine d c.count l → leaves c.count ≡ false
        added L =
            rw (
              L.resource,
              L.from,
              L.act,
              L.arg,
              L.to,
              le-leb l.resource 5 resource_most,
              le-leb l.from 7 from,
              le-leb l.operation 63 operation,
              le-leb l.to 7 to,
            )

    -- the limits are the cell's
    limits : rule4_limits (with_line c l) ≡ Accepted
    unfolding rule4_limits with_line check_cell cell_rules
    limits = search (first_accepts, rest_accepts)

    -- a resource that had a line has it still
    fifth : rule5 (with_line c l) ≡ Accepted
    unfolding rule5 gap has_no_line is_of with_line
    fifth = no_line_kept ResourceGap _ (any_none _ _ (λ k low. at k (omega (arith, longer_greatest))))
      where
        at : (k : ℕ) → k < greatest_resource c.resource c.count → has_no_line (with_line c l).resource (with_line c l).count k ≡ false
        at k low =
            let had : any_below (is_of c.resource k) c.count ≡ true =
            not-false _ (any_not (has_no_line c.resource c.count) _ k (no_line_accepts _ _ (each_accepts c accepted).fifth) low) in
            let same : (n : ℕ) → n < c.count → is_of c.resource k n ≡ is_of (with_line c l).resource k n =
            λ n lt. ap (λ (m : ℕ). eqb m k) (sym (line_kept c l n lt).resource) in
            rw (any_longer (is_of c.resource k) (is_of (with_line c l).resource k) c.count same had)

    -- a line that had a partner has it still, and the added one needs none
    sixth : rule6 (with_line c l) ≡ Accepted
    unfolding rule6 unpaired partner with_line
    sixth =
        none_broken NoPartner (unpaired d.resource d.act d.arg d.count) d.count
        (by_line (λ n. unpaired d.resource d.act d.arg d.count n ≡ false) kept added)
      where
        d : Cell
        d = with_line c l

        still : (a b b' : Bool) → (b ≡ true → b' ≡ true) → (a && not b) ≡ false → (a && not b') ≡ false
        still true true b' more e = rw (more refl)
        still true false b' more e = absurd (true≢false e)
        still false b b' more e = refl

        pairs : Cell → ℕ → ℕ → Bool
        pairs x = partner x.resource x.act x.arg

        same : (i k : ℕ) → SameLine c i d i → SameLine c k d k → pairs c i k ≡ pairs d i k
        same i k I K = rw (I.resource, I.act, I.arg, K.resource, K.act, K.arg)

        kept : (i : ℕ) → i < c.count → SameLine c i d i → unpaired d.resource d.act d.arg d.count i ≡ false
        kept i low I =
            let act = get_or c.act i 0 in
            rw I.act
            (still (eqb act 2 || eqb act 3) (any_below (pairs c i) c.count) (any_below (pairs d i) d.count)
            (any_longer (pairs c i) (pairs d i) c.count (λ k less. same i k I (line_kept c l k less)))
            (none_breaks _ _ _ (each_accepts c accepted).sixth i low))

        added : IsLine d c.count l → unpaired d.resource d.act d.arg d.count c.count ≡ false
        added L = rw L.act

    -- neither the limits nor the resources are others
    twentieth : rule20 (with_line c l) ≡ Accepted
    unfolding rule20 with_line check_cell cell_rules
    twentieth =
        ap (λ (R : ℕ). no_line LimitResource (any_below (limits_absent c.limits R) 6)) longer_resources
        ∙ search (first_accepts, rest_accepts) depth 7

    -- an act 4 line that had its act 1 line has it still, the lines before it are the same, and the added one is of act 1
    twenty_third : rule23 (with_line c l) ≡ Accepted
    unfolding rule23 stray with_line
    twenty_third =
        none_broken RejectLine (strays d) d.count (by_line (λ n. strays d n ≡ false) kept added)
      where
        d : Cell
        d = with_line c l

        strays : Cell → ℕ → Bool
        strays x = stray x.resource x.from x.act x.arg x.count

        still :
            (a b b' e e' : Bool)
            → (b ≡ true → b' ≡ true)
            → (e ≡ false → e' ≡ false)
            → (a && (not b || e)) ≡ false
            → (a && (not b' || e')) ≡ false
        still true true b' true e' more none f = absurd (true≢false f)
        still true true b' false e' more none f = rw (more refl, none refl)
        still true false b' e e' more none f = absurd (true≢false f)
        still false b b' e e' more none f = refl

        kept : (i : ℕ) → i < c.count → SameLine c i d i → strays d i ≡ false
        kept i low I =
            rw I.act
            (still (eqb (get_or c.act i 0) 4) (any_below (alike_in c 1 i) c.count) (any_below (alike_in d 1 i) d.count)
            (any_below (alike_in c 4 i) i) (any_below (alike_in d 4 i) i)
            (any_longer (alike_in c 1 i) (alike_in d 1 i) c.count (λ k less. alike_kept c d 1 i k I (line_kept c l k less)))
            (λ none. any_none (alike_in d 4 i) i (λ k less. sym (alike_kept c d 4 i k I (line_kept c l k (omega arith))) ∙ any_not (alike_in c 4 i) i k none less))
            (none_breaks _ _ _ (each_accepts c accepted).twenty_third i low))

        added : IsLine d c.count l → strays d c.count ≡ false
        added L = rw L.act

-- an operation line more, of a resource of the cell, breaks no rule
pub longer_accepted :
    (c : Cell) (l : OperationLine)
    → check_cell c ≡ Accepted
    → Columns c
    → c.count < 64
    → l.resource < resource_count c
    → l.from ≤ 7
    → l.operation ≤ 63
    → l.to ≤ 7
    → check_cell (with_line c l) ≡ Accepted
unfolding check_cell cell_rules first_refusal
longer_accepted c l accepted C few own from operation to =
    rw (
      third c l C few own,
      fourth c l C few own accepted from operation to,
      limits c l C few own accepted,
      fifth c l C few own accepted,
      sixth c l C few own accepted,
      twentieth c l C few own accepted,
      twenty_third c l C few own accepted,
    )
