-- The rules on a recipe record, in the order of the refusal list. Each sees the first `count` lines alone.
-- Assumes nothing.
use Rattle.std.specs.Prelude.{Bool, false, cond, not, ◌&&◌, ◌||◌, List, [], ◌∷◌, ℕ, zero, suc, ◌+◌, ◌/◌, ◌%◌, ◌^◌, get_or, eqb, leb}
use Rattle.refusals.specs.Verdict.{Verdict, first_refusal, first_line, rule3}
use Rattle.refusals.specs.declared.Refusal.TheVariants.{Range, PointOrder, RepeatedPoint, UnusedField, NoParts, CommonPart, TargetPoint}
use Rattle.refusals.specs.Search.{any_below, count_below, is_of}
use Rattle.recipe.specs.declared.Recipe.{Recipe}

-- "Point, then, else: 0 to 15; op 0 to 63; takes and gives 0 to 255; kind 0 end, 1 do, 2 test."
unfoldable pub in_range : ℕ → ℕ → ℕ → ℕ → ℕ → ℕ → ℕ → Bool
in_range point kind op takes gives then otherwise =
    leb point 15 && (leb kind 2 && (leb op 63 && (leb takes 255 && (leb gives 255 && (leb then 15 && leb otherwise 15)))))

-- line n has a number that leaves its range
unfoldable pub leaves_range : List ℕ → List ℕ → List ℕ → List ℕ → List ℕ → List ℕ → List ℕ → ℕ → Bool
leaves_range point kind op takes gives then otherwise n =
    not
    (in_range (get_or point n 0) (get_or kind n 0) (get_or op n 0) (get_or takes n 0) (get_or gives n 0) (get_or then n 0) (get_or otherwise n 0))

-- "4. A number leaves its range."
unfoldable pub rule4 : Recipe → Verdict
rule4 r =
    first_line Range (leaves_range r.point r.kind r.op r.takes r.gives r.then r.otherwise) r.count

-- "the first point isn't 0, or a point is neither its predecessor's nor one more", of line n's point
unfoldable pub breaks_order : List ℕ → ℕ → Bool
breaks_order point zero = not (eqb (get_or point 0 0) 0)
breaks_order point (suc n) = not (eqb (get_or point (suc n) 0) (get_or point n 0) || eqb (get_or point (suc n) 0) (get_or point n 0 + 1))

-- "7. Recipe: the first point isn't 0, or a point is neither its predecessor's nor one more."
unfoldable pub rule7 : Recipe → Verdict
rule7 r = first_line PointOrder (breaks_order r.point) r.count

-- line k is of line n's point, and they aren't both kind 1 with one `then`
unfoldable pub clashes : List ℕ → List ℕ → List ℕ → ℕ → ℕ → Bool
clashes point kind then n k =
    is_of point (get_or point n 0) k && not (eqb (get_or kind n 0) 1 && (eqb (get_or kind k 0) 1 && eqb (get_or then n 0) (get_or then k 0)))

-- line n clashes with an earlier line of its point, or four earlier lines are of its point
unfoldable pub breaks_repeat : List ℕ → List ℕ → List ℕ → ℕ → Bool
breaks_repeat point kind then n = any_below (clashes point kind then n) n || leb 4 (count_below (is_of point (get_or point n 0)) n)

-- "8. Recipe: a repeated point isn't kind 1 on both lines, differs in `then`, or comes a fifth time."
unfoldable pub rule8 : Recipe → Verdict
rule8 r = first_line RepeatedPoint (breaks_repeat r.point r.kind r.then) r.count

-- "an unused field isn't 0 (kind 0 all after kind, kind 1 else, kind 2 gives)", of the numbers of a line
unfoldable pub has_unused : ℕ → ℕ → ℕ → ℕ → ℕ → ℕ → Bool
has_unused kind op takes gives then otherwise =
    cond (eqb kind 0) (not (eqb op 0 && (eqb takes 0 && (eqb gives 0 && (eqb then 0 && eqb otherwise 0)))))
    (cond (eqb kind 1) (not (eqb otherwise 0)) (cond (eqb kind 2) (not (eqb gives 0)) false))

-- line n has an unused field that isn't 0
unfoldable pub breaks_unused : List ℕ → List ℕ → List ℕ → List ℕ → List ℕ → List ℕ → ℕ → Bool
breaks_unused kind op takes gives then otherwise n =
    has_unused (get_or kind n 0) (get_or op n 0) (get_or takes n 0) (get_or gives n 0) (get_or then n 0) (get_or otherwise n 0)

-- "9. Recipe: an unused field isn't 0 (kind 0 all after kind, kind 1 else, kind 2 gives)."
unfoldable pub rule9 : Recipe → Verdict
rule9 r = first_line UnusedField (breaks_unused r.kind r.op r.takes r.gives r.then r.otherwise) r.count

-- "a test takes 0, or a do takes and gives 0"
unfoldable pub lacks_parts : ℕ → ℕ → ℕ → Bool
lacks_parts kind takes gives = cond (eqb kind 1) (eqb takes 0 && eqb gives 0) (cond (eqb kind 2) (eqb takes 0) false)

-- "10. Recipe: a test takes 0, or a do takes and gives 0."
unfoldable pub rule10 : Recipe → Verdict
rule10 r = first_line NoParts (λ n. lacks_parts (get_or r.kind n 0) (get_or r.takes n 0) (get_or r.gives n 0)) r.count

-- "sums in which part n counts 2^n": the part is in the sum
unfoldable pub holds_part : ℕ → ℕ → Bool
holds_part sum part = eqb (sum / 2 ^ part % 2) 1

-- the two sums have a part in common
unfoldable pub common : ℕ → ℕ → Bool
common a b = any_below (λ part. holds_part a part && holds_part b part) 8

-- lines n and k are of one point, and both take, or both give, a common part
unfoldable pub shares_part : List ℕ → List ℕ → List ℕ → ℕ → ℕ → Bool
shares_part point takes gives n k =
    is_of point (get_or point n 0) k && (common (get_or takes n 0) (get_or takes k 0) || common (get_or gives n 0) (get_or gives k 0))

-- "11. Recipe: two lines of a point take, or give, a common part.", and "for a pair, the later line"
unfoldable pub rule11 : Recipe → Verdict
rule11 r = first_line CommonPart (λ n. any_below (shares_part r.point r.takes r.gives n) n) r.count

-- "N is the number of points.": how many lines are the first of their point
unfoldable pub point_count : List ℕ → ℕ → ℕ
point_count point count = count_below (λ n. not (any_below (is_of point (get_or point n 0)) n)) count

-- "a do's `then` or a test's `then` or `else` is N or more"
unfoldable pub leads_out : ℕ → ℕ → ℕ → ℕ → Bool
leads_out points kind then otherwise = cond (eqb kind 1) (leb points then) (cond (eqb kind 2) (leb points then || leb points otherwise) false)

-- "12. Recipe: a do's `then` or a test's `then` or `else` is N or more."
unfoldable pub rule12 : Recipe → Verdict
rule12 r =
    let N = point_count r.point r.count in
    first_line TargetPoint (λ n. leads_out N (get_or r.kind n 0) (get_or r.then n 0) (get_or r.otherwise n 0)) r.count

-- "check handed-in values anew from rule 3": a recipe record's rules, in order
unfoldable pub recipe_rules : Recipe → List Verdict
recipe_rules r = rule3 r.count ∷ rule4 r ∷ rule7 r ∷ rule8 r ∷ rule9 r ∷ rule10 r ∷ rule11 r ∷ rule12 r ∷ []

unfoldable pub check_recipe : Recipe → Verdict
check_recipe r = first_refusal (recipe_rules r)
