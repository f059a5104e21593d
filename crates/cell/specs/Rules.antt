-- The rules on a cell record, in the order of the refusal list. Each sees the first `count` lines alone, or the six limits.
-- Assumes nothing.
use Rattle.std.specs.Prelude.{Bool, cond, not, ◌&&◌, ◌||◌, List, [], ◌∷◌, ℕ, ◌+◌, get_or, eqb, leb}
use Rattle.refusals.specs.Verdict.{Verdict, first_refusal, first_line, no_line, rule3}
use Rattle.refusals.specs.declared.Refusal.TheVariants.{Range, ResourceGap, NoPartner, LimitResource, RejectLine}
use Rattle.refusals.specs.Search.{any_below, greatest_below, is_of}
use Rattle.cell.specs.declared.Cell.{Cell}

-- "Ranges: resource 0 to 5, from and to 0 to 7, arg 0 to 63, act: 0 internal, 1 operation, 2 in, 3 out.", and "Act 4 joins the range in
-- rule 4."
unfoldable pub in_range : ℕ → ℕ → ℕ → ℕ → ℕ → Bool
in_range resource from act arg to = leb resource 5 && (leb from 7 && (leb act 4 && (leb arg 63 && leb to 7)))

-- "A number leaves its range": one of line n's numbers does
unfoldable pub leaves_range : List ℕ → List ℕ → List ℕ → List ℕ → List ℕ → ℕ → Bool
leaves_range resource from act arg to n = not (in_range (get_or resource n 0) (get_or from n 0) (get_or act n 0) (get_or arg n 0) (get_or to n 0))

-- "4. A number leaves its range."
unfoldable pub rule4 : Cell → Verdict
rule4 c = first_line Range (leaves_range c.resource c.from c.act c.arg c.to) c.count

-- "the most parts (1 to 8) that a resource (0 to 5) may hold"
unfoldable pub limit_in_range : ℕ → Bool
limit_in_range limit = leb 1 limit && leb limit 8

-- "in a record a limit outside 1 to 8": that of resource k is
unfoldable pub limit_leaves_range : List ℕ → ℕ → Bool
limit_leaves_range limits k = not (limit_in_range (get_or limits k 0))

-- "in a record a limit outside 1 to 8 gives 4", after the lines' numbers; it is in no line
unfoldable pub rule4_limits : Cell → Verdict
rule4_limits c = no_line Range (any_below (limit_leaves_range c.limits) 6)

-- "the greatest resource number"
unfoldable pub greatest_resource : List ℕ → ℕ → ℕ
greatest_resource resource count = greatest_below (λ n. get_or resource n 0) count

-- "R is the greatest resource number plus 1."
abbrev pub resource_count : Cell → ℕ
resource_count c = greatest_resource c.resource c.count + 1

-- "a resource .. has no line": none of the lines is of resource k
unfoldable pub has_no_line : List ℕ → ℕ → ℕ → Bool
has_no_line resource count k = not (any_below (is_of resource k) count)

-- "a resource below the greatest has no line"
unfoldable pub gap : List ℕ → ℕ → Bool
gap resource count = any_below (has_no_line resource count) (greatest_resource resource count)

-- "5. Cell: a resource below the greatest has no line."
unfoldable pub rule5 : Cell → Verdict
rule5 c = no_line ResourceGap (gap c.resource c.count)

-- "the other act": in for out, out for in; no act has the number 255
unfoldable pub other_act : ℕ → ℕ
other_act act = cond (eqb act 2) 3 (cond (eqb act 3) 2 255)

-- "line of another resource has the other act on that port": line k is one for line i
unfoldable pub partner : List ℕ → List ℕ → List ℕ → ℕ → ℕ → Bool
partner resource act arg i k =
    eqb (get_or act k 0) (other_act (get_or act i 0)) && (eqb (get_or arg k 0) (get_or arg i 0) && not (eqb (get_or resource k 0) (get_or resource i 0)))

-- "for an in or out line, no line": line i is an in (act 2) or an out (3), and no line is a partner of it
unfoldable pub unpaired : List ℕ → List ℕ → List ℕ → ℕ → ℕ → Bool
unpaired resource act arg count i =
    (eqb (get_or act i 0) 2 || eqb (get_or act i 0) 3) && not (any_below (partner resource act arg i) count)

-- "6. Cell: for an in or out line, no line of another resource has the other act on that port."
unfoldable pub rule6 : Cell → Verdict
rule6 c = first_line NoPartner (unpaired c.resource c.act c.arg c.count) c.count

-- "of the same resource, from and arg": line k has the act, and these three of line i
unfoldable pub alike : List ℕ → List ℕ → List ℕ → List ℕ → ℕ → ℕ → ℕ → Bool
alike resource from act arg wanted i k =
    eqb (get_or act k 0) wanted
    && (eqb (get_or resource k 0) (get_or resource i 0) && (eqb (get_or from k 0) (get_or from i 0) && eqb (get_or arg k 0) (get_or arg i 0)))

-- "one other than 8 at or above R": that of resource k is, where there are R resources
unfoldable pub limits_absent : List ℕ → ℕ → ℕ → Bool
limits_absent limits R k = leb R k && not (eqb (get_or limits k 0) 8)

-- "in a record .. one other than 8 at or above R gives 20", "after 6"; it is in no line
unfoldable pub rule20 : Cell → Verdict
rule20 c = no_line LimitResource (any_below (limits_absent c.limits (resource_count c)) 6)

-- "an act 4 line has no act 1 line of the same resource, from and arg, or .. two act 4 lines share these": line i is such a line, of a
-- pair the later one
unfoldable pub stray : List ℕ → List ℕ → List ℕ → List ℕ → ℕ → ℕ → Bool
stray resource from act arg count i =
    eqb (get_or act i 0) 4 && (not (any_below (alike resource from act arg 1 i) count) || any_below (alike resource from act arg 4 i) i)

-- "23 if an act 4 line has no act 1 line of the same resource, from and arg, or if two act 4 lines share these, after 20"
unfoldable pub rule23 : Cell → Verdict
rule23 c = first_line RejectLine (stray c.resource c.from c.act c.arg c.count) c.count

-- "Planner and run calls check handed-in values anew from rule 3, cell first: all of its rules"
unfoldable pub cell_rules : Cell → List Verdict
cell_rules c = rule3 c.count ∷ rule4 c ∷ rule4_limits c ∷ rule5 c ∷ rule6 c ∷ rule20 c ∷ rule23 c ∷ []

unfoldable pub check_cell : Cell → Verdict
check_cell c = first_refusal (cell_rules c)
