-- Choices that do the same at each resource, of one cell or of two, are one step, and make the same; with lines of the same resources
-- they carry the same points. Assumes nothing.
use mathlib.Core.Path.{◌≡◌, refl, ap, ◌∙◌}
use mathlib.Core.Bool.{cond, not}
use mathlib.Core.List.{List}
use Prim.Native.Nat.{ℕ, zero, suc, ◌<◌, ◌≤◌}
use native.Mathlib.Omega.{arith}
use lib.ListN.{get_or}
use lib.Dec.{eqb}
use Rattle.refusals.specs.Search.{all_below, count_below}
use Rattle.refusals.proofs.Scan.{first_same}
use Rattle.refusals.proofs.EveryBelow.{all_same, count_same}
use Rattle.refusals.proofs.TabulatedLists.{tabulate_same}
use Rattle.cell.specs.declared.Cell.{Cell}
use Rattle.recipe.specs.declared.Recipe.{Recipe}
use Rattle.positions.specs.declared.Configuration.{Configuration}
use Rattle.steps.specs.Lines.{resource_of, arg_of, state_of, place_of, first_line_of, lines_of, line_of, is_taken}
use Rattle.steps.specs.Gates.{gated}
use Rattle.steps.specs.Joint.{Choice, may_do, acts, acts_on, how_many, port_fits, is_step, state_after, receiver, handed, place_after, after}
use Rattle.steps.specs.Carry.{serves, matches, stands_at, present, suits, put_there, placed, parts_moved, after_carry}
use Rattle.steps.specs.Entry.{only}
use Rattle.steps.proofs.MadeConfiguration.{join}

-- what a resource does in the cell c, u, is what one does in d, v
pub record Alike (c d : Cell) (u v : ℕ) : Type 0 where
  pub may : (a : Configuration) (k : ℕ) → may_do c a k u ≡ may_do d a k v
  pub acting : (act : ℕ) → acts c act u ≡ acts d act v
  pub acting_on : (act port : ℕ) → acts_on c act port u ≡ acts_on d act port v
  pub state : (s : ℕ) → state_after c u s ≡ state_after d v s
  pub hands : (x y : Choice) → ((port : ℕ) → receiver c x port ≡ receiver d y port) → (k : ℕ) → handed c x k u ≡ handed d y k v

hands_same : (c : Cell) (x y : Choice) → ((port : ℕ) → receiver c x port ≡ receiver c y port) → (k u : ℕ) → handed c x k u ≡ handed c y k u
unfolding handed
hands_same c x y takers k zero = refl
hands_same c x y takers k (suc l) = rw (takers (arg_of c l))

-- as the same is in one cell
pub alike_same : (c : Cell) {u v : ℕ} → u ≡ v → Alike c c u v
alike_same c {u} {v} is =
    record {
      may = λ a k. ap (may_do c a k) is;
      acting = λ act. ap (acts c act) is;
      acting_on = λ act port. ap (acts_on c act port) is;
      state = λ s. ap (λ (w : ℕ). state_after c w s) is;
      hands = λ x y takers k. ap (handed c x k) is ∙ hands_same c x y takers k v;
    }

module _ (c d : Cell) (x y : Choice) (alike : (k : ℕ) → k < 6 → Alike c d (x k) (y k)) where
  many_agree : (act port : ℕ) → how_many c x act port ≡ how_many d y act port
  unfolding how_many
  many_agree act port = count_same (λ k. acts_on c act port (x k)) (λ k. acts_on d act port (y k)) 6 (λ k low. (alike k low).acting_on act port)

  takers_agree : (port : ℕ) → receiver c x port ≡ receiver d y port
  unfolding receiver
  takers_agree port = first_same (λ k. acts_on c 2 port (x k)) (λ k. acts_on d 2 port (y k)) 6 (λ k low. (alike k low).acting_on 2 port)

  pub acts_agree : (act : ℕ) → count_below (λ k. acts c act (x k)) 6 ≡ count_below (λ k. acts d act (y k)) 6
  acts_agree act = count_same (λ k. acts c act (x k)) (λ k. acts d act (y k)) 6 (λ k low. (alike k low).acting act)

  pub step_agrees : (a : Configuration) → is_step c a x ≡ is_step d a y
  unfolding is_step port_fits
  step_agrees a =
      rw (
        all_same (λ k. may_do c a k (x k)) (λ k. may_do d a k (y k)) 6 (λ k low. (alike k low).may a k),
        all_same (port_fits c x) (port_fits d y) 64 (λ port low. rw (many_agree 2 port, many_agree 3 port)),
      )

  place_agrees : (v : ℕ) → v ≤ 6 → place_after c x v ≡ place_after d y v
  unfolding place_after
  place_agrees zero most = refl
  place_agrees (suc k) most = (alike k most).hands x y takers_agree k

  pub after_agrees : (a : Configuration) → ((q : ℕ) → q < 8 → place_of a q ≤ 6) → after c x a ≡ after d y a
  unfolding after
  after_agrees a most =
      join
      (tabulate_same (λ k. state_after c (x k) (state_of a k)) (λ k. state_after d (y k) (state_of a k)) 6 (λ k low. (alike k low).state (state_of a k)))
      (tabulate_same (λ q. place_after c x (place_of a q)) (λ q. place_after d y (place_of a q)) 8 (λ q low. place_agrees (place_of a q) (most q low)))

put_agrees :
    (resource resource' gives : List ℕ) (first : ℕ) (ls ms : ℕ → ℕ) (q v n : ℕ)
    → ((j : ℕ) → j < n → get_or resource (ls j) 0 ≡ get_or resource' (ms j) 0)
    → put_there resource gives first ls q v n ≡ put_there resource' gives first ms q v n
unfolding put_there
put_agrees resource resource' gives first ls ms q v zero same = refl
put_agrees resource resource' gives first ls ms q v (suc n) same =
    rw (same n (omega arith), put_agrees resource resource' gives first ls ms q v n (λ j low. same j (omega arith)))

pub only_agrees : (c : Cell) (ls ms : ℕ → ℕ) (n : ℕ) → ((j : ℕ) → j < n → ls j ≡ ms j) → (k : ℕ) → only c ls n k ≡ only c ms n k
unfolding only
only_agrees c ls ms zero same k = refl
only_agrees c ls ms (suc n) same k = rw (same n (omega arith), only_agrees c ls ms n (λ j low. same j (omega arith)) k)

-- lines of the same resources find the same parts, and put them at the same places
module _
    (c d : Cell) (r : Recipe) (p : ℕ) (ls ms : ℕ → ℕ)
    (same : (j : ℕ) → j < lines_of r p → resource_of c (ls j) ≡ resource_of d (ms j))
  where
    pub present_agrees : (a : Configuration) → present c r p ls a ≡ present d r p ms a
    unfolding present
    present_agrees a =
        all_same
        (λ j. all_below (stands_at a.place (get_or r.takes (line_of r p j) 0) (resource_of c (ls j))) 8)
        (λ j. all_below (stands_at a.place (get_or r.takes (line_of r p j) 0) (resource_of d (ms j))) 8)
        (lines_of r p)
        (λ j low. rw (same j low))

    parts_agree : (a : Configuration) → parts_moved c r p ls a ≡ parts_moved d r p ms a
    unfolding parts_moved placed
    parts_agree a =
        join refl
        (tabulate_same (λ q. placed c r p ls q (place_of a q)) (λ q. placed d r p ms q (place_of a q)) 8
        (λ q low. put_agrees c.resource d.resource r.gives (first_line_of r p) ls ms q (cond (is_taken r p q) 0 (place_of a q))
        (lines_of r p) same))

    pub after_carry_agrees :
        (x y : Choice) (outcome : ℕ) (a : Configuration)
        → ((b : Configuration) → gated c (ls 0) b ≡ gated d (ms 0) b)
        → after c x a ≡ after d y a
        → after_carry c r p x ls outcome a ≡ after_carry d r p y ms outcome a
    unfolding after_carry
    after_carry_agrees x y outcome a gates made = rw (made, parts_agree (after d y a), gates (after d y a))

-- the same lines carry the same points
module _
    (c : Cell) (r : Recipe) (p : ℕ) (ls ms : ℕ → ℕ) (same : (j : ℕ) → j < lines_of r p → ls j ≡ ms j) (a : Configuration)
    (x y : Choice)
    (alike : (k : ℕ) → k < 6 → x k ≡ y k)
    (within : (j : ℕ) → j < lines_of r p → resource_of c (ls j) < 6)
  where
    serves_agrees : (j : ℕ) → j < lines_of r p → serves c r p x ls j ≡ serves c r p y ms j
    unfolding serves
    serves_agrees j low = rw (alike (resource_of c (ls j)) (within j low), same j low)

    matches_agrees : matches c r p x ls ≡ matches c r p y ms
    unfolding matches
    matches_agrees =
        rw (
          all_same (serves c r p x ls) (serves c r p y ms) (lines_of r p) serves_agrees,
          all_same (λ j. all_below (λ i. not (eqb (ls i) (ls j))) j) (λ j. all_below (λ i. not (eqb (ms i) (ms j))) j)
              (lines_of r p) differ,
          acts_agree c c x y (λ k low. alike_same c (alike k low)) 1,
        )
      where
        differ : (j : ℕ) → j < lines_of r p → all_below (λ i. not (eqb (ls i) (ls j))) j ≡ all_below (λ i. not (eqb (ms i) (ms j))) j
        differ j low = all_same (λ i. not (eqb (ls i) (ls j))) (λ i. not (eqb (ms i) (ms j))) j (λ i less. rw (same i (omega arith), same j low))

    pub suits_agrees : suits c r p x ls a ≡ suits c r p y ms a
    unfolding suits
    suits_agrees =
        rw (
          step_agrees c c x y (λ k low. alike_same c (alike k low)) a,
          matches_agrees,
          present_agrees c c r p ls ms (λ j low. ap (resource_of c) (same j low)) a,
        )
