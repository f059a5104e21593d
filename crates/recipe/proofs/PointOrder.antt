-- Rule 7 and what it makes of the points: they count up from 0 in file order, so the last line has the greatest, and the
-- lines of a point stand together.
-- Assumes nothing.
use mathlib.Core.Path.{◌≡◌, refl, sym, ap, ◌∙◌, subst}
use mathlib.Core.Logic.{◌⊎◌, inl, inr, ⊎_elim}
use mathlib.Core.Bool.{Bool, true, false, not, ◌&&◌, ◌||◌, or-false}
use mathlib.Core.List.{List}
use Prim.Native.Nat.{ℕ, zero, suc, ◌+◌, ◌-◌, ◌<◌, ◌≤◌}
use native.Mathlib.Nat.{le_of_suc-le-suc, eq-or-lt_of_le}
use native.Mathlib.Numerals.{add-one}
use native.Mathlib.Omega.{arith}
use lib.ListN.{get_or}
use lib.Dec.{eqb, leb}
use Rattle.std.specs.List.{list_any, range_with_len}
use borrow.Author.Tests.{eq-eqb, ne_eqb, eqb-true, le-leb, lt-leb, leb-true, leb-false, not-false}
use Rattle.refusals.specs.Search.{first_below, any_below, count_below, is_of}
use Rattle.refusals.proofs.Scan.{any_hit, first_none, first_past}
use Rattle.refusals.proofs.EveryBelow.{any_none, count_none}
use Rattle.refusals.specs.declared.Refusal.TheVariants.{PointOrder}
use Rattle.refusals.specs.Verdict.{Accepted}
use Rattle.refusals.proofs.Verdicts.{none_breaks}
use Rattle.recipe.specs.declared.Recipe.{Recipe}
use Rattle.recipe.specs.Rules.{breaks_order, rule7, clashes, point_count, common, shares_part}
use Rattle.recipe.specs.Inner.{same_point}

-- what rule 7 asks of a line that another comes before
pub order_next :
    (point : List ℕ) (n : ℕ)
    → (n ≡ 0 → ⊥)
    → breaks_order point n ≡ not (eqb (get_or point n 0) (get_or point (n - 1) 0) || eqb (get_or point n 0) (get_or point (n - 1) 0 + 1))
unfolding breaks_order
order_next point zero some = absurd (some refl)
order_next point (suc n) some = let e : suc n - 1 ≡ n = omega arith in rw e

-- a point that the point a may stand before
abbrev Next : ℕ → ℕ → Type 0
Next a b = (b ≡ a) ⊎ (b ≡ a + 1)

next : (a b : ℕ) → not (eqb b a || eqb b (a + 1)) ≡ false → Next a b
next a b h = decide (eqb b a) (eqb b (a + 1)) refl refl h
  where
    decide : (s t : Bool) → eqb b a ≡ s → eqb b (a + 1) ≡ t → not (s || t) ≡ false → Next a b
    decide true t p q e = inl (eqb-true b a p)
    decide false true p q e = inr (eqb-true b (a + 1) q)
    decide false false p q e = let z : ◌≡◌ {A = ℕ} 0 1 = cc in absurd (omega arith)

-- what fails below m and holds from m on holds at the rest
rest_counts :
    (f : ℕ → Bool) (m n : ℕ)
    → m ≤ n
    → ((k : ℕ) → k < m → f k ≡ false)
    → ((k : ℕ) → m ≤ k → k < n → f k ≡ true)
    → m + count_below f n ≡ n
unfolding count_below
rest_counts f m zero low none all = omega arith
rest_counts f m (suc n) low none all =
    ⊎_elim
    (λ e. subst (λ (x : ℕ). m + count_below f x ≡ x) e (omega (arith, count_none f m none)))
    (λ lt. rw (all n (le_of_suc-le-suc lt) (omega arith))
    (omega (arith, rest_counts f m n (le_of_suc-le-suc lt) none (λ k least most. all k least (omega arith)))))
    (eq-or-lt_of_le low)

-- where rule 7 accepts, the search for a line that breaks it finds none
pub ordered_all : (r : Recipe) → rule7 r ≡ Accepted → first_below (breaks_order r.point) r.count ≡ r.count
unfolding rule7
ordered_all r e = first_past (breaks_order r.point) r.count (none_breaks PointOrder (breaks_order r.point) r.count e)

module _ (point : List ℕ) (count : ℕ) (ordered : first_below (breaks_order point) count ≡ count) where
  pub starts : 0 < count → get_or point 0 0 ≡ 0
  unfolding breaks_order
  starts some = eqb-true _ _ (not-false _ (first_none (breaks_order point) 0 count some ordered))

  steps : (n : ℕ) → suc n < count → Next (get_or point n 0) (get_or point (suc n) 0)
  unfolding breaks_order
  steps n low = next (get_or point n 0) (get_or point (suc n) 0) (first_none (breaks_order point) (suc n) count low ordered)

  -- points never fall
  pub rises : (k n : ℕ) → k ≤ n → n < count → get_or point k 0 ≤ get_or point n 0
  rises k zero low high = let e : k ≡ 0 = omega arith in rw e (omega arith)
  rises k (suc n) low high =
      ⊎_elim
      (λ e. rw e (omega arith))
      (λ lt. on (rises k n (le_of_suc-le-suc lt) (omega arith)) (steps n high))
      (eq-or-lt_of_le low)
    where
      on : {a b c : ℕ} → a ≤ b → Next b c → a ≤ c
      on {a} {b} {c} h s = ⊎_elim (λ (e : c ≡ b). omega arith) (λ (e : c ≡ b + 1). omega arith) s

  abbrev opens_point : ℕ → Bool
  opens_point n = not (any_below (same_point point n) n)

  -- a line that has its predecessor's point opens none, and one that has the next point opens it
  same : (n : ℕ) → get_or point (suc n) 0 ≡ get_or point n 0 → opens_point (suc n) ≡ false
  unfolding is_of
  same n e = rw (any_hit (same_point point (suc n)) n (suc n) (omega arith) (eq-eqb _ _ (sym e)))

  more : (n : ℕ) → suc n < count → get_or point (suc n) 0 ≡ get_or point n 0 + 1 → opens_point (suc n) ≡ true
  unfolding is_of
  more n low e =
      rw
      (any_none (same_point point (suc n)) (suc n)
      (λ k lt. ne_eqb _ _
      (λ (z : get_or point k 0 ≡ get_or point (suc n) 0). omega
      (arith, rises k n (le_of_suc-le-suc lt) (omega arith)))))

  -- the lines up to line n have as many points as line n's number says, and one
  counted : (n : ℕ) → n < count → point_count point (suc n) ≡ get_or point n 0 + 1
  unfolding point_count count_below any_below
  counted zero low = omega (arith, starts low)
  counted (suc n) low =
      ⊎_elim
      (λ e. rw (same n e) (counted n (omega arith) ∙ ap (λ (m : ℕ). m + 1) (sym e)))
      (λ e. rw (more n low e) (omega (arith, counted n (omega arith), e)))
      (steps n low)

  pub last_point : 0 < count → get_or point (count - 1) 0 + 1 ≡ point_count point count
  last_point some =
      let e : suc (count - 1) ≡ count = omega arith in
      sym (counted (count - 1) (omega arith)) ∙ ap (point_count point) e

  -- the lines up to one of them are in order too
  pub ordered_to : (n : ℕ) → n < count → first_below (breaks_order point) (n + 1) ≡ n + 1
  ordered_to n low = first_past (breaks_order point) (n + 1) (λ k lt. first_none (breaks_order point) k count (omega arith) ordered)

  -- a line m of line n's point whose predecessor isn't is the first of that point, and the lines between are of it
  pub same_from :
      (m n : ℕ)
      → m ≤ n
      → n < count
      → get_or point m 0 ≡ get_or point n 0
      → (0 < m → get_or point (m - 1) 0 ≡ get_or point n 0 → ⊥)
      → (k : ℕ)
      → k < n
      → same_point point n k ≡ leb m k
  unfolding is_of
  same_from m n low high here other k lt = decide (leb m k) refl
    where
      decide : (b : Bool) → leb m k ≡ b → eqb (get_or point k 0) (get_or point n 0) ≡ b
      decide true e =
          eq-eqb (get_or point k 0) (get_or point n 0) (omega (arith, rises m k (leb-true m k e) (omega arith), rises k n (omega arith) high))
      decide false e =
          let less : k < m = leb-false m k e in
          ne_eqb (get_or point k 0) (get_or point n 0)
          (λ z. other (omega arith)
          (omega (arith, rises k (m - 1) (omega arith) (omega arith), rises (m - 1) n (omega arith) high)))

-- whether f holds at a number below start + m: at one below start, or at one of the m from start on, where g agrees with it
any_of_both :
    (f g : ℕ → Bool) (m start : ℕ)
    → ((k : ℕ) → start ≤ k → k < start + m → f k ≡ g k)
    → (any_below f start || list_any g (range_with_len start m)) ≡ any_below f (start + m)
unfolding any_below
any_of_both f g zero start same = let e : start + 0 ≡ start = omega arith in rw e (or-false (any_below f start))
any_of_both f g (suc m) start same =
    let e : start + suc m ≡ start + 1 + m = omega arith in
    rw (e, ← same start (omega arith) (omega arith))
    (turn (any_below f start) (f start) (list_any g (range_with_len (start + 1) m))
    ∙ ap (λ (k : ℕ). any_below f k || list_any g (range_with_len (start + 1) m)) (sym (add-one start))
    ∙ any_of_both f g m (start + 1) (λ k least most. same k (omega arith) (omega arith)))
  where
    turn : (a b rest : Bool) → (a || (b || rest)) ≡ ((b || a) || rest)
    turn true true rest = refl
    turn true false rest = refl
    turn false true rest = refl
    turn false false rest = refl

-- line n's point starts at line `start`: no line before it clashes or shares with line n
module _ (point : List ℕ) (n start : ℕ) (low : start ≤ n) (from : (k : ℕ) → k < n → same_point point n k ≡ leb start k) where
  earlier : (k : ℕ) → k < start → same_point point n k ≡ false
  earlier k lt = from k (omega arith) ∙ lt-leb start k lt

  later : (k : ℕ) → start ≤ k → k < n → same_point point n k ≡ true
  later k least most = from k most ∙ le-leb start k least

  pub rest_same : start + count_below (same_point point n) n ≡ n
  rest_same = rest_counts (same_point point n) start n low earlier later

  -- so a search from there on finds what one over all lines before line n does
  pub any_from_start :
      (f g : ℕ → Bool)
      → any_below f start ≡ false
      → ((k : ℕ) → start ≤ k → k < n → f k ≡ g k)
      → list_any g (range_with_len start (n - start)) ≡ any_below f n
  any_from_start f g none same =
      let e : start + (n - start) ≡ n = omega arith in
      let both = any_of_both f g (n - start) start (λ k least most. same k least (omega arith)) in
      rw none at (both ∙ ap (any_below f) e)

  module _ (a b : List ℕ) where
    pub none_clashes : any_below (clashes point a b n) start ≡ false
    unfolding clashes
    none_clashes = any_none (clashes point a b n) start (λ k lt. rw (earlier k lt))

    pub clashes_at :
        (k : ℕ)
        → start ≤ k
        → k < n
        → clashes point a b n k ≡ not (eqb (get_or a n 0) 1 && (eqb (get_or a k 0) 1 && eqb (get_or b n 0) (get_or b k 0)))
    unfolding clashes
    clashes_at k least most = rw (later k least most)

    pub none_shares : any_below (shares_part point a b n) start ≡ false
    unfolding shares_part
    none_shares = any_none (shares_part point a b n) start (λ k lt. rw (earlier k lt))

    pub shares_at :
        (k : ℕ)
        → start ≤ k
        → k < n
        → shares_part point a b n k ≡ (common (get_or a n 0) (get_or a k 0) || common (get_or b n 0) (get_or b k 0))
    unfolding shares_part
    shares_at k least most = rw (later k least most)
