-- A silent joint step is a path of single moves, and one that carries a point is such a path and a carry.
-- Assumes nothing.
use mathlib.Core.Path.{◌≡◌, refl, sym, ap, ◌∙◌}
use mathlib.Core.Bool.{Bool, true, false, not, ◌&&◌, ◌||◌}
use Prim.Native.Nat.{ℕ, zero, suc, ◌+◌, ◌*◌, ◌<◌, ◌≤◌}
use native.Mathlib.Omega.{arith}
use lib.ListN.{length}
use lib.Dec.{eqb}
use borrow.Author.Tests.{eqb-true, eqb-false, eq-eqb, ne_eqb, not-true}
use Rattle.refusals.specs.Verdict.{Accepted}
use Rattle.refusals.proofs.EveryBelow.{any_not}
use Rattle.refusals.proofs.TabulatedLists.{tabulate_is}
use Rattle.refusals.proofs.Verdicts.{and_left, and_right}
use Rattle.cell.specs.declared.Cell.{Cell}
use Rattle.cell.specs.Rules.{check_cell}
use Rattle.cell.proofs.AcceptedRecord.{each_accepts, line_in_range}
use Rattle.recipe.specs.declared.Recipe.{Recipe}
use Rattle.positions.specs.declared.Configuration.{Configuration}
use Rattle.positions.specs.declared.Sizes.{Sizes}
use Rattle.positions.specs.Checked.{Checked}
use Rattle.steps.specs.Lines.{act_of, arg_of, state_of, place_of, kind_of, then_of, else_of}
use Rattle.steps.specs.Limits.{none_overfull}
use Rattle.steps.specs.Joint.{Choice, rests, takes, may_do, acts, acts_on, is_step, is_silent, is_silent_step, state_after, handed, place_after, after}
use Rattle.steps.specs.Carry.{carries, after_carry}
use Rattle.steps.specs.Effect.{silent, carried, effect}
use Rattle.steps.proofs.PointLines.{PointLines, point_lines}
use Rattle.steps.proofs.ReadyLines.{may_low, may_act, step_may}
use Rattle.steps.proofs.StationLoads.{silent_steps, silent_quiet, silent_room, silent_by}
use Rattle.steps.proofs.SilentEntries.{internal_entry, transfer_entry}
use Rattle.steps.proofs.CarryEntries.{CarryFor, carry_entry}
use Rattle.steps.proofs.MadeConfiguration.{join}
use Rattle.simulation.specs.Simulation.{Position}
use Rattle.simulation.proofs.CellMachine.{position_point, position_places}
use Rattle.simulation.proofs.PortPairs.{Paired, step_paired}
use Rattle.simulation.proofs.StepInParts.{part, rest, Closed, part_out, part_rests, rest_in, rest_out, part_silent, part_step, rest_step, parted_after, part_room}
use Rattle.simulation.proofs.CarryInParts.{NoOperation, carry_part_step, carry_part_silent, part_carry_room, rest_carries, parted_carry}
use Rattle.simulation.proofs.SinglePaths.{Singly, stay, move, SingleCarry, singly_stays, carry_then, carry_else}

-- all resources but k and i
unfoldable all_but : ℕ → ℕ → ℕ → Bool
all_but k i n = not (eqb n k || eqb n i)

module _ (k i : ℕ) where
  but_first : all_but k i k ≡ false
  unfolding all_but
  but_first = rw (eq-eqb k k refl)

  but_second : all_but k i i ≡ false
  unfolding all_but
  but_second = rw (eq-eqb i i refl) (either (eqb i k))
    where
      either : (b : Bool) → not (b || true) ≡ false
      either true = refl
      either false = refl

  but_other : (n : ℕ) → (n ≡ k → ⊥) → (n ≡ i → ⊥) → all_but k i n ≡ true
  unfolding all_but
  but_other n k-not i-not = rw (ne_eqb n k k-not, ne_eqb n i i-not)

-- what a resource that takes a line does
module _ (c : Cell) (x : Choice) (k l : ℕ) (chosen : x k ≡ takes l) where
  its_act : (act port : ℕ) → acts_on c act port (x k) ≡ true → act_of c l ≡ act
  unfolding acts_on
  its_act act port here =
      let all : (eqb (act_of c l) act && eqb (arg_of c l) port) ≡ true = rw chosen at here in
      eqb-true _ _ (search and_left)

  its_port : (act port : ℕ) → acts_on c act port (x k) ≡ true → arg_of c l ≡ port
  unfolding acts_on
  its_port act port here =
      let all : (eqb (act_of c l) act && eqb (arg_of c l) port) ≡ true = rw chosen at here in
      eqb-true _ _ (search and_right)

  acts_so : (act : ℕ) → act_of c l ≡ act → acts_on c act (arg_of c l) (x k) ≡ true
  unfolding acts_on
  acts_so act e = rw (chosen, eq-eqb (act_of c l) act e, eq-eqb (arg_of c l) (arg_of c l) refl)

-- a resource that takes an in, or an out, takes a line
record Taken (c : Cell) (x : Choice) (act port k : ℕ) : Type 0 where
  line : ℕ
  chosen : x k ≡ takes line
  acted : act_of c line ≡ act
  on : arg_of c line ≡ port

taken : (c : Cell) (x : Choice) (act port k : ℕ) → acts_on c act port (x k) ≡ true → Taken c x act port k
unfolding acts_on
taken c x act port k here = decide (x k) refl
  where
    decide : (u : ℕ) → x k ≡ u → Taken c x act port k
    decide zero e = let z : false ≡ true = rw e at here in let y : ◌≡◌ {A = ℕ} 0 1 = cc in absurd (omega arith)
    decide (suc l) e = record { line = l; chosen = e; acted = its_act c x k l e act port here; on = its_port c x k l e act port here }

-- all but an internal line's resource, and all but the two of an out and its in, are port-closed
module _ (c : Cell) (x : Choice) where
  closed_one : (k l : ℕ) → x k ≡ takes l → act_of c l ≡ 0 → Closed c x (all_but k k)
  closed_one k l chosen internal port n m n-low m_low out into =
      but_other k k n (other n 3 out (omega arith)) (other n 3 out (omega arith))
      ∙ sym (but_other k k m (other m 2 into (omega arith)) (other m 2 into (omega arith)))
    where
      other : (n act : ℕ) → acts_on c act port (x n) ≡ true → 0 < act → n ≡ k → ⊥
      other n act here more e = omega (arith, its_act c x n l (ap x e ∙ chosen) act port here)

  module _ (paired : Paired c x) (port k i : ℕ) (k-low : k < 6) (i-low : i < 6) (out : acts_on c 3 port (x k) ≡ true) (into : acts_on c 2 port (x i) ≡ true) where
    sends : Taken c x 3 port k
    sends = taken c x 3 port k out

    gets : Taken c x 2 port i
    gets = taken c x 2 port i into

    closed_two : Closed c x (all_but k i)
    closed_two on n m n-low m_low n-out m-into = decide (eqb n k) refl
      where
        n_not : n ≡ i → ⊥
        n_not e = omega (arith, its_act c x n gets.line (ap x e ∙ gets.chosen) 3 on n-out, gets.acted)

        m_not : m ≡ k → ⊥
        m_not e = omega (arith, its_act c x m sends.line (ap x e ∙ sends.chosen) 2 on m-into, sends.acted)

        decide : (b : Bool) → eqb n k ≡ b → all_but k i n ≡ all_but k i m
        decide true e =
            let first : n ≡ k = eqb-true n k e in
            let same : on ≡ port = sym (its_port c x n sends.line (ap x first ∙ sends.chosen) 3 on n-out) ∙ sends.on in
            let second : m ≡ i = paired.in_one port m i m_low i-low (rw same at m-into) into in
            ap (all_but k i) first ∙ but_first k i ∙ sym (ap (all_but k i) second ∙ but_second k i)
        decide false e =
            let first : n ≡ k → ⊥ = eqb-false n k e in
            but_other k i n first n_not ∙ sym (but_other k i m m_not second)
          where
            second : m ≡ i → ⊥
            second z =
                let same : on ≡ port = sym (its_port c x m gets.line (ap x z ∙ gets.chosen) 2 on m-into) ∙ gets.on in
                eqb-false n k e (paired.out_one port n k n-low k-low (rw same at n-out) out)

-- a step in which each resource rests ends where it starts
rested :
    (c : Cell) (a : Configuration) (x : Choice)
    → length a.state ≡ 6
    → length a.place ≡ 8
    → ((q : ℕ) → q < 8 → place_of a q ≤ 6)
    → ((k : ℕ) → k < 6 → x k ≡ rests)
    → after c x a ≡ a
unfolding after state_after place_after handed
rested c a x six eight most quiet =
    join
    (tabulate_is (λ k. state_after c (x k) (state_of a k)) a.state 6 six (λ k low. rw (quiet k low)))
    (tabulate_is (λ q. place_after c x (place_of a q)) a.place 8 eight (λ q low. still (place_of a q) (most q low)))
  where
    still : (v : ℕ) → v ≤ 6 → place_after c x v ≡ v
    still zero low = refl
    still (suc k) low = rw (quiet k low)

module _ (c : Cell) (r : Recipe) (p : ℕ) (z : Sizes) (K : Checked c r z) (some : kind_of r p ≡ 0 → ⊥) (a : Configuration)
    (here : Position z p a) (fit : none_overfull c a ≡ true) where
  ok : check_cell c ≡ Accepted
  ok = K.cell_passes

  -- a path to where all but one line, or all but two, are taken goes on with those
  module _ (x : Choice) (step : is_step c a x ≡ true) (room : none_overfull c (after c x a) ≡ true) where
    last_one :
        (k l : ℕ)
        → k < 6
        → x k ≡ takes l
        → act_of c l ≡ 0
        → Singly c r p a (after c (part x (all_but k k)) a)
        → Singly c r p a (after c x a)
    last_one k l low chosen internal path =
        let s : ℕ → Bool = all_but k k in
        let closed : Closed c x s = closed_one c x k l chosen internal in
        let b : Configuration = after c (part x s) a in
        let mid : Position z p b = singly_stays c r p z K here path in
        let takes-it : rest x s k ≡ takes l = rest_out x s k (but_first k k) ∙ chosen in
        let others : (i : ℕ) → i < 6 → (i ≡ k → ⊥) → rest x s i ≡ rests = λ i less ne. rest_in x s i (but_other k k i ne ne) in
        let may : is_step c b (rest x s) ≡ true = rest_step c ok a x step s closed in
        let ends : after c (rest x s) b ≡ after c x a = parted_after c ok a x step s closed (position_places c r z K p a here) in
        let does : effect c r p b (16777216 + l) ≡ silent (after c (rest x s) b) =
        internal_entry c r p b (rest x s) ok may (ap (none_overfull c) ends ∙ room) some mid.six mid.eight (position_places c r z K p b mid)
        k l low takes-it internal others in
        move path (record { entry = 16777216 + l; does = does ∙ ap silent ends })

    last_two :
        (port k i : ℕ)
        → k < 6
        → i < 6
        → acts_on c 3 port (x k) ≡ true
        → acts_on c 2 port (x i) ≡ true
        → Singly c r p a (after c (part x (all_but k i)) a)
        → Singly c r p a (after c x a)
    last_two port k i k-low i-low out into path =
        let paired : Paired c x = step_paired c x ok a step in
        let send : Taken c x 3 port k = taken c x 3 port k out in
        let get : Taken c x 2 port i = taken c x 2 port i into in
        let s : ℕ → Bool = all_but k i in
        let closed : Closed c x s = closed_two c x paired port k i k-low i-low out into in
        let b : Configuration = after c (part x s) a in
        let mid : Position z p b = singly_stays c r p z K here path in
        let sends : rest x s k ≡ takes send.line = rest_out x s k (but_first k i) ∙ send.chosen in
        let gets : rest x s i ≡ takes get.line = rest_out x s i (but_second k i) ∙ get.chosen in
        let others : (n : ℕ) → n < 6 → (n ≡ k → ⊥) → (n ≡ i → ⊥) → rest x s n ≡ rests = λ n less k-not i-not. rest_in x s n (but_other k i n k-not i-not) in
        let may : is_step c b (rest x s) ≡ true = rest_step c ok a x step s closed in
        let ends : after c (rest x s) b ≡ after c x a = parted_after c ok a x step s closed (position_places c r z K p a here) in
        let does : effect c r p b (33554432 + send.line + 64 * get.line) ≡ silent (after c (rest x s) b) =
        transfer_entry c r p b (rest x s) ok may (ap (none_overfull c) ends ∙ room) some mid.six mid.eight (position_places c r z K p b mid)
        k i send.line get.line k-low i-low sends gets
        send.acted get.acted others in
        move path (record { entry = 33554432 + send.line + 64 * get.line; does = does ∙ ap silent ends })

  no_operation : (x : Choice) → is_silent c x ≡ true → (k : ℕ) → k < 6 → acts c 1 (x k) ≡ false
  unfolding is_silent
  no_operation x none k low = any_not (λ k. acts c 1 (x k)) 6 k (not-true _ none) low

  -- each silent step in which only resources below n act is a path
  abbrev Splits : ℕ → Type 0
  Splits n =
      (x : Choice)
      → ((k : ℕ) → n ≤ k → k < 6 → x k ≡ rests)
      → is_step c a x ≡ true
      → is_silent c x ≡ true
      → none_overfull c (after c x a) ≡ true
      → Singly c r p a (after c x a)

  split : (n : ℕ) → n ≤ 6 → Splits n
  unfolding acts
  split zero few x quiet step none room =
      stay (rested c a x here.six here.eight (position_places c r z K p a here) (λ k low. quiet k (omega arith) low))
  split (suc n) few x quiet step none room = decide (split n (omega arith)) (x n) refl
    where
      low : n < 6
      low = few

      onward : (y : Choice) → y n ≡ rests → ((k : ℕ) → x k ≡ rests → y k ≡ rests) → (k : ℕ) → n ≤ k → k < 6 → y k ≡ rests
      onward y at others k least less = choose (eqb k n) refl
        where
          choose : (b : Bool) → eqb k n ≡ b → y k ≡ rests
          choose true e = ap y (eqb-true k n e) ∙ at
          choose false e = let ne : k ≡ n → ⊥ = eqb-false k n e in others k (quiet k (omega arith) less)

      before : Splits n → (s : ℕ → Bool) → s n ≡ false → Closed c x s → Singly c r p a (after c (part x s) a)
      before earlier s out closed =
          earlier (part x s) (onward (part x s) (part_out x s n out) (λ k e. part_rests x s k e))
          (part_step c ok a x step s closed) (part_silent c x s (λ k less e. no_operation x none k less))
          (part_room c ok a x step s closed (position_places c r z K p a here) fit room)

      by_act : Splits n → (l : ℕ) → x n ≡ takes l → (act : ℕ) → act_of c l ≡ act → act ≤ 3 → Singly c r p a (after c x a)
      by_act earlier l e zero is few = last_one x step room n l low e is (before earlier (all_but n n) (but_first n n) (closed_one c x n l e is))
      by_act earlier l e (suc zero) is few = absurd (eqb-false (act_of c l) 1 (rw e at (no_operation x none n low)) is)
      by_act earlier l e (suc (suc zero)) is few =
          let paired : Paired c x = step_paired c x ok a step in
          let into : acts_on c 2 (arg_of c l) (x n) ≡ true = acts_so c x n l e 2 is in
          let one = paired.out_for (arg_of c l) n low into in
          last_two x step room (arg_of c l) one.at n one.low low one.holds into
          (before earlier (all_but one.at n) (but_second one.at n)
          (closed_two c x paired (arg_of c l) one.at n one.low low one.holds into))
      by_act earlier l e (suc (suc (suc zero))) is few =
          let paired : Paired c x = step_paired c x ok a step in
          let out : acts_on c 3 (arg_of c l) (x n) ≡ true = acts_so c x n l e 3 is in
          let one = paired.in_for (arg_of c l) n low out in
          last_two x step room (arg_of c l) n one.at low one.low out one.holds
          (before earlier (all_but n one.at) (but_first n one.at)
          (closed_two c x paired (arg_of c l) n one.at low one.low out one.holds))
      by_act earlier l e (suc (suc (suc (suc act)))) is few = absurd (omega arith)

      decide : Splits n → (u : ℕ) → x n ≡ u → Singly c r p a (after c x a)
      decide earlier zero e = earlier x (onward x e (λ k z. z)) step none room
      decide earlier (suc l) e =
          let may : may_do c a n (takes l) ≡ true = step_may c a x n l step low e in
          let no_gate : act_of c l ≡ 4 → ⊥ = may_act c a n l may in
          by_act earlier l e (act_of c l) refl (omega (arith, (line_in_range c (each_accepts c ok).fourth l (may_low c a n l may)).act))

  -- a silent joint step is a path of single moves
  pub silent_split : (x : Choice) → is_silent_step c a x ≡ true → Singly c r p a (after c x a)
  silent_split x step =
      split 6 (omega arith) x (λ k least less. absurd (omega arith)) (silent_steps c a x step) (silent_quiet c a x step) (silent_room c a x step)

  pub silent_stays : (x : Choice) → is_silent_step c a x ≡ true → Position z p (after c x a)
  silent_stays x step = singly_stays c r p z K here (silent_split x step)

-- some single moves, perhaps none, and a carry lead from a to b at outcome 1 and to d at outcome 0
pub record SingleLeads (c : Cell) (r : Recipe) (p : ℕ) (a b d : Configuration) : Type 0 where
  pub before : Configuration
  pub singly : Singly c r p a before
  pub carry : SingleCarry c r p before b d

-- the resources that take no operation
unfoldable calm : Cell → Choice → ℕ → Bool
calm c x k = not (acts c 1 (x k))

module _ (c : Cell) (x : Choice) (k : ℕ) where
  calm_not : acts c 1 (x k) ≡ true → calm c x k ≡ false
  unfolding calm
  calm_not e = rw e

  calm_else : acts c 1 (x k) ≡ false → calm c x k ≡ true
  unfolding calm
  calm_else e = rw e

  calm_port : (act port : ℕ) → acts_on c act port (x k) ≡ true → 1 < act → calm c x k ≡ true
  unfolding acts
  calm_port act port here more =
      let own : Taken c x act port k = taken c x act port k here in
      calm_else (rw own.chosen (ne_eqb _ _ (λ (z : act_of c own.line ≡ 1). omega (arith, own.acted))))

calm_closed : (c : Cell) (x : Choice) → Closed c x (calm c x)
calm_closed c x port k i k-low i-low out into =
    calm_port c x k 3 port out (omega arith) ∙ sym (calm_port c x i 2 port into (omega arith))

-- what is left takes operations alone
calm_rest : (c : Cell) (x : Choice) (k l : ℕ) → rest x (calm c x) k ≡ takes l → act_of c l ≡ 1
unfolding acts
calm_rest c x k l chosen = decide (acts c 1 (x k)) refl
  where
    decide : (b : Bool) → acts c 1 (x k) ≡ b → act_of c l ≡ 1
    decide true e =
        let own : x k ≡ takes l = sym (rest_out x (calm c x) k (calm_not c x k e)) ∙ chosen in
        eqb-true _ _ (rw own at e)
    decide false e =
        let z : takes l ≡ rests = sym chosen ∙ rest_in x (calm c x) k (calm_else c x k e) in
        absurd (omega arith)

module _
    (c : Cell) (r : Recipe) (p : ℕ) (z : Sizes) (K : Checked c r z) (some : kind_of r p ≡ 0 → ⊥)
    (a : Configuration) (here : Position z p a) (fit : none_overfull c a ≡ true)
    (x : Choice) (ls : ℕ → ℕ) (carrying : carries c r p x ls a ≡ true)
  where
    -- a joint step that carries the point is a path of single moves and a carry
    pub carry_split : SingleLeads c r p a (after_carry c r p x ls 1 a) (after_carry c r p x ls 0 a)
    carry_split =
        let ok = K.cell_passes in
        let most = position_places c r z K p a here in
        let s : ℕ → Bool = calm c x in
        let closed : Closed c x s = calm_closed c x in
        let none : NoOperation c x s = λ k low e. calm_not c x k e in
        let b : Configuration = after c (part x s) a in
        let path : Singly c r p a b =
        silent_split c r p z K some a here fit (part x s)
        (silent_by c a (part x s) (carry_part_step c ok r p a x ls carrying s closed)
        (carry_part_silent c ok r p a x ls carrying s closed none)
        (part_carry_room c ok r p a x ls carrying s closed none most fit)) in
        let mid : Position z p b = singly_stays c r p z K here path in
        let left : carries c r p (rest x s) ls b ≡ true = rest_carries c ok r p a x ls carrying s closed none most in
        let alone : (k l : ℕ) → k < 6 → rest x s k ≡ takes l → act_of c l ≡ 1 = λ k l low chosen. calm_rest c x k l chosen in
        let entry : CarryFor c r p b (after_carry c r p (rest x s) ls 1 b) (after_carry c r p (rest x s) ls 0 b) =
        carry_entry c r p b (rest x s) ls ok left lines alone mid.six mid.eight (position_places c r z K p b mid) in
        let same : (outcome : ℕ) → after_carry c r p (rest x s) ls outcome b ≡ after_carry c r p x ls outcome a =
        λ outcome. parted_carry c ok r p a x ls carrying s closed none outcome most in
        record { before = b; singly = path; carry = record { entry = entry.entry; does = entry.does ∙ (λ i. carried (same 1 i) (same 0 i)) } }
      where
        lines : PointLines r p
        lines = point_lines r K.recipe_passes p (position_point c r z K p a here)

    -- it leads to positions
    pub carry_stays : Position z (then_of r p) (after_carry c r p x ls 1 a)
    carry_stays =
        let leads = carry_split in
        carry_then c r p z K leads.before _ _ (singly_stays c r p z K here leads.singly) leads.carry

    pub test_stays : kind_of r p ≡ 2 → Position z (else_of r p) (after_carry c r p x ls 0 a)
    test_stays two =
        let leads = carry_split in
        carry_else c r p z K leads.before _ _ (singly_stays c r p z K here leads.singly) leads.carry two
