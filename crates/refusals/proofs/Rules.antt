-- Rules in a list, tried one after another: the list in parts, what one that accepts says of its rules, and what code that
-- returns at the first refusal gives. Assumes nothing.
use mathlib.Core.Path.{◌≡◌, refl, sym, ap, ◌∙◌}
use mathlib.Core.List.{List, [], ◌∷◌, ◌++◌}
use Prim.Native.Nat.{ℕ}
use Rattle.refusals.specs.declared.Refusal.{Refusal}
use Rattle.refusals.specs.declared.Broken.{Broken}
use Rattle.std.specs.Prelude.{Ok, Err}
use Rattle.refusals.specs.Verdict.{Verdict, Accepted, Refused, first_refusal, found_if}

-- the first part of a list counts as one rule before the others
joined : (rules rest : List Verdict) → first_refusal (rules ++ rest) ≡ first_refusal (first_refusal rules ∷ rest)
unfolding first_refusal
joined [] rest = refl
joined (Accepted ∷ rules) rest = joined rules rest
joined (Err broken ∷ rules) rest = refl

-- a list that accepts: its first rule does, and the others do
pub first_accepts : (v : Verdict) (rest : List Verdict) → first_refusal (v ∷ rest) ≡ Accepted → v ≡ Accepted
unfolding first_refusal
first_accepts Accepted rest e = refl
first_accepts (Err broken) rest e = e

pub rest_accepts : (v : Verdict) (rest : List Verdict) → first_refusal (v ∷ rest) ≡ Accepted → first_refusal rest ≡ Accepted
unfolding first_refusal
rest_accepts Accepted rest e = e
rest_accepts (Err broken) rest e = cc

-- and each of its parts does
pub left_accepts : (rules rest : List Verdict) → first_refusal (rules ++ rest) ≡ Accepted → first_refusal rules ≡ Accepted
left_accepts rules rest e = first_accepts (first_refusal rules) rest (sym (joined rules rest) ∙ e)

pub right_accepts : (rules rest : List Verdict) → first_refusal (rules ++ rest) ≡ Accepted → first_refusal rest ≡ Accepted
right_accepts rules rest e = rest_accepts (first_refusal rules) rest (sym (joined rules rest) ∙ e)

-- a rule that refuses is the verdict
pub refuses :
    {v w : Verdict} (rest : List Verdict) {refusal : Refusal} {line : ℕ}
    → v ≡ w
    → v ≡ Refused refusal line
    → v ≡ first_refusal (w ∷ rest)
unfolding first_refusal
refuses rest e told = told ∙ ap (λ (x : Verdict). first_refusal (x ∷ rest)) (sym told ∙ e)

-- one that accepts leaves it to the next
pub accepts : {v w x : Verdict} (rest : List Verdict) → v ≡ w → v ≡ Accepted → x ≡ first_refusal rest → x ≡ first_refusal (w ∷ rest)
unfolding first_refusal
accepts rest e told next = next ∙ ap (λ (x : Verdict). first_refusal (x ∷ rest)) (sym told ∙ e)

-- the last is the verdict
pub decides : {v w : Verdict} → v ≡ w → v ≡ first_refusal (w ∷ [])
unfolding first_refusal
decides {w = w} e = e ∙ alone w
  where
    alone : (x : Verdict) → x ≡ first_refusal (x ∷ [])
    alone Accepted = refl
    alone (Err broken) = refl

-- the same of the rules of a part
pub part_refuses :
    {v : Verdict} (rules rest : List Verdict) {refusal : Refusal} {line : ℕ}
    → v ≡ first_refusal rules
    → v ≡ Refused refusal line
    → v ≡ first_refusal (rules ++ rest)
part_refuses rules rest e told = refuses rest e told ∙ sym (joined rules rest)

pub part_accepts :
    {v x : Verdict} (rules rest : List Verdict)
    → v ≡ first_refusal rules
    → v ≡ Accepted
    → x ≡ first_refusal rest
    → x ≡ first_refusal (rules ++ rest)
part_accepts rules rest e told next = accepts rest e told next ∙ sym (joined rules rest)

-- code that passes a refusal on as soon as a rule is broken: one rule, the last, and a part of the list
pub tried_err : {e : Broken} (v : Verdict) (rest : List Verdict) → v ≡ Err e → first_refusal (v ∷ rest) ≡ Err e
unfolding first_refusal
tried_err v rest is = rw is

pub tried_ok : {done : Unit} (v : Verdict) (rest : List Verdict) → v ≡ Ok done → first_refusal (v ∷ rest) ≡ first_refusal rest
unfolding first_refusal
tried_ok v rest is = rw is

pub tried_last : (v : Verdict) → first_refusal (v ∷ []) ≡ v
tried_last v = sym (decides refl)

pub part_err : {e : Broken} (rules rest : List Verdict) → first_refusal rules ≡ Err e → first_refusal (rules ++ rest) ≡ Err e
part_err rules rest is = joined rules rest ∙ tried_err _ rest is

pub part_ok : {done : Unit} (rules rest : List Verdict) → first_refusal rules ≡ Ok done → first_refusal (rules ++ rest) ≡ first_refusal rest
part_ok rules rest is = joined rules rest ∙ tried_ok _ rest is

-- a part of two rules
pub pair_err : {e : Broken} (v w : Verdict) (rest : List Verdict) → first_refusal (v ∷ w ∷ []) ≡ Err e → first_refusal (v ∷ w ∷ rest) ≡ Err e
pair_err v w rest is = part_err (v ∷ w ∷ []) rest is

pub pair_ok : {done : Unit} (v w : Verdict) (rest : List Verdict) → first_refusal (v ∷ w ∷ []) ≡ Ok done → first_refusal (v ∷ w ∷ rest) ≡ first_refusal rest
pair_ok v w rest is = part_ok (v ∷ w ∷ []) rest is

-- what is found where a verdict accepts, and what where it refuses
pub found_err : {A : Type 0} {e : Broken} (v : Verdict) (found : A) → v ≡ Err e → found_if v found ≡ Err e
unfolding found_if
found_err v found is = rw is

pub found_ok : {A : Type 0} {done : Unit} (v : Verdict) (found : A) → v ≡ Ok done → found_if v found ≡ Ok found
unfolding found_if
found_ok v found is = rw is

-- and back
pub refused_of : {A : Type 0} {e : Broken} (v : Verdict) (found : A) → found_if v found ≡ Err e → v ≡ Err e
unfolding found_if
refused_of Accepted found is = cc
refused_of (Err broken) found is = cc

pub accepted_of : {A : Type 0} {x : A} (v : Verdict) (found : A) → found_if v found ≡ Ok x → v ≡ Accepted
unfolding found_if
accepted_of Accepted found is = refl
accepted_of (Err broken) found is = cc

pub found_of : {A : Type 0} {x : A} (v : Verdict) (found : A) → found_if v found ≡ Ok x → x ≡ found
unfolding found_if
found_of Accepted found is = cc
found_of (Err broken) found is = cc

-- all that code needs that tries rules by `?`
pub ruleset tried = (tried_err, tried_ok, tried_last, pair_err, pair_ok)
