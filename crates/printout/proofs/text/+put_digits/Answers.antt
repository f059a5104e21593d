use native.Mathlib.Omega.{arith}
use mathlib.Core.Path.{ap, ◌∙◌}
use mathlib.Core.List.{[], ◌∷◌, ◌++◌}
use Rattle.printout.specs.Text.{digits_of}
use Rattle.printout.proofs.BufferPieces.{put_nothing, put_then, put_same, digits_few, digits_none, digits_one, digits_more}
use Prim.Native.Nat.{ℕ, ◌-◌, ◌/◌}
use Rattle.printout.proofs.text.+put_digits.Goals as goal

pub returns-then-most-eq0 : goal.returns-then-most-eq0
returns-then-most-eq0 t c =
    put_same
    (digits_none c.args.most c.args.n c.if-most-eq0.true)
    (put_nothing c.args.text.now c.args.at (omega (arith, c.requires)))

pub put_byte-requires : goal.put_byte-requires
put_byte-requires t c =
    omega (arith, c.requires, c.if-most-eq0.false)

pub shape_of-text-then-n-lt10 : goal.shape_of-text-then-n-lt10
shape_of-text-then-n-lt10 t c = c.put_byte.auto.text

pub returns-then-n-lt10 : goal.returns-then-n-lt10
returns-then-n-lt10 t c =
    let s = c.args in
    put_same
    (ap (λ (d : ℕ). d ∷ []) c.last_digit.ensures
    ∙ digits_one s.most s.n c.if-most-eq0.false
    c.if-n-lt10.true)
    c.put_byte.ensures

pub overflow_sub-most : goal.overflow_sub-most
overflow_sub-most t c = omega (arith, c.if-most-eq0.false)

pub put_digits-end-requires : goal.put_digits-end-requires
put_digits-end-requires t c =
    let some = c.if-most-eq0.false in
    (omega (arith, c.decreases, some), omega (arith, c.requires, some))

pub put_byte-requires-2 : goal.put_byte-requires-2
put_byte-requires-2 t c =
    omega (
      arith,
      c.requires,
      c.if-most-eq0.false,
      c.put_digits-end.ensures.end_is,
      c.put_digits-end.auto.text,
      digits_few (c.args.most - 1) (c.args.n / 10),
    )

pub shape_of-text : goal.shape_of-text
shape_of-text t c = c.put_byte-2.auto.text ∙ c.put_digits-end.auto.text

pub returns : goal.returns
returns t c =
    let s = c.args in
    put_same
    (ap (λ (d : ℕ). digits_of (s.most - 1) (s.n / 10) ++ (d ∷ [])) c.last_digit-2.ensures
    ∙ digits_more s.most s.n c.if-most-eq0.false c.if-n-lt10.false)
    (put_then c.put_digits-end.ensures c.put_byte-2.ensures)
