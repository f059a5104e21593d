-- Bytes stored behind one another. Assumes nothing.
use mathlib.Core.Path.{◌≡◌, refl, sym, ap, ◌∙◌}
use mathlib.Core.List.{List, [], ◌++◌}
use Prim.Native.Nat.{ℕ, ◌+◌, ◌≤◌}
use native.Mathlib.Omega.{arith}
use lib.ListN.{length, drop, length-append, length-drop}
use lib.Seq.{take_at, drop-append-add, drop-drop, sets, sets-eq}

-- some bytes put after what was put before
pub put_after : (P old vs : List ℕ) → length P + length vs ≤ length old
    → sets (P ++ drop (length P) old) (length P) vs ≡ (P ++ vs) ++ drop (length P + length vs) old
put_after P old vs room =
    sets-eq vs (P ++ drop (length P) old) (length P) (omega (arith, length-append P (drop (length P) old), length-drop (length P) old))
    ∙ ap (λ (l : List ℕ). (l ++ vs) ++ drop (length P + length vs) (P ++ drop (length P) old)) (take_at P (drop (length P) old) (length P) refl)
    ∙ ap (λ (l : List ℕ). (P ++ vs) ++ l) (drop-append-add P (drop (length P) old) (length vs) ∙ drop-drop (length vs) (length P) old)

-- so a piece is put behind those that stand at the start
pub put_next :
    (P old vs before after : List ℕ) (n k : ℕ)
    → before ≡ P ++ drop n old
    → after ≡ sets before n vs
    → length P ≡ n
    → n + length vs ≡ k
    → k ≤ length old
    → after ≡ (P ++ vs) ++ drop k old
put_next P old vs before after n k is put here next room =
    put ∙ ap (λ (b : List ℕ). sets b n vs) is
    ∙ ap (λ (i : ℕ). sets (P ++ drop i old) i vs) (sym here)
    ∙ put_after P old vs (omega arith)
    ∙ ap (λ (i : ℕ). (P ++ vs) ++ drop i old) (ap (λ (i : ℕ). i + length vs) here ∙ next)

-- three pieces put at the start
pub put_three :
    (old first second third x y z : List ℕ) (m n k : ℕ)
    → first ≡ sets old 0 x
    → second ≡ sets first m y
    → third ≡ sets second n z
    → length x ≡ m
    → m + length y ≡ n
    → n + length z ≡ k
    → k ≤ length old
    → third ≡ ((x ++ y) ++ z) ++ drop k old
put_three old first second third x y z m n k e f g lx ly lz room =
    put_next (x ++ y) old z second third n k
    (put_next x old y first second m n (put_next [] old x old first 0 m refl e refl (omega arith) (omega arith)) f lx ly (omega arith))
    g (length-append x y ∙ ap (λ (i : ℕ). i + length y) lx ∙ ly) lz room
