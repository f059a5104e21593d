-- A read into the rest of a buffer whose start is filled. Assumes nothing.
use Rattle.std.proofs.Common.{◌≡◌, ℕ, ◌+◌, ◌≤◌, List, ◌++◌, length, take, drop, ap, ◌∙◌, le_refl, drop_at, length-take-le}
use Rattle.std.proofs.lemmas.Slice.{take-put_mid_below}
use borrow.Rule.Slice.PartMut.{put_mid, post_of}
use lib.Seq.{take-add, take-append-le}

-- the start is longer by what the read gave
pub start_filled : (done room got : ℕ) (start part : List ℕ) → done ≤ length start → got ≤ length part
    → take (done + got) (put_mid done room start part) ≡ take done start ++ take got part
start_filled done room got start part inside fits =
    take-add done got (put_mid done room start part)
    ∙ ap (λ (l : List ℕ). l ++ take got (drop done (put_mid done room start part))) (take-put_mid_below done room start part done (le_refl done) inside)
    ∙ ap (λ (l : List ℕ). take done start ++ take got l) (drop_at (take done start) (part ++ post_of done room start) done (length-take-le done start inside))
    ∙ ap (λ (l : List ℕ). take done start ++ l) (take-append-le got part (post_of done room start) fits)
