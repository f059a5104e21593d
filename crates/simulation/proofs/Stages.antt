-- A certificate: a stage for each position, which silent moves do not raise and some outcome of each carry lowers, both without
-- reaching 0. Positions of a stage above 0 are lost.
-- Assumes nothing.
use mathlib.Core.Path.{◌≡◌, refl}
use mathlib.Core.Bool.{Bool, true, false, cond}
use Prim.Native.Nat.{ℕ, zero, suc, ◌<◌, ◌≤◌}
use native.Mathlib.Omega.{arith}
use Rattle.steps.specs.Effect.{silent, carried}
use Rattle.simulation.proofs.Machine.{finish, Machine, goes, Laws, SilentWay, here, then, Lost, barred, lost}
use Rattle.simulation.proofs.LostNeverHeld.{way_valid, way_allowed}

-- an outcome at which a carry leads to a stage above 0 and below n
pub record Falls (𝓒 : Machine) (stage : 𝓒.Point → 𝓒.Conf → ℕ) (p : 𝓒.Point) (d e : 𝓒.Conf) (n : ℕ) : Type 0 where
  pub outcome : Bool
  pub above : 0 < stage (goes (𝓒.kind p) p outcome) (cond outcome d e)
  pub below : stage (goes (𝓒.kind p) p outcome) (cond outcome d e) < n

pub record Stages (𝓒 : Machine) (stage : 𝓒.Point → 𝓒.Conf → ℕ) : Type 0 where
  pub going : (p : 𝓒.Point) (a : 𝓒.Conf) → 𝓒.Valid p a → 𝓒.allowed a ≡ true → 0 < stage p a → 𝓒.kind p ≡ finish → ⊥
  pub quiet :
      (p : 𝓒.Point) (a b : 𝓒.Conf) (m : 𝓒.Move)
      → 𝓒.Valid p a
      → 𝓒.allowed a ≡ true
      → 0 < stage p a
      → 𝓒.effect p a m ≡ silent b
      → (0 < stage p b) × (stage p b ≤ stage p a)
  pub carry :
      (p : 𝓒.Point) (a d e : 𝓒.Conf) (m : 𝓒.Move)
      → 𝓒.Valid p a
      → 𝓒.allowed a ≡ true
      → 0 < stage p a
      → 𝓒.effect p a m ≡ carried d e
      → Falls 𝓒 stage p d e (stage p a)

module _ {𝓒 : Machine} {stage : 𝓒.Point → 𝓒.Conf → ℕ} (L : Laws 𝓒) (G : Stages 𝓒 stage) where
  way_staged : {p : 𝓒.Point} {a b : 𝓒.Conf} → 𝓒.Valid p a → 𝓒.allowed a ≡ true → 0 < stage p a → SilentWay 𝓒 p a b
      → (0 < stage p b) × (stage p b ≤ stage p a)
  way_staged v fit h (here e) = rw e (h, omega arith)
  way_staged v fit h (then m w e) =
      let i = way_staged v fit h w in
      let j = G.quiet _ _ _ m (way_valid L v w) (way_allowed L fit w) i.0 e in
      (j.0, omega arith)

  way_falls :
      {p : 𝓒.Point} {a b d e : 𝓒.Conf} {m : 𝓒.Move}
      → 𝓒.Valid p a
      → 𝓒.allowed a ≡ true
      → 0 < stage p a
      → SilentWay 𝓒 p a b
      → 𝓒.effect p b m ≡ carried d e
      → Falls 𝓒 stage p d e (stage p a)
  way_falls v fit h w k =
      let i = way_staged v fit h w in
      let f = G.carry _ _ _ _ _ (way_valid L v w) (way_allowed L fit w) i.0 k in
      record { outcome = f.outcome; above = f.above; below = omega arith }

  -- what is not allowed is lost, and what is allowed by its stage
  by_stage : (n : ℕ) (p : 𝓒.Point) (a : 𝓒.Conf) → 𝓒.Valid p a → 0 < stage p a → stage p a ≤ n → Lost 𝓒 p a
  by_stage zero p a v h l = absurd (omega arith)
  by_stage (suc n) p a v h l = decide (λ q b u g m. by_stage n q b u g m) (𝓒.allowed a) refl
    where
      decide : ((q : 𝓒.Point) (b : 𝓒.Conf) → 𝓒.Valid q b → 0 < stage q b → stage q b ≤ n → Lost 𝓒 q b)
          → (t : Bool) → 𝓒.allowed a ≡ t → Lost 𝓒 p a
      decide later false full = barred full
      decide later true fit =
          lost (G.going p a v fit h) (λ b d e m w k. (way_falls v fit h w k).outcome) (λ b d e m w k.
          let f = way_falls v fit h w k in
          later _ _ (L.carried_valid p b d e m f.outcome (way_valid L v w) k) f.above (omega arith))

  pub staged_lost : (p : 𝓒.Point) (a : 𝓒.Conf) → 𝓒.Valid p a → 0 < stage p a → Lost 𝓒 p a
  staged_lost p a v h = by_stage (stage p a) p a v h (omega arith)
