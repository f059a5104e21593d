-- What a call knows of a cell and its chapters once the rules up to 13 accept them. Assumes nothing.
use Rattle.std.specs.Prelude.{◌≡◌, ℕ, suc, ◌<◌, ◌≤◌, length}
use Rattle.cell.specs.declared.Cell.{Cell}
use Rattle.positions.specs.Checked.{Checked}
use Rattle.steps.specs.Lines.{kind_of}
use Rattle.chapters.specs.Joined.{Chapters, chapter_at}
use Rattle.chapters.specs.Sizes.{Measures}

pub record AllChecked (c : Cell) (rs : Chapters) (zs : Measures) : Type 0 where
  pub some : 1 ≤ length rs
  pub most : length rs ≤ 8
  pub each : (k : ℕ) → k < length rs → Checked c (chapter_at rs k) (zs k)
  pub same_parts : (k : ℕ) → k < length rs → (zs k).parts ≡ (zs 0).parts
  pub joints : (k : ℕ) → suc k < length rs → kind_of (chapter_at rs k) 0 ≡ 0 → ⊥
