-- A counter of so many bits: PC and AR have ten, IX seven, and document 02's timer eight.
-- Assumes nothing.
use Rattle.std.specs.Prelude.{◌≡◌, ℕ, ◌+◌, ◌%◌, ◌^◌, ◌<◌}

-- one more, and 0 after the last
abbrev pub wrap_next : ℕ → ℕ → ℕ
wrap_next width x = (x + 1) % 2 ^ width

-- The laws of every counter, whatever its width. Proved in proofs/Wrap.antt.
pub record WrapLaws (width x : ℕ) : Type 0 where
  pub below : wrap_next width x < 2 ^ width
  pub inner : x + 1 < 2 ^ width → wrap_next width x ≡ x + 1
  pub last : x + 1 ≡ 2 ^ width → wrap_next width x ≡ 0
