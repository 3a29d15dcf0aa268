-- A window: a memory from one address up to another, of which user mode may use one stretch. This project's own.
use Rattle.std.specs.Prelude.{◌≡◌, ℕ, ◌-◌, ◌%◌, ◌≤◌, ◌&&◌, nat_le, nat_lt, Bool, if◌then◌else◌}
use Rattle.arm2_cpu.specs.Memory.{Space}

-- an address from one up to another
abbrev pub is_between : ℕ → ℕ → ℕ → Bool
is_between low high at = nat_le low at && nat_lt at high

-- supervisor mode may use all bytes from start up to end, user mode those from low up to high
abbrev pub window : ℕ → ℕ → ℕ → ℕ → Space
window start end low high = record {
  base = start;
  size = end - start;
  allows = λ user at. if user then is_between low high at else is_between start end at;
}

-- a window has whole words, and user mode's stretch lies in it
pub record IsPlace (start end low high : ℕ) : Type 0 where
  pub start_aligned : start % 4 ≡ 0
  pub end_aligned : end % 4 ≡ 0
  pub low_aligned : low % 4 ≡ 0
  pub high_aligned : high % 4 ≡ 0
  pub begins : start ≤ low
  pub ordered : low ≤ high
  pub ends : high ≤ end
