-- Where code lies and where data may be stored. This project's own.
use Rattle.std.specs.Prelude.{ℕ, ◌+◌, ◌≤◌, ◌⊎◌}
use Rattle.bv_base.specs.MemoryMap.{ram_end, image_start}

-- code and its constants lie from the image's start up to here, and data from here on
abbrev pub data_start : ℕ
data_start = 0x900000

-- bytes that may be stored: they lie below the code or above it
abbrev pub IsData : ℕ → ℕ → Type 0
IsData a size = (a + size ≤ image_start) ⊎ ((data_start ≤ a) × (a + size ≤ ram_end))
