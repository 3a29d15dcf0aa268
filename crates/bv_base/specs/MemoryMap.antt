-- The addresses of the board's memory, in bytes. This project's own.
use Rattle.std.specs.Prelude.{ℕ}

-- RAM is the addresses below this
abbrev pub ram_end : ℕ
ram_end = 0x1000000

-- the arena is the addresses from here
abbrev pub arena_start : ℕ
arena_start = 0x8000

-- up to here
abbrev pub arena_end : ℕ
arena_end = 0x88000

-- and has this number of bytes
abbrev pub arena_bytes : ℕ
arena_bytes = 0x80000

-- the word before the arena, where a routine in user mode is left
abbrev pub pad : ℕ
pad = 0x7ffc

-- an image's first word, where a run begins
abbrev pub image_start : ℕ
image_start = 0x100000

-- where the supervisor goes on when a routine in user mode comes to the pad
abbrev pub return_entry : ℕ
return_entry = 0x100004

-- where the supervisor goes on when user mode traps
abbrev pub trap_entry : ℕ
trap_entry = 0x100008
