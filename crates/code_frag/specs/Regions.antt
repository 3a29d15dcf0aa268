-- The regions of memory that generated code uses, one after another, and the registers that it keeps everywhere. There is
-- room for all forms of the language. This project's own.
use Rattle.std.specs.Prelude.{◌≡◌, ℕ, ◌+◌, ◌*◌, ◌≤◌}
use Rattle.bv_base.specs.Limits as limit
use Rattle.bv_base.specs.MemoryMap.{ram_end, image_start}
use Rattle.code_frag.specs.Places.{data_start}

-- ---- registers that code keeps everywhere

-- the address of the pending strings' addresses below the topmost one
abbrev pub texts_register : ℕ
texts_register = 9

-- the address of the topmost pending string
abbrev pub text_register : ℕ
text_register = 10

-- the address of the residents and of what follows on them
abbrev pub base_register : ℕ
base_register = 11

-- the address of the pending numbers below the topmost one, which is in R0
abbrev pub numbers_register : ℕ
numbers_register = 12

-- the address of the latest frame of a routine
abbrev pub stack_register : ℕ
stack_register = 13

-- ---- the image

-- the texts of errors are at the image's front, after the words where a run begins, a routine comes back, and a trap leads to
abbrev pub error_texts_start : ℕ
error_texts_start = image_start + 12

-- ---- data

-- the resident integers, a word each
abbrev pub residents_start : ℕ
residents_start = data_start

-- COUNT
abbrev pub column_at : ℕ
column_at = 0x90006c

-- the number of open loops and GOSUBs
abbrev pub opened_count_at : ℕ
opened_count_at = 0x900070

-- the depth of the call that runs, 0 outside of calls
abbrev pub depth_at : ℕ
depth_at = 0x900074

-- the address of the next item of DATA
abbrev pub next_item_at : ℕ
next_item_at = 0x900078

-- the other words of the state: handler, ERR, ERL, the address for DIM
abbrev pub words_start : ℕ
words_start = 0x90007c

-- the integers of names: for each its number and the word that says whether it was made
abbrev pub cells_start : ℕ
cells_start = 0x900100

-- the strings and arrays of names, two words each
abbrev pub arrays_start : ℕ
arrays_start = 0x908100

-- the pending numbers below the topmost one, of all calls, grow downwards from their end
abbrev pub numbers_start : ℕ
numbers_start = 0x920000

abbrev pub numbers_end : ℕ
numbers_end = 0x9a0400

-- and so do the addresses of pending strings
abbrev pub texts_start : ℕ
texts_start = 0x9a1000

abbrev pub texts_end : ℕ
texts_end = 0x9a9040

-- the bytes of pending strings
abbrev pub strings_start : ℕ
strings_start = 0x9aa000

-- the saved values, four words each
abbrev pub saved_start : ℕ
saved_start = 0xbab000

-- the open loops and GOSUBs, eight words each
abbrev pub opened_start : ℕ
opened_start = 0xbcb000

-- the calls that run, eight words each
abbrev pub calls_start : ℕ
calls_start = 0xbeb000

-- the room for arrays
abbrev pub array_room_start : ℕ
array_room_start = 0xbf0000

-- the bytes of strings that variables have and that are saved
abbrev pub chunks_start : ℕ
chunks_start = 0xcf0000

-- the frames of routines grow downwards from their end
abbrev pub stack_start : ℕ
stack_start = 0xff0000

abbrev pub stack_end : ℕ
stack_end = 0xfff000

-- ---- their sizes

-- the greatest number of calls, with the outermost level
abbrev pub levels : ℕ
levels = 513

-- the greatest number of pending numbers of a call
abbrev pub pending_numbers : ℕ
pending_numbers = 256

-- the regions lie in this order, and each has room for what is in it
pub record RegionsInOrder : Type 0 where
  pub residents : residents_start + 4 * 27 ≡ column_at
  pub column : column_at + 4 ≡ opened_count_at
  pub opened_count : opened_count_at + 4 ≡ depth_at
  pub depth : depth_at + 4 ≡ next_item_at
  pub next_item : next_item_at + 4 ≡ words_start
  pub words : words_start ≤ cells_start
  pub cells : cells_start + 8 * limit.names ≤ arrays_start
  pub arrays : arrays_start + 16 * limit.names ≤ numbers_start
  pub numbers : numbers_start + 4 * pending_numbers * levels ≤ numbers_end
  pub numbers_before_texts : numbers_end ≤ texts_start
  pub texts : texts_start + 4 * limit.pending_strings * levels ≤ texts_end
  pub texts_before_strings : texts_end ≤ strings_start
  pub strings : strings_start + 256 * limit.pending_strings * levels ≤ saved_start
  pub saved : saved_start + 16 * 8192 ≤ opened_start
  pub opened : opened_start + 32 * 4096 ≤ calls_start
  pub calls : calls_start + 32 * levels ≤ array_room_start
  pub array_room : array_room_start + 1048576 ≤ chunks_start
  pub chunks : chunks_start + 256 * (limit.names + 8192) ≤ stack_start
  pub stack : stack_start + 0xf000 ≤ stack_end
  pub end : stack_end ≤ ram_end
