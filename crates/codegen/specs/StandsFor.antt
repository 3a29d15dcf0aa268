-- How a core stands for a state of the flat machine: each region of its memory for a part of the state. This project's own.
use Rattle.std.specs.Prelude.{◌≡◌, ℕ, suc, ◌+◌, ◌*◌, ◌%◌, ◌<◌, ◌≤◌, ℤ, pos, List, [], ◌∷◌, Option, None, Some, length, slice_index, slice_index_or}
use Rattle.bas_ir.specs.Places.{Pending}
use Rattle.bas_sem.specs.State.{State}
use Rattle.bas_store.specs.Cells.{Cell, Resident, Integer, residents}
use Rattle.bas_store.specs.Stored.{Opening, For, Repeat, While, Gosub, Entry}
use Rattle.bv_base.specs.Limits as limit
use Rattle.bv_base.specs.MemoryMap.{image_start, arena_start, arena_bytes}
use Rattle.bv_num.specs.Bits.{signed}
use Rattle.arm_core.specs.Core.{Core, word}
use Rattle.code_frag.specs.Places.{data_start}
use Rattle.code_frag.specs.Regions.{residents_start, column_at, depth_at, next_item_at, cells_start, numbers_end, texts_end, stack_end}
use Rattle.runtime_lib.specs.Data.{end_mark}
use Rattle.runtime_lib.specs.Entries.{text_at}
use Rattle.runtime_lib.specs.Opened.{most_entries, depth_of, kind_of, limit_of, step_of, code_of, repeat_kind, while_kind, gosub_kind, opened_count}

-- ---- the state

-- the residents are a word each
pub record HasResidents (m : ℕ → ℕ) (values : List ℤ) : Type 0 where
  pub count : length values ≡ residents
  pub each : (index : ℕ) → index < residents → signed (word m (residents_start + 4 * index)) ≡ slice_index_or values index (pos 0)

-- a cell's number, and its mark, which is 0 where it was never made; its number is 0 then, too
abbrev pub IsCell : ℕ → ℤ → Option ℤ → Type 0
IsCell mark number None = (mark ≡ 0) × (number ≡ pos 0)
IsCell mark number (Some value) = (mark ≡ 1) × (number ≡ value)

-- the cell of a name
abbrev pub cell_at : ℕ → ℕ
cell_at name = cells_start + 8 * name

-- the integers of names are a cell each
pub record HasIntegers (m : ℕ → ℕ) (values : List (Option ℤ)) : Type 0 where
  pub few : length values ≤ limit.names
  pub each : (name : ℕ) → name < length values → IsCell (word m (cell_at name + 4)) (signed (word m (cell_at name))) (slice_index_or values name None)

-- the arena is its bytes
pub record HasArena (m : ℕ → ℕ) (bytes : List ℕ) : Type 0 where
  pub count : length bytes ≡ arena_bytes
  pub each : (k : ℕ) → k < arena_bytes → m (arena_start + k) ≡ slice_index bytes k

-- ---- the image

-- a text stands in the image, which is never stored into, at an address
pub record IsText (code : ℕ → ℕ) (a : ℕ) (text : List ℕ) : Type 0 where
  pub low : image_start ≤ a
  pub high : a + 256 ≤ data_start
  pub is : text_at code a ≡ text

-- the items of DATA in the image: the address of each and that after them all, and their texts
pub record ItemTable : Type 0 where
  pub address : ℕ → ℕ
  pub texts : List (List ℕ)

-- an item stands at its address, and after it the next one, or the byte after them all
pub record IsItemAt (code : ℕ → ℕ) (table : ItemTable) (k : ℕ) : Type 0 where
  pub is : text_at code (table.address k) ≡ slice_index_or table.texts k []
  pub count : code (table.address k) ≡ length (slice_index_or table.texts k [])
  pub short : length (slice_index_or table.texts k []) < end_mark
  pub next : table.address (suc k) ≡ table.address k + 1 + length (slice_index_or table.texts k [])

-- all of them stand in the image, and after them a byte that is no item's length
pub record HasItems (code : ℕ → ℕ) (table : ItemTable) : Type 0 where
  pub low : (k : ℕ) → k ≤ length table.texts → image_start ≤ table.address k
  pub high : (k : ℕ) → k ≤ length table.texts → table.address k + 256 ≤ data_start
  pub each : (k : ℕ) → k < length table.texts → IsItemAt code table k
  pub ends : code (table.address (length table.texts)) ≡ end_mark

-- what an operation's code finds in the image: the image's bytes, and where the branches to items are; their number, and the item after
-- the operation; and the items of DATA
pub record Site : Type 0 where
  pub bytes : ℕ → ℕ
  pub branches : ℕ
  pub items : ℕ
  pub next : ℕ
  pub table : ItemTable

-- branches are words of the image, one an item and one for the end, and the next item is one of them, and not the first
pub record IsSite (site : Site) : Type 0 where
  pub low : image_start ≤ site.branches
  pub aligned : site.branches % 4 ≡ 0
  pub high : site.branches + 4 * (site.items + 1) ≤ data_start
  pub after : 1 ≤ site.next
  pub within : site.next ≤ site.items
  pub has_items : HasItems site.bytes site.table

-- ---- open loops and GOSUBs

-- the address of a cell's number
abbrev pub cell_word : Cell → ℕ
cell_word (Resident index) = residents_start + 4 * index
cell_word (Integer name) = cell_at name

-- what an entry is, as its word says it
abbrev pub opening_word : Opening → ℕ
opening_word (For cell limit step) = cell_word cell
opening_word Repeat = repeat_kind
opening_word While = while_kind
opening_word Gosub = gosub_kind

-- the limit and the step of FOR
abbrev pub HasLimits : (ℕ → ℕ) → ℕ → Opening → Type 0
HasLimits m k (For cell limit step) = (signed (limit_of m k) ≡ limit) × (signed (step_of m k) ≡ step)
HasLimits m k _ = Unit {0}

-- an entry, and the address of the branch to the item after the one that opened it
pub record HasEntry (branches : ℕ) (m : ℕ → ℕ) (k : ℕ) (e : Entry) : Type 0 where
  pub call : depth_of m k ≡ e.call
  pub kind : kind_of m k ≡ opening_word e.opening
  pub limits : HasLimits m k e.opening
  pub code : code_of m k ≡ branches + 4 * e.at

-- the open entries, the latest first
abbrev pub HasEntries : ℕ → (ℕ → ℕ) → List Entry → Type 0
HasEntries branches m [] = Unit {0}
HasEntries branches m (e ∷ es) = HasEntry branches m (length es) e × HasEntries branches m es

-- all of them, and their number
pub record HasOpened (branches : ℕ) (m : ℕ → ℕ) (es : List Entry) : Type 0 where
  pub count : opened_count m ≡ length es
  pub few : length es ≤ most_entries
  pub entries : HasEntries branches m es

-- What an entry names: its variable is one, and it goes on at an item that is not the first.
abbrev pub IsNamed : ℕ → Opening → Type 0
IsNamed names (For (Resident index) limit step) = index < residents
IsNamed names (For (Integer name) limit step) = name < names
IsNamed names _ = Unit {0}

pub record IsEntry (names items : ℕ) (e : Entry) : Type 0 where
  pub named : IsNamed names e.opening
  pub after : 1 ≤ e.at
  pub within : e.at ≤ items

-- of each entry
abbrev pub AreEntries : ℕ → ℕ → List Entry → Type 0
AreEntries names items [] = Unit {0}
AreEntries names items (e ∷ es) = IsEntry names items e × AreEntries names items es

-- ---- the whole

-- What a memory, the residents' address, the stack's and the output stand for, beside what is pending.
pub record Holds (branches : ℕ) (table : ItemTable) (st : State) (base stack : ℕ) (m : ℕ → ℕ) (out : List ℕ) : Type 0 where
  pub base_is : base ≡ residents_start
  pub stack_is : stack ≡ stack_end
  pub has_residents : HasResidents m st.stored.residents
  pub has_integers : HasIntegers m st.stored.integers
  pub has_opened : HasOpened branches m st.stored.opened
  pub depth : word m depth_at ≡ 0
  pub column : word m column_at ≡ st.column
  pub column_small : st.column < 65536
  pub few_taken : st.data_place ≤ length table.texts
  pub next_item : word m next_item_at ≡ table.address st.data_place
  pub has_arena : HasArena m st.arena
  pub out_is : out ≡ st.output
  pub unhandled : st.handler ≡ None

-- ---- what is pending

-- The number r and the words from p on are the pending numbers. The deepest word is left from before the first one was pushed.
abbrev pub Numbers : (ℕ → ℕ) → (p r : ℕ) → List ℤ → Type 0
Numbers m p r [] = p ≡ numbers_end
Numbers m p r (value ∷ values) = (signed r ≡ value) × Numbers m (p + 4) (word m p) values

-- the address r and those from p on are of the pending strings
abbrev pub Texts : (code m : ℕ → ℕ) → (p r : ℕ) → List (List ℕ) → Type 0
Texts code m p r [] = p ≡ texts_end
Texts code m p r (text ∷ texts) = IsText code r text × Texts code m (p + 4) (word m p) texts

-- A core stands for what is pending and a state.
pub record StandsFor (site : Site) (p : Pending) (st : State) (s : Core) : Type 0 where
  pub holds : Holds site.branches site.table st (s.regs 11) (s.regs 13) s.mem s.out
  pub numbers : Numbers s.mem (s.regs 12) (s.regs 0) p.numbers
  pub texts : Texts site.bytes s.mem (s.regs 9) (s.regs 10) p.texts
