-- The whole code of a program as a fragment: the texts, the library, a branch to each item, and the operations one after another.
-- This project's own.
use Rattle.std.specs.Prelude.{ℕ, zero, suc, ◌+◌, ◌*◌, ◌/◌, ◌^◌, Bool, true, false, List, [], ◌∷◌, ◌++◌, length, map, flat_map, take, Option, Some}
use Rattle.bas_ir.specs.declared.ir.Ir.{Ir}
use Rattle.bas_ir.specs.declared.op.Op.{Op}
use Rattle.bas_ir.specs.declared.op.Op.TheVariants as o
use Rattle.bas_ir.specs.Places.{marks_in, item_from}
use Rattle.bv_base.specs.MemoryMap.{image_start}
use Rattle.arm_isa.specs.Numbers.{AL}
use Rattle.arm_isa.specs.Words.{means}
use Rattle.code_frag.specs.declared.item.Item.{Item}
use Rattle.code_frag.specs.declared.item.Item.TheVariants.{Ins, Jump}
use Rattle.code_frag.specs.Instructions.{mov, num}
use Rattle.code_frag.specs.Language as language
use Rattle.code_frag.specs.Language.{Skip, Call, Halt, ◌⨾◌, items, size}
use Rattle.code_frag.specs.Regions.{error_texts_start, residents_start, numbers_end, texts_end, stack_end}
use Rattle.code_frag.specs.Words.{FragState, shifted_item, shifted_place}
use Rattle.runtime_lib.specs.Data.{end_mark}
use Rattle.runtime_lib.specs.Entries.{ClosingText, error_table}
use Rattle.runtime_lib.specs.Library.{library}
use Rattle.codegen.specs.Operations.{main_label, library_label, item_label, Named, load, restore, op_code}

-- ---- texts

-- a text as it stands in the image: its length, and its bytes
abbrev pub text_bytes : List ℕ → List ℕ
text_bytes text = length text ∷ text

-- a program's texts, and after them its items of DATA
abbrev pub all_texts : Ir → List (List ℕ)
all_texts ir = ir.texts ++ ir.data_items

-- the bytes of all texts: those of errors, then the program's with its items of DATA, and then a byte that is no item's length
abbrev pub data_bytes : Ir → List ℕ
data_bytes ir = (error_table ++ flat_map text_bytes (all_texts ir)) ++ end_mark ∷ []

-- the address of a text or item
abbrev pub text_address : Ir → ℕ → ℕ
text_address ir number = error_texts_start + length error_table + length (flat_map text_bytes (take number (all_texts ir)))

-- the number of an item of DATA among them
abbrev pub number_of_item : Ir → ℕ → ℕ
number_of_item ir item = length ir.texts + item

-- the number of the text or item that an operation names, or that of the first one where it names none
abbrev pub text_of : Ir → Op → ℕ
text_of ir (o.PushText text) = text
text_of ir (o.Restore item) = number_of_item ir item
text_of ir _ = 0

-- the address of what it names
abbrev pub named_text : Ir → Op → ℕ
named_text ir op = text_address ir (text_of ir op)

-- the address of the first item, or of the byte after them where there is none
abbrev pub first_item : Ir → ℕ
first_item ir = text_address ir (number_of_item ir 0)

-- bytes as words, the lowest byte first, with zeros after the last one
abbrev pub packed : List ℕ → List ℕ
packed [] = []
packed (a ∷ []) = a ∷ []
packed (a ∷ b ∷ []) = (a + b * 2 ^ 8) ∷ []
packed (a ∷ b ∷ c ∷ []) = (a + b * 2 ^ 8 + c * 2 ^ 16) ∷ []
packed (a ∷ b ∷ c ∷ d ∷ rest) = (a + b * 2 ^ 8 + c * 2 ^ 16 + d * 2 ^ 24) ∷ packed rest

-- words that are no code, as items
abbrev pub data_items : List ℕ → List Item
data_items words = map (λ w. Ins (means w)) words

-- ---- pieces

-- where a run begins, a routine in user mode comes back, and a trap leads to: all go to where the program begins, since there is no
-- user mode yet
abbrev pub header : List Item
header = Jump AL false (record { number = main_label }) ∷ Jump AL false (record { number = main_label }) ∷ Jump AL false (record { number = main_label }) ∷ []

-- the registers that code keeps everywhere, and the item of DATA that is the first
abbrev pub prologue : ℕ → language.Piece
prologue first =
    mov 11 (record { imm = true; field = 8 * 2 ^ 8 + residents_start / 2 ^ 16 }) ⨾ load 12 numbers_end ⨾ load 9 texts_end ⨾ load 13 stack_end ⨾ restore first

-- an error ends the run
abbrev pub raiser : language.Piece
raiser = Call (library_label ClosingText) ⨾ Skip

-- the end after the last operation
abbrev pub last_piece : language.Piece
last_piece = mov 0 (num 0) ⨾ Halt ⨾ Skip

-- the branches to n items, from one on
abbrev pub branch_items : ℕ → ℕ → List Item
branch_items zero item = []
branch_items (suc n) item = Jump AL false (record { number = item_label item }) ∷ branch_items n (item + 1)

-- the item that begins next after an operation
abbrev pub item_after : Bool → ℕ → ℕ
item_after true item = item + 1
item_after false item = item

-- what the code of an operation names: a text at an address, and the branch to the item that is the next one
abbrev pub named : (text branches item : ℕ) → Named
named text branches item = record { text = text; back = branches + 4 * item }

-- the items of operations with their marks, one after another, by the addresses of what they name, where an item is the next one before
-- them
abbrev pub op_items : (Op → ℕ) → ℕ → List Op → List Bool → ℕ → List Item
op_items texts branches [] marks item = []
op_items texts branches (op ∷ ops) [] item = []
op_items texts branches (op ∷ ops) (marked ∷ marks) item =
    items (op_code (named (texts op) branches (item_after marked item)) op) ++ op_items texts branches ops marks (item_after marked item)

-- how many words an operation has, whatever it names
abbrev pub op_size : Op → ℕ
op_size op = size (op_code (named 0 0 0) op)

-- and several
abbrev pub ops_size : List Op → ℕ
ops_size [] = 0
ops_size (op ∷ ops) = op_size op + ops_size ops

-- ---- where they are, in items from the front

-- the library, after the header and the texts
abbrev pub library_place : Ir → ℕ
library_place ir = 3 + length (packed (data_bytes ir))

-- the branches to items and to the end, after the library
abbrev pub branches_place : Ir → ℕ
branches_place ir = library_place ir + length library.items

-- the address of the first of them
abbrev pub branches_start : Ir → ℕ
branches_start ir = image_start + 4 * branches_place ir

-- the raising of errors, after them
abbrev pub raise_place : Ir → ℕ
raise_place ir = branches_place ir + (marks_in ir.marks + 1)

-- where the program begins
abbrev pub main_place : Ir → ℕ
main_place ir = raise_place ir + size raiser

-- the operation at a place
abbrev pub op_place : Ir → ℕ → ℕ
op_place ir pc = main_place ir + size (prologue (first_item ir)) + ops_size (take pc ir.ops)

-- what the code of an operation at a place names
abbrev pub named_at : Ir → ℕ → Op → Named
named_at ir pc op = named (named_text ir op) (branches_start ir) (item_from ir (suc pc))

-- the places of the marked operations, where the first of a list is at a place
abbrev pub item_places : List Op → List Bool → ℕ → List (Option ℕ)
item_places [] marks at = []
item_places (op ∷ ops) [] at = []
item_places (op ∷ ops) (true ∷ marks) at = Some at ∷ item_places ops marks (at + op_size op)
item_places (op ∷ ops) (false ∷ marks) at = item_places ops marks (at + op_size op)

-- the items of all operations
abbrev pub all_op_items : Ir → List Item
all_op_items ir = op_items (named_text ir) (branches_start ir) ir.ops ir.marks 0

-- The whole code of a program. Its labels are that of its beginning, those of the library, that of the raising of errors, and one for
-- each item and for the end. It stays closed, so that no goal shows its items.
unfoldable pub program : Ir → FragState
program ir = record {
  items =
      header ++ (data_items (packed (data_bytes ir)) ++ (map (shifted_item 1) library.items ++ (branch_items (marks_in ir.marks + 1) 0
      ++ (items raiser ++ (items (prologue (first_item ir)) ++ (all_op_items ir ++ items last_piece))))));
  places =
      Some (main_place ir) ∷ (map (shifted_place (library_place ir)) library.places
      ++ (Some (raise_place ir) ∷ (item_places ir.ops ir.marks (op_place ir 0) ++ Some (op_place ir (length ir.ops)) ∷ [])));
}

-- what an image has beside the code of operations and the program's texts, at most, in bytes: the library, the texts of errors, and
-- its first words
abbrev pub most_beside : ℕ
most_beside = 8192
