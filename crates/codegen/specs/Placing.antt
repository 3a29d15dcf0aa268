-- The fragment of a program step by step, as it is put together: its labels exist before operations name them, and get their
-- places later. This project's own.
use Rattle.std.specs.Prelude.{ℕ, ◌+◌, ◌<◌, ◌≤◌, Bool, true, false, List, [], ◌∷◌, ◌++◌, length, replicate, slice_set, Some, None}
use Rattle.bas_ir.specs.declared.ir.Ir.{Ir}
use Rattle.bas_ir.specs.declared.op.Op.{Op}
use Rattle.bas_ir.specs.Places.{marks_in}
use Rattle.code_frag.specs.Regions.{error_texts_start}
use Rattle.code_frag.specs.Words.{FragState, IsOpen, joined}
use Rattle.runtime_lib.specs.Entries.{error_table}
use Rattle.runtime_lib.specs.Library.{library}
use Rattle.codegen.specs.Operations.{main_label, raise_label, item_label, op_code}
use Rattle.codegen.specs.Program.{text_bytes, data_bytes, packed, data_items, header, prologue, raiser, last_piece, branch_items, item_after, all_texts, named, named_text, branches_start}
use Rattle.codegen.specs.Emission.{with_code}

-- ---- addresses of texts

-- the addresses of texts that stand one after another, and that after them
abbrev pub addresses_from : ℕ → List (List ℕ) → List ℕ
addresses_from at [] = at ∷ []
addresses_from at (text ∷ texts) = at ∷ addresses_from (at + length (text_bytes text)) texts

-- the address of the program's first text
abbrev pub texts_start : ℕ
texts_start = error_texts_start + length error_table

-- the addresses of a program's texts and items of DATA, and that after them
unfoldable pub addresses : Ir → List ℕ
addresses ir = addresses_from texts_start (all_texts ir)

-- ---- labels

-- a fragment with n labels more, which have no places yet
abbrev pub with_labels : ℕ → FragState → FragState
with_labels n f = record { items = f.items; places = f.places ++ replicate n None }

-- a fragment where a label has its place, before the next item
abbrev pub with_place : ℕ → FragState → FragState
with_place label f = record { items = f.items; places = slice_set f.places label (Some (length f.items)) }

-- an item's label has its place where an operation is the first of its item
abbrev pub with_place_if : Bool → ℕ → FragState → FragState
with_place_if true item f = with_place (item_label item) f
with_place_if false item f = f

-- ---- operations

-- a fragment with an operation's code at its end, which may name a text at an address and the branch to the next item
abbrev pub with_op : (text branches : ℕ) → Op → Bool → ℕ → FragState → FragState
with_op text branches op marked item f = with_code (op_code (named text branches (item_after marked item)) op) (with_place_if marked item f)

-- a fragment with the code of operations and their marks, by the addresses of what they name, where an item is the next one
abbrev pub with_ops : (Op → ℕ) → ℕ → List Op → List Bool → ℕ → FragState → FragState
with_ops texts branches [] marks item f = f
with_ops texts branches (op ∷ ops) [] item f = f
with_ops texts branches (op ∷ ops) (marked ∷ marks) item f = with_ops texts branches ops marks (item_after marked item) (with_op (texts op) branches op marked item f)

-- ---- the whole

-- the header and the texts; where a run begins has no place yet
unfoldable pub front : Ir → FragState
front ir = record { items = header ++ data_items (packed (data_bytes ir)); places = None ∷ [] }

-- the library after them, and the labels of the raising of errors, of each item, and of the end
unfoldable pub with_library : Ir → FragState
with_library ir = with_labels (marks_in ir.marks + 2) (joined (front ir) library)

-- the branches to n items and to the end
abbrev pub with_branches : ℕ → FragState → FragState
with_branches n f = record { items = f.items ++ branch_items (n + 1) 0; places = f.places }

-- the raising of errors, and the beginning of the program, by the address of the first item of DATA
unfoldable pub with_beginning : ℕ → FragState → FragState
with_beginning first f = with_code (prologue first) (with_place main_label (with_code raiser (with_place raise_label f)))

-- the operations, and the end after them
unfoldable pub with_program : Ir → FragState → FragState
with_program ir f = with_code last_piece (with_place (item_label (marks_in ir.marks)) (with_ops (named_text ir) (branches_start ir) ir.ops ir.marks 0 f))

-- ---- what a label needs

-- the labels of the items from one on have no places yet
abbrev pub AreOpen : ℕ → FragState → Type 0
AreOpen item f = (k : ℕ) → item ≤ k → item_label k < length f.places → IsOpen f (item_label k)
