-- Fragments as the generator adds to them. This project's own.
use Rattle.std.specs.Prelude.{ℕ, ◌+◌, ◌*◌, ◌^◌, ◌<◌, List, ◌++◌, slice_index}
use Rattle.bas_ir.specs.declared.op.Op.{Op}
use Rattle.bas_ir.specs.declared.op.Op.TheVariants as o
use Rattle.code_frag.specs.Language.{Piece, items}
use Rattle.code_frag.specs.Words.{FragState}
use Rattle.codegen.specs.Operations.{item_label, op_code}

-- a fragment with a piece's items at its end
abbrev pub with_code : Piece → FragState → FragState
with_code piece f = record { items = f.items ++ items piece; places = f.places }

-- the items at which an operation goes on have their labels among n
abbrev pub LeadsInto : ℕ → Op → Type 0
LeadsInto n (o.Go item) = item_label item < n
LeadsInto n (o.GoIfZero item) = item_label item < n
LeadsInto n (o.GoUnless relation item) = item_label item < n
LeadsInto n (o.GoUnlessWith relation item number) = item_label item < n
LeadsInto n (o.GoIfOne item) = item_label item < n
LeadsInto n (o.GosubIfOne line item) = item_label item < n
LeadsInto n (o.GoIfEqual item) = item_label item < n
LeadsInto n (o.Gosub line item) = item_label item < n
LeadsInto n _ = Unit {0}

-- the code of an operation where the text or item of DATA that it names has an address, and the branch to the next item another
abbrev pub code_with : ℕ → ℕ → Op → Piece
code_with text back op = op_code (record { text = text; back = back }) op

-- the code of one that names neither and opens nothing
abbrev pub code_of : Op → Piece
code_of op = code_with 0 0 op

-- the word of four bytes from a place on, the lowest one first, where bytes past the end are 0
abbrev pub word_from : List ℕ → ℕ → ℕ
word_from bytes at = slice_index bytes at + slice_index bytes (at + 1) * 2 ^ 8 + slice_index bytes (at + 2) * 2 ^ 16 + slice_index bytes (at + 3) * 2 ^ 24
