-- Where the pieces of operations are among the items of them all.
use Rattle.std.proofs.Common.{◌≡◌, ℕ, zero, suc, ◌+◌, ◌*◌, ◌≤◌, Bool, true, false, List, [], ◌∷◌, ◌++◌, length, take, slice_index_or, Some, refl, sym, ap, subst, ◌∙◌, arith, append_assoc}
use Rattle.std.specs.Prelude.{slice_get}
use Rattle.std.proofs.lemmas.List.{length-append}
use Rattle.bas_ir.specs.declared.op.Op.{Op}
use Rattle.bas_ir.specs.Places.{marks_in}
use Rattle.code_frag.specs.declared.item.Item.{Item}
use Rattle.code_frag.specs.Language.{items}
use Rattle.code_frag.specs.Runs.{Stands}
use Rattle.code_frag.proofs.Branches.{length-items, stands_front, stands_after}
use Rattle.codegen.specs.Operations.{op_code}
use Rattle.codegen.specs.Program.{item_after, named, op_items, op_size, ops_size, item_places}
use Rattle.codegen.proofs.OpFacts.{size-named}

-- ---- how many words the first operations have

pub used-suc : (ops : List Op) (pc : ℕ) (x : Op) → slice_get ops pc ≡ Some x → ops_size (take (suc pc) ops) ≡ ops_size (take pc ops) + op_size x
used-suc [] pc x there = absurd (cc there)
used-suc (y ∷ ops) zero x there =
    let e : y ≡ x = cc there in
    ap (λ z. op_size z + 0) e ∙ (let n = op_size x in omega arith)
used-suc (y ∷ ops) (suc pc) x there =
    let rest = used-suc ops pc x there in
    let n = op_size y in
    omega (arith, rest)

-- some of them have no more than all
pub used-le : (ops : List Op) (pc : ℕ) → ops_size (take pc ops) ≤ ops_size ops
used-le [] zero = omega arith
used-le [] (suc pc) = omega arith
used-le (x ∷ ops) zero = omega arith
used-le (x ∷ ops) (suc pc) = let rest = used-le ops pc in omega (arith, rest)

module _ (texts : Op → ℕ) (branches : ℕ) where
  -- what an operation names where an item is the next one
  abbrev piece_items : ℕ → Op → List Item
  piece_items item x = items (op_code (named (texts x) branches item) x)

  pub length-piece : (item : ℕ) (x : Op) → length (piece_items item x) ≡ op_size x
  length-piece item x = length-items (op_code (named (texts x) branches item) x) ∙ size-named (named (texts x) branches item) x

  pub length-op_items : (ops : List Op) (marks : List Bool) (item : ℕ) → length marks ≡ length ops → length (op_items texts branches ops marks item) ≡ ops_size ops
  length-op_items [] marks item long = refl
  length-op_items (x ∷ ops) [] item long = absurd (omega (arith, long))
  length-op_items (x ∷ ops) (mark ∷ marks) item long =
      length-append (piece_items (item_after mark item) x) (op_items texts branches ops marks (item_after mark item))
      ∙ (λ i. length-piece (item_after mark item) x i + length-op_items ops marks (item_after mark item) (omega (arith, long)) i)

  -- the items after an operation
  items_after : (mark : Bool) (marks : List Bool) (item : ℕ) → item_after mark item + marks_in marks ≡ item + marks_in (mark ∷ marks)
  items_after true marks item = omega arith
  items_after false marks item = refl

  -- the piece of an operation stands at its place
  pub op_stands : (ops : List Op) (marks : List Bool) (item : ℕ) (more : List Item) (code entry : ℕ → ℕ) (a pc : ℕ) (x : Op) → length marks ≡ length ops → slice_get ops pc ≡ Some x
      → Stands (op_items texts branches ops marks item ++ more) code entry a → Stands (piece_items (item + marks_in (take (suc pc) marks)) x) code entry (a + 4 * ops_size (take pc ops))
  op_stands [] marks item more code entry a pc x long there h = absurd (cc there)
  op_stands (y ∷ ops) [] item more code entry a pc x long there h = absurd (omega (arith, long))
  op_stands (y ∷ ops) (mark ∷ marks) item more code entry a zero x long there h =
      let e : y ≡ x = cc there in
      let after = item_after mark item in
      let rest = op_items texts branches ops marks after ++ more in
      let first = stands_front (piece_items after y) rest code entry a (subst (λ l. Stands l code entry a) (append_assoc (piece_items after y) (op_items texts branches ops marks after) more) h) in
      let next : after ≡ item + marks_in (take (suc zero) (mark ∷ marks)) = let none : after + marks_in [] ≡ after = omega arith in sym none ∙ items_after mark [] item in
      subst (λ n. Stands (piece_items n x) code entry (a + 4 * 0)) next
      (subst (λ z. Stands (piece_items after z) code entry (a + 4 * 0)) e
      (subst (Stands (piece_items after y) code entry) (let n : a ≡ a + 4 * 0 = omega arith in n) first))
  op_stands (y ∷ ops) (mark ∷ marks) item more code entry a (suc pc) x long there h =
      let after = item_after mark item in
      let n = length (piece_items after y) in
      let size = length-piece after y in
      let tail = stands_after (piece_items after y) (op_items texts branches ops marks after ++ more) code entry a (subst (λ l. Stands l code entry a) (append_assoc (piece_items after y) (op_items texts branches ops marks after) more) h) in
      let rest = op_stands ops marks after more code entry (a + 4 * n) pc x (omega (arith, long)) there tail in
      subst (λ k. Stands (piece_items k x) code entry (a + 4 * ops_size (take (suc pc) (y ∷ ops)))) (items_after mark (take (suc pc) marks) item)
      (subst (Stands (piece_items (after + marks_in (take (suc pc) marks)) x) code entry) (omega (arith, size)) rest)

-- ---- the places of items

-- an operation that is marked has its place among those of items
pub place_of_mark : (ops : List Op) (marks : List Bool) (at pc item : ℕ) → length marks ≡ length ops → slice_index_or marks pc false ≡ true → marks_in (take pc marks) ≡ item
    → slice_get (item_places ops marks at) item ≡ Some (Some (at + ops_size (take pc ops)))
place_of_mark [] [] at pc item long is counted = absurd (cc is)
place_of_mark [] (m ∷ marks) at pc item long is counted = absurd (omega (arith, long))
place_of_mark (x ∷ ops) [] at pc item long is counted = absurd (omega (arith, long))
place_of_mark (x ∷ ops) (true ∷ marks) at zero item long is counted =
    subst (λ k. slice_get (item_places (x ∷ ops) (true ∷ marks) at) k ≡ Some (Some (at + 0))) counted (ap (λ n. Some (Some n)) (omega arith))
place_of_mark (x ∷ ops) (false ∷ marks) at zero item long is counted = absurd (cc is)
place_of_mark (x ∷ ops) (true ∷ marks) at (suc pc) item long is counted =
    subst (λ k. slice_get (item_places (x ∷ ops) (true ∷ marks) at) k ≡ Some (Some (at + ops_size (take (suc pc) (x ∷ ops))))) counted
    (place_of_mark ops marks (at + op_size x) pc (marks_in (take pc marks)) (omega (arith, long)) is refl ∙ ap (λ n. Some (Some n)) (let n = op_size x in omega arith))
place_of_mark (x ∷ ops) (false ∷ marks) at (suc pc) item long is counted =
    place_of_mark ops marks (at + op_size x) pc item (omega (arith, long)) is counted ∙ ap (λ n. Some (Some n)) (let n = op_size x in omega arith)

-- there are as many as there are marks
pub length-item_places : (ops : List Op) (marks : List Bool) (at : ℕ) → length marks ≡ length ops → length (item_places ops marks at) ≡ marks_in marks
length-item_places [] [] at long = refl
length-item_places [] (m ∷ marks) at long = absurd (omega (arith, long))
length-item_places (x ∷ ops) [] at long = absurd (omega (arith, long))
length-item_places (x ∷ ops) (true ∷ marks) at long = ap suc (length-item_places ops marks (at + op_size x) (omega (arith, long)))
length-item_places (x ∷ ops) (false ∷ marks) at long = length-item_places ops marks (at + op_size x) (omega (arith, long))
