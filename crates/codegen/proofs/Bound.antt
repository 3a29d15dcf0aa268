-- How many words an image has.
use Rattle.std.proofs.Common.{◌≡◌, ℕ, ◌+◌, ◌*◌, ◌≤◌, List, [], ◌∷◌, ◌++◌, length, flat_map, ap, ◌∙◌, arith}
use Rattle.std.specs.List.{sum_by}
use Rattle.std.proofs.lemmas.Grind.{flat_map-append}
use Rattle.std.proofs.lemmas.List.{length-append}
use Rattle.std.proofs.lemmas.List.Sums.{sum-map, sum_by-cons}
use Rattle.bas_ir.specs.declared.ir.Ir.{Ir}
use Rattle.bas_ir.specs.declared.op.Op.{Op}
use Rattle.bas_ir.specs.Places.{marks_in}
use Rattle.bas_ir.specs.WellFormed.{most_code, code_bytes}
use Rattle.runtime_lib.specs.Data.{end_mark}
use Rattle.runtime_lib.specs.Entries.{error_table}
use Rattle.runtime_lib.proofs.LibraryLaws.{library-few}
use Rattle.codegen.specs.Program.{program, all_texts, data_bytes, packed, text_bytes, ops_size, most_beside}
use Rattle.codegen.proofs.Image.{length-program, whole-size}
use Rattle.codegen.proofs.OpFacts.{op-size}

-- the operations
ops-bound : (ops : List Op) → 4 * ops_size ops ≤ sum_by most_code ops
ops-bound [] = omega arith
ops-bound (x ∷ ops) =
    let one = (op-size x).1 in
    let rest = ops-bound ops in
    omega (arith, sum_by-cons most_code x ops, one, rest)

-- texts
packed-bound : (bytes : List ℕ) → 4 * length (packed bytes) ≤ length bytes + 3
packed-bound [] = omega arith
packed-bound (a ∷ []) = omega arith
packed-bound (a ∷ b ∷ []) = omega arith
packed-bound (a ∷ b ∷ c ∷ []) = omega arith
packed-bound (a ∷ b ∷ c ∷ d ∷ bytes) = let rest = packed-bound bytes in omega (arith, rest)

texts-bound : (texts : List (List ℕ)) → length (flat_map text_bytes texts) ≤ sum_by (λ (t : List ℕ). 8 + length t) texts
texts-bound [] = omega arith
texts-bound (text ∷ texts) =
    let all = length-append (text_bytes text) (flat_map text_bytes texts) in
    let rest = texts-bound texts in
    omega (arith, sum_by-cons (λ (t : List ℕ). 8 + length t) text texts, all, rest)

-- the texts of errors
errors-bound : length error_table ≤ 1024
errors-bound = omega arith

-- a flat code with a mark for each operation and for each item one that is set
pub program-bound : (ir : Ir) → length ir.marks ≡ length ir.ops → marks_in ir.marks ≡ length ir.starts → 4 * length (program ir).items ≤ code_bytes ir + most_beside
program-bound ir long marked =
    let all = length-program ir long in
    let whole = whole-size ir.ops in
    let ops = ops-bound ir.ops in
    let words = packed-bound (data_bytes ir) in
    let texts = texts-bound ir.texts in
    let items = texts-bound ir.data_items in
    let bytes = length-append (error_table ++ flat_map text_bytes (all_texts ir)) (end_mark ∷ []) in
    let first = length-append error_table (flat_map text_bytes (all_texts ir)) in
    let both = ap length (flat_map-append text_bytes ir.texts ir.data_items) ∙ length-append (flat_map text_bytes ir.texts) (flat_map text_bytes ir.data_items) in
    let costs = sum-map most_code ir.ops in
    let spelled = sum-map (λ (t : List ℕ). 8 + length t) ir.texts in
    let listed = sum-map (λ (t : List ℕ). 8 + length t) ir.data_items in
    omega (arith, all, whole, ops, words, texts, items, bytes, first, both, costs, spelled, listed, marked, errors-bound, library-few)
