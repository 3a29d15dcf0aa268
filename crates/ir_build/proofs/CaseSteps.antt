-- How the search of a CASE for its WHENs goes on, item by item and line by line.
use Rattle.std.proofs.Common.{◌≡◌, ℕ, zero, suc, ◌+◌, ◌<◌, List, ◌∷◌, ◌++◌, Option, Some, length, get_or, drop, refl, sym, ap, ◌∙◌, arith}
use Rattle.bas_ast.specs.declared.lines.Item.{Item}
use Rattle.bas_ast.specs.declared.program.Prog.{Prog}
use Rattle.bas_ast.specs.declared.program.ProgLine.{ProgLine}
use Rattle.bas_ast.specs.Structures.{case_family, bound}
use Rattle.bas_ir.specs.declared.op.Op.{Op}
use Rattle.bas_sem.specs.Places.{Row, depth_after}
use Rattle.ir_build.specs.Branches.{branches_left}
use Rattle.ir_build.specs.Tables.{rows_of, rows_among}
use Rattle.ir_build.proofs.TableSteps.{left_from}

module _ (prog : Prog) where
  -- an item within another CASE
  pub inner_scanned : (depth line : ℕ) (x : Item) (rest : List Row) (place : ℕ) → 0 < depth
      → branches_left prog (Some (depth_after case_family (bound x) depth)) rest (place + 1) ≡ branches_left prog (Some depth) (record { line = line; item = x } ∷ rest) place
  inner_scanned zero line x rest place within = absurd (omega (arith, within))
  inner_scanned (suc depth) line x rest place within = refl

  -- one item of a line more
  pub item_scanned : (line first place i : ℕ) (items : List Item) (x : Item) (left : ℕ) (after : Option ℕ) (ops ops' whole : List Op) (rest : List Row) → i < length items → x ≡ get_or items i x
      → place ≡ first + i
      → ((more : List Row) → ops' ++ branches_left prog after more (place + 1) ≡ ops ++ branches_left prog (Some left) (record { line = line; item = x } ∷ more) place)
      → ops ++ branches_left prog (Some left) (rows_of line (drop i items) ++ rest) (first + i) ≡ whole
      → ops' ++ branches_left prog after (rows_of line (drop (i + 1) items) ++ rest) (first + (i + 1)) ≡ whole
  item_scanned line first place i items x left after ops ops' whole rest within is at scanned so_far =
      let more : List Row = rows_of line (drop (i + 1) items) ++ rest in
      ap (λ n. ops' ++ branches_left prog after more n) (omega (arith, at)) ∙ scanned more
      ∙ ap (λ n. ops ++ branches_left prog (Some left) (record { line = line; item = x } ∷ more) n) at
      ∙ ap (λ l. ops ++ branches_left prog (Some left) (rows_of line l ++ rest) (first + i)) (sym (left_from items i x within is)) ∙ so_far

  -- one line more
  pub line_scanned : (place place' i : ℕ) (lines : List ProgLine) (line : ProgLine) (items : List Item) (left : ℕ) (after : Option ℕ) (ops ops' whole : List Op) → i < length lines
      → line ≡ get_or lines i line → items ≡ line.items → place' ≡ place + length items
      → ((rest : List Row) → ops' ++ branches_left prog after rest (place + length items) ≡ ops ++ branches_left prog (Some left) (rows_of line.number items ++ rest) place)
      → whole ≡ ops ++ branches_left prog (Some left) (rows_among (drop i lines)) place
      → whole ≡ ops' ++ branches_left prog after (rows_among (drop (i + 1) lines)) place'
  line_scanned place place' i lines line items left after ops ops' whole within is own at scanned so_far =
      let more : List Row = rows_among (drop (i + 1) lines) in
      so_far ∙ ap (λ l. ops ++ branches_left prog (Some left) (rows_among l) place) (left_from lines i line within is)
      ∙ ap (λ l. ops ++ branches_left prog (Some left) (rows_of line.number l ++ more) place) (sym own)
      ∙ sym (scanned more) ∙ ap (λ n. ops' ++ branches_left prog after more n) (sym at)
