-- The code of simple items is short and plain.
use Rattle.std.proofs.Common.{◌≡◌, ℕ, ◌+◌, ◌≤◌, List, [], ◌∷◌, ◌++◌, Option, None, Some, refl, sym, subst, ◌∙◌, length, arith, length-append}
use Rattle.std.specs.Prelude.{Bool, true, false, ◌&&◌, IsTrue}
use Rattle.std.specs.List.{list_all}
use Rattle.std.proofs.lemmas.List.Folds.{list_all-append}
use Rattle.bas_ast.specs.declared.expressions.BinaryOp.{BinaryOp}
use Rattle.bas_ast.specs.declared.expressions.NumExpr.{NumExpr, more_of-NumExpr as held}
use Rattle.bas_ast.specs.declared.expressions.NumExpr.TheVariants as num
use Rattle.bas_ast.specs.declared.expressions.UnaryOp.TheVariants as unary
use Rattle.bas_ast.specs.declared.expressions.Variable.TheVariants as var
use Rattle.bas_ast.specs.declared.lines.Item.{Item}
use Rattle.bas_ast.specs.declared.lines.Item.TheVariants as item
use Rattle.bas_ast.specs.declared.program.Prog.{Prog}
use Rattle.bas_ast.specs.declared.statements.Assignment.TheVariants as assigns
use Rattle.bas_ast.specs.declared.statements.Flow.TheVariants as flow
use Rattle.bas_ast.specs.declared.statements.Output.TheVariants as writes
use Rattle.bas_ast.specs.declared.statements.Stmt.{Stmt}
use Rattle.bas_ast.specs.declared.statements.Stmt.TheVariants as stmt
use Rattle.bas_ast.specs.declared.statements.VduPart.TheVariants as sends
use Rattle.bas_ast.specs.declared.targets.NumTarget.TheVariants as target
use Rattle.bas_ir.specs.declared.op.Op.{Op}
use Rattle.bas_ir.specs.declared.op.Op.TheVariants as o
use Rattle.bas_ir.specs.declared.op.Piece.TheVariants as pieces
use Rattle.bas_sem.specs.Places.{line_place, else_place}
use Rattle.bas_store.specs.Cells.{Cell, Resident, Integer, integer_cell}
use Rattle.ir_build.specs.Code.{read_op, store_op, expr_code, vdu_code, go_op, statement_code, item_code, or_jump, row_code}
use Rattle.ir_build.specs.Fused.{fused_with, fused}
use Rattle.ir_build.proofs.Fusing as f
use Rattle.ir_build.proofs.Fusing.{Fuses, fuses}
use Rattle.ir_build.specs.Weight.{is_plain, is_plain_operator, where_true, and_one, and_both, plain_weight, goto_weight, statement_weight, item_weight, SimpleItemsLight}

-- the operations are plain
abbrev ArePlain : List Op → Type 0
ArePlain code = IsTrue (list_all is_plain code)

-- the code has at most as many operations as this, and they are plain, if this is a weight
abbrev Light : Option ℕ → List Op → Type 0
Light None code = Unit {0}
Light (Some n) code = (length code ≤ n) × ArePlain code

plain_append : (xs ys : List Op) → ArePlain xs → ArePlain ys → ArePlain (xs ++ ys)
plain_append xs ys a b = list_all-append is_plain xs ys ∙ (λ i. a i && b i)

plain_one : (op : Op) → IsTrue (is_plain op) → ArePlain (op ∷ [])
plain_one op plain = λ i. plain i && true

one_light : (w : Option ℕ) (code : List Op) (op : Op) → Light w code → IsTrue (is_plain op) → Light (and_one w) (code ++ op ∷ [])
one_light None code op light plain = tt
one_light (Some n) code op light plain = (omega (arith, light.0, length-append code (op ∷ [])), plain_append code (op ∷ []) light.1 (plain_one op plain))

more_light : (w : Option ℕ) (code : List Op) → Light w code → Light (and_one w) (code ++ [])
more_light None code light = tt
more_light (Some n) code light = (omega (arith, light.0, length-append {A = Op} code []), plain_append code [] light.1 refl)

both_light : (v w : Option ℕ) (a b : List Op) (op : Op) → Light v a → Light w b → IsTrue (is_plain op) → Light (and_both v w) (a ++ (b ++ op ∷ []))
both_light None w a b op la lb plain = tt
both_light (Some m) None a b op la lb plain = tt
both_light (Some m) (Some n) a b op la lb plain = (
  omega (arith, la.0, lb.0, length-append a (b ++ op ∷ []), length-append b (op ∷ [])),
  plain_append a (b ++ op ∷ []) la.1 (plain_append b (op ∷ []) lb.1 (plain_one op plain)),
)

binary_light : (plain : Bool) (op : BinaryOp) (line : ℕ) (v w : Option ℕ) (a b : List Op) → plain ≡ is_plain_operator op → Light v a → Light w b
    → Light (where_true plain (and_both v w)) (a ++ (b ++ o.Binary op line ∷ []))
binary_light true op line v w a b is la lb = both_light v w a b (o.Binary op line) la lb (sym is)
binary_light false op line v w a b is la lb = tt

fuse_short : (old new : List Op) → Fuses old new → length new ≤ length old
fuse_short old new (f.same ops) = omega arith
fuse_short old new (f.constant value op line rest) = omega arith
fuse_short old new (f.resident index op line rest) = omega arith
fuse_short old new (f.change index op line number rest) = omega arith
fuse_short old new (f.comparison relation line item rest) = omega arith
fuse_short old new (f.compared value relation item rest) = omega arith

fused_short : (ops : List Op) → length (fused ops) ≤ length ops
fused_short [] = omega arith
fused_short (op ∷ ops) = omega (arith, fuse_short (op ∷ fused ops) (fused_with op (fused ops)) (fuses op (fused ops)), fused_short ops)

fuse_plain : (old new : List Op) → Fuses old new → ArePlain old → ArePlain new
fuse_plain old new (f.same ops) plain = plain
fuse_plain old new (f.constant value op line rest) plain = plain
fuse_plain old new (f.resident index op line rest) plain = plain
fuse_plain old new (f.change index op line number rest) plain = plain
fuse_plain old new (f.comparison relation line item rest) plain = plain
fuse_plain old new (f.compared value relation item rest) plain = plain

and_more : (b x y : Bool) → IsTrue (b && x) → (IsTrue x → IsTrue y) → IsTrue (b && y)
and_more true x y both more = more both
and_more false x y both more = both

fused_plain : (ops : List Op) → ArePlain ops → ArePlain (fused ops)
fused_plain [] plain = plain
fused_plain (op ∷ ops) plain =
    fuse_plain (op ∷ fused ops) (fused_with op (fused ops)) (fuses op (fused ops))
    (and_more (is_plain op) (list_all is_plain ops) (list_all is_plain (fused ops)) plain (fused_plain ops))

module _ (prog : Prog) (line : ℕ) where
  read_light : (cell : Cell) → Light (Some 1) (read_op line cell ∷ [])
  read_light (Resident index) = (omega arith, refl)
  read_light (Integer name) = (omega arith, refl)

  expr_light : (x : NumExpr) → Light (plain_weight x) (expr_code prog line x)
  unfolding expr_code plain_weight
  expr_light (num.Number value) = (omega arith, refl)
  expr_light num.True = (omega arith, refl)
  expr_light num.False = (omega arith, refl)
  expr_light (num.Variable (var.Simple name)) = read_light (integer_cell prog.names name)
  expr_light (num.Bracket' _ (held x _)) = expr_light x
  expr_light (num.Unary' unary.Plus _ (held x _)) = more_light (plain_weight x) (expr_code prog line x) (expr_light x)
  expr_light (num.Unary' unary.Minus _ (held x _)) = one_light (plain_weight x) (expr_code prog line x) (o.Unary unary.Minus line) (expr_light x) refl
  expr_light (num.Unary' unary.Not _ (held x _)) = one_light (plain_weight x) (expr_code prog line x) (o.Unary unary.Not line) (expr_light x) refl
  expr_light (num.Unary' unary.Abs _ (held x _)) = tt
  expr_light (num.Unary' unary.Sgn _ (held x _)) = tt
  expr_light (num.Unary' unary.Int _ (held x _)) = tt
  expr_light (num.Binary' op _ (held x _) _ (held y _)) =
      binary_light (is_plain_operator op) op line (plain_weight x) (plain_weight y) (expr_code prog line x) (expr_code prog line y) refl (expr_light x) (expr_light y)
  expr_light _ = tt

  -- with one operation more
  abbrev LightItem : Option ℕ → List Op → Type 0
  LightItem None code = Unit {0}
  LightItem (Some n) code = (length code ≤ n + 1) × ArePlain code

  ends_light : (w : Option ℕ) (code : List Op) (op : Op) → Light w code → IsTrue (is_plain op) → LightItem w (code ++ op ∷ [])
  ends_light None code op light plain = tt
  ends_light (Some n) code op light plain = (omega (arith, light.0, length-append code (op ∷ [])), plain_append code (op ∷ []) light.1 (plain_one op plain))

  stored_light : (w : Option ℕ) (code : List Op) (cell : Cell) → Light w code → LightItem (and_one w) (code ++ store_op cell ∷ [])
  stored_light None code cell light = tt
  stored_light (Some n) code (Resident index) light =
      (omega (arith, light.0, length-append code (o.StoreResident index ∷ [])), plain_append code (o.StoreResident index ∷ []) light.1 refl)
  stored_light (Some n) code (Integer name) light =
      (omega (arith, light.0, length-append code (o.StoreInteger name ∷ [])), plain_append code (o.StoreInteger name ∷ []) light.1 refl)

  goto_light : (to : Option ℕ) → LightItem (goto_weight to) (go_op to line ∷ [])
  goto_light None = tt
  goto_light (Some place) = (omega arith, refl)

  vdu_light : (x : NumExpr) → LightItem (plain_weight x) (vdu_code prog line (sends.Byte x ∷ []))
  unfolding vdu_code
  vdu_light x = ends_light (plain_weight x) (expr_code prog line x) (o.Write pieces.Byte) (expr_light x) refl

  statement_light : (place : ℕ) (s : Stmt) → LightItem (statement_weight prog s) (statement_code prog place line s)
  statement_light place (stmt.Assign (assigns.Number (target.Variable (var.Simple name)) x)) =
      stored_light (plain_weight x) (expr_code prog line x) (integer_cell prog.names name) (expr_light x)
  statement_light place (stmt.Flow (flow.Goto number)) = goto_light (line_place prog number)
  statement_light place (stmt.Flow flow.End) = (omega arith, refl)
  statement_light place (stmt.Output (writes.Vdu (sends.Byte x ∷ []))) = vdu_light x
  statement_light place _ = tt

  jump_light : (place : ℕ) (w : Option ℕ) (code : List Op) → LightItem w code → LightItem w (or_jump (place + 1) code)
  jump_light place None code light = tt
  jump_light place (Some n) [] light = (omega arith, refl)
  jump_light place (Some n) (op ∷ ops) light = light

  -- fused operations are no more, and plain where the others are
  fused_light : (w : Option ℕ) (ops : List Op) → LightItem w ops → LightItem w (fused ops)
  fused_light None ops light = tt
  fused_light (Some n) ops light = (omega (arith, light.0, fused_short ops), fused_plain ops light.1)

  item_light : (place : ℕ) (i : Item) → LightItem (item_weight prog i) (or_jump (place + 1) (item_code prog place line i))
  item_light place (item.Stmt s) = jump_light place (statement_weight prog s) (statement_code prog place line s) (statement_light place s)
  item_light place (item.If x) =
      jump_light place (plain_weight x) (expr_code prog line x ++ o.GoIfZero (else_place prog place) ∷ [])
      (ends_light (plain_weight x) (expr_code prog line x) (o.GoIfZero (else_place prog place)) (expr_light x) refl)
  item_light place item.Else = (omega arith, refl)
  item_light place (item.Data n) = (omega arith, refl)
  item_light place item.Remark = (omega arith, refl)
  item_light place _ = tt

pub simple_items_light : (prog : Prog) → SimpleItemsLight prog
simple_items_light prog place line i weight is = subst (λ w. LightItem prog line w (row_code prog place (record { line = line; item = i }))) is
    (fused_light prog line (item_weight prog i) (or_jump (place + 1) (item_code prog place line i)) (item_light prog line place i))
