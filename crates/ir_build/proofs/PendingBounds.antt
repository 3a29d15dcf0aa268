-- How many values are pending before operations.
use Rattle.std.proofs.Common.{◌≡◌, ℕ, zero, suc, ◌+◌, ◌≤◌, List, [], ◌∷◌, ◌++◌, Option, None, Some, refl, sym, ap, subst, ◌∙◌, arith}
use Rattle.std.specs.Prelude.{slice_index_or}
use Rattle.bas_ast.specs.declared.expressions.Any.{Any}
use Rattle.bas_ast.specs.declared.expressions.Any.TheVariants as any
use Rattle.bas_ast.specs.declared.expressions.NumExpr.{NumExpr, more_of-NumExpr as held}
use Rattle.bas_ast.specs.declared.expressions.NumExpr.TheVariants as num
use Rattle.bas_ast.specs.declared.expressions.UnaryOp.{UnaryOp}
use Rattle.bas_ast.specs.declared.expressions.UnaryOp.TheVariants as unary
use Rattle.bas_ast.specs.declared.expressions.Variable.TheVariants as var
use Rattle.bas_ast.specs.declared.program.Prog.{Prog}
use Rattle.bas_ir.specs.declared.ir.Height.{Height}
use Rattle.bas_ir.specs.declared.op.Op.{Op}
use Rattle.bas_ir.specs.declared.op.Op.TheVariants as o
use Rattle.bas_ir.specs.Heights.{empty_height, without_number, one_less, without_text, and_then, one_more, height_after}
use Rattle.bas_store.specs.Cells.{Cell, Resident, Integer, integer_cell}
use Rattle.ir_build.specs.Code.{unary_code, read_op, expr_code, values_code, heights_of}
use Rattle.ir_build.proofs.Fits.{push_of, pushes}

abbrev pub total : Height → ℕ
total h = h.numbers + h.texts

-- at most so much is pending, if anything is known
abbrev pub UpTo : ℕ → Option Height → Type 0
UpTo most None = Unit {0}
UpTo most (Some h) = total h ≤ most

less_up_to : (numbers texts : ℕ) → UpTo (numbers + texts + 0) (without_number numbers texts)
less_up_to zero texts = tt
less_up_to (suc numbers) texts = omega arith

text_less_up_to : (numbers texts : ℕ) → UpTo (numbers + texts + 0) (without_text numbers texts)
text_less_up_to numbers zero = tt
text_less_up_to numbers (suc texts) = omega arith

one_up_to : (numbers texts : ℕ) → UpTo (numbers + texts + 0) (and_then (without_number numbers texts) (λ less. Some (one_more less)))
one_up_to zero texts = tt
one_up_to (suc numbers) texts = omega arith

two_less_up_to : (numbers texts : ℕ) → UpTo (numbers + texts + 0) (and_then (without_number numbers texts) one_less)
two_less_up_to zero texts = tt
two_less_up_to (suc zero) texts = tt
two_less_up_to (suc (suc numbers)) texts = omega arith

two_up_to : (numbers texts : ℕ) → UpTo (numbers + texts + 0) (and_then (and_then (without_number numbers texts) one_less) (λ less. Some (one_more less)))
two_up_to zero texts = tt
two_up_to (suc zero) texts = tt
two_up_to (suc (suc numbers)) texts = omega arith

step_up_to : (op : Op) (numbers texts : ℕ) → UpTo (numbers + texts + push_of op) (height_after [] op (record { numbers = numbers; texts = texts }))
step_up_to (o.Push value) numbers texts = omega arith
step_up_to o.PushColumn numbers texts = omega arith
step_up_to (o.PushResident index) numbers texts = omega arith
step_up_to (o.PushInteger name line) numbers texts = omega arith
step_up_to (o.PushText number) numbers texts = omega arith
step_up_to (o.Unary op line) numbers texts = one_up_to numbers texts
step_up_to (o.Binary op line) numbers texts = two_up_to numbers texts
step_up_to (o.BinaryWith op line number) numbers texts = one_up_to numbers texts
step_up_to (o.BinaryWithResident op resident line) numbers texts = one_up_to numbers texts
step_up_to (o.StoreResident index) numbers texts = less_up_to numbers texts
step_up_to (o.StoreInteger name) numbers texts = less_up_to numbers texts
step_up_to (o.WriteNumber padded format) numbers texts = less_up_to numbers texts
step_up_to o.WriteText numbers texts = text_less_up_to numbers texts
step_up_to (o.Write part) numbers texts = less_up_to numbers texts
step_up_to (o.GoIfZero item) numbers texts = less_up_to numbers texts
step_up_to (o.GoUnless relation item) numbers texts = two_less_up_to numbers texts
step_up_to (o.GoUnlessWith relation item number) numbers texts = less_up_to numbers texts
step_up_to o.Discard numbers texts = less_up_to numbers texts
step_up_to (o.GoIfOne item) numbers texts = one_up_to numbers texts
step_up_to (o.GosubIfOne line item) numbers texts = one_up_to numbers texts
step_up_to (o.RaiseIfOne error line) numbers texts = one_up_to numbers texts
step_up_to (o.GoIfEqual item) numbers texts = two_up_to numbers texts
step_up_to (o.OpenFor counter line) numbers texts = two_less_up_to numbers texts
step_up_to (o.Until line) numbers texts = less_up_to numbers texts
step_up_to (o.ReadNumber line) numbers texts = omega arith
step_up_to o.LeaveNumber numbers texts = less_up_to numbers texts
step_up_to o.LeaveText numbers texts = text_less_up_to numbers texts
step_up_to _ numbers texts = omega arith

abbrev pub AllUpTo : ℕ → List Height → Type 0
AllUpTo most [] = Unit {0}
AllUpTo most (h ∷ hs) = (total h ≤ most) × AllUpTo most hs

pub append_up_to : (most : ℕ) (xs ys : List Height) → AllUpTo most xs → AllUpTo most ys → AllUpTo most (xs ++ ys)
append_up_to most [] ys a b = b
append_up_to most (x ∷ xs) ys a b = (a.0, append_up_to most xs ys a.1 b)

pub heights_up_to : (c : List Op) (h : Option Height) (n most : ℕ) → UpTo n h → n + pushes c ≤ most → AllUpTo most (heights_of h c)
heights_up_to [] h n most up_to low = tt
heights_up_to (op ∷ c) None n most up_to low = (omega arith, heights_up_to c None n most tt (omega (arith, low)))
heights_up_to (op ∷ c) (Some h) n most up_to low =
    (omega (arith, up_to, low), heights_up_to c (height_after [] op h) (h.numbers + h.texts + push_of op) most (step_up_to op h.numbers h.texts) (omega (arith, up_to, low)))

pub up_to_at : (most : ℕ) (hs : List Height) (pc : ℕ) → AllUpTo most hs → total (slice_index_or hs pc empty_height) ≤ most
up_to_at most [] pc all = omega arith
up_to_at most (h ∷ hs) zero all = all.0
up_to_at most (h ∷ hs) (suc k) all = up_to_at most hs k all.1

-- ---- pieces

-- what is known after operations
abbrev pub height_past : Option Height → List Op → Option Height
height_past h [] = h
height_past None (op ∷ ops) = None
height_past (Some h) (op ∷ ops) = height_past (height_after [] op h) ops

past_none : (ops : List Op) → height_past None ops ≡ None
past_none [] = refl
past_none (op ∷ ops) = refl

past_append : (xs ys : List Op) (h : Option Height) → height_past h (xs ++ ys) ≡ height_past (height_past h xs) ys
past_append [] ys h = refl
past_append (x ∷ xs) ys None = sym (past_none ys)
past_append (x ∷ xs) ys (Some h) = past_append xs ys (height_after [] x h)

-- a piece, and what comes after it
pub pieces_up_to : (most : ℕ) (xs ys : List Op) (h after : Option Height) → AllUpTo most (heights_of h xs) → height_past h xs ≡ after → AllUpTo most (heights_of after ys)
    → AllUpTo most (heights_of h (xs ++ ys))
pieces_up_to most [] ys h after first is second = subst (λ k. AllUpTo most (heights_of k ys)) (sym is) second
pieces_up_to most (x ∷ xs) ys None after first is second = (first.0, pieces_up_to most xs ys None after first.1 (past_none xs ∙ is) second)
pieces_up_to most (x ∷ xs) ys (Some h) after first is second = (first.0, pieces_up_to most xs ys (height_after [] x h) after first.1 is second)

module _ (prog : Prog) (line : ℕ) where
  read_past : (cell : Cell) (h : Height) → height_past (Some h) (read_op line cell ∷ []) ≡ Some (one_more h)
  read_past (Resident index) h = refl
  read_past (Integer name) h = refl

  unary_past : (op : UnaryOp) (h : Height) → height_past (Some (one_more h)) (unary_code line op) ≡ Some (one_more h)
  unary_past unary.Plus h = refl
  unary_past unary.Minus h = refl
  unary_past unary.Not h = refl
  unary_past unary.Abs h = refl
  unary_past unary.Sgn h = refl
  unary_past unary.Int h = refl

  -- an expression leaves one number more
  pub expr_past : (x : NumExpr) (h : Height) → height_past (Some h) (expr_code prog line x) ≡ Some (one_more h)
  unfolding expr_code
  expr_past (num.Number value) h = refl
  expr_past num.True h = refl
  expr_past num.False h = refl
  expr_past num.Count h = refl
  expr_past (num.Variable (var.Simple name)) h = read_past (integer_cell prog.names name) h
  expr_past (num.Bracket' _ (held x _)) h = expr_past x h
  expr_past (num.Unary' op _ (held x _)) h =
      past_append (expr_code prog line x) (unary_code line op) (Some h) ∙ ap (λ k. height_past k (unary_code line op)) (expr_past x h) ∙ unary_past op h
  expr_past (num.Binary' op _ (held x _) _ (held y _)) h =
      past_append (expr_code prog line x) (expr_code prog line y ++ o.Binary op line ∷ []) (Some h)
      ∙ ap (λ k. height_past k (expr_code prog line y ++ o.Binary op line ∷ [])) (expr_past x h)
      ∙ past_append (expr_code prog line y) (o.Binary op line ∷ []) (Some (one_more h))
      ∙ ap (λ k. height_past k (o.Binary op line ∷ [])) (expr_past y (one_more h))
  expr_past _ h = refl

  -- the values of a WHEN leave what was pending
  pub values_past : (after : ℕ) (values : List Any) (h : Height) → height_past (Some (one_more h)) (values_code prog line after values) ≡ Some (one_more h)
  values_past after [] h = refl
  values_past after (any.Number x ∷ values) h =
      past_append (expr_code prog line x) (o.GoIfEqual after ∷ values_code prog line after values) (Some (one_more h))
      ∙ ap (λ k. height_past k (o.GoIfEqual after ∷ values_code prog line after values)) (expr_past x (one_more h)) ∙ values_past after values h
  values_past after (any.Text x ∷ values) h = refl
