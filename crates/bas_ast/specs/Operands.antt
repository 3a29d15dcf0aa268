-- The operands of statements: targets, variables, parts of DIM, and rows of them.
use Rattle.std.specs.Prelude.{ℕ, true, false, List, [], ◌∷◌, ◌++◌}
use Rattle.bas_ast.specs.declared.expressions.Any.{Any}
use Rattle.bas_ast.specs.declared.expressions.NumExpr.{NumExpr}
use Rattle.bas_ast.specs.declared.expressions.StrExpr.{StrExpr}
use Rattle.bas_ast.specs.declared.expressions.Variable.{Variable}
use Rattle.bas_ast.specs.declared.expressions.Width.{Width}
use Rattle.bas_ast.specs.declared.keywords.Keyword.TheVariants as word
use Rattle.bas_ast.specs.declared.lines.Formal.{Formal}
use Rattle.bas_ast.specs.declared.statements.DimPart.{DimPart}
use Rattle.bas_ast.specs.declared.statements.DimPart.TheVariants as dim
use Rattle.bas_ast.specs.declared.targets.NumTarget.{NumTarget}
use Rattle.bas_ast.specs.declared.targets.NumTarget.TheVariants as num_target
use Rattle.bas_ast.specs.declared.targets.SimpleVariable.{SimpleVariable}
use Rattle.bas_ast.specs.declared.targets.SimpleVariable.TheVariants as simple
use Rattle.bas_ast.specs.declared.targets.StrTarget.{StrTarget}
use Rattle.bas_ast.specs.declared.targets.StrTarget.TheVariants as str_target
use Rattle.bas_ast.specs.declared.targets.Target.{Target}
use Rattle.bas_ast.specs.declared.targets.Target.TheVariants as target
use Rattle.bas_ast.specs.declared.terminals.Terminal.{Terminal}
use Rattle.bas_ast.specs.declared.terminals.Terminal.TheVariants as t
use Rattle.bas_ast.specs.Expressions.{IsNum, IsStr, IsVar, IsStrVar, IsSubscripts, IsAny}

-- Where a number is stored.
pub data IsNumTarget : List Terminal → NumTarget → Type 0 where
  to_variable : (a : List Terminal) (v : Variable) → IsVar a v → IsNumTarget a (num_target.Variable v)
  to_memory : (w : Width) (a : List Terminal) (x : NumExpr) → IsNum 6 a x → IsNumTarget (t.Indirection w ∷ a) (num_target.Indirect w x)
  to_memory_sum : (a b : List Terminal) (v : Variable) (w : Width) (x : NumExpr) → IsVar a v → IsNum 7 b x
      → IsNumTarget (a ++ t.Indirection w ∷ b) (num_target.IndirectSum w v x)

-- Where a string is stored.
pub data IsStrTarget : List Terminal → StrTarget → Type 0 where
  text_to_variable : (a : List Terminal) (v : Variable) → IsStrVar a v → IsStrTarget a (str_target.Variable v)
  text_to_memory : (a : List Terminal) (x : NumExpr) → IsNum 6 a x → IsStrTarget (t.Dollar ∷ a) (str_target.Indirect x)

-- Where a value of either kind is stored.
pub data IsTarget : List Terminal → Target → Type 0 where
  number_target : (a : List Terminal) (v : NumTarget) → IsNumTarget a v → IsTarget a (target.Number v)
  text_target : (a : List Terminal) (v : StrTarget) → IsStrTarget a v → IsTarget a (target.Text v)

-- A variable that is no array's element.
pub data IsSimple : List Terminal → SimpleVariable → Type 0 where
  simple_number : (n : ℕ) → IsSimple (t.IntName n ∷ []) (simple.Number n)
  simple_text : (n : ℕ) → IsSimple (t.StrName n ∷ []) (simple.Text n)

-- A formal parameter.
pub data IsFormal : List Terminal → Formal → Type 0 where
  by_value : (a : List Terminal) (v : SimpleVariable) → IsSimple a v → IsFormal a (record { returns = false; variable = v })
  by_return : (a : List Terminal) (v : SimpleVariable) → IsSimple a v
      → IsFormal (t.Keyword word.Return ∷ a) (record { returns = true; variable = v })

-- Formal parameters, with the bracket that closes them.
pub data IsFormals : List Terminal → List Formal → Type 0 where
  last_formal : (a : List Terminal) (f : Formal) → IsFormal a f → IsFormals (a ++ t.Close ∷ []) (f ∷ [])
  more_formals : (a b : List Terminal) (f : Formal) (fs : List Formal) → IsFormal a f → IsFormals b fs
      → IsFormals (a ++ t.Comma ∷ b) (f ∷ fs)

-- A part of DIM.
pub data IsDimPart : List Terminal → DimPart → Type 0 where
  dim_bytes : (n : ℕ) (a : List Terminal) (x : NumExpr) → IsNum 1 a x → IsDimPart (t.IntName n ∷ a) (dim.Bytes n x)
  dim_numbers : (n : ℕ) (a : List Terminal) (xs : List NumExpr) → IsSubscripts a xs → IsDimPart (t.IntArray n ∷ a) (dim.Numbers n xs)
  dim_texts : (n : ℕ) (a : List Terminal) (xs : List NumExpr) → IsSubscripts a xs → IsDimPart (t.StrArray n ∷ a) (dim.Texts n xs)

-- A variable of FOR and NEXT.
pub data IsIntName : List Terminal → ℕ → Type 0 where
  int_name : (n : ℕ) → IsIntName (t.IntName n ∷ []) n

-- A reference to a line.
pub data IsLineRef : List Terminal → ℕ → Type 0 where
  line_ref : (n : ℕ) → IsLineRef (t.LineRef n ∷ []) n

-- What an operand may be.
pub data Slot : Type 0 where
  ANumber : Slot
  AText : Slot
  AnExpression : Slot
  ATarget : Slot
  AVariable : Slot
  AnIntName : Slot
  ADimPart : Slot
  ALine : Slot

-- the tree of an operand
abbrev pub ValueOf : Slot → Type 0
ValueOf ANumber = NumExpr
ValueOf AText = StrExpr
ValueOf AnExpression = Any
ValueOf ATarget = Target
ValueOf AVariable = SimpleVariable
ValueOf AnIntName = ℕ
ValueOf ADimPart = DimPart
ValueOf ALine = ℕ

abbrev pub IsOperand : (s : Slot) → List Terminal → ValueOf s → Type 0
IsOperand ANumber = IsNum 1
IsOperand AText = IsStr 4
IsOperand AnExpression = IsAny
IsOperand ATarget = IsTarget
IsOperand AVariable = IsSimple
IsOperand AnIntName = IsIntName
IsOperand ADimPart = IsDimPart
IsOperand ALine = IsLineRef

-- the trees of fixed operands
abbrev pub Values : List Slot → Type 0
Values [] = Unit {0}
Values (s ∷ ss) = ValueOf s × Values ss

-- Fixed operands, with commas between.
pub data IsOperands : (ss : List Slot) → List Terminal → Values ss → Type 0 where
  no_operand : IsOperands [] [] tt
  last_operand : (s : Slot) (a : List Terminal) (v : ValueOf s) → IsOperand s a v → IsOperands (s ∷ []) a (v, tt)
  more_operands : (s s' : Slot) (ss : List Slot) (a b : List Terminal) (v : ValueOf s) (vs : Values (s' ∷ ss)) → IsOperand s a v
      → IsOperands (s' ∷ ss) b vs → IsOperands (s ∷ s' ∷ ss) (a ++ t.Comma ∷ b) (v, vs)

-- One operand or more of one kind, with commas between.
pub data IsList (s : Slot) : List Terminal → List (ValueOf s) → Type 0 where
  last_of_list : (a : List Terminal) (v : ValueOf s) → IsOperand s a v → IsList s a (v ∷ [])
  more_of_list : (a b : List Terminal) (v : ValueOf s) (vs : List (ValueOf s)) → IsOperand s a v → IsList s b vs
      → IsList s (a ++ t.Comma ∷ b) (v ∷ vs)
