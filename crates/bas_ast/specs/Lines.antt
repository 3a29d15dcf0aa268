-- The grammar of lines: how items follow one another, and what begins a line.
use Rattle.std.specs.Prelude.{◌≡◌, ◌≢◌, ℕ, Bool, true, false, ◌&&◌, List, [], ◌∷◌, ◌++◌, All}
use Rattle.bas_ast.specs.declared.expressions.Any.{Any}
use Rattle.bas_ast.specs.declared.expressions.BinaryOp.TheVariants as op
use Rattle.bas_ast.specs.declared.expressions.Comparison.TheVariants as comparison
use Rattle.bas_ast.specs.declared.expressions.NumExpr.{NumExpr}
use Rattle.bas_ast.specs.declared.keywords.Keyword.TheVariants as word
use Rattle.bas_ast.specs.declared.lines.Formal.{Formal}
use Rattle.bas_ast.specs.declared.lines.Head.{Head}
use Rattle.bas_ast.specs.declared.lines.Head.TheVariants as head
use Rattle.bas_ast.specs.declared.lines.Item.{Item}
use Rattle.bas_ast.specs.declared.lines.Item.TheVariants as item
use Rattle.bas_ast.specs.declared.lines.Jump.TheVariants as jump
use Rattle.bas_ast.specs.declared.statements.Flow.TheVariants as flow
use Rattle.bas_ast.specs.declared.statements.Stmt.{Stmt}
use Rattle.bas_ast.specs.declared.statements.Stmt.TheVariants as stmt
use Rattle.bas_ast.specs.declared.terminals.Terminal.{Terminal}
use Rattle.bas_ast.specs.declared.terminals.Terminal.TheVariants as t
use Rattle.bas_ast.specs.Expressions.{IsNum, IsAny}
use Rattle.bas_ast.specs.Operands.{IsFormals, IsList, AnExpression, ALine}
use Rattle.bas_ast.specs.Statements.{IsStmt}

-- What comes before a place of a line.
pub record Here : Type 0 where
  -- whether an item may begin here: after `:`, at the line's start, and where the item before lets it
  pub free : Bool
  -- whether an IF without THEN comes before the next item
  pub bare : Bool
  -- whether an IF, or an ON with a number, comes before on the line
  pub ruled : Bool

-- the start of a line
abbrev pub start : Here
start = record { free = true; bare = false; ruled = false }

-- after a `:`
abbrev pub after_colon : Here → Here
after_colon h = record { free = true; bare = h.bare; ruled = h.ruled }

-- after an item that needs a `:`
abbrev pub after_item : Here → Here
after_item h = record { free = false; bare = false; ruled = h.ruled }

-- after an item that needs none
abbrev pub after_word : Here → Here
after_word h = record { free = true; bare = false; ruled = h.ruled }

-- after a condition without THEN
abbrev pub after_condition : Here
after_condition = record { free = true; bare = true; ruled = true }

-- after THEN and ELSE
abbrev pub after_then : Here
after_then = record { free = true; bare = false; ruled = true }

-- after an item that needs a `:` and rules an ELSE
abbrev pub after_on : Here
after_on = record { free = false; bare = false; ruled = true }

-- Whether a list begins with what could go on with a condition before it: `?`, `!` or `=`.
abbrev pub continues : List Terminal → Bool
continues (t.Indirection w ∷ r) = true
continues (t.Operator (op.Compare comparison.Equal) ∷ r) = true
continues _ = false

mutual
  -- The items from a place of a line to its end, or to a `[`.
  pub data IsItems : Here → List Terminal → List Item → Type 0 where
    no_items : (h : Here) → IsItems h [] []
    colon : (h : Here) (r : List Terminal) (xs : List Item) → IsItems (after_colon h) r xs → IsItems h (t.Colon ∷ r) xs
    plain : (h : Here) (a r : List Terminal) (x : Stmt) (xs : List Item) → h.free ≡ true → h.bare && continues a ≡ false → IsStmt a x
        → IsItems (after_item h) r xs → IsItems h (a ++ r) (item.Stmt x ∷ xs)
    if_bare : (h : Here) (a r : List Terminal) (x : NumExpr) (xs : List Item) → h.free ≡ true → IsNum 1 a x
        → IsItems after_condition r xs → IsItems h (t.Keyword word.If ∷ (a ++ r)) (item.If x ∷ xs)
    if_then : (h : Here) (a r : List Terminal) (x : NumExpr) (xs : List Item) → h.free ≡ true → IsNum 1 a x → r ≢ [] → IsBranch r xs
        → IsItems h (t.Keyword word.If ∷ (a ++ t.Keyword word.Then ∷ r)) (item.If x ∷ xs)
    if_block : (h : Here) (a : List Terminal) (x : NumExpr) → h.free ≡ true → IsNum 1 a x
        → IsItems h (t.Keyword word.If ∷ (a ++ t.Keyword word.Then ∷ [])) (item.BlockIf x ∷ [])
    else : (h : Here) (r : List Terminal) (xs : List Item) → h.ruled ≡ true → IsBranch r xs
        → IsItems h (t.Keyword word.Else ∷ r) (item.Else ∷ xs)
    on_goto : (h : Here) (a b r : List Terminal) (x : NumExpr) (ns : List ℕ) (xs : List Item) → h.free ≡ true → IsNum 1 a x
        → IsList ALine b ns → IsItems after_on r xs
        → IsItems h (t.Keyword word.On ∷ (a ++ t.Keyword word.Goto ∷ (b ++ r))) (item.On x jump.Goto ns ∷ xs)
    on_gosub : (h : Here) (a b r : List Terminal) (x : NumExpr) (ns : List ℕ) (xs : List Item) → h.free ≡ true → IsNum 1 a x
        → IsList ALine b ns → IsItems after_on r xs
        → IsItems h (t.Keyword word.On ∷ (a ++ t.Keyword word.Gosub ∷ (b ++ r))) (item.On x jump.Gosub ns ∷ xs)
    case : (h : Here) (a r : List Terminal) (x : Any) → h.free ≡ true → IsAny a x → All (λ c. c ≡ t.Colon) r
        → IsItems h (t.Keyword word.Case ∷ (a ++ t.Keyword word.Of ∷ r)) (item.Case x ∷ [])
    repeat : (h : Here) (r : List Terminal) (xs : List Item) → h.free ≡ true → IsItems (after_word h) r xs
        → IsItems h (t.Keyword word.Repeat ∷ r) (item.Repeat ∷ xs)
    on_error : (h : Here) (r : List Terminal) (xs : List Item) → h.free ≡ true → IsItems (after_word h) r xs
        → IsItems h (t.Keyword word.On ∷ t.Keyword word.Error ∷ r) (item.OnError ∷ xs)
    on_error_local : (h : Here) (r : List Terminal) (xs : List Item) → h.free ≡ true → IsItems (after_word h) r xs
        → IsItems h (t.Keyword word.On ∷ t.Keyword word.Error ∷ t.Keyword word.Local ∷ r) (item.OnErrorLocal ∷ xs)
    data_items : (h : Here) (n : ℕ) → h.free ≡ true → IsItems h (t.Keyword word.Data ∷ t.Tail n ∷ []) (item.Data n ∷ [])
    remark : (h : Here) (n : ℕ) → h.free ≡ true → IsItems h (t.Keyword word.Rem ∷ t.Tail n ∷ []) (item.Remark ∷ [])
    begin_assembly : (h : Here) → h.free ≡ true → IsItems h (t.OpenSquare ∷ []) (item.BeginAssembly ∷ [])

  -- What follows THEN and ELSE: items, or a line's number, which is a GOTO.
  pub data IsBranch : List Terminal → List Item → Type 0 where
    branch_items : (r : List Terminal) (xs : List Item) → IsItems after_then r xs → IsBranch r xs
    branch_line : (n : ℕ) (r : List Terminal) (xs : List Item) → IsItems after_on r xs
        → IsBranch (t.LineRef n ∷ r) (item.Stmt (stmt.Flow (flow.Goto n)) ∷ xs)

-- A procedure's or a function's name in DEF, without the bracket.
pub data IsRoutine : Terminal → (List Formal → Head) → Type 0 where
  def_procedure : (n : ℕ) → IsRoutine (t.Procedure n) (head.DefProcedure n)
  def_number : (n : ℕ) → IsRoutine (t.NumFunction n) (head.DefFunction n)
  def_text : (n : ℕ) → IsRoutine (t.StrFunction n) (head.DefFunction n)

-- The same with the bracket.
pub data IsRoutineOpen : Terminal → (List Formal → Head) → Type 0 where
  def_procedure_open : (n : ℕ) → IsRoutineOpen (t.ProcedureOpen n) (head.DefProcedure n)
  def_number_open : (n : ℕ) → IsRoutineOpen (t.NumFunctionOpen n) (head.DefFunction n)
  def_text_open : (n : ℕ) → IsRoutineOpen (t.StrFunctionOpen n) (head.DefFunction n)

-- A run of a line outside the assembler: from the line's start or from a `]`, to its end or to a `[`. After a `]` an ELSE may
-- come, since what rules it may come before the `[`.
pub data IsRun : List Terminal → List Item → Type 0 where
  items : (r : List Terminal) (xs : List Item) → IsItems start r xs → IsRun r xs
  def : (c : Terminal) (f : List Formal → Head) (r : List Terminal) (xs : List Item) → IsRoutine c f → IsItems start r xs
      → IsRun (t.Keyword word.Def ∷ c ∷ r) (item.Head (f []) ∷ xs)
  def_open : (c : Terminal) (f : List Formal → Head) (a r : List Terminal) (fs : List Formal) (xs : List Item) → IsRoutineOpen c f
      → IsFormals a fs → IsItems start r xs → IsRun (t.Keyword word.Def ∷ c ∷ (a ++ r)) (item.Head (f fs) ∷ xs)
  when : (a r : List Terminal) (vs : List Any) (xs : List Item) → IsList AnExpression a vs → IsItems (after_item start) r xs
      → IsRun (t.Keyword word.When ∷ (a ++ r)) (item.Head (head.When vs) ∷ xs)
  otherwise : (r : List Terminal) (xs : List Item) → IsItems start r xs
      → IsRun (t.Keyword word.Otherwise ∷ r) (item.Head head.Otherwise ∷ xs)
  block_else : (r : List Terminal) (xs : List Item) → IsItems start r xs
      → IsRun (t.Keyword word.BlockElse ∷ r) (item.Head head.BlockElse ∷ xs)
  end_if : (r : List Terminal) (xs : List Item) → IsItems (after_item start) r xs
      → IsRun (t.Keyword word.EndIf ∷ r) (item.Head head.EndIf ∷ xs)
  end_case : (r : List Terminal) (xs : List Item) → IsItems (after_item start) r xs
      → IsRun (t.Keyword word.EndCase ∷ r) (item.Head head.EndCase ∷ xs)
  end_assembly : (r : List Terminal) (xs : List Item) → IsItems after_on r xs → IsRun (t.CloseSquare ∷ r) (item.EndAssembly ∷ xs)
