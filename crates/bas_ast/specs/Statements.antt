-- The grammar of plain statements (BBC BASIC Reference Manual, keywords). A statement that is a word and plain operands is a
-- line of `form`, and one with punctuation of its own a constructor.
use Rattle.std.specs.Prelude.{◌≡◌, ℕ, Bool, true, false, ◌&&◌, List, [], ◌∷◌, ◌++◌, None, Some}
use Rattle.bas_ast.specs.declared.expressions.Any.{Any}
use Rattle.bas_ast.specs.declared.expressions.BinaryOp.TheVariants as op
use Rattle.bas_ast.specs.declared.expressions.Comparison.TheVariants as comparison
use Rattle.bas_ast.specs.declared.expressions.NumExpr.{NumExpr}
use Rattle.bas_ast.specs.declared.expressions.NumberFormat.TheVariants as format
use Rattle.bas_ast.specs.declared.expressions.StrExpr.{StrExpr}
use Rattle.bas_ast.specs.declared.keywords.Keyword.{Keyword}
use Rattle.bas_ast.specs.declared.keywords.Keyword.TheVariants as word
use Rattle.bas_ast.specs.declared.statements.Assignment.{Assignment}
use Rattle.bas_ast.specs.declared.statements.Assignment.TheVariants as assignment
use Rattle.bas_ast.specs.declared.statements.Call.TheVariants as call
use Rattle.bas_ast.specs.declared.statements.ErrorStmt.TheVariants as error
use Rattle.bas_ast.specs.declared.statements.Flow.TheVariants as flow
use Rattle.bas_ast.specs.declared.statements.InputPart.{InputPart}
use Rattle.bas_ast.specs.declared.statements.InputPart.TheVariants as input_part
use Rattle.bas_ast.specs.declared.statements.Output.TheVariants as output
use Rattle.bas_ast.specs.declared.statements.PrintPart.{PrintPart}
use Rattle.bas_ast.specs.declared.statements.PrintPart.TheVariants as print_part
use Rattle.bas_ast.specs.declared.statements.Stmt.{Stmt}
use Rattle.bas_ast.specs.declared.statements.Stmt.TheVariants as stmt
use Rattle.bas_ast.specs.declared.statements.VduPart.{VduPart}
use Rattle.bas_ast.specs.declared.statements.VduPart.TheVariants as vdu_part
use Rattle.bas_ast.specs.declared.targets.NumTarget.{NumTarget}
use Rattle.bas_ast.specs.declared.targets.StrTarget.{StrTarget}
use Rattle.bas_ast.specs.declared.targets.Target.{Target}
use Rattle.bas_ast.specs.declared.terminals.Terminal.{Terminal}
use Rattle.bas_ast.specs.declared.terminals.Terminal.TheVariants as t
use Rattle.bas_ast.specs.Expressions.{IsNum, IsStr, IsAny, IsArguments}
use Rattle.bas_ast.specs.Operands.{IsNumTarget, IsStrTarget, IsTarget, Slot, ANumber, AText, ATarget, AVariable, AnIntName, ADimPart, ALine, ValueOf, Values, IsOperands, IsList}

-- the sign `=`
abbrev pub equals : Terminal
equals = t.Operator (op.Compare comparison.Equal)

-- What follows a statement's word: fixed operands, one operand or more of one kind, or something of its own.
pub data Form : Type 0 where
  Takes : (ss : List Slot) → (Values ss → Stmt) → Form
  Lists : (s : Slot) → (List (ValueOf s) → Stmt) → Form
  OwnForm : Form

abbrev pub form : Keyword → Form
form word.Goto = Takes (ALine ∷ []) (λ z. stmt.Flow (flow.Goto z.0))
form word.Gosub = Takes (ALine ∷ []) (λ z. stmt.Flow (flow.Gosub z.0))
form word.Return = Takes [] (λ z. stmt.Flow flow.Return)
form word.Until = Takes (ANumber ∷ []) (λ z. stmt.Flow (flow.Until z.0))
form word.While = Takes (ANumber ∷ []) (λ z. stmt.Flow (flow.While z.0))
form word.EndWhile = Takes [] (λ z. stmt.Flow flow.EndWhile)
form word.End = Takes [] (λ z. stmt.Flow flow.End)
form word.Stop = Takes [] (λ z. stmt.Flow flow.Stop)
form word.Quit = Takes [] (λ z. stmt.Flow flow.Quit)
form word.EndProc = Takes [] (λ z. stmt.Call call.EndProcedure)
form word.Call = Takes (ANumber ∷ []) (λ z. stmt.Call (call.Code z.0))
form word.Error = Takes (ANumber ∷ AText ∷ []) (λ z. stmt.Error (error.Raise z.0 z.1.0))
form word.Report = Takes [] (λ z. stmt.Error error.Report)
form word.Mode = Takes (ANumber ∷ []) (λ z. stmt.Output (output.Mode z.0))
form word.Colour = Takes (ANumber ∷ []) (λ z. stmt.Output (output.Colour z.0))
form word.Cls = Takes [] (λ z. stmt.Output output.Cls)
form word.Local = Lists AVariable (λ vs. stmt.Call (call.Local vs))
form word.Read = Lists ATarget stmt.Read
form word.Dim = Lists ADimPart stmt.Dim
form _ = OwnForm

-- Whether a list begins with a sign that could go on with an expression before it: `+`, `-`, `?` or `!`.
abbrev pub joins : List Terminal → Bool
joins (t.Operator op.Add ∷ r) = true
joins (t.Operator op.Subtract ∷ r) = true
joins (t.Indirection w ∷ r) = true
joins _ = false

-- The parts of PRINT, where an expression comes directly before or not. One that does isn't followed by an expression that
-- begins as `joins` says.
pub data IsPrint : Bool → List Terminal → List PrintPart → Type 0 where
  printed : (b : Bool) → IsPrint b [] []
  print_comma : (b : Bool) (r : List Terminal) (ps : List PrintPart) → IsPrint false r ps → IsPrint b (t.Comma ∷ r) (print_part.Comma ∷ ps)
  print_semicolon : (b : Bool) (r : List Terminal) (ps : List PrintPart) → IsPrint false r ps
      → IsPrint b (t.Semicolon ∷ r) (print_part.Semicolon ∷ ps)
  print_new_line : (b : Bool) (r : List Terminal) (ps : List PrintPart) → IsPrint false r ps
      → IsPrint b (t.Apostrophe ∷ r) (print_part.NewLine ∷ ps)
  print_number : (b : Bool) (a r : List Terminal) (x : NumExpr) (ps : List PrintPart) → b && joins a ≡ false → IsNum 1 a x
      → IsPrint true r ps → IsPrint b (a ++ r) (print_part.Number format.Decimal x ∷ ps)
  print_hexadecimal : (b : Bool) (a r : List Terminal) (x : NumExpr) (ps : List PrintPart) → IsNum 1 a x → IsPrint true r ps
      → IsPrint b (t.Tilde ∷ (a ++ r)) (print_part.Number format.Hexadecimal x ∷ ps)
  print_text : (b : Bool) (a r : List Terminal) (y : StrExpr) (ps : List PrintPart) → IsStr 4 a y → IsPrint true r ps
      → IsPrint b (a ++ r) (print_part.Text y ∷ ps)
  print_spaces : (b : Bool) (a r : List Terminal) (x : NumExpr) (ps : List PrintPart) → IsNum 6 a x → IsPrint true r ps
      → IsPrint b (t.Keyword word.Spc ∷ (a ++ r)) (print_part.Spaces x ∷ ps)
  print_tab : (b : Bool) (a r : List Terminal) (x : NumExpr) (ps : List PrintPart) → IsNum 1 a x → IsPrint false r ps
      → IsPrint b (t.Keyword word.Tab ∷ (a ++ t.Close ∷ r)) (print_part.Tab x ∷ ps)

-- The numbers of VDU.
pub data IsVdu : List Terminal → List VduPart → Type 0 where
  last_byte : (a : List Terminal) (x : NumExpr) → IsNum 1 a x → IsVdu a (vdu_part.Byte x ∷ [])
  last_word : (a : List Terminal) (x : NumExpr) → IsNum 1 a x → IsVdu (a ++ t.Semicolon ∷ []) (vdu_part.Word x ∷ [])
  more_byte : (a r : List Terminal) (x : NumExpr) (ps : List VduPart) → IsNum 1 a x → IsVdu r ps
      → IsVdu (a ++ t.Comma ∷ r) (vdu_part.Byte x ∷ ps)
  more_word : (a r : List Terminal) (x : NumExpr) (ps : List VduPart) → IsNum 1 a x → IsVdu r ps
      → IsVdu (a ++ t.Semicolon ∷ r) (vdu_part.Word x ∷ ps)

-- A separator of INPUT.
pub data IsSeparator : Terminal → Type 0 where
  by_comma : IsSeparator t.Comma
  by_semicolon : IsSeparator t.Semicolon

-- a target, where a prompt comes directly before or not
abbrev pub input_target : Bool → Target → InputPart
input_target true v = input_part.Prompted v
input_target false v = input_part.Asked v

-- The parts of INPUT, where a prompt comes directly before or not.
pub data IsInput : Bool → List Terminal → List InputPart → Type 0 where
  last_prompt : (b : Bool) (n : ℕ) → IsInput b (t.Literal n ∷ []) (input_part.Prompt n ∷ [])
  prompt_apart : (b : Bool) (n : ℕ) (c : Terminal) (r : List Terminal) (ps : List InputPart) → IsSeparator c → IsInput false r ps
      → IsInput b (t.Literal n ∷ c ∷ r) (input_part.Prompt n ∷ ps)
  prompt_direct : (b : Bool) (n : ℕ) (r : List Terminal) (ps : List InputPart) → IsInput true r ps
      → IsInput b (t.Literal n ∷ r) (input_part.Prompt n ∷ ps)
  last_target : (b : Bool) (a : List Terminal) (v : Target) → IsTarget a v → IsInput b a (input_target b v ∷ [])
  target_apart : (b : Bool) (a : List Terminal) (v : Target) (c : Terminal) (r : List Terminal) (ps : List InputPart) → IsTarget a v
      → IsSeparator c → IsInput false r ps → IsInput b (a ++ c ∷ r) (input_target b v ∷ ps)

-- An assignment by `=`, of a value of the target's kind.
pub data IsAssignment : List Terminal → Assignment → Type 0 where
  assign_number : (a b : List Terminal) (v : NumTarget) (x : NumExpr) → IsNumTarget a v → IsNum 1 b x
      → IsAssignment (a ++ equals ∷ b) (assignment.Number v x)
  assign_text : (a b : List Terminal) (v : StrTarget) (y : StrExpr) → IsStrTarget a v → IsStr 4 b y
      → IsAssignment (a ++ equals ∷ b) (assignment.Text v y)

-- A plain statement.
pub data IsStmt : List Terminal → Stmt → Type 0 where
  takes : (c : Keyword) (ss : List Slot) (f : Values ss → Stmt) (a : List Terminal) (vs : Values ss) → form c ≡ Takes ss f
      → IsOperands ss a vs → IsStmt (t.Keyword c ∷ a) (f vs)
  lists : (c : Keyword) (s : Slot) (f : List (ValueOf s) → Stmt) (a : List Terminal) (vs : List (ValueOf s)) → form c ≡ Lists s f
      → IsList s a vs → IsStmt (t.Keyword c ∷ a) (f vs)
  assign : (a : List Terminal) (x : Assignment) → IsAssignment a x → IsStmt a (stmt.Assign x)
  let_assign : (a : List Terminal) (x : Assignment) → IsAssignment a x → IsStmt (t.Keyword word.Let ∷ a) (stmt.Assign x)
  add : (a b : List Terminal) (v : NumTarget) (x : NumExpr) → IsNumTarget a v → IsNum 1 b x
      → IsStmt (a ++ t.PlusEquals ∷ b) (stmt.Assign (assignment.Add v x))
  append : (a b : List Terminal) (v : StrTarget) (y : StrExpr) → IsStrTarget a v → IsStr 4 b y
      → IsStmt (a ++ t.PlusEquals ∷ b) (stmt.Assign (assignment.Append v y))
  subtract : (a b : List Terminal) (v : NumTarget) (x : NumExpr) → IsNumTarget a v → IsNum 1 b x
      → IsStmt (a ++ t.MinusEquals ∷ b) (stmt.Assign (assignment.Subtract v x))
  swap_numbers : (a b : List Terminal) (v w : NumTarget) → IsNumTarget a v → IsNumTarget b w
      → IsStmt (t.Keyword word.Swap ∷ (a ++ t.Comma ∷ b)) (stmt.Assign (assignment.SwapNumbers v w))
  swap_texts : (a b : List Terminal) (v w : StrTarget) → IsStrTarget a v → IsStrTarget b w
      → IsStmt (t.Keyword word.Swap ∷ (a ++ t.Comma ∷ b)) (stmt.Assign (assignment.SwapTexts v w))
  for : (n : ℕ) (a b : List Terminal) (x y : NumExpr) → IsNum 1 a x → IsNum 1 b y
      → IsStmt (t.Keyword word.For ∷ t.IntName n ∷ equals ∷ (a ++ t.Keyword word.To ∷ b)) (stmt.Flow (flow.For n x y None))
  for_step : (n : ℕ) (a b e : List Terminal) (x y z : NumExpr) → IsNum 1 a x → IsNum 1 b y → IsNum 1 e z
      → IsStmt (t.Keyword word.For ∷ t.IntName n ∷ equals ∷ (a ++ t.Keyword word.To ∷ (b ++ t.Keyword word.Step ∷ e)))
      (stmt.Flow (flow.For n x y (Some z)))
  next : IsStmt (t.Keyword word.Next ∷ []) (stmt.Flow (flow.Next []))
  next_of : (a : List Terminal) (ns : List ℕ) → IsList AnIntName a ns → IsStmt (t.Keyword word.Next ∷ a) (stmt.Flow (flow.Next ns))
  procedure : (n : ℕ) → IsStmt (t.Procedure n ∷ []) (stmt.Call (call.Procedure n []))
  procedure_open : (n : ℕ) (a : List Terminal) (xs : List Any) → IsArguments a xs
      → IsStmt (t.ProcedureOpen n ∷ a) (stmt.Call (call.Procedure n xs))
  result : (a : List Terminal) (x : Any) → IsAny a x → IsStmt (equals ∷ a) (stmt.Call (call.Result x))
  local_error : IsStmt (t.Keyword word.Local ∷ t.Keyword word.Error ∷ []) (stmt.Error error.LocalError)
  restore_error : IsStmt (t.Keyword word.Restore ∷ t.Keyword word.Error ∷ []) (stmt.Error error.RestoreError)
  on_error_off : IsStmt (t.Keyword word.On ∷ t.Keyword word.Error ∷ t.Keyword word.Off ∷ []) (stmt.Error error.OnErrorOff)
  print : (a : List Terminal) (ps : List PrintPart) → IsPrint false a ps → IsStmt (t.Keyword word.Print ∷ a) (stmt.Output (output.Print ps))
  vdu : (a : List Terminal) (ps : List VduPart) → IsVdu a ps → IsStmt (t.Keyword word.Vdu ∷ a) (stmt.Output (output.Vdu ps))
  input : (a : List Terminal) (ps : List InputPart) → IsInput false a ps → IsStmt (t.Keyword word.Input ∷ a) (stmt.Input false ps)
  input_line : (a : List Terminal) (ps : List InputPart) → IsInput false a ps
      → IsStmt (t.Keyword word.Input ∷ t.Keyword word.Line ∷ a) (stmt.Input true ps)
  restore : IsStmt (t.Keyword word.Restore ∷ []) (stmt.Restore None)
  restore_line : (n : ℕ) → IsStmt (t.Keyword word.Restore ∷ t.LineRef n ∷ []) (stmt.Restore (Some n))
