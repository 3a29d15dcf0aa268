-- The parser of plain statements as functions on lists.
use Rattle.std.specs.Prelude.{ℕ, zero, suc, Bool, true, false, ◌&&◌, not, List, [], ◌∷◌, ◌++◌, length, Option, Some, None, if◌then◌else◌}
use Rattle.bas_ast.specs.declared.expressions.Any.{Any}
use Rattle.bas_ast.specs.declared.expressions.Any.TheVariants as any
use Rattle.bas_ast.specs.declared.expressions.BinaryOp.TheVariants as op
use Rattle.bas_ast.specs.declared.expressions.Comparison.TheVariants as comparison
use Rattle.bas_ast.specs.declared.expressions.NumExpr.{NumExpr}
use Rattle.bas_ast.specs.declared.expressions.NumberFormat.TheVariants as format
use Rattle.bas_ast.specs.declared.keywords.Keyword.{Keyword}
use Rattle.bas_ast.specs.declared.keywords.Keyword.TheVariants as word
use Rattle.bas_ast.specs.declared.statements.Assignment.{Assignment}
use Rattle.bas_ast.specs.declared.statements.Assignment.TheVariants as assignment
use Rattle.bas_ast.specs.declared.statements.Call.TheVariants as call
use Rattle.bas_ast.specs.declared.statements.ErrorStmt.TheVariants as error
use Rattle.bas_ast.specs.declared.statements.Flow.TheVariants as flow
use Rattle.bas_ast.specs.declared.statements.InputPart.{InputPart}
use Rattle.bas_ast.specs.declared.statements.InputPart.TheVariants as input_part
use Rattle.bas_ast.specs.declared.statements.Output.TheVariants as output
use Rattle.bas_ast.specs.declared.statements.PrintPart.{PrintPart}
use Rattle.bas_ast.specs.declared.statements.PrintPart.TheVariants as print_part
use Rattle.bas_ast.specs.declared.statements.Stmt.{Stmt}
use Rattle.bas_ast.specs.declared.statements.Stmt.TheVariants as stmt
use Rattle.bas_ast.specs.declared.statements.VduPart.{VduPart}
use Rattle.bas_ast.specs.declared.statements.VduPart.TheVariants as vdu_part
use Rattle.bas_ast.specs.declared.targets.Target.{Target}
use Rattle.bas_ast.specs.declared.targets.Target.TheVariants as target
use Rattle.bas_ast.specs.declared.terminals.Terminal.{Terminal}
use Rattle.bas_ast.specs.declared.terminals.Terminal.TheVariants as t
use Rattle.bas_ast.specs.Statements.{Form, Takes, Lists, OwnForm, form, joins, input_target}
use Rattle.expr_parse.specs.Parse.{Parser, on_front, or_front, on_some, after_comma, after_close, longest_num, longest_text}
use Rattle.expr_parse.specs.Operands.{longest_any, longest_operand, whole_arguments}
use Rattle.bas_parse.specs.Operands.{target_at, int_name_at, on_operands, operand_at, list_of}

-- ---- single terminals at the front

-- Whether an item may end before a list: it is empty, or a `:` or an ELSE is next.
abbrev pub ended : List Terminal → Bool
ended [] = true
ended (t.Colon ∷ r) = true
ended (t.Keyword word.Else ∷ r) = true
ended (_ ∷ r) = false

-- what stands after `=`
abbrev pub after_equals : List Terminal → Option (List Terminal)
after_equals (t.Operator (op.Compare comparison.Equal) ∷ r) = Some r
after_equals _ = None

-- what stands after a semicolon
abbrev pub after_semicolon : List Terminal → Option (List Terminal)
after_semicolon (t.Semicolon ∷ r) = Some r
after_semicolon _ = None

-- what stands after a separator of INPUT
abbrev pub after_separator : List Terminal → Option (List Terminal)
after_separator (t.Comma ∷ r) = Some r
after_separator (t.Semicolon ∷ r) = Some r
after_separator _ = None

-- what stands after TO
abbrev pub after_to : List Terminal → Option (List Terminal)
after_to (t.Keyword word.To ∷ r) = Some r
after_to _ = None

-- what stands after STEP
abbrev pub after_step : List Terminal → Option (List Terminal)
after_step (t.Keyword word.Step ∷ r) = Some r
after_step _ = None

-- what stands after ERROR
abbrev pub after_error : List Terminal → Option (List Terminal)
after_error (t.Keyword word.Error ∷ r) = Some r
after_error _ = None

-- ---- assignments

-- a value for a target after `=`
abbrev pub stored : Target → Parser Assignment
stored (target.Number v) r = on_front (longest_num r) (λ x q. Some (assignment.Number v x, q))
stored (target.Text v) r = on_front (longest_text r) (λ y q. Some (assignment.Text v y, q))

-- the same after `+=`
abbrev pub added : Target → Parser Assignment
added (target.Number v) r = on_front (longest_num r) (λ x q. Some (assignment.Add v x, q))
added (target.Text v) r = on_front (longest_text r) (λ y q. Some (assignment.Append v y, q))

-- the same after `-=`
abbrev pub subtracted : Target → Parser Assignment
subtracted (target.Number v) r = on_front (longest_num r) (λ x q. Some (assignment.Subtract v x, q))
subtracted (target.Text v) r = None

-- a sign and a value for a target
unfoldable pub signed : Target → Parser Assignment
signed v (t.Operator (op.Compare comparison.Equal) ∷ r) = stored v r
signed v (t.PlusEquals ∷ r) = added v r
signed v (t.MinusEquals ∷ r) = subtracted v r
signed v _ = None

-- an assignment by any of its signs
unfoldable pub assignment_at : Parser Assignment
assignment_at r = on_front (target_at r) (λ v q. signed v q)

-- an assignment by `=`
unfoldable pub let_at : Parser Assignment
let_at r = on_front (target_at r) (λ v q. on_some (after_equals q) (λ q1. stored v q1) None)

-- two targets of one kind
abbrev pub swap_of : Target → Target → Option Assignment
swap_of (target.Number v) (target.Number w) = Some (assignment.SwapNumbers v w)
swap_of (target.Number v) (target.Text w) = None
swap_of (target.Text v) (target.Number w) = None
swap_of (target.Text v) (target.Text w) = Some (assignment.SwapTexts v w)

-- the second target of SWAP
abbrev pub swapped : Target → Target → Parser Assignment
swapped v w r = on_some (swap_of v w) (λ x. Some (x, r)) None

-- the second target of SWAP
abbrev pub swap_with : Target → Parser Assignment
swap_with v r = on_front (target_at r) (λ w q. swapped v w q)

-- what follows SWAP
unfoldable pub swap_at : Parser Assignment
swap_at r = on_front (target_at r) (λ v q. on_some (after_comma q) (λ q1. swap_with v q1) None)

-- ---- FOR

-- the step of FOR, which may be absent
abbrev pub for_step : ℕ → NumExpr → NumExpr → Parser Stmt
for_step n x y r =
    on_some (after_step r) (λ q. on_front (longest_num q) (λ z q1. Some (stmt.Flow (flow.For n x y (Some z)), q1)))
    (Some (stmt.Flow (flow.For n x y None), r))

-- the limit of FOR
abbrev pub for_limit : ℕ → NumExpr → Parser Stmt
for_limit n x r = on_front (longest_num r) (λ y q. for_step n x y q)

-- the start of FOR
abbrev pub for_start : ℕ → Parser Stmt
for_start n r = on_front (longest_num r) (λ x q. on_some (after_to q) (λ q1. for_limit n x q1) None)

-- what follows FOR
unfoldable pub for_at : Parser Stmt
for_at r = on_front (int_name_at r) (λ n q. on_some (after_equals q) (λ q1. for_start n q1) None)

-- ---- PRINT

-- an expression as a part of PRINT
abbrev pub printed : Any → PrintPart
printed (any.Number x) = print_part.Number format.Decimal x
printed (any.Text y) = print_part.Text y

-- a number after `~`
abbrev pub hexadecimal_part : Parser (PrintPart × Bool)
hexadecimal_part r = on_front (longest_num r) (λ x q. Some ((print_part.Number format.Hexadecimal x, true), q))

-- what follows SPC
abbrev pub spaces_part : Parser (PrintPart × Bool)
spaces_part r = on_front (longest_operand r) (λ x q. Some ((print_part.Spaces x, true), q))

-- what follows TAB(
abbrev pub tab_part : Parser (PrintPart × Bool)
tab_part r = on_front (longest_num r) (λ x q. on_some (after_close q) (λ q1. Some ((print_part.Tab x, false), q1)) None)

-- an expression, where one stands directly before or not
abbrev pub expression_part : Bool → Parser (PrintPart × Bool)
expression_part b r = if b && joins r then None else on_front (longest_any r) (λ x q. Some ((printed x, true), q))

-- A part of PRINT, where an expression stands directly before or not, and whether one stands directly before what is next.
unfoldable pub print_part_at : Bool → Parser (PrintPart × Bool)
print_part_at b (t.Comma ∷ r) = Some ((print_part.Comma, false), r)
print_part_at b (t.Semicolon ∷ r) = Some ((print_part.Semicolon, false), r)
print_part_at b (t.Apostrophe ∷ r) = Some ((print_part.NewLine, false), r)
print_part_at b (t.Tilde ∷ r) = hexadecimal_part r
print_part_at b (t.Keyword word.Spc ∷ r) = spaces_part r
print_part_at b (t.Keyword word.Tab ∷ r) = tab_part r
print_part_at b r = expression_part b r

-- the parts of PRINT after those that were read
unfoldable pub print_from : ℕ → Bool → List PrintPart → Parser (List PrintPart)
print_from zero b ps r = Some (ps, r)
print_from (suc k) b ps r = or_front (print_part_at b r) (λ z q. print_from k z.1 (ps ++ z.0 ∷ []) q) (Some (ps, r))

-- what follows PRINT
unfoldable pub print_at : Parser (List PrintPart)
print_at r = print_from (length r) false [] r

-- ---- VDU

-- the numbers of VDU, where the `;` that makes a word of the last stands before
abbrev pub vdu_word : (List VduPart → Parser (List VduPart)) → List VduPart → Parser (List VduPart)
vdu_word more ps r = if ended r then Some (ps, r) else more ps r

-- the numbers of VDU after those that were read and one more
abbrev pub vdu_after : (List VduPart → Parser (List VduPart)) → List VduPart → NumExpr → Parser (List VduPart)
vdu_after more ps x r =
    on_some (after_comma r) (λ q. more (ps ++ vdu_part.Byte x ∷ []) q)
    (on_some (after_semicolon r) (λ q. vdu_word more (ps ++ vdu_part.Word x ∷ []) q) (Some (ps ++ vdu_part.Byte x ∷ [], r)))

-- the numbers of VDU after those that were read
unfoldable pub vdu_from : ℕ → List VduPart → Parser (List VduPart)
vdu_from zero ps r = None
vdu_from (suc k) ps r = on_front (longest_num r) (λ x q. vdu_after (vdu_from k) ps x q)

-- what follows VDU
unfoldable pub vdu_at : Parser (List VduPart)
vdu_at r = vdu_from (suc (length r)) [] r

-- ---- INPUT

-- a target as a part of INPUT
abbrev pub target_part : Bool → Parser (InputPart × Bool)
target_part b r = on_front (target_at r) (λ v q. Some ((input_target b v, false), q))

-- a part of INPUT, where a prompt stands directly before or not, and whether it is a prompt
unfoldable pub input_part_at : Bool → Parser (InputPart × Bool)
input_part_at b (t.Literal n ∷ r) = Some ((input_part.Prompt n, true), r)
input_part_at b r = target_part b r

-- The parts of INPUT after those that were read and one more, without a separator: more may follow a prompt.
abbrev pub input_direct : (Bool → List InputPart → Parser (List InputPart)) → List InputPart → Bool → Parser (List InputPart)
input_direct more ps prompt r = if prompt && not (ended r) then more true ps r else Some (ps, r)

-- the parts of INPUT after those that were read and one more
abbrev pub input_after : (Bool → List InputPart → Parser (List InputPart)) → List InputPart → Bool → Parser (List InputPart)
input_after more ps prompt r = on_some (after_separator r) (λ q. more false ps q) (input_direct more ps prompt r)

-- the parts of INPUT after those that were read
unfoldable pub input_from : ℕ → Bool → List InputPart → Parser (List InputPart)
input_from zero b ps r = None
input_from (suc k) b ps r = on_front (input_part_at b r) (λ z q. input_after (input_from k) (ps ++ z.0 ∷ []) z.1 q)

-- what follows INPUT, and LINE after it
unfoldable pub input_at : Parser (List InputPart)
input_at r = input_from (suc (length r)) false [] r

-- ---- words

-- what follows NEXT
abbrev pub next_at : Parser Stmt
next_at r = or_front (list_of int_name_at r) (λ ns q. Some (stmt.Flow (flow.Next ns), q)) (Some (stmt.Flow (flow.Next []), r))

-- what follows RESTORE
unfoldable pub restore_at : Parser Stmt
restore_at (t.Keyword word.Error ∷ r) = Some (stmt.Error error.RestoreError, r)
restore_at (t.LineRef n ∷ r) = Some (stmt.Restore (Some n), r)
restore_at r = Some (stmt.Restore None, r)

-- the parts of INPUT or of INPUT LINE
abbrev pub input_parts : Bool → Parser Stmt
input_parts line r = on_front (input_at r) (λ ps q. Some (stmt.Input line ps, q))

-- what follows INPUT
unfoldable pub input_stmt_at : Parser Stmt
input_stmt_at (t.Keyword word.Line ∷ r) = input_parts true r
input_stmt_at r = input_parts false r

-- what follows ON, where that is a plain statement
unfoldable pub error_off_at : Parser Stmt
error_off_at (t.Keyword word.Error ∷ t.Keyword word.Off ∷ r) = Some (stmt.Error error.OnErrorOff, r)
error_off_at _ = None

-- what follows a word with punctuation of its own
abbrev pub own_form : Keyword → Parser Stmt
own_form word.Let r = on_front (let_at r) (λ x q. Some (stmt.Assign x, q))
own_form word.Swap r = on_front (swap_at r) (λ x q. Some (stmt.Assign x, q))
own_form word.For r = for_at r
own_form word.Next r = next_at r
own_form word.Restore r = restore_at r
own_form word.On r = error_off_at r
own_form word.Print r = on_front (print_at r) (λ ps q. Some (stmt.Output (output.Print ps), q))
own_form word.Vdu r = on_front (vdu_at r) (λ ps q. Some (stmt.Output (output.Vdu ps), q))
own_form word.Input r = input_stmt_at r
own_form _ r = None

-- what follows a statement's word, by the word's form
abbrev pub by_form : Form → Keyword → Parser Stmt
by_form (Takes ss f) c r = on_operands ss (λ vs q. Some (f vs, q)) r
by_form (Lists s f) c r = on_front (list_of (operand_at s) r) (λ vs q. Some (f vs, q))
by_form OwnForm c r = own_form c r

-- what follows a statement's word
unfoldable pub word_at : Keyword → Parser Stmt
word_at word.Local r = on_some (after_error r) (λ q. Some (stmt.Error error.LocalError, q)) (by_form (form word.Local) word.Local r)
word_at c r = by_form (form c) c r

-- a number after a word
abbrev pub with_number : (NumExpr → Stmt) → Parser Stmt
with_number f r = on_front (longest_num r) (λ x q. Some (f x, q))

-- the text of ERROR, after its number
abbrev pub raise_text : NumExpr → Parser Stmt
raise_text x r = on_front (longest_text r) (λ y q. Some (stmt.Error (error.Raise x y), q))

-- a call of a procedure, after its name
abbrev pub procedure : ℕ → Parser Stmt
procedure n r = on_front (whole_arguments r) (λ xs q. Some (stmt.Call (call.Procedure n xs), q))

-- a function's value, after `=`
abbrev pub result : Parser Stmt
result r = on_front (longest_any r) (λ x q. Some (stmt.Call (call.Result x), q))

-- an assignment, as a statement
abbrev pub assign : Parser Stmt
assign r = on_front (assignment_at r) (λ x q. Some (stmt.Assign x, q))

-- a plain statement
unfoldable pub stmt_at : Parser Stmt
stmt_at (t.Keyword c ∷ r) = word_at c r
stmt_at (t.Procedure n ∷ r) = Some (stmt.Call (call.Procedure n []), r)
stmt_at (t.ProcedureOpen n ∷ r) = procedure n r
stmt_at (t.Operator (op.Compare comparison.Equal) ∷ r) = result r
stmt_at r = assign r
