-- Whole programs, and what each of them shows of itself, by computing. Each stands as it lists over its name.
use Rattle.std.proofs.Common.{◌≡◌, refl}
use Rattle.std.specs.Prelude.{ℕ, pos, negsuc, List, [], ◌∷◌, ◌++◌, Some, codes}
use denote.Hole.Carrier.{hidden}
use Rattle.bas_ast.specs.declared.expressions.Any.TheBlock.{hidden-the_row-NumExpr-0}
use Rattle.bas_ast.specs.declared.expressions.BinaryOp.TheVariants as op
use Rattle.bas_ast.specs.declared.expressions.NumberFormat.TheVariants.{Decimal, Hexadecimal}
use Rattle.bas_ast.specs.declared.expressions.NumExpr.{NumExpr}
use Rattle.bas_ast.specs.declared.expressions.NumExpr.TheVariants as num
use Rattle.bas_ast.specs.declared.expressions.StrExpr.TheVariants as str
use Rattle.bas_ast.specs.declared.expressions.UnaryOp.TheVariants as unary
use Rattle.bas_ast.specs.declared.expressions.Variable.TheVariants as var
use Rattle.bas_ast.specs.declared.lines.Item.{Item}
use Rattle.bas_ast.specs.declared.lines.Item.TheVariants as item
use Rattle.bas_ast.specs.declared.program.Name.{Name}
use Rattle.bas_ast.specs.declared.program.NameKind.TheVariants.{Integer}
use Rattle.bas_ast.specs.declared.program.Prog.{Prog}
use Rattle.bas_ast.specs.declared.program.ProgLine.{ProgLine}
use Rattle.bas_ast.specs.declared.statements.Assignment.TheVariants as assigns
use Rattle.bas_ast.specs.declared.statements.Flow.TheVariants as flow
use Rattle.bas_ast.specs.declared.statements.Output.TheVariants as writes
use Rattle.bas_ast.specs.declared.statements.PrintPart.{PrintPart}
use Rattle.bas_ast.specs.declared.statements.PrintPart.TheVariants as prints
use Rattle.bas_ast.specs.declared.statements.Stmt.TheVariants as stmt
use Rattle.bas_ast.specs.declared.statements.VduPart.TheVariants as sends
use Rattle.bas_ast.specs.declared.targets.NumTarget.TheVariants as target
use Rattle.bas_value.specs.Output.{new_line, spaces}
use Rattle.bv_base.specs.Bytes.{zeros}
use Rattle.bv_base.specs.MemoryMap.{arena_bytes}
use Rattle.bv_num.specs.Digits.{digits}
use Rattle.bv_run.specs.Outcome.{Outcome, Over, Going}
use Rattle.bv_run.specs.declared.report.Report.{Report}
use Rattle.bv_run.specs.declared.report.Report.TheVariants.{Done, Failed}
use Rattle.bas_sem.specs.Evaluate.{evaluate}
use Rattle.bas_sem.specs.Items.{print, vdu}
use Rattle.bas_sem.specs.Meaning.{execute, source_run, latest_place}

-- a program of lines, integers and string literals
abbrev program : List ProgLine → List (List ℕ) → List (List ℕ) → Prog
program lines names texts = record { lines = lines; names = integers names; texts = texts; data_items = []; size = 0 }
  where
    integers : List (List ℕ) → List Name
    integers [] = []
    integers (text ∷ rest) = record { kind = Integer; text = text } ∷ integers rest

abbrev a_line : ℕ → List Item → ProgLine
a_line number items = record { number = number; items = items }

-- short words for trees
abbrev number : ℕ → NumExpr
number n = num.Number (pos n)

abbrev variable : ℕ → NumExpr
variable name = num.Variable (var.Simple name)

abbrev minus : ℕ → NumExpr
minus n = num.Unary unary.Minus (number n)

abbrev plus : NumExpr → NumExpr → NumExpr
plus x y = num.Binary op.Add x y

abbrev print_parts : List PrintPart → Item
print_parts parts = item.Stmt (stmt.Output (writes.Print parts))

abbrev decimal : NumExpr → PrintPart
decimal x = prints.Number Decimal x

abbrev text : ℕ → PrintPart
text number = prints.Text (str.Literal number)

abbrev print_one : NumExpr → Item
print_one x = print_parts (decimal x ∷ [])

abbrev goto : ℕ → Item
goto line = item.Stmt (stmt.Flow (flow.Goto line))

abbrev let_be : ℕ → NumExpr → Item
let_be name x = item.Stmt (stmt.Assign (assigns.Number (target.Variable (var.Simple name)) x))

-- a run that is over, and one that goes on
abbrev ends : List ℕ → Report → Outcome
ends output report = Over output (zeros arena_bytes) report

abbrev goes_on : List ℕ → Outcome
goes_on output = Going output (zeros arena_bytes)

-- what stands on the output where line 10 fails
abbrev failure : List ℕ → List ℕ
failure message = new_line ++ message ++ codes " at line 10" ++ new_line

-- the empty program is over at once
example_empty : (input : List ℕ) → source_run (program [] [] []) input 0 ≡ ends [] Done
unfolding source_run execute
example_empty input = refl

-- 10 END: it takes its step
ends_later : (input : List ℕ) → source_run (program (a_line 10 (item.Stmt (stmt.Flow flow.End) ∷ []) ∷ []) [] []) input 0 ≡ goes_on []
unfolding source_run execute
ends_later input = refl

ends_at_one : (input : List ℕ) → source_run (program (a_line 10 (item.Stmt (stmt.Flow flow.End) ∷ []) ∷ []) [] []) input 1 ≡ ends [] Done
unfolding source_run execute
ends_at_one input = refl

-- 10 PRINT 5
prints_five : (input : List ℕ) → source_run (program (a_line 10 (print_one (number 5) ∷ []) ∷ []) [] []) input 1 ≡ ends (spaces 9 ++ codes "5" ++ new_line) Done
unfolding source_run execute print evaluate digits hidden-the_row-NumExpr-0 hidden
prints_five input = refl

-- 10 PRINT 1;2,3
prints_fields : (input : List ℕ) → source_run (program (a_line 10 (print_parts
    (decimal (number 1) ∷ prints.Semicolon ∷ decimal (number 2) ∷ prints.Comma ∷ decimal (number 3) ∷ []) ∷ []) ∷ []) [] []) input 1
    ≡ ends (spaces 9 ++ codes "12" ++ spaces 18 ++ codes "3" ++ new_line) Done
unfolding source_run execute print evaluate digits hidden-the_row-NumExpr-0 hidden
prints_fields input = refl

-- 10 PRINT 2147483647+1
sum_too_big : (input : List ℕ) → source_run (program (a_line 10 (print_one (plus (number 2147483647) (number 1)) ∷ []) ∷ []) [] []) input 1
    ≡ ends (failure (codes "Number too big")) (Failed (pos 20) 10)
unfolding source_run execute print evaluate digits hidden-the_row-NumExpr-0 hidden
sum_too_big input = refl

-- 10 PRINT &80000000 DIV -1
quotient_too_big : (input : List ℕ) → source_run (program (a_line 10 (print_one
    (num.Binary op.Divide (num.Number (negsuc 2147483647)) (num.Unary unary.Minus (number 1))) ∷ []) ∷ []) [] []) input 1
    ≡ ends (failure (codes "Number too big")) (Failed (pos 20) 10)
unfolding source_run execute print evaluate digits hidden-the_row-NumExpr-0 hidden
quotient_too_big input = refl

-- 10 PRINT -7 DIV 2;" ";-7 MOD 2;" ";-8>>1;" ";-8>>>28
signs_of_results : (input : List ℕ) → source_run (program (a_line 10 (print_parts
    (decimal (num.Binary op.Divide (minus 7) (number 2)) ∷ prints.Semicolon ∷ text 0 ∷ prints.Semicolon
    ∷ decimal (num.Binary op.Remainder (minus 7) (number 2)) ∷ prints.Semicolon ∷ text 1 ∷ prints.Semicolon
    ∷ decimal (num.Binary op.ShiftRightSigned (minus 8) (number 1)) ∷ prints.Semicolon ∷ text 2 ∷ prints.Semicolon
    ∷ decimal (num.Binary op.ShiftRight (minus 8) (number 28)) ∷ []) ∷ []) ∷ []) [] (codes " " ∷ codes " " ∷ codes " " ∷ [])) input 1
    ≡ ends (spaces 8 ++ codes "-3 -1 -4 15" ++ new_line) Done
unfolding source_run execute print evaluate digits hidden-the_row-NumExpr-0 hidden
signs_of_results input = refl

-- 10 PRINT 2+3*4 DIV 5 AND 7
levels_of_operators : (input : List ℕ) → source_run (program (a_line 10 (print_one (num.Binary op.And
    (plus (number 2) (num.Binary op.Divide (num.Binary op.Multiply (number 3) (number 4)) (number 5))) (number 7)) ∷ []) ∷ []) [] []) input 1
    ≡ ends (spaces 9 ++ codes "4" ++ new_line) Done
unfolding source_run execute print evaluate digits hidden-the_row-NumExpr-0 hidden
levels_of_operators input = refl

-- 10 GOTO 20
no_line : (input : List ℕ) → source_run (program (a_line 10 (goto 20 ∷ []) ∷ []) [] []) input 1
    ≡ ends (failure (codes "No such line")) (Failed (pos 41) 10)
unfolding source_run execute digits
no_line input = refl

-- 10 PRINT x%
never_made : (input : List ℕ) → source_run (program (a_line 10 (print_one (variable 0) ∷ []) ∷ []) (codes "x%" ∷ []) []) input 1
    ≡ ends (failure (codes "Unknown or missing variable")) (Failed (pos 26) 10)
unfolding source_run execute print evaluate digits hidden-the_row-NumExpr-0 hidden
never_made input = refl

-- 10 PRINT X%: a resident integer is always there
resident_is_made : (input : List ℕ) → source_run (program (a_line 10 (print_one (variable 0) ∷ []) ∷ []) (codes "X%" ∷ []) []) input 1
    ≡ ends (spaces 9 ++ codes "0" ++ new_line) Done
unfolding source_run execute print evaluate digits hidden-the_row-NumExpr-0 hidden
resident_is_made input = refl

-- 10 IF 0 THEN PRINT 1 ELSE PRINT 2:IF 1 THEN PRINT 3 ELSE PRINT 4
branches : (input : List ℕ) → source_run (program (a_line 10 (item.If (number 0) ∷ print_one (number 1) ∷ item.Else ∷ print_one (number 2)
    ∷ item.If (number 1) ∷ print_one (number 3) ∷ item.Else ∷ print_one (number 4) ∷ []) ∷ []) [] []) input 10
    ≡ ends (spaces 9 ++ codes "2" ++ new_line ++ spaces 9 ++ codes "3" ++ new_line) Done
unfolding source_run execute print evaluate digits hidden-the_row-NumExpr-0 hidden
branches input = refl

-- 10 PRINT "a";:GOTO 10, within four steps
prints_for_ever : (input : List ℕ) → source_run (program (a_line 10 (print_parts (text 0 ∷ prints.Semicolon ∷ []) ∷ goto 10 ∷ []) ∷ []) [] (codes "a" ∷ [])) input 4
    ≡ goes_on (codes "aa")
unfolding source_run execute print
prints_for_ever input = refl

-- 10 a%=a%+b%: operands go from left to right, so the first one fails
left_operand_first : (input : List ℕ) → source_run (program (a_line 10 (let_be 0 (num.Number (pos 1)) ∷ [])
    ∷ a_line 20 (let_be 0 (plus (num.Binary op.Divide (number 1) (number 0)) (variable 1)) ∷ []) ∷ []) (codes "a%" ∷ codes "b%" ∷ []) []) input 2
    ≡ ends (new_line ++ codes "Division by zero at line 20" ++ new_line) (Failed (pos 18) 20)
unfolding source_run execute evaluate digits hidden-the_row-NumExpr-0 hidden
left_operand_first input = refl

-- 10 PRINT "abc";:CLS:PRINT COUNT: CLS sets the column to 0
clears_column : (input : List ℕ) → source_run (program (a_line 10 (print_parts (text 0 ∷ prints.Semicolon ∷ []) ∷ item.Stmt (stmt.Output writes.Cls)
    ∷ print_one num.Count ∷ []) ∷ []) [] (codes "abc" ∷ [])) input 3
    ≡ ends (codes "abc" ++ 12 ∷ (spaces 9 ++ codes "0" ++ new_line)) Done
unfolding source_run execute print evaluate digits hidden-the_row-NumExpr-0 hidden
clears_column input = refl

-- 10 STOP
stops : (input : List ℕ) → source_run (program (a_line 10 (item.Stmt (stmt.Flow flow.Stop) ∷ []) ∷ []) [] []) input 1 ≡ ends (failure (codes "STOP")) (Failed (pos 0) 10)
unfolding source_run execute digits
stops input = refl

-- 10 PRINT "abcdefghij",1: at a multiple of ten a comma writes nothing
comma_at_ten : (input : List ℕ) → source_run (program (a_line 10 (print_parts (text 0 ∷ prints.Comma ∷ decimal (number 1) ∷ []) ∷ []) ∷ []) [] (codes "abcdefghij" ∷ [])) input 1
    ≡ ends (codes "abcdefghij" ++ spaces 9 ++ codes "1" ++ new_line) Done
unfolding source_run execute print evaluate digits
comma_at_ten input = refl

-- 10 PRINT TAB(3);"a";TAB(1);"b": to a column that is past on a new line
tabs : (input : List ℕ) → source_run (program (a_line 10 (print_parts (prints.Tab (number 3) ∷ prints.Semicolon ∷ text 0 ∷ prints.Semicolon ∷ prints.Tab (number 1)
    ∷ prints.Semicolon ∷ text 1 ∷ []) ∷ []) ∷ []) [] (codes "a" ∷ codes "b" ∷ [])) input 1
    ≡ ends (spaces 3 ++ codes "a" ++ new_line ++ spaces 1 ++ codes "b" ++ new_line) Done
unfolding source_run execute print evaluate
tabs input = refl

-- 10 PRINT SPC 258;1;~255: SPC takes the low byte, and `~` writes hexadecimal digits
spaces_and_hexadecimal : (input : List ℕ) → source_run (program (a_line 10 (print_parts (prints.Spaces (number 258) ∷ prints.Semicolon ∷ decimal (number 1) ∷ prints.Semicolon
    ∷ prints.Number Hexadecimal (number 255) ∷ []) ∷ []) ∷ []) [] []) input 1
    ≡ ends (spaces 2 ++ codes "1FF" ++ new_line) Done
unfolding source_run execute print evaluate digits
spaces_and_hexadecimal input = refl

-- 10 PRINT 1;2'3: a new line doesn't end the writing without padding
unpadded_after_line : (input : List ℕ) → source_run (program (a_line 10 (print_parts (decimal (number 1) ∷ prints.Semicolon ∷ decimal (number 2) ∷ prints.NewLine
    ∷ decimal (number 3) ∷ []) ∷ []) ∷ []) [] []) input 1
    ≡ ends (spaces 9 ++ codes "12" ++ new_line ++ codes "3" ++ new_line) Done
unfolding source_run execute print evaluate digits
unpadded_after_line input = refl

-- 10 VDU 65;66:PRINT COUNT: a word and a byte, which don't count
vdu_counts_nothing : (input : List ℕ) → source_run (program (a_line 10 (item.Stmt (stmt.Output (writes.Vdu (sends.Word (number 65) ∷ sends.Byte (number 66) ∷ [])))
    ∷ print_one num.Count ∷ []) ∷ []) [] []) input 2
    ≡ ends (65 ∷ 0 ∷ 66 ∷ (spaces 9 ++ codes "0" ++ new_line)) Done
unfolding source_run execute print vdu evaluate digits
vdu_counts_nothing input = refl

-- 10 MODE 263:COLOUR -1
low_bytes : (input : List ℕ) → source_run (program (a_line 10 (item.Stmt (stmt.Output (writes.Mode (number 263))) ∷ item.Stmt (stmt.Output (writes.Colour (minus 1))) ∷ []) ∷ []) [] []) input 2
    ≡ ends (22 ∷ 7 ∷ 17 ∷ 255 ∷ []) Done
unfolding source_run execute evaluate hidden-the_row-NumExpr-0 hidden
low_bytes input = refl

-- 10 a%+=1
never_made_before : (input : List ℕ) → source_run (program (a_line 10 (item.Stmt (stmt.Assign (assigns.Add (target.Variable (var.Simple 0)) (number 1))) ∷ []) ∷ [])
    (codes "a%" ∷ []) []) input 1
    ≡ ends (failure (codes "Unknown or missing variable")) (Failed (pos 26) 10)
unfolding source_run execute evaluate digits
never_made_before input = refl

-- 10 A%=5:A%-=7:PRINT ;A%
subtracts : (input : List ℕ) → source_run (program (a_line 10 (let_be 0 (number 5) ∷ item.Stmt (stmt.Assign (assigns.Subtract (target.Variable (var.Simple 0)) (number 7)))
    ∷ print_parts (prints.Semicolon ∷ decimal (variable 0) ∷ []) ∷ []) ∷ []) (codes "A%" ∷ []) []) input 3
    ≡ ends (codes "-2" ++ new_line) Done
unfolding source_run execute print evaluate digits
subtracts input = refl

-- 10 IF 1 THEN 30 / 20 PRINT 1 / 30 REM / 40 PRINT 2: the GOTO after THEN takes a step of its own
abbrev jumping : Prog
jumping = program (a_line 10 (item.If (number 1) ∷ goto 30 ∷ []) ∷ a_line 20 (print_one (number 1) ∷ []) ∷ a_line 30 (item.Remark ∷ []) ∷ a_line 40 (print_one (number 2) ∷ []) ∷ []) [] []

jumps : (input : List ℕ) → source_run jumping input 4 ≡ ends (spaces 9 ++ codes "2" ++ new_line) Done
unfolding source_run execute print evaluate digits
jumps input = refl

one_step_short : (input : List ℕ) → source_run jumping input 3 ≡ goes_on []
unfolding source_run execute evaluate
one_step_short input = refl

-- the third step executes the item at place 3, which is the remark
third_step : (input : List ℕ) → latest_place jumping input 3 ≡ Some 3
unfolding latest_place execute evaluate
third_step input = refl
