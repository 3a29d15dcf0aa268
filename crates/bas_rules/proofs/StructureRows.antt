-- Rows of the structures over lines: nested, crossed and without their end, with the first line that has none. No line of a structure
-- has a meaning yet, so no file can show them.
use Rattle.std.proofs.Common.{◌≡◌, ℕ, ◌+◌, List, [], ◌∷◌, Some, None, refl}
use Rattle.bas_ast.specs.declared.expressions.Any.TheVariants as any
use Rattle.bas_ast.specs.declared.expressions.NumExpr.TheVariants as num
use Rattle.bas_ast.specs.declared.lines.Head.TheVariants as head
use Rattle.bas_ast.specs.declared.lines.Item.{Item}
use Rattle.bas_ast.specs.declared.lines.Item.TheVariants as item
use Rattle.bas_ast.specs.declared.program.ProgLine.{ProgLine}
use Rattle.bas_ast.specs.declared.statements.Flow.TheVariants as flow
use Rattle.bas_ast.specs.declared.statements.Stmt.TheVariants as stmt
use Rattle.bas_rules.specs.Structures.{first_unclosed}

abbrev while_true : Item
while_true = item.Stmt (stmt.Flow (flow.While num.True))

abbrev end_while : Item
end_while = item.Stmt (stmt.Flow flow.EndWhile)

abbrev block_if : Item
block_if = item.BlockIf num.True

abbrev block_else : Item
block_else = item.Head head.BlockElse

abbrev end_if : Item
end_if = item.Head head.EndIf

abbrev case_of : Item
case_of = item.Case (any.Number num.True)

abbrev when_true : Item
when_true = item.Head (head.When (any.Number num.True ∷ []))

abbrev otherwise : Item
otherwise = item.Head head.Otherwise

abbrev end_case : Item
end_case = item.Head head.EndCase

-- lines of one item each, with these numbers
abbrev lines_from : ℕ → List Item → List ProgLine
lines_from number [] = []
lines_from number (x ∷ xs) = record { number = number; items = x ∷ [] } ∷ lines_from (number + 10) xs

abbrev program : List Item → List ProgLine
program xs = lines_from 10 xs

-- ---- WHILE

while_closed : first_unclosed (program (while_true ∷ end_while ∷ [])) ≡ None
while_closed = refl

whiles_nested : first_unclosed (program (while_true ∷ while_true ∷ end_while ∷ end_while ∷ [])) ≡ None
whiles_nested = refl

-- the inner one takes the end, and the outer one has none
outer_while_open : first_unclosed (program (while_true ∷ while_true ∷ end_while ∷ [])) ≡ Some 10
outer_while_open = refl

last_while_open : first_unclosed (program (while_true ∷ end_while ∷ while_true ∷ [])) ≡ Some 30
last_while_open = refl

-- an end before it is none of its own, and one that ends nothing is no matter of structure
while_after_end : first_unclosed (program (end_while ∷ while_true ∷ [])) ≡ Some 20
while_after_end = refl

end_alone : first_unclosed (program (end_while ∷ end_if ∷ end_case ∷ [])) ≡ None
end_alone = refl

-- both on one line
whiles_on_a_line : first_unclosed (record { number = 10; items = while_true ∷ while_true ∷ end_while ∷ [] } ∷ record { number = 20; items = end_while ∷ [] } ∷ []) ≡ None
whiles_on_a_line = refl

-- ---- IF

if_closed : first_unclosed (program (block_if ∷ end_if ∷ [])) ≡ None
if_closed = refl

if_with_else : first_unclosed (program (block_if ∷ block_else ∷ end_if ∷ [])) ≡ None
if_with_else = refl

-- the IF has its ELSE, which has no end
else_open : first_unclosed (program (block_if ∷ block_else ∷ [])) ≡ Some 20
else_open = refl

ifs_nested : first_unclosed (program (block_if ∷ block_if ∷ block_else ∷ end_if ∷ block_else ∷ end_if ∷ [])) ≡ None
ifs_nested = refl

-- the inner one takes the ELSE and the end
outer_if_open : first_unclosed (program (block_if ∷ block_if ∷ block_else ∷ end_if ∷ [])) ≡ Some 10
outer_if_open = refl

-- ---- CASE

case_closed : first_unclosed (program (case_of ∷ when_true ∷ otherwise ∷ end_case ∷ [])) ≡ None
case_closed = refl

case_open : first_unclosed (program (case_of ∷ when_true ∷ [])) ≡ Some 10
case_open = refl

when_open : first_unclosed (program (case_of ∷ end_case ∷ when_true ∷ [])) ≡ Some 30
when_open = refl

otherwise_open : first_unclosed (program (otherwise ∷ case_of ∷ end_case ∷ [])) ≡ Some 10
otherwise_open = refl

cases_nested : first_unclosed (program (case_of ∷ when_true ∷ case_of ∷ end_case ∷ end_case ∷ [])) ≡ None
cases_nested = refl

-- ---- crossed, and of several kinds

-- each kind is counted by itself
crossed : first_unclosed (program (while_true ∷ block_if ∷ case_of ∷ end_while ∷ end_if ∷ end_case ∷ [])) ≡ None
crossed = refl

-- the first line over all kinds
first_of_kinds : first_unclosed (program (while_true ∷ end_while ∷ block_if ∷ case_of ∷ while_true ∷ [])) ≡ Some 30
first_of_kinds = refl
