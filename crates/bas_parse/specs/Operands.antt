-- The parser of the operands of statements as functions on lists: what stands at the front of a list of terminals, and what is left
-- of the list.
use Rattle.std.specs.Prelude.{ℕ, zero, suc, Bool, true, false, List, [], ◌∷◌, ◌++◌, length, Some, None}
use Rattle.bas_ast.specs.declared.expressions.Variable.{Variable}
use Rattle.bas_ast.specs.declared.expressions.Variable.TheVariants as var
use Rattle.bas_ast.specs.declared.expressions.Width.{Width}
use Rattle.bas_ast.specs.declared.keywords.Keyword.TheVariants as word
use Rattle.bas_ast.specs.declared.lines.Formal.{Formal}
use Rattle.bas_ast.specs.declared.statements.DimPart.{DimPart}
use Rattle.bas_ast.specs.declared.statements.DimPart.TheVariants as dim
use Rattle.bas_ast.specs.declared.targets.NumTarget.TheVariants as num_target
use Rattle.bas_ast.specs.declared.targets.SimpleVariable.{SimpleVariable}
use Rattle.bas_ast.specs.declared.targets.SimpleVariable.TheVariants as simple
use Rattle.bas_ast.specs.declared.targets.StrTarget.TheVariants as str_target
use Rattle.bas_ast.specs.declared.targets.Target.{Target}
use Rattle.bas_ast.specs.declared.targets.Target.TheVariants as target
use Rattle.bas_ast.specs.declared.terminals.Terminal.TheVariants as t
use Rattle.bas_ast.specs.Operands.{Slot, ANumber, AText, AnExpression, ATarget, AVariable, AnIntName, ADimPart, ALine, ValueOf, Values}
use Rattle.expr_parse.specs.Parse.{Parser, on_front, or_front, on_some, after_comma, row_on, longest_num, longest_text}
use Rattle.expr_parse.specs.Operands.{longest_any, longest_operand, longest_offset, whole_subscripts}

-- where a number is stored, after its variable
unfoldable pub placed : Variable → Parser Target
placed v r = or_front (longest_offset r) (λ z q. Some (target.Number (num_target.IndirectSum z.0 v z.1), q))
    (Some (target.Number (num_target.Variable v), r))

-- where a value is stored, after the name of an array of numbers
abbrev pub element_target : ℕ → Parser Target
element_target n r = on_front (whole_subscripts r) (λ xs q. placed (var.Element n xs) q)

-- the same after the name of an array of strings
abbrev pub text_element_target : ℕ → Parser Target
text_element_target n r = on_front (whole_subscripts r) (λ xs q. Some (target.Text (str_target.Variable (var.Element n xs)), q))

-- where a value is stored, after `?` or `!`
abbrev pub indirect_target : Width → Parser Target
indirect_target w r = on_front (longest_operand r) (λ x q. Some (target.Number (num_target.Indirect w x), q))

-- the same after `$`
abbrev pub text_indirect_target : Parser Target
text_indirect_target r = on_front (longest_operand r) (λ x q. Some (target.Text (str_target.Indirect x), q))

-- where a value of either kind is stored
unfoldable pub target_at : Parser Target
target_at (t.IntName n ∷ r) = placed (var.Simple n) r
target_at (t.IntArray n ∷ r) = element_target n r
target_at (t.StrName n ∷ r) = Some (target.Text (str_target.Variable (var.Simple n)), r)
target_at (t.StrArray n ∷ r) = text_element_target n r
target_at (t.Indirection w ∷ r) = indirect_target w r
target_at (t.Dollar ∷ r) = text_indirect_target r
target_at _ = None

-- a variable that is no array's element
unfoldable pub simple_at : Parser SimpleVariable
simple_at (t.IntName n ∷ r) = Some (simple.Number n, r)
simple_at (t.StrName n ∷ r) = Some (simple.Text n, r)
simple_at _ = None

-- a variable of FOR and NEXT
unfoldable pub int_name_at : Parser ℕ
int_name_at (t.IntName n ∷ r) = Some (n, r)
int_name_at _ = None

-- a reference to a line
unfoldable pub line_at : Parser ℕ
line_at (t.LineRef n ∷ r) = Some (n, r)
line_at _ = None

-- a part of DIM, after its name
abbrev pub dim_bytes : ℕ → Parser DimPart
dim_bytes n r = on_front (longest_num r) (λ x q. Some (dim.Bytes n x, q))

-- an array of numbers in DIM, after its name
abbrev pub dim_numbers : ℕ → Parser DimPart
dim_numbers n r = on_front (whole_subscripts r) (λ xs q. Some (dim.Numbers n xs, q))

-- an array of strings in DIM, after its name
abbrev pub dim_texts : ℕ → Parser DimPart
dim_texts n r = on_front (whole_subscripts r) (λ xs q. Some (dim.Texts n xs, q))

-- a part of DIM
unfoldable pub dim_part_at : Parser DimPart
dim_part_at (t.IntName n ∷ r) = dim_bytes n r
dim_part_at (t.IntArray n ∷ r) = dim_numbers n r
dim_part_at (t.StrArray n ∷ r) = dim_texts n r
dim_part_at _ = None

-- an operand of a kind
abbrev pub operand_at : (s : Slot) → Parser (ValueOf s)
operand_at ANumber = longest_num
operand_at AText = longest_text
operand_at AnExpression = longest_any
operand_at ATarget = target_at
operand_at AVariable = simple_at
operand_at AnIntName = int_name_at
operand_at ADimPart = dim_part_at
operand_at ALine = line_at

-- goes on after fixed operands with commas between
abbrev pub on_operands : {B : Type 0} (ss : List Slot) → (Values ss → Parser B) → Parser B
on_operands [] go r = go tt r
on_operands (s ∷ []) go r = on_front (operand_at s r) (λ v q. go (v, tt) q)
on_operands (s ∷ s' ∷ ss) go r =
    on_front (operand_at s r) (λ v q. on_some (after_comma q) (λ q1. on_operands (s' ∷ ss) (λ vs q2. go (v, vs) q2) q1) None)

-- operands of one kind after those that were read, with commas between
unfoldable pub list_from : {A : Type 0} → Parser A → ℕ → List A → Parser (List A)
list_from item zero xs r = None
list_from item (suc k) xs r =
    on_front (item r) (λ x q. on_some (after_comma q) (λ q1. list_from item k (xs ++ x ∷ []) q1) (Some (xs ++ x ∷ [], q)))

-- one operand or more of one kind, with commas between
unfoldable pub list_of : {A : Type 0} → Parser A → Parser (List A)
list_of item r = list_from item (suc (length r)) [] r

-- a formal parameter, which goes back to its argument or doesn't
unfoldable pub formal_by : Bool → Parser Formal
formal_by returns r = on_front (simple_at r) (λ v q. Some (record { returns = returns; variable = v }, q))

-- a formal parameter
unfoldable pub formal_at : Parser Formal
formal_at (t.Keyword word.Return ∷ r) = formal_by true r
formal_at r = formal_by false r

-- formal parameters after those that were read, with the bracket that closes them
unfoldable pub formals_from : ℕ → List Formal → Parser (List Formal)
formals_from zero fs r = None
formals_from (suc k) fs r = on_front (formal_at r) (λ f q. row_on (formals_from k) (fs ++ f ∷ []) q)

-- formal parameters, with the bracket that closes them
unfoldable pub formals_at : Parser (List Formal)
formals_at r = formals_from (suc (length r)) [] r
