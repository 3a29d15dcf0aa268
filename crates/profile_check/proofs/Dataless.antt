-- That only an item DATA has the word DATA: no expression and no plain statement has it.
use Rattle.std.proofs.Common.{◌≡◌, ◌≢◌, ℕ, Bool, false, List, [], ◌∷◌, ◌++◌, Option, refl, sym}
use Rattle.std.specs.List.{AllByRecursion}
use Rattle.bas_ast.specs.declared.expressions.Any.{Any}
use Rattle.bas_ast.specs.declared.expressions.NumExpr.{NumExpr}
use Rattle.bas_ast.specs.declared.expressions.StrExpr.{StrExpr}
use Rattle.bas_ast.specs.declared.expressions.Variable.{Variable}
use Rattle.bas_ast.specs.declared.keywords.Keyword.{Keyword}
use Rattle.bas_ast.specs.declared.keywords.Keyword.TheVariants as word
use Rattle.bas_ast.specs.declared.lines.Formal.{Formal}
use Rattle.bas_ast.specs.declared.statements.Assignment.{Assignment}
use Rattle.bas_ast.specs.declared.statements.DimPart.{DimPart}
use Rattle.bas_ast.specs.declared.statements.InputPart.{InputPart}
use Rattle.bas_ast.specs.declared.statements.PrintPart.{PrintPart}
use Rattle.bas_ast.specs.declared.statements.Stmt.{Stmt}
use Rattle.bas_ast.specs.declared.statements.VduPart.{VduPart}
use Rattle.bas_ast.specs.declared.targets.NumTarget.{NumTarget}
use Rattle.bas_ast.specs.declared.targets.SimpleVariable.{SimpleVariable}
use Rattle.bas_ast.specs.declared.targets.StrTarget.{StrTarget}
use Rattle.bas_ast.specs.declared.targets.Target.{Target}
use Rattle.bas_ast.specs.declared.terminals.Terminal.{Terminal}
use Rattle.bas_ast.specs.declared.terminals.Terminal.TheVariants as t
use Rattle.bas_ast.specs.Words.{Role, NoRole, Alone, AloneText, BeforeNumber, BeforeText, TextBeforeNumber, TakesPart, role}
use Rattle.bas_ast.specs.Expressions as e
use Rattle.bas_ast.specs.Expressions.{IsNum, IsStr, IsVar, IsStrVar, IsSubscripts, IsArguments, IsAny, IsEnd}
use Rattle.bas_ast.specs.Operands as o
use Rattle.bas_ast.specs.Operands.{IsNumTarget, IsStrTarget, IsTarget, IsSimple, IsFormal, IsFormals, IsDimPart, IsIntName, IsLineRef, Slot, ValueOf, Values, IsOperand, IsOperands, IsList}
use Rattle.bas_ast.specs.Statements as s
use Rattle.bas_ast.specs.Statements.{Form, OwnForm, Takes, Lists, form, IsPrint, IsVdu, IsSeparator, IsInput, IsAssignment, IsStmt}
use Rattle.profile_check.specs.Tables.{is_data}

-- no terminal is the word DATA
abbrev pub Dataless : List Terminal → Type 0
Dataless a = AllByRecursion (λ c. is_data c ≡ false) a

pub joined : (a b : List Terminal) → Dataless a → Dataless b → Dataless (a ++ b)
joined [] b x y = y
joined (c ∷ a) b x y = (x.0, joined a b x.1 y)

-- two lists with a terminal between
between : (a b : List Terminal) (c : Terminal) → Dataless a → is_data c ≡ false → Dataless b → Dataless (a ++ c ∷ b)
between a b c x is y = joined a (c ∷ b) x (is, y)

-- a list with a terminal after it
ended : (a : List Terminal) (c : Terminal) → Dataless a → is_data c ≡ false → Dataless (a ++ c ∷ [])
ended a c x is = between a [] c x is tt

pub role_dataless : (c : Terminal) (r : Role) → role c ≡ r → r ≢ NoRole → is_data c ≡ false
role_dataless (t.Keyword word.Data) r is some = absurd (some (sym is))
role_dataless _ r is some = refl

mutual
  num_dataless : (l : ℕ) (a : List Terminal) (x : NumExpr) → IsNum l a x → Dataless a
  num_dataless l a x (e.alone _ c _ is) = (role_dataless c (Alone x) is (λ n. cc), tt)
  num_dataless l a x (e.variable _ _ v d) = var_dataless a v d
  num_dataless l a x (e.indirect_sum _ a' b v w y k d d') = between a' b (t.Indirection w) (var_dataless a' v d) refl (num_dataless 7 b y d')
  num_dataless l a x (e.bracket _ a' y d) = (refl, ended a' t.Close (num_dataless 1 a' y d) refl)
  num_dataless l a x (e.before _ c f a' y is d) = (role_dataless c (BeforeNumber f) is (λ n. cc), num_dataless 6 a' y d)
  num_dataless l a x (e.before_text _ c f a' y is d) = (role_dataless c (BeforeText f) is (λ n. cc), text_dataless 6 a' y d)
  num_dataless l a x (e.instr _ a' b q y z m d d' k) =
      (refl, between a' (b ++ q) t.Comma (text_dataless 4 a' y d) refl (joined b q (text_dataless 4 b z d') (end_dataless q m k)))
  num_dataless l a x (e.function _ n a' xs d) = (refl, arguments_dataless a' xs d)
  num_dataless l a x (e.binary _ op a' b y z k d d') =
      between a' b (t.Operator op) (num_dataless _ a' y d) refl (num_dataless _ b z d')
  num_dataless l a x (e.compare_text _ c a' b y z k d d') =
      between a' b _ (text_dataless 4 a' y d) refl (text_dataless 4 b z d')

  text_dataless : (l : ℕ) (a : List Terminal) (y : StrExpr) → IsStr l a y → Dataless a
  text_dataless l a y (e.text_alone _ c _ is) = (role_dataless c (AloneText y) is (λ n. cc), tt)
  text_dataless l a y (e.text_variable _ _ v d) = text_var_dataless a v d
  text_dataless l a y (e.text_bracket _ a' z d) = (refl, ended a' t.Close (text_dataless 4 a' z d) refl)
  text_dataless l a y (e.text_before _ c f a' x is d) = (role_dataless c (TextBeforeNumber f) is (λ n. cc), num_dataless 6 a' x d)
  text_dataless l a y (e.written _ a' x d) = (refl, num_dataless 6 a' x d)
  text_dataless l a y (e.written_hexadecimal _ a' x d) = (refl, (refl, num_dataless 6 a' x d))
  text_dataless l a y (e.part _ c side a' q z m is d k) =
      (role_dataless c (TakesPart side) is (λ n. cc), joined a' q (text_dataless 4 a' z d) (end_dataless q m k))
  text_dataless l a y (e.middle _ a' b q z x m d d' k) =
      (refl, between a' (b ++ q) t.Comma (text_dataless 4 a' z d) refl (joined b q (num_dataless 1 b x d') (end_dataless q m k)))
  text_dataless l a y (e.copies _ a' b x z d d') =
      (refl, between a' (b ++ t.Close ∷ []) t.Comma (num_dataless 1 a' x d) refl (ended b t.Close (text_dataless 4 b z d') refl))
  text_dataless l a y (e.text_function _ n a' xs d) = (refl, arguments_dataless a' xs d)
  text_dataless l a y (e.join _ a' b z v k d d') = between a' b _ (text_dataless 4 a' z d) refl (text_dataless 6 b v d')

  var_dataless : (a : List Terminal) (v : Variable) → IsVar a v → Dataless a
  var_dataless a v (e.simple n) = (refl, tt)
  var_dataless a v (e.element n a' xs d) = (refl, subscripts_dataless a' xs d)

  text_var_dataless : (a : List Terminal) (v : Variable) → IsStrVar a v → Dataless a
  text_var_dataless a v (e.text_simple n) = (refl, tt)
  text_var_dataless a v (e.text_element n a' xs d) = (refl, subscripts_dataless a' xs d)

  subscripts_dataless : (a : List Terminal) (xs : List NumExpr) → IsSubscripts a xs → Dataless a
  subscripts_dataless a xs (e.last_subscript a' x d) = ended a' t.Close (num_dataless 1 a' x d) refl
  subscripts_dataless a xs (e.more_subscripts a' b x ys d d') = between a' b t.Comma (num_dataless 1 a' x d) refl (subscripts_dataless b ys d')

  arguments_dataless : (a : List Terminal) (xs : List Any) → IsArguments a xs → Dataless a
  arguments_dataless a xs (e.last_argument a' x d) = ended a' t.Close (any_dataless a' x d) refl
  arguments_dataless a xs (e.more_arguments a' b x ys d d') = between a' b t.Comma (any_dataless a' x d) refl (arguments_dataless b ys d')

  any_dataless : (a : List Terminal) (x : Any) → IsAny a x → Dataless a
  any_dataless a x (e.number _ y d) = num_dataless 1 a y d
  any_dataless a x (e.text _ y d) = text_dataless 4 a y d

  end_dataless : (a : List Terminal) (m : Option NumExpr) → IsEnd a m → Dataless a
  end_dataless a m e.absent = (refl, tt)
  end_dataless a m (e.present a' x d) = (refl, ended a' t.Close (num_dataless 1 a' x d) refl)

pub number_dataless : (l : ℕ) (a : List Terminal) (x : NumExpr) → IsNum l a x → Dataless a
number_dataless l a x d = num_dataless l a x d

pub value_dataless : (a : List Terminal) (x : Any) → IsAny a x → Dataless a
value_dataless a x d = any_dataless a x d

-- ---- operands

num_target_dataless : (a : List Terminal) (v : NumTarget) → IsNumTarget a v → Dataless a
num_target_dataless a v (o.to_variable _ w d) = var_dataless a w d
num_target_dataless a v (o.to_memory w a' x d) = (refl, num_dataless 6 a' x d)
num_target_dataless a v (o.to_memory_sum a' b u w x d d') = between a' b _ (var_dataless a' u d) refl (num_dataless 7 b x d')

text_target_dataless : (a : List Terminal) (v : StrTarget) → IsStrTarget a v → Dataless a
text_target_dataless a v (o.text_to_variable _ w d) = text_var_dataless a w d
text_target_dataless a v (o.text_to_memory a' x d) = (refl, num_dataless 6 a' x d)

target_dataless : (a : List Terminal) (v : Target) → IsTarget a v → Dataless a
target_dataless a v (o.number_target _ w d) = num_target_dataless a w d
target_dataless a v (o.text_target _ w d) = text_target_dataless a w d

simple_dataless : (a : List Terminal) (v : SimpleVariable) → IsSimple a v → Dataless a
simple_dataless a v (o.simple_number n) = (refl, tt)
simple_dataless a v (o.simple_text n) = (refl, tt)

formal_dataless : (a : List Terminal) (f : Formal) → IsFormal a f → Dataless a
formal_dataless a f (o.by_value _ v d) = simple_dataless a v d
formal_dataless a f (o.by_return a' v d) = (refl, simple_dataless a' v d)

pub formals_dataless : (a : List Terminal) (fs : List Formal) → IsFormals a fs → Dataless a
formals_dataless a fs (o.last_formal a' f d) = ended a' t.Close (formal_dataless a' f d) refl
formals_dataless a fs (o.more_formals a' b f gs d d') = between a' b t.Comma (formal_dataless a' f d) refl (formals_dataless b gs d')

dim_dataless : (a : List Terminal) (p : DimPart) → IsDimPart a p → Dataless a
dim_dataless a p (o.dim_bytes n a' x d) = (refl, num_dataless 1 a' x d)
dim_dataless a p (o.dim_numbers n a' xs d) = (refl, subscripts_dataless a' xs d)
dim_dataless a p (o.dim_texts n a' xs d) = (refl, subscripts_dataless a' xs d)

int_name_dataless : (a : List Terminal) (n : ℕ) → IsIntName a n → Dataless a
int_name_dataless a n (o.int_name _) = (refl, tt)

line_dataless : (a : List Terminal) (n : ℕ) → IsLineRef a n → Dataless a
line_dataless a n (o.line_ref _) = (refl, tt)

operand_dataless : (slot : Slot) (a : List Terminal) (v : ValueOf slot) → IsOperand slot a v → Dataless a
operand_dataless o.ANumber a v d = num_dataless 1 a v d
operand_dataless o.AText a v d = text_dataless 4 a v d
operand_dataless o.AnExpression a v d = any_dataless a v d
operand_dataless o.ATarget a v d = target_dataless a v d
operand_dataless o.AVariable a v d = simple_dataless a v d
operand_dataless o.AnIntName a v d = int_name_dataless a v d
operand_dataless o.ADimPart a v d = dim_dataless a v d
operand_dataless o.ALine a v d = line_dataless a v d

operands_dataless : (slots : List Slot) (a : List Terminal) (vs : Values slots) → IsOperands slots a vs → Dataless a
operands_dataless slots a vs o.no_operand = tt
operands_dataless slots a vs (o.last_operand slot _ v d) = operand_dataless slot a v d
operands_dataless slots a vs (o.more_operands slot slot' others a' b v ws d d') =
    between a' b t.Comma (operand_dataless slot a' v d) refl (operands_dataless (slot' ∷ others) b ws d')

pub list_dataless : (slot : Slot) (a : List Terminal) (vs : List (ValueOf slot)) → IsList slot a vs → Dataless a
list_dataless slot a vs (o.last_of_list _ v d) = operand_dataless slot a v d
list_dataless slot a vs (o.more_of_list a' b v ws d d') = between a' b t.Comma (operand_dataless slot a' v d) refl (list_dataless slot b ws d')

-- ---- statements

print_dataless : (b : Bool) (a : List Terminal) (ps : List PrintPart) → IsPrint b a ps → Dataless a
print_dataless b a ps (s.printed _) = tt
print_dataless b a ps (s.print_comma _ r qs d) = (refl, print_dataless false r qs d)
print_dataless b a ps (s.print_semicolon _ r qs d) = (refl, print_dataless false r qs d)
print_dataless b a ps (s.print_new_line _ r qs d) = (refl, print_dataless false r qs d)
print_dataless b a ps (s.print_number _ a' r x qs k d d') = joined a' r (num_dataless 1 a' x d) (print_dataless _ r qs d')
print_dataless b a ps (s.print_hexadecimal _ a' r x qs d d') = (refl, joined a' r (num_dataless 1 a' x d) (print_dataless _ r qs d'))
print_dataless b a ps (s.print_text _ a' r y qs d d') = joined a' r (text_dataless 4 a' y d) (print_dataless _ r qs d')
print_dataless b a ps (s.print_spaces _ a' r x qs d d') = (refl, joined a' r (num_dataless 6 a' x d) (print_dataless _ r qs d'))
print_dataless b a ps (s.print_tab _ a' r x qs d d') = (refl, between a' r t.Close (num_dataless 1 a' x d) refl (print_dataless false r qs d'))

vdu_dataless : (a : List Terminal) (ps : List VduPart) → IsVdu a ps → Dataless a
vdu_dataless a ps (s.last_byte _ x d) = num_dataless 1 a x d
vdu_dataless a ps (s.last_word a' x d) = ended a' t.Semicolon (num_dataless 1 a' x d) refl
vdu_dataless a ps (s.more_byte a' r x qs d d') = between a' r t.Comma (num_dataless 1 a' x d) refl (vdu_dataless r qs d')
vdu_dataless a ps (s.more_word a' r x qs d d') = between a' r t.Semicolon (num_dataless 1 a' x d) refl (vdu_dataless r qs d')

separator_dataless : (c : Terminal) → IsSeparator c → is_data c ≡ false
separator_dataless c s.by_comma = refl
separator_dataless c s.by_semicolon = refl

input_dataless : (b : Bool) (a : List Terminal) (ps : List InputPart) → IsInput b a ps → Dataless a
input_dataless b a ps (s.last_prompt _ n) = (refl, tt)
input_dataless b a ps (s.prompt_apart _ n c r qs is d) = (refl, (separator_dataless c is, input_dataless false r qs d))
input_dataless b a ps (s.prompt_direct _ n r qs d) = (refl, input_dataless _ r qs d)
input_dataless b a ps (s.last_target _ _ v d) = target_dataless a v d
input_dataless b a ps (s.target_apart _ a' v c r qs d is d') = between a' r c (target_dataless a' v d) (separator_dataless c is) (input_dataless false r qs d')

assignment_dataless : (a : List Terminal) (x : Assignment) → IsAssignment a x → Dataless a
assignment_dataless a x (s.assign_number a' b v y d d') = between a' b _ (num_target_dataless a' v d) refl (num_dataless 1 b y d')
assignment_dataless a x (s.assign_text a' b v y d d') = between a' b _ (text_target_dataless a' v d) refl (text_dataless 4 b y d')

form_dataless : (c : Keyword) (f : Form) → form c ≡ f → f ≢ OwnForm → is_data (t.Keyword c) ≡ false
form_dataless word.Data f is some = absurd (some (sym is))
form_dataless _ f is some = refl

pub stmt_dataless : (a : List Terminal) (x : Stmt) → IsStmt a x → Dataless a
stmt_dataless a x (s.takes c slots f a' vs is d) = (form_dataless c (Takes slots f) is (λ n. cc), operands_dataless slots a' vs d)
stmt_dataless a x (s.lists c slot f a' vs is d) = (form_dataless c (Lists slot f) is (λ n. cc), list_dataless slot a' vs d)
stmt_dataless a x (s.assign _ y d) = assignment_dataless a y d
stmt_dataless a x (s.let_assign a' y d) = (refl, assignment_dataless a' y d)
stmt_dataless a x (s.add a' b v y d d') = between a' b _ (num_target_dataless a' v d) refl (num_dataless 1 b y d')
stmt_dataless a x (s.append a' b v y d d') = between a' b _ (text_target_dataless a' v d) refl (text_dataless 4 b y d')
stmt_dataless a x (s.subtract a' b v y d d') = between a' b _ (num_target_dataless a' v d) refl (num_dataless 1 b y d')
stmt_dataless a x (s.swap_numbers a' b v w d d') = (refl, between a' b t.Comma (num_target_dataless a' v d) refl (num_target_dataless b w d'))
stmt_dataless a x (s.swap_texts a' b v w d d') = (refl, between a' b t.Comma (text_target_dataless a' v d) refl (text_target_dataless b w d'))
stmt_dataless a x (s.for n a' b y z d d') = (refl, (refl, (refl, between a' b _ (num_dataless 1 a' y d) refl (num_dataless 1 b z d'))))
stmt_dataless a x (s.for_step n a' b q y z w d d' k) =
    (refl, (refl, (refl, between a' _ _ (num_dataless 1 a' y d) refl (between b q _ (num_dataless 1 b z d') refl (num_dataless 1 q w k)))))
stmt_dataless a x s.next = (refl, tt)
stmt_dataless a x (s.next_of a' ns d) = (refl, list_dataless o.AnIntName a' ns d)
stmt_dataless a x (s.procedure n) = (refl, tt)
stmt_dataless a x (s.procedure_open n a' xs d) = (refl, arguments_dataless a' xs d)
stmt_dataless a x (s.result a' y d) = (refl, any_dataless a' y d)
stmt_dataless a x s.local_error = (refl, (refl, tt))
stmt_dataless a x s.restore_error = (refl, (refl, tt))
stmt_dataless a x s.on_error_off = (refl, (refl, (refl, tt)))
stmt_dataless a x (s.print a' ps d) = (refl, print_dataless false a' ps d)
stmt_dataless a x (s.vdu a' ps d) = (refl, vdu_dataless a' ps d)
stmt_dataless a x (s.input a' ps d) = (refl, input_dataless false a' ps d)
stmt_dataless a x (s.input_line a' ps d) = (refl, (refl, input_dataless false a' ps d))
stmt_dataless a x s.restore = (refl, tt)
stmt_dataless a x (s.restore_line n) = (refl, (refl, tt))
