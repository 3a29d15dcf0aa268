-- The grammar of expressions: which lists of terminals are spelled out by which tree (BBC BASIC Reference Manual,
-- expressions, restricted to integers and strings).
--
-- Each kind of expression is a family, and each production a constructor. The families of numbers and strings have a
-- level, the least at which operators are found outside brackets in them, so that a list of a higher level is also one of a
-- lower:
--
--     1  OR, EOR     2  AND     3  comparisons and shifts     4  sums, and strings that are joined     5  products
--     6  an operand
--     7  an operand that isn't a variable with an indirection after it
use Rattle.std.specs.Prelude.{◌≡◌, ℕ, suc, ◌≤◌, List, [], ◌∷◌, ◌++◌, Option, None, Some}
use Rattle.bas_ast.specs.declared.expressions.Any.{Any}
use Rattle.bas_ast.specs.declared.expressions.Any.TheVariants as any
use Rattle.bas_ast.specs.declared.expressions.BinaryOp.{BinaryOp}
use Rattle.bas_ast.specs.declared.expressions.BinaryOp.TheVariants as op
use Rattle.bas_ast.specs.declared.expressions.Comparison.{Comparison}
use Rattle.bas_ast.specs.declared.expressions.NumExpr.{NumExpr}
use Rattle.bas_ast.specs.declared.expressions.NumExpr.TheVariants as num
use Rattle.bas_ast.specs.declared.expressions.NumberFormat.TheVariants as format
use Rattle.bas_ast.specs.declared.expressions.Side.{Side}
use Rattle.bas_ast.specs.declared.expressions.StrExpr.{StrExpr}
use Rattle.bas_ast.specs.declared.expressions.StrExpr.TheVariants as str
use Rattle.bas_ast.specs.declared.expressions.Variable.{Variable}
use Rattle.bas_ast.specs.declared.expressions.Variable.TheVariants as var
use Rattle.bas_ast.specs.declared.expressions.Width.{Width}
use Rattle.bas_ast.specs.declared.keywords.Keyword.TheVariants as word
use Rattle.bas_ast.specs.declared.terminals.Terminal.{Terminal}
use Rattle.bas_ast.specs.declared.terminals.Terminal.TheVariants as t
use Rattle.bas_ast.specs.Words.{Alone, AloneText, BeforeNumber, BeforeText, TextBeforeNumber, TakesPart, role, level, left_level}

mutual
  -- A number.
  pub data IsNum : ℕ → List Terminal → NumExpr → Type 0 where
    alone : (l : ℕ) (c : Terminal) (x : NumExpr) → role c ≡ Alone x → IsNum l (c ∷ []) x
    variable : (l : ℕ) (a : List Terminal) (v : Variable) → IsVar a v → IsNum l a (num.Variable v)
    indirect_sum : (l : ℕ) (a b : List Terminal) (v : Variable) (w : Width) (x : NumExpr) → l ≤ 6 → IsVar a v → IsNum 7 b x
        → IsNum l (a ++ t.Indirection w ∷ b) (num.IndirectSum w v x)
    bracket : (l : ℕ) (a : List Terminal) (x : NumExpr) → IsNum 1 a x → IsNum l (t.Open ∷ (a ++ t.Close ∷ [])) (num.Bracket x)
    before : (l : ℕ) (c : Terminal) (f : NumExpr → NumExpr) (a : List Terminal) (x : NumExpr) → role c ≡ BeforeNumber f
        → IsNum 6 a x → IsNum l (c ∷ a) (f x)
    before_text : (l : ℕ) (c : Terminal) (f : StrExpr → NumExpr) (a : List Terminal) (y : StrExpr) → role c ≡ BeforeText f
        → IsStr 6 a y → IsNum l (c ∷ a) (f y)
    instr : (l : ℕ) (a b e : List Terminal) (y z : StrExpr) (m : Option NumExpr) → IsStr 4 a y → IsStr 4 b z → IsEnd e m
        → IsNum l (t.Keyword word.Instr ∷ (a ++ t.Comma ∷ (b ++ e))) (num.Instr y z m)
    function : (l n : ℕ) (a : List Terminal) (xs : List Any) → IsArguments a xs
        → IsNum l (t.NumFunctionOpen n ∷ a) (num.Function n xs)
    binary : (l : ℕ) (op : BinaryOp) (a b : List Terminal) (x y : NumExpr) → l ≤ level op → IsNum (left_level op) a x
        → IsNum (suc (level op)) b y → IsNum l (a ++ t.Operator op ∷ b) (num.Binary op x y)
    compare_text : (l : ℕ) (c : Comparison) (a b : List Terminal) (y z : StrExpr) → l ≤ 3 → IsStr 4 a y → IsStr 4 b z
        → IsNum l (a ++ t.Operator (op.Compare c) ∷ b) (num.CompareText c y z)

  -- A string.
  pub data IsStr : ℕ → List Terminal → StrExpr → Type 0 where
    text_alone : (l : ℕ) (c : Terminal) (y : StrExpr) → role c ≡ AloneText y → IsStr l (c ∷ []) y
    text_variable : (l : ℕ) (a : List Terminal) (v : Variable) → IsStrVar a v → IsStr l a (str.Variable v)
    text_bracket : (l : ℕ) (a : List Terminal) (y : StrExpr) → IsStr 4 a y
        → IsStr l (t.Open ∷ (a ++ t.Close ∷ [])) (str.Bracket y)
    text_before : (l : ℕ) (c : Terminal) (f : NumExpr → StrExpr) (a : List Terminal) (x : NumExpr) → role c ≡ TextBeforeNumber f
        → IsNum 6 a x → IsStr l (c ∷ a) (f x)
    written : (l : ℕ) (a : List Terminal) (x : NumExpr) → IsNum 6 a x
        → IsStr l (t.Keyword word.Str ∷ a) (str.Written format.Decimal x)
    written_hexadecimal : (l : ℕ) (a : List Terminal) (x : NumExpr) → IsNum 6 a x
        → IsStr l (t.Keyword word.Str ∷ t.Tilde ∷ a) (str.Written format.Hexadecimal x)
    part : (l : ℕ) (c : Terminal) (side : Side) (a e : List Terminal) (y : StrExpr) (m : Option NumExpr) → role c ≡ TakesPart side
        → IsStr 4 a y → IsEnd e m → IsStr l (c ∷ (a ++ e)) (str.Part side y m)
    middle : (l : ℕ) (a b e : List Terminal) (y : StrExpr) (x : NumExpr) (m : Option NumExpr) → IsStr 4 a y → IsNum 1 b x → IsEnd e m
        → IsStr l (t.Keyword word.Mid ∷ (a ++ t.Comma ∷ (b ++ e))) (str.Middle y x m)
    copies : (l : ℕ) (a b : List Terminal) (x : NumExpr) (y : StrExpr) → IsNum 1 a x → IsStr 4 b y
        → IsStr l (t.Keyword word.Copies ∷ (a ++ t.Comma ∷ (b ++ t.Close ∷ []))) (str.Copies x y)
    text_function : (l n : ℕ) (a : List Terminal) (xs : List Any) → IsArguments a xs
        → IsStr l (t.StrFunctionOpen n ∷ a) (str.Function n xs)
    join : (l : ℕ) (a b : List Terminal) (y z : StrExpr) → l ≤ 4 → IsStr 4 a y → IsStr 6 b z
        → IsStr l (a ++ t.Operator op.Add ∷ b) (str.Join y z)

  -- A variable of numbers.
  pub data IsVar : List Terminal → Variable → Type 0 where
    simple : (n : ℕ) → IsVar (t.IntName n ∷ []) (var.Simple n)
    element : (n : ℕ) (a : List Terminal) (xs : List NumExpr) → IsSubscripts a xs → IsVar (t.IntArray n ∷ a) (var.Element n xs)

  -- A variable of strings.
  pub data IsStrVar : List Terminal → Variable → Type 0 where
    text_simple : (n : ℕ) → IsStrVar (t.StrName n ∷ []) (var.Simple n)
    text_element : (n : ℕ) (a : List Terminal) (xs : List NumExpr) → IsSubscripts a xs
        → IsStrVar (t.StrArray n ∷ a) (var.Element n xs)

  -- Subscripts, with the bracket that closes them.
  pub data IsSubscripts : List Terminal → List NumExpr → Type 0 where
    last_subscript : (a : List Terminal) (x : NumExpr) → IsNum 1 a x → IsSubscripts (a ++ t.Close ∷ []) (x ∷ [])
    more_subscripts : (a b : List Terminal) (x : NumExpr) (xs : List NumExpr) → IsNum 1 a x → IsSubscripts b xs
        → IsSubscripts (a ++ t.Comma ∷ b) (x ∷ xs)

  -- Arguments of either kind, with the bracket that closes them.
  pub data IsArguments : List Terminal → List Any → Type 0 where
    last_argument : (a : List Terminal) (x : Any) → IsAny a x → IsArguments (a ++ t.Close ∷ []) (x ∷ [])
    more_arguments : (a b : List Terminal) (x : Any) (xs : List Any) → IsAny a x → IsArguments b xs
        → IsArguments (a ++ t.Comma ∷ b) (x ∷ xs)

  -- An expression of either kind.
  pub data IsAny : List Terminal → Any → Type 0 where
    number : (a : List Terminal) (x : NumExpr) → IsNum 1 a x → IsAny a (any.Number x)
    text : (a : List Terminal) (y : StrExpr) → IsStr 4 a y → IsAny a (any.Text y)

  -- A last number that may be absent, with the bracket that closes the function.
  pub data IsEnd : List Terminal → Option NumExpr → Type 0 where
    absent : IsEnd (t.Close ∷ []) None
    present : (a : List Terminal) (x : NumExpr) → IsNum 1 a x → IsEnd (t.Comma ∷ (a ++ t.Close ∷ [])) (Some x)
