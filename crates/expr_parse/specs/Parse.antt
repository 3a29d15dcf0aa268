-- The parser of expressions as functions on lists: what stands at the front of a list of terminals, and what is left of the
-- list. That it finds the longest expression of the grammar is the law of this crate.
use Rattle.std.specs.Prelude.{ℕ, zero, suc, ◌&&◌, nat_le, List, [], ◌∷◌, ◌++◌, length, Option, Some, None, if◌then◌else◌}
use Rattle.bas_ast.specs.declared.expressions.Any.{Any}
use Rattle.bas_ast.specs.declared.expressions.Any.TheVariants as any
use Rattle.bas_ast.specs.declared.expressions.BinaryOp.{BinaryOp}
use Rattle.bas_ast.specs.declared.expressions.BinaryOp.TheVariants as op
use Rattle.bas_ast.specs.declared.expressions.Comparison.{Comparison}
use Rattle.bas_ast.specs.declared.expressions.NumExpr.{NumExpr}
use Rattle.bas_ast.specs.declared.expressions.NumExpr.TheVariants as num
use Rattle.bas_ast.specs.declared.expressions.NumberFormat.{NumberFormat}
use Rattle.bas_ast.specs.declared.expressions.NumberFormat.TheVariants as format
use Rattle.bas_ast.specs.declared.expressions.Side.{Side}
use Rattle.bas_ast.specs.declared.expressions.StrExpr.{StrExpr}
use Rattle.bas_ast.specs.declared.expressions.StrExpr.TheVariants as str
use Rattle.bas_ast.specs.declared.expressions.Variable.{Variable}
use Rattle.bas_ast.specs.declared.expressions.Variable.TheVariants as var
use Rattle.bas_ast.specs.declared.expressions.Width.{Width}
use Rattle.bas_ast.specs.declared.keywords.Keyword.{Keyword}
use Rattle.bas_ast.specs.declared.keywords.Keyword.TheVariants as word
use Rattle.bas_ast.specs.declared.terminals.Terminal.{Terminal}
use Rattle.bas_ast.specs.declared.terminals.Terminal.TheVariants as t
use Rattle.bas_ast.specs.Words.{Role, Alone, AloneText, BeforeNumber, BeforeText, TextBeforeNumber, TakesPart, role, level, left_level}
use Rattle.expr_parse.specs.declared.found.Found.{Found}
use Rattle.expr_parse.specs.declared.found.Found.TheVariants as found

-- what stands at the front of a list, with the rest, or that nothing does
abbrev pub Front : Type 0 → Type 0
Front A = Option (A × List Terminal)

abbrev pub Parser : Type 0 → Type 0
Parser A = List Terminal → Front A

-- goes on after what was found
unfoldable pub on_front : {A B : Type 0} → Front A → (A → Parser B) → Front B
on_front None go = None
on_front (Some z) go = go z.0 z.1

-- goes on after what was found, or has this
unfoldable pub or_front : {A B : Type 0} → Front A → (A → Parser B) → Front B → Front B
or_front None go other = other
or_front (Some z) go other = go z.0 z.1

-- goes on with what is there, or has this
unfoldable pub on_some : {A B : Type 0} → Option A → (A → B) → B → B
on_some None go other = other
on_some (Some x) go other = go x

-- ---- single terminals at the front

abbrev pub after_close : List Terminal → Option (List Terminal)
after_close (t.Close ∷ r) = Some r
after_close _ = None

abbrev pub after_comma : List Terminal → Option (List Terminal)
after_comma (t.Comma ∷ r) = Some r
after_comma _ = None

abbrev pub after_tilde : List Terminal → Option (List Terminal)
after_tilde (t.Tilde ∷ r) = Some r
after_tilde _ = None

abbrev pub after_plus : List Terminal → Option (List Terminal)
after_plus (t.Operator op.Add ∷ r) = Some r
after_plus _ = None

abbrev pub operator_at : List Terminal → Front BinaryOp
operator_at (t.Operator op ∷ r) = Some (op, r)
operator_at _ = None

abbrev pub comparison_at : List Terminal → Front Comparison
comparison_at (t.Operator (op.Compare c) ∷ r) = Some (c, r)
comparison_at _ = None

abbrev pub indirection_at : List Terminal → Front Width
indirection_at (t.Indirection w ∷ r) = Some (w, r)
indirection_at _ = None

-- ---- roles, one by one

abbrev pub alone : Role → Option NumExpr
alone (Alone x) = Some x
alone _ = None

abbrev pub alone_text : Role → Option StrExpr
alone_text (AloneText y) = Some y
alone_text _ = None

abbrev pub before_number : Role → Option (NumExpr → NumExpr)
before_number (BeforeNumber f) = Some f
before_number _ = None

abbrev pub before_text : Role → Option (StrExpr → NumExpr)
before_text (BeforeText f) = Some f
before_text _ = None

abbrev pub text_before_number : Role → Option (NumExpr → StrExpr)
text_before_number (TextBeforeNumber f) = Some f
text_before_number _ = None

abbrev pub takes_part : Role → Option Side
takes_part (TakesPart side) = Some side
takes_part _ = None

-- ---- kinds

abbrev pub only_number : Found → Parser NumExpr
only_number (found.Number l x) r = Some (x, r)
only_number (found.Text y) r = None

abbrev pub only_text : Found → Parser StrExpr
only_text (found.Number l x) r = None
only_text (found.Text y) r = Some (y, r)

abbrev pub any_of : Found → Parser Any
any_of (found.Number l x) r = Some (any.Number x, r)
any_of (found.Text y) r = Some (any.Text y, r)

-- an expression in brackets, of either kind
abbrev pub bracketed : Found → Found
bracketed (found.Number l x) = found.Number 7 (num.Bracket x)
bracketed (found.Text y) = found.Text (str.Bracket y)

-- a value, where the bracket that closes it stands next
abbrev pub closed : {A : Type 0} → A → Parser A
closed x r = on_some (after_close r) (λ q. Some (x, q)) None

-- the items of a row so far, where the bracket that closes it stands next, or more of it after a comma
abbrev pub row_on : {A : Type 0} → (List A → Parser (List A)) → List A → Parser (List A)
row_on more xs r = on_some (after_close r) (λ q. Some (xs, q)) (on_some (after_comma r) (λ q. more xs q) None)

-- The parser of expressions that lie deeper takes the least level of the operators outside brackets.
module _ (inner : ℕ → Parser Found) where
  unfoldable pub number : ℕ → Parser NumExpr
  number l r = on_front (inner l r) only_number

  unfoldable pub text : ℕ → Parser StrExpr
  text l r = on_front (inner l r) only_text

  unfoldable pub either : Parser Any
  either r = on_front (inner 1 r) any_of

  -- a last number that may be absent, and the bracket
  unfoldable pub end : Parser (Option NumExpr)
  end r = on_some (after_close r) (λ q. Some (None, q)) (on_some (after_comma r) (λ q. on_front (number 1 q) (λ x q'. closed (Some x) q')) None)

  unfoldable pub subscripts_from : ℕ → List NumExpr → Parser (List NumExpr)
  subscripts_from zero xs r = None
  subscripts_from (suc k) xs r = on_front (number 1 r) (λ x q. row_on (subscripts_from k) (xs ++ x ∷ []) q)

  unfoldable pub subscripts : Parser (List NumExpr)
  subscripts r = subscripts_from (length r) [] r

  unfoldable pub arguments_from : ℕ → List Any → Parser (List Any)
  arguments_from zero xs r = None
  arguments_from (suc k) xs r = on_front (either r) (λ x q. row_on (arguments_from k) (xs ++ x ∷ []) q)

  unfoldable pub arguments : Parser (List Any)
  arguments r = arguments_from (length r) [] r

  -- ---- operands

  -- an indirection after a variable
  unfoldable pub offset : ℕ → Parser (Width × NumExpr)
  offset l r = on_front (indirection_at r) (λ w q. if nat_le l 6 then on_front (number 7 q) (λ x q'. Some ((w, x), q')) else None)

  -- what begins with a variable of numbers
  unfoldable pub placed : ℕ → Variable → Parser Found
  placed l v r = or_front (offset l r) (λ z q. Some (found.Number 6 (num.IndirectSum z.0 v z.1), q)) (Some (found.Number 7 (num.Variable v), r))

  unfoldable pub bracket : Parser Found
  bracket r = on_front (inner 1 r) (λ x q. closed (bracketed x) q)

  -- INSTR( after its first string
  abbrev pub instr_from : StrExpr → Parser Found
  instr_from y r = on_front (text 4 r) (λ z q. on_front (end q) (λ m q1. Some (found.Number 7 (num.Instr y z m), q1)))

  unfoldable pub instr : Parser Found
  instr r = on_front (text 4 r) (λ y q. on_some (after_comma q) (λ q1. instr_from y q1) None)

  -- MID$( after its string
  abbrev pub middle_from : StrExpr → Parser Found
  middle_from y r = on_front (number 1 r) (λ x q. on_front (end q) (λ m q1. Some (found.Text (str.Middle y x m), q1)))

  unfoldable pub middle : Parser Found
  middle r = on_front (text 4 r) (λ y q. on_some (after_comma q) (λ q1. middle_from y q1) None)

  unfoldable pub copies : Parser Found
  copies r = on_front (number 1 r) (λ x q. on_some (after_comma q) (λ q1. on_front (text 4 q1) (λ y q2.
      closed (found.Text (str.Copies x y)) q2)) None)

  unfoldable pub part : Side → Parser Found
  part side r = on_front (text 4 r) (λ y q. on_front (end q) (λ m q1. Some (found.Text (str.Part side y m), q1)))

  -- STR$
  abbrev pub written_as : NumberFormat → Parser Found
  written_as f r = on_front (number 6 r) (λ x q. Some (found.Text (str.Written f x), q))

  unfoldable pub written : Parser Found
  written r = on_some (after_tilde r) (λ q. written_as format.Hexadecimal q) (written_as format.Decimal r)

  -- an array's element, and what begins with it
  abbrev pub element : ℕ → ℕ → Parser Found
  element l n r = on_front (subscripts r) (λ xs q. placed l (var.Element n xs) q)

  abbrev pub text_element : ℕ → Parser Found
  text_element n r = on_front (subscripts r) (λ xs q. Some (found.Text (str.Variable (var.Element n xs)), q))

  abbrev pub function : ℕ → Parser Found
  function n r = on_front (arguments r) (λ xs q. Some (found.Number 7 (num.Function n xs), q))

  abbrev pub text_function : ℕ → Parser Found
  text_function n r = on_front (arguments r) (λ xs q. Some (found.Text (str.Function n xs), q))

  -- what begins with a keyword that has punctuation of its own
  abbrev pub worded : Keyword → Parser Found
  worded word.Instr r = instr r
  worded word.Mid r = middle r
  worded word.Copies r = copies r
  worded word.Str r = written r
  worded _ r = None

  -- what begins with a name, a bracket or such a keyword
  unfoldable pub formed : ℕ → Terminal → Parser Found
  formed l (t.IntName n) r = placed l (var.Simple n) r
  formed l (t.IntArray n) r = element l n r
  formed l (t.StrName n) r = Some (found.Text (str.Variable (var.Simple n)), r)
  formed l (t.StrArray n) r = text_element n r
  formed l (t.NumFunctionOpen n) r = function n r
  formed l (t.StrFunctionOpen n) r = text_function n r
  formed l t.Open r = bracket r
  formed l (t.Keyword word) r = worded word r
  formed l _ r = None

  -- a word or a sign, and its operand
  abbrev pub number_after : (NumExpr → NumExpr) → Parser Found
  number_after f r = on_front (number 6 r) (λ x q. Some (found.Number 7 (f x), q))

  abbrev pub number_of_text : (StrExpr → NumExpr) → Parser Found
  number_of_text f r = on_front (text 6 r) (λ y q. Some (found.Number 7 (f y), q))

  abbrev pub text_after : (NumExpr → StrExpr) → Parser Found
  text_after f r = on_front (number 6 r) (λ x q. Some (found.Text (f x), q))

  -- what begins with a word or a sign before an operand
  unfoldable pub prefixed : ℕ → Role → Terminal → Parser Found
  prefixed l k c r =
      on_some (before_number k) (λ f. number_after f r)
      (on_some (before_text k) (λ f. number_of_text f r)
      (on_some (text_before_number k) (λ f. text_after f r)
      (on_some (takes_part k) (λ side. part side r) (formed l c r))))

  -- what begins with a terminal of a role
  unfoldable pub opened : ℕ → Role → Terminal → Parser Found
  opened l k c r =
      on_some (alone k) (λ x. Some (found.Number 7 x, r)) (on_some (alone_text k) (λ y. Some (found.Text y, r)) (prefixed l k c r))

  unfoldable pub operand : ℕ → Parser Found
  operand l [] = None
  operand l (c ∷ r) = opened l (role c) c r

  -- ---- operators

  -- an operator that may follow what stands to its left, and its right operand
  unfoldable pub right : ℕ → ℕ → Parser (BinaryOp × NumExpr)
  right l left r = on_front (operator_at r) (λ op q. if nat_le l (level op) && nat_le (left_level op) left
      then on_front (number (suc (level op)) q) (λ y q1. Some ((op, y), q1)) else None)

  -- a number and what goes on with it
  unfoldable pub num_on : ℕ → ℕ → ℕ → NumExpr → Parser Found
  num_on l zero left x r = Some (found.Number left x, r)
  num_on l (suc k) left x r = or_front (right l left r) (λ z q. num_on l k (level z.0) (num.Binary z.0 x z.1) q) (Some (found.Number left x, r))

  -- a string that is joined
  unfoldable pub joined : ℕ → Parser StrExpr
  joined l r = on_some (after_plus r) (λ q. if nat_le l 4 then text 6 q else None) None

  -- a string that is compared
  unfoldable pub compared_with : ℕ → Parser (Comparison × StrExpr)
  compared_with l r = on_front (comparison_at r) (λ c q. if nat_le l 3 then on_front (text 4 q) (λ z q1. Some ((c, z), q1)) else None)

  -- a string to which nothing more is joined
  unfoldable pub compared : ℕ → StrExpr → Parser Found
  compared l y r = or_front (compared_with l r) (λ z q. num_on l (length q) 3 (num.CompareText z.0 y z.1) q) (Some (found.Text y, r))

  -- a string and what goes on with it
  unfoldable pub text_on : ℕ → ℕ → StrExpr → Parser Found
  text_on l zero y r = compared l y r
  text_on l (suc k) y r = or_front (joined l r) (λ z q. text_on l k (str.Join y z) q) (compared l y r)

  -- an operand and what goes on with it
  unfoldable pub grown : ℕ → Found → Parser Found
  grown l (found.Number left x) r = num_on l (length r) left x r
  grown l (found.Text y) r = text_on l (length r) y r

  unfoldable pub whole : ℕ → Parser Found
  whole l r = on_front (operand l r) (grown l)

-- an expression to a depth
unfoldable pub expression : ℕ → ℕ → Parser Found
expression zero l r = None
expression (suc n) l r = whole (expression n) l r

-- the longest number, and the longest string, at the front
unfoldable pub longest_num : Parser NumExpr
longest_num r = number (expression (suc (length r))) 1 r

unfoldable pub longest_text : Parser StrExpr
longest_text r = text (expression (suc (length r))) 4 r
