-- What the parser does before an expression of the grammar: it reads the whole expression, and perhaps more, where what stands
-- after it goes on with it.
use Rattle.std.proofs.Common.{◌≡◌, ℕ, zero, suc, ◌-◌, ◌<◌, ◌≤◌, false, List, [], ◌∷◌, ◌++◌, length, Option, Some, None, refl, ap, ◌∙◌, append_assoc, length-append, lit≤, arith}
use Rattle.bas_ast.specs.declared.expressions.Any.{Any}
use Rattle.bas_ast.specs.declared.expressions.Any.TheVariants as any
use Rattle.bas_ast.specs.declared.expressions.BinaryOp.{BinaryOp}
use Rattle.bas_ast.specs.declared.expressions.BinaryOp.TheVariants as op
use Rattle.bas_ast.specs.declared.expressions.Comparison.{Comparison}
use Rattle.bas_ast.specs.declared.expressions.NumExpr.{NumExpr}
use Rattle.bas_ast.specs.declared.expressions.NumExpr.TheVariants as num
use Rattle.bas_ast.specs.declared.expressions.NumberFormat.TheVariants as format
use Rattle.bas_ast.specs.declared.expressions.Side.{Side}
use Rattle.bas_ast.specs.declared.expressions.StrExpr.{StrExpr}
use Rattle.bas_ast.specs.declared.expressions.StrExpr.TheVariants as str
use Rattle.bas_ast.specs.declared.expressions.Variable.{Variable}
use Rattle.bas_ast.specs.declared.expressions.Variable.TheVariants as var
use Rattle.bas_ast.specs.declared.expressions.Width.{Width}
use Rattle.bas_ast.specs.declared.keywords.Keyword.TheVariants as word
use Rattle.bas_ast.specs.declared.terminals.Terminal.{Terminal}
use Rattle.bas_ast.specs.declared.terminals.Terminal.TheVariants as t
use Rattle.bas_ast.specs.Words.{BeforeNumber, BeforeText, TextBeforeNumber, TakesPart, role, level, left_level}
use Rattle.bas_ast.specs.Expressions as g
use Rattle.bas_ast.specs.Expressions.{IsNum, IsStr, IsVar, IsStrVar, IsSubscripts, IsArguments, IsAny, IsEnd}
use Rattle.expr_parse.specs.declared.found.Found.{Found}
use Rattle.expr_parse.specs.declared.found.Found.TheVariants as found
use Rattle.expr_parse.specs.Parse as p
use Rattle.expr_parse.specs.Parse.{Front, Parser, on_front, or_front, on_some, closed, row_on}
use Rattle.expr_parse.proofs.Fronts.{Holds, of_some}
use Rattle.expr_parse.proofs.Sound.{expression_at, OffsetAt, offset_at}
use Rattle.expr_parse.proofs.GoingOn.{op_level_small, left_level_small, shorter_front, num_on_answers, text_on_answers, text_on_stops, op_level, pointed}
use Rattle.expr_parse.proofs.Equations.{alone_operand, alone_text_operand, before_operand, before_text_operand, text_before_operand, part_operand, bracket_operand, instr_operand, middle_operand, copies_operand, hexadecimal_operand, function_operand, text_function_operand, simple_operand, element_operand, text_simple_operand, text_element_operand, last_subscript_is, more_subscripts_are, last_argument_is, more_arguments_are, subscripts_are, arguments_are, end_absent, end_present, number_either, text_either, placed_sum, num_on_more, text_on_more, text_on_compared, compared_is, decimal_operand}

-- ---- lengths

split_lt : (a b : List Terminal) (c : Terminal) (m : ℕ) → length (a ++ c ∷ b) < m → (length a < m - 1) × (length b < m - 1)
split_lt a b c m h = let e = length-append a (c ∷ b) in (omega arith, omega arith)

glue_lt : (a b : List Terminal) (m : ℕ) → length (a ++ b) < m → (length a < m) × (length b < m)
glue_lt a b m h = let e = length-append a b in (omega arith, omega arith)

split_le : (a b r : List Terminal) (c : Terminal) (k : ℕ) → length ((a ++ c ∷ b) ++ r) ≤ k → length (b ++ r) ≤ k - 1
split_le a b r c k h =
    let e = length-append (a ++ c ∷ b) r in let e1 = length-append a (c ∷ b) in let e2 = length-append b r in omega arith

-- ---- what the parser does

-- It reads a number's operands, and goes on from there with operators.
pub record NumGrown (m l' l : ℕ) (a r : List Terminal) (x : NumExpr) : Type 0 where
  pub left : ℕ
  pub fuel : ℕ
  pub tree : NumExpr
  pub rest : List Terminal
  pub is : p.expression m l' (a ++ r) ≡ p.num_on (p.expression (m - 1)) l' fuel left tree rest
  pub enough : length rest ≤ fuel
  pub high : l ≤ 6 → l ≤ left
  pub shorter : length rest ≤ length r
  pub still : pointed r ≡ false → op_level r ≤ l → (tree ≡ x) × (rest ≡ r)

pub record TextGrown (m l' l : ℕ) (a r : List Terminal) (y : StrExpr) : Type 0 where
  pub fuel : ℕ
  pub tree : StrExpr
  pub rest : List Terminal
  pub is : p.expression m l' (a ++ r) ≡ p.text_on (p.expression (m - 1)) l' fuel tree rest
  pub enough : length rest ≤ fuel
  pub shorter : length rest ≤ length r
  pub still : pointed r ≡ false → op_level r ≤ l → (tree ≡ y) × (rest ≡ r)

-- It reads a number, with all operators of the level.
pub record NumRead (m l' l : ℕ) (a r : List Terminal) (x : NumExpr) : Type 0 where
  pub left : ℕ
  pub tree : NumExpr
  pub rest : List Terminal
  pub is : p.expression m l' (a ++ r) ≡ Some (found.Number left tree, rest)
  pub shorter : length rest ≤ length r
  pub still : pointed r ≡ false → op_level r ≤ l → op_level r < l' → (tree ≡ x) × (rest ≡ r)

pub record TextRead (m l' l : ℕ) (a r : List Terminal) (y : StrExpr) : Type 0 where
  pub tree : StrExpr
  pub rest : List Terminal
  pub is : p.expression m l' (a ++ r) ≡ Some (found.Text tree, rest)
  pub shorter : length rest ≤ length r
  pub still : pointed r ≡ false → op_level r ≤ l → op_level r < l' → (tree ≡ y) × (rest ≡ r)

pub num_read : (m l' l : ℕ) (a r : List Terminal) (x : NumExpr) → NumGrown m l' l a r x → NumRead m l' l a r x
num_read m l' l a r x h =
    let answer = num_on_answers (p.expression (m - 1)) (expression_at (m - 1)) l' h.fuel h.left h.tree h.rest in
    let s1 = answer.shorter in let s2 = h.shorter in
    record {
      left = answer.left;
      tree = answer.tree;
      rest = answer.rest;
      is = h.is ∙ answer.is;
      shorter = omega arith;
      still = λ d o b. let s = h.still d o in let same = ap op_level s.1 in let u = answer.still (omega arith) in (u.0 ∙ s.0, u.1 ∙ s.1);
    }

pub text_read : (m l' l : ℕ) (a r : List Terminal) (y : StrExpr) → 4 ≤ l' → TextGrown m l' l a r y → TextRead m l' l a r y
text_read m l' l a r y big h =
    let answer = text_on_answers (p.expression (m - 1)) (expression_at (m - 1)) l' h.fuel h.tree h.rest big in
    let s1 = answer.shorter in let s2 = h.shorter in
    record {
      tree = answer.tree;
      rest = answer.rest;
      is = h.is ∙ answer.is;
      shorter = omega arith;
      still = λ d o b. let s = h.still d o in let same = ap op_level s.1 in let u = answer.still (omega arith) in (u.0 ∙ s.0, u.1 ∙ s.1);
    }

pub number_of : (inner : ℕ → Parser Found) (l left : ℕ) (r : List Terminal) (x : NumExpr) (q : List Terminal) → inner l r ≡ Some (found.Number left x, q)
    → p.number inner l r ≡ Some (x, q)
unfolding p.number on_front
number_of inner l left r x q e = ap (λ m. on_front m p.only_number) e

pub text_of : (inner : ℕ → Parser Found) (l : ℕ) (r : List Terminal) (y : StrExpr) (q : List Terminal) → inner l r ≡ Some (found.Text y, q)
    → p.text inner l r ≡ Some (y, q)
unfolding p.text on_front
text_of inner l r y q e = ap (λ m. on_front m p.only_text) e

pub found_num : (m l' l : ℕ) (a r : List Terminal) (x : NumExpr) (h : NumRead m l' l a r x) → pointed r ≡ false → op_level r ≤ l → op_level r < l'
    → p.expression m l' (a ++ r) ≡ Some (found.Number h.left x, r)
found_num m l' l a r x h d o b =
    let s = h.still d o b in h.is ∙ (ap (λ z. Some (found.Number h.left z, h.rest)) s.0 ∙ ap (λ z. Some (found.Number h.left x, z)) s.1)

found_text : (m l' l : ℕ) (a r : List Terminal) (y : StrExpr) (h : TextRead m l' l a r y) → pointed r ≡ false → op_level r ≤ l → op_level r < l'
    → p.expression m l' (a ++ r) ≡ Some (found.Text y, r)
found_text m l' l a r y h d o b =
    let s = h.still d o b in h.is ∙ (ap (λ z. Some (found.Text z, h.rest)) s.0 ∙ ap (λ z. Some (found.Text y, z)) s.1)

pub number_is : (m l' l : ℕ) (a r : List Terminal) (x : NumExpr) → NumRead m l' l a r x → pointed r ≡ false → op_level r ≤ l → op_level r < l'
    → p.number (p.expression m) l' (a ++ r) ≡ Some (x, r)
number_is m l' l a r x h d o b = number_of (p.expression m) l' h.left (a ++ r) x r (found_num m l' l a r x h d o b)

pub text_is : (m l' l : ℕ) (a r : List Terminal) (y : StrExpr) → TextRead m l' l a r y → pointed r ≡ false → op_level r ≤ l → op_level r < l'
    → p.text (p.expression m) l' (a ++ r) ≡ Some (y, r)
text_is m l' l a r y h d o b = text_of (p.expression m) l' (a ++ r) y r (found_text m l' l a r y h d o b)

-- a string before which stands what reads either kind
pub either_text : (m l : ℕ) (a r : List Terminal) (y : StrExpr) → TextGrown m 1 l a r y → pointed r ≡ false → op_level r ≡ 0
    → p.expression m 1 (a ++ r) ≡ Some (found.Text y, r)
either_text m l a r y h d o =
    let s = h.still d (omega arith) in
    h.is ∙ (ap (λ z. p.text_on (p.expression (m - 1)) 1 h.fuel z h.rest) s.0 ∙ (ap (λ z. p.text_on (p.expression (m - 1)) 1 h.fuel y z) s.1
    ∙ text_on_stops (p.expression (m - 1)) (expression_at (m - 1)) 1 h.fuel y r o))

deep : (m l : ℕ) (r : List Terminal) → 0 < m → p.expression m l r ≡ p.whole (p.expression (m - 1)) l r
unfolding p.expression
deep zero l r h = absurd (omega arith)
deep (suc n) l r h = let e : n ≡ suc n - 1 = omega arith in ap (λ k. p.whole (p.expression k) l r) e

whole_num : (inner : ℕ → Parser Found) (l : ℕ) (r : List Terminal) (left : ℕ) (x : NumExpr) (q : List Terminal)
    → p.operand inner l r ≡ Some (found.Number left x, q) → p.whole inner l r ≡ p.num_on inner l (length q) left x q
unfolding p.whole p.grown on_front
whole_num inner l r left x q e = ap (λ m. on_front m (p.grown inner l)) e

whole_text : (inner : ℕ → Parser Found) (l : ℕ) (r : List Terminal) (y : StrExpr) (q : List Terminal)
    → p.operand inner l r ≡ Some (found.Text y, q) → p.whole inner l r ≡ p.text_on inner l (length q) y q
unfolding p.whole p.grown on_front
whole_text inner l r y q e = ap (λ m. on_front m (p.grown inner l)) e

num_by : (m l' l : ℕ) (a r : List Terminal) (x : NumExpr) (left : ℕ) (tree : NumExpr) (rest : List Terminal) → 0 < m
    → p.operand (p.expression (m - 1)) l' (a ++ r) ≡ Some (found.Number left tree, rest) → 6 ≤ left → length rest ≤ length r
    → (pointed r ≡ false → (tree ≡ x) × (rest ≡ r)) → NumGrown m l' l a r x
num_by m l' l a r x left tree rest some e high short still = record {
  left = left;
  fuel = length rest;
  tree = tree;
  rest = rest;
  is = deep m l' (a ++ r) some ∙ whole_num (p.expression (m - 1)) l' (a ++ r) left tree rest e;
  enough = omega arith;
  high = λ low. omega arith;
  shorter = short;
  still = λ d o. still d;
}

text_by : (m l' l : ℕ) (a r : List Terminal) (y : StrExpr) (tree : StrExpr) (rest : List Terminal) → 0 < m
    → p.operand (p.expression (m - 1)) l' (a ++ r) ≡ Some (found.Text tree, rest) → length rest ≤ length r
    → (pointed r ≡ false → (tree ≡ y) × (rest ≡ r)) → TextGrown m l' l a r y
text_by m l' l a r y tree rest some e short still = record {
  fuel = length rest;
  tree = tree;
  rest = rest;
  is = deep m l' (a ++ r) some ∙ whole_text (p.expression (m - 1)) l' (a ++ r) tree rest e;
  enough = omega arith;
  shorter = short;
  still = λ d o. still d;
}

-- What a variable and an indirection after it come to.
record Placed (m : Front Found) (v : Variable) (r : List Terminal) : Type 0 where
  left : ℕ
  tree : NumExpr
  rest : List Terminal
  is : m ≡ Some (found.Number left tree, rest)
  high : 6 ≤ left
  shorter : length rest ≤ length r
  still : pointed r ≡ false → (tree ≡ num.Variable v) × (rest ≡ r)

placed_step : (l : ℕ) (v : Variable) (r : List Terminal) (m : Front (Width × NumExpr)) → Holds (OffsetAt l r) m
    → Placed (or_front m (λ z q. Some (found.Number 6 (num.IndirectSum z.0 v z.1), q)) (Some (found.Number 7 (num.Variable v), r))) v r
unfolding or_front
placed_step l v r None h = record { left = 7; tree = num.Variable v; rest = r; is = refl; high = lit≤ tt; shorter = omega arith; still = λ _. (refl, refl) }
placed_step l v r (Some z) h =
    let at = of_some _ _ _ h in
    let sign = ap length at.sign in
    let operand = shorter_front _ _ _ _ at.operand in
    let same = ap pointed at.sign in
    record { left = 6; tree = num.IndirectSum z.0.0 v z.0.1; rest = z.1; is = refl; high = lit≤ tt; shorter = omega arith; still = λ none. absurd (cc) }

placed_is : (n l : ℕ) (v : Variable) (r : List Terminal) → Placed (p.placed (p.expression n) l v r) v r
unfolding p.placed
placed_is n l v r = placed_step l v r _ (offset_at (p.expression n) (expression_at n) l r)

variable_grown : (m l' l : ℕ) (a r : List Terminal) (v : Variable) → 0 < m
    → p.operand (p.expression (m - 1)) l' (a ++ r) ≡ p.placed (p.expression (m - 1)) l' v r → NumGrown m l' l a r (num.Variable v)
variable_grown m l' l a r v some e =
    let h = placed_is (m - 1) l' v r in num_by m l' l a r (num.Variable v) h.left h.tree h.rest some (e ∙ h.is) h.high h.shorter h.still

-- ---- operators

binary_grown : (m l' l : ℕ) (op : BinaryOp) (a b r : List Terminal) (x y : NumExpr) → l' ≤ l → l ≤ level op
    → NumGrown m l' (left_level op) a (t.Operator op ∷ (b ++ r)) x → NumRead (m - 1) (suc (level op)) (suc (level op)) b r y
    → NumGrown m l' l (a ++ t.Operator op ∷ b) r (num.Binary op x y)
binary_grown m l' l op a b r x y low high h h1 =
    let small = left_level_small op in
    let s = h.still refl small.0 in
    let left_high = h.high small.1 in
    let same = ap length s.1 in
    let enough = h.enough in
    let sizes = length-append b r in
    let short = h1.shorter in
    record {
      left = level op;
      fuel = h.fuel - 1;
      tree = num.Binary op x h1.tree;
      rest = h1.rest;
      is = ap (λ z. p.expression m l' z) (append_assoc a (t.Operator op ∷ b) r) ∙ (h.is
          ∙ (ap (λ z. p.num_on (p.expression (m - 1)) l' h.fuel h.left z h.rest) s.0
          ∙ (ap (λ z. p.num_on (p.expression (m - 1)) l' h.fuel h.left x z) s.1
          ∙ num_on_more (p.expression (m - 1)) l' h.fuel h.left x op h1.tree (b ++ r) h1.rest (omega arith) (omega arith) left_high
          (number_of (p.expression (m - 1)) (suc (level op)) h1.left (b ++ r) h1.tree h1.rest h1.is))));
      enough = omega arith;
      high = λ _. high;
      shorter = short;
      still = λ d o. let u = h1.still d (omega arith) (omega arith) in (ap (λ z. num.Binary op x z) u.0, u.1);
    }

compare_grown : (m l' l : ℕ) (c : Comparison) (a b r : List Terminal) (y z : StrExpr) → l' ≤ l → l ≤ 3
    → TextGrown m l' 4 a (t.Operator (op.Compare c) ∷ (b ++ r)) y → TextRead (m - 1) 4 4 b r z
    → NumGrown m l' l (a ++ t.Operator (op.Compare c) ∷ b) r (num.CompareText c y z)
compare_grown m l' l c a b r y z low high h h1 =
    let s = h.still refl (lit≤ tt) in
    let short = h1.shorter in
    record {
      left = 3;
      fuel = length h1.rest;
      tree = num.CompareText c y h1.tree;
      rest = h1.rest;
      is = ap (λ z. p.expression m l' z) (append_assoc a (t.Operator (op.Compare c) ∷ b) r) ∙ (h.is
          ∙ (ap (λ z. p.text_on (p.expression (m - 1)) l' h.fuel z h.rest) s.0
          ∙ (ap (λ z. p.text_on (p.expression (m - 1)) l' h.fuel y z) s.1
          ∙ (text_on_compared (p.expression (m - 1)) l' h.fuel y c (b ++ r)
          ∙ compared_is (p.expression (m - 1)) l' y h1.tree c (b ++ r) h1.rest (omega arith)
          (text_of (p.expression (m - 1)) 4 (b ++ r) h1.tree h1.rest h1.is)))));
      enough = omega arith;
      high = λ _. high;
      shorter = short;
      still = λ d o. let u = h1.still d (omega arith) (omega arith) in (ap (λ w. num.CompareText c y w) u.0, u.1);
    }

join_grown : (m l' l : ℕ) (a b r : List Terminal) (y z : StrExpr) → l' ≤ l → l ≤ 4
    → TextGrown m l' 4 a (t.Operator op.Add ∷ (b ++ r)) y → TextRead (m - 1) 6 6 b r z
    → TextGrown m l' l (a ++ t.Operator op.Add ∷ b) r (str.Join y z)
join_grown m l' l a b r y z low high h h1 =
    let s = h.still refl (lit≤ tt) in
    let same = ap length s.1 in
    let enough = h.enough in
    let sizes = length-append b r in
    let short = h1.shorter in
    let small = op_level_small r in
    record {
      fuel = h.fuel - 1;
      tree = str.Join y h1.tree;
      rest = h1.rest;
      is = ap (λ z. p.expression m l' z) (append_assoc a (t.Operator op.Add ∷ b) r) ∙ (h.is
          ∙ (ap (λ z. p.text_on (p.expression (m - 1)) l' h.fuel z h.rest) s.0
          ∙ (ap (λ z. p.text_on (p.expression (m - 1)) l' h.fuel y z) s.1
          ∙ text_on_more (p.expression (m - 1)) l' h.fuel y h1.tree (b ++ r) h1.rest (omega arith) (omega arith)
          (text_of (p.expression (m - 1)) 6 (b ++ r) h1.tree h1.rest h1.is))));
      enough = omega arith;
      shorter = short;
      still = λ d o. let u = h1.still d (omega arith) (omega arith) in (ap (λ w. str.Join y w) u.0, u.1);
    }

-- an operand at whose end another operand stands
before_grown : (m l' l : ℕ) (c : Terminal) (f : NumExpr → NumExpr) (a r : List Terminal) (x : NumExpr) → 0 < m → role c ≡ BeforeNumber f
    → NumRead (m - 1) 6 6 a r x → NumGrown m l' l (c ∷ a) r (f x)
before_grown m l' l c f a r x some e h =
    let small = op_level_small r in
    num_by m l' l (c ∷ a) r (f x) 7 (f h.tree) h.rest some
    (before_operand (p.expression (m - 1)) l' c f h.tree (a ++ r) h.rest e (number_of _ 6 h.left (a ++ r) h.tree h.rest h.is))
    (lit≤ tt) h.shorter (λ d. let u = h.still d (omega arith) (omega arith) in (ap f u.0, u.1))

before_text_grown : (m l' l : ℕ) (c : Terminal) (f : StrExpr → NumExpr) (a r : List Terminal) (y : StrExpr) → 0 < m → role c ≡ BeforeText f
    → TextRead (m - 1) 6 6 a r y → NumGrown m l' l (c ∷ a) r (f y)
before_text_grown m l' l c f a r y some e h =
    let small = op_level_small r in
    num_by m l' l (c ∷ a) r (f y) 7 (f h.tree) h.rest some
    (before_text_operand (p.expression (m - 1)) l' c f h.tree (a ++ r) h.rest e (text_of _ 6 (a ++ r) h.tree h.rest h.is))
    (lit≤ tt) h.shorter (λ d. let u = h.still d (omega arith) (omega arith) in (ap f u.0, u.1))

text_before_grown : (m l' l : ℕ) (c : Terminal) (f : NumExpr → StrExpr) (a r : List Terminal) (x : NumExpr) → 0 < m → role c ≡ TextBeforeNumber f
    → NumRead (m - 1) 6 6 a r x → TextGrown m l' l (c ∷ a) r (f x)
text_before_grown m l' l c f a r x some e h =
    let small = op_level_small r in
    text_by m l' l (c ∷ a) r (f x) (f h.tree) h.rest some
    (text_before_operand (p.expression (m - 1)) l' c f h.tree (a ++ r) h.rest e (number_of _ 6 h.left (a ++ r) h.tree h.rest h.is))
    h.shorter (λ d. let u = h.still d (omega arith) (omega arith) in (ap f u.0, u.1))

written_grown : (m l' l : ℕ) (a r : List Terminal) (x : NumExpr) → 0 < m → NumRead (m - 1) 6 6 a r x
    → TextGrown m l' l (t.Keyword word.Str ∷ a) r (str.Written format.Decimal x)
written_grown m l' l a r x some h =
    let small = op_level_small r in
    text_by m l' l (t.Keyword word.Str ∷ a) r (str.Written format.Decimal x) (str.Written format.Decimal h.tree) h.rest some
    (decimal_operand (m - 1) l' h.tree (a ++ r) h.rest (number_of _ 6 h.left (a ++ r) h.tree h.rest h.is))
    h.shorter (λ d. let u = h.still d (omega arith) (omega arith) in (ap (λ z. str.Written format.Decimal z) u.0, u.1))

hexadecimal_grown : (m l' l : ℕ) (a r : List Terminal) (x : NumExpr) → 0 < m → NumRead (m - 1) 6 6 a r x
    → TextGrown m l' l (t.Keyword word.Str ∷ t.Tilde ∷ a) r (str.Written format.Hexadecimal x)
hexadecimal_grown m l' l a r x some h =
    let small = op_level_small r in
    text_by m l' l (t.Keyword word.Str ∷ t.Tilde ∷ a) r (str.Written format.Hexadecimal x) (str.Written format.Hexadecimal h.tree) h.rest some
    (hexadecimal_operand (p.expression (m - 1)) l' h.tree (a ++ r) h.rest (number_of _ 6 h.left (a ++ r) h.tree h.rest h.is))
    h.shorter (λ d. let u = h.still d (omega arith) (omega arith) in (ap (λ z. str.Written format.Hexadecimal z) u.0, u.1))

sum_grown : (m l' l : ℕ) (a b r : List Terminal) (v : Variable) (w : Width) (x : NumExpr) → 0 < m → l' ≤ l → l ≤ 6
    → p.operand (p.expression (m - 1)) l' (a ++ t.Indirection w ∷ (b ++ r)) ≡ p.placed (p.expression (m - 1)) l' v (t.Indirection w ∷ (b ++ r))
    → NumRead (m - 1) 7 7 b r x → NumGrown m l' l (a ++ t.Indirection w ∷ b) r (num.IndirectSum w v x)
sum_grown m l' l a b r v w x some low high e h =
    let small = op_level_small r in
    num_by m l' l (a ++ t.Indirection w ∷ b) r (num.IndirectSum w v x) 6 (num.IndirectSum w v h.tree) h.rest some
    (ap (λ z. p.operand (p.expression (m - 1)) l' z) (append_assoc a (t.Indirection w ∷ b) r) ∙ (e
    ∙ placed_sum (p.expression (m - 1)) l' v w h.tree (b ++ r) h.rest (omega arith) (number_of _ 7 h.left (b ++ r) h.tree h.rest h.is)))
    (lit≤ tt) h.shorter (λ d. let u = h.still d (omega arith) (omega arith) in (ap (λ z. num.IndirectSum w v z) u.0, u.1))

-- an operand that ends by itself
whole_num_grown : (m l' l : ℕ) (a r : List Terminal) (x : NumExpr) → 0 < m
    → p.operand (p.expression (m - 1)) l' (a ++ r) ≡ Some (found.Number 7 x, r) → NumGrown m l' l a r x
whole_num_grown m l' l a r x some e = num_by m l' l a r x 7 x r some e (lit≤ tt) (omega arith) (λ _. (refl, refl))

whole_text_grown : (m l' l : ℕ) (a r : List Terminal) (y : StrExpr) → 0 < m
    → p.operand (p.expression (m - 1)) l' (a ++ r) ≡ Some (found.Text y, r) → TextGrown m l' l a r y
whole_text_grown m l' l a r y some e = text_by m l' l a r y y r some e (omega arith) (λ _. (refl, refl))

bracket_grown : (m l' l : ℕ) (a r : List Terminal) (x : NumExpr) → 0 < m → NumRead (m - 1) 1 1 a (t.Close ∷ r) x
    → NumGrown m l' l (t.Open ∷ (a ++ t.Close ∷ [])) r (num.Bracket x)
bracket_grown m l' l a r x some h = whole_num_grown m l' l _ r _ some (bracket_operand (p.expression (m - 1)) l' (found.Number h.left x) _ r
    (ap (λ z. p.expression (m - 1) 1 z) (append_assoc a (t.Close ∷ []) r) ∙ found_num (m - 1) 1 1 a (t.Close ∷ r) x h refl (lit≤ tt) (lit≤ tt)))

text_bracket_grown : (m l' l : ℕ) (a r : List Terminal) (y : StrExpr) → 0 < m → TextGrown (m - 1) 1 4 a (t.Close ∷ r) y
    → TextGrown m l' l (t.Open ∷ (a ++ t.Close ∷ [])) r (str.Bracket y)
text_bracket_grown m l' l a r y some h = whole_text_grown m l' l _ r _ some (bracket_operand (p.expression (m - 1)) l' (found.Text y) _ r
    (ap (λ z. p.expression (m - 1) 1 z) (append_assoc a (t.Close ∷ []) r) ∙ either_text (m - 1) 4 a (t.Close ∷ r) y h refl refl))

-- what ends a function doesn't go on with an expression
end_stops : (e r : List Terminal) (v : Option NumExpr) → IsEnd e v → (op_level (e ++ r) ≡ 0) × (pointed (e ++ r) ≡ false)
end_stops e r v g.absent = (refl, refl)
end_stops e r v (g.present a x d) = (refl, refl)

three_lt : (c c' : Terminal) (a b e : List Terminal) (m : ℕ) → length (c ∷ (a ++ c' ∷ (b ++ e))) < m
    → (length a < m - 1) × (length b < m - 1) × (length e < m - 1)
three_lt c c' a b e m h =
    let e1 = length-append a (c' ∷ (b ++ e)) in let e2 = length-append b e in (omega arith, omega arith, omega arith)

two_lt : (c : Terminal) (a e : List Terminal) (m : ℕ) → length (c ∷ (a ++ e)) < m → (length a < m - 1) × (length e < m - 1)
two_lt c a e m h = let e1 = length-append a e in (omega arith, omega arith)

instr_grown : (m l' l : ℕ) (a b e r : List Terminal) (y z : StrExpr) (v : Option NumExpr) → 0 < m → IsEnd e v
    → TextRead (m - 1) 4 4 a (t.Comma ∷ ((b ++ e) ++ r)) y → TextRead (m - 1) 4 4 b (e ++ r) z → p.end (p.expression (m - 1)) (e ++ r) ≡ Some (v, r)
    → NumGrown m l' l (t.Keyword word.Instr ∷ (a ++ t.Comma ∷ (b ++ e))) r (num.Instr y z v)
instr_grown m l' l a b e r y z v some d h h1 h2 =
    let s = end_stops e r v d in
    whole_num_grown m l' l _ r _ some (instr_operand (p.expression (m - 1)) l' y z v _ ((b ++ e) ++ r) (e ++ r) r
    (ap (λ w. p.text (p.expression (m - 1)) 4 w) (append_assoc a (t.Comma ∷ (b ++ e)) r) ∙ text_is (m - 1) 4 4 a _ y h refl (lit≤ tt) (lit≤ tt))
    (ap (λ w. p.text (p.expression (m - 1)) 4 w) (append_assoc b e r) ∙ text_is (m - 1) 4 4 b (e ++ r) z h1 s.1 (omega arith) (omega arith))
    h2)

middle_grown : (m l' l : ℕ) (a b e r : List Terminal) (y : StrExpr) (x : NumExpr) (v : Option NumExpr) → 0 < m → IsEnd e v
    → TextRead (m - 1) 4 4 a (t.Comma ∷ ((b ++ e) ++ r)) y → NumRead (m - 1) 1 1 b (e ++ r) x → p.end (p.expression (m - 1)) (e ++ r) ≡ Some (v, r)
    → TextGrown m l' l (t.Keyword word.Mid ∷ (a ++ t.Comma ∷ (b ++ e))) r (str.Middle y x v)
middle_grown m l' l a b e r y x v some d h h1 h2 =
    let s = end_stops e r v d in
    whole_text_grown m l' l _ r _ some (middle_operand (p.expression (m - 1)) l' y x v _ ((b ++ e) ++ r) (e ++ r) r
    (ap (λ w. p.text (p.expression (m - 1)) 4 w) (append_assoc a (t.Comma ∷ (b ++ e)) r) ∙ text_is (m - 1) 4 4 a _ y h refl (lit≤ tt) (lit≤ tt))
    (ap (λ w. p.number (p.expression (m - 1)) 1 w) (append_assoc b e r) ∙ number_is (m - 1) 1 1 b (e ++ r) x h1 s.1 (omega arith) (omega arith))
    h2)

copies_grown : (m l' l : ℕ) (a b r : List Terminal) (x : NumExpr) (y : StrExpr) → 0 < m
    → NumRead (m - 1) 1 1 a (t.Comma ∷ ((b ++ t.Close ∷ []) ++ r)) x → TextRead (m - 1) 4 4 b (t.Close ∷ r) y
    → TextGrown m l' l (t.Keyword word.Copies ∷ (a ++ t.Comma ∷ (b ++ t.Close ∷ []))) r (str.Copies x y)
copies_grown m l' l a b r x y some h h1 =
    whole_text_grown m l' l _ r _ some (copies_operand (p.expression (m - 1)) l' x y _ ((b ++ t.Close ∷ []) ++ r) r
    (ap (λ w. p.number (p.expression (m - 1)) 1 w) (append_assoc a (t.Comma ∷ (b ++ t.Close ∷ [])) r) ∙ number_is (m - 1) 1 1 a _ x h refl (lit≤ tt) (lit≤ tt))
    (ap (λ w. p.text (p.expression (m - 1)) 4 w) (append_assoc b (t.Close ∷ []) r) ∙ text_is (m - 1) 4 4 b (t.Close ∷ r) y h1 refl (lit≤ tt) (lit≤ tt)))

part_grown : (m l' l : ℕ) (c : Terminal) (side : Side) (a e r : List Terminal) (y : StrExpr) (v : Option NumExpr) → 0 < m → role c ≡ TakesPart side → IsEnd e v
    → TextRead (m - 1) 4 4 a (e ++ r) y → p.end (p.expression (m - 1)) (e ++ r) ≡ Some (v, r) → TextGrown m l' l (c ∷ (a ++ e)) r (str.Part side y v)
part_grown m l' l c side a e r y v some k d h h1 =
    let s = end_stops e r v d in
    whole_text_grown m l' l _ r _ some (part_operand (p.expression (m - 1)) l' c side y v _ (e ++ r) r k
    (ap (λ w. p.text (p.expression (m - 1)) 4 w) (append_assoc a e r) ∙ text_is (m - 1) 4 4 a (e ++ r) y h s.1 (omega arith) (omega arith)) h1)

end_present_is : (n : ℕ) (a r : List Terminal) (x : NumExpr) → NumRead n 1 1 a (t.Close ∷ r) x
    → p.end (p.expression n) ((t.Comma ∷ (a ++ t.Close ∷ [])) ++ r) ≡ Some (Some x, r)
end_present_is n a r x h = end_present (p.expression n) x _ r
    (ap (λ w. p.number (p.expression n) 1 w) (append_assoc a (t.Close ∷ []) r) ∙ number_is n 1 1 a (t.Close ∷ r) x h refl (lit≤ tt) (lit≤ tt))

positive : (a r : List Terminal) (c : Terminal) (b : List Terminal) (k : ℕ) → length ((a ++ c ∷ b) ++ r) ≤ k → 0 < k
positive a r c b k h = let e = length-append (a ++ c ∷ b) r in let e1 = length-append a (c ∷ b) in omega arith

last_subscript_row : (n k : ℕ) (zs : List NumExpr) (a r : List Terminal) (x : NumExpr) → length ((a ++ t.Close ∷ []) ++ r) ≤ k
    → NumRead n 1 1 a (t.Close ∷ r) x → p.subscripts_from (p.expression n) k zs ((a ++ t.Close ∷ []) ++ r) ≡ Some (zs ++ x ∷ [], r)
last_subscript_row n k zs a r x size h = last_subscript_is (p.expression n) k zs x _ r (positive a r t.Close [] k size)
    (ap (λ w. p.number (p.expression n) 1 w) (append_assoc a (t.Close ∷ []) r) ∙ number_is n 1 1 a (t.Close ∷ r) x h refl (lit≤ tt) (lit≤ tt))

more_subscripts_row : (n k : ℕ) (zs xs : List NumExpr) (a b r : List Terminal) (x : NumExpr) → length ((a ++ t.Comma ∷ b) ++ r) ≤ k
    → NumRead n 1 1 a (t.Comma ∷ (b ++ r)) x
    → p.subscripts_from (p.expression n) (k - 1) (zs ++ x ∷ []) (b ++ r) ≡ Some ((zs ++ x ∷ []) ++ xs, r)
    → p.subscripts_from (p.expression n) k zs ((a ++ t.Comma ∷ b) ++ r) ≡ Some (zs ++ (x ∷ xs), r)
more_subscripts_row n k zs xs a b r x size h h1 = more_subscripts_are (p.expression n) k zs xs x _ (b ++ r) r (positive a r t.Comma b k size)
    (ap (λ w. p.number (p.expression n) 1 w) (append_assoc a (t.Comma ∷ b) r) ∙ number_is n 1 1 a (t.Comma ∷ (b ++ r)) x h refl (lit≤ tt) (lit≤ tt)) h1

last_argument_row : (n k : ℕ) (zs : List Any) (a r : List Terminal) (x : Any) → length ((a ++ t.Close ∷ []) ++ r) ≤ k
    → p.either (p.expression n) (a ++ t.Close ∷ r) ≡ Some (x, t.Close ∷ r)
    → p.arguments_from (p.expression n) k zs ((a ++ t.Close ∷ []) ++ r) ≡ Some (zs ++ x ∷ [], r)
last_argument_row n k zs a r x size h = last_argument_is (p.expression n) k zs x _ r (positive a r t.Close [] k size)
    (ap (λ w. p.either (p.expression n) w) (append_assoc a (t.Close ∷ []) r) ∙ h)

more_arguments_row : (n k : ℕ) (zs xs : List Any) (a b r : List Terminal) (x : Any) → length ((a ++ t.Comma ∷ b) ++ r) ≤ k
    → p.either (p.expression n) (a ++ t.Comma ∷ (b ++ r)) ≡ Some (x, t.Comma ∷ (b ++ r))
    → p.arguments_from (p.expression n) (k - 1) (zs ++ x ∷ []) (b ++ r) ≡ Some ((zs ++ x ∷ []) ++ xs, r)
    → p.arguments_from (p.expression n) k zs ((a ++ t.Comma ∷ b) ++ r) ≡ Some (zs ++ (x ∷ xs), r)
more_arguments_row n k zs xs a b r x size h h1 = more_arguments_are (p.expression n) k zs xs x _ (b ++ r) r (positive a r t.Comma b k size)
    (ap (λ w. p.either (p.expression n) w) (append_assoc a (t.Comma ∷ b) r) ∙ h) h1

element_is : (n l i : ℕ) (a r : List Terminal) (xs : List NumExpr)
    → p.subscripts_from (p.expression n) (length (a ++ r)) [] (a ++ r) ≡ Some ([] ++ xs, r)
    → p.operand (p.expression n) l (t.IntArray i ∷ (a ++ r)) ≡ p.placed (p.expression n) l (var.Element i xs) r
element_is n l i a r xs h = element_operand (p.expression n) l i xs (a ++ r) r (subscripts_are (p.expression n) xs (a ++ r) r h)

text_element_is : (n l i : ℕ) (a r : List Terminal) (xs : List NumExpr)
    → p.subscripts_from (p.expression n) (length (a ++ r)) [] (a ++ r) ≡ Some ([] ++ xs, r)
    → p.operand (p.expression n) l (t.StrArray i ∷ (a ++ r)) ≡ Some (found.Text (str.Variable (var.Element i xs)), r)
text_element_is n l i a r xs h = text_element_operand (p.expression n) l i xs (a ++ r) r (subscripts_are (p.expression n) xs (a ++ r) r h)

function_grown : (m l' l i : ℕ) (a r : List Terminal) (xs : List Any) → 0 < m
    → p.arguments_from (p.expression (m - 1)) (length (a ++ r)) [] (a ++ r) ≡ Some ([] ++ xs, r)
    → NumGrown m l' l (t.NumFunctionOpen i ∷ a) r (num.Function i xs)
function_grown m l' l i a r xs some h = whole_num_grown m l' l _ r _ some
    (function_operand (p.expression (m - 1)) l' i xs (a ++ r) r (arguments_are (p.expression (m - 1)) xs (a ++ r) r h))

text_function_grown : (m l' l i : ℕ) (a r : List Terminal) (xs : List Any) → 0 < m
    → p.arguments_from (p.expression (m - 1)) (length (a ++ r)) [] (a ++ r) ≡ Some ([] ++ xs, r)
    → TextGrown m l' l (t.StrFunctionOpen i ∷ a) r (str.Function i xs)
text_function_grown m l' l i a r xs some h = whole_text_grown m l' l _ r _ some
    (text_function_operand (p.expression (m - 1)) l' i xs (a ++ r) r (arguments_are (p.expression (m - 1)) xs (a ++ r) r h))

number_either_is : (n : ℕ) (a r : List Terminal) (x : NumExpr) → NumRead n 1 1 a r x → pointed r ≡ false → op_level r ≡ 0
    → p.either (p.expression n) (a ++ r) ≡ Some (any.Number x, r)
number_either_is n a r x h d o =
    number_either (p.expression n) h.left x (a ++ r) r (found_num n 1 1 a r x h d (omega arith) (omega arith))

text_either_is : (n : ℕ) (a r : List Terminal) (y : StrExpr) → TextGrown n 1 4 a r y → pointed r ≡ false → op_level r ≡ 0
    → p.either (p.expression n) (a ++ r) ≡ Some (any.Text y, r)
text_either_is n a r y h d o = text_either (p.expression n) y (a ++ r) r (either_text n 4 a r y h d o)

-- ---- the induction

mutual
  pub complete_num : (l : ℕ) (a : List Terminal) (x : NumExpr) → IsNum l a x → (m l' : ℕ) (r : List Terminal) → length a < m → l' ≤ l → NumGrown m l' l a r x
  complete_num l a x (g.alone _ c _ e) m l' r lt low =
      whole_num_grown m l' l a r x (omega arith) (alone_operand (p.expression (m - 1)) l' c x r e)
  complete_num l a x (g.variable _ _ v d) m l' r lt low =
      variable_grown m l' l a r v (omega arith) (complete_var a v d (m - 1) l' r (omega arith))
  complete_num l a x (g.indirect_sum _ a' b v w y k d e) m l' r lt low =
      let h = split_lt a' b (t.Indirection w) m lt in
      sum_grown m l' l a' b r v w y (omega arith) low k
      (complete_var a' v d (m - 1) l' (t.Indirection w ∷ (b ++ r)) (let h0 = h.0 in omega arith))
      (num_read (m - 1) 7 7 b r y (complete_num 7 b y e (m - 1) 7 r h.1 (lit≤ tt)))
  complete_num l a x (g.bracket _ a' y d) m l' r lt low =
      let h = two_lt t.Open a' (t.Close ∷ []) m lt in
      bracket_grown m l' l a' r y (omega arith) (num_read (m - 1) 1 1 a' _ y (complete_num 1 a' y d (m - 1) 1 (t.Close ∷ r) h.0 (lit≤ tt)))
  complete_num l a x (g.before _ c f a' y e d) m l' r lt low =
      before_grown m l' l c f a' r y (omega arith) e (num_read (m - 1) 6 6 a' r y (complete_num 6 a' y d (m - 1) 6 r (omega arith) (lit≤ tt)))
  complete_num l a x (g.before_text _ c f a' y e d) m l' r lt low =
      before_text_grown m l' l c f a' r y (omega arith) e
      (text_read (m - 1) 6 6 a' r y (lit≤ tt) (complete_text 6 a' y d (m - 1) 6 r (omega arith) (lit≤ tt)))
  complete_num l a x (g.instr _ a' b e y z v d d' k) m l' r lt low =
      let h = three_lt (t.Keyword word.Instr) t.Comma a' b e m lt in
      instr_grown m l' l a' b e r y z v (omega arith) k
      (text_read (m - 1) 4 4 a' _ y (lit≤ tt) (complete_text 4 a' y d (m - 1) 4 (t.Comma ∷ ((b ++ e) ++ r)) h.0 (lit≤ tt)))
      (text_read (m - 1) 4 4 b _ z (lit≤ tt) (complete_text 4 b z d' (m - 1) 4 (e ++ r) h.1 (lit≤ tt)))
      (complete_end e v k (m - 1) r h.2)
  complete_num l a x (g.function _ n a' xs d) m l' r lt low =
      function_grown m l' l n a' r xs (omega arith) (complete_arguments a' xs d (m - 1) (length (a' ++ r)) [] r (omega arith) (omega arith))
  complete_num l a x (g.binary _ op a' b y z k d e) m l' r lt low =
      let h = split_lt a' b (t.Operator op) m lt in
      let s = left_level_small op in
      binary_grown m l' l op a' b r y z low k
      (complete_num (left_level op) a' y d m l' (t.Operator op ∷ (b ++ r)) (let h0 = h.0 in omega arith) (let s0 = s.0 in omega arith))
      (num_read (m - 1) (suc (level op)) (suc (level op)) b r z (complete_num (suc (level op)) b z e (m - 1) (suc (level op)) r h.1 (omega arith)))
  complete_num l a x (g.compare_text _ c a' b y z k d e) m l' r lt low =
      let h = split_lt a' b (t.Operator (op.Compare c)) m lt in
      compare_grown m l' l c a' b r y z low k
      (complete_text 4 a' y d m l' (t.Operator (op.Compare c) ∷ (b ++ r)) (let h0 = h.0 in omega arith) (omega arith))
      (text_read (m - 1) 4 4 b r z (lit≤ tt) (complete_text 4 b z e (m - 1) 4 r h.1 (lit≤ tt)))

  pub complete_text : (l : ℕ) (a : List Terminal) (y : StrExpr) → IsStr l a y → (m l' : ℕ) (r : List Terminal) → length a < m → l' ≤ l → TextGrown m l' l a r y
  complete_text l a y (g.text_alone _ c _ e) m l' r lt low =
      whole_text_grown m l' l a r y (omega arith) (alone_text_operand (p.expression (m - 1)) l' c y r e)
  complete_text l a y (g.text_variable _ _ v d) m l' r lt low =
      whole_text_grown m l' l a r y (omega arith) (complete_text_var a v d (m - 1) l' r (omega arith))
  complete_text l a y (g.text_bracket _ a' z d) m l' r lt low =
      let h = two_lt t.Open a' (t.Close ∷ []) m lt in
      text_bracket_grown m l' l a' r z (omega arith) (complete_text 4 a' z d (m - 1) 1 (t.Close ∷ r) h.0 (lit≤ tt))
  complete_text l a y (g.text_before _ c f a' x e d) m l' r lt low =
      text_before_grown m l' l c f a' r x (omega arith) e (num_read (m - 1) 6 6 a' r x (complete_num 6 a' x d (m - 1) 6 r (omega arith) (lit≤ tt)))
  complete_text l a y (g.written _ a' x d) m l' r lt low =
      written_grown m l' l a' r x (omega arith) (num_read (m - 1) 6 6 a' r x (complete_num 6 a' x d (m - 1) 6 r (omega arith) (lit≤ tt)))
  complete_text l a y (g.written_hexadecimal _ a' x d) m l' r lt low =
      hexadecimal_grown m l' l a' r x (omega arith) (num_read (m - 1) 6 6 a' r x (complete_num 6 a' x d (m - 1) 6 r (omega arith) (lit≤ tt)))
  complete_text l a y (g.part _ c side a' e z v k d d') m l' r lt low =
      let h = two_lt c a' e m lt in
      part_grown m l' l c side a' e r z v (omega arith) k d'
      (text_read (m - 1) 4 4 a' _ z (lit≤ tt) (complete_text 4 a' z d (m - 1) 4 (e ++ r) h.0 (lit≤ tt)))
      (complete_end e v d' (m - 1) r h.1)
  complete_text l a y (g.middle _ a' b e z x v d d' k) m l' r lt low =
      let h = three_lt (t.Keyword word.Mid) t.Comma a' b e m lt in
      middle_grown m l' l a' b e r z x v (omega arith) k
      (text_read (m - 1) 4 4 a' _ z (lit≤ tt) (complete_text 4 a' z d (m - 1) 4 (t.Comma ∷ ((b ++ e) ++ r)) h.0 (lit≤ tt)))
      (num_read (m - 1) 1 1 b _ x (complete_num 1 b x d' (m - 1) 1 (e ++ r) h.1 (lit≤ tt)))
      (complete_end e v k (m - 1) r h.2)
  complete_text l a y (g.copies _ a' b x z d d') m l' r lt low =
      let h = three_lt (t.Keyword word.Copies) t.Comma a' b (t.Close ∷ []) m lt in
      copies_grown m l' l a' b r x z (omega arith)
      (num_read (m - 1) 1 1 a' _ x (complete_num 1 a' x d (m - 1) 1 (t.Comma ∷ ((b ++ t.Close ∷ []) ++ r)) h.0 (lit≤ tt)))
      (text_read (m - 1) 4 4 b _ z (lit≤ tt) (complete_text 4 b z d' (m - 1) 4 (t.Close ∷ r) h.1 (lit≤ tt)))
  complete_text l a y (g.text_function _ n a' xs d) m l' r lt low =
      text_function_grown m l' l n a' r xs (omega arith) (complete_arguments a' xs d (m - 1) (length (a' ++ r)) [] r (omega arith) (omega arith))
  complete_text l a y (g.join _ a' b z z' k d e) m l' r lt low =
      let h = split_lt a' b (t.Operator op.Add) m lt in
      join_grown m l' l a' b r z z' low k
      (complete_text 4 a' z d m l' (t.Operator op.Add ∷ (b ++ r)) (let h0 = h.0 in omega arith) (omega arith))
      (text_read (m - 1) 6 6 b r z' (lit≤ tt) (complete_text 6 b z' e (m - 1) 6 r h.1 (lit≤ tt)))

  pub complete_var : (a : List Terminal) (v : Variable) → IsVar a v → (n l : ℕ) (r : List Terminal) → length a ≤ n
      → p.operand (p.expression n) l (a ++ r) ≡ p.placed (p.expression n) l v r
  complete_var a v (g.simple i) n l r le = simple_operand (p.expression n) l i r
  complete_var a v (g.element i a' xs d) n l r le =
      element_is n l i a' r xs (complete_subscripts a' xs d n (length (a' ++ r)) [] r (omega arith) (omega arith))

  pub complete_text_var : (a : List Terminal) (v : Variable) → IsStrVar a v → (n l : ℕ) (r : List Terminal) → length a ≤ n
      → p.operand (p.expression n) l (a ++ r) ≡ Some (found.Text (str.Variable v), r)
  complete_text_var a v (g.text_simple i) n l r le = text_simple_operand (p.expression n) l i r
  complete_text_var a v (g.text_element i a' xs d) n l r le =
      text_element_is n l i a' r xs (complete_subscripts a' xs d n (length (a' ++ r)) [] r (omega arith) (omega arith))

  pub complete_subscripts : (a : List Terminal) (xs : List NumExpr) → IsSubscripts a xs → (n k : ℕ) (zs : List NumExpr) (r : List Terminal) → length a ≤ n
      → length (a ++ r) ≤ k → p.subscripts_from (p.expression n) k zs (a ++ r) ≡ Some (zs ++ xs, r)
  complete_subscripts a xs (g.last_subscript a' x d) n k zs r le size =
      let h = length-append a' (t.Close ∷ []) in
      last_subscript_row n k zs a' r x size (num_read n 1 1 a' _ x (complete_num 1 a' x d n 1 (t.Close ∷ r) (omega arith) (lit≤ tt)))
  complete_subscripts a xs (g.more_subscripts a' b x ys d e) n k zs r le size =
      let h = length-append a' (t.Comma ∷ b) in
      more_subscripts_row n k zs ys a' b r x size
      (num_read n 1 1 a' _ x (complete_num 1 a' x d n 1 (t.Comma ∷ (b ++ r)) (omega arith) (lit≤ tt)))
      (complete_subscripts b ys e n (k - 1) (zs ++ x ∷ []) r (omega arith) (split_le a' b r t.Comma k size))

  pub complete_arguments : (a : List Terminal) (xs : List Any) → IsArguments a xs → (n k : ℕ) (zs : List Any) (r : List Terminal) → length a ≤ n
      → length (a ++ r) ≤ k → p.arguments_from (p.expression n) k zs (a ++ r) ≡ Some (zs ++ xs, r)
  complete_arguments a xs (g.last_argument a' x d) n k zs r le size =
      let h = length-append a' (t.Close ∷ []) in
      last_argument_row n k zs a' r x size (complete_any a' x d n (t.Close ∷ r) (omega arith) refl refl)
  complete_arguments a xs (g.more_arguments a' b x ys d e) n k zs r le size =
      let h = length-append a' (t.Comma ∷ b) in
      more_arguments_row n k zs ys a' b r x size (complete_any a' x d n (t.Comma ∷ (b ++ r)) (omega arith) refl refl)
      (complete_arguments b ys e n (k - 1) (zs ++ x ∷ []) r (omega arith) (split_le a' b r t.Comma k size))

  pub complete_any : (a : List Terminal) (x : Any) → IsAny a x → (n : ℕ) (r : List Terminal) → length a < n → pointed r ≡ false → op_level r ≡ 0
      → p.either (p.expression n) (a ++ r) ≡ Some (x, r)
  complete_any a x (g.number _ y d) n r lt none stops =
      number_either_is n a r y (num_read n 1 1 a r y (complete_num 1 a y d n 1 r lt (lit≤ tt))) none stops
  complete_any a x (g.text _ y d) n r lt none stops = text_either_is n a r y (complete_text 4 a y d n 1 r lt (lit≤ tt)) none stops

  pub complete_end : (a : List Terminal) (v : Option NumExpr) → IsEnd a v → (n : ℕ) (r : List Terminal) → length a < n
      → p.end (p.expression n) (a ++ r) ≡ Some (v, r)
  complete_end a v g.absent n r lt = end_absent (p.expression n) r
  complete_end a v (g.present a' x d) n r lt =
      let h = length-append a' (t.Close ∷ []) in
      end_present_is n a' r x (num_read n 1 1 a' _ x (complete_num 1 a' x d n 1 (t.Close ∷ r) (omega arith) (lit≤ tt)))
