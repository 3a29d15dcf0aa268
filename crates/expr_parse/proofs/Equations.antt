-- The parser's equations: what it answers for each production, from what it answers for the parts.
use Rattle.std.proofs.Common.{◌≡◌, ℕ, zero, suc, ◌-◌, ◌<◌, ◌≤◌, ◌&&◌, nat_le, List, [], ◌∷◌, ◌++◌, length, Option, Some, None, if◌then◌else◌, refl, ap, ◌∙◌, append_assoc, arith}
use Rattle.std.proofs.lemmas.Bool.{le-leb}
use Rattle.bas_ast.specs.declared.expressions.Any.{Any}
use Rattle.bas_ast.specs.declared.expressions.Any.TheVariants as any
use Rattle.bas_ast.specs.declared.expressions.BinaryOp.{BinaryOp}
use Rattle.bas_ast.specs.declared.expressions.BinaryOp.TheVariants as op
use Rattle.bas_ast.specs.declared.expressions.Comparison.{Comparison}
use Rattle.bas_ast.specs.declared.expressions.NumExpr.{NumExpr}
use Rattle.bas_ast.specs.declared.expressions.NumExpr.TheVariants as num
use Rattle.bas_ast.specs.declared.expressions.NumberFormat.TheVariants as format
use Rattle.bas_ast.specs.declared.expressions.Side.{Side}
use Rattle.bas_ast.specs.declared.expressions.StrExpr.{StrExpr}
use Rattle.bas_ast.specs.declared.expressions.StrExpr.TheVariants as str
use Rattle.bas_ast.specs.declared.expressions.Variable.{Variable}
use Rattle.bas_ast.specs.declared.expressions.Variable.TheVariants as var
use Rattle.bas_ast.specs.declared.expressions.Width.{Width}
use Rattle.bas_ast.specs.declared.keywords.Keyword.TheVariants as word
use Rattle.bas_ast.specs.declared.terminals.Terminal.{Terminal}
use Rattle.bas_ast.specs.declared.terminals.Terminal.TheVariants as t
use Rattle.bas_ast.specs.Words.{Alone, AloneText, BeforeNumber, BeforeText, TextBeforeNumber, TakesPart, role, level, left_level}
use Rattle.expr_parse.specs.declared.found.Found.{Found}
use Rattle.expr_parse.specs.declared.found.Found.TheVariants as found
use Rattle.expr_parse.specs.Parse as p
use Rattle.expr_parse.specs.Parse.{Front, Parser, on_front, or_front, on_some, closed, row_on}

module _ (inner : ℕ → Parser Found) where
  pub alone_operand : (l : ℕ) (c : Terminal) (x : NumExpr) (r : List Terminal) → role c ≡ Alone x → p.operand inner l (c ∷ r) ≡ Some (found.Number 7 x, r)
  unfolding p.operand p.opened on_some
  alone_operand l c x r e = ap (λ k. p.opened inner l k c r) e

  pub alone_text_operand : (l : ℕ) (c : Terminal) (y : StrExpr) (r : List Terminal) → role c ≡ AloneText y → p.operand inner l (c ∷ r) ≡ Some (found.Text y, r)
  unfolding p.operand p.opened on_some
  alone_text_operand l c y r e = ap (λ k. p.opened inner l k c r) e

  pub before_operand : (l : ℕ) (c : Terminal) (f : NumExpr → NumExpr) (x : NumExpr) (r q : List Terminal) → role c ≡ BeforeNumber f
      → p.number inner 6 r ≡ Some (x, q) → p.operand inner l (c ∷ r) ≡ Some (found.Number 7 (f x), q)
  unfolding p.operand p.opened p.prefixed on_some on_front
  before_operand l c f x r q e h = ap (λ k. p.opened inner l k c r) e ∙ ap (λ m. on_front m (λ z q'. Some (found.Number 7 (f z), q'))) h

  pub before_text_operand : (l : ℕ) (c : Terminal) (f : StrExpr → NumExpr) (y : StrExpr) (r q : List Terminal) → role c ≡ BeforeText f
      → p.text inner 6 r ≡ Some (y, q) → p.operand inner l (c ∷ r) ≡ Some (found.Number 7 (f y), q)
  unfolding p.operand p.opened p.prefixed on_some on_front
  before_text_operand l c f y r q e h = ap (λ k. p.opened inner l k c r) e ∙ ap (λ m. on_front m (λ z q'. Some (found.Number 7 (f z), q'))) h

  pub text_before_operand : (l : ℕ) (c : Terminal) (f : NumExpr → StrExpr) (x : NumExpr) (r q : List Terminal) → role c ≡ TextBeforeNumber f
      → p.number inner 6 r ≡ Some (x, q) → p.operand inner l (c ∷ r) ≡ Some (found.Text (f x), q)
  unfolding p.operand p.opened p.prefixed on_some on_front
  text_before_operand l c f x r q e h = ap (λ k. p.opened inner l k c r) e ∙ ap (λ m. on_front m (λ z q'. Some (found.Text (f z), q'))) h

  pub part_operand : (l : ℕ) (c : Terminal) (side : Side) (y : StrExpr) (v : Option NumExpr) (r q q1 : List Terminal) → role c ≡ TakesPart side
      → p.text inner 4 r ≡ Some (y, q) → p.end inner q ≡ Some (v, q1) → p.operand inner l (c ∷ r) ≡ Some (found.Text (str.Part side y v), q1)
  unfolding p.operand p.opened p.prefixed p.part on_some on_front
  part_operand l c side y v r q q1 e h h1 = ap (λ k. p.opened inner l k c r) e
      ∙ (ap (λ m. on_front m (λ z q'. on_front (p.end inner q') (λ w q2. Some (found.Text (str.Part side z w), q2)))) h
      ∙ ap (λ m. on_front m (λ w q2. Some (found.Text (str.Part side y w), q2))) h1)

  pub bracket_operand : (l : ℕ) (x : Found) (r q : List Terminal) → inner 1 r ≡ Some (x, t.Close ∷ q)
      → p.operand inner l (t.Open ∷ r) ≡ Some (p.bracketed x, q)
  unfolding p.operand p.opened p.prefixed p.formed p.bracket on_some on_front
  bracket_operand l x r q h = ap (λ m. on_front m (λ z q'. closed (p.bracketed z) q')) h

  pub instr_operand : (l : ℕ) (y z : StrExpr) (v : Option NumExpr) (r q1 q2 q3 : List Terminal) → p.text inner 4 r ≡ Some (y, t.Comma ∷ q1)
      → p.text inner 4 q1 ≡ Some (z, q2) → p.end inner q2 ≡ Some (v, q3)
      → p.operand inner l (t.Keyword word.Instr ∷ r) ≡ Some (found.Number 7 (num.Instr y z v), q3)
  unfolding p.operand p.opened p.prefixed p.formed p.instr on_some on_front
  instr_operand l y z v r q1 q2 q3 h h1 h2 =
      ap (λ m. on_front m (λ y q. on_some (p.after_comma q) (λ q1. on_front (p.text inner 4 q1) (λ z q2. on_front (p.end inner q2) (λ m q3.
      Some (found.Number 7 (num.Instr y z m), q3)))) None)) h
      ∙ (ap (λ m. on_front m (λ z q2. on_front (p.end inner q2) (λ m q3. Some (found.Number 7 (num.Instr y z m), q3)))) h1
      ∙ ap (λ m. on_front m (λ w q3. Some (found.Number 7 (num.Instr y z w), q3))) h2)

  pub middle_operand : (l : ℕ) (y : StrExpr) (x : NumExpr) (v : Option NumExpr) (r q1 q2 q3 : List Terminal) → p.text inner 4 r ≡ Some (y, t.Comma ∷ q1)
      → p.number inner 1 q1 ≡ Some (x, q2) → p.end inner q2 ≡ Some (v, q3)
      → p.operand inner l (t.Keyword word.Mid ∷ r) ≡ Some (found.Text (str.Middle y x v), q3)
  unfolding p.operand p.opened p.prefixed p.formed p.middle on_some on_front
  middle_operand l y x v r q1 q2 q3 h h1 h2 =
      ap (λ m. on_front m (λ y q. on_some (p.after_comma q) (λ q1. on_front (p.number inner 1 q1) (λ x q2. on_front (p.end inner q2) (λ m q3.
      Some (found.Text (str.Middle y x m), q3)))) None)) h
      ∙ (ap (λ m. on_front m (λ x q2. on_front (p.end inner q2) (λ m q3. Some (found.Text (str.Middle y x m), q3)))) h1
      ∙ ap (λ m. on_front m (λ w q3. Some (found.Text (str.Middle y x w), q3))) h2)

  pub copies_operand : (l : ℕ) (x : NumExpr) (y : StrExpr) (r q1 q : List Terminal) → p.number inner 1 r ≡ Some (x, t.Comma ∷ q1)
      → p.text inner 4 q1 ≡ Some (y, t.Close ∷ q) → p.operand inner l (t.Keyword word.Copies ∷ r) ≡ Some (found.Text (str.Copies x y), q)
  unfolding p.operand p.opened p.prefixed p.formed p.copies on_some on_front
  copies_operand l x y r q1 q h h1 =
      ap (λ m. on_front m (λ x q. on_some (p.after_comma q) (λ q1. on_front (p.text inner 4 q1) (λ y q2. closed (found.Text (str.Copies x y)) q2)) None)) h
      ∙ ap (λ m. on_front m (λ y q2. closed (found.Text (str.Copies x y)) q2)) h1

  pub hexadecimal_operand : (l : ℕ) (x : NumExpr) (r q : List Terminal) → p.number inner 6 r ≡ Some (x, q)
      → p.operand inner l (t.Keyword word.Str ∷ t.Tilde ∷ r) ≡ Some (found.Text (str.Written format.Hexadecimal x), q)
  unfolding p.operand p.opened p.prefixed p.formed p.written on_some on_front
  hexadecimal_operand l x r q h = ap (λ m. on_front m (λ z q'. Some (found.Text (str.Written format.Hexadecimal z), q'))) h

  pub function_operand : (l n : ℕ) (xs : List Any) (r q : List Terminal) → p.arguments inner r ≡ Some (xs, q)
      → p.operand inner l (t.NumFunctionOpen n ∷ r) ≡ Some (found.Number 7 (num.Function n xs), q)
  unfolding p.operand p.opened p.prefixed p.formed on_some on_front
  function_operand l n xs r q h = ap (λ m. on_front m (λ z q'. Some (found.Number 7 (num.Function n z), q'))) h

  pub text_function_operand : (l n : ℕ) (xs : List Any) (r q : List Terminal) → p.arguments inner r ≡ Some (xs, q)
      → p.operand inner l (t.StrFunctionOpen n ∷ r) ≡ Some (found.Text (str.Function n xs), q)
  unfolding p.operand p.opened p.prefixed p.formed on_some on_front
  text_function_operand l n xs r q h = ap (λ m. on_front m (λ z q'. Some (found.Text (str.Function n z), q'))) h

  pub simple_operand : (l n : ℕ) (r : List Terminal) → p.operand inner l (t.IntName n ∷ r) ≡ p.placed inner l (var.Simple n) r
  unfolding p.operand p.opened p.prefixed p.formed on_some
  simple_operand l n r = refl

  pub element_operand : (l n : ℕ) (xs : List NumExpr) (r q : List Terminal) → p.subscripts inner r ≡ Some (xs, q)
      → p.operand inner l (t.IntArray n ∷ r) ≡ p.placed inner l (var.Element n xs) q
  unfolding p.operand p.opened p.prefixed p.formed on_some on_front
  element_operand l n xs r q h = ap (λ m. on_front m (λ z q'. p.placed inner l (var.Element n z) q')) h

  pub text_simple_operand : (l n : ℕ) (r : List Terminal) → p.operand inner l (t.StrName n ∷ r) ≡ Some (found.Text (str.Variable (var.Simple n)), r)
  unfolding p.operand p.opened p.prefixed p.formed on_some
  text_simple_operand l n r = refl

  pub text_element_operand : (l n : ℕ) (xs : List NumExpr) (r q : List Terminal) → p.subscripts inner r ≡ Some (xs, q)
      → p.operand inner l (t.StrArray n ∷ r) ≡ Some (found.Text (str.Variable (var.Element n xs)), q)
  unfolding p.operand p.opened p.prefixed p.formed on_some on_front
  text_element_operand l n xs r q h = ap (λ m. on_front m (λ z q'. Some (found.Text (str.Variable (var.Element n z)), q'))) h

  -- the last subscript, and one before others
  pub last_subscript_is : (k : ℕ) (zs : List NumExpr) (x : NumExpr) (r q : List Terminal) → 0 < k → p.number inner 1 r ≡ Some (x, t.Close ∷ q)
      → p.subscripts_from inner k zs r ≡ Some (zs ++ x ∷ [], q)
  unfolding p.subscripts_from on_some on_front
  last_subscript_is zero zs x r q some h = absurd (omega arith)
  last_subscript_is (suc k) zs x r q some h = ap (λ m. on_front m (λ z q'. row_on (p.subscripts_from inner k) (zs ++ z ∷ []) q')) h

  pub more_subscripts_are : (k : ℕ) (zs xs : List NumExpr) (x : NumExpr) (r q q1 : List Terminal) → 0 < k → p.number inner 1 r ≡ Some (x, t.Comma ∷ q)
      → p.subscripts_from inner (k - 1) (zs ++ x ∷ []) q ≡ Some ((zs ++ x ∷ []) ++ xs, q1)
      → p.subscripts_from inner k zs r ≡ Some (zs ++ (x ∷ xs), q1)
  unfolding p.subscripts_from on_some on_front
  more_subscripts_are zero zs xs x r q q1 some h h1 = absurd (omega arith)
  more_subscripts_are (suc k) zs xs x r q q1 some h h1 =
      let e : k ≡ suc k - 1 = omega arith in
      ap (λ m. on_front m (λ z q'. row_on (p.subscripts_from inner k) (zs ++ z ∷ []) q')) h
      ∙ (ap (λ j. p.subscripts_from inner j (zs ++ x ∷ []) q) e ∙ (h1 ∙ ap (λ z. Some (z, q1)) (append_assoc zs (x ∷ []) xs)))

  pub last_argument_is : (k : ℕ) (zs : List Any) (x : Any) (r q : List Terminal) → 0 < k → p.either inner r ≡ Some (x, t.Close ∷ q)
      → p.arguments_from inner k zs r ≡ Some (zs ++ x ∷ [], q)
  unfolding p.arguments_from on_some on_front
  last_argument_is zero zs x r q some h = absurd (omega arith)
  last_argument_is (suc k) zs x r q some h = ap (λ m. on_front m (λ z q'. row_on (p.arguments_from inner k) (zs ++ z ∷ []) q')) h

  pub more_arguments_are : (k : ℕ) (zs xs : List Any) (x : Any) (r q q1 : List Terminal) → 0 < k → p.either inner r ≡ Some (x, t.Comma ∷ q)
      → p.arguments_from inner (k - 1) (zs ++ x ∷ []) q ≡ Some ((zs ++ x ∷ []) ++ xs, q1)
      → p.arguments_from inner k zs r ≡ Some (zs ++ (x ∷ xs), q1)
  unfolding p.arguments_from on_some on_front
  more_arguments_are zero zs xs x r q q1 some h h1 = absurd (omega arith)
  more_arguments_are (suc k) zs xs x r q q1 some h h1 =
      let e : k ≡ suc k - 1 = omega arith in
      ap (λ m. on_front m (λ z q'. row_on (p.arguments_from inner k) (zs ++ z ∷ []) q')) h
      ∙ (ap (λ j. p.arguments_from inner j (zs ++ x ∷ []) q) e ∙ (h1 ∙ ap (λ z. Some (z, q1)) (append_assoc zs (x ∷ []) xs)))

  pub subscripts_are : (xs : List NumExpr) (r q : List Terminal) → p.subscripts_from inner (length r) [] r ≡ Some ([] ++ xs, q) → p.subscripts inner r ≡ Some (xs, q)
  unfolding p.subscripts
  subscripts_are xs r q h = h

  pub arguments_are : (xs : List Any) (r q : List Terminal) → p.arguments_from inner (length r) [] r ≡ Some ([] ++ xs, q) → p.arguments inner r ≡ Some (xs, q)
  unfolding p.arguments
  arguments_are xs r q h = h

  pub end_absent : (r : List Terminal) → p.end inner (t.Close ∷ r) ≡ Some (None, r)
  unfolding p.end on_some
  end_absent r = refl

  pub end_present : (x : NumExpr) (r q : List Terminal) → p.number inner 1 r ≡ Some (x, t.Close ∷ q) → p.end inner (t.Comma ∷ r) ≡ Some (Some x, q)
  unfolding p.end on_some on_front
  end_present x r q h = ap (λ m. on_front m (λ z q'. closed (Some z) q')) h

  pub number_either : (l : ℕ) (x : NumExpr) (r q : List Terminal) → inner 1 r ≡ Some (found.Number l x, q) → p.either inner r ≡ Some (any.Number x, q)
  unfolding p.either on_front
  number_either l x r q h = ap (λ m. on_front m p.any_of) h

  pub text_either : (y : StrExpr) (r q : List Terminal) → inner 1 r ≡ Some (found.Text y, q) → p.either inner r ≡ Some (any.Text y, q)
  unfolding p.either on_front
  text_either y r q h = ap (λ m. on_front m p.any_of) h

  -- an indirection after a variable
  pub placed_sum : (l : ℕ) (v : Variable) (w : Width) (x : NumExpr) (r q : List Terminal) → l ≤ 6 → p.number inner 7 r ≡ Some (x, q)
      → p.placed inner l v (t.Indirection w ∷ r) ≡ Some (found.Number 6 (num.IndirectSum w v x), q)
  unfolding p.placed p.offset on_front or_front
  placed_sum l v w x r q low h =
      ap (λ b. or_front {A = Width × NumExpr} (if b then on_front (p.number inner 7 r) (λ z q'. Some ((w, z), q')) else None)
      (λ z q'. Some (found.Number 6 (num.IndirectSum z.0 v z.1), q')) (Some (found.Number 7 (num.Variable v), t.Indirection w ∷ r))) (le-leb l 6 low)
      ∙ ap (λ m. or_front {A = Width × NumExpr} (on_front m (λ z q'. Some ((w, z), q')))
      (λ z q'. Some (found.Number 6 (num.IndirectSum z.0 v z.1), q')) (Some (found.Number 7 (num.Variable v), t.Indirection w ∷ r))) h

  -- an operator and its right operand
  pub right_is : (l left : ℕ) (op : BinaryOp) (y : NumExpr) (r q : List Terminal) → l ≤ level op → left_level op ≤ left
      → p.number inner (suc (level op)) r ≡ Some (y, q) → p.right inner l left (t.Operator op ∷ r) ≡ Some ((op, y), q)
  unfolding p.right on_front
  right_is l left op y r q low high h =
      ap (λ b. if b && nat_le (left_level op) left then on_front (p.number inner (suc (level op)) r) (λ z q'. Some ((op, z), q')) else None) (le-leb l (level op) low)
      ∙ (ap (λ b. if b then on_front (p.number inner (suc (level op)) r) (λ z q'. Some ((op, z), q')) else None) (le-leb (left_level op) left high)
      ∙ ap (λ m. on_front m (λ z q'. Some ((op, z), q'))) h)

  pub num_on_more : (l k left : ℕ) (x : NumExpr) (op : BinaryOp) (y : NumExpr) (r q : List Terminal) → 0 < k → l ≤ level op → left_level op ≤ left
      → p.number inner (suc (level op)) r ≡ Some (y, q)
      → p.num_on inner l k left x (t.Operator op ∷ r) ≡ p.num_on inner l (k - 1) (level op) (num.Binary op x y) q
  unfolding p.num_on or_front
  num_on_more l zero left x op y r q some low high h = absurd (omega arith)
  num_on_more l (suc k) left x op y r q some low high h =
      let e : k ≡ suc k - 1 = omega arith in
      ap (λ m. or_front m (λ z q'. p.num_on inner l k (level z.0) (num.Binary z.0 x z.1) q') (Some (found.Number left x, t.Operator op ∷ r)))
      (right_is l left op y r q low high h)
      ∙ ap (λ j. p.num_on inner l j (level op) (num.Binary op x y) q) e

  pub joined_is : (l : ℕ) (z : StrExpr) (r q : List Terminal) → l ≤ 4 → p.text inner 6 r ≡ Some (z, q) → p.joined inner l (t.Operator op.Add ∷ r) ≡ Some (z, q)
  unfolding p.joined on_some
  joined_is l z r q low h = ap (λ b. if b then p.text inner 6 r else None) (le-leb l 4 low) ∙ h

  pub text_on_more : (l k : ℕ) (y z : StrExpr) (r q : List Terminal) → 0 < k → l ≤ 4 → p.text inner 6 r ≡ Some (z, q)
      → p.text_on inner l k y (t.Operator op.Add ∷ r) ≡ p.text_on inner l (k - 1) (str.Join y z) q
  unfolding p.text_on or_front
  text_on_more l zero y z r q some low h = absurd (omega arith)
  text_on_more l (suc k) y z r q some low h =
      let e : k ≡ suc k - 1 = omega arith in
      ap (λ m. or_front m (λ w q'. p.text_on inner l k (str.Join y w) q') (p.compared inner l y (t.Operator op.Add ∷ r))) (joined_is l z r q low h)
      ∙ ap (λ j. p.text_on inner l j (str.Join y z) q) e

  pub text_on_compared : (l k : ℕ) (y : StrExpr) (c : Comparison) (r : List Terminal)
      → p.text_on inner l k y (t.Operator (op.Compare c) ∷ r) ≡ p.compared inner l y (t.Operator (op.Compare c) ∷ r)
  unfolding p.text_on p.joined on_some or_front
  text_on_compared l zero y c r = refl
  text_on_compared l (suc k) y c r = refl

  pub compared_is : (l : ℕ) (y z : StrExpr) (c : Comparison) (r q : List Terminal) → l ≤ 3 → p.text inner 4 r ≡ Some (z, q)
      → p.compared inner l y (t.Operator (op.Compare c) ∷ r) ≡ p.num_on inner l (length q) 3 (num.CompareText c y z) q
  unfolding p.compared p.compared_with on_front or_front
  compared_is l y z c r q low h =
      ap (λ b. or_front {A = Comparison × StrExpr} (if b then on_front (p.text inner 4 r) (λ z q'. Some ((c, z), q')) else None)
      (λ z q'. p.num_on inner l (length q') 3 (num.CompareText z.0 y z.1) q') (Some (found.Text y, t.Operator (op.Compare c) ∷ r))) (le-leb l 3 low)
      ∙ ap (λ m. or_front {A = Comparison × StrExpr} (on_front m (λ z q'. Some ((c, z), q')))
      (λ z q'. p.num_on inner l (length q') 3 (num.CompareText z.0 y z.1) q') (Some (found.Text y, t.Operator (op.Compare c) ∷ r))) h

-- no operand begins with `~`
pub no_tilde : (n : ℕ) (r : List Terminal) (z : NumExpr × List Terminal) → p.number (p.expression n) 6 r ≡ Some z → p.after_tilde r ≡ None
unfolding p.expression p.number p.whole p.operand p.opened p.prefixed p.formed on_some on_front
no_tilde n [] z h = refl
no_tilde zero (t.Tilde ∷ r) z h = absurd (cc)
no_tilde (suc n) (t.Tilde ∷ r) z h = absurd (cc)
no_tilde n (_ ∷ r) z h = refl

pub decimal_operand : (n l : ℕ) (x : NumExpr) (r q : List Terminal) → p.number (p.expression n) 6 r ≡ Some (x, q)
    → p.operand (p.expression n) l (t.Keyword word.Str ∷ r) ≡ Some (found.Text (str.Written format.Decimal x), q)
unfolding p.operand p.opened p.prefixed p.formed p.written on_some on_front
decimal_operand n l x r q h =
    ap (λ m. on_some m (λ q. on_front (p.number (p.expression n) 6 q) (λ x q1. Some (found.Text (str.Written format.Hexadecimal x), q1)))
    (on_front (p.number (p.expression n) 6 r) (λ x q1. Some (found.Text (str.Written format.Decimal x), q1)))) (no_tilde n r (x, q) h)
    ∙ ap (λ m. on_front m (λ z q'. Some (found.Text (str.Written format.Decimal z), q'))) h
