-- The code of an expression fits the terminals that spell it out.
use Rattle.std.proofs.Common.{◌≡◌, ℕ, ◌<◌, ◌≤◌, List, [], ◌∷◌, ◌++◌, Option, None, Some, refl, sym, subst, length, length-append, lit≤, arith}
use Rattle.std.specs.Prelude.{pos, negsuc, slice_get}
use Rattle.bas_ast.specs.declared.expressions.BinaryOp.{BinaryOp}
use Rattle.bas_ast.specs.declared.expressions.BinaryOp.TheVariants as op
use Rattle.bas_ast.specs.declared.expressions.NumExpr.{NumExpr}
use Rattle.bas_ast.specs.declared.expressions.NumExpr.TheVariants as num
use Rattle.bas_ast.specs.declared.expressions.StrExpr.{StrExpr}
use Rattle.bas_ast.specs.declared.expressions.UnaryOp.{UnaryOp}
use Rattle.bas_ast.specs.declared.expressions.UnaryOp.TheVariants as unary
use Rattle.bas_ast.specs.declared.expressions.Variable.{Variable}
use Rattle.bas_ast.specs.declared.keywords.Keyword.{Keyword}
use Rattle.bas_ast.specs.declared.keywords.Keyword.TheVariants as word
use Rattle.bas_ast.specs.declared.program.Prog.{Prog}
use Rattle.bas_ast.specs.declared.terminals.Terminal.{Terminal}
use Rattle.bas_ast.specs.declared.terminals.Terminal.TheVariants as t
use Rattle.bas_ast.specs.Expressions as e
use Rattle.bas_ast.specs.Expressions.{IsNum, IsStr, IsVar, IsStrVar}
use Rattle.bas_ast.specs.Words.{Role, NoRole, Alone, AloneText, BeforeNumber, BeforeText, TextBeforeNumber, TakesPart, role}
use Rattle.bas_ir.specs.declared.op.Op.{Op}
use Rattle.bas_ir.specs.declared.op.Op.TheVariants as o
use Rattle.bas_store.specs.Cells.{Cell, Resident, Integer, residents, cell_by, resident_of, text_of_name, integer_cell}
use Rattle.bas_ir.specs.WellFormed.{most_code, IsThere}
use Rattle.ir_build.specs.Code.{unary_code, read_op, store_op, expr_code, text_code, flat_code}
use Rattle.ir_build.proofs.Equations.{bracket_code, unary_expr_code, binary_code}
use Rattle.ir_build.proofs.Residents.{IsOneCell, integer_one}
use Rattle.ir_build.proofs.Fits.{worth, worth_append, cost, push_of, pushes, IsKnown, AllKnown, AllThere, Fits, beside, then_ops, after, before, front_known, back_known}

module _ (prog : Prog) (line : ℕ) where
  -- the end of a run, and a number
  no_number : (c : Terminal) (a : List Terminal) → 88 ≤ worth c → Fits prog 0 48 (c ∷ a) (o.End ∷ o.Push (pos 0) ∷ [])
  no_number c a worthy = record { there = (tt, (tt, tt)); cheap = omega (arith, worthy); low = omega arith }

  no_number_between : (a : List Terminal) (c : Terminal) (b : List Terminal) → 88 ≤ worth c → Fits prog 0 48 (a ++ c ∷ b) (o.End ∷ o.Push (pos 0) ∷ [])
  no_number_between a c b worthy = record {
    there = (tt, (tt, tt));
    cheap = omega (arith, worthy, worth_append a (c ∷ b));
    low = omega (arith, length-append a (c ∷ b));
  }

  one_push : (c : Terminal) (op : Op) → IsThere (flat_code prog) op → most_code op ≤ 48 → push_of op ≡ 1 → worth c ≡ 96 → Fits prog 0 48 (c ∷ []) (op ∷ [])
  one_push c op there cheap one worthy = record { there = (there, tt); cheap = omega (arith, cheap, worthy); low = omega (arith, one) }

  -- ---- variables

  -- a cell of a name that is there
  abbrev pub IsCell : Cell → Type 0
  IsCell (Resident index) = index < residents
  IsCell (Integer name) = name < length prog.names

  known_cell : (resident : Option ℕ) (name : ℕ) → IsOneCell (cell_by resident name) → name < length prog.names → IsCell (cell_by resident name)
  known_cell None name one known = known
  known_cell (Some index) name one known = one

  pub cell_of : (name : ℕ) → name < length prog.names → IsCell (integer_cell prog.names name)
  cell_of name known = known_cell (resident_of (text_of_name (slice_get prog.names name))) name (integer_one prog.names name) known

  pub read_fits : (n : ℕ) (cell : Cell) → IsCell cell → Fits prog 0 48 (t.IntName n ∷ []) (read_op line cell ∷ [])
  read_fits n (Resident index) known = one_push (t.IntName n) (o.PushResident index) known (lit≤ tt) refl refl
  read_fits n (Integer name) known = one_push (t.IntName n) (o.PushInteger name line) known (lit≤ tt) refl refl

  pub store_there : (cell : Cell) → IsCell cell → AllThere prog (store_op cell ∷ [])
  store_there (Resident index) known = (known, tt)
  store_there (Integer name) known = (known, tt)

  pub store_cost : (cell : Cell) → cost (store_op cell ∷ []) ≤ 24
  store_cost (Resident index) = lit≤ tt
  store_cost (Integer name) = lit≤ tt

  pub store_pushes : (cell : Cell) → pushes (store_op cell ∷ []) ≡ 0
  store_pushes (Resident index) = refl
  store_pushes (Integer name) = refl

  variable_fits : (a : List Terminal) (v : Variable) → IsVar a v → AllKnown prog a → Fits prog 0 48 a (expr_code prog line (num.Variable v))
  unfolding expr_code
  variable_fits a v (e.simple n) known = read_fits n (integer_cell prog.names n) (cell_of n known.0)
  variable_fits a v (e.element n a' xs d) known = no_number (t.IntArray n) a' (lit≤ tt)

  -- ---- words and signs before an operand

  unary_there : (op : UnaryOp) → AllThere prog (unary_code line op)
  unary_there unary.Plus = tt
  unary_there unary.Minus = (tt, tt)
  unary_there unary.Not = (tt, tt)
  unary_there unary.Abs = (tt, tt)
  unary_there unary.Sgn = (tt, tt)
  unary_there unary.Int = tt

  unary_pushes : (op : UnaryOp) → pushes (unary_code line op) ≡ 0
  unary_pushes unary.Plus = refl
  unary_pushes unary.Minus = refl
  unary_pushes unary.Not = refl
  unary_pushes unary.Abs = refl
  unary_pushes unary.Sgn = refl
  unary_pushes unary.Int = refl

  unary_cost : (op : UnaryOp) → cost (unary_code line op) ≤ 64
  unary_cost unary.Plus = lit≤ tt
  unary_cost unary.Minus = lit≤ tt
  unary_cost unary.Not = lit≤ tt
  unary_cost unary.Abs = lit≤ tt
  unary_cost unary.Sgn = lit≤ tt
  unary_cost unary.Int = lit≤ tt

  unary_fits : (c : Terminal) (op : UnaryOp) (a : List Terminal) (x : NumExpr) → worth c ≡ 96 → Fits prog 0 48 a (expr_code prog line x)
      → Fits prog 0 48 (c ∷ a) (expr_code prog line (num.Unary op x))
  unary_fits c op a x worthy fits =
      let operand : Fits prog 0 144 (c ∷ a) (expr_code prog line x) = after c fits (omega (arith, worthy)) in
      subst (Fits prog 0 48 (c ∷ a)) (sym (unary_expr_code prog line op x))
      (then_ops (unary_code line op) operand (unary_there op) (unary_pushes op) (omega (arith, unary_cost op)))

  -- what a terminal's role makes of what comes after it
  abbrev FitsRole : Terminal → Role → Type 0
  FitsRole c (Alone x) = Fits prog 0 48 (c ∷ []) (expr_code prog line x)
  FitsRole c (AloneText y) = Fits prog 0 0 (c ∷ []) (text_code y)
  FitsRole c (BeforeNumber f) = (a : List Terminal) (x : NumExpr) → Fits prog 0 48 a (expr_code prog line x) → Fits prog 0 48 (c ∷ a) (expr_code prog line (f x))
  FitsRole c (BeforeText f) = (a : List Terminal) (y : StrExpr) → Fits prog 0 48 (c ∷ a) (expr_code prog line (f y))
  FitsRole c (TextBeforeNumber f) = (a : List Terminal) (x : NumExpr) → Fits prog 0 0 (c ∷ a) (text_code (f x))
  FitsRole c (TakesPart side) = 88 ≤ worth c
  FitsRole c NoRole = Unit {0}

  -- a text that ends the run
  no_text : (c : Terminal) (a : List Terminal) → 88 ≤ worth c → Fits prog 0 0 (c ∷ a) (o.End ∷ [])
  no_text c a worthy = record { there = (tt, tt); cheap = omega (arith, worthy); low = omega arith }

  sign_fits : (op : BinaryOp) → FitsRole (t.Operator op) (role (t.Operator op))
  sign_fits op.Add = λ a x fits. unary_fits (t.Operator op.Add) unary.Plus a x refl fits
  sign_fits op.Subtract = λ a x fits. unary_fits (t.Operator op.Subtract) unary.Minus a x refl fits
  sign_fits _ = tt

  word_fits : (c : Keyword) → FitsRole (t.Keyword c) (role (t.Keyword c))
  unfolding expr_code
  word_fits word.True = one_push (t.Keyword word.True) (o.Push (negsuc 0)) tt (lit≤ tt) refl refl
  word_fits word.False = one_push (t.Keyword word.False) (o.Push (pos 0)) tt (lit≤ tt) refl refl
  word_fits word.Count = one_push (t.Keyword word.Count) o.PushColumn tt (lit≤ tt) refl refl
  word_fits word.Err = no_number (t.Keyword word.Err) [] (lit≤ tt)
  word_fits word.Erl = no_number (t.Keyword word.Erl) [] (lit≤ tt)
  word_fits word.Get = no_number (t.Keyword word.Get) [] (lit≤ tt)
  word_fits word.GetText = no_text (t.Keyword word.GetText) [] (lit≤ tt)
  word_fits word.Not = λ a x fits. unary_fits (t.Keyword word.Not) unary.Not a x refl fits
  word_fits word.Abs = λ a x fits. unary_fits (t.Keyword word.Abs) unary.Abs a x refl fits
  word_fits word.Sgn = λ a x fits. unary_fits (t.Keyword word.Sgn) unary.Sgn a x refl fits
  word_fits word.Int = λ a x fits. unary_fits (t.Keyword word.Int) unary.Int a x refl fits
  word_fits word.Usr = λ a x fits. no_number (t.Keyword word.Usr) a (lit≤ tt)
  word_fits word.Asc = λ a y. no_number (t.Keyword word.Asc) a (lit≤ tt)
  word_fits word.Len = λ a y. no_number (t.Keyword word.Len) a (lit≤ tt)
  word_fits word.Val = λ a y. no_number (t.Keyword word.Val) a (lit≤ tt)
  word_fits word.Chr = λ a x. no_text (t.Keyword word.Chr) a (lit≤ tt)
  word_fits word.Left = lit≤ tt
  word_fits word.Right = lit≤ tt
  word_fits _ = tt

  role_fits : (c : Terminal) → IsKnown prog c → FitsRole c (role c)
  unfolding expr_code
  role_fits (t.Number value) known = one_push (t.Number value) (o.Push value) tt (lit≤ tt) refl refl
  role_fits (t.Label n) known = no_number (t.Label n) [] (lit≤ tt)
  role_fits (t.NumFunction n) known = no_number (t.NumFunction n) [] (lit≤ tt)
  role_fits (t.Literal n) known = record { there = (known, (tt, tt)); cheap = lit≤ tt; low = lit≤ tt }
  role_fits (t.StrFunction n) known = no_text (t.StrFunction n) [] (lit≤ tt)
  role_fits (t.Operator op) known = sign_fits op
  role_fits (t.Indirection w) known = λ a x fits. no_number (t.Indirection w) a (lit≤ tt)
  role_fits t.Dollar known = λ a x. no_text t.Dollar a (lit≤ tt)
  role_fits (t.Keyword c) known = word_fits c
  role_fits _ known = tt

  -- ---- numbers and strings

  pub num_fits : (l : ℕ) (a : List Terminal) (x : NumExpr) → IsNum l a x → AllKnown prog a → Fits prog 0 48 a (expr_code prog line x)
  unfolding expr_code
  num_fits l a x (e.alone _ c _ is) known = subst (FitsRole c) is (role_fits c known.0)
  num_fits l a x (e.variable _ _ v d) known = variable_fits a v d known
  num_fits l a x (e.indirect_sum _ a' b v w y k d d') known = no_number_between a' (t.Indirection w) b (lit≤ tt)
  num_fits l a x (e.bracket _ a' y d) known =
      let inner : Fits prog 0 48 a' (expr_code prog line y) = num_fits 1 a' y d (front_known prog a' (t.Close ∷ []) known.1) in
      subst (Fits prog 0 48 a) (sym (bracket_code prog line y)) (after t.Open (before {D = 0} {S = 0} (t.Close ∷ []) inner (lit≤ tt)) (lit≤ tt))
  num_fits l a x (e.before _ c f a' y is d) known = subst (FitsRole c) is (role_fits c known.0) a' y (num_fits 6 a' y d known.1)
  num_fits l a x (e.before_text _ c f a' y is d) known = subst (FitsRole c) is (role_fits c known.0) a' y
  num_fits l a x (e.instr _ a' b q y z m d d' k) known = no_number (t.Keyword word.Instr) _ (lit≤ tt)
  num_fits l a x (e.function _ n a' xs d) known = no_number (t.NumFunctionOpen n) a' (lit≤ tt)
  num_fits l a x (e.binary _ op a' b y z k d d') known =
      let left = num_fits _ a' y d (front_known prog a' (t.Operator op ∷ b) known) in
      let right = num_fits _ b z d' (back_known prog a' (t.Operator op ∷ b) known).1 in
      let one : Fits prog 0 144 (t.Operator op ∷ b) (expr_code prog line z) = after (t.Operator op) right (lit≤ tt) in
      let two : Fits prog 0 48 (t.Operator op ∷ b) (expr_code prog line z ++ o.Binary op line ∷ []) = then_ops (o.Binary op line ∷ []) one (tt, tt) refl (lit≤ tt) in
      subst (Fits prog 0 48 a) (sym (binary_code prog line op y z)) (beside left two (lit≤ tt))
  num_fits l a x (e.compare_text _ c a' b y z k d d') known = no_number_between a' (t.Operator (op.Compare c)) b (lit≤ tt)

  no_text_between : (a : List Terminal) (c : Terminal) (b : List Terminal) → 88 ≤ worth c → Fits prog 0 0 (a ++ c ∷ b) (o.End ∷ [])
  no_text_between a c b worthy = record { there = (tt, tt); cheap = omega (arith, worthy, worth_append a (c ∷ b)); low = omega arith }

  pub text_fits : (l : ℕ) (a : List Terminal) (y : StrExpr) → IsStr l a y → AllKnown prog a → Fits prog 0 0 a (text_code y)
  text_fits l a y (e.text_alone _ c _ is) known = subst (FitsRole c) is (role_fits c known.0)
  text_fits l a y (e.text_variable _ _ v (e.text_simple n)) known = no_text (t.StrName n) [] (lit≤ tt)
  text_fits l a y (e.text_variable _ _ v (e.text_element n a' xs d)) known = no_text (t.StrArray n) a' (lit≤ tt)
  text_fits l a y (e.text_bracket _ a' z d) known = no_text t.Open _ (lit≤ tt)
  text_fits l a y (e.text_before _ c f a' x is d) known = subst (FitsRole c) is (role_fits c known.0) a' x
  text_fits l a y (e.written _ a' x d) known = no_text (t.Keyword word.Str) a' (lit≤ tt)
  text_fits l a y (e.written_hexadecimal _ a' x d) known = no_text (t.Keyword word.Str) (t.Tilde ∷ a') (lit≤ tt)
  text_fits l a y (e.part _ c side a' q z m is d k) known = no_text c (a' ++ q) (subst (FitsRole c) is (role_fits c known.0))
  text_fits l a y (e.middle _ a' b q z x m d d' k) known = no_text (t.Keyword word.Mid) _ (lit≤ tt)
  text_fits l a y (e.copies _ a' b x z d d') known = no_text (t.Keyword word.Copies) _ (lit≤ tt)
  text_fits l a y (e.text_function _ n a' xs d) known = no_text (t.StrFunctionOpen n) a' (lit≤ tt)
  text_fits l a y (e.join _ a' b z v k d d') known = no_text_between a' (t.Operator op.Add) b (lit≤ tt)
