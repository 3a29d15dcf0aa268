-- What the parser answers is an expression of the grammar.
use Rattle.std.proofs.Common.{◌≡◌, ℕ, zero, suc, ◌≤◌, max, Bool, true, false, ◌&&◌, List, [], ◌∷◌, ◌++◌, length, Some, None, refl, ap, sym, subst, ◌∙◌, append_assoc, lit≤, arith}
use Rattle.std.proofs.lemmas.Bool.{leb-true}
use Rattle.bas_ast.specs.declared.expressions.Any.{Any}
use Rattle.bas_ast.specs.declared.expressions.Any.TheVariants as any
use Rattle.bas_ast.specs.declared.expressions.BinaryOp.{BinaryOp}
use Rattle.bas_ast.specs.declared.expressions.BinaryOp.TheVariants as op
use Rattle.bas_ast.specs.declared.expressions.Comparison.{Comparison}
use Rattle.bas_ast.specs.declared.expressions.NumExpr.{NumExpr}
use Rattle.bas_ast.specs.declared.expressions.NumExpr.TheVariants as num
use Rattle.bas_ast.specs.declared.expressions.NumberFormat.TheVariants as format
use Rattle.bas_ast.specs.declared.expressions.Side.{Side}
use Rattle.bas_ast.specs.declared.expressions.StrExpr.{StrExpr}
use Rattle.bas_ast.specs.declared.expressions.StrExpr.TheVariants as str
use Rattle.bas_ast.specs.declared.expressions.Variable.{Variable}
use Rattle.bas_ast.specs.declared.expressions.Variable.TheVariants as var
use Rattle.bas_ast.specs.declared.expressions.Width.{Width}
use Rattle.bas_ast.specs.declared.keywords.Keyword.TheVariants as word
use Rattle.bas_ast.specs.declared.terminals.Terminal.{Terminal}
use Rattle.bas_ast.specs.declared.terminals.Terminal.TheVariants as t
use Rattle.bas_ast.specs.Words.{Role, Alone, AloneText, BeforeNumber, BeforeText, TextBeforeNumber, TakesPart, NoRole, role, level, left_level}
use Rattle.bas_ast.specs.Expressions as g
use Rattle.bas_ast.specs.Expressions.{IsNum, IsStr, IsVar, IsStrVar, IsSubscripts, IsArguments, IsAny, IsEnd}
use Rattle.expr_parse.specs.declared.found.Found.{Found}
use Rattle.expr_parse.specs.declared.found.Found.TheVariants as found
use Rattle.expr_parse.specs.Longest.{Fronts}
use Rattle.expr_parse.specs.Parse as p
use Rattle.expr_parse.specs.Parse.{Front, Parser, on_some, after_tilde, after_plus, operator_at, comparison_at, indirection_at}
use Rattle.expr_parse.proofs.Fronts.{Holds, holds_some, holds_none, holds_as, holds_on, holds_or, holds_if, on_close, on_comma, closed_at, row_at, two, fronts_over, fronts_two, fronts_glue, fronts_close, fronts_as, fronts_one}

-- an expression of a level is one of each lower level
pub weaker_num : (l l' : ℕ) (a : List Terminal) (x : NumExpr) → l' ≤ l → IsNum l a x → IsNum l' a x
weaker_num l l' a x h (g.alone _ c _ e) = g.alone l' c x e
weaker_num l l' a x h (g.variable _ _ v d) = g.variable l' a v d
weaker_num l l' a x h (g.indirect_sum _ b b' v w y k d e) = g.indirect_sum l' b b' v w y (omega arith) d e
weaker_num l l' a x h (g.bracket _ b y d) = g.bracket l' b y d
weaker_num l l' a x h (g.before _ c f b y e d) = g.before l' c f b y e d
weaker_num l l' a x h (g.before_text _ c f b y e d) = g.before_text l' c f b y e d
weaker_num l l' a x h (g.instr _ b b' e y z m d d' k) = g.instr l' b b' e y z m d d' k
weaker_num l l' a x h (g.function _ n b xs d) = g.function l' n b xs d
weaker_num l l' a x h (g.binary _ op b b' y z k d e) = g.binary l' op b b' y z (omega arith) d e
weaker_num l l' a x h (g.compare_text _ c b b' y z k d e) = g.compare_text l' c b b' y z (omega arith) d e

pub weaker_text : (l l' : ℕ) (a : List Terminal) (y : StrExpr) → l' ≤ l → IsStr l a y → IsStr l' a y
weaker_text l l' a y h (g.text_alone _ c _ e) = g.text_alone l' c y e
weaker_text l l' a y h (g.text_variable _ _ v d) = g.text_variable l' a v d
weaker_text l l' a y h (g.text_bracket _ b z d) = g.text_bracket l' b z d
weaker_text l l' a y h (g.text_before _ c f b x e d) = g.text_before l' c f b x e d
weaker_text l l' a y h (g.written _ b x d) = g.written l' b x d
weaker_text l l' a y h (g.written_hexadecimal _ b x d) = g.written_hexadecimal l' b x d
weaker_text l l' a y h (g.part _ c side b e z m k d d') = g.part l' c side b e z m k d d'
weaker_text l l' a y h (g.middle _ b b' e z x m d d' k) = g.middle l' b b' e z x m d d' k
weaker_text l l' a y h (g.copies _ b b' x z d d') = g.copies l' b b' x z d d'
weaker_text l l' a y h (g.text_function _ n b xs d) = g.text_function l' n b xs d
weaker_text l l' a y h (g.join _ b b' z z' k d e) = g.join l' b b' z z' (omega arith) d e

pub level_small : (op : BinaryOp) → level op ≤ 5
level_small op.Or = lit≤ tt
level_small op.Eor = lit≤ tt
level_small op.And = lit≤ tt
level_small (op.Compare c) = lit≤ tt
level_small op.ShiftLeft = lit≤ tt
level_small op.ShiftRightSigned = lit≤ tt
level_small op.ShiftRight = lit≤ tt
level_small op.Add = lit≤ tt
level_small op.Subtract = lit≤ tt
level_small op.Multiply = lit≤ tt
level_small op.Divide = lit≤ tt
level_small op.Remainder = lit≤ tt

-- What was found is an expression of at least this level.
pub FoundAt : ℕ → List Terminal → Found → List Terminal → Type 0
FoundAt l r (found.Number left x) q = (l ≤ left) × Fronts (IsNum left) r x q
FoundAt l r (found.Text y) q = Fronts (IsStr (max l 4)) r y q

both : (a b : Bool) → a && b ≡ true → (a ≡ true) × (b ≡ true)
both true b h = (refl, h)
both false b h = absurd (cc)

-- An indirection stands here, with its operand.
pub record OffsetAt (l : ℕ) (r : List Terminal) (z : Width × NumExpr) (q : List Terminal) : Type 0 where
  pub after : List Terminal
  pub sign : r ≡ t.Indirection z.0 ∷ after
  pub low : l ≤ 6
  pub operand : Fronts (IsNum 7) after z.1 q

-- An operator stands here, with its right operand.
pub record RightAt (l left : ℕ) (r : List Terminal) (z : BinaryOp × NumExpr) (q : List Terminal) : Type 0 where
  pub after : List Terminal
  pub sign : r ≡ t.Operator z.0 ∷ after
  pub low : l ≤ level z.0
  pub high : left_level z.0 ≤ left
  pub operand : Fronts (IsNum (suc (level z.0))) after z.1 q

-- A string stands here that is joined to one before.
pub record JoinedAt (l : ℕ) (r : List Terminal) (z : StrExpr) (q : List Terminal) : Type 0 where
  pub after : List Terminal
  pub sign : r ≡ t.Operator op.Add ∷ after
  pub low : l ≤ 4
  pub operand : Fronts (IsStr 6) after z q

-- A string stands here that is compared with one before.
pub record ComparedAt (l : ℕ) (r : List Terminal) (z : Comparison × StrExpr) (q : List Terminal) : Type 0 where
  pub after : List Terminal
  pub sign : r ≡ t.Operator (op.Compare z.0) ∷ after
  pub low : l ≤ 3
  pub operand : Fronts (IsStr 4) after z.1 q

-- Items were read after those that were there.
pub record RowsAfter {A : Type 0} (Is : List Terminal → List A → Type 0) (xs : List A) (r : List Terminal) (zs : List A) (q : List Terminal) : Type 0 where
  pub own : List A
  pub all : zs ≡ xs ++ own
  pub here : Fronts Is r own q

-- The parser of what lies deeper finds expressions.
abbrev pub Finds : (ℕ → Parser Found) → Type 0
Finds inner = (l : ℕ) (r : List Terminal) → l ≤ 7 → Holds (FoundAt l r) (inner l r)

-- ---- kinds

only_number_at : (l : ℕ) (r : List Terminal) (x : Found) (q : List Terminal) → FoundAt l r x q → Holds (Fronts (IsNum l) r) (p.only_number x q)
unfolding FoundAt
only_number_at l r (found.Number left x) q h =
    holds_some (Fronts (IsNum l) r) x q (fronts_as _ _ r q x x h.1 (λ a d. weaker_num left l a x h.0 d))
only_number_at l r (found.Text y) q h = holds_none _

only_text_at : (l : ℕ) (r : List Terminal) (x : Found) (q : List Terminal) → FoundAt l r x q → Holds (Fronts (IsStr l) r) (p.only_text x q)
unfolding FoundAt
only_text_at l r (found.Number left x) q h = holds_none _
only_text_at l r (found.Text y) q h =
    holds_some (Fronts (IsStr l) r) y q (fronts_as _ _ r q y y h (λ a d. weaker_text (max l 4) l a y (omega arith) d))

any_of_at : (r : List Terminal) (x : Found) (q : List Terminal) → FoundAt 1 r x q → Holds (Fronts IsAny r) (p.any_of x q)
unfolding FoundAt
any_of_at r (found.Number left x) q h =
    holds_some (Fronts IsAny r) (any.Number x) q (fronts_as _ _ r q x _ h.1 (λ a d. g.number a x (weaker_num left 1 a x h.0 d)))
any_of_at r (found.Text y) q h = holds_some (Fronts IsAny r) (any.Text y) q (fronts_as _ _ r q y _ h (λ a d. g.text a y d))

module _ (inner : ℕ → Parser Found) (finds : Finds inner) where
  pub number_at : (l : ℕ) (r : List Terminal) → l ≤ 7 → Holds (Fronts (IsNum l) r) (p.number inner l r)
  unfolding p.number
  number_at l r h = holds_on (FoundAt l r) _ _ _ (finds l r h) (only_number_at l r)

  pub text_at : (l : ℕ) (r : List Terminal) → l ≤ 7 → Holds (Fronts (IsStr l) r) (p.text inner l r)
  unfolding p.text
  text_at l r h = holds_on (FoundAt l r) _ _ _ (finds l r h) (only_text_at l r)

  pub either_at : (r : List Terminal) → Holds (Fronts IsAny r) (p.either inner r)
  unfolding p.either
  either_at r = holds_on (FoundAt 1 r) _ _ _ (finds 1 r (lit≤ tt)) (any_of_at r)

  pub end_at : (r : List Terminal) → Holds (Fronts IsEnd r) (p.end inner r)
  unfolding p.end
  end_at r = on_close _ r _ _
      (λ q e. holds_some (Fronts IsEnd r) None q (record { front = t.Close ∷ []; split = e; is = g.absent }))
      (on_comma _ r _ _ (λ q e. holds_on _ _ _ _ (number_at 1 q (lit≤ tt)) (λ x q1 f. closed_at _ (Some x) q1
      (λ q2 e2. record {
        front = t.Comma ∷ (f.front ++ t.Close ∷ []);
        split = e ∙ ap (λ z. t.Comma ∷ z) (two q f.front [] q1 q2 q2 t.Close f.split e2 refl);
        is = g.present f.front x f.is;
      }))) (holds_none _))

  -- ---- rows

  pub subscripts_from_at : (k : ℕ) (xs : List NumExpr) (r : List Terminal) → Holds (RowsAfter IsSubscripts xs r) (p.subscripts_from inner k xs r)
  unfolding p.subscripts_from
  subscripts_from_at zero xs r = holds_none _
  subscripts_from_at (suc k) xs r = holds_on _ _ _ _ (number_at 1 r (lit≤ tt)) (λ x q f. row_at _ (p.subscripts_from inner k) _ q
      (λ q1 e. record { own = x ∷ []; all = refl; here = fronts_close _ _ t.Close r q q1 x (x ∷ []) f e (λ a d. g.last_subscript a x d) })
      (λ q1 e. holds_as _ _ _ (subscripts_from_at k (xs ++ x ∷ []) q1) (λ zs q2 m. record {
        own = x ∷ m.own;
        all = m.all ∙ append_assoc xs (x ∷ []) m.own;
        here = fronts_two _ _ _ t.Comma r q q1 q2 x m.own (x ∷ m.own) f e m.here (λ a b d d'. g.more_subscripts a b x m.own d d');
      })))

  pub subscripts_at : (r : List Terminal) → Holds (Fronts IsSubscripts r) (p.subscripts inner r)
  unfolding p.subscripts
  subscripts_at r = holds_as _ _ _ (subscripts_from_at (length r) [] r) (λ zs q m. fronts_as _ _ r q m.own zs m.here
      (λ a d. subst (λ z. IsSubscripts a z) (sym m.all) d))

  pub arguments_from_at : (k : ℕ) (xs : List Any) (r : List Terminal) → Holds (RowsAfter IsArguments xs r) (p.arguments_from inner k xs r)
  unfolding p.arguments_from
  arguments_from_at zero xs r = holds_none _
  arguments_from_at (suc k) xs r = holds_on _ _ _ _ (either_at r) (λ x q f. row_at _ (p.arguments_from inner k) _ q
      (λ q1 e. record { own = x ∷ []; all = refl; here = fronts_close _ _ t.Close r q q1 x (x ∷ []) f e (λ a d. g.last_argument a x d) })
      (λ q1 e. holds_as _ _ _ (arguments_from_at k (xs ++ x ∷ []) q1) (λ zs q2 m. record {
        own = x ∷ m.own;
        all = m.all ∙ append_assoc xs (x ∷ []) m.own;
        here = fronts_two _ _ _ t.Comma r q q1 q2 x m.own (x ∷ m.own) f e m.here (λ a b d d'. g.more_arguments a b x m.own d d');
      })))

  pub arguments_at : (r : List Terminal) → Holds (Fronts IsArguments r) (p.arguments inner r)
  unfolding p.arguments
  arguments_at r = holds_as _ _ _ (arguments_from_at (length r) [] r) (λ zs q m. fronts_as _ _ r q m.own zs m.here
      (λ a d. subst (λ z. IsArguments a z) (sym m.all) d))

  -- ---- operands

  indirection_holds : (r : List Terminal) → Holds (λ w q. r ≡ t.Indirection w ∷ q) (indirection_at r)
  unfolding Holds
  indirection_holds [] = tt
  indirection_holds (t.Indirection w ∷ q) = refl
  indirection_holds (_ ∷ q) = tt

  pub offset_at : (l : ℕ) (r : List Terminal) → Holds (OffsetAt l r) (p.offset inner l r)
  unfolding p.offset
  offset_at l r = holds_on _ _ _ _ (indirection_holds r) (λ w q e. holds_if _ _ _ (λ b. holds_on _ _ _ _ (number_at 7 q (lit≤ tt))
      (λ x q1 f. holds_some _ (w, x) q1 (record { after = q; sign = e; low = leb-true l 6 b; operand = f }))))

  number_found : (l : ℕ) (r q : List Terminal) (x : NumExpr) → l ≤ 7 → Fronts (IsNum 7) r x q → Holds (FoundAt l r) (Some (found.Number 7 x, q))
  unfolding FoundAt
  number_found l r q x h f = holds_some _ (found.Number 7 x) q (h, f)

  text_found : (l : ℕ) (r q : List Terminal) (y : StrExpr) → Fronts (IsStr (max l 4)) r y q → Holds (FoundAt l r) (Some (found.Text y, q))
  unfolding FoundAt
  text_found l r q y f = holds_some _ (found.Text y) q f

  placed_at : (l : ℕ) (r q : List Terminal) (v : Variable) → l ≤ 7 → Fronts IsVar r v q → Holds (FoundAt l r) (p.placed inner l v q)
  unfolding p.placed FoundAt
  placed_at l r q v h f = holds_or _ _ _ _ _ (offset_at l q)
      (λ z q1 m. holds_some _ (found.Number 6 (num.IndirectSum z.0 v z.1)) q1 (
        m.low,
        fronts_two _ _ _ (t.Indirection z.0) r q m.after q1 v z.1
            (num.IndirectSum z.0 v z.1) f m.sign m.operand (λ a b d d'. g.indirect_sum 6 a b v z.0 z.1 (lit≤ tt) d d'),
      ))
      (number_found l r q (num.Variable v) h (fronts_as _ _ r q v _ f (λ a d. g.variable 7 a v d)))

  bracketed_at : (l : ℕ) (r : List Terminal) (x : Found) (q q1 : List Terminal) → l ≤ 7 → FoundAt 1 r x q → q ≡ t.Close ∷ q1
      → FoundAt l (t.Open ∷ r) (p.bracketed x) q1
  unfolding FoundAt
  bracketed_at l r (found.Number left x) q q1 h f e = (
    h,
    fronts_over _ _ t.Open r (tt {0}) q1 (num.Bracket x)
        (fronts_close _ (λ a z. IsNum 7 (t.Open ∷ a) (num.Bracket x)) t.Close r q q1 x (tt {0}) f.1 e (λ a d. g.bracket 7 a x (weaker_num left 1 a x f.0 d)))
        (λ a d. d),
  )
  bracketed_at l r (found.Text y) q q1 h f e = fronts_over _ _ t.Open r (tt {0}) q1 (str.Bracket y)
      (fronts_close _ (λ a z. IsStr (max l 4) (t.Open ∷ a) (str.Bracket y)) t.Close r q q1 y (tt {0}) f e (λ a d. g.text_bracket (max l 4) a y d))
      (λ a d. d)

  bracket_at : (l : ℕ) (r : List Terminal) → l ≤ 7 → Holds (FoundAt l (t.Open ∷ r)) (p.bracket inner r)
  unfolding p.bracket
  bracket_at l r h = holds_on (FoundAt 1 r) _ _ _ (finds 1 r (lit≤ tt)) (λ x q f. closed_at _ (p.bracketed x) q
      (λ q1 e. bracketed_at l r x q q1 h f e))

  instr_at : (l : ℕ) (r : List Terminal) → l ≤ 7 → Holds (FoundAt l (t.Keyword word.Instr ∷ r)) (p.instr inner r)
  unfolding p.instr
  instr_at l r h = holds_on _ _ _ _ (text_at 4 r (lit≤ tt)) (λ y q f. on_comma _ q _ _
      (λ q1 e. holds_on _ _ _ _ (text_at 4 q1 (lit≤ tt)) (λ z q2 f2. holds_on _ _ _ _ (end_at q2) (λ m q3 f3.
      number_found l (t.Keyword word.Instr ∷ r) q3 (num.Instr y z m) h (fronts_over _ _ (t.Keyword word.Instr) r (tt {0}) q3 (num.Instr y z m)
      (fronts_two _ (λ b w. (a : List Terminal) → IsStr 4 a y → IsNum 7 (t.Keyword word.Instr ∷ (a ++ t.Comma ∷ b)) (num.Instr y z m))
      (λ a w. IsNum 7 (t.Keyword word.Instr ∷ a) (num.Instr y z m)) t.Comma r q q1 q3 y (tt {0}) (tt {0}) f e
      (fronts_glue _ _ _ q1 q2 q3 z m (tt {0}) f2 f3 (λ b c d2 d3 a d. g.instr 7 a b c y z m d d2 d3)) (λ a b d d'. d' a d))
      (λ a d. d)))))
      (holds_none _))

  middle_at : (l : ℕ) (r : List Terminal) → Holds (FoundAt l (t.Keyword word.Mid ∷ r)) (p.middle inner r)
  unfolding p.middle
  middle_at l r = holds_on _ _ _ _ (text_at 4 r (lit≤ tt)) (λ y q f. on_comma _ q _ _
      (λ q1 e. holds_on _ _ _ _ (number_at 1 q1 (lit≤ tt)) (λ x q2 f2. holds_on _ _ _ _ (end_at q2) (λ m q3 f3.
      text_found l (t.Keyword word.Mid ∷ r) q3 (str.Middle y x m) (fronts_over _ _ (t.Keyword word.Mid) r (tt {0}) q3 (str.Middle y x m)
      (fronts_two _ (λ b w. (a : List Terminal) → IsStr 4 a y → IsStr (max l 4) (t.Keyword word.Mid ∷ (a ++ t.Comma ∷ b)) (str.Middle y x m))
      (λ a w. IsStr (max l 4) (t.Keyword word.Mid ∷ a) (str.Middle y x m)) t.Comma r q q1 q3 y (tt {0}) (tt {0}) f e
      (fronts_glue _ _ _ q1 q2 q3 x m (tt {0}) f2 f3 (λ b c d2 d3 a d. g.middle (max l 4) a b c y x m d d2 d3)) (λ a b d d'. d' a d))
      (λ a d. d)))))
      (holds_none _))

  copies_at : (l : ℕ) (r : List Terminal) → Holds (FoundAt l (t.Keyword word.Copies ∷ r)) (p.copies inner r)
  unfolding p.copies FoundAt
  copies_at l r = holds_on _ _ _ _ (number_at 1 r (lit≤ tt)) (λ x q f. on_comma _ q _ _
      (λ q1 e. holds_on _ _ _ _ (text_at 4 q1 (lit≤ tt)) (λ y q2 f2. closed_at _ (found.Text (str.Copies x y)) q2 (λ q3 e3.
      fronts_over _ _ (t.Keyword word.Copies) r (tt {0}) q3 (str.Copies x y)
      (fronts_two _ (λ b w. (a : List Terminal) → IsNum 1 a x → IsStr (max l 4) (t.Keyword word.Copies ∷ (a ++ t.Comma ∷ b)) (str.Copies x y))
      (λ a w. IsStr (max l 4) (t.Keyword word.Copies ∷ a) (str.Copies x y)) t.Comma r q q1 q3 x (tt {0}) (tt {0}) f e
      (fronts_close _ _ t.Close q1 q2 q3 y (tt {0}) f2 e3 (λ b d2 a d. g.copies (max l 4) a b x y d d2)) (λ a b d d'. d' a d))
      (λ a d. d))))
      (holds_none _))

  part_at : (l : ℕ) (c : Terminal) (side : Side) (r : List Terminal) → role c ≡ TakesPart side → Holds (FoundAt l (c ∷ r)) (p.part inner side r)
  unfolding p.part
  part_at l c side r k = holds_on _ _ _ _ (text_at 4 r (lit≤ tt)) (λ y q f. holds_on _ _ _ _ (end_at q) (λ m q1 f1.
      text_found l (c ∷ r) q1 (str.Part side y m) (fronts_over _ _ c r (tt {0}) q1 (str.Part side y m)
      (fronts_glue _ _ (λ a w. IsStr (max l 4) (c ∷ a) (str.Part side y m)) r q q1 y m (tt {0}) f f1 (λ a b d d'. g.part (max l 4) c side a b y m k d d'))
      (λ a d. d))))

  tilde_at : {B : Type 0} (Q : B → List Terminal → Type 0) (r : List Terminal) (go : List Terminal → Front B) (other : Front B)
      → ((q : List Terminal) → r ≡ t.Tilde ∷ q → Holds Q (go q)) → Holds Q other → Holds Q (on_some (after_tilde r) go other)
  unfolding on_some
  tilde_at Q [] go other f h = h
  tilde_at Q (t.Tilde ∷ q) go other f h = f q refl
  tilde_at Q (_ ∷ q) go other f h = h

  written_at : (l : ℕ) (r : List Terminal) → Holds (FoundAt l (t.Keyword word.Str ∷ r)) (p.written inner r)
  unfolding p.written
  written_at l r = tilde_at _ r _ _
      (λ q e. holds_on _ _ _ _ (number_at 6 q (lit≤ tt)) (λ x q1 f. text_found l (t.Keyword word.Str ∷ r) q1 (str.Written format.Hexadecimal x) (record {
        front = t.Keyword word.Str ∷ t.Tilde ∷ f.front;
        split = ap (λ z. t.Keyword word.Str ∷ z) (e ∙ ap (λ z. t.Tilde ∷ z) f.split);
        is = g.written_hexadecimal (max l 4) f.front x f.is;
      })))
      (holds_on _ _ _ _ (number_at 6 r (lit≤ tt)) (λ x q1 f. text_found l (t.Keyword word.Str ∷ r) q1 (str.Written format.Decimal x)
      (fronts_over _ _ (t.Keyword word.Str) r x q1 _ f (λ a d. g.written (max l 4) a x d))))

  formed_at : (l : ℕ) (c : Terminal) (r : List Terminal) → l ≤ 7 → Holds (FoundAt l (c ∷ r)) (p.formed inner l c r)
  unfolding p.formed
  formed_at l (t.IntName n) r h = placed_at l (t.IntName n ∷ r) r (var.Simple n) h (fronts_one _ (t.IntName n) r _ (g.simple n))
  formed_at l (t.IntArray n) r h = holds_on _ _ _ _ (subscripts_at r) (λ xs q f. placed_at l (t.IntArray n ∷ r) q (var.Element n xs) h
      (fronts_over _ _ (t.IntArray n) r xs q _ f (λ a d. g.element n a xs d)))
  formed_at l (t.StrName n) r h = text_found l _ r _ (fronts_one _ (t.StrName n) r _ (g.text_variable (max l 4) _ _ (g.text_simple n)))
  formed_at l (t.StrArray n) r h = holds_on _ _ _ _ (subscripts_at r) (λ xs q f. text_found l _ q _
      (fronts_over _ _ (t.StrArray n) r xs q _ f (λ a d. g.text_variable (max l 4) _ _ (g.text_element n a xs d))))
  formed_at l (t.NumFunctionOpen n) r h = holds_on _ _ _ _ (arguments_at r) (λ xs q f. number_found l _ q _ h
      (fronts_over _ _ (t.NumFunctionOpen n) r xs q _ f (λ a d. g.function 7 n a xs d)))
  formed_at l (t.StrFunctionOpen n) r h = holds_on _ _ _ _ (arguments_at r) (λ xs q f. text_found l _ q _
      (fronts_over _ _ (t.StrFunctionOpen n) r xs q _ f (λ a d. g.text_function (max l 4) n a xs d)))
  formed_at l t.Open r h = bracket_at l r h
  formed_at l (t.Keyword word.Instr) r h = instr_at l r h
  formed_at l (t.Keyword word.Mid) r h = middle_at l r
  formed_at l (t.Keyword word.Copies) r h = copies_at l r
  formed_at l (t.Keyword word.Str) r h = written_at l r
  formed_at l _ r h = holds_none _

  opened_at : (l : ℕ) (k : Role) (c : Terminal) (r : List Terminal) → role c ≡ k → l ≤ 7 → Holds (FoundAt l (c ∷ r)) (p.opened inner l k c r)
  unfolding p.opened p.prefixed on_some
  opened_at l (Alone x) c r e h = number_found l _ r x h (fronts_one _ c r x (g.alone 7 c x e))
  opened_at l (AloneText y) c r e h = text_found l _ r y (fronts_one _ c r y (g.text_alone (max l 4) c y e))
  opened_at l (BeforeNumber f) c r e h = holds_on _ _ _ _ (number_at 6 r (lit≤ tt)) (λ x q d. number_found l _ q (f x) h
      (fronts_over _ _ c r x q (f x) d (λ a i. g.before 7 c f a x e i)))
  opened_at l (BeforeText f) c r e h = holds_on _ _ _ _ (text_at 6 r (lit≤ tt)) (λ y q d. number_found l _ q (f y) h
      (fronts_over _ _ c r y q (f y) d (λ a i. g.before_text 7 c f a y e i)))
  opened_at l (TextBeforeNumber f) c r e h = holds_on _ _ _ _ (number_at 6 r (lit≤ tt)) (λ x q d. text_found l _ q (f x)
      (fronts_over _ _ c r x q (f x) d (λ a i. g.text_before (max l 4) c f a x e i)))
  opened_at l (TakesPart side) c r e h = part_at l c side r e
  opened_at l NoRole c r e h = formed_at l c r h

  operand_at : (l : ℕ) (r : List Terminal) → l ≤ 7 → Holds (FoundAt l r) (p.operand inner l r)
  unfolding p.operand
  operand_at l [] h = holds_none _
  operand_at l (c ∷ r) h = opened_at l (role c) c r refl h

  -- ---- operators

  pub operator_holds : (r : List Terminal) → Holds (λ op q. r ≡ t.Operator op ∷ q) (operator_at r)
  unfolding Holds
  operator_holds [] = tt
  operator_holds (t.Operator op ∷ q) = refl
  operator_holds (_ ∷ q) = tt

  pub right_at : (l left : ℕ) (r : List Terminal) → Holds (RightAt l left r) (p.right inner l left r)
  unfolding p.right
  right_at l left r = holds_on _ _ _ _ (operator_holds r) (λ op q e. holds_if _ _ _ (λ b.
      let h = both _ _ b in
      let s = level_small op in
      holds_on _ _ _ _ (number_at (suc (level op)) q (omega arith))
      (λ y q1 f. holds_some _ (op, y) q1 (record { after = q; sign = e; low = leb-true l (level op) h.0; high = leb-true (left_level op) left h.1; operand = f }))))

  num_on_at : (l k left : ℕ) (x : NumExpr) (r q : List Terminal) → l ≤ left → Fronts (IsNum left) r x q → Holds (FoundAt l r) (p.num_on inner l k left x q)
  unfolding p.num_on FoundAt
  num_on_at l zero left x r q h f = holds_some _ (found.Number left x) q (h, f)
  num_on_at l (suc k) left x r q h f = holds_or _ _ _ _ _ (right_at l left q)
      (λ z q1 m. num_on_at l k (level z.0) (num.Binary z.0 x z.1) r q1 m.low (fronts_two _ _ _ (t.Operator z.0) r q m.after q1 x z.1
      (num.Binary z.0 x z.1) f m.sign m.operand
      (λ a b d d'. g.binary (level z.0) z.0 a b x z.1 (omega arith) (weaker_num left (left_level z.0) a x m.high d) d')))
      (holds_some _ (found.Number left x) q (h, f))

  plus_at : {B : Type 0} (Q : B → List Terminal → Type 0) (r : List Terminal) (go : List Terminal → Front B) (other : Front B)
      → ((q : List Terminal) → r ≡ t.Operator op.Add ∷ q → Holds Q (go q)) → Holds Q other → Holds Q (on_some (after_plus r) go other)
  unfolding on_some
  plus_at Q [] go other f h = h
  plus_at Q (t.Operator op.Add ∷ q) go other f h = f q refl
  plus_at Q (_ ∷ q) go other f h = h

  pub joined_at : (l : ℕ) (r : List Terminal) → Holds (JoinedAt l r) (p.joined inner l r)
  unfolding p.joined
  joined_at l r = plus_at _ r _ _ (λ q e. holds_if _ _ _ (λ b. holds_as _ _ _ (text_at 6 q (lit≤ tt))
      (λ z q1 f. record { after = q; sign = e; low = leb-true l 4 b; operand = f }))) (holds_none _)

  comparison_holds : (r : List Terminal) → Holds (λ c q. r ≡ t.Operator (op.Compare c) ∷ q) (comparison_at r)
  unfolding Holds
  comparison_holds [] = tt
  comparison_holds (t.Operator (op.Compare c) ∷ q) = refl
  comparison_holds (_ ∷ q) = tt

  pub compared_with_at : (l : ℕ) (r : List Terminal) → Holds (ComparedAt l r) (p.compared_with inner l r)
  unfolding p.compared_with
  compared_with_at l r = holds_on _ _ _ _ (comparison_holds r) (λ c q e. holds_if _ _ _ (λ b. holds_on _ _ _ _ (text_at 4 q (lit≤ tt))
      (λ z q1 f. holds_some _ (c, z) q1 (record { after = q; sign = e; low = leb-true l 3 b; operand = f }))))

  compared_at : (l : ℕ) (y : StrExpr) (r q : List Terminal) → Fronts (IsStr (max l 4)) r y q → Holds (FoundAt l r) (p.compared inner l y q)
  unfolding p.compared
  compared_at l y r q f = holds_or _ _ _ _ _ (compared_with_at l q)
      (λ z q1 m. num_on_at l (length q1) 3 (num.CompareText z.0 y z.1) r q1 m.low (fronts_two _ _ _ (t.Operator (op.Compare z.0)) r q m.after q1 y z.1
      (num.CompareText z.0 y z.1) f m.sign m.operand
      (λ a b d d'. g.compare_text 3 z.0 a b y z.1 (lit≤ tt) (weaker_text (max l 4) 4 a y (omega arith) d) d')))
      (text_found l r q y f)

  text_on_at : (l k : ℕ) (y : StrExpr) (r q : List Terminal) → Fronts (IsStr (max l 4)) r y q → Holds (FoundAt l r) (p.text_on inner l k y q)
  unfolding p.text_on
  text_on_at l zero y r q f = compared_at l y r q f
  text_on_at l (suc k) y r q f = holds_or _ _ _ _ _ (joined_at l q)
      (λ z q1 m. text_on_at l k (str.Join y z) r q1 (fronts_two _ _ _ (t.Operator op.Add) r q m.after q1 y z (str.Join y z) f m.sign m.operand
      (λ a b d d'. let low = m.low in g.join (max l 4) a b y z (omega arith) (weaker_text (max l 4) 4 a y (omega arith) d) d')))
      (compared_at l y r q f)

  grown_at : (l : ℕ) (r : List Terminal) (x : Found) (q : List Terminal) → FoundAt l r x q → Holds (FoundAt l r) (p.grown inner l x q)
  unfolding p.grown FoundAt
  grown_at l r (found.Number left x) q f = num_on_at l (length q) left x r q f.0 f.1
  grown_at l r (found.Text y) q f = text_on_at l (length q) y r q f

  pub whole_at : (l : ℕ) (r : List Terminal) → l ≤ 7 → Holds (FoundAt l r) (p.whole inner l r)
  unfolding p.whole
  whole_at l r h = holds_on (FoundAt l r) _ _ _ (operand_at l r h) (λ x q f. grown_at l r x q f)

-- Each answer stands at the front.
pub expression_at : (n l : ℕ) (r : List Terminal) → l ≤ 7 → Holds (FoundAt l r) (p.expression n l r)
unfolding p.expression
expression_at zero l r h = holds_none _
expression_at (suc n) l r h = whole_at (p.expression n) (expression_at n) l r h
