-- The code that a line's items pay for fits the terminals that spell them out.
use Rattle.std.proofs.Common.{◌≡◌, ℕ, ◌+◌, ◌*◌, ◌≤◌, List, [], ◌∷◌, ◌++◌, Option, None, Some, refl, sym, ap, subst, append_assoc, length, length-append, map, lit≤, arith}
use Rattle.bas_ast.specs.declared.expressions.Any.{Any}
use Rattle.bas_ast.specs.declared.expressions.Any.TheVariants as any
use Rattle.bas_ast.specs.declared.expressions.NumExpr.{NumExpr}
use Rattle.bas_ast.specs.declared.expressions.StrExpr.{StrExpr}
use Rattle.bas_ast.specs.declared.expressions.StrExpr.TheVariants as str
use Rattle.bas_ast.specs.declared.keywords.Keyword.TheVariants as word
use Rattle.bas_ast.specs.declared.lines.Formal.{Formal}
use Rattle.bas_ast.specs.declared.lines.Head.{Head}
use Rattle.bas_ast.specs.declared.lines.Head.TheVariants as head
use Rattle.bas_ast.specs.declared.lines.Item.{Item}
use Rattle.bas_ast.specs.declared.lines.Item.TheVariants as item
use Rattle.bas_ast.specs.declared.lines.Jump.{Jump}
use Rattle.bas_ast.specs.declared.lines.Jump.TheVariants as jumps
use Rattle.bas_ast.specs.declared.program.Prog.{Prog}
use Rattle.bas_ast.specs.declared.terminals.Terminal.{Terminal}
use Rattle.bas_ast.specs.declared.terminals.Terminal.TheVariants as t
use Rattle.bas_ast.specs.Expressions as e
use Rattle.bas_ast.specs.Expressions.{IsNum}
use Rattle.bas_ast.specs.Lines as l
use Rattle.bas_ast.specs.Structures.{OpensIf, DividesIf, OpensCase, DividesCase}
use Rattle.bas_ast.specs.Operands as g
use Rattle.bas_ast.specs.Operands.{IsLineRef, ALine, AnExpression, IsList}
use Rattle.bas_ast.specs.Lines.{Here, IsItems, IsBranch, IsRoutine, IsRoutineOpen, IsRun}
use Rattle.bas_ir.specs.declared.op.Op.{Op}
use Rattle.bas_ir.specs.declared.op.Op.TheVariants as o
use Rattle.bas_sem.specs.Places.{else_place, on_else, after_end, line_place}
use Rattle.ir_build.specs.Code.{expr_code, text_code, choice_op, choices_code, otherwise_op, on_code, values_code, item_code, or_jump, joined}
use Rattle.ir_build.proofs.Fits.{worth, worth_all, worth_append, cost, cost_append, pushes, AllKnown, AllThere, append_there, Fits, around, beside, then_ops, after, stops_between, front_known, back_known}
use Rattle.ir_build.proofs.FitCases.{AllLow, paid_code, paid_from}
use Rattle.ir_build.proofs.FitExpressions.{num_fits, text_fits}
use Rattle.ir_build.proofs.FitStatements.{goto_fits, statement_fits}

pub low_more : (few most : ℕ) (cs : List (List Op)) → few ≤ most → AllLow few cs → AllLow most cs
low_more few most [] less low = tt
low_more few most (c ∷ cs) less low = (omega (arith, less, low.0), low_more few most cs less low.1)

module _ (prog : Prog) where
  -- The code that the items of a line pay for, and a word for each. DATA, of which a line has at most one, is worth nothing, and costs 20.
  pub record LineFits (a : List Terminal) (cs : List (List Op)) : Type 0 where
    pub there : AllThere prog (joined cs)
    pub cheap : cost (joined cs) + 4 * length cs ≤ worth_all a + 20
    pub low : AllLow (length a) cs

  no_items_fit : LineFits [] []
  no_items_fit = record { there = tt; cheap = omega arith; low = tt }

  -- with a terminal before
  line_after : {a : List Terminal} {cs : List (List Op)} (c : Terminal) → LineFits a cs → LineFits (c ∷ a) cs
  line_after {a} {cs} c fits = record {
    there = fits.there;
    cheap = omega (arith, fits.cheap);
    low = low_more (length a) (length (c ∷ a)) cs (omega arith) fits.low;
  }

  -- with terminals before
  line_later : (b : List Terminal) {a : List Terminal} {cs : List (List Op)} → LineFits a cs → LineFits (b ++ a) cs
  line_later [] fits = fits
  line_later (c ∷ b) fits = line_after c (line_later b fits)

  -- terminals without an item
  spare_fits : (a : List Terminal) → LineFits a []
  spare_fits a = record { there = tt; cheap = omega arith; low = tt }

  jump_fits : (a : List Terminal) (next : ℕ) (ops : List Op) → Fits prog 0 12 a ops → Fits prog 0 4 a (or_jump next ops)
  jump_fits a next [] fits = record { there = (tt, tt); cheap = omega (arith, fits.cheap); low = omega arith }
  jump_fits a next (op ∷ ops) fits = record { there = fits.there; cheap = omega (arith, fits.cheap); low = fits.low }

  -- with an item before
  item_before : {a r : List Terminal} {ops : List Op} {cs : List (List Op)} (next : ℕ) → Fits prog 0 12 a ops → LineFits r cs → LineFits (a ++ r) (or_jump next ops ∷ cs)
  item_before {a} {r} {ops} {cs} next own rest =
      let first = jump_fits a next ops own in
      record {
        there = append_there prog (or_jump next ops) (joined cs) first.there rest.there;
        cheap = omega (arith, first.cheap, rest.cheap, cost_append (or_jump next ops) (joined cs), worth_append a r);
        low = (omega (arith, first.low, length-append a r), low_more (length r) (length (a ++ r)) cs (omega (arith, length-append a r)) rest.low);
      }

  -- with an item before that ends the run
  end_before : {a : List Terminal} {cs : List (List Op)} (c : Terminal) (next : ℕ) → worth c ≡ 96 → LineFits a cs → LineFits (c ∷ a) (or_jump next (o.End ∷ []) ∷ cs)
  end_before {a} {cs} c next worthy rest =
      let own : Fits prog 0 12 (c ∷ []) (o.End ∷ []) = record { there = (tt, tt); cheap = omega (arith, worthy); low = lit≤ tt } in
      item_before next own rest

  module _ (line : ℕ) where
    -- the code that items pay for, of which the first is at a place
    abbrev line_codes : ℕ → List Item → List (List Op)
    line_codes place xs = paid_from prog place (map (λ i. record { line = line; item = i }) xs)

    if_fits : (a : List Terminal) (x : NumExpr) (place : ℕ) → IsNum 1 a x → AllKnown prog a → Fits prog 0 12 (t.Keyword word.If ∷ a) (item_code prog place line (item.If x))
    if_fits a x place d known =
        let value : Fits prog 0 144 (t.Keyword word.If ∷ a) (expr_code prog line x) = after (t.Keyword word.If) (num_fits prog line 1 a x d known) (lit≤ tt) in
        then_ops (o.GoIfZero (else_place prog place) ∷ []) value (tt, tt) refl (lit≤ tt)

    else_fits : (place : ℕ) → Fits prog 0 12 (t.Keyword word.Else ∷ []) (item_code prog place line item.Else)
    else_fits place = record { there = (tt, tt); cheap = lit≤ tt; low = lit≤ tt }

    block_if_fits : (a : List Terminal) (x : NumExpr) (place : ℕ) → IsNum 1 a x → AllKnown prog a → Fits prog 0 12 (t.Keyword word.If ∷ a) (item_code prog place line (item.BlockIf x))
    block_if_fits a x place d known =
        let value : Fits prog 0 144 (t.Keyword word.If ∷ a) (expr_code prog line x) = after (t.Keyword word.If) (num_fits prog line 1 a x d known) (lit≤ tt) in
        then_ops (o.GoIfZero (after_end prog OpensIf place) ∷ []) value (tt, tt) refl (lit≤ tt)

    -- a word that leads to another item, and one that does nothing
    go_fits : (c : Terminal) (to : ℕ) → worth c ≡ 96 → Fits prog 0 12 (c ∷ []) (o.Go to ∷ [])
    go_fits c to worthy = record { there = (tt, tt); cheap = omega (arith, worthy); low = omega arith }

    nothing_fits : (c : Terminal) → worth c ≡ 96 → Fits prog 0 12 (c ∷ []) []
    nothing_fits c worthy = record { there = tt; cheap = omega (arith, worthy); low = omega arith }

    -- ---- CASE

    case_fits : (a : List Terminal) (x : NumExpr) (place : ℕ) → IsNum 1 a x → AllKnown prog a
        → Fits prog 0 12 (t.Keyword word.Case ∷ a) (paid_code prog place line (item.Case (any.Number x)))
    case_fits a x place d known =
        let value : Fits prog 0 144 (t.Keyword word.Case ∷ a) (expr_code prog line x) = after (t.Keyword word.Case) (num_fits prog line 1 a x d known) (lit≤ tt) in
        then_ops (o.Discard ∷ o.Go (after_end prog OpensCase place) ∷ []) value (tt, (tt, tt)) refl (lit≤ tt)

    -- the end of a run costs no more than a string
    text_ends : {a : List Terminal} (y : StrExpr) → Fits prog 0 0 a (text_code y) → Fits prog 0 0 a (o.End ∷ [])
    text_ends {a} y fits = record { there = (tt, tt); cheap = omega (arith, fits.cheap, text_cost y); low = omega arith }
      where
        text_cost : (y : StrExpr) → 16 ≤ cost (text_code y)
        text_cost (str.Literal number) = lit≤ tt
        text_cost _ = lit≤ tt

    values_fit : (after_when : ℕ) (a : List Terminal) (vs : List Any) → IsList AnExpression a vs → AllKnown prog a → Fits prog 0 0 a (values_code prog line after_when vs)
    values_fit after_when a vs (g.last_of_list _ v (e.number _ x d)) known = then_ops (o.GoIfEqual after_when ∷ []) (num_fits prog line 1 a x d known) (tt, tt) refl (lit≤ tt)
    values_fit after_when a vs (g.last_of_list _ v (e.text _ y d)) known = text_ends y (text_fits prog line 4 a y d known)
    values_fit after_when a vs (g.more_of_list a' b v others (e.number _ x d) d') known =
        let rest : Fits prog 0 0 (t.Comma ∷ b) (values_code prog line after_when others) = after t.Comma (values_fit after_when b others d' (back_known prog a' (t.Comma ∷ b) known).1) (lit≤ tt) in
        around (o.GoIfEqual after_when ∷ []) (num_fits prog line 1 a' x d (front_known prog a' (t.Comma ∷ b) known)) (tt, tt) refl rest (lit≤ tt)
    values_fit after_when a vs (g.more_of_list a' b v others (e.text _ y d) d') known =
        let end : Fits prog 0 64 (a' ++ t.Comma ∷ b) (o.End ∷ []) = stops_between a' t.Comma b (lit≤ tt) in
        record { there = end.there; cheap = omega (arith, end.cheap); low = end.low }

    -- WHEN, whose values stand on that of its CASE
    when_fits : (a : List Terminal) (vs : List Any) (place : ℕ) → IsList AnExpression a vs → AllKnown prog a
        → Fits prog 0 12 (t.Keyword word.When ∷ a) (paid_code prog place line (item.Head (head.When vs)))
    when_fits a vs place d known =
        let values : Fits prog 8 0 a (values_code prog line (place + 1) vs ++ o.Go (after_end prog DividesCase place) ∷ []) =
        then_ops (o.Go (after_end prog DividesCase place) ∷ []) (values_fit (place + 1) a vs d known) (tt, tt) refl (lit≤ tt) in
        record { there = (tt, values.there); cheap = omega (arith, values.cheap); low = omega (arith, values.low) }

    -- ---- ON

    choice_fits : (n : ℕ) (jump : Jump) (to : Option ℕ) → Fits prog 0 0 (t.LineRef n ∷ []) (choice_op jump to line ∷ [])
    choice_fits n jump None = record { there = (tt, tt); cheap = lit≤ tt; low = lit≤ tt }
    choice_fits n jumps.Goto (Some to) = record { there = (tt, tt); cheap = lit≤ tt; low = lit≤ tt }
    choice_fits n jumps.Gosub (Some to) = record { there = (tt, tt); cheap = lit≤ tt; low = lit≤ tt }

    line_fits : (a : List Terminal) (n : ℕ) (jump : Jump) → IsLineRef a n → Fits prog 0 0 a (choice_op jump (line_place prog n) line ∷ [])
    line_fits a n jump (g.line_ref _) = choice_fits n jump (line_place prog n)

    choices_fit : (a : List Terminal) (ns : List ℕ) (jump : Jump) → IsList ALine a ns → Fits prog 0 0 a (choices_code prog line jump ns)
    choices_fit a ns jump (g.last_of_list _ n d) = line_fits a n jump d
    choices_fit a ns jump (g.more_of_list a' b n rest d d') =
        beside (line_fits a' n jump d) (after {D = 0} {S = 0} t.Comma (choices_fit b rest jump d') (lit≤ tt)) (lit≤ tt)

    otherwise_there : (to : Option ℕ) → AllThere prog (o.Discard ∷ otherwise_op to line ∷ [])
    otherwise_there None = (tt, (tt, tt))
    otherwise_there (Some to) = (tt, (tt, tt))

    otherwise_pushes : (to : Option ℕ) → pushes (o.Discard ∷ otherwise_op to line ∷ []) ≡ 0
    otherwise_pushes None = refl
    otherwise_pushes (Some to) = refl

    otherwise_cost : (to : Option ℕ) → cost (o.Discard ∷ otherwise_op to line ∷ []) ≤ 56
    otherwise_cost None = lit≤ tt
    otherwise_cost (Some to) = lit≤ tt

    on_fits : (c : Terminal) (a b : List Terminal) (x : NumExpr) (jump : Jump) (ns : List ℕ) (place : ℕ) → worth c ≡ 96 → IsNum 1 a x → IsList ALine b ns → AllKnown prog a
        → Fits prog 0 12 (t.Keyword word.On ∷ (a ++ c ∷ b)) (on_code prog place line x jump ns)
    on_fits c a b x jump ns place worthy d d' known =
        let to : Option ℕ = on_else prog place in
        let otherwise : List Op = o.Discard ∷ otherwise_op to line ∷ [] in
        let lines : Fits prog 56 0 b (choices_code prog line jump ns ++ otherwise) =
        then_ops otherwise (choices_fit b ns jump d') (otherwise_there to) (otherwise_pushes to) (omega (arith, otherwise_cost to)) in
        let led : Fits prog 0 40 (c ∷ b) (choices_code prog line jump ns ++ otherwise) = after c lines (omega (arith, worthy)) in
        after (t.Keyword word.On) (beside {D = 0} {S = 0} (num_fits prog line 1 a x d known) led (lit≤ tt)) (lit≤ tt)

    -- ON, and the items after it
    on_before : (c : Terminal) (a b r : List Terminal) (cs : List (List Op)) (x : NumExpr) (jump : Jump) (ns : List ℕ) (place : ℕ) → worth c ≡ 96 → IsNum 1 a x → IsList ALine b ns
        → AllKnown prog a → LineFits r cs → LineFits (t.Keyword word.On ∷ (a ++ c ∷ (b ++ r))) (or_jump (place + 1) (on_code prog place line x jump ns) ∷ cs)
    on_before c a b r cs x jump ns place worthy d d' known rest =
        subst (λ l. LineFits l (or_jump (place + 1) (on_code prog place line x jump ns) ∷ cs)) (ap (λ l. t.Keyword word.On ∷ l) (append_assoc a (c ∷ b) r))
        (item_before (place + 1) (on_fits c a b x jump ns place worthy d d' known) rest)

    repeat_fits : (place : ℕ) → Fits prog 0 12 (t.Keyword word.Repeat ∷ []) (item_code prog place line item.Repeat)
    repeat_fits place = record { there = (tt, tt); cheap = lit≤ tt; low = lit≤ tt }

    data_fits : (n place : ℕ) → LineFits (t.Keyword word.Data ∷ t.Tail n ∷ []) (line_codes place (item.Data n ∷ []))
    data_fits n place = record { there = (tt, tt); cheap = lit≤ tt; low = (lit≤ tt, tt) }

    remark_fits : (n place : ℕ) → LineFits (t.Keyword word.Rem ∷ t.Tail n ∷ []) (line_codes place (item.Remark ∷ []))
    remark_fits n place = record { there = (tt, tt); cheap = lit≤ tt; low = (lit≤ tt, tt) }

    mutual
      items_fit : (h : Here) (a : List Terminal) (xs : List Item) → IsItems h a xs → AllKnown prog a → (place : ℕ) → LineFits a (line_codes place xs)
      items_fit h a xs (l.no_items _) known place = no_items_fit
      items_fit h a xs (l.colon _ r _ d) known place = line_after t.Colon (items_fit _ r xs d known.1 place)
      items_fit h a xs (l.plain _ b r x ys k k' d d') known place =
          item_before (place + 1) (statement_fits prog place line b x d (front_known prog b r known)) (items_fit _ r ys d' (back_known prog b r known) (place + 1))
      items_fit h a xs (l.if_bare _ b r x ys k d d') known place =
          item_before (place + 1) (if_fits b x place d (front_known prog b r known.1)) (items_fit _ r ys d' (back_known prog b r known.1) (place + 1))
      items_fit h a xs (l.if_then _ b r x ys k d k' d') known place =
          item_before (place + 1) (if_fits b x place d (front_known prog b (t.Keyword word.Then ∷ r) known.1))
          (line_after (t.Keyword word.Then) (branch_fits r ys d' (back_known prog b (t.Keyword word.Then ∷ r) known.1).1 (place + 1)))
      items_fit h a xs (l.if_block _ b x k d) known place =
          item_before (place + 1) (block_if_fits b x place d (front_known prog b (t.Keyword word.Then ∷ []) known.1)) (spare_fits (t.Keyword word.Then ∷ []))
      items_fit h a xs (l.else _ r ys k d) known place = item_before (place + 1) (else_fits place) (branch_fits r ys d known.1 (place + 1))
      items_fit h a xs (l.on_goto _ b b' r x ns ys k d d2 d') known place =
          let rest = items_fit _ r ys d' (back_known prog b' r (back_known prog b (t.Keyword word.Goto ∷ (b' ++ r)) known.1).1) (place + 1) in
          on_before (t.Keyword word.Goto) b b' r _ x jumps.Goto ns place refl d d2 (front_known prog b (t.Keyword word.Goto ∷ (b' ++ r)) known.1) rest
      items_fit h a xs (l.on_gosub _ b b' r x ns ys k d d2 d') known place =
          let rest = items_fit _ r ys d' (back_known prog b' r (back_known prog b (t.Keyword word.Gosub ∷ (b' ++ r)) known.1).1) (place + 1) in
          on_before (t.Keyword word.Gosub) b b' r _ x jumps.Gosub ns place refl d d2 (front_known prog b (t.Keyword word.Gosub ∷ (b' ++ r)) known.1) rest
      items_fit h a xs (l.case _ b r x k (e.number _ y d) k') known place =
          item_before (place + 1) (case_fits b y place d (front_known prog b (t.Keyword word.Of ∷ r) known.1)) (spare_fits (t.Keyword word.Of ∷ r))
      items_fit h a xs (l.case _ b r x k (e.text _ y d) k') known place = end_before (t.Keyword word.Case) (place + 1) refl (spare_fits (b ++ t.Keyword word.Of ∷ r))
      items_fit h a xs (l.repeat _ r ys k d) known place = item_before (place + 1) (repeat_fits place) (items_fit _ r ys d known.1 (place + 1))
      items_fit h a xs (l.on_error _ r ys k d) known place =
          end_before (t.Keyword word.On) (place + 1) refl (line_after (t.Keyword word.Error) (items_fit _ r ys d known.1.1 (place + 1)))
      items_fit h a xs (l.on_error_local _ r ys k d) known place =
          end_before (t.Keyword word.On) (place + 1) refl
          (line_after (t.Keyword word.Error) (line_after (t.Keyword word.Local) (items_fit _ r ys d known.1.1.1 (place + 1))))
      items_fit h a xs (l.data_items _ n k) known place = data_fits n place
      items_fit h a xs (l.remark _ n k) known place = remark_fits n place
      items_fit h a xs (l.begin_assembly _ k) known place = end_before t.OpenSquare (place + 1) refl no_items_fit

      branch_fits : (a : List Terminal) (xs : List Item) → IsBranch a xs → AllKnown prog a → (place : ℕ) → LineFits a (line_codes place xs)
      branch_fits a xs (l.branch_items _ _ d) known place = items_fit _ a xs d known place
      branch_fits a xs (l.branch_line n r ys d) known place =
          item_before (place + 1) (goto_fits prog place line (t.LineRef n) [] n refl) (items_fit _ r ys d known.1 (place + 1))

    -- DEF ends the run
    def_ends : (c : Terminal) (f : List Formal → Head) → IsRoutine c f → (place : ℕ) → paid_code prog place line (item.Head (f [])) ≡ o.End ∷ []
    def_ends c f (l.def_procedure n) place = refl
    def_ends c f (l.def_number n) place = refl
    def_ends c f (l.def_text n) place = refl

    def_open_ends : (c : Terminal) (f : List Formal → Head) (fs : List Formal) → IsRoutineOpen c f → (place : ℕ) → paid_code prog place line (item.Head (f fs)) ≡ o.End ∷ []
    def_open_ends c f fs (l.def_procedure_open n) place = refl
    def_open_ends c f fs (l.def_number_open n) place = refl
    def_open_ends c f fs (l.def_text_open n) place = refl

    pub run_fits : (a : List Terminal) (xs : List Item) → IsRun a xs → AllKnown prog a → (place : ℕ) → LineFits a (line_codes place xs)
    run_fits a xs (l.items _ _ d) known place = items_fit _ a xs d known place
    run_fits a xs (l.def c f r ys k d) known place =
        subst (λ code. LineFits (t.Keyword word.Def ∷ c ∷ r) (or_jump (place + 1) code ∷ line_codes (place + 1) ys)) (sym (def_ends c f k place))
        (end_before (t.Keyword word.Def) (place + 1) refl (line_after c (items_fit _ r ys d known.1.1 (place + 1))))
    run_fits a xs (l.def_open c f b r fs ys k k' d) known place =
        subst (λ code. LineFits (t.Keyword word.Def ∷ c ∷ (b ++ r)) (or_jump (place + 1) code ∷ line_codes (place + 1) ys)) (sym (def_open_ends c f fs k place))
        (end_before (t.Keyword word.Def) (place + 1) refl (line_after c (line_later b (items_fit _ r ys d (back_known prog b r known.1.1) (place + 1)))))
    run_fits a xs (l.when b r vs ys k d) known place =
        item_before (place + 1) (when_fits b vs place k (front_known prog b r known.1)) (items_fit _ r ys d (back_known prog b r known.1) (place + 1))
    run_fits a xs (l.otherwise r ys d) known place =
        item_before (place + 1) (go_fits (t.Keyword word.Otherwise) (after_end prog DividesCase place) refl) (items_fit _ r ys d known.1 (place + 1))
    run_fits a xs (l.block_else r ys d) known place =
        item_before (place + 1) (go_fits (t.Keyword word.BlockElse) (after_end prog DividesIf place) refl) (items_fit _ r ys d known.1 (place + 1))
    run_fits a xs (l.end_if r ys d) known place = item_before (place + 1) (nothing_fits (t.Keyword word.EndIf) refl) (items_fit _ r ys d known.1 (place + 1))
    run_fits a xs (l.end_case r ys d) known place = item_before (place + 1) (nothing_fits (t.Keyword word.EndCase) refl) (items_fit _ r ys d known.1 (place + 1))
    run_fits a xs (l.end_assembly r ys d) known place = end_before t.CloseSquare (place + 1) refl (items_fit _ r ys d known.1 (place + 1))
