-- What the parser answers for a line is the line's items by the grammar.
use Rattle.std.proofs.Common.{◌≡◌, ℕ, zero, suc, Bool, true, false, ◌&&◌, List, [], ◌∷◌, ◌++◌, length, Option, Some, None, All, refl, ap, sym, subst, ◌∙◌, append_assoc, lit≤}
use Rattle.std.proofs.lemmas.List.{append-nil}
use Rattle.std.proofs.lemmas.List.Elements.{All-nil, All-cons}
use Rattle.bas_ast.specs.declared.expressions.Any.{Any}
use Rattle.bas_ast.specs.declared.expressions.NumExpr.{NumExpr}
use Rattle.bas_ast.specs.declared.keywords.Keyword.{Keyword}
use Rattle.bas_ast.specs.declared.keywords.Keyword.TheVariants as word
use Rattle.bas_ast.specs.declared.lines.Head.TheVariants as head
use Rattle.bas_ast.specs.declared.lines.Item.{Item}
use Rattle.bas_ast.specs.declared.lines.Item.TheVariants as item
use Rattle.bas_ast.specs.declared.lines.Jump.TheVariants as jump
use Rattle.bas_ast.specs.declared.statements.ErrorStmt.TheVariants as error
use Rattle.bas_ast.specs.declared.statements.Flow.TheVariants as flow
use Rattle.bas_ast.specs.declared.statements.Stmt.{Stmt}
use Rattle.bas_ast.specs.declared.statements.Stmt.TheVariants as stmt
use Rattle.bas_ast.specs.declared.terminals.Terminal.{Terminal}
use Rattle.bas_ast.specs.declared.terminals.Terminal.TheVariants as t
use Rattle.bas_ast.specs.Expressions.{IsNum, IsAny}
use Rattle.bas_ast.specs.Operands.{AnExpression, ALine}
use Rattle.bas_ast.specs.Statements as st
use Rattle.bas_ast.specs.Statements.{IsStmt}
use Rattle.bas_ast.specs.Lines as g
use Rattle.bas_ast.specs.Lines.{Here, start, after_item, after_on, continues, IsItems, IsBranch, IsRun}
use Rattle.expr_parse.specs.Longest.{Fronts}
use Rattle.expr_parse.specs.Parse.{Front}
use Rattle.expr_parse.proofs.Fronts.{Holds, holds_some, holds_none, holds_on, holds_if, of_some}
use Rattle.bas_parse.specs.declared.place.Place.{Place}
use Rattle.bas_parse.specs.Steps as s
use Rattle.bas_parse.specs.Steps.{Step, all_colons, local_item, step}
use Rattle.bas_parse.specs.Runs as r
use Rattle.bas_parse.specs.Runs.{with_found, after_step, items_from, first_step, run_items}
use Rattle.bas_parse.proofs.Expressions.{num_at, any_at}
use Rattle.bas_parse.proofs.CompleteLines.{continues_front, stmt_some, items_are}
use Rattle.bas_parse.proofs.SoundOperands.{holds_unless, holds_either, list_at_front, formals_at_front}
use Rattle.bas_parse.proofs.SoundStatements.{stmt_at_front}

-- what the grammar calls a place of the parser
abbrev here : Place → Here
here p = record { free = p.free; bare = p.bare; ruled = p.ruled }

-- Items from a place on: by the grammar, or where a line's number is a GOTO.
data ItemsAt (p : Place) (z : List Terminal) (xs : List Item) : Type 0 where
  by_grammar : IsItems (here p) z xs → ItemsAt p z xs
  by_number : (n : ℕ) (q : List Terminal) (ys : List Item) → p.branch ≡ true → z ≡ t.LineRef n ∷ q
      → xs ≡ item.Stmt (stmt.Flow (flow.Goto n)) ∷ ys → IsItems after_on q ys → ItemsAt p z xs

items_of : (p : Place) (z : List Terminal) (xs : List Item) → p.branch ≡ false → ItemsAt p z xs → IsItems (here p) z xs
items_of p z xs h (by_grammar d) = d
items_of p z xs h (by_number n q ys b e f d) = absurd (cc)

branch_of : (z : List Terminal) (xs : List Item) → ItemsAt s.branch_place z xs → IsBranch z xs
branch_of z xs (by_grammar d) = g.branch_items z xs d
branch_of z xs (by_number n q ys b e f d) = subst (λ w. IsBranch w xs) (sym e) (subst (λ w. IsBranch (t.LineRef n ∷ q) w) (sym f) (g.branch_line n q ys d))

items_in : List Item → Option (List Item) → List Item
items_in other None = other
items_in other (Some xs) = xs

-- at the end stands no item
none_at_end : (p : Place) (xs : List Item) → ItemsAt p [] xs → xs ≡ []
unfolding items_in items_from
none_at_end p xs (by_grammar d) = sym (ap (items_in []) (items_are (here p) [] xs d false 0 [] (lit≤ tt)))
none_at_end p xs (by_number n q ys b e f d) = absurd (cc)

-- an item after which nothing is left
last_item : (p q : Place) (z : List Terminal) (x : Item) → IsItems (here p) z (x ∷ []) → (xs : List Item) → ItemsAt q [] xs → ItemsAt p z (x ∷ xs)
last_item p q z x d xs e = by_grammar (subst (λ ys. IsItems (here p) z (x ∷ ys)) (sym (none_at_end q xs e)) d)

-- the items, with one that a step found before them
abbrev joined : Option Item → List Item → List Item
joined None xs = xs
joined (Some x) xs = x ∷ xs

-- A step's answer goes on with the items after it.
abbrev StepAt : Place → List Terminal → Step → List Terminal → Type 0
StepAt p z y q = (xs : List Item) → ItemsAt y.1 q xs → ItemsAt p z (joined y.0 xs)

-- ---- plain statements

plain_joined : (h : Here) (z a q : List Terminal) (x : Stmt) (xs : List Item) → h.free ≡ true → h.bare && continues z ≡ false → z ≡ a ++ q → IsStmt a x
    → IsItems (after_item h) q xs → IsItems h z (item.Stmt x ∷ xs)
plain_joined h z [] q x xs free bare e d i = absurd (stmt_some x d)
plain_joined h z (c ∷ a) q x xs free bare e d i =
    let same : h.bare && continues (c ∷ a) ≡ false = ap (λ w. h.bare && w) (sym (continues_front c a q)) ∙ (ap (λ w. h.bare && continues w) (sym e) ∙ bare) in
    subst (λ w. IsItems h w (item.Stmt x ∷ xs)) (sym e) (g.plain h (c ∷ a) q x xs free same d i)

plain_at : (p : Place) (z : List Terminal) → p.free ≡ true → Holds (StepAt p z) (s.plain_step p z)
unfolding s.plain_step
plain_at p z free = holds_unless _ (p.bare && continues z) _ (λ bare. holds_on _ _ _ _ (stmt_at_front z) (λ x q f.
    holds_some _ (Some (item.Stmt x), s.item_place p) q (λ xs d. by_grammar (plain_joined (here p) z f.front q x xs free bare f.split f.is
    (items_of (s.item_place p) q xs refl d)))))

-- ---- items that begin with keywords

condition_at : (p : Place) (z q : List Terminal) (x : NumExpr) → p.free ≡ true → Fronts (IsNum 1) z x q
    → Holds (StepAt p (t.Keyword word.If ∷ z)) (s.condition_step x q)
unfolding s.condition_step
condition_at p z (t.Keyword word.Then ∷ []) x free f = holds_some _ (Some (item.BlockIf x), s.branch_place) []
    (last_item p s.branch_place (t.Keyword word.If ∷ z) (item.BlockIf x) (subst (λ w. IsItems (here p) w (item.BlockIf x ∷ []))
    (ap (λ w. t.Keyword word.If ∷ w) (sym f.split)) (g.if_block (here p) f.front x free f.is)))
condition_at p z (t.Keyword word.Then ∷ c ∷ q) x free f = holds_some _ (Some (item.If x), s.branch_place) (c ∷ q) (λ xs d.
    by_grammar (subst (λ w. IsItems (here p) w (item.If x ∷ xs)) (ap (λ w. t.Keyword word.If ∷ w) (sym f.split))
    (g.if_then (here p) f.front (c ∷ q) x xs free f.is (λ e. cc) (branch_of (c ∷ q) xs d))))
condition_at p z q x free f = holds_some _ (Some (item.If x), s.condition_place) q (λ xs d.
    by_grammar (subst (λ w. IsItems (here p) w (item.If x ∷ xs)) (ap (λ w. t.Keyword word.If ∷ w) (sym f.split))
    (g.if_bare (here p) f.front q x xs free f.is (items_of s.condition_place q xs refl d))))

jump_at : (p : Place) (z q : List Terminal) (x : NumExpr) → p.free ≡ true → Fronts (IsNum 1) z x q
    → Holds (StepAt p (t.Keyword word.On ∷ z)) (s.jump_step x q)
unfolding s.jump_step
jump_at p z (t.Keyword word.Goto ∷ q) x free f = holds_on _ _ _ _ (list_at_front ALine q) (λ ns q1 f1.
    holds_some _ (Some (item.On x jump.Goto ns), s.ruling_place) q1 (λ xs d.
    by_grammar (subst (λ w. IsItems (here p) w (item.On x jump.Goto ns ∷ xs))
    (ap (λ w. t.Keyword word.On ∷ w) (sym (f.split ∙ ap (λ w. f.front ++ t.Keyword word.Goto ∷ w) f1.split)))
    (g.on_goto (here p) f.front f1.front q1 x ns xs free f.is f1.is (items_of s.ruling_place q1 xs refl d)))))
jump_at p z (t.Keyword word.Gosub ∷ q) x free f = holds_on _ _ _ _ (list_at_front ALine q) (λ ns q1 f1.
    holds_some _ (Some (item.On x jump.Gosub ns), s.ruling_place) q1 (λ xs d.
    by_grammar (subst (λ w. IsItems (here p) w (item.On x jump.Gosub ns ∷ xs))
    (ap (λ w. t.Keyword word.On ∷ w) (sym (f.split ∙ ap (λ w. f.front ++ t.Keyword word.Gosub ∷ w) f1.split)))
    (g.on_gosub (here p) f.front f1.front q1 x ns xs free f.is f1.is (items_of s.ruling_place q1 xs refl d)))))
jump_at p z _ x free f = holds_none _

never : (b : Bool) → b && false ≡ false
never true = refl
never false = refl

error_at : (p : Place) (z : List Terminal) → p.free ≡ true → Holds (StepAt p (t.Keyword word.On ∷ t.Keyword word.Error ∷ z)) (s.error_step p z)
unfolding s.error_step
error_at p (t.Keyword word.Off ∷ z) free = holds_some _ (Some (item.Stmt (stmt.Error error.OnErrorOff)), s.item_place p) z (λ xs d.
    by_grammar (g.plain (here p) (t.Keyword word.On ∷ t.Keyword word.Error ∷ t.Keyword word.Off ∷ []) z (stmt.Error error.OnErrorOff) xs free (never p.bare) st.on_error_off
    (items_of (s.item_place p) z xs refl d)))
error_at p (t.Keyword word.Local ∷ z) free = holds_either _ (local_item z) _ _
    (λ h. holds_some _ (Some item.OnError, s.word_place p) (t.Keyword word.Local ∷ z) (λ xs d.
    by_grammar (g.on_error (here p) (t.Keyword word.Local ∷ z) xs free (items_of (s.word_place p) (t.Keyword word.Local ∷ z) xs refl d))))
    (λ h. holds_some _ (Some item.OnErrorLocal, s.word_place p) z (λ xs d.
    by_grammar (g.on_error_local (here p) z xs free (items_of (s.word_place p) z xs refl d))))
error_at p z free = holds_some _ (Some item.OnError, s.word_place p) z (λ xs d.
    by_grammar (g.on_error (here p) z xs free (items_of (s.word_place p) z xs refl d)))

on_at : (p : Place) (z : List Terminal) → p.free ≡ true → Holds (StepAt p (t.Keyword word.On ∷ z)) (s.on_step p z)
unfolding s.on_step
on_at p (t.Keyword word.Error ∷ z) free = error_at p z free
on_at p z free = holds_on _ _ _ _ (num_at z) (λ x q f. jump_at p z q x free f)

are_colons : (z : List Terminal) → all_colons z ≡ true → All (λ c. c ≡ t.Colon) z
unfolding all_colons
are_colons [] h = All-nil (λ c. c ≡ t.Colon)
are_colons (t.Colon ∷ z) h = All-cons (λ c. c ≡ t.Colon) t.Colon z refl (are_colons z h)
are_colons (_ ∷ z) h = absurd (cc)

case_at : (p : Place) (z q : List Terminal) (x : Any) → p.free ≡ true → Fronts IsAny z x q → Holds (StepAt p (t.Keyword word.Case ∷ z)) (s.case_step p x q)
unfolding s.case_step
case_at p z (t.Keyword word.Of ∷ q) x free f = holds_if _ (all_colons q) _ (λ h. holds_some _ (Some (item.Case x), s.item_place p) []
    (last_item p (s.item_place p) (t.Keyword word.Case ∷ z) (item.Case x) (subst (λ w. IsItems (here p) w (item.Case x ∷ []))
    (ap (λ w. t.Keyword word.Case ∷ w) (sym f.split)) (g.case (here p) f.front q x free f.is (are_colons q h)))))
case_at p z _ x free f = holds_none _

data_at : (p : Place) (z : List Terminal) → p.free ≡ true → Holds (StepAt p (t.Keyword word.Data ∷ z)) (s.data_step p z)
unfolding s.data_step
data_at p (t.Tail n ∷ []) free = holds_some _ (Some (item.Data n), s.item_place p) []
    (last_item p (s.item_place p) (t.Keyword word.Data ∷ t.Tail n ∷ []) (item.Data n) (g.data_items (here p) n free))
data_at p _ free = holds_none _

remark_at : (p : Place) (z : List Terminal) → p.free ≡ true → Holds (StepAt p (t.Keyword word.Rem ∷ z)) (s.remark_step p z)
unfolding s.remark_step
remark_at p (t.Tail n ∷ []) free = holds_some _ (Some item.Remark, s.item_place p) []
    (last_item p (s.item_place p) (t.Keyword word.Rem ∷ t.Tail n ∷ []) item.Remark (g.remark (here p) n free))
remark_at p _ free = holds_none _

word_step_at : (p : Place) (c : Keyword) (z : List Terminal) → p.free ≡ true → Holds (StepAt p (t.Keyword c ∷ z)) (s.word_step p c z)
unfolding s.word_step
word_step_at p word.If z free = holds_on _ _ _ _ (num_at z) (λ x q f. condition_at p z q x free f)
word_step_at p word.On z free = on_at p z free
word_step_at p word.Case z free = holds_on _ _ _ _ (any_at z) (λ x q f. case_at p z q x free f)
word_step_at p word.Repeat z free = holds_some _ (Some item.Repeat, s.word_place p) z (λ xs d.
    by_grammar (g.repeat (here p) z xs free (items_of (s.word_place p) z xs refl d)))
word_step_at p word.Data z free = data_at p z free
word_step_at p word.Rem z free = remark_at p z free
word_step_at p c z free = plain_at p (t.Keyword c ∷ z) free

open_at : (p : Place) (z : List Terminal) → p.free ≡ true → Holds (StepAt p (t.OpenSquare ∷ z)) (s.open_step p z)
unfolding s.open_step
open_at p [] free = holds_some _ (Some item.BeginAssembly, s.item_place p) []
    (last_item p (s.item_place p) (t.OpenSquare ∷ []) item.BeginAssembly (g.begin_assembly (here p) free))
open_at p (c ∷ z) free = holds_none _

item_step_at : (p : Place) (z : List Terminal) → p.free ≡ true → Holds (StepAt p z) (s.item_step p z)
unfolding s.item_step
item_step_at p (t.Keyword c ∷ z) free = word_step_at p c z free
item_step_at p (t.LineRef n ∷ z) free = holds_if _ p.branch _ (λ b. holds_some _ (Some (item.Stmt (stmt.Flow (flow.Goto n))), s.ruling_place) z (λ xs d.
    by_number n z xs b refl refl (items_of s.ruling_place z xs refl d)))
item_step_at p (t.OpenSquare ∷ z) free = open_at p z free
item_step_at p z free = plain_at p z free

step_at : (p : Place) (z : List Terminal) → Holds (StepAt p z) (step p z)
unfolding step
step_at p [] = holds_none _
step_at p (t.Colon ∷ z) = holds_some _ (None, s.colon_place p) z (λ xs d. by_grammar (g.colon (here p) z xs (items_of (s.colon_place p) z xs refl d)))
step_at p (t.Keyword word.Else ∷ z) = holds_if _ p.ruled _ (λ h. holds_some _ (Some item.Else, s.branch_place) z (λ xs d.
    by_grammar (g.else (here p) z xs h (branch_of z xs d))))
step_at p z = holds_if _ p.free _ (λ h. item_step_at p z h)

-- ---- items

-- Items were read after those that were there.
record ItemsAfter (p : Place) (zs : List Item) (z : List Terminal) (ys : List Item) : Type 0 where
  own : List Item
  all : ys ≡ zs ++ own
  here_at : ItemsAt p z own

with_joined : (zs own : List Item) (y : Option Item) → with_found zs y ++ own ≡ zs ++ joined y own
with_joined zs own None = refl
with_joined zs own (Some x) = append_assoc zs (x ∷ []) own

step_after : (k : ℕ) (p : Place) (zs : List Item) (z : List Terminal) (ys : List Item) (m : Front Step)
    → ((p' : Place) (zs' : List Item) (z' : List Terminal) → items_from k p' zs' z' ≡ Some ys → ItemsAfter p' zs' z' ys) → Holds (StepAt p z) m
    → after_step m (λ w q. items_from k w.1 (with_found zs w.0) q) ≡ Some ys → ItemsAfter p zs z ys
unfolding after_step
step_after k p zs z ys None ih at h = absurd (cc)
step_after k p zs z ys (Some w) ih at h =
    let rest = ih w.0.1 (with_found zs w.0.0) w.1 h in
    record { own = joined w.0.0 rest.own; all = rest.all ∙ with_joined zs rest.own w.0.0; here_at = of_some _ _ _ at rest.own rest.here_at }

items_after : (k : ℕ) (p : Place) (zs : List Item) (z : List Terminal) (ys : List Item) → items_from k p zs z ≡ Some ys → ItemsAfter p zs z ys
unfolding items_from items_in
items_after k p zs [] ys h =
    record { own = []; all = sym (ap (items_in ys) h) ∙ sym (append-nil zs); here_at = by_grammar (g.no_items (here p)) }
items_after zero p zs (c ∷ z) ys h = absurd (cc)
items_after (suc k) p zs (c ∷ z) ys h =
    step_after k p zs (c ∷ z) ys (step p (c ∷ z)) (λ p' zs' z' e. items_after k p' zs' z' ys e) (step_at p (c ∷ z)) h

-- ---- runs

-- The first step's answer goes on with the items after it.
record FirstAt (z : List Terminal) (y : Step) (q : List Terminal) : Type 0 where
  plain : y.1.branch ≡ false
  goes_on : (xs : List Item) → IsItems (here y.1) q xs → IsRun z (joined y.0 xs)

def_at_front : (z : List Terminal) → Holds (FirstAt (t.Keyword word.Def ∷ z)) (r.def_at z)
unfolding r.def_at
def_at_front (t.Procedure n ∷ z) = holds_some _ (Some (item.Head (head.DefProcedure n [])), s.line_start) z
    (record { plain = refl; goes_on = λ xs d. g.def (t.Procedure n) (head.DefProcedure n) z xs (g.def_procedure n) d })
def_at_front (t.NumFunction n ∷ z) = holds_some _ (Some (item.Head (head.DefFunction n [])), s.line_start) z
    (record { plain = refl; goes_on = λ xs d. g.def (t.NumFunction n) (head.DefFunction n) z xs (g.def_number n) d })
def_at_front (t.StrFunction n ∷ z) = holds_some _ (Some (item.Head (head.DefFunction n [])), s.line_start) z
    (record { plain = refl; goes_on = λ xs d. g.def (t.StrFunction n) (head.DefFunction n) z xs (g.def_text n) d })
def_at_front (t.ProcedureOpen n ∷ z) = holds_on _ _ _ _ (formals_at_front z) (λ fs q f.
    holds_some _ (Some (item.Head (head.DefProcedure n fs)), s.line_start) q (record {
      plain = refl;
      goes_on = λ xs d.
          subst (λ w. IsRun w (item.Head (head.DefProcedure n fs) ∷ xs)) (ap (λ w. t.Keyword word.Def ∷ t.ProcedureOpen n ∷ w) (sym f.split))
          (g.def_open (t.ProcedureOpen n) (head.DefProcedure n) f.front q fs xs (g.def_procedure_open n) f.is d);
    }))
def_at_front (t.NumFunctionOpen n ∷ z) = holds_on _ _ _ _ (formals_at_front z) (λ fs q f.
    holds_some _ (Some (item.Head (head.DefFunction n fs)), s.line_start) q (record {
      plain = refl;
      goes_on = λ xs d.
          subst (λ w. IsRun w (item.Head (head.DefFunction n fs) ∷ xs)) (ap (λ w. t.Keyword word.Def ∷ t.NumFunctionOpen n ∷ w) (sym f.split))
          (g.def_open (t.NumFunctionOpen n) (head.DefFunction n) f.front q fs xs (g.def_number_open n) f.is d);
    }))
def_at_front (t.StrFunctionOpen n ∷ z) = holds_on _ _ _ _ (formals_at_front z) (λ fs q f.
    holds_some _ (Some (item.Head (head.DefFunction n fs)), s.line_start) q (record {
      plain = refl;
      goes_on = λ xs d.
          subst (λ w. IsRun w (item.Head (head.DefFunction n fs) ∷ xs)) (ap (λ w. t.Keyword word.Def ∷ t.StrFunctionOpen n ∷ w) (sym f.split))
          (g.def_open (t.StrFunctionOpen n) (head.DefFunction n) f.front q fs xs (g.def_text_open n) f.is d);
    }))
def_at_front _ = holds_none _

head_at_front : (c : Keyword) (z : List Terminal) → Holds (FirstAt (t.Keyword c ∷ z)) (r.head_at c z)
unfolding r.head_at
head_at_front word.Def z = def_at_front z
head_at_front word.When z = holds_on _ _ _ _ (list_at_front AnExpression z) (λ vs q f.
    holds_some _ (Some (item.Head (head.When vs)), s.item_place s.line_start) q (record {
      plain = refl;
      goes_on = λ xs d.
          subst (λ w. IsRun w (item.Head (head.When vs) ∷ xs)) (ap (λ w. t.Keyword word.When ∷ w) (sym f.split)) (g.when f.front q vs xs f.is d);
    }))
head_at_front word.Otherwise z = holds_some _ (Some (item.Head head.Otherwise), s.line_start) z (record { plain = refl; goes_on = λ xs d. g.otherwise z xs d })
head_at_front word.BlockElse z = holds_some _ (Some (item.Head head.BlockElse), s.line_start) z (record { plain = refl; goes_on = λ xs d. g.block_else z xs d })
head_at_front word.EndIf z =
    holds_some _ (Some (item.Head head.EndIf), s.item_place s.line_start) z (record { plain = refl; goes_on = λ xs d. g.end_if z xs d })
head_at_front word.EndCase z =
    holds_some _ (Some (item.Head head.EndCase), s.item_place s.line_start) z (record { plain = refl; goes_on = λ xs d. g.end_case z xs d })
head_at_front c z = holds_some _ (None, s.line_start) (t.Keyword c ∷ z) (record { plain = refl; goes_on = λ xs d. g.items (t.Keyword c ∷ z) xs d })

first_at_front : (z : List Terminal) → Holds (FirstAt z) (first_step z)
unfolding first_step
first_at_front (t.Keyword c ∷ z) = head_at_front c z
first_at_front (t.CloseSquare ∷ z) = holds_some _ (Some item.EndAssembly, s.ruling_place) z (record { plain = refl; goes_on = λ xs d. g.end_assembly z xs d })
first_at_front z = holds_some _ (None, s.line_start) z (record { plain = refl; goes_on = λ xs d. g.items z xs d })

run_step : (z : List Terminal) (xs : List Item) (m : Front Step) → Holds (FirstAt z) m
    → after_step m (λ w q. items_from (length q) w.1 (with_found [] w.0) q) ≡ Some xs → IsRun z xs
unfolding after_step
run_step z xs None at h = absurd (cc)
run_step z xs (Some w) at h =
    let first = of_some _ _ _ at in
    let rest = items_after (length w.1) w.0.1 (with_found [] w.0.0) w.1 xs h in
    subst (λ ys. IsRun z ys) (sym (rest.all ∙ with_joined [] rest.own w.0.0)) (first.goes_on rest.own (items_of w.0.1 w.1 rest.own first.plain rest.here_at))

pub run_sound : (z : List Terminal) (xs : List Item) → run_items z ≡ Some xs → IsRun z xs
unfolding run_items
run_sound z xs h = run_step z xs (first_step z) (first_at_front z) h
