-- The parser reads a run of a line of the grammar, so that no run has two lists of items.
use Rattle.std.proofs.Common.{◌≡◌, ℕ, suc, Bool, true, false, List, [], ◌∷◌, ◌++◌, length, Option, Some, None, refl, ap, sym, ◌∙◌, arith}
use Rattle.bas_ast.specs.declared.keywords.Keyword.TheVariants as word
use Rattle.bas_ast.specs.declared.lines.Head.TheVariants as head
use Rattle.bas_ast.specs.declared.lines.Item.{Item}
use Rattle.bas_ast.specs.declared.lines.Item.TheVariants as item
use Rattle.bas_ast.specs.declared.terminals.Terminal.{Terminal}
use Rattle.bas_ast.specs.declared.terminals.Terminal.TheVariants as t
use Rattle.bas_ast.specs.Operands.{AnExpression}
use Rattle.bas_ast.specs.Lines as g
use Rattle.bas_ast.specs.Lines.{Here, start, after_item, after_on, IsItems, IsRun}
use Rattle.expr_parse.specs.Parse.{on_front}
use Rattle.bas_parse.specs.Statements.{ended, stmt_at, word_at, assignment_at}
use Rattle.bas_parse.specs.Operands.{target_at}
use Rattle.bas_parse.specs.Steps.{found, step, item_step, word_step, plain_step, line_start}
use Rattle.bas_parse.specs.Runs.{with_found, after_step, items_from, def_at, head_at, first_step, run_items}
use Rattle.bas_parse.specs.Parsed.{OneRun}
use Rattle.bas_parse.proofs.CompleteOperands.{formals_are, list_is}
use Rattle.bas_parse.proofs.CompleteLines.{place, items_are, unended}

-- no item begins as a head does
first_items : (k : ℕ) (zs : List Item) (z : List Terminal) (ys : List Item) → items_from (suc k) line_start zs z ≡ Some ys
    → first_step z ≡ Some ((None, line_start), z)
unfolding items_from after_step step item_step word_step plain_step stmt_at word_at assignment_at target_at first_step head_at on_front
first_items k zs (t.Keyword word.Def ∷ z) ys h = absurd (cc)
first_items k zs (t.Keyword word.When ∷ z) ys h = absurd (cc)
first_items k zs (t.Keyword word.Otherwise ∷ z) ys h = absurd (cc)
first_items k zs (t.Keyword word.BlockElse ∷ z) ys h = absurd (cc)
first_items k zs (t.Keyword word.EndIf ∷ z) ys h = absurd (cc)
first_items k zs (t.Keyword word.EndCase ∷ z) ys h = absurd (cc)
first_items k zs (t.CloseSquare ∷ z) ys h = absurd (cc)
first_items k zs z ys h = refl

-- a head, and the items after it
run_row : (z q : List Terminal) (x : Item) (h : Here) (xs : List Item) → first_step z ≡ found x (place h false) q → IsItems h q xs → run_items z ≡ Some (x ∷ xs)
unfolding run_items after_step
run_row z q x h xs e d =
    ap (λ m. after_step m (λ z q. items_from (length q) z.1 (with_found [] z.0) q)) e ∙ items_are h q xs d false (length q) (x ∷ []) (omega arith)

-- the items after a head that needs a `:` after it end it
ends : (h : Here) (q : List Terminal) (xs : List Item) → h.free ≡ false → IsItems h q xs → ended q ≡ true
ends h q xs free d = unended (length q) (place h false) [] q ([] ++ xs) free (items_are h q xs d false (length q) [] (omega arith))

pub run_is : (z : List Terminal) (xs : List Item) → IsRun z xs → run_items z ≡ Some xs
unfolding run_items after_step first_step head_at def_at on_front
run_is z xs (g.items _ _ d) =
    ap (λ m. after_step m (λ z q. items_from (length q) z.1 (with_found [] z.0) q))
    (first_items (length z) [] z ([] ++ xs) (items_are start z xs d false (suc (length z)) [] (omega arith)))
    ∙ items_are start z xs d false (length z) [] (omega arith)
run_is z xs (g.def _ _ q ys (g.def_procedure n) d) = run_row z q (item.Head (head.DefProcedure n [])) start ys refl d
run_is z xs (g.def _ _ q ys (g.def_number n) d) = run_row z q (item.Head (head.DefFunction n [])) start ys refl d
run_is z xs (g.def _ _ q ys (g.def_text n) d) = run_row z q (item.Head (head.DefFunction n [])) start ys refl d
run_is z xs (g.def_open _ _ a q fs ys (g.def_procedure_open n) e d) = run_row z q (item.Head (head.DefProcedure n fs)) start ys
    (ap (λ m. on_front m (λ fs q. found (item.Head (head.DefProcedure n fs)) line_start q)) (formals_are a q fs e)) d
run_is z xs (g.def_open _ _ a q fs ys (g.def_number_open n) e d) = run_row z q (item.Head (head.DefFunction n fs)) start ys
    (ap (λ m. on_front m (λ fs q. found (item.Head (head.DefFunction n fs)) line_start q)) (formals_are a q fs e)) d
run_is z xs (g.def_open _ _ a q fs ys (g.def_text_open n) e d) = run_row z q (item.Head (head.DefFunction n fs)) start ys
    (ap (λ m. on_front m (λ fs q. found (item.Head (head.DefFunction n fs)) line_start q)) (formals_are a q fs e)) d
run_is z xs (g.when a q vs ys l d) = run_row z q (item.Head (head.When vs)) (after_item start) ys
    (ap (λ m. on_front m (λ vs q. found (item.Head (head.When vs)) (place (after_item start) false) q)) (list_is AnExpression a q vs l (ends (after_item start) q ys refl d))) d
run_is z xs (g.otherwise q ys d) = run_row z q (item.Head head.Otherwise) start ys refl d
run_is z xs (g.block_else q ys d) = run_row z q (item.Head head.BlockElse) start ys refl d
run_is z xs (g.end_if q ys d) = run_row z q (item.Head head.EndIf) (after_item start) ys refl d
run_is z xs (g.end_case q ys d) = run_row z q (item.Head head.EndCase) (after_item start) ys refl d
run_is z xs (g.end_assembly q ys d) = run_row z q item.EndAssembly after_on ys refl d

items_in : List Item → Option (List Item) → List Item
items_in other None = other
items_in other (Some xs) = xs

pub one_run : (z : List Terminal) → OneRun z
unfolding items_in
one_run z xs ys d e = ap (items_in xs) (sym (run_is z xs d) ∙ run_is z ys e)

is_there : Option (List Item) → Bool
is_there None = false
is_there (Some xs) = true

pub run_none : (z : List Terminal) → run_items z ≡ None → (xs : List Item) → IsRun z xs → ⊥
unfolding is_there
run_none z h xs d = let wrong : false ≡ true = ap is_there (sym h ∙ run_is z xs d) in cc
