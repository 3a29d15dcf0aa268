-- The parser of a run of a line as functions on lists.
use Rattle.std.specs.Prelude.{ℕ, zero, suc, List, [], ◌∷◌, ◌++◌, length, Option, Some, None}
use Rattle.bas_ast.specs.declared.keywords.Keyword.{Keyword}
use Rattle.bas_ast.specs.declared.keywords.Keyword.TheVariants as word
use Rattle.bas_ast.specs.declared.lines.Head.{Head}
use Rattle.bas_ast.specs.declared.lines.Head.TheVariants as head
use Rattle.bas_ast.specs.declared.lines.Item.{Item}
use Rattle.bas_ast.specs.declared.lines.Item.TheVariants as item
use Rattle.bas_ast.specs.declared.terminals.Terminal.{Terminal}
use Rattle.bas_ast.specs.declared.terminals.Terminal.TheVariants as t
use Rattle.expr_parse.specs.Parse.{Front, Parser, on_front}
use Rattle.expr_parse.specs.Operands.{longest_any}
use Rattle.bas_parse.specs.declared.place.Place.{Place}
use Rattle.bas_parse.specs.Operands.{list_of, formals_at}
use Rattle.bas_parse.specs.Steps.{Step, found, step, line_start, item_place, ruling_place}

-- what a step adds to the items so far
abbrev pub with_found : List Item → Option Item → List Item
with_found xs None = xs
with_found xs (Some x) = xs ++ x ∷ []

-- the items so far, where nothing is left
abbrev pub at_end : List Item → List Terminal → Option (List Item)
at_end xs [] = Some xs
at_end xs (c ∷ r) = None

-- goes on after a step
unfoldable pub after_step : Front Step → (Step → List Terminal → Option (List Item)) → Option (List Item)
after_step None go = None
after_step (Some z) go = go z.0 z.1

-- the items from a place on, after those that were read
unfoldable pub items_from : ℕ → Place → List Item → List Terminal → Option (List Item)
items_from k p xs [] = Some xs
items_from zero p xs (c ∷ r) = None
items_from (suc k) p xs (c ∷ r) = after_step (step p (c ∷ r)) (λ z q. items_from k z.1 (with_found xs z.0) q)

-- the items of a list from a place on, after those that were read
abbrev pub items_of_place : Place → List Item → List Terminal → Option (List Item)
items_of_place p xs r = items_from (length r) p xs r

-- a head after which items may follow without a `:`
abbrev pub begun : Head → Step
begun h = (Some (item.Head h), line_start)

-- a head that needs a `:` after it
abbrev pub ended_head : Head → Step
ended_head h = (Some (item.Head h), item_place line_start)

-- the head of a procedure with formal parameters
abbrev pub def_procedure : ℕ → Parser Step
def_procedure n r = on_front (formals_at r) (λ fs q. Some (begun (head.DefProcedure n fs), q))

-- the same of a function
abbrev pub def_function : ℕ → Parser Step
def_function n r = on_front (formals_at r) (λ fs q. Some (begun (head.DefFunction n fs), q))

-- what stands after WHEN
abbrev pub when_at : Parser Step
when_at r = on_front (list_of longest_any r) (λ vs q. Some (ended_head (head.When vs), q))

-- what stands after DEF
unfoldable pub def_at : Parser Step
def_at (t.Procedure n ∷ r) = Some (begun (head.DefProcedure n []), r)
def_at (t.NumFunction n ∷ r) = Some (begun (head.DefFunction n []), r)
def_at (t.StrFunction n ∷ r) = Some (begun (head.DefFunction n []), r)
def_at (t.ProcedureOpen n ∷ r) = def_procedure n r
def_at (t.NumFunctionOpen n ∷ r) = def_function n r
def_at (t.StrFunctionOpen n ∷ r) = def_function n r
def_at _ = None

-- what a keyword begins at the start of a line: a head, or nothing that is read yet
unfoldable pub head_at : Keyword → Parser Step
head_at word.Def r = def_at r
head_at word.When r = when_at r
head_at word.Otherwise r = Some (begun head.Otherwise, r)
head_at word.BlockElse r = Some (begun head.BlockElse, r)
head_at word.EndIf r = Some (ended_head head.EndIf, r)
head_at word.EndCase r = Some (ended_head head.EndCase, r)
head_at c r = Some ((None, line_start), t.Keyword c ∷ r)

-- what begins a run: a head, a `]`, or nothing that is read yet
unfoldable pub first_step : Parser Step
first_step (t.Keyword c ∷ r) = head_at c r
first_step (t.CloseSquare ∷ r) = found item.EndAssembly ruling_place r
first_step r = Some ((None, line_start), r)

-- the items of a run
unfoldable pub run_items : List Terminal → Option (List Item)
run_items r = after_step (first_step r) (λ z q. items_of_place z.1 (with_found [] z.0) q)
