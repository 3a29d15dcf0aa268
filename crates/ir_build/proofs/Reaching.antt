-- Where the operations of a program's code lead is an item, or the end.
use Rattle.std.proofs.Common.{◌≡◌, ℕ, zero, suc, ◌+◌, ◌-◌, ◌<◌, ◌≤◌, List, [], ◌∷◌, ◌++◌, Option, None, Some, refl, ap, subst, ◌∙◌, length, drop, map, arith, length-append, length-drop, zero-add}
use Rattle.std.specs.Prelude.{Bool, true, false, flat_map, nat_lt, slice_get, ◌==◌, ◌&&◌, if◌then◌else◌}
use Rattle.std.proofs.lemmas.Bool.{ltb-true, ltb-false}
use Rattle.std.proofs.Math.ListN.{length-map}
use Rattle.bas_ast.specs.declared.expressions.Any.{Any}
use Rattle.bas_ast.specs.declared.expressions.Any.TheVariants as any
use Rattle.bas_ast.specs.declared.expressions.NumExpr.{NumExpr, more_of-NumExpr as held}
use Rattle.bas_ast.specs.declared.expressions.NumExpr.TheVariants as num
use Rattle.bas_ast.specs.declared.expressions.StrExpr.{StrExpr}
use Rattle.bas_ast.specs.declared.expressions.StrExpr.TheVariants as str
use Rattle.bas_ast.specs.declared.expressions.UnaryOp.{UnaryOp}
use Rattle.bas_ast.specs.declared.expressions.UnaryOp.TheVariants as unary
use Rattle.bas_ast.specs.declared.expressions.Variable.TheVariants as var
use Rattle.bas_ast.specs.declared.lines.Head.{Head}
use Rattle.bas_ast.specs.declared.lines.Head.TheVariants as head
use Rattle.bas_ast.specs.declared.lines.Item.{Item}
use Rattle.bas_ast.specs.declared.lines.Item.TheVariants as item
use Rattle.bas_ast.specs.declared.lines.Jump.{Jump}
use Rattle.bas_ast.specs.declared.lines.Jump.TheVariants as jumps
use Rattle.bas_ast.specs.declared.program.Prog.{Prog}
use Rattle.bas_ast.specs.Structures.{Bound, OpensWhile, OpensIf, DividesIf, OpensCase, DividesCase, Family, while_family, if_family, case_family, ends_if, bound}
use Rattle.bas_ast.specs.declared.program.ProgLine.{ProgLine}
use Rattle.bas_ast.specs.declared.statements.Assignment.{Assignment}
use Rattle.bas_ast.specs.declared.statements.Assignment.TheVariants as assigns
use Rattle.bas_ast.specs.declared.statements.Flow.{Flow}
use Rattle.bas_ast.specs.declared.statements.Flow.TheVariants as flow
use Rattle.bas_ast.specs.declared.statements.Output.{Output}
use Rattle.bas_ast.specs.declared.statements.Output.TheVariants as writes
use Rattle.bas_ast.specs.declared.statements.PrintPart.{PrintPart}
use Rattle.bas_ast.specs.declared.statements.PrintPart.TheVariants as prints
use Rattle.bas_ast.specs.declared.statements.Stmt.{Stmt}
use Rattle.bas_ast.specs.declared.statements.Stmt.TheVariants as stmt
use Rattle.bas_ast.specs.declared.statements.VduPart.{VduPart}
use Rattle.bas_ast.specs.declared.statements.VduPart.TheVariants as sends
use Rattle.bas_ast.specs.declared.targets.NumTarget.TheVariants as target
use Rattle.bas_ast.specs.declared.targets.Target.{Target}
use Rattle.bas_ast.specs.declared.targets.Target.TheVariants as targets
use Rattle.bas_ir.specs.declared.op.Op.{Op}
use Rattle.bas_ir.specs.declared.op.Op.TheVariants as o
use Rattle.bas_ir.specs.declared.op.Piece.TheVariants as pieces
use Rattle.bas_store.specs.Cells.{Cell, Resident, Integer, integer_cell}
use Rattle.bas_sem.specs.Data.{restored}
use Rattle.bas_sem.specs.Places.{Row, Branch, Division, Divides, Ends, Neither, rows, rest_among, rest_of_line, after_else, else_place, found_else, on_else, depth_after, end_among, ends_search, end_of, after_end, division, with_division, branches_among, branches_of, line_among, line_place}
use Rattle.ir_build.specs.Code.{unary_code, read_op, store_op, expr_code, text_code, assignment_code, go_op, gosub_op, counter_of, step_code, nexts_code, next_code, flow_code, choice_op, choices_code, otherwise_op, print_code, vdu_code, output_code, reads_code, restore_op, statement_code, values_code, branches_code, case_code, head_code, item_code, or_jump, row_ops, row_code, codes_from, codes, joined}
use Rattle.ir_build.specs.Fused.{fused_with, fused}
use Rattle.ir_build.proofs.Fusing as f
use Rattle.ir_build.proofs.Fusing.{Fuses, fuses}

abbrev IsNot : {A : Type 0} → Option A → Type 0
IsNot None = Unit {0}
IsNot (Some x) = ⊥

-- the rows of lines
abbrev rows_of : List ProgLine → List Row
rows_of lines = flat_map (λ line. map (λ i. record { line = line.number; item = i }) line.items) lines

rows_more : (line : ProgLine) (lines : List ProgLine) → length (rows_of (line ∷ lines)) ≡ length line.items + length (rows_of lines)
rows_more line lines =
    length-append (map (λ i. record { line = line.number; item = i }) line.items) (rows_of lines)
    ∙ ap (λ n. n + length (rows_of lines)) (length-map line.items (λ i. record { line = line.number; item = i }))

-- a place that may be there is not past this one
abbrev UpTo : ℕ → Option ℕ → Type 0
UpTo n None = Unit {0}
UpTo n (Some place) = place ≤ n

one_of_two : (b : Bool) (n place : ℕ) (other : Option ℕ) → place ≤ n → UpTo n other → UpTo n (if b then Some place else other)
one_of_two true n place other here there = here
one_of_two false n place other here there = there

line_up_to : (lines : List ProgLine) (number base : ℕ) → UpTo (base + length (rows_of lines)) (line_among lines number base)
line_up_to [] number base = tt
line_up_to (line ∷ lines) number base =
    let more : length (rows_of (line ∷ lines)) ≡ length line.items + length (rows_of lines) = rows_more line lines in
    let same : base + length line.items + length (rows_of lines) ≡ base + length (rows_of (line ∷ lines)) = omega (arith, more) in
    one_of_two (line.number == number) (base + length (rows_of (line ∷ lines))) base (line_among lines number (base + length line.items)) (omega arith)
    (subst (λ n. UpTo n (line_among lines number (base + length line.items))) same (line_up_to lines number (base + length line.items)))

rest_of_two : (b : Bool) (line : ProgLine) (lines : List ProgLine) (place : ℕ) → nat_lt place (length line.items) ≡ b → place < length line.items + length (rows_of lines)
    → ((p : ℕ) → p < length (rows_of lines) → p + 1 + length (rest_among lines p) ≤ length (rows_of lines))
    → place + 1 + length (if b then drop (place + 1) line.items else rest_among lines (place - length line.items)) ≤ length line.items + length (rows_of lines)
rest_of_two true line lines place is few rest = omega (arith, ltb-true place (length line.items) is, length-drop (place + 1) line.items)
rest_of_two false line lines place is few rest =
    let past : length line.items ≤ place = ltb-false place (length line.items) is in
    omega (arith, past, rest (place - length line.items) (omega (arith, past, few)))

rest_up_to : (lines : List ProgLine) (place : ℕ) → place < length (rows_of lines) → place + 1 + length (rest_among lines place) ≤ length (rows_of lines)
rest_up_to [] place few = absurd (omega (arith, few))
rest_up_to (line ∷ lines) place few =
    let more : length (rows_of (line ∷ lines)) ≡ length line.items + length (rows_of lines) = rows_more line lines in
    omega (arith, more, rest_of_two (nat_lt place (length line.items)) line lines place refl (omega (arith, more, few)) (rest_up_to lines))

else_up_to : (items : List Item) (place : ℕ) → after_else items place ≤ place + length items
else_up_to [] place = omega arith
else_up_to (item.Else ∷ items) place = omega arith
else_up_to (_ ∷ items) place = omega (arith, else_up_to items (place + 1))

UpTo-more : (n m : ℕ) (o : Option ℕ) → n ≤ m → UpTo n o → UpTo m o
UpTo-more n m None more up_to = tt
UpTo-more n m (Some place) more up_to = omega (arith, more, up_to)

found_up_to : (items : List Item) (place : ℕ) → UpTo (place + length items) (found_else items place)
found_up_to [] place = tt
found_up_to (item.Else ∷ items) place = omega arith
found_up_to (_ ∷ items) place = UpTo-more (place + 1 + length items) (place + suc (length items)) (found_else items (place + 1)) (omega arith) (found_up_to items (place + 1))

one_or_other : (b : Bool) (n one other : ℕ) → one ≤ n → other ≤ n → (if b then one else other) ≤ n
one_or_other true n one other first second = first
one_or_other false n one other first second = second

among_up_to : (family : Family) (is_end : Item → Bool) (depth : ℕ) (rs : List Row) (place : ℕ) → end_among family is_end depth rs place ≤ place + length rs
among_up_to family is_end depth [] place = omega arith
among_up_to family is_end depth (r ∷ rs) place =
    one_or_other (depth == 0 && is_end r.item) (place + suc (length rs)) (place + 1) (end_among family is_end (depth_after family (bound r.item) depth) rs (place + 1))
    (omega arith) (omega (arith, among_up_to family is_end (depth_after family (bound r.item) depth) rs (place + 1)))

-- where a structure ends, among the rows after an item
end_up_to : (b : Bound) (rs : List Row) (place : ℕ) → end_of b rs place ≤ place + length rs
end_up_to OpensWhile rs place = among_up_to while_family (λ x. while_family.closes (bound x)) 0 rs place
end_up_to OpensIf rs place = among_up_to if_family (λ x. ends_if (bound x)) 0 rs place
end_up_to DividesIf rs place = among_up_to if_family (λ x. if_family.closes (bound x)) 0 rs place
end_up_to OpensCase rs place = among_up_to case_family ends_search 0 rs place
end_up_to DividesCase rs place = among_up_to case_family (λ x. case_family.closes (bound x)) 0 rs place
end_up_to _ rs place = omega arith

-- the places after these WHENs are not past this one
abbrev AllUpTo : ℕ → List Branch → Type 0
AllUpTo n [] = Unit {0}
AllUpTo n (b ∷ bs) = (b.after ≤ n) × AllUpTo n bs

division_up_to : (n : ℕ) (d : Division) (line after : ℕ) (later : List Branch) → after ≤ n → AllUpTo n later → AllUpTo n (with_division d line after later)
division_up_to n (Divides values) line after later here there = (here, there)
division_up_to n Ends line after later here there = tt
division_up_to n Neither line after later here there = there

branches_up_to : (n depth : ℕ) (rs : List Row) (place : ℕ) → place + length rs ≤ n → AllUpTo n (branches_among depth rs place)
branches_up_to n depth [] place few = tt
branches_up_to n depth (r ∷ rs) place few =
    division_up_to n (division depth r.item) r.line (place + 1) (branches_among (depth_after case_family (bound r.item) depth) rs (place + 1)) (omega (arith, few))
    (branches_up_to n (depth_after case_family (bound r.item) depth) rs (place + 1) (omega (arith, few)))

module _ (prog : Prog) where
  abbrev pub total : ℕ
  total = length (rows prog)

  abbrev pub Reaches : Op → Type 0
  Reaches (o.Go item) = item ≤ total
  Reaches (o.GoIfZero item) = item ≤ total
  Reaches (o.GoUnless relation item) = item ≤ total
  Reaches (o.GoUnlessWith relation item number) = item ≤ total
  Reaches (o.GoIfOne item) = item ≤ total
  Reaches (o.GoIfEqual item) = item ≤ total
  Reaches (o.GosubIfOne line item) = item ≤ total
  Reaches (o.Gosub line item) = item ≤ total
  Reaches (o.HandleAll item) = item ≤ total
  Reaches (o.HandleHere item) = item ≤ total
  Reaches _ = Unit {0}

  abbrev pub AllReach : List Op → Type 0
  AllReach [] = Unit {0}
  AllReach (op ∷ ops) = Reaches op × AllReach ops

  append_reach : (xs ys : List Op) → AllReach xs → AllReach ys → AllReach (xs ++ ys)
  append_reach [] ys a b = b
  append_reach (x ∷ xs) ys a b = (a.0, append_reach xs ys a.1 b)

  after_up_to : (b : Bound) (place : ℕ) → place < total → after_end prog b place ≤ total
  after_up_to b place few = omega (arith, few, end_up_to b (drop (place + 1) (rows prog)) (place + 1), length-drop (place + 1) (rows prog))

  module _ (line : ℕ) where
    read_reach : (cell : Cell) → Reaches (read_op line cell)
    read_reach (Resident index) = tt
    read_reach (Integer name) = tt

    store_reach : (cell : Cell) → Reaches (store_op cell)
    store_reach (Resident index) = tt
    store_reach (Integer name) = tt

    unary_reach : (op : UnaryOp) → AllReach (unary_code line op)
    unary_reach unary.Plus = tt
    unary_reach unary.Minus = (tt, tt)
    unary_reach unary.Not = (tt, tt)
    unary_reach unary.Abs = (tt, tt)
    unary_reach unary.Sgn = (tt, tt)
    unary_reach unary.Int = tt

    expr_reach : (x : NumExpr) → AllReach (expr_code prog line x)
    unfolding expr_code
    expr_reach (num.Number value) = (tt, tt)
    expr_reach num.True = (tt, tt)
    expr_reach num.False = (tt, tt)
    expr_reach num.Count = (tt, tt)
    expr_reach (num.Variable (var.Simple name)) = (read_reach (integer_cell prog.names name), tt)
    expr_reach (num.Bracket' _ (held x _)) = expr_reach x
    expr_reach (num.Unary' op _ (held x _)) = append_reach (expr_code prog line x) (unary_code line op) (expr_reach x) (unary_reach op)
    expr_reach (num.Binary' op _ (held x _) _ (held y _)) =
        append_reach (expr_code prog line x) (expr_code prog line y ++ o.Binary op line ∷ []) (expr_reach x)
        (append_reach (expr_code prog line y) (o.Binary op line ∷ []) (expr_reach y) (tt, tt))
    expr_reach _ = (tt, (tt, tt))

    then_reach : (x : NumExpr) (op : Op) (ops : List Op) → Reaches op → AllReach ops → AllReach (expr_code prog line x ++ op ∷ ops)
    then_reach x op ops a b = append_reach (expr_code prog line x) (op ∷ ops) (expr_reach x) (a, b)

    text_reach : (x : StrExpr) → AllReach (text_code x)
    text_reach (str.Literal number) = (tt, (tt, tt))
    text_reach _ = (tt, tt)

    assignment_reach : (a : Assignment) → AllReach (assignment_code prog line a)
    assignment_reach (assigns.Number (target.Variable (var.Simple name)) x) = then_reach x (store_op (integer_cell prog.names name)) [] (store_reach (integer_cell prog.names name)) tt
    assignment_reach (assigns.Add (target.Variable (var.Simple name)) x) =
        (read_reach (integer_cell prog.names name), then_reach x _ (store_op (integer_cell prog.names name) ∷ []) tt (store_reach (integer_cell prog.names name), tt))
    assignment_reach (assigns.Subtract (target.Variable (var.Simple name)) x) =
        (read_reach (integer_cell prog.names name), then_reach x _ (store_op (integer_cell prog.names name) ∷ []) tt (store_reach (integer_cell prog.names name), tt))
    assignment_reach _ = (tt, tt)

    print_reach : (padded new_line : Bool) (parts : List PrintPart) → AllReach (print_code prog line padded new_line parts)
    unfolding print_code
    print_reach padded true [] = (tt, tt)
    print_reach padded false [] = tt
    print_reach padded new_line (prints.Comma ∷ parts) = (tt, print_reach true true parts)
    print_reach padded new_line (prints.Semicolon ∷ parts) = print_reach false false parts
    print_reach padded new_line (prints.NewLine ∷ parts) = (tt, print_reach padded true parts)
    print_reach padded new_line (prints.Number format x ∷ parts) = then_reach x (o.WriteNumber padded format) _ tt (print_reach padded true parts)
    print_reach padded new_line (prints.Text x ∷ parts) = append_reach (text_code x) (print_code prog line padded true parts) (text_reach x) (print_reach padded true parts)
    print_reach padded new_line (prints.Spaces x ∷ parts) = then_reach x (o.Write pieces.Spaces) _ tt (print_reach padded true parts)
    print_reach padded new_line (prints.Tab x ∷ parts) = then_reach x (o.Write pieces.Tab) _ tt (print_reach padded true parts)

    vdu_reach : (parts : List VduPart) → AllReach (vdu_code prog line parts)
    unfolding vdu_code
    vdu_reach [] = tt
    vdu_reach (sends.Byte x ∷ parts) = then_reach x (o.Write pieces.Byte) _ tt (vdu_reach parts)
    vdu_reach (sends.Word x ∷ parts) = then_reach x (o.Write pieces.Word) _ tt (vdu_reach parts)

    output_reach : (w : Output) → AllReach (output_code prog line w)
    output_reach (writes.Print parts) = print_reach true true parts
    output_reach (writes.Vdu parts) = vdu_reach parts
    output_reach (writes.Mode x) = then_reach x (o.Write pieces.Mode) [] tt tt
    output_reach (writes.Colour x) = then_reach x (o.Write pieces.Colour) [] tt tt
    output_reach writes.Cls = (tt, tt)

    go_reach : (to : Option ℕ) → UpTo total to → AllReach (go_op to line ∷ [])
    go_reach None up_to = (tt, tt)
    go_reach (Some place) up_to = (up_to, tt)

    goto_up_to : (number : ℕ) → UpTo total (line_place prog number)
    goto_up_to number = subst (λ n. UpTo n (line_place prog number)) (zero-add total) (line_up_to prog.lines number 0)

    gosub_reach : (to : Option ℕ) → UpTo total to → AllReach (gosub_op to line ∷ [])
    gosub_reach None up_to = (tt, tt)
    gosub_reach (Some place) up_to = (up_to, tt)

    nexts_reach : (names : List ℕ) → AllReach (nexts_code prog line names)
    nexts_reach [] = tt
    nexts_reach (name ∷ names) = (tt, nexts_reach names)

    next_reach : (names : List ℕ) → AllReach (next_code prog line names)
    next_reach [] = (tt, tt)
    next_reach (name ∷ names) = nexts_reach (name ∷ names)

    step_reach : (z : Option NumExpr) → AllReach (step_code prog line z)
    step_reach None = (tt, tt)
    step_reach (Some x) = expr_reach x

    flow_reach : (place : ℕ) (w : Flow) → place < total → AllReach (flow_code prog place line w)
    flow_reach place (flow.Goto number) few = go_reach (line_place prog number) (goto_up_to number)
    flow_reach place (flow.Gosub number) few = gosub_reach (line_place prog number) (goto_up_to number)
    flow_reach place flow.Return few = (tt, tt)
    flow_reach place (flow.For name x y z) few =
        let opens : List Op = o.OpenFor (counter_of (integer_cell prog.names name)) line ∷ [] in
        then_reach x (store_op (integer_cell prog.names name)) (expr_code prog line y ++ (step_code prog line z ++ opens)) (store_reach (integer_cell prog.names name))
        (append_reach (expr_code prog line y) (step_code prog line z ++ opens) (expr_reach y) (append_reach (step_code prog line z) opens (step_reach z) (tt, tt)))
    flow_reach place (flow.Next names) few = next_reach names
    flow_reach place (flow.Until x) few = then_reach x (o.Until line) [] tt tt
    flow_reach place (flow.While x) few =
        then_reach x (o.GoIfZero (after_end prog OpensWhile place)) (o.OpenWhile line ∷ []) (after_up_to OpensWhile place few) (tt, tt)
    flow_reach place flow.EndWhile few = (tt, tt)
    flow_reach place flow.End few = (tt, tt)
    flow_reach place flow.Stop few = (tt, tt)
    flow_reach place flow.Quit few = (tt, tt)

    restore_reach : (to : Option ℕ) → AllReach (restore_op to line ∷ [])
    restore_reach None = (tt, tt)
    restore_reach (Some item) = (tt, tt)

    reads_reach : (variables : List Target) → AllReach (reads_code prog line variables)
    reads_reach [] = tt
    reads_reach (targets.Number (target.Variable (var.Simple name)) ∷ others) = (tt, (store_reach (integer_cell prog.names name), reads_reach others))
    reads_reach (_ ∷ others) = (tt, tt)

    statement_reach : (place : ℕ) (s : Stmt) → place < total → AllReach (statement_code prog place line s)
    statement_reach place (stmt.Assign a) few = assignment_reach a
    statement_reach place (stmt.Flow w) few = flow_reach place w few
    statement_reach place (stmt.Output w) few = output_reach w
    statement_reach place (stmt.Read variables) few = reads_reach variables
    statement_reach place (stmt.Restore to) few = restore_reach (restored prog to)
    statement_reach place _ few = (tt, tt)

    choice_reach : (jump : Jump) (to : Option ℕ) → UpTo total to → Reaches (choice_op jump to line)
    choice_reach jump None up_to = tt
    choice_reach jumps.Goto (Some place) up_to = up_to
    choice_reach jumps.Gosub (Some place) up_to = up_to

    choices_reach : (jump : Jump) (numbers : List ℕ) → AllReach (choices_code prog line jump numbers)
    choices_reach jump [] = tt
    choices_reach jump (number ∷ numbers) = (choice_reach jump (line_place prog number) (goto_up_to number), choices_reach jump numbers)

    otherwise_reach : (to : Option ℕ) → UpTo total to → Reaches (otherwise_op to line)
    otherwise_reach None up_to = tt
    otherwise_reach (Some place) up_to = up_to

    on_else_up_to : (place : ℕ) → place < total → UpTo total (on_else prog place)
    on_else_up_to place few =
        UpTo-more (place + 1 + length (rest_of_line prog place)) total (on_else prog place) (rest_up_to prog.lines place few)
        (found_up_to (rest_of_line prog place) (place + 1))

    values_reach : (after : ℕ) (values : List Any) → after ≤ total → AllReach (values_code prog line after values)
    values_reach after [] up_to = tt
    values_reach after (any.Number x ∷ values) up_to = then_reach x (o.GoIfEqual after) (values_code prog line after values) up_to (values_reach after values up_to)
    values_reach after (any.Text x ∷ values) up_to = (tt, tt)

    head_reach : (place : ℕ) (h : Head) → place < total → AllReach (head_code prog place h)
    head_reach place head.BlockElse few = (after_up_to DividesIf place few, tt)
    head_reach place head.EndIf few = tt
    head_reach place (head.When values) few = (after_up_to DividesCase place few, tt)
    head_reach place head.Otherwise few = (after_up_to DividesCase place few, tt)
    head_reach place head.EndCase few = tt
    head_reach place _ few = (tt, tt)

  branches_reach : (branches : List Branch) → AllUpTo total branches → AllReach (branches_code prog branches)
  branches_reach [] up_to = tt
  branches_reach (b ∷ branches) up_to =
      append_reach (values_code prog b.line b.after b.values) (branches_code prog branches) (values_reach b.line b.after b.values up_to.0) (branches_reach branches up_to.1)

  module _ (line : ℕ) where
    case_reach : (place : ℕ) (x : Any) → place < total → AllReach (case_code prog place line x)
    case_reach place (any.Number x) few =
        let last : List Op = o.Discard ∷ o.Go (after_end prog OpensCase place) ∷ [] in
        let up_to : AllUpTo total (branches_of prog place) =
        branches_up_to total 0 (drop (place + 1) (rows prog)) (place + 1) (omega (arith, few, length-drop (place + 1) (rows prog))) in
        append_reach (expr_code prog line x) (branches_code prog (branches_of prog place) ++ last) (expr_reach line x)
        (append_reach (branches_code prog (branches_of prog place)) last (branches_reach (branches_of prog place) up_to) (tt, (after_up_to OpensCase place few, tt)))
    case_reach place (any.Text x) few = (tt, tt)

    item_reach : (place : ℕ) (i : Item) → place < total → AllReach (item_code prog place line i)
    item_reach place (item.Head h) few = head_reach line place h few
    item_reach place (item.Stmt s) few = statement_reach line place s few
    item_reach place (item.If x) few =
        then_reach line x (o.GoIfZero (else_place prog place)) []
        (omega (arith, else_up_to (rest_of_line prog place) (place + 1), rest_up_to prog.lines place few)) tt
    item_reach place (item.BlockIf x) few = then_reach line x (o.GoIfZero (after_end prog OpensIf place)) [] (after_up_to OpensIf place few) tt
    item_reach place (item.Case x) few = case_reach place x few
    item_reach place (item.On x jump numbers) few =
        let otherwise : List Op = o.Discard ∷ otherwise_op (on_else prog place) line ∷ [] in
        append_reach (expr_code prog line x) (choices_code prog line jump numbers ++ otherwise) (expr_reach line x)
        (append_reach (choices_code prog line jump numbers) otherwise (choices_reach line jump numbers)
        (tt, (otherwise_reach line (on_else prog place) (on_else_up_to line place few), tt)))
    item_reach place item.Repeat few = (tt, tt)
    item_reach place item.Else few = (rest_up_to prog.lines place few, tt)
    item_reach place (item.Data n) few = tt
    item_reach place item.Remark few = tt
    item_reach place _ few = (tt, tt)

  jump_reach : (place : ℕ) (ops : List Op) → place < total → AllReach ops → AllReach (or_jump (place + 1) ops)
  jump_reach place [] few all = (omega (arith, few), tt)
  jump_reach place (op ∷ ops) few all = all

  fuse_reach : (old new : List Op) → Fuses old new → AllReach old → AllReach new
  fuse_reach old new (f.same ops) all = all
  fuse_reach old new (f.constant value op line rest) all = all.1
  fuse_reach old new (f.resident index op line rest) all = all.1
  fuse_reach old new (f.change index op line number rest) all = (tt, all.1.1.1)
  fuse_reach old new (f.comparison relation line item rest) all = all.1
  fuse_reach old new (f.compared value relation item rest) all = all.1

  fused_reach : (ops : List Op) → AllReach ops → AllReach (fused ops)
  fused_reach [] all = all
  fused_reach (op ∷ ops) all = fuse_reach (op ∷ fused ops) (fused_with op (fused ops)) (fuses op (fused ops)) (all.0, fused_reach ops all.1)

  codes_from_reach : (rs : List Row) (base : ℕ) → base + length rs ≡ total → AllReach (joined (codes_from prog base rs))
  codes_from_reach [] base is = tt
  codes_from_reach (r ∷ rs) base is =
      append_reach (row_code prog base r) (joined (codes_from prog (base + 1) rs))
      (fused_reach (row_ops prog base r) (jump_reach base (item_code prog base r.line r.item) (omega (arith, is)) (item_reach r.line base r.item (omega (arith, is)))))
      (codes_from_reach rs (base + 1) (omega (arith, is)))

  codes_reach : AllReach (joined (codes prog))
  unfolding codes
  codes_reach = codes_from_reach (rows prog) 0 (zero-add total)

  abbrev some_or : Op → Option Op → Op
  some_or d None = d
  some_or d (Some op) = op

  each_reaches : (ops : List Op) (pc : ℕ) (op : Op) → AllReach ops → slice_get ops pc ≡ Some op → Reaches op
  each_reaches [] pc op all is = absurd (subst IsNot is tt)
  each_reaches (x ∷ ops) zero op all is = subst Reaches (ap (some_or x) is) all.0
  each_reaches (x ∷ ops) (suc k) op all is = each_reaches ops k op all.1 is

  pub reaches : (pc : ℕ) (op : Op) → slice_get (joined (codes prog)) pc ≡ Some op → Reaches op
  reaches pc op is = each_reaches (joined (codes prog)) pc op codes_reach is
