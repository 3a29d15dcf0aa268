-- The code of a CASE has the values of its WHENs, which the terminals of the WHENs pay for.
use Rattle.std.proofs.Common.{◌≡◌, ℕ, zero, suc, ◌+◌, ◌-◌, ◌≤◌, List, [], ◌∷◌, ◌++◌, Some, refl, sym, ap, subst, drop, append_assoc, lit≤, arith}
use Rattle.std.specs.Prelude.{pos, flat_map}
use Rattle.bas_ast.specs.declared.expressions.Any.{Any}
use Rattle.bas_ast.specs.declared.expressions.Any.TheVariants as any
use Rattle.bas_ast.specs.declared.expressions.NumExpr.{NumExpr}
use Rattle.bas_ast.specs.declared.lines.Head.TheVariants as head
use Rattle.bas_ast.specs.declared.lines.Item.{Item}
use Rattle.bas_ast.specs.declared.lines.Item.TheVariants as item
use Rattle.bas_ast.specs.declared.program.Prog.{Prog}
use Rattle.bas_ast.specs.declared.statements.Flow.TheVariants as flow
use Rattle.bas_ast.specs.declared.statements.Stmt.TheVariants as stmt
use Rattle.bas_ast.specs.Structures.{OpensCase, DividesCase, case_family, bound}
use Rattle.bas_ast.specs.WellFormed.{most_symbols}
use Rattle.bas_ir.specs.declared.op.Op.{Op}
use Rattle.bas_ir.specs.declared.op.Op.TheVariants as o
use Rattle.bas_ir.specs.Heights.{empty_height, one_more}
use Rattle.bas_sem.specs.Places.{Row, Branch, rows, depth_after, division, with_division, branches_among, branches_of, after_end}
use Rattle.ir_build.specs.Code.{expr_code, values_code, branches_code, item_code, or_jump, row_ops, row_code, codes_from, joined, heights_of}
use Rattle.ir_build.proofs.FusedFits.{fused_cost, fused_there, fused_up_to}
use Rattle.ir_build.proofs.EndTables.{rows_after}
use Rattle.ir_build.proofs.Fits.{cost, cost_append, pushes, pushes_append, AllThere, append_there}
use Rattle.ir_build.proofs.PendingBounds.{AllUpTo, append_up_to, heights_up_to, pieces_up_to, expr_past, values_past}

-- no code pushes more values than this
abbrev pub AllLow : ℕ → List (List Op) → Type 0
AllLow most [] = Unit {0}
AllLow most (c ∷ cs) = (pushes c ≤ most) × AllLow most cs

-- The code that an item's own terminals pay for. The values of a WHEN are with it, and not with its CASE, and with a number below
-- them in place of that of the CASE.
abbrev pub paid_code : Prog → ℕ → ℕ → Item → List Op
paid_code prog place line (item.Case (any.Number x)) = expr_code prog line x ++ o.Discard ∷ o.Go (after_end prog OpensCase place) ∷ []
paid_code prog place line (item.Head (head.When values)) =
    o.Push (pos 0) ∷ (values_code prog line (place + 1) values ++ o.Go (after_end prog DividesCase place) ∷ [])
paid_code prog place line i = item_code prog place line i

abbrev pub paid_row : Prog → ℕ → Row → List Op
paid_row prog place row = or_jump (place + 1) (paid_code prog place row.line row.item)

-- that of rows, of which the first is at a place
abbrev pub paid_from : Prog → ℕ → List Row → List (List Op)
paid_from prog place [] = []
paid_from prog place (row ∷ rest) = paid_row prog place row ∷ paid_from prog (place + 1) rest

-- code that isn't empty needs no jump
jump_none : (next : ℕ) (xs ys : List Op) (op : Op) (ops : List Op) → or_jump next (xs ++ (ys ++ op ∷ ops)) ≡ xs ++ (ys ++ op ∷ ops)
jump_none next [] [] op ops = refl
jump_none next [] (y ∷ ys) op ops = refl
jump_none next (x ∷ xs) ys op ops = refl

-- ---- sums over depths

abbrev sum_below : ℕ → (ℕ → ℕ) → ℕ
sum_below zero f = 0
sum_below (suc n) f = f 0 + sum_below n (λ k. f (suc k))

sum_same : (n : ℕ) (f g : ℕ → ℕ) → ((k : ℕ) → f k ≡ g k) → sum_below n f ≡ sum_below n g
sum_same zero f g same = refl
sum_same (suc n) f g same = omega (arith, same 0, sum_same n (λ k. f (suc k)) (λ k. g (suc k)) (λ k. same (suc k)))

sum_none : (n : ℕ) → sum_below n (λ k. 0) ≡ 0
sum_none zero = refl
sum_none (suc n) = omega (arith, sum_none n)

by_depth : (f g : ℕ → ℕ) → f 0 ≡ g 0 → ((k : ℕ) → f (suc k) ≡ g (suc k)) → (k : ℕ) → f k ≡ g k
by_depth f g first later zero = first
by_depth f g first later (suc k) = later k

module _ (prog : Prog) where
  -- ---- bytes

  -- what the values cost that a CASE before rows looks at, within which a number of others are open
  abbrev search_cost : ℕ → List Row → ℕ → ℕ
  search_cost depth rs place = cost (branches_code prog (branches_among depth rs place))

  -- what those of CASEs cost of which one is open at each depth below this
  abbrev searches : ℕ → List Row → ℕ → ℕ
  searches n rs place = sum_below n (λ depth. search_cost depth rs place)

  abbrev row_of : ℕ → Item → Row
  row_of line x = record { line = line; item = x }

  -- the code of an item and the searches before it cost no more than what its terminals pay for and the searches after it
  abbrev RowPaid : (n after line place : ℕ) → Item → List Row → Type 0
  RowPaid n after line place x rs =
      searches n (row_of line x ∷ rs) place + cost (row_ops prog place (row_of line x)) ≤ searches after rs (place + 1) + cost (paid_row prog place (row_of line x))

  -- an item that is nothing to a CASE before it
  other_paid : (n after line place : ℕ) (x : Item) (rs : List Row) → after ≡ n → row_ops prog place (row_of line x) ≡ paid_row prog place (row_of line x)
      → search_cost 0 (row_of line x ∷ rs) place ≡ search_cost 0 rs (place + 1) → ((k : ℕ) → search_cost (suc k) (row_of line x ∷ rs) place ≡ search_cost (suc k) rs (place + 1))
      → RowPaid n after line place x rs
  other_paid n after line place x rs depth code first later =
      let same : searches n (row_of line x ∷ rs) place ≡ searches n rs (place + 1) =
      sum_same n (λ d. search_cost d (row_of line x ∷ rs) place) (λ d. search_cost d rs (place + 1))
      (by_depth (λ d. search_cost d (row_of line x ∷ rs) place) (λ d. search_cost d rs (place + 1)) first later) in
      omega (arith, same, ap (λ k. searches k rs (place + 1)) depth, ap cost code)

  -- a CASE, which is open in what follows
  open_paid : (n line place : ℕ) (x : Item) (rs : List Row) (own : ℕ) → cost (row_ops prog place (row_of line x)) ≤ own + search_cost 0 rs (place + 1)
      → own ≤ cost (paid_row prog place (row_of line x))
      → ((k : ℕ) → search_cost k (row_of line x ∷ rs) place ≡ search_cost (suc k) rs (place + 1)) → RowPaid n (suc n) line place x rs
  open_paid n line place x rs own code paid each =
      let same : searches n (row_of line x ∷ rs) place ≡ sum_below n (λ k. search_cost (suc k) rs (place + 1)) =
      sum_same n (λ d. search_cost d (row_of line x ∷ rs) place) (λ k. search_cost (suc k) rs (place + 1)) each in
      let split : searches (suc n) rs (place + 1) ≡ search_cost 0 rs (place + 1) + sum_below n (λ k. search_cost (suc k) rs (place + 1)) = refl in
      omega (arith, same, split, code, paid)

  -- an item that stands in the search of the nearest CASE before it alone: what is looked at from it on
  divide_paid : (n line place : ℕ) (x : Item) (rs : List Row) (own : ℕ) → search_cost 0 (row_of line x ∷ rs) place ≤ own + search_cost 0 rs (place + 1)
      → own + cost (row_ops prog place (row_of line x)) ≤ cost (paid_row prog place (row_of line x))
      → ((k : ℕ) → search_cost (suc k) (row_of line x ∷ rs) place ≡ search_cost (suc k) rs (place + 1)) → RowPaid n n line place x rs
  divide_paid zero line place x rs own first paid each =
      let none : searches 0 (row_of line x ∷ rs) place ≡ 0 = refl in
      omega (arith, none, paid)
  divide_paid (suc n) line place x rs own first paid each =
      let same : sum_below n (λ k. search_cost (suc k) (row_of line x ∷ rs) place) ≡ sum_below n (λ k. search_cost (suc k) rs (place + 1)) =
      sum_same n (λ k. search_cost (suc k) (row_of line x ∷ rs) place) (λ k. search_cost (suc k) rs (place + 1)) each in
      let split : searches (suc n) rs (place + 1) ≡ search_cost 0 rs (place + 1) + sum_below n (λ k. search_cost (suc k) rs (place + 1)) = refl in
      let split' : searches (suc n) (row_of line x ∷ rs) place
      ≡ search_cost 0 (row_of line x ∷ rs) place + sum_below n (λ k. search_cost (suc k) (row_of line x ∷ rs) place) = refl in
      omega (arith, same, split, split', first, paid)

  end_case_paid : (n line place : ℕ) (rs : List Row) → RowPaid n (n - 1) line place (item.Head head.EndCase) rs
  end_case_paid zero line place rs =
      let none : searches 0 (row_of line (item.Head head.EndCase) ∷ rs) place ≡ 0 = refl in
      let code : row_ops prog place (row_of line (item.Head head.EndCase)) ≡ paid_row prog place (row_of line (item.Head head.EndCase)) = refl in
      omega (arith, none, ap cost code)
  end_case_paid (suc n) line place rs =
      let x : Item = item.Head head.EndCase in
      let one : (k : ℕ) → suc k - 1 ≡ k = λ k. omega arith in
      let same : sum_below n (λ k. search_cost (suc k) (row_of line (item.Head head.EndCase) ∷ rs) place) ≡ searches n rs (place + 1) =
      sum_same n (λ k. search_cost (suc k) (row_of line (item.Head head.EndCase) ∷ rs) place) (λ k. search_cost k rs (place + 1)) (λ k. ap (λ d. search_cost d rs (place + 1)) (one k)) in
      let split : searches (suc n) (row_of line (item.Head head.EndCase) ∷ rs) place ≡ 0 + sum_below n (λ k. search_cost (suc k) (row_of line (item.Head head.EndCase) ∷ rs) place) = refl in
      let code : row_ops prog place (row_of line (item.Head head.EndCase)) ≡ paid_row prog place (row_of line (item.Head head.EndCase)) = refl in
      omega (arith, same, split, ap cost code, ap (λ d. searches d rs (place + 1)) (one n))

  -- the code of CASE
  case_costs : (line place : ℕ) (x : NumExpr) (rs : List Row) → drop (place + 1) (rows prog) ≡ rs
      → cost (row_ops prog place (row_of line (item.Case (any.Number x)))) ≤ (cost (expr_code prog line x) + 16) + search_cost 0 rs (place + 1)
  case_costs line place x rs is =
      let last : List Op = o.Discard ∷ o.Go (after_end prog OpensCase place) ∷ [] in
      let branches : List Op = branches_code prog (branches_of prog place) in
      let code : row_ops prog place (row_of line (item.Case (any.Number x))) ≡ expr_code prog line x ++ (branches ++ last) =
      jump_none (place + 1) (expr_code prog line x) branches o.Discard (o.Go (after_end prog OpensCase place) ∷ []) in
      let same : cost branches ≡ search_cost 0 rs (place + 1) = ap (λ l. search_cost 0 l (place + 1)) is in
      let few : cost last ≡ 16 = refl in
      omega (arith, ap cost code, cost_append (expr_code prog line x) (branches ++ last), cost_append branches last, same, few)

  case_pays : (line place : ℕ) (x : NumExpr) → cost (expr_code prog line x) + 16 ≤ cost (paid_row prog place (row_of line (item.Case (any.Number x))))
  case_pays line place x =
      let last : List Op = o.Discard ∷ o.Go (after_end prog OpensCase place) ∷ [] in
      let code : paid_row prog place (row_of line (item.Case (any.Number x))) ≡ expr_code prog line x ++ last =
      jump_none (place + 1) (expr_code prog line x) [] o.Discard (o.Go (after_end prog OpensCase place) ∷ []) in
      let few : cost last ≡ 16 = refl in
      omega (arith, ap cost code, cost_append (expr_code prog line x) last, few)

  when_pays : (line place : ℕ) (values : List Any)
      → cost (values_code prog line (place + 1) values) + cost (row_ops prog place (row_of line (item.Head (head.When values)))) ≤ cost (paid_row prog place (row_of line (item.Head (head.When values))))
  when_pays line place values =
      let go : List Op = o.Go (after_end prog DividesCase place) ∷ [] in
      let few : cost (row_ops prog place (row_of line (item.Head (head.When values)))) ≡ 8 = refl in
      let all : cost (paid_row prog place (row_of line (item.Head (head.When values)))) ≡ 24 + cost (values_code prog line (place + 1) values ++ go) = refl in
      let last : cost go ≡ 8 = refl in
      omega (arith, few, all, last, cost_append (values_code prog line (place + 1) values) go)

  row_paid : (n line place : ℕ) (x : Item) (rs : List Row) → drop (place + 1) (rows prog) ≡ rs → RowPaid n (depth_after case_family (bound x) n) line place x rs
  row_paid n line place (item.Case (any.Number x)) rs is =
      open_paid n line place (item.Case (any.Number x)) rs (cost (expr_code prog line x) + 16) (case_costs line place x rs is) (case_pays line place x)
      (by_depth (λ k. search_cost k (row_of line (item.Case (any.Number x)) ∷ rs) place) (λ k. search_cost (suc k) rs (place + 1)) refl (λ k. refl))
  row_paid n line place (item.Case (any.Text x)) rs is =
      open_paid n line place (item.Case (any.Text x)) rs 16 (omega arith) (lit≤ tt)
      (by_depth (λ k. search_cost k (row_of line (item.Case (any.Text x)) ∷ rs) place) (λ k. search_cost (suc k) rs (place + 1)) refl (λ k. refl))
  row_paid n line place (item.Head head.EndCase) rs is = end_case_paid n line place rs
  row_paid n line place (item.Head head.Otherwise) rs is = divide_paid n line place (item.Head head.Otherwise) rs 0 (omega arith) (lit≤ tt) (λ k. refl)
  row_paid n line place (item.Head (head.When values)) rs is =
      let first = cost_append (values_code prog line (place + 1) values) (branches_code prog (branches_among 0 rs (place + 1))) in
      divide_paid n line place (item.Head (head.When values)) rs (cost (values_code prog line (place + 1) values)) (omega (arith, first)) (when_pays line place values) (λ k. refl)
  row_paid n line place (item.Stmt (stmt.Flow (flow.While x))) rs is = other_paid n _ line place (item.Stmt (stmt.Flow (flow.While x))) rs refl refl refl (λ k. refl)
  row_paid n line place (item.Stmt (stmt.Flow flow.EndWhile)) rs is = other_paid n _ line place (item.Stmt (stmt.Flow flow.EndWhile)) rs refl refl refl (λ k. refl)
  row_paid n line place x rs is = other_paid n _ line place x rs refl refl refl (λ k. refl)

  -- the code of rows costs no more than what their terminals pay for
  pub codes_paid : (n : ℕ) (rs : List Row) (place : ℕ) → drop place (rows prog) ≡ rs
      → searches n rs place + cost (joined (codes_from prog place rs)) ≤ cost (joined (paid_from prog place rs))
  codes_paid n [] place is =
      let none : searches n [] place ≡ 0 = sum_none n in
      omega (arith, none)
  codes_paid n (r ∷ rs) place is =
      let after : drop (place + 1) (rows prog) ≡ rs = rows_after (rows prog) place r rs is in
      let own = row_paid n r.line place r.item rs after in
      let rest = codes_paid (depth_after case_family (bound r.item) n) rs (place + 1) after in
      omega (
        arith,
        own,
        rest,
        fused_cost (row_ops prog place r),
        cost_append (row_code prog place r) (joined (codes_from prog (place + 1) rs)),
        cost_append (paid_row prog place r) (joined (paid_from prog (place + 1) rs)),
      )

  -- ---- names, texts and pending values

  front_there : (xs ys : List Op) → AllThere prog (xs ++ ys) → AllThere prog xs
  front_there [] ys there = tt
  front_there (x ∷ xs) ys there = (there.0, front_there xs ys there.1)

  back_there : (xs ys : List Op) → AllThere prog (xs ++ ys) → AllThere prog ys
  back_there [] ys there = there
  back_there (x ∷ xs) ys there = back_there xs ys there.1

  -- the values of these WHENs name what is there, and push few values on that of their CASE
  abbrev AllSound : List Branch → Type 0
  AllSound [] = Unit {0}
  AllSound (b ∷ bs) = AllThere prog (values_code prog b.line b.after b.values) × ((1 + pushes (values_code prog b.line b.after b.values) ≤ most_symbols) × AllSound bs)

  division_sound : (depth line place : ℕ) (x : Item) (later : List Branch) → AllThere prog (paid_row prog place (row_of line x)) → pushes (paid_row prog place (row_of line x)) ≤ most_symbols
      → AllSound later → AllSound (with_division (division depth x) line (place + 1) later)
  division_sound zero line place (item.Head (head.When values)) later there low rest =
      let go : List Op = o.Go (after_end prog DividesCase place) ∷ [] in
      let all : pushes (paid_row prog place (row_of line (item.Head (head.When values)))) ≡ 1 + pushes (values_code prog line (place + 1) values ++ go) = refl in
      (front_there (values_code prog line (place + 1) values) go there.1, (omega (arith, low, all, pushes_append (values_code prog line (place + 1) values) go), rest))
  division_sound zero line place (item.Head head.Otherwise) later there low rest = tt
  division_sound zero line place (item.Head head.EndCase) later there low rest = tt
  division_sound zero line place x later there low rest = rest
  division_sound (suc depth) line place x later there low rest = rest

  all_sound : (depth : ℕ) (rs : List Row) (place : ℕ) → AllThere prog (joined (paid_from prog place rs)) → AllLow most_symbols (paid_from prog place rs) → AllSound (branches_among depth rs place)
  all_sound depth [] place there low = tt
  all_sound depth (r ∷ rs) place there low =
      let more : List Op = joined (paid_from prog (place + 1) rs) in
      division_sound depth r.line place r.item (branches_among (depth_after case_family (bound r.item) depth) rs (place + 1)) (front_there (paid_row prog place r) more there) low.0
      (all_sound (depth_after case_family (bound r.item) depth) rs (place + 1) (back_there (paid_row prog place r) more there) low.1)

  branches_there : (bs : List Branch) → AllSound bs → AllThere prog (branches_code prog bs)
  branches_there [] sound = tt
  branches_there (b ∷ bs) sound = append_there prog (values_code prog b.line b.after b.values) (branches_code prog bs) sound.0 (branches_there bs sound.1.1)

  row_there : (line place : ℕ) (x : Item) → AllThere prog (paid_row prog place (row_of line x)) → AllSound (branches_of prog place) → AllThere prog (row_ops prog place (row_of line x))
  row_there line place (item.Case (any.Number x)) there sound =
      let last : List Op = o.Discard ∷ o.Go (after_end prog OpensCase place) ∷ [] in
      let branches : List Op = branches_code prog (branches_of prog place) in
      let own : AllThere prog (expr_code prog line x) =
      front_there (expr_code prog line x) last (subst (AllThere prog) (jump_none (place + 1) (expr_code prog line x) [] o.Discard (o.Go (after_end prog OpensCase place) ∷ [])) there) in
      subst (AllThere prog) (sym (jump_none (place + 1) (expr_code prog line x) branches o.Discard (o.Go (after_end prog OpensCase place) ∷ [])))
      (append_there prog (expr_code prog line x) (branches ++ last) own (append_there prog branches last (branches_there (branches_of prog place) sound) (tt, (tt, tt))))
  row_there line place (item.Head (head.When values)) there sound = (tt, tt)
  row_there line place x there sound = there

  branches_up_to : (bs : List Branch) (ops : List Op) → AllSound bs → AllUpTo most_symbols (heights_of (Some (one_more empty_height)) ops)
      → AllUpTo most_symbols (heights_of (Some (one_more empty_height)) (branches_code prog bs ++ ops))
  branches_up_to [] ops sound rest = rest
  branches_up_to (b ∷ bs) ops sound rest =
      let own : List Op = values_code prog b.line b.after b.values in
      subst (λ l. AllUpTo most_symbols (heights_of (Some (one_more empty_height)) l)) (sym (append_assoc own (branches_code prog bs) ops))
      (pieces_up_to most_symbols own (branches_code prog bs ++ ops) (Some (one_more empty_height)) (Some (one_more empty_height))
      (heights_up_to own (Some (one_more empty_height)) 1 most_symbols (lit≤ tt) sound.1.0) (values_past prog b.line b.after b.values empty_height)
      (branches_up_to bs ops sound.1.1 rest))

  row_up_to : (line place : ℕ) (x : Item) → pushes (paid_row prog place (row_of line x)) ≤ most_symbols → AllSound (branches_of prog place)
      → AllUpTo most_symbols (heights_of (Some empty_height) (row_ops prog place (row_of line x)))
  row_up_to line place (item.Case (any.Number x)) low sound =
      let last : List Op = o.Discard ∷ o.Go (after_end prog OpensCase place) ∷ [] in
      let branches : List Op = branches_code prog (branches_of prog place) in
      let paid = ap pushes (jump_none (place + 1) (expr_code prog line x) [] o.Discard (o.Go (after_end prog OpensCase place) ∷ [])) in
      let few : pushes (expr_code prog line x) ≤ most_symbols = omega (arith, low, paid, pushes_append (expr_code prog line x) last) in
      subst (λ l. AllUpTo most_symbols (heights_of (Some empty_height) l))
      (sym (jump_none (place + 1) (expr_code prog line x) branches o.Discard (o.Go (after_end prog OpensCase place) ∷ [])))
      (pieces_up_to most_symbols (expr_code prog line x) (branches ++ last) (Some empty_height) (Some (one_more empty_height))
      (heights_up_to (expr_code prog line x) (Some empty_height) 0 most_symbols (lit≤ tt) (omega (arith, few))) (expr_past prog line x empty_height)
      (branches_up_to (branches_of prog place) last sound (lit≤ tt, (lit≤ tt, tt))))
  row_up_to line place (item.Head (head.When values)) low sound = (lit≤ tt, tt)
  row_up_to line place x low sound =
      heights_up_to (row_ops prog place (row_of line x)) (Some empty_height) 0 most_symbols (lit≤ tt) (omega (arith, low))

  -- The code of rows names what is there, and few values are pending.
  pub record CodesFit (cs : List (List Op)) : Type 0 where
    pub there : AllThere prog (joined cs)
    pub up_to : AllUpTo most_symbols (flat_map (heights_of (Some empty_height)) cs)

  pub codes_fit : (rs : List Row) (place : ℕ) → drop place (rows prog) ≡ rs → AllThere prog (joined (paid_from prog place rs)) → AllLow most_symbols (paid_from prog place rs)
      → CodesFit (codes_from prog place rs)
  codes_fit [] place is there low = record { there = tt; up_to = tt }
  codes_fit (r ∷ rs) place is there low =
      let after : drop (place + 1) (rows prog) ≡ rs = rows_after (rows prog) place r rs is in
      let own : List Op = paid_row prog place r in
      let more : AllThere prog (joined (paid_from prog (place + 1) rs)) = back_there own (joined (paid_from prog (place + 1) rs)) there in
      let sound : AllSound (branches_of prog place) = subst (λ l. AllSound (branches_among 0 l (place + 1))) (sym after) (all_sound 0 rs (place + 1) more low.1) in
      let rest = codes_fit rs (place + 1) after more low.1 in
      record {
        there = append_there prog (row_code prog place r) (joined (codes_from prog (place + 1) rs))
            (fused_there prog (row_ops prog place r) (row_there r.line place r.item (front_there own (joined (paid_from prog (place + 1) rs)) there) sound)) rest.there;
        up_to = append_up_to most_symbols (heights_of (Some empty_height) (row_code prog place r)) (flat_map (heights_of (Some empty_height)) (codes_from prog (place + 1) rs))
            (fused_up_to most_symbols (row_ops prog place r) (Some empty_height) (row_up_to r.line place r.item low.0 sound)) rest.up_to;
      }
