-- The parser reads the items of a line of the grammar.
use Rattle.std.proofs.Common.{◌≡◌, ◌≢◌, ℕ, zero, suc, ◌<◌, ◌≤◌, Bool, true, false, ◌&&◌, List, [], ◌∷◌, ◌++◌, length, Option, Some, None, if◌then◌else◌, All, refl, ap, sym, ◌∙◌, append_assoc, length-append, lit<, arith}
use Rattle.std.proofs.lemmas.List.{append-nil}
use Rattle.std.proofs.lemmas.List.Elements.{All-head, All-tail}
use Rattle.bas_ast.specs.declared.expressions.Any.{Any}
use Rattle.bas_ast.specs.declared.expressions.BinaryOp.TheVariants as op
use Rattle.bas_ast.specs.declared.expressions.Comparison.TheVariants as comparison
use Rattle.bas_ast.specs.declared.expressions.NumExpr.{NumExpr}
use Rattle.bas_ast.specs.declared.keywords.Keyword.TheVariants as word
use Rattle.bas_ast.specs.declared.lines.Item.{Item}
use Rattle.bas_ast.specs.declared.lines.Item.TheVariants as item
use Rattle.bas_ast.specs.declared.lines.Jump.TheVariants as jump
use Rattle.bas_ast.specs.declared.statements.Flow.TheVariants as flow
use Rattle.bas_ast.specs.declared.statements.Stmt.{Stmt}
use Rattle.bas_ast.specs.declared.statements.Stmt.TheVariants as stmt
use Rattle.bas_ast.specs.declared.terminals.Terminal.{Terminal}
use Rattle.bas_ast.specs.declared.terminals.Terminal.TheVariants as t
use Rattle.bas_ast.specs.Operands.{ALine}
use Rattle.bas_ast.specs.Statements.{IsStmt}
use Rattle.bas_ast.specs.Lines as g
use Rattle.bas_ast.specs.Lines.{Here, start, after_colon, after_item, after_word, after_condition, after_then, after_on, continues, IsItems, IsBranch}
use Rattle.expr_parse.specs.Parse as p
use Rattle.expr_parse.specs.Parse.{Front, Parser, on_front, or_front, on_some, longest_num}
use Rattle.expr_parse.specs.Operands as o
use Rattle.expr_parse.specs.Operands.{longest_any}
use Rattle.bas_parse.specs.declared.place.Place.{Place}
use Rattle.bas_parse.specs.Operands.{target_at, placed, simple_at, list_from, list_of}
use Rattle.bas_parse.specs.Statements.{ended, signed, assignment_at, error_off_at, word_at, stmt_at}
use Rattle.bas_parse.specs.Steps as s
use Rattle.bas_parse.specs.Steps.{Step, found, item_place, word_place, condition_place, branch_place, ruling_place, condition_step, jump_step, ends_local, local_item, error_step, on_step, all_colons, case_step, plain_step, word_step, item_step, step}
use Rattle.bas_parse.specs.Runs.{with_found, after_step, items_from}
use Rattle.bas_parse.proofs.Expressions.{stops, num_is, any_is}
use Rattle.bas_parse.proofs.CompleteOperands.{list_is}
use Rattle.bas_parse.proofs.CompleteStatements.{stmt_is}

-- the parser's place
abbrev pub place : Here → Bool → Place
place h b = record { free = h.free; bare = h.bare; ruled = h.ruled; branch = b }

by_flag : (f : Bool) (m : Front Step) → f ≡ true → (if f then m else None) ≡ m
by_flag f m e = ap (λ w. if w then m else None) e

by_not : (f : Bool) (m : Front Step) → f ≡ false → (if f then None else m) ≡ m
by_not f m e = ap (λ w. if w then None else m) e

-- ---- a statement as an item

plain_is : (q : Place) (z : List Terminal) (x : Stmt) (r : List Terminal) → q.bare && continues z ≡ false → stmt_at z ≡ Some (x, r)
    → plain_step q z ≡ found (item.Stmt x) (item_place q) r
unfolding plain_step on_front
plain_is q z x r bare e =
    by_not (q.bare && continues z) (on_front (stmt_at z) (λ x r. found (item.Stmt x) (item_place q) r)) bare
    ∙ ap (λ m. on_front m (λ x r. found (item.Stmt x) (item_place q) r)) e

step_stmt : (h : Here) (b : Bool) (z : List Terminal) (x : Stmt) (r : List Terminal) → h.free ≡ true → h.bare && continues z ≡ false
    → stmt_at z ≡ Some (x, r) → step (place h b) z ≡ found (item.Stmt x) (item_place (place h b)) r
unfolding step item_step word_step on_step error_step stmt_at word_at error_off_at assignment_at target_at on_front
step_stmt h b [] x r free bare e = absurd (cc)
step_stmt h b (t.Colon ∷ q) x r free bare e = absurd (cc)
step_stmt h b (t.LineRef n ∷ q) x r free bare e = absurd (cc)
step_stmt h b (t.OpenSquare ∷ q) x r free bare e = absurd (cc)
step_stmt h b (t.Keyword word.Else ∷ q) x r free bare e = absurd (cc)
step_stmt h b (t.Keyword word.If ∷ q) x r free bare e = absurd (cc)
step_stmt h b (t.Keyword word.Case ∷ q) x r free bare e = absurd (cc)
step_stmt h b (t.Keyword word.Repeat ∷ q) x r free bare e = absurd (cc)
step_stmt h b (t.Keyword word.Data ∷ q) x r free bare e = absurd (cc)
step_stmt h b (t.Keyword word.Rem ∷ q) x r free bare e = absurd (cc)
step_stmt h b (t.Keyword word.On ∷ t.Keyword word.Error ∷ t.Keyword word.Off ∷ q) x r free bare e =
    by_flag h.free _ free ∙ ap (λ m. on_front m (λ x r. found (item.Stmt x) (item_place (place h b)) r)) e
step_stmt h b (t.Keyword word.On ∷ q) x r free bare e = absurd (cc)
step_stmt h b z x r free bare e = by_flag h.free (plain_step (place h b) z) free ∙ plain_is (place h b) z x r bare e

-- ---- steps and items

pub items_next : (k : ℕ) (q q' : Place) (zs : List Item) (y : Option Item) (z r : List Terminal) → step q z ≡ Some ((y, q'), r)
    → items_from (suc k) q zs z ≡ items_from k q' (with_found zs y) r
unfolding items_from after_step step
items_next k q q' zs y [] r h = absurd (cc)
items_next k q q' zs y (c ∷ z) r h = ap (λ m. after_step m (λ z q. items_from k z.1 (with_found zs z.0) q)) h

-- an item, and those after it
items_row : (k : ℕ) (q q' : Place) (zs xs : List Item) (x : Item) (z r : List Terminal) → length z ≤ k → length r < length z
    → step q z ≡ Some ((Some x, q'), r)
    → ((k' : ℕ) → length r ≤ k' → items_from k' q' (zs ++ x ∷ []) r ≡ Some ((zs ++ x ∷ []) ++ xs))
    → items_from k q zs z ≡ Some (zs ++ (x ∷ xs))
items_row zero q q' zs xs x z r fuel short h ih = absurd (omega arith)
items_row (suc k) q q' zs xs x z r fuel short h ih =
    items_next k q q' zs (Some x) z r h ∙ (ih k (omega arith) ∙ ap Some (append_assoc zs (x ∷ []) xs))

-- where no item may begin, the item before has its end
pub unended : (k : ℕ) (q : Place) (zs : List Item) (z : List Terminal) (ys : List Item) → q.free ≡ false → items_from k q zs z ≡ Some ys → ended z ≡ true
unfolding items_from after_step step
unended k q zs [] ys free h = refl
unended k q zs (t.Colon ∷ z) ys free h = refl
unended k q zs (t.Keyword word.Else ∷ z) ys free h = refl
unended zero q zs (c ∷ z) ys free h = absurd (cc)
unended (suc k) q zs (c ∷ z) ys free h =
    let none = ap (λ f. after_step (if f then item_step q (c ∷ z) else None) (λ z q. items_from k z.1 (with_found zs z.0) q)) free in absurd (cc)

-- what follows a condition without THEN goes on with no expression
after_bare : (k : ℕ) (zs : List Item) (z : List Terminal) (ys : List Item) → items_from (suc k) (place after_condition false) zs z ≡ Some ys → stops z ≡ true
unfolding items_from after_step step item_step plain_step stmt_at assignment_at target_at on_front
after_bare k zs (t.Operator (op.Compare comparison.Equal) ∷ z) ys h = absurd (cc)
after_bare k zs (t.Operator (op.Compare _) ∷ z) ys h = absurd (cc)
after_bare k zs (t.Operator _ ∷ z) ys h = absurd (cc)
after_bare k zs (t.Indirection w ∷ z) ys h = absurd (cc)
after_bare k zs _ ys h = refl

bare_condition : (k : ℕ) (x : NumExpr) (zs : List Item) (z : List Terminal) (ys : List Item) → items_from (suc k) (place after_condition false) zs z ≡ Some ys
    → condition_step x z ≡ found (item.If x) condition_place z
unfolding items_from after_step step item_step word_step plain_step stmt_at word_at condition_step on_front
bare_condition k x zs (t.Keyword word.Then ∷ z) ys h = absurd (cc)
bare_condition k x zs z ys h = refl

then_condition : (x : NumExpr) (r : List Terminal) → r ≢ [] → condition_step x (t.Keyword word.Then ∷ r) ≡ found (item.If x) branch_place r
unfolding condition_step
then_condition x [] some = absurd (some refl)
then_condition x (c ∷ r) some = refl

-- ---- ON

on_num : (q : Place) (z r : List Terminal) (x : NumExpr) → longest_num z ≡ Some (x, r) → on_step q z ≡ jump_step x r
unfolding on_step p.longest_num p.number p.expression p.whole p.operand p.opened p.prefixed p.formed on_front on_some
on_num q (t.Keyword word.Error ∷ z) r x h = absurd (cc)
on_num q z r x h = ap (λ m. on_front m (λ x q. jump_step x q)) h

-- an item LOCAL after ON ERROR
local_first : (k : ℕ) (q : Place) (zs : List Item) (z : List Terminal) (ys : List Item)
    → items_from (suc k) (word_place q) zs (t.Keyword word.Local ∷ z) ≡ Some ys → local_item z ≡ true
unfolding items_from after_step step item_step word_step plain_step stmt_at word_at list_of list_from simple_at local_item on_front on_some
local_first k q zs (t.IntName n ∷ t.Comma ∷ z) ys h = refl
local_first k q zs (t.IntName n ∷ z) ys h = unended k (item_place (word_place q)) _ z ys refl h
local_first k q zs (t.StrName n ∷ t.Comma ∷ z) ys h = refl
local_first k q zs (t.StrName n ∷ z) ys h = unended k (item_place (word_place q)) _ z ys refl h
local_first k q zs (t.Keyword word.Error ∷ z) ys h = unended k (item_place (word_place q)) _ z ys refl h
local_first k q zs _ ys h = absurd (cc)

error_items : (k : ℕ) (q : Place) (zs : List Item) (z : List Terminal) (ys : List Item)
    → items_from (suc k) (word_place q) zs z ≡ Some ys → error_step q z ≡ found item.OnError (word_place q) z
unfolding items_from after_step step item_step word_step plain_step stmt_at word_at error_step on_front
error_items k q zs (t.Keyword word.Off ∷ z) ys h = absurd (cc)
error_items k q zs (t.Keyword word.Local ∷ z) ys h =
    ap (λ f. if f then found item.OnError (word_place q) (t.Keyword word.Local ∷ z) else found item.OnErrorLocal (word_place q) z) (local_first k q zs z ys h)
error_items k q zs z ys h = refl

-- what begins an item isn't what follows an item LOCAL's word
local_items : (k : ℕ) (q : Place) (zs : List Item) (z : List Terminal) (ys : List Item)
    → items_from (suc k) (word_place q) zs z ≡ Some ys → local_item z ≡ false
unfolding items_from after_step step item_step word_step plain_step stmt_at word_at assignment_at target_at placed signed local_item o.longest_offset p.offset p.longest_num p.number p.expression p.whole p.operand p.opened p.prefixed p.formed or_front on_front on_some
local_items k q zs (t.IntName n ∷ []) ys h = absurd (cc)
local_items k q zs (t.IntName n ∷ t.Comma ∷ z) ys h = absurd (cc)
local_items k q zs (t.IntName n ∷ t.Colon ∷ z) ys h = absurd (cc)
local_items k q zs (t.IntName n ∷ t.Keyword word.Else ∷ z) ys h = absurd (cc)
local_items k q zs (t.IntName n ∷ _ ∷ z) ys h = refl
local_items k q zs (t.StrName n ∷ []) ys h = absurd (cc)
local_items k q zs (t.StrName n ∷ t.Comma ∷ z) ys h = absurd (cc)
local_items k q zs (t.StrName n ∷ t.Colon ∷ z) ys h = absurd (cc)
local_items k q zs (t.StrName n ∷ t.Keyword word.Else ∷ z) ys h = absurd (cc)
local_items k q zs (t.StrName n ∷ _ ∷ z) ys h = refl
local_items k q zs (t.Keyword word.Error ∷ []) ys h = absurd (cc)
local_items k q zs (t.Keyword word.Error ∷ t.Colon ∷ z) ys h = absurd (cc)
local_items k q zs (t.Keyword word.Error ∷ t.Keyword word.Else ∷ z) ys h = absurd (cc)
local_items k q zs (t.Keyword word.Error ∷ _ ∷ z) ys h = refl
local_items k q zs _ ys h = refl

error_local : (k : ℕ) (q : Place) (zs : List Item) (z : List Terminal) (ys : List Item)
    → items_from (suc k) (word_place q) zs z ≡ Some ys → error_step q (t.Keyword word.Local ∷ z) ≡ found item.OnErrorLocal (word_place q) z
unfolding error_step
error_local k q zs z ys h =
    ap (λ f. if f then found item.OnError (word_place q) (t.Keyword word.Local ∷ z) else found item.OnErrorLocal (word_place q) z) (local_items k q zs z ys h)

-- ---- the induction

colons : (r : List Terminal) → All (λ c. c ≡ t.Colon) r → all_colons r ≡ true
unfolding all_colons
colons [] h = refl
colons (t.Colon ∷ r) h = colons r (All-tail (λ c. c ≡ t.Colon) t.Colon r h)
colons (c ∷ r) h = let first = All-head (λ c. c ≡ t.Colon) c r h in absurd (cc)

-- a statement's first sign is that of the list it stands in front of
pub continues_front : (c : Terminal) (a r : List Terminal) → continues ((c ∷ a) ++ r) ≡ continues (c ∷ a)
continues_front (t.Indirection w) a r = refl
continues_front (t.Operator (op.Compare comparison.Equal)) a r = refl
continues_front (t.Operator (op.Compare _)) a r = refl
continues_front (t.Operator _) a r = refl
continues_front _ a r = refl

pub stmt_some : (x : Stmt) → IsStmt [] x → ⊥
unfolding stmt_at assignment_at target_at on_front
stmt_some x d = let e = stmt_is [] [] x d refl in cc

plain_row : (h : Here) (b : Bool) (a r : List Terminal) (x : Stmt) → h.free ≡ true → h.bare && continues a ≡ false → IsStmt a x → ended r ≡ true
    → (step (place h b) (a ++ r) ≡ found (item.Stmt x) (item_place (place h b)) r) × (length r < length (a ++ r))
plain_row h b [] r x free bare d e = absurd (stmt_some x d)
plain_row h b (c ∷ a) r x free bare d e =
    let size = length-append a r in
    (step_stmt h b ((c ∷ a) ++ r) x r free (ap (λ w. h.bare && w) (continues_front c a r) ∙ bare) (stmt_is (c ∷ a) r x d e), omega arith)

if_row : (h : Here) (b : Bool) (a z q : List Terminal) (x : NumExpr) (y : Item) (q' : Place) → h.free ≡ true → longest_num z ≡ Some (x, q)
    → (r : List Terminal) → condition_step x q ≡ found y q' r → step (place h b) (t.Keyword word.If ∷ z) ≡ found y q' r
unfolding step item_step word_step on_front
if_row h b a z q x y q' free e r k =
    by_flag h.free _ free ∙ (ap (λ m. on_front m (λ x q. condition_step x q)) e ∙ k)

on_row : (h : Here) (b : Bool) (z q r : List Terminal) (x : NumExpr) (y : Item) (q' : Place) → h.free ≡ true → longest_num z ≡ Some (x, q)
    → jump_step x q ≡ found y q' r → step (place h b) (t.Keyword word.On ∷ z) ≡ found y q' r
unfolding step item_step word_step
on_row h b z q r x y q' free e k = by_flag h.free _ free ∙ (on_num (place h b) z q x e ∙ k)

case_row : (h : Here) (b : Bool) (z r : List Terminal) (x : Any) → h.free ≡ true → longest_any z ≡ Some (x, t.Keyword word.Of ∷ r) → all_colons r ≡ true
    → step (place h b) (t.Keyword word.Case ∷ z) ≡ found (item.Case x) (item_place (place h b)) []
unfolding step item_step word_step case_step on_front
case_row h b z r x free e k =
    by_flag h.free _ free ∙ (ap (λ m. on_front m (λ x q. case_step (place h b) x q)) e ∙ by_flag (all_colons r) _ k)

mutual
  unfolding items_from step item_step word_step jump_step s.open_step s.data_step s.remark_step on_step condition_step on_front

  pub items_are : (h : Here) (a : List Terminal) (xs : List Item) → IsItems h a xs → (b : Bool) (k : ℕ) (zs : List Item) → length a ≤ k
      → items_from k (place h b) zs a ≡ Some (zs ++ xs)
  items_are h a xs (g.no_items _) b k zs fuel = ap Some (sym (append-nil zs))
  items_are h a xs (g.colon _ r _ d) b zero zs fuel = absurd (omega arith)
  items_are h a xs (g.colon _ r _ d) b (suc k) zs fuel =
      items_next k (place h b) (place (after_colon h) false) zs None (t.Colon ∷ r) r refl ∙ items_are (after_colon h) r xs d false k zs (omega arith)
  items_are h a xs (g.plain _ a' r x ys free bare d e) b k zs fuel =
      let row = plain_row h b a' r x free bare d
      (unended (length r) (place (after_item h) false) [] r ([] ++ ys) refl (items_are (after_item h) r ys e false (length r) [] (omega arith))) in
      items_row k (place h b) (place (after_item h) false) zs ys (item.Stmt x) (a' ++ r) r fuel row.1 row.0
      (λ k' f. items_are (after_item h) r ys e false k' (zs ++ item.Stmt x ∷ []) f)
  items_are h a xs (g.if_bare _ a' r x ys free d e) b k zs fuel =
      let size = length-append a' r in
      let next = items_are after_condition r ys e false (suc (length r)) [] (omega arith) in
      items_row k (place h b) (place after_condition false) zs ys (item.If x) (t.Keyword word.If ∷ (a' ++ r)) r fuel (omega arith)
      (if_row h b a' (a' ++ r) r x (item.If x) condition_place free (num_is a' r x d (after_bare (length r) [] r ([] ++ ys) next)) r
      (bare_condition (length r) x [] r ([] ++ ys) next))
      (λ k' f. items_are after_condition r ys e false k' (zs ++ item.If x ∷ []) f)
  items_are h a xs (g.if_then _ a' r x ys free d some e) b k zs fuel =
      let size = length-append a' (t.Keyword word.Then ∷ r) in
      items_row k (place h b) branch_place zs ys (item.If x) (t.Keyword word.If ∷ (a' ++ t.Keyword word.Then ∷ r)) r fuel (omega arith)
      (if_row h b a' (a' ++ t.Keyword word.Then ∷ r) (t.Keyword word.Then ∷ r) x (item.If x) branch_place free
      (num_is a' (t.Keyword word.Then ∷ r) x d refl) r (then_condition x r some))
      (λ k' f. branch_are r ys e k' (zs ++ item.If x ∷ []) f)
  items_are h a xs (g.if_block _ a' x free d) b k zs fuel =
      let size = length-append a' (t.Keyword word.Then ∷ []) in
      items_row k (place h b) branch_place zs [] (item.BlockIf x) (t.Keyword word.If ∷ (a' ++ t.Keyword word.Then ∷ [])) [] fuel (omega arith)
      (if_row h b a' (a' ++ t.Keyword word.Then ∷ []) (t.Keyword word.Then ∷ []) x (item.BlockIf x) branch_place free
      (num_is a' (t.Keyword word.Then ∷ []) x d refl) [] refl)
      (λ k' f. ap Some (sym (append-nil (zs ++ item.BlockIf x ∷ []))))
  items_are h a xs (g.else _ r ys ruled e) b k zs fuel =
      items_row k (place h b) branch_place zs ys item.Else (t.Keyword word.Else ∷ r) r fuel (omega arith) (by_flag h.ruled _ ruled)
      (λ k' f. branch_are r ys e k' (zs ++ item.Else ∷ []) f)
  items_are h a xs (g.on_goto _ a' a'' r x ns ys free d l e) b k zs fuel =
      let size = length-append a' (t.Keyword word.Goto ∷ (a'' ++ r)) in let size1 = length-append a'' r in
      items_row k (place h b) (place after_on false) zs ys (item.On x jump.Goto ns) (t.Keyword word.On ∷ (a' ++ t.Keyword word.Goto ∷ (a'' ++ r))) r fuel
      (omega arith)
      (on_row h b (a' ++ t.Keyword word.Goto ∷ (a'' ++ r)) (t.Keyword word.Goto ∷ (a'' ++ r)) r x (item.On x jump.Goto ns) ruling_place free
      (num_is a' (t.Keyword word.Goto ∷ (a'' ++ r)) x d refl)
      (ap (λ m. on_front m (λ ns q. found (item.On x jump.Goto ns) ruling_place q)) (list_is ALine a'' r ns l
      (unended (length r) (place after_on false) [] r ([] ++ ys) refl (items_are after_on r ys e false (length r) [] (omega arith))))))
      (λ k' f. items_are after_on r ys e false k' (zs ++ item.On x jump.Goto ns ∷ []) f)
  items_are h a xs (g.on_gosub _ a' a'' r x ns ys free d l e) b k zs fuel =
      let size = length-append a' (t.Keyword word.Gosub ∷ (a'' ++ r)) in let size1 = length-append a'' r in
      items_row k (place h b) (place after_on false) zs ys (item.On x jump.Gosub ns) (t.Keyword word.On ∷ (a' ++ t.Keyword word.Gosub ∷ (a'' ++ r))) r fuel
      (omega arith)
      (on_row h b (a' ++ t.Keyword word.Gosub ∷ (a'' ++ r)) (t.Keyword word.Gosub ∷ (a'' ++ r)) r x (item.On x jump.Gosub ns) ruling_place free
      (num_is a' (t.Keyword word.Gosub ∷ (a'' ++ r)) x d refl)
      (ap (λ m. on_front m (λ ns q. found (item.On x jump.Gosub ns) ruling_place q)) (list_is ALine a'' r ns l
      (unended (length r) (place after_on false) [] r ([] ++ ys) refl (items_are after_on r ys e false (length r) [] (omega arith))))))
      (λ k' f. items_are after_on r ys e false k' (zs ++ item.On x jump.Gosub ns ∷ []) f)
  items_are h a xs (g.case _ a' r x free d all) b k zs fuel =
      let size = length-append a' (t.Keyword word.Of ∷ r) in
      items_row k (place h b) (item_place (place h b)) zs [] (item.Case x) (t.Keyword word.Case ∷ (a' ++ t.Keyword word.Of ∷ r)) [] fuel (omega arith)
      (case_row h b (a' ++ t.Keyword word.Of ∷ r) r x free (any_is a' (t.Keyword word.Of ∷ r) x d refl) (colons r all))
      (λ k' f. ap Some (sym (append-nil (zs ++ item.Case x ∷ []))))
  items_are h a xs (g.repeat _ r ys free e) b k zs fuel =
      items_row k (place h b) (place (after_word h) false) zs ys item.Repeat (t.Keyword word.Repeat ∷ r) r fuel (omega arith) (by_flag h.free _ free)
      (λ k' f. items_are (after_word h) r ys e false k' (zs ++ item.Repeat ∷ []) f)
  items_are h a xs (g.on_error _ r ys free e) b k zs fuel =
      items_row k (place h b) (place (after_word h) false) zs ys item.OnError (t.Keyword word.On ∷ t.Keyword word.Error ∷ r) r fuel (omega arith)
      (by_flag h.free _ free
      ∙ error_items (length r) (place h b) [] r ([] ++ ys) (items_are (after_word h) r ys e false (suc (length r)) [] (omega arith)))
      (λ k' f. items_are (after_word h) r ys e false k' (zs ++ item.OnError ∷ []) f)
  items_are h a xs (g.on_error_local _ r ys free e) b k zs fuel =
      items_row k (place h b) (place (after_word h) false) zs ys item.OnErrorLocal (t.Keyword word.On ∷ t.Keyword word.Error ∷ t.Keyword word.Local ∷ r) r
      fuel (omega arith)
      (by_flag h.free _ free
      ∙ error_local (length r) (place h b) [] r ([] ++ ys) (items_are (after_word h) r ys e false (suc (length r)) [] (omega arith)))
      (λ k' f. items_are (after_word h) r ys e false k' (zs ++ item.OnErrorLocal ∷ []) f)
  items_are h a xs (g.data_items _ n free) b k zs fuel =
      items_row k (place h b) (item_place (place h b)) zs [] (item.Data n) (t.Keyword word.Data ∷ t.Tail n ∷ []) [] fuel (lit< tt) (by_flag h.free _ free)
      (λ k' f. ap Some (sym (append-nil (zs ++ item.Data n ∷ []))))
  items_are h a xs (g.remark _ n free) b k zs fuel =
      items_row k (place h b) (item_place (place h b)) zs [] item.Remark (t.Keyword word.Rem ∷ t.Tail n ∷ []) [] fuel (lit< tt) (by_flag h.free _ free)
      (λ k' f. ap Some (sym (append-nil (zs ++ item.Remark ∷ []))))
  items_are h a xs (g.begin_assembly _ free) b k zs fuel =
      items_row k (place h b) (item_place (place h b)) zs [] item.BeginAssembly (t.OpenSquare ∷ []) [] fuel (lit< tt) (by_flag h.free _ free)
      (λ k' f. ap Some (sym (append-nil (zs ++ item.BeginAssembly ∷ []))))

  pub branch_are : (a : List Terminal) (xs : List Item) → IsBranch a xs → (k : ℕ) (zs : List Item) → length a ≤ k
      → items_from k branch_place zs a ≡ Some (zs ++ xs)
  branch_are a xs (g.branch_items _ _ e) k zs fuel = items_are after_then a xs e true k zs fuel
  branch_are a xs (g.branch_line n r ys e) k zs fuel =
      items_row k branch_place (place after_on false) zs ys (item.Stmt (stmt.Flow (flow.Goto n))) (t.LineRef n ∷ r) r fuel (omega arith) refl
      (λ k' f. items_are after_on r ys e false k' (zs ++ item.Stmt (stmt.Flow (flow.Goto n)) ∷ []) f)
