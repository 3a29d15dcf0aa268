-- The items DATA of a line, and the tails of DATA among its terminals.
use Rattle.std.proofs.Common.{◌≡◌, ℕ, Bool, false, List, [], ◌∷◌, ◌++◌, All, if◌then◌else◌, refl, ap, ◌∙◌}
use Rattle.std.proofs.lemmas.List.Elements.{All-head, All-tail}
use Rattle.bas_ast.specs.declared.lines.Formal.{Formal}
use Rattle.bas_ast.specs.declared.lines.Head.{Head}
use Rattle.bas_ast.specs.declared.lines.Item.{Item}
use Rattle.bas_ast.specs.declared.lines.Item.TheVariants as item
use Rattle.bas_ast.specs.declared.keywords.Keyword.TheVariants as word
use Rattle.bas_ast.specs.declared.terminals.Terminal.{Terminal}
use Rattle.bas_ast.specs.declared.terminals.Terminal.TheVariants as t
use Rattle.bas_ast.specs.Lines as g
use Rattle.bas_ast.specs.Lines.{Here, IsItems, IsBranch, IsRoutine, IsRoutineOpen, IsRun}
use Rattle.bas_ast.specs.Operands.{ALine, AnExpression}
use Rattle.profile_check.specs.Tables.{is_data}
use Rattle.profile_check.proofs.Dataless.{Dataless, number_dataless, value_dataless, formals_dataless, list_dataless, stmt_dataless}

-- the number of a terminal that is a tail, where DATA stands directly before it
abbrev pub tail_of : Bool → Terminal → List ℕ
tail_of in_data (t.Tail n) = if in_data then n ∷ [] else []
tail_of in_data _ = []

-- The numbers of the tails of DATA among terminals. It says whether DATA stands directly before.
abbrev pub data_tails : Bool → List Terminal → List ℕ
data_tails in_data [] = []
data_tails in_data (c ∷ a) = tail_of in_data c ++ data_tails (is_data c) a

-- the number of an item DATA
abbrev pub number_of_data : Item → List ℕ
number_of_data (item.Data n) = n ∷ []
number_of_data _ = []

-- the numbers of the items DATA among items
abbrev pub data_numbers : List Item → List ℕ
data_numbers [] = []
data_numbers (x ∷ xs) = number_of_data x ++ data_numbers xs

no_tail : (c : Terminal) → tail_of false c ≡ []
no_tail (t.Tail n) = refl
no_tail _ = refl

-- terminals without DATA make no difference
skipped : (a r : List Terminal) → Dataless a → data_tails false (a ++ r) ≡ data_tails false r
skipped [] r less = refl
skipped (c ∷ a) r less =
    ap (λ (l : List ℕ). l ++ data_tails (is_data c) (a ++ r)) (no_tail c) ∙ ap (λ (d : Bool). data_tails d (a ++ r)) less.0 ∙ skipped a r less.1

colons_tails : (r : List Terminal) → All (λ c. c ≡ t.Colon) r → data_tails false r ≡ []
colons_tails [] all = refl
colons_tails (c ∷ r) all =
    ap (λ (b : Terminal). data_tails false (b ∷ r)) (All-head (λ b. b ≡ t.Colon) c r all) ∙ colons_tails r (All-tail (λ b. b ≡ t.Colon) c r all)

mutual
  items_data : (h : Here) (r : List Terminal) (xs : List Item) → IsItems h r xs → data_tails false r ≡ data_numbers xs
  items_data h r xs (g.no_items _) = refl
  items_data h r xs (g.colon _ r' _ d) = items_data _ r' xs d
  items_data h r xs (g.plain _ a r' x ys k k' d d') = skipped a r' (stmt_dataless a x d) ∙ items_data _ r' ys d'
  items_data h r xs (g.if_bare _ a r' x ys k d d') = skipped a r' (number_dataless 1 a x d) ∙ items_data _ r' ys d'
  items_data h r xs (g.if_then _ a r' x ys k d some b) = skipped a (t.Keyword word.Then ∷ r') (number_dataless 1 a x d) ∙ branch_data r' ys b
  items_data h r xs (g.if_block _ a x k d) = skipped a (t.Keyword word.Then ∷ []) (number_dataless 1 a x d)
  items_data h r xs (g.else _ r' ys k b) = branch_data r' ys b
  items_data h r xs (g.on_goto _ a b r' x ns ys k d l d') =
      skipped a (t.Keyword word.Goto ∷ (b ++ r')) (number_dataless 1 a x d) ∙ skipped b r' (list_dataless ALine b ns l) ∙ items_data _ r' ys d'
  items_data h r xs (g.on_gosub _ a b r' x ns ys k d l d') =
      skipped a (t.Keyword word.Gosub ∷ (b ++ r')) (number_dataless 1 a x d) ∙ skipped b r' (list_dataless ALine b ns l) ∙ items_data _ r' ys d'
  items_data h r xs (g.case _ a r' x k d all) = skipped a (t.Keyword word.Of ∷ r') (value_dataless a x d) ∙ colons_tails r' all
  items_data h r xs (g.repeat _ r' ys k d) = items_data _ r' ys d
  items_data h r xs (g.on_error _ r' ys k d) = items_data _ r' ys d
  items_data h r xs (g.on_error_local _ r' ys k d) = items_data _ r' ys d
  items_data h r xs (g.data_items _ n k) = refl
  items_data h r xs (g.remark _ n k) = refl
  items_data h r xs (g.begin_assembly _ k) = refl

  branch_data : (r : List Terminal) (xs : List Item) → IsBranch r xs → data_tails false r ≡ data_numbers xs
  branch_data r xs (g.branch_items _ _ d) = items_data _ r xs d
  branch_data r xs (g.branch_line n r' ys d) = items_data _ r' ys d

routine_tails : (c : Terminal) (f : List Formal → Head) (r : List Terminal) → IsRoutine c f → data_tails false (c ∷ r) ≡ data_tails false r
routine_tails c f r (g.def_procedure n) = refl
routine_tails c f r (g.def_number n) = refl
routine_tails c f r (g.def_text n) = refl

routine_open_tails : (c : Terminal) (f : List Formal → Head) (r : List Terminal) → IsRoutineOpen c f → data_tails false (c ∷ r) ≡ data_tails false r
routine_open_tails c f r (g.def_procedure_open n) = refl
routine_open_tails c f r (g.def_number_open n) = refl
routine_open_tails c f r (g.def_text_open n) = refl

-- the items DATA of a line have the numbers of its tails of DATA
pub run_data : (a : List Terminal) (xs : List Item) → IsRun a xs → data_tails false a ≡ data_numbers xs
run_data a xs (g.items _ _ d) = items_data _ a xs d
run_data a xs (g.def c f r ys is d) = routine_tails c f r is ∙ items_data _ r ys d
run_data a xs (g.def_open c f a' r fs ys is d d') = routine_open_tails c f (a' ++ r) is ∙ skipped a' r (formals_dataless a' fs d) ∙ items_data _ r ys d'
run_data a xs (g.when a' r vs ys d d') = skipped a' r (list_dataless AnExpression a' vs d) ∙ items_data _ r ys d'
run_data a xs (g.otherwise r ys d) = items_data _ r ys d
run_data a xs (g.block_else r ys d) = items_data _ r ys d
run_data a xs (g.end_if r ys d) = items_data _ r ys d
run_data a xs (g.end_case r ys d) = items_data _ r ys d
run_data a xs (g.end_assembly r ys d) = items_data _ r ys d
