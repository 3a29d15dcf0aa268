-- The operations of a program's code are those of its items: a mark for each, the first item first, nothing pending after a jump.
use Rattle.std.proofs.Common.{◌≡◌, ℕ, zero, suc, ◌+◌, List, [], ◌∷◌, ◌++◌, Option, None, Some, refl, sym, subst, ◌∙◌, ap, length}
use Rattle.std.specs.Prelude.{slice_get, slice_index_or}
use Rattle.bas_ast.specs.declared.program.Prog.{Prog}
use Rattle.bas_ir.specs.declared.ir.Height.{Height}
use Rattle.bas_ir.specs.declared.op.Op.{Op}
use Rattle.bas_ir.specs.declared.op.Op.TheVariants as o
use Rattle.bas_ir.specs.Heights.{one_more, empty_height, height_after}
use Rattle.bas_ir.specs.Places.{marks_in}
use Rattle.bas_ir.specs.Coded.{LeavesNothing, IsInItems}
use Rattle.bas_sem.specs.Places.{Row, rows}
use Rattle.ir_build.specs.Code.{codes_from, codes, joined, joined_marks, start_at, flat_code}
use Rattle.ir_build.proofs.Joined.{AreFull, plain_marks}
use Rattle.ir_build.proofs.Spots.{codes_full, start_of-is}
use Rattle.ir_build.proofs.LaidOut.{heights_in, first_height, starts_long}
use Rattle.ir_build.proofs.Sufficiency.{LeavesAt, Balances, balance_suffices, row_balances}

-- the code of every item
abbrev AllBalance : List (List Op) → Type 0
AllBalance [] = Unit {0}
AllBalance (c ∷ cs) = Balances c (Some empty_height) × AllBalance cs

codes_from_balance : (prog : Prog) (rs : List Row) (base : ℕ) → AllBalance (codes_from prog base rs)
codes_from_balance prog [] base = tt
codes_from_balance prog (r ∷ rs) base = (row_balances prog base r, codes_from_balance prog rs (base + 1))

-- ---- nothing is pending after a jump

-- the same, by a table of heights
abbrev LeavesIn : List Height → ℕ → Op → Type 0
LeavesIn heights pc (o.Go item) = slice_index_or heights pc empty_height ≡ empty_height
LeavesIn heights pc (o.GoIfZero item) = slice_index_or heights (suc pc) empty_height ≡ empty_height
LeavesIn heights pc (o.GoUnless relation item) = slice_index_or heights (suc pc) empty_height ≡ empty_height
LeavesIn heights pc (o.GoUnlessWith relation item number) = slice_index_or heights (suc pc) empty_height ≡ empty_height
LeavesIn heights pc (o.GoIfOne item) = slice_index_or heights (suc pc) empty_height ≡ one_more empty_height
LeavesIn heights pc (o.GosubIfOne line item) = slice_index_or heights (suc pc) empty_height ≡ one_more empty_height
LeavesIn heights pc (o.GoIfEqual item) = slice_index_or heights (suc pc) empty_height ≡ one_more empty_height
LeavesIn heights pc (o.Gosub line item) = slice_index_or heights pc empty_height ≡ empty_height
LeavesIn heights pc (o.Next counter line) = slice_index_or heights pc empty_height ≡ empty_height
LeavesIn heights pc (o.NextAny line) = slice_index_or heights pc empty_height ≡ empty_height
LeavesIn heights pc (o.Until line) = slice_index_or heights (suc pc) empty_height ≡ empty_height
LeavesIn heights pc (o.EndWhile line) = slice_index_or heights pc empty_height ≡ empty_height
LeavesIn heights pc (o.Return line) = slice_index_or heights pc empty_height ≡ empty_height
LeavesIn heights pc _ = Unit {0}

later : (h : Height) (heights : List Height) (pc : ℕ) (op : Op) → LeavesIn heights pc op → LeavesIn (h ∷ heights) (suc pc) op
later h heights pc (o.Go item) leaves = leaves
later h heights pc (o.GoIfZero item) leaves = leaves
later h heights pc (o.GoUnless relation item) leaves = leaves
later h heights pc (o.GoUnlessWith relation item number) leaves = leaves
later h heights pc (o.GoIfOne item) leaves = leaves
later h heights pc (o.GosubIfOne line item) leaves = leaves
later h heights pc (o.GoIfEqual item) leaves = leaves
later h heights pc (o.Gosub line item) leaves = leaves
later h heights pc (o.Next counter line) leaves = leaves
later h heights pc (o.NextAny line) leaves = leaves
later h heights pc (o.Until line) leaves = leaves
later h heights pc (o.EndWhile line) leaves = leaves
later h heights pc (o.Return line) leaves = leaves
later h heights pc _ leaves = tt

abbrev height_or : Option Height → Height
height_or None = empty_height
height_or (Some h) = h

-- what is known after an operation is what the table has next
next_height : (op : Op) (c : List Op) (cs : List (List Op)) (h after : Height) → Balances c (height_after [] op h) → AreFull cs → height_after [] op h ≡ Some after
    → slice_index_or (heights_in (height_after [] op h) c cs) 0 empty_height ≡ after
next_height op c cs h after balances full is =
    ap height_or (sym (first_height (height_after [] op h) c cs (balance_suffices c (height_after [] op h) balances) full) ∙ is)

-- the first operation of those that are left of an item
first_leaves : (op : Op) (c : List Op) (cs : List (List Op)) (h : Height) → LeavesAt op h → Balances c (height_after [] op h) → AreFull cs
    → LeavesIn (h ∷ heights_in (height_after [] op h) c cs) 0 op
first_leaves (o.Go item) c cs h leaves balances full = leaves
first_leaves (o.GoIfZero item) c cs h leaves balances full = next_height (o.GoIfZero item) c cs h empty_height balances full leaves
first_leaves (o.GoUnless relation item) c cs h leaves balances full = next_height (o.GoUnless relation item) c cs h empty_height balances full leaves
first_leaves (o.GoUnlessWith relation item number) c cs h leaves balances full =
    next_height (o.GoUnlessWith relation item number) c cs h empty_height balances full leaves
first_leaves (o.GoIfOne item) c cs h leaves balances full = next_height (o.GoIfOne item) c cs h (one_more empty_height) balances full leaves
first_leaves (o.GosubIfOne line item) c cs h leaves balances full = next_height (o.GosubIfOne line item) c cs h (one_more empty_height) balances full leaves
first_leaves (o.GoIfEqual item) c cs h leaves balances full = next_height (o.GoIfEqual item) c cs h (one_more empty_height) balances full leaves
first_leaves (o.Gosub line item) c cs h leaves balances full = leaves
first_leaves (o.Next counter line) c cs h leaves balances full = leaves
first_leaves (o.NextAny line) c cs h leaves balances full = leaves
first_leaves (o.Until line) c cs h leaves balances full = next_height (o.Until line) c cs h empty_height balances full leaves
first_leaves (o.EndWhile line) c cs h leaves balances full = leaves
first_leaves (o.Return line) c cs h leaves balances full = leaves
first_leaves _ c cs h leaves balances full = tt

abbrev IsNot : {A : Type 0} → Option A → Type 0
IsNot None = Unit {0}
IsNot (Some x) = ⊥

abbrev some_or : Op → Option Op → Op
some_or d None = d
some_or d (Some op) = op

leaves_in : (h : Option Height) (c : List Op) (cs : List (List Op)) (pc : ℕ) (op : Op) → Balances c h → AreFull cs → AllBalance cs
    → slice_get (c ++ joined cs) pc ≡ Some op → LeavesIn (heights_in h c cs) pc op
leaves_in None c cs pc op balances full all is = absurd balances
leaves_in (Some h) [] [] pc op balances full all is = absurd (subst IsNot is tt)
leaves_in (Some h) [] ([] ∷ cs) pc op balances full all is = absurd full
leaves_in (Some h) [] ((x ∷ c) ∷ cs) pc op balances full all is = leaves_in (Some empty_height) (x ∷ c) cs pc op all.0 full all.1 is
leaves_in (Some h) (x ∷ c) cs zero op balances full all is =
    subst (LeavesIn (heights_in (Some h) (x ∷ c) cs) 0) (ap (some_or x) is) (first_leaves x c cs h balances.0 balances.1 full)
leaves_in (Some h) (x ∷ c) cs (suc k) op balances full all is =
    later h (heights_in (height_after [] x h) c cs) k op (leaves_in (height_after [] x h) c cs k op balances.1 full all is)

-- ---- a mark for each item, and the first item first

all_marked : (cs : List (List Op)) → AreFull cs → marks_in (joined_marks cs) ≡ length cs
all_marked [] full = refl
all_marked ([] ∷ cs) full = absurd full
all_marked ((op ∷ c) ∷ cs) full = ap suc (plain_marks c (joined_marks cs) ∙ all_marked cs full)

starts_first : (cs : List (List Op)) → start_at cs 0 ≡ 0
starts_first [] = refl
starts_first (c ∷ cs) = refl

module _ (prog : Prog) where
  codes_balance : AllBalance (codes prog)
  unfolding codes
  codes_balance = codes_from_balance prog (rows prog) 0

  leaves : (pc : ℕ) (op : Op) → LeavesIn (flat_code prog).heights pc op → LeavesNothing (flat_code prog) pc op
  leaves pc (o.Go item) is = is
  leaves pc (o.GoIfZero item) is = is
  leaves pc (o.GoUnless relation item) is = is
  leaves pc (o.GoUnlessWith relation item number) is = is
  leaves pc (o.GoIfOne item) is = is
  leaves pc (o.GosubIfOne line item) is = is
  leaves pc (o.GoIfEqual item) is = is
  leaves pc (o.Gosub line item) is = is
  leaves pc (o.Next counter line) is = is
  leaves pc (o.NextAny line) is = is
  leaves pc (o.Until line) is = is
  leaves pc (o.EndWhile line) is = is
  leaves pc (o.Return line) is = is
  leaves pc _ is = tt

  pub in_items : IsInItems (flat_code prog)
  in_items = record {
    marked = all_marked (codes prog) (codes_full prog) ∙ sym (starts_long (codes prog) 0);
    first = start_of-is prog 0 ∙ starts_first (codes prog);
    jumps = λ pc op is. leaves pc op (leaves_in (Some empty_height) [] (codes prog) pc op (refl, refl) (codes_full prog) codes_balance is);
  }
