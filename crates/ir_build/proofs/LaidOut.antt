-- The tables of a program's flat code fit its operations.
use Rattle.std.proofs.Common.{◌≡◌, ◌≢◌, inl, inr, ℕ, zero, suc, ◌+◌, ◌<◌, ◌≤◌, List, [], ◌∷◌, ◌++◌, Option, None, Some, refl, sym, ap, subst, ◌∙◌, length, arith, zero-add, length-append}
use Rattle.std.specs.Prelude.{Bool, true, false, flat_map, slice_get, slice_index_or}
use Rattle.bas_ast.specs.declared.program.Prog.{Prog}
use Rattle.bas_ir.specs.declared.ir.Height.{Height}
use Rattle.bas_ir.specs.declared.op.Op.{Op}
use Rattle.bas_ir.specs.Heights.{Suffices, empty_height, height_after}
use Rattle.bas_ir.specs.Places.{start_of, item_from, is_marked}
use Rattle.bas_ir.specs.WellFormed.{Flows, IsReached, IsLaidOut}
use Rattle.bas_ir.specs.declared.op.Op.TheVariants as o
use Rattle.ir_build.proofs.Reaching.{total, Reaches, reaches}
use Rattle.bas_sem.specs.Places.{Row, rows}
use Rattle.ir_build.specs.Code.{joined, unmarked_all, marks_of, joined_marks, starts_from, start_at, heights_of, codes_from, codes, flat_code}
use Rattle.ir_build.proofs.Sufficiency.{Enough, row_suffices}
use Rattle.ir_build.proofs.Joined.{AreFull, IsItem, length_marks, start_item}
use Rattle.ir_build.proofs.Spots.{codes_full, start_of-is}

no_mark : false ≡ true → ⊥
no_mark is = subst IsFalsehood is tt
  where
    IsFalsehood : Bool → Type 0
    IsFalsehood true = ⊥
    IsFalsehood false = Unit {0}

all_heights : (h : Option Height) (c : List Op) → length (heights_of h c) ≡ length c
all_heights h [] = refl
all_heights None (op ∷ c) = ap suc (all_heights None c)
all_heights (Some h) (op ∷ c) = ap suc (all_heights (height_after [] op h) c)

pub marks_long : (cs : List (List Op)) → length (joined_marks cs) ≡ length (joined cs)
marks_long [] = refl
marks_long (c ∷ cs) = length-append (marks_of c) (joined_marks cs) ∙ (λ i. length_marks c i + marks_long cs i) ∙ sym (length-append c (joined cs))

pub heights_long : (cs : List (List Op)) → length (flat_map (heights_of (Some empty_height)) cs) ≡ length (joined cs)
heights_long [] = refl
heights_long (c ∷ cs) =
    length-append (heights_of (Some empty_height) c) (flat_map (heights_of (Some empty_height)) cs)
    ∙ (λ i. all_heights (Some empty_height) c i + heights_long cs i) ∙ sym (length-append c (joined cs))

-- the operations of every code find what they take
abbrev pub AllSuffice : List (List Op) → Type 0
AllSuffice [] = Unit {0}
AllSuffice (c ∷ cs) = Enough c empty_height × AllSuffice cs

-- what follows in the table of heights after an operation
abbrev pub heights_in : Option Height → List Op → List (List Op) → List Height
heights_in h c cs = heights_of h c ++ flat_map (heights_of (Some empty_height)) cs

-- one operation in the middle of joined code
pub record FlowsIn (ops : List Op) (marks : List Bool) (heights : List Height) (pc : ℕ) (op : Op) : Type 0 where
  pub finds : height_after [] op (slice_index_or heights pc empty_height) ≡ Some (slice_index_or heights (suc pc) empty_height)
  pub begins : slice_index_or marks pc false ≡ true → slice_index_or heights pc empty_height ≡ empty_height

pub is_empty_height : (h : Height) → (h.numbers ≡ 0) × (h.texts ≡ 0) → h ≡ empty_height
is_empty_height h none = λ i. record { numbers = none.0 i; texts = none.1 i }

-- the height after the operations of an item is that of the next item's first, or of the end
pub next_is_empty : (cs : List (List Op)) → AreFull cs → slice_index_or (flat_map (heights_of (Some empty_height)) cs) 0 empty_height ≡ empty_height
next_is_empty [] full = refl
next_is_empty ([] ∷ cs) full = absurd full
next_is_empty ((op ∷ c) ∷ cs) full = refl

-- the first height after an operation is what it leaves
pub first_height : (h : Option Height) (c : List Op) (cs : List (List Op)) → Suffices [] c h → AreFull cs → h ≡ Some (slice_index_or (heights_in h c cs) 0 empty_height)
first_height None c cs suffices full = absurd suffices
first_height (Some h) [] cs suffices full = ap Some (is_empty_height h suffices ∙ sym (next_is_empty cs full))
first_height (Some h) (op ∷ c) cs suffices full = refl

abbrev IsNot : {A : Type 0} → Option A → Type 0
IsNot None = Unit {0}
IsNot (Some x) = ⊥

abbrev or_else : {A : Type 0} → A → Option A → A
or_else d None = d
or_else d (Some x) = x

later : (ops : List Op) (marks : List Bool) (heights : List Height) (pc : ℕ) (op first : Op) (b : Bool) (h : Height) → FlowsIn ops marks heights pc op
    → FlowsIn (first ∷ ops) (b ∷ marks) (h ∷ heights) (suc pc) op
later ops marks heights pc op first b h flows = record { finds = flows.finds; begins = flows.begins }

flows_in : (h : Option Height) (c : List Op) (cs : List (List Op)) (pc : ℕ) (op : Op) → Suffices [] c h → AreFull cs → AllSuffice cs → slice_get (c ++ joined cs) pc ≡ Some op
    → FlowsIn (c ++ joined cs) (unmarked_all c ++ joined_marks cs) (heights_in h c cs) pc op
flows_in None c cs pc op suffices full all is = absurd suffices
flows_in (Some h) (x ∷ c) cs zero op suffices full all is =
    let same : x ≡ op = ap (or_else x) is in
    record {
      finds = ap (λ q. height_after [] q h) (sym same) ∙ first_height (height_after [] x h) c cs suffices full;
      begins = λ marked. absurd (no_mark marked);
    }
flows_in (Some h) (x ∷ c) cs (suc k) op suffices full all is = later _ _ _ k op x false h (flows_in (height_after [] x h) c cs k op suffices full all is)
flows_in (Some h) [] [] pc op suffices full all is = absurd (subst IsNot is tt)
flows_in (Some h) [] ([] ∷ cs) pc op suffices full all is = absurd full
flows_in (Some h) [] ((x ∷ c) ∷ cs) zero op suffices full all is =
    let same : x ≡ op = ap (or_else x) is in
    record {
      finds = ap (λ q. height_after [] q empty_height) (sym same) ∙ first_height (height_after [] x empty_height) c cs all.0 full;
      begins = λ marked. refl;
    }
flows_in (Some h) [] ((x ∷ c) ∷ cs) (suc k) op suffices full all is =
    later _ _ _ k op x true empty_height (flows_in (height_after [] x empty_height) c cs k op all.0 full all.1 is)

codes_from-suffices : (prog : Prog) (rs : List Row) (base : ℕ) → AllSuffice (codes_from prog base rs)
codes_from-suffices prog [] base = tt
codes_from-suffices prog (r ∷ rs) base = (row_suffices prog base r, codes_from-suffices prog rs (base + 1))

-- where an item starts, a mark stands, and the item is that one
pub start_marked : (cs : List (List Op)) (item : ℕ) → AreFull cs → item < length cs → slice_index_or (joined_marks cs) (start_at cs item) false ≡ true
start_marked [] item full few = absurd (omega (arith, few))
start_marked ([] ∷ cs) item full few = absurd full
start_marked ((op ∷ c) ∷ cs) zero full few = refl
start_marked ((op ∷ c) ∷ cs) (suc k) full few =
    let code : List Op = op ∷ c in
    ap (λ n. slice_index_or (marks_of code ++ joined_marks cs) (n + start_at cs k) false) (sym (length_marks code))
    ∙ after_front (marks_of code) (joined_marks cs) (start_at cs k)
    ∙ start_marked cs k full (omega (arith, few))
  where
    after_front : (xs ys : List Bool) (n : ℕ) → slice_index_or (xs ++ ys) (length xs + n) false ≡ slice_index_or ys n false
    after_front [] ys n = ap (λ m. slice_index_or ys m false) (zero-add n)
    after_front (x ∷ xs) ys n =
        let e : suc (length xs) + n ≡ suc (length xs + n) = omega arith in
        ap (λ m. slice_index_or (x ∷ (xs ++ ys)) m false) e ∙ after_front xs ys n

there_is : {A : Type 0} (xs : List A) (n : ℕ) → n < length xs → slice_get xs n ≢ None
there_is [] n few = absurd (omega (arith, few))
there_is (x ∷ xs) zero few = λ is. subst IsNot (sym is) tt
there_is (x ∷ xs) (suc n) few = there_is xs n (omega (arith, few))

pub starts_long : (cs : List (List Op)) (base : ℕ) → length (starts_from base cs) ≡ length cs
starts_long [] base = refl
starts_long (c ∷ cs) base = ap suc (starts_long cs (base + length c))

meant : (cs : List (List Op)) (item found : ℕ) → item < length cs → IsItem cs item found → found ≡ item
meant cs item found few (inl is) = is
meant cs item found few (inr none) = absurd (there_is cs item few none.0)

module _ (prog : Prog) where
  pub codes_suffices : AllSuffice (codes prog)
  unfolding codes
  codes_suffices = codes_from-suffices prog (rows prog) 0

  flows : (pc : ℕ) (op : Op) → slice_get (flat_code prog).ops pc ≡ Some op → Flows (flat_code prog) pc op
  unfolding is_marked
  flows pc op is =
      let inside : _ = flows_in (Some empty_height) [] (codes prog) pc op (refl, refl) (codes_full prog) codes_suffices is in
      record { finds = inside.finds; begins = inside.begins }

  starts : (item : ℕ) → item < length (flat_code prog).starts
      → (is_marked (flat_code prog) (start_of (flat_code prog) item) ≡ true) × (item_from (flat_code prog) (start_of (flat_code prog) item) ≡ item)
  unfolding is_marked item_from
  starts item few =
      let fewer : item < length (codes prog) = subst (λ n. item < n) (starts_long (codes prog) 0) few in (
        ap (λ pc. is_marked (flat_code prog) pc) (start_of-is prog item) ∙ start_marked (codes prog) item (codes_full prog) fewer,
        ap (λ pc. item_from (flat_code prog) pc) (start_of-is prog item) ∙ meant (codes prog) item _ fewer (start_item (codes prog) item (codes_full prog)),
      )

  codes_from-long : (rs : List Row) (base : ℕ) → length (codes_from prog base rs) ≡ length rs
  codes_from-long [] base = refl
  codes_from-long (r ∷ rs) base = ap suc (codes_from-long rs (base + 1))

  pub all_starts : length (flat_code prog).starts ≡ total prog
  unfolding codes
  all_starts = starts_long (codes prog) 0 ∙ codes_from-long (rows prog) 0

  reached_of : (op : Op) → Reaches prog op → IsReached (flat_code prog) op
  reached_of (o.Go item) up_to = subst (λ n. item ≤ n) (sym all_starts) up_to
  reached_of (o.GoIfZero item) up_to = subst (λ n. item ≤ n) (sym all_starts) up_to
  reached_of (o.GoUnless relation item) up_to = subst (λ n. item ≤ n) (sym all_starts) up_to
  reached_of (o.GoUnlessWith relation item number) up_to = subst (λ n. item ≤ n) (sym all_starts) up_to
  reached_of (o.GoIfOne item) up_to = subst (λ n. item ≤ n) (sym all_starts) up_to
  reached_of (o.GoIfEqual item) up_to = subst (λ n. item ≤ n) (sym all_starts) up_to
  reached_of (o.GosubIfOne line item) up_to = subst (λ n. item ≤ n) (sym all_starts) up_to
  reached_of (o.Gosub line item) up_to = subst (λ n. item ≤ n) (sym all_starts) up_to
  reached_of (o.HandleAll item) up_to = subst (λ n. item ≤ n) (sym all_starts) up_to
  reached_of (o.HandleHere item) up_to = subst (λ n. item ≤ n) (sym all_starts) up_to
  reached_of _ up_to = tt

  pub laid_out : IsLaidOut (flat_code prog)
  laid_out = record {
    marks = marks_long (codes prog);
    heights = heights_long (codes prog);
    starts = starts;
    flows = flows;
    reached = λ pc op is. reached_of op (reaches prog pc op is);
  }
