-- Where the places of a program's flat code are.
use Rattle.std.proofs.Common.{◌≡◌, ◌⊎◌, inl, inr, ℕ, zero, suc, ◌+◌, List, [], ◌∷◌, Option, None, Some, refl, sym, ap, subst, ◌∙◌, length, arith, add-zero, zero-add}
use Rattle.std.specs.Prelude.{true, false, slice_get, slice_index_or}
use Rattle.bas_ast.specs.declared.program.Prog.{Prog}
use Rattle.bas_ir.specs.declared.op.Op.{Op}
use Rattle.bas_ir.specs.Places.{start_of, item_from, is_marked, front}
use Rattle.bas_sem.specs.Places.{Row, rows, row_at}
use Rattle.ir_build.specs.Fused.{fused_with, fused}
use Rattle.ir_build.proofs.Fusing as f
use Rattle.ir_build.proofs.Fusing.{Fuses, fuses}
use Rattle.ir_build.specs.Code.{or_jump, item_code, row_ops, row_code, codes_from, codes, joined, starts_from, start_at, flat_code}
use Rattle.ir_build.proofs.Joined.{AreFull, SpotIn, spot_in, start_front, start_item, starts_looked_up, IsItem}
use Rattle.ir_build.proofs.Joined as joins

-- the code of a row that may be there
abbrev coded : Prog → ℕ → Option Row → Option (List Op)
coded prog place None = None
coded prog place (Some row) = Some (row_code prog place row)

codes_from-at : (prog : Prog) (rs : List Row) (base k : ℕ) → slice_get (codes_from prog base rs) k ≡ coded prog (base + k) (slice_get rs k)
codes_from-at prog [] base k = refl
codes_from-at prog (r ∷ rs) base zero = ap (λ n. Some (row_code prog n r)) (sym (add-zero base))
codes_from-at prog (r ∷ rs) base (suc k) =
    let e : base + 1 + k ≡ base + suc k = omega arith in
    codes_from-at prog rs (base + 1) k ∙ ap (λ n. coded prog n (slice_get rs k)) e

codes_at : (prog : Prog) (k : ℕ) → slice_get (codes prog) k ≡ coded prog k (row_at prog k)
unfolding codes
codes_at prog k = codes_from-at prog (rows prog) 0 k ∙ ap (λ n. coded prog n (row_at prog k)) (zero-add k)

jump_full : (next : ℕ) (code : List Op) (rest : List (List Op)) → AreFull rest → AreFull (or_jump next code ∷ rest)
jump_full next [] rest full = full
jump_full next (op ∷ ops) rest full = full

fuse_full : (old new : List Op) → Fuses old new → (rest : List (List Op)) → AreFull (old ∷ rest) → AreFull (new ∷ rest)
fuse_full old new (f.same ops) rest full = full
fuse_full old new (f.constant value op line ops) rest full = full
fuse_full old new (f.resident index op line ops) rest full = full
fuse_full old new (f.change index op line number ops) rest full = full
fuse_full old new (f.comparison relation line item ops) rest full = full
fuse_full old new (f.compared value relation item ops) rest full = full

fused_full : (code : List Op) (rest : List (List Op)) → AreFull (code ∷ rest) → AreFull (fused code ∷ rest)
fused_full [] rest full = full
fused_full (op ∷ ops) rest full = fuse_full (op ∷ fused ops) (fused_with op (fused ops)) (fuses op (fused ops)) rest full

codes_from-full : (prog : Prog) (rs : List Row) (base : ℕ) → AreFull (codes_from prog base rs)
codes_from-full prog [] base = tt
codes_from-full prog (r ∷ rs) base =
    fused_full (row_ops prog base r) _ (jump_full (base + 1) (item_code prog base r.line r.item) _ (codes_from-full prog rs (base + 1)))

pub codes_full : (prog : Prog) → AreFull (codes prog)
unfolding codes
codes_full prog = codes_from-full prog (rows prog) 0

abbrev IsCoded : Prog → ℕ → Option (List Op) → Option Row → Type 0
IsCoded prog k None o = o ≡ None
IsCoded prog k (Some code) o = (row : Row) × (o ≡ Some row) × (row_code prog k row ≡ code)

is_coded : (prog : Prog) (k : ℕ) (o : Option Row) → IsCoded prog k (coded prog k o) o
is_coded prog k None = refl
is_coded prog k (Some row) = (row, refl, refl)

row_coded : (prog : Prog) (k : ℕ) (code : Option (List Op)) → slice_get (codes prog) k ≡ code → IsCoded prog k code (row_at prog k)
row_coded prog k code is = subst (λ c. IsCoded prog k c (row_at prog k)) (sym (codes_at prog k) ∙ is) (is_coded prog k (row_at prog k))

module _ (prog : Prog) where
  -- Past all operations; inside an item, whose next operations are left; or at the mark of an item.
  pub data Spot (pc : ℕ) : Type 0 where
    Past : slice_get (flat_code prog).ops pc ≡ None → front (flat_code prog) pc ≡ [] → row_at prog (item_from (flat_code prog) pc) ≡ None → Spot pc
    Inside : (op : Op) → slice_get (flat_code prog).ops pc ≡ Some op → is_marked (flat_code prog) pc ≡ false
        → front (flat_code prog) pc ≡ op ∷ front (flat_code prog) (suc pc) → item_from (flat_code prog) (suc pc) ≡ item_from (flat_code prog) pc → Spot pc
    Begins : (op : Op) (row : Row) → slice_get (flat_code prog).ops pc ≡ Some op → is_marked (flat_code prog) pc ≡ true → front (flat_code prog) pc ≡ []
        → row_at prog (item_from (flat_code prog) pc) ≡ Some row
        → row_code prog (item_from (flat_code prog) pc) row ≡ op ∷ front (flat_code prog) (suc pc)
        → item_from (flat_code prog) (suc pc) ≡ suc (item_from (flat_code prog) pc) → Spot pc

  spot_of : (pc : ℕ) → SpotIn (codes prog) (flat_code prog).ops (flat_code prog).marks pc → Spot pc
  unfolding item_from is_marked front
  spot_of pc (joins.Past none left row) = Past none left (row_coded prog _ None row)
  spot_of pc (joins.Inside op is plain left same) = Inside op is plain left same
  spot_of pc (joins.Begins op is marked left row next) =
      let found : _ = row_coded prog _ (Some (op ∷ front (flat_code prog) (suc pc))) row in
      Begins op found.0 is marked left found.1 found.2 next

  pub spot : (pc : ℕ) → Spot pc
  spot pc = spot_of pc (spot_in [] (codes prog) pc (codes_full prog))

  pub start_of-is : (item : ℕ) → start_of (flat_code prog) item ≡ start_at (codes prog) item
  unfolding start_of
  start_of-is item =
      ap (slice_index_or (starts_from 0 (codes prog)) item) (sym (zero-add (length (joined (codes prog)))))
      ∙ starts_looked_up (codes prog) 0 item ∙ zero-add (start_at (codes prog) item)

  -- where an item starts no operation is left before its mark
  pub front_at_start : (item : ℕ) → front (flat_code prog) (start_of (flat_code prog) item) ≡ []
  unfolding front
  front_at_start item = ap (front (flat_code prog)) (start_of-is item) ∙ start_front (codes prog) item (codes_full prog)

  abbrev pub IsItemOf : ℕ → ℕ → Type 0
  IsItemOf item found = (found ≡ item) ⊎ ((row_at prog item ≡ None) × (row_at prog found ≡ None))

  is_item_of : (item found : ℕ) → IsItem (codes prog) item found → IsItemOf item found
  is_item_of item found (inl is) = inl is
  is_item_of item found (inr none) = inr (row_coded prog item None none.0, row_coded prog found None none.1)

  -- and the item there is the one that is meant, or neither is there
  pub item_at_start : (item : ℕ) → IsItemOf item (item_from (flat_code prog) (start_of (flat_code prog) item))
  unfolding item_from
  item_at_start item = subst (λ pc. IsItemOf item (item_from (flat_code prog) pc)) (sym (start_of-is item)) (is_item_of item _ (start_item (codes prog) item (codes_full prog)))
