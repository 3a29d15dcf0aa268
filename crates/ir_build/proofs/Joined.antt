-- Where the places of joined code are: which operations follow up to the next mark, and how many marks there are before.
use Rattle.std.proofs.Common.{◌≡◌, ◌⊎◌, ℕ, zero, suc, ◌+◌, List, [], ◌∷◌, ◌++◌, None, Some, refl, sym, ap, ◌∙◌, length, take, drop, arith, add-zero, length-append, inl, inr}
use Rattle.std.specs.Prelude.{Bool, true, false, slice_get, slice_index_or}
use Rattle.std.proofs.Math.Seq.{drop-append-add, take-append-add}
use Rattle.bas_ir.specs.declared.op.Op.{Op}
use Rattle.bas_ir.specs.Places.{marks_in, unmarked}
use Rattle.ir_build.specs.Code.{joined, unmarked_all, marks_of, joined_marks, starts_from, start_at}

-- every code has an operation
abbrev pub AreFull : List (List Op) → Type 0
AreFull [] = Unit {0}
AreFull ([] ∷ rest) = ⊥
AreFull ((op ∷ ops) ∷ rest) = AreFull rest

-- Past all operations; inside a code, whose next operations are left; or at the mark that begins one.
pub data SpotIn (codes : List (List Op)) (ops : List Op) (marks : List Bool) (pc : ℕ) : Type 0 where
  Past : slice_get ops pc ≡ None → unmarked (drop pc ops) (drop pc marks) ≡ [] → slice_get codes (marks_in (take pc marks)) ≡ None → SpotIn codes ops marks pc
  Inside : (op : Op) → slice_get ops pc ≡ Some op → slice_index_or marks pc false ≡ false
      → unmarked (drop pc ops) (drop pc marks) ≡ op ∷ unmarked (drop (suc pc) ops) (drop (suc pc) marks)
      → marks_in (take (suc pc) marks) ≡ marks_in (take pc marks) → SpotIn codes ops marks pc
  Begins : (op : Op) → slice_get ops pc ≡ Some op → slice_index_or marks pc false ≡ true → unmarked (drop pc ops) (drop pc marks) ≡ []
      → slice_get codes (marks_in (take pc marks)) ≡ Some (op ∷ unmarked (drop (suc pc) ops) (drop (suc pc) marks))
      → marks_in (take (suc pc) marks) ≡ suc (marks_in (take pc marks)) → SpotIn codes ops marks pc

-- the operations after a mark are those of its code
unmarked_front : (c : List Op) (cs : List (List Op)) → AreFull cs → unmarked (c ++ joined cs) (unmarked_all c ++ joined_marks cs) ≡ c
unmarked_front (op ∷ c) cs full = ap (λ l. op ∷ l) (unmarked_front c cs full)
unmarked_front [] [] full = refl
unmarked_front [] ((op ∷ ops) ∷ cs) full = refl
unmarked_front [] ([] ∷ cs) full = absurd full

after_mark : (code : List Op) (codes : List (List Op)) (ops : List Op) (marks : List Bool) (k : ℕ) (op : Op) → SpotIn codes ops marks k → SpotIn (code ∷ codes) (op ∷ ops) (true ∷ marks) (suc k)
after_mark code codes ops marks k op (Past none front row) = Past none front row
after_mark code codes ops marks k op (Inside x is plain front same) = Inside x is plain front (ap suc same)
after_mark code codes ops marks k op (Begins x is marked front row next) = Begins x is marked front row (ap suc next)

after_plain : (codes : List (List Op)) (ops : List Op) (marks : List Bool) (k : ℕ) (op : Op) → SpotIn codes ops marks k → SpotIn codes (op ∷ ops) (false ∷ marks) (suc k)
after_plain codes ops marks k op (Past none front row) = Past none front row
after_plain codes ops marks k op (Inside x is plain front same) = Inside x is plain front same
after_plain codes ops marks k op (Begins x is marked front row next) = Begins x is marked front row next

pub spot_in : (c : List Op) (codes : List (List Op)) (pc : ℕ) → AreFull codes → SpotIn codes (c ++ joined codes) (unmarked_all c ++ joined_marks codes) pc
spot_in (op ∷ c) codes zero full = Inside op refl refl refl refl
spot_in (op ∷ c) codes (suc k) full = after_plain codes _ _ k op (spot_in c codes k full)
spot_in [] ((op ∷ c) ∷ codes) zero full = Begins op refl refl refl (ap (λ l. Some (op ∷ l)) (sym (unmarked_front c codes full))) refl
spot_in [] ((op ∷ c) ∷ codes) (suc k) full = after_mark (op ∷ c) codes _ _ k op (spot_in c codes k full)
spot_in [] ([] ∷ codes) pc full = absurd full
spot_in [] [] zero full = Past refl refl refl
spot_in [] [] (suc k) full = Past refl refl refl

-- a code has as many marks' places as operations, and one mark
pub length_marks : (c : List Op) → length (marks_of c) ≡ length c
length_marks [] = refl
length_marks (op ∷ ops) = ap suc (all_marks ops)
  where
    all_marks : (ops : List Op) → length (unmarked_all ops) ≡ length ops
    all_marks [] = refl
    all_marks (op ∷ ops) = ap suc (all_marks ops)

pub plain_marks : (c : List Op) (marks : List Bool) → marks_in (unmarked_all c ++ marks) ≡ marks_in marks
plain_marks [] marks = refl
plain_marks (op ∷ c) marks = plain_marks c marks

-- where an item starts no operation is left before the mark
pub start_front : (codes : List (List Op)) (item : ℕ) → AreFull codes
    → unmarked (drop (start_at codes item) (joined codes)) (drop (start_at codes item) (joined_marks codes)) ≡ []
start_front [] item full = refl
start_front ([] ∷ codes) item full = absurd full
start_front ((op ∷ c) ∷ codes) zero full = refl
start_front ((op ∷ c) ∷ codes) (suc k) full =
    let code : List Op = op ∷ c in
    let ops : drop (length code + start_at codes k) (code ++ joined codes) ≡ drop (start_at codes k) (joined codes) = drop-append-add code (joined codes) (start_at codes k) in
    let marks : drop (length code + start_at codes k) (marks_of code ++ joined_marks codes) ≡ drop (start_at codes k) (joined_marks codes) =
    ap (λ n. drop (n + start_at codes k) (marks_of code ++ joined_marks codes)) (sym (length_marks code))
    ∙ drop-append-add (marks_of code) (joined_marks codes) (start_at codes k) in
    ap (λ l. unmarked l (drop (length code + start_at codes k) (marks_of code ++ joined_marks codes))) ops
    ∙ ap (unmarked (drop (start_at codes k) (joined codes))) marks
    ∙ start_front codes k full

-- and the item is the one that is meant, or neither is there
abbrev pub IsItem : List (List Op) → ℕ → ℕ → Type 0
IsItem codes item found = (found ≡ item) ⊎ ((slice_get codes item ≡ None) × (slice_get codes found ≡ None))

next_is : (code : List Op) (codes : List (List Op)) (item found found' : ℕ) → found' ≡ suc found → IsItem codes item found → IsItem (code ∷ codes) (suc item) found'
next_is code codes item found found' e (inl is) = inl (e ∙ ap suc is)
next_is code codes item found found' e (inr none) = inr (none.0, ap (slice_get (code ∷ codes)) e ∙ none.1)

pub start_item : (codes : List (List Op)) (item : ℕ) → AreFull codes → IsItem codes item (marks_in (take (start_at codes item) (joined_marks codes)))
start_item [] item full = inr (refl, refl)
start_item ([] ∷ codes) item full = absurd full
start_item ((op ∷ c) ∷ codes) zero full = inl refl
start_item ((op ∷ c) ∷ codes) (suc k) full =
    let code : List Op = op ∷ c in
    next_is code codes k _ _
    (ap (λ n. marks_in (take (n + start_at codes k) (marks_of code ++ joined_marks codes))) (sym (length_marks code))
    ∙ ap marks_in (take-append-add (marks_of code) (joined_marks codes) (start_at codes k))
    ∙ ap suc (plain_marks c (take (start_at codes k) (joined_marks codes))))
    (start_item codes k full)

-- the table of starts
pub starts_looked_up : (codes : List (List Op)) (base item : ℕ) → slice_index_or (starts_from base codes) item (base + length (joined codes)) ≡ base + start_at codes item
starts_looked_up [] base item = refl
starts_looked_up (c ∷ codes) base zero = sym (add-zero base)
starts_looked_up (c ∷ codes) base (suc k) =
    let long : base + length (c ++ joined codes) ≡ base + length c + length (joined codes) = grind (arith, length-append) in
    let far : base + length c + start_at codes k ≡ base + (length c + start_at codes k) = omega arith in
    ap (slice_index_or (starts_from (base + length c) codes) k) long ∙ starts_looked_up codes (base + length c) k ∙ far
