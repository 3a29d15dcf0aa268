-- Where branches lead, and the words of pieces in a memory.
use Rattle.std.proofs.Common.{◌≡◌, ℕ, zero, suc, ◌+◌, ◌-◌, ◌*◌, ◌/◌, ◌%◌, ◌^◌, ◌<◌, ◌≤◌, ◌==◌, not, Bool, true, false, if◌then◌else◌, List, [], ◌∷◌, ◌++◌, length, refl, subst, ◌∙◌, arith, eqb-true, eq-eqb, length-append}
use Rattle.std.proofs.lemmas.Bool.{eqb-false, ne_eqb}
use Rattle.arm_isa.specs.Fields.{offset_field}
use Rattle.arm_isa.specs.Numbers.{AL}
use Rattle.arm_core.specs.Core.{Core, even_meets, meets}
use Rattle.arm_core.specs.Made.{target_of}
use Rattle.code_frag.specs.declared.item.Item.{Item}
use Rattle.code_frag.specs.Language.{Piece, Skip, Do, Seq, If, When, While, Repeat, Call, Leave, LeaveIf, LeaveTo, Halt, contrary, over, back_over, branch, size, items}
use Rattle.code_frag.specs.Runs.{Stands, StandsItem}

-- ---- targets

pub target-over : (pc n : ℕ) → pc + 4 + 4 * n < 2 ^ 26 → target_of pc (offset_field (over n)) ≡ pc + 4 + 4 * n
target-over pc zero small = omega (arith, small)
target-over pc (suc n) small = omega (arith, small)

pub target-back : (pc n : ℕ) → 4 * n ≤ pc → pc < 2 ^ 25 → target_of pc (offset_field (back_over n)) ≡ pc - 4 * n
target-back pc n enough small = omega (arith, enough, small)

-- ---- conditions

pub meets-contrary : (k : ℕ) (s : Core) → meets (contrary k) s ≡ not (meets k s)
meets-contrary k s = each (k % 2 == 0) refl
  where
    not_not : (b : Bool) → b ≡ not (not b)
    not_not true = refl
    not_not false = refl

    each : (b : Bool) → (k % 2 == 0) ≡ b → meets (if b then k + 1 else k - 1) s ≡ not (if b then even_meets k s else not (even_meets (k / 2 * 2) s))
    each true e =
        let even = eqb-true (k % 2) 0 e in
        let odd : ((k + 1) % 2 == 0) ≡ false = ne_eqb ((k + 1) % 2) 0 (λ f. omega (arith, f, even)) in
        let same : (k + 1) / 2 * 2 ≡ k = omega (arith, even) in
        (λ i. if odd i then even_meets (k + 1) s else not (even_meets (same i) s))
    each false e =
        let odd = eqb-false (k % 2) 0 e in
        let even : ((k - 1) % 2 == 0) ≡ true = eq-eqb ((k - 1) % 2) 0 (omega (arith, odd)) in
        let same : k - 1 ≡ k / 2 * 2 = omega (arith, odd) in
        (λ i. if even i then even_meets (same i) s else not (even_meets ((k - 1) / 2 * 2) s)) ∙ not_not (even_meets (k / 2 * 2) s)

-- ---- words of pieces

pub stands_first : (i : Item) (is : List Item) (code entry : ℕ → ℕ) (pc : ℕ) → Stands (i ∷ is) code entry pc → StandsItem code entry pc i
unfolding Stands
stands_first i is code entry pc h = h.0

pub stands_rest : (i : Item) (is : List Item) (code entry : ℕ → ℕ) (pc : ℕ) → Stands (i ∷ is) code entry pc → Stands is code entry (pc + 4)
unfolding Stands
stands_rest i is code entry pc h = h.1

pub stands_front : (is js : List Item) (code entry : ℕ → ℕ) (pc : ℕ) → Stands (is ++ js) code entry pc → Stands is code entry pc
unfolding Stands
stands_front [] js code entry pc h = tt
stands_front (i ∷ is) js code entry pc h = (h.0, stands_front is js code entry (pc + 4) h.1)

pub stands_after : (is js : List Item) (code entry : ℕ → ℕ) (pc : ℕ) → Stands (is ++ js) code entry pc → Stands js code entry (pc + 4 * length is)
unfolding Stands
stands_after [] js code entry pc h = subst (Stands js code entry) (let e : pc ≡ pc + 4 * 0 = omega arith in e) h
stands_after (i ∷ is) js code entry pc h =
    subst (Stands js code entry) (let e : pc + 4 + 4 * length is ≡ pc + 4 * length (i ∷ is) = omega arith in e) (stands_after is js code entry (pc + 4) h.1)

-- a piece has as many words as its size says
pub length-items : (piece : Piece) → length (items piece) ≡ size piece
length-items Skip = refl
length-items (Do i) = refl
length-items (Seq a b) = length-append (items a) (items b) ∙ (λ i. length-items a i + length-items b i)
length-items (If k a b) = omega (arith, length-append (items a) (branch AL (over (size b)) ∷ items b), length-items a, length-items b)
length-items (When k a) = omega (arith, length-items a)
length-items (While p k b) =
    let last = branch AL (back_over (size p + (1 + size b))) in
    omega (arith, length-append (items p) (branch (contrary k) (over (suc (size b))) ∷ (items b ++ (last ∷ []))), length-append (items b) (last ∷ []), length-items p, length-items b)
length-items (Repeat b k) = omega (arith, length-append (items b) (branch k (back_over (size b)) ∷ []), length-items b)
length-items (Call e) = refl
length-items (Leave e) = refl
length-items (LeaveIf k e) = refl
length-items (LeaveTo rm) = refl
length-items Halt = refl

-- what comes after a piece's words
pub stands_back : (a : Piece) (js : List Item) (code entry : ℕ → ℕ) (pc : ℕ) → Stands (items a ++ js) code entry pc → Stands js code entry (pc + 4 * size a)
stands_back a js code entry pc h = subst (λ n. Stands js code entry (pc + 4 * n)) (length-items a) (stands_after (items a) js code entry pc h)
