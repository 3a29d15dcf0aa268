-- The open entries in memory, and the nearest of them.
use Rattle.std.proofs.Common.{◌≡◌, ℕ, zero, suc, ◌<◌, ◌≤◌, ◌==◌, Bool, true, false, if◌then◌else◌, List, [], ◌∷◌, length, Option, None, Some, refl, sym, ap, subst, ◌∙◌, arith}
use Rattle.std.proofs.lemmas.Bool.Decides.{Decides-eqb}
use Rattle.std.proofs.lemmas.Bool.{le-leb}
use Rattle.bas_store.specs.Cells.{Cell, Resident, Integer, same_cell, residents}
use Rattle.bas_store.specs.Opened as store
use Rattle.bas_store.specs.Opened.{Closer, AnyNext, NextOf, Until, EndWhile, Return, closes, Found}
use Rattle.bas_store.specs.Stored.{Opening, For, Repeat, While, Gosub, Entry}
use Rattle.code_frag.specs.Regions.{residents_start}
use Rattle.runtime_lib.specs.Opened.{wants, nearest, depth_of, kind_of}
use Rattle.codegen.specs.StandsFor.{cell_word, opening_word, HasEntry, HasEntries, IsNamed, IsEntry, AreEntries}

-- ---- what a closing word looks for

-- as R1 says it
abbrev pub wanted : Closer → ℕ
wanted AnyNext = 0
wanted (NextOf cell) = cell_word cell
wanted Until = 1
wanted EndWhile = 2
wanted Return = 3

-- a cell that is one of the residents or of so many names
abbrev pub IsCellOf : ℕ → Cell → Type 0
IsCellOf names (Resident index) = index < residents
IsCellOf names (Integer name) = name < names

-- two tests that hold together are the same
same_test : (a b : Bool) → (a ≡ true → b ≡ true) → (b ≡ true → a ≡ true) → a ≡ b
same_test true true forth back = refl
same_test false false forth back = refl
same_test true false forth back = sym (forth refl)
same_test false true forth back = back refl

-- two numbers are the same where others are
pub eqb-by : (a b c d : ℕ) → (a ≡ b → c ≡ d) → (c ≡ d → a ≡ b) → (a == b) ≡ (c == d)
eqb-by a b c d forth back =
    same_test (a == b) (c == d) (λ e. (Decides-eqb c d).1 (forth ((Decides-eqb a b).0 e))) (λ e. (Decides-eqb a b).1 (back ((Decides-eqb c d).0 e)))

-- two numbers that are not the same
eqb-not : (a b : ℕ) → (a ≡ b → ⊥) → (a == b) ≡ false
eqb-not a b apart = by (a == b) refl
  where
    by : (t : Bool) → (a == b) ≡ t → (a == b) ≡ false
    by true e = absurd (apart ((Decides-eqb a b).0 e))
    by false e = e

cell-high : (cell : Cell) → residents_start ≤ cell_word cell
cell-high (Resident index) = omega arith
cell-high (Integer name) = omega arith

-- two cells have one word where they are the same
cells-same : (names : ℕ) (a b : Cell) → IsCellOf names a → IsCellOf names b → (cell_word b == cell_word a) ≡ same_cell a b
cells-same names (Resident i) (Resident j) low high = eqb-by (cell_word (Resident j)) (cell_word (Resident i)) i j (λ e. omega (arith, e)) (λ e. omega (arith, e))
cells-same names (Resident i) (Integer j) low high = eqb-not (cell_word (Integer j)) (cell_word (Resident i)) (λ e. omega (arith, e, low))
cells-same names (Integer i) (Resident j) low high = eqb-not (cell_word (Resident j)) (cell_word (Integer i)) (λ e. omega (arith, e, high))
cells-same names (Integer i) (Integer j) low high = eqb-by (cell_word (Integer j)) (cell_word (Integer i)) i j (λ e. omega (arith, e)) (λ e. omega (arith, e))

-- a word that isn't 0
wants-some : (x w : ℕ) → 1 ≤ x → wants x w ≡ (w == x)
wants-some zero w some = absurd (omega (arith, some))
wants-some (suc x) w some = refl

-- what a word closes is what it looks for
abbrev pub IsCloser : ℕ → Closer → Type 0
IsCloser names (NextOf cell) = IsCellOf names cell
IsCloser names _ = Unit {0}

pub closes-is : (names : ℕ) (closer : Closer) (o : Opening) → IsCloser names closer → IsNamed names o → wants (wanted closer) (opening_word o) ≡ closes closer o
closes-is names AnyNext (For cell limit step) fits named = le-leb residents_start (cell_word cell) (cell-high cell)
closes-is names AnyNext Repeat fits named = refl
closes-is names AnyNext While fits named = refl
closes-is names AnyNext Gosub fits named = refl
closes-is names (NextOf a) (For b limit step) fits named = wants-some (cell_word a) (cell_word b) (let h = cell-high a in omega (arith, h)) ∙ cells-same names a b fits (cell_fits b named)
  where
    cell_fits : (b : Cell) → IsNamed names (For b limit step) → IsCellOf names b
    cell_fits (Resident index) n = n
    cell_fits (Integer name) n = n
closes-is names (NextOf a) Repeat fits named = wants-some (cell_word a) 1 (let h = cell-high a in omega (arith, h)) ∙ eqb-not 1 (cell_word a) (λ e. let h = cell-high a in omega (arith, e, h))
closes-is names (NextOf a) While fits named = wants-some (cell_word a) 2 (let h = cell-high a in omega (arith, h)) ∙ eqb-not 2 (cell_word a) (λ e. let h = cell-high a in omega (arith, e, h))
closes-is names (NextOf a) Gosub fits named = wants-some (cell_word a) 3 (let h = cell-high a in omega (arith, h)) ∙ eqb-not 3 (cell_word a) (λ e. let h = cell-high a in omega (arith, e, h))
closes-is names Until (For cell limit step) fits named = eqb-not (cell_word cell) 1 (λ e. let h = cell-high cell in omega (arith, e, h))
closes-is names Until Repeat fits named = refl
closes-is names Until While fits named = refl
closes-is names Until Gosub fits named = refl
closes-is names EndWhile (For cell limit step) fits named = eqb-not (cell_word cell) 2 (λ e. let h = cell-high cell in omega (arith, e, h))
closes-is names EndWhile Repeat fits named = refl
closes-is names EndWhile While fits named = refl
closes-is names EndWhile Gosub fits named = refl
closes-is names Return (For cell limit step) fits named = eqb-not (cell_word cell) 3 (λ e. let h = cell-high cell in omega (arith, e, h))
closes-is names Return Repeat fits named = refl
closes-is names Return While fits named = refl
closes-is names Return Gosub fits named = refl

-- ---- the nearest

-- The entry that is found in memory is the one that is found in the state: the entry and those below it are in memory, and name what
-- they may.
pub record IsFound (branches names items : ℕ) (m : ℕ → ℕ) (closer : Closer) (es : List Entry) (f : Found) (k : ℕ) : Type 0 where
  pub index : k ≡ length f.below
  pub few : suc (length f.below) ≤ length es
  pub entry : HasEntry branches m (length f.below) f.entry
  pub below : HasEntries branches m f.below
  pub closed : closes closer f.entry.opening ≡ true
  pub fits : IsEntry names items f.entry
  pub others : AreEntries names items f.below

abbrev pub SameFound : (branches names items : ℕ) → (ℕ → ℕ) → Closer → List Entry → Option Found → Option ℕ → Type 0
SameFound branches names items m closer es None None = Unit {0}
SameFound branches names items m closer es (Some f) (Some k) = IsFound branches names items m closer es f k
SameFound branches names items m closer es None (Some k) = ⊥
SameFound branches names items m closer es (Some f) None = ⊥

module _ (branches names items : ℕ) (m : ℕ → ℕ) (depth : ℕ) (closer : Closer) (fits : IsCloser names closer) where
  more : (e : Entry) (es : List Entry) (found : Option Found) (k : Option ℕ) → SameFound branches names items m closer es found k → SameFound branches names items m closer (e ∷ es) found k
  more e es None None same = tt
  more e es (Some f) (Some k) same =
      record { index = same.index; few = (let few = same.few in omega (arith, few)); entry = same.entry; below = same.below; closed = same.closed; fits = same.fits; others = same.others }
  more e es None (Some k) same = same
  more e es (Some f) None same = same

  -- what the search comes to, by its tests
  abbrev Whole : Entry → List Entry → Bool → Bool → Bool → Bool → Type 0
  Whole e es a b c d =
      SameFound branches names items m closer (e ∷ es) (if a then (if c then Some (record { entry = e; below = es }) else store.nearest depth closer es) else None)
      (if b then (if d then Some (length es) else nearest m depth (wanted closer) (length es)) else None)

  module _ (e : Entry) (es : List Entry) (has : HasEntries branches m (e ∷ es)) (are : AreEntries names items (e ∷ es))
      (rest : SameFound branches names items m closer es (store.nearest depth closer es) (nearest m depth (wanted closer) (length es))) where
    here : (c : Bool) → closes closer e.opening ≡ c → Whole e es true true c c
    here true closed = record { index = refl; few = omega arith; entry = has.0; below = has.1; closed = closed; fits = are.0; others = are.1 }
    here false closed = more e es (store.nearest depth closer es) (nearest m depth (wanted closer) (length es)) rest

    kind_is : wants (wanted closer) (kind_of m (length es)) ≡ closes closer e.opening
    kind_is = ap (wants (wanted closer)) has.0.kind ∙ closes-is names closer e.opening fits are.0.named

    by_call : (a : Bool) → Whole e es a a (closes closer e.opening) (closes closer e.opening)
    by_call true = here (closes closer e.opening) refl
    by_call false = tt

    at_entry : SameFound branches names items m closer (e ∷ es) (store.nearest depth closer (e ∷ es)) (nearest m depth (wanted closer) (suc (length es)))
    at_entry =
        subst (λ d. Whole e es (e.call == depth) (depth_of m (length es) == depth) (closes closer e.opening) d) (sym kind_is)
        (subst (λ b. Whole e es (e.call == depth) b (closes closer e.opening) (closes closer e.opening)) (sym (ap (λ d. d == depth) has.0.call)) (by_call (e.call == depth)))

  pub find_nearest : (es : List Entry) → HasEntries branches m es → AreEntries names items es → SameFound branches names items m closer es (store.nearest depth closer es) (nearest m depth (wanted closer) (length es))
  find_nearest [] has are = tt
  find_nearest (e ∷ es) has are = at_entry e es has are (find_nearest es has.1 are.1)
