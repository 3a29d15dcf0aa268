-- That the ends of structures, counted from the end of a program, say which structures have their end.
use Rattle.std.proofs.Common.{◌≡◌, ℕ, suc, ◌+◌, ◌-◌, ◌<◌, Bool, true, false, ◌&&◌, ◌||◌, ◌==◌, nat_lt, List, [], ◌∷◌, ◌++◌, Option, Some, length, drop, get_or, if◌then◌else◌, refl, sym, ap, ◌∙◌, arith}
use Rattle.std.proofs.lemmas.List.{at_drop_more}
use Rattle.std.proofs.lemmas.Bool.Decides.{nat_tests}
use Rattle.bas_ast.specs.declared.lines.Item.{Item}
use Rattle.bas_ast.specs.Structures.{Bound, OpensWhile, ClosesWhile, OpensIf, DividesIf, ClosesIf, OpensCase, DividesCase, ClosesCase, NoBound, bound, while_family, if_family, case_family, ends_at, ends_if, has_end}
use Rattle.bas_ast.specs.declared.program.ProgLine.{ProgLine}
use Rattle.bas_rules.specs.Structures.{closed_in, items_of, first_unclosed}
use Rattle.bas_rules.specs.Ends.{no_ends, ends_before, has_end_by, ends_from, closed_from}
use Rattle.bas_rules.specs.declared.structures.Ends.{Ends}

one_less : (d n : ℕ) → nat_lt (suc d) n ≡ nat_lt d (n - 1)
one_less d n = grind (arith, nat_tests)

one_more : (d n : ℕ) → (d == 0) ≡ false → nat_lt (d - 1) n ≡ nat_lt d (n + 1)
one_more d n e = grind (arith, nat_tests)

one_at_least : (d n : ℕ) → (d == 0) ≡ true → true ≡ nat_lt d (n + 1)
one_at_least d n e = grind (arith, nat_tests)

-- one item more, where the ends after it are n
end_step : (opens closes is_zero : Bool) (d n : ℕ) (f : ℕ → Bool) → (opens && closes) ≡ false → (d == 0) ≡ is_zero → ((k : ℕ) → f k ≡ nat_lt k n)
    → (if is_zero && closes then true else if opens then f (suc d) else if closes then f (d - 1) else f d) ≡ nat_lt d (if opens then n - 1 else if closes then n + 1 else n)
end_step true true is_zero d n f one z is = cc
end_step true false true d n f one z is = is (suc d) ∙ one_less d n
end_step true false false d n f one z is = is (suc d) ∙ one_less d n
end_step false true true d n f one z is = one_at_least d n z
end_step false true false d n f one z is = is (d - 1) ∙ one_more d n z
end_step false false true d n f one z is = is d
end_step false false false d n f one z is = is d

-- the WHILEs that are ended
while_by : (b : Bound) (d : ℕ) (after : Ends) (f : ℕ → Bool) → ((k : ℕ) → f k ≡ nat_lt k after.whiles)
    → (if d == 0 && while_family.closes b then true else if while_family.opens b then f (suc d) else if while_family.closes b then f (d - 1) else f d) ≡ nat_lt d (ends_before b after).whiles
while_by OpensWhile d after f is = end_step true false (d == 0) d after.whiles f refl refl is
while_by ClosesWhile d after f is = end_step false true (d == 0) d after.whiles f refl refl is
while_by _ d after f is = end_step false false (d == 0) d after.whiles f refl refl is

while_ends : (xs : List Item) (d : ℕ) → ends_at while_family while_family.closes d xs ≡ nat_lt d (ends_from no_ends xs).whiles
while_ends [] d = grind (arith, nat_tests)
while_ends (x ∷ xs) d = while_by (bound x) d (ends_from no_ends xs) (λ k. ends_at while_family while_family.closes k xs) (while_ends xs)

-- the CASEs that are ended
case_by : (b : Bound) (d : ℕ) (after : Ends) (f : ℕ → Bool) → ((k : ℕ) → f k ≡ nat_lt k after.cases)
    → (if d == 0 && case_family.closes b then true else if case_family.opens b then f (suc d) else if case_family.closes b then f (d - 1) else f d) ≡ nat_lt d (ends_before b after).cases
case_by OpensCase d after f is = end_step true false (d == 0) d after.cases f refl refl is
case_by ClosesCase d after f is = end_step false true (d == 0) d after.cases f refl refl is
case_by _ d after f is = end_step false false (d == 0) d after.cases f refl refl is

case_ends : (xs : List Item) (d : ℕ) → ends_at case_family case_family.closes d xs ≡ nat_lt d (ends_from no_ends xs).cases
case_ends [] d = grind (arith, nat_tests)
case_ends (x ∷ xs) d = case_by (bound x) d (ends_from no_ends xs) (λ k. ends_at case_family case_family.closes k xs) (case_ends xs)

-- the block IFs and ELSEs that are ended by ENDIF
if_by : (b : Bound) (d : ℕ) (after : Ends) (f : ℕ → Bool) → ((k : ℕ) → f k ≡ nat_lt k after.ifs)
    → (if d == 0 && if_family.closes b then true else if if_family.opens b then f (suc d) else if if_family.closes b then f (d - 1) else f d) ≡ nat_lt d (ends_before b after).ifs
if_by OpensIf d after f is = end_step true false (d == 0) d after.ifs f refl refl is
if_by ClosesIf d after f is = end_step false true (d == 0) d after.ifs f refl refl is
if_by _ d after f is = end_step false false (d == 0) d after.ifs f refl refl is

if_ends : (xs : List Item) (d : ℕ) → ends_at if_family if_family.closes d xs ≡ nat_lt d (ends_from no_ends xs).ifs
if_ends [] d = grind (arith, nat_tests)
if_ends (x ∷ xs) d = if_by (bound x) d (ends_from no_ends xs) (λ k. ends_at if_family if_family.closes k xs) (if_ends xs)

-- whether an ELSE or an ENDIF ends a block IF at a depth
abbrev branch_ends : ℕ → Ends → Bool
branch_ends d ends = nat_lt d ends.ifs || (ends.has_else && d == ends.ifs)

opens_branch : (d n : ℕ) (e : Bool) → (nat_lt (suc d) n || (e && suc d == n)) ≡ (nat_lt d (n - 1) || ((e && nat_lt 0 n) && d == (n - 1)))
opens_branch d n true = grind (arith, nat_tests)
opens_branch d n false = grind (arith, nat_tests)

closes_branch : (d n : ℕ) (e is_zero : Bool) → (d == 0) ≡ is_zero → (if is_zero then true else (nat_lt (d - 1) n || (e && (d - 1) == n))) ≡ (nat_lt d (n + 1) || (e && d == (n + 1)))
closes_branch d n true true z = grind (arith, nat_tests)
closes_branch d n false true z = grind (arith, nat_tests)
closes_branch d n true false z = grind (arith, nat_tests)
closes_branch d n false false z = grind (arith, nat_tests)

divides_branch : (d n : ℕ) (e is_zero : Bool) → (d == 0) ≡ is_zero → (if is_zero then true else (nat_lt d n || (e && d == n))) ≡ (nat_lt d n || ((e || n == 0) && d == n))
divides_branch d n true true z = grind (arith, nat_tests)
divides_branch d n false true z = grind (arith, nat_tests)
divides_branch d n true false z = grind (arith, nat_tests)
divides_branch d n false false z = grind (arith, nat_tests)

and_true : (b : Bool) → (b && true) ≡ b
and_true true = refl
and_true false = refl

-- an item that is nothing to block IFs
passes_branch : (d : ℕ) (f : ℕ → Bool) (is_zero : Bool) → (if is_zero && false then true else f d) ≡ f d
passes_branch d f true = refl
passes_branch d f false = refl

branch_by : (b : Bound) (d : ℕ) (after : Ends) (f : ℕ → Bool) → ((k : ℕ) → f k ≡ branch_ends k after)
    → (if d == 0 && ends_if b then true else if if_family.opens b then f (suc d) else if if_family.closes b then f (d - 1) else f d) ≡ branch_ends d (ends_before b after)
branch_by OpensIf d after f is = passes_branch (suc d) f (d == 0) ∙ is (suc d) ∙ opens_branch d after.ifs after.has_else
branch_by ClosesIf d after f is =
    ap (λ (z : Bool). if z then true else f (d - 1)) (and_true (d == 0)) ∙ ap (λ (r : Bool). if d == 0 then true else r) (is (d - 1)) ∙ closes_branch d after.ifs after.has_else (d == 0) refl
branch_by DividesIf d after f is =
    ap (λ (z : Bool). if z then true else f d) (and_true (d == 0)) ∙ ap (λ (r : Bool). if d == 0 then true else r) (is d) ∙ divides_branch d after.ifs after.has_else (d == 0) refl
branch_by _ d after f is = passes_branch d f (d == 0) ∙ is d

branch_ends_at : (xs : List Item) (d : ℕ) → ends_at if_family ends_if d xs ≡ branch_ends d (ends_from no_ends xs)
branch_ends_at [] d = grind (arith, nat_tests)
branch_ends_at (x ∷ xs) d = branch_by (bound x) d (ends_from no_ends xs) (λ k. ends_at if_family ends_if k xs) (branch_ends_at xs)

-- an ELSE that stands after no ENDIF ends a block IF
first_branch : (n : ℕ) (e : Bool) → (nat_lt 0 n || (e && 0 == n)) ≡ (nat_lt 0 n || e)
first_branch n true = grind (arith, nat_tests)
first_branch n false = grind (arith, nat_tests)

-- an item's structure has its end among the items after it where it has it among their ends
has_end_is : (b : Bound) (xs : List Item) → has_end b xs ≡ has_end_by b (ends_from no_ends xs)
has_end_is OpensWhile xs = while_ends xs 0
has_end_is OpensIf xs = branch_ends_at xs 0 ∙ first_branch (ends_from no_ends xs).ifs (ends_from no_ends xs).has_else
has_end_is DividesIf xs = if_ends xs 0
has_end_is OpensCase xs = case_ends xs 0
has_end_is DividesCase xs = case_ends xs 0
has_end_is ClosesWhile xs = refl
has_end_is ClosesIf xs = refl
has_end_is ClosesCase xs = refl
has_end_is NoBound xs = refl

-- items in front of others
pub ends_joined : (xs after : List Item) → ends_from no_ends (xs ++ after) ≡ ends_from (ends_from no_ends after) xs
ends_joined [] after = refl
ends_joined (x ∷ xs) after = ap (ends_before (bound x)) (ends_joined xs after)

pub closed_is : (xs after : List Item) → closed_in xs after ≡ closed_from (ends_from no_ends after) xs
closed_is [] after = refl
closed_is (x ∷ xs) after =
    ap (λ (r : Bool). r && closed_in xs after) (has_end_is (bound x) (xs ++ after) ∙ ap (has_end_by (bound x)) (ends_joined xs after))
    ∙ ap (λ (r : Bool). has_end_by (bound x) (ends_from (ends_from no_ends after) xs) && r) (closed_is xs after)

at_drop_get : (lines : List ProgLine) (i : ℕ) (line : ProgLine) → i - 1 < length lines → 0 < i → line ≡ get_or lines (i - 1) line → drop (i - 1) lines ≡ line ∷ drop i lines
at_drop_get lines i line within some at =
    let next : i - 1 + 1 ≡ i = omega (arith, some) in
    at_drop_more (λ (l : List ProgLine). l) lines (i - 1) line within
    ∙ ap (λ (l : ProgLine). l ∷ drop (i - 1 + 1) lines) (sym at)
    ∙ ap (λ (n : ℕ). line ∷ drop n lines) next

-- one line more, from the last line on
pub line_more : (lines : List ProgLine) (i : ℕ) (line : ProgLine) (first : Option ℕ) (after : Ends) (closed : Bool) (before : Ends) → i - 1 < length lines → 0 < i → line ≡ get_or lines (i - 1) line
    → first ≡ first_unclosed (drop i lines) → after ≡ ends_from no_ends (items_of (drop i lines)) → closed ≡ closed_from after line.items → before ≡ ends_from after line.items
    → ((if closed then first else Some line.number) ≡ first_unclosed (drop (i - 1) lines)) × (before ≡ ends_from no_ends (items_of (drop (i - 1) lines)))
line_more lines i line first after closed before within some at is_first is_after is_closed is_before =
    let rest = drop i lines in
    let front : drop (i - 1) lines ≡ line ∷ rest = at_drop_get lines i line within some at in
    let same : closed ≡ closed_in line.items (items_of rest) = is_closed ∙ ap (λ (e : Ends). closed_from e line.items) is_after ∙ sym (closed_is line.items (items_of rest)) in (
      ap (λ (c : Bool). if c then first else Some line.number) same ∙ ap (λ (f : Option ℕ). if closed_in line.items (items_of rest) then f else Some line.number) is_first ∙ sym (ap first_unclosed front),
      is_before ∙ ap (λ (e : Ends). ends_from e line.items) is_after ∙ sym (ends_joined line.items (items_of rest)) ∙ sym (ap (λ (l : List ProgLine). ends_from no_ends (items_of l)) front),
    )
