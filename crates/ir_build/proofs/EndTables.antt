-- How the table of where structures end grows, and what it says.
use Rattle.std.proofs.Common.{◌≡◌, ℕ, zero, suc, ◌+◌, ◌-◌, ◌<◌, ◌≤◌, List, [], ◌∷◌, ◌++◌, length, length-append, length-drop, drop, get_or, refl, sym, ap, subst, ◌∙◌, arith}
use Rattle.std.proofs.lemmas.List.{at_drop_all, length-map, reverse-append, length-reverse, get_or-reverse}
use Rattle.std.specs.Prelude.{Bool, true, false, ◌==◌, ◌&&◌, reverse, slice_index_or, if◌then◌else◌}
use Rattle.bas_ast.specs.declared.lines.Head.TheVariants as head
use Rattle.bas_ast.specs.declared.lines.Item.{Item}
use Rattle.bas_ast.specs.declared.lines.Item.TheVariants as item
use Rattle.bas_ast.specs.declared.program.Prog.{Prog}
use Rattle.bas_ast.specs.declared.program.ProgLine.{ProgLine}
use Rattle.bas_ast.specs.declared.statements.Flow.TheVariants as flow
use Rattle.bas_ast.specs.declared.statements.Stmt.TheVariants as stmt
use Rattle.bas_ast.specs.Structures.{Bound, OpensWhile, while_family, if_family, case_family, ends_if, bound}
use Rattle.bas_sem.specs.Places.{Row, rows, end_among, end_of, after_end}
use Rattle.ir_build.specs.declared.ends.Ends.{Ends}
use Rattle.ir_build.specs.declared.ends.Role.{Role}
use Rattle.ir_build.specs.Ends.{Kind, from_while, from_if, from_else, from_case, from_when, role_by, role_of, without_first, unmatched_before, ends_of, AreUnmatched, AreEnds, AreEndsOf}
use Rattle.ir_build.specs.Tables.{rows_of, line_rows, rows_among}
use Rattle.ir_build.proofs.TableSteps.{left_from}

-- what is pushed last comes first
pub reverse_more : (xs : List ℕ) (x : ℕ) → reverse (xs ++ x ∷ []) ≡ x ∷ reverse xs
reverse_more xs x = reverse-append xs (x ∷ [])

later_one : (places : List ℕ) (depth total : ℕ) → slice_index_or places (suc depth) total ≡ slice_index_or (without_first places) depth total
later_one [] depth total = refl
later_one (place ∷ places) depth total = refl

-- ---- one item more

-- What closes a structure is an end, and what opens one is none.
abbrev IsRole : (opens closes ends : Bool) → Type 0
IsRole true closes true = ⊥
IsRole false true false = ⊥
IsRole _ _ _ = Unit {0}

abbrev IsKind : Kind → Type 0
IsKind kind = (x : Item) → IsRole (kind.family.opens (bound x)) (kind.family.closes (bound x)) (kind.is_end x)

while_bound : (b : Bound) → IsRole (while_family.opens b) (while_family.closes b) (while_family.closes b)
while_bound OpensWhile = tt
while_bound _ = tt

if_bound : (b : Bound) → IsRole (if_family.opens b) (if_family.closes b) (ends_if b)
if_bound OpensWhile = tt
if_bound _ = tt

else_bound : (b : Bound) → IsRole (if_family.opens b) (if_family.closes b) (if_family.closes b)
else_bound OpensWhile = tt
else_bound _ = tt

when_bound : (b : Bound) → IsRole (case_family.opens b) (case_family.closes b) (case_family.closes b)
when_bound OpensWhile = tt
when_bound _ = tt

case_kind : IsKind from_case
case_kind (item.Stmt (stmt.Flow (flow.While x))) = tt
case_kind (item.Stmt (stmt.Flow flow.EndWhile)) = tt
case_kind (item.Head head.BlockElse) = tt
case_kind _ = tt

not_first : (depth : ℕ) → (suc depth == 0) ≡ false
not_first depth = grind arith

-- within a structure an item is not the end that is looked for
past : (depth : ℕ) (ends : Bool) (after later : ℕ) → (if suc depth == 0 && ends then after else later) ≡ later
past depth ends after later = ap (λ (b : Bool). if b && ends then after else later) (not_first depth)

-- the first end after an item of a role, by those after what follows it
role_step : (opens closes ends : Bool) → IsRole opens closes ends → (after total depth : ℕ) (places : List ℕ) (later : ℕ → ℕ)
    → ((d : ℕ) → later d ≡ slice_index_or places d total)
    → (if depth == 0 && ends then after else later (if opens then suc depth else if closes then depth - 1 else depth))
    ≡ slice_index_or (unmatched_before (role_by opens closes ends) after places) depth total
role_step true closes true role after total depth places later each = absurd role
role_step true closes false role after total zero places later each = each 1 ∙ later_one places 0 total
role_step true closes false role after total (suc depth) places later each =
    past depth false after (later (suc (suc depth))) ∙ each (suc (suc depth)) ∙ later_one places (suc depth) total
role_step false true true role after total zero places later each = refl
role_step false true true role after total (suc depth) places later each =
    let one : suc depth - 1 ≡ depth = omega arith in
    past depth true after (later (suc depth - 1)) ∙ ap later one ∙ each depth
role_step false true false role after total depth places later each = absurd role
role_step false false true role after total zero places later each = refl
role_step false false true role after total (suc depth) places later each =
    past depth true after (later (suc depth)) ∙ each (suc depth) ∙ later_one places depth total
role_step false false false role after total zero places later each = each 0
role_step false false false role after total (suc depth) places later each = past depth false after (later (suc depth)) ∙ each (suc depth)

unmatched_added : (kind : Kind) → IsKind kind → (before after : List ℕ) (total line : ℕ) (x : Item) (rest : List Row) (place : ℕ)
    → AreUnmatched kind before total rest (place + 1) → reverse after ≡ unmatched_before (role_of kind x) (place + 1) (reverse before)
    → AreUnmatched kind after total (record { line = line; item = x } ∷ rest) place
unmatched_added kind is_kind before after total line x rest place are is = λ depth.
    role_step (kind.family.opens (bound x)) (kind.family.closes (bound x)) (kind.is_end x) (is_kind x) (place + 1) total depth (reverse before)
    (λ d. end_among kind.family kind.is_end d rest (place + 1)) are
    ∙ ap (λ l. slice_index_or l depth total) (sym is)

pub same_match : (after before : List ℕ) (role role' : Role) (next next' : ℕ) → after ≡ unmatched_before role next before → role ≡ role' → next ≡ next'
    → after ≡ unmatched_before role' next' before
same_match after before role role' next next' is same at = is ∙ (λ i. unmatched_before (same i) (at i) before)

-- what an item makes of the ends of each kind
pub record Matches (old new : Ends) (x : Item) (place : ℕ) : Type 0 where
  pub while_ends : reverse new.from_while ≡ unmatched_before (role_of from_while x) (place + 1) (reverse old.from_while)
  pub if_ends : reverse new.from_if ≡ unmatched_before (role_of from_if x) (place + 1) (reverse old.from_if)
  pub else_ends : reverse new.from_else ≡ unmatched_before (role_of from_else x) (place + 1) (reverse old.from_else)
  pub case_ends : reverse new.from_case ≡ unmatched_before (role_of from_case x) (place + 1) (reverse old.from_case)
  pub when_ends : reverse new.from_when ≡ unmatched_before (role_of from_when x) (place + 1) (reverse old.from_when)
  pub total : new.total ≡ old.total

pub end_added : (old new : Ends) (line : ℕ) (x : Item) (rest : List Row) (place end : ℕ) → AreEnds old rest (place + 1)
    → end ≡ end_of (bound x) rest (place + 1) → new.ends ≡ old.ends ++ end ∷ [] → Matches old new x place
    → AreEnds new (record { line = line; item = x } ∷ rest) place
end_added old new line x rest place end are is more matched =
    let long : place + suc (length rest) ≡ old.total = omega (arith, are.total) in
    subst (λ total. AreEnds (record { from_while = new.from_while; from_if = new.from_if; from_else = new.from_else; from_case = new.from_case; from_when = new.from_when; ends = new.ends; total = total }) (record { line = line; item = x } ∷ rest) place)
    (sym matched.total)
    (record {
      from_while = unmatched_added from_while (λ i. while_bound (bound i)) old.from_while new.from_while old.total line x rest place are.from_while matched.while_ends;
      from_if = unmatched_added from_if (λ i. if_bound (bound i)) old.from_if new.from_if old.total line x rest place are.from_if matched.if_ends;
      from_else = unmatched_added from_else (λ i. else_bound (bound i)) old.from_else new.from_else old.total line x rest place are.from_else matched.else_ends;
      from_case = unmatched_added from_case case_kind old.from_case new.from_case old.total line x rest place are.from_case matched.case_ends;
      from_when = unmatched_added from_when (λ i. when_bound (bound i)) old.from_when new.from_when old.total line x rest place are.from_when matched.when_ends;
      ends = ap reverse more ∙ reverse_more old.ends end ∙ ap (λ e. e ∷ reverse old.ends) is ∙ ap (λ l. end_of (bound x) rest (place + 1) ∷ l) are.ends;
      total = long;
    })

-- one item more of a line
pub line_end_added : (old new : Ends) (line first place at i : ℕ) (items : List Item) (item : Item) (rest : List Row) → i < length items → at ≡ length items - 1 - i
    → item ≡ get_or items at item → place ≡ first + at
    → ((more : List Row) → AreEnds old more (place + 1) → AreEnds new (record { line = line; item = item } ∷ more) place)
    → AreEnds old (rows_of line (drop (length items - i) items) ++ rest) (first + (length items - i))
    → AreEnds new (rows_of line (drop (length items - (i + 1)) items) ++ rest) (first + (length items - (i + 1)))
line_end_added old new line first place at i items item rest within here is there grows are =
    let e : length items - i ≡ at + 1 = omega (arith, within, here) in
    let e' : at ≡ length items - (i + 1) = omega (arith, within, here) in
    let one : drop at items ≡ item ∷ drop (at + 1) items = left_from items at item (omega (arith, within, here)) is in
    let before : AreEnds old (rows_of line (drop (at + 1) items) ++ rest) (first + (at + 1)) =
    subst (λ n. AreEnds old (rows_of line (drop n items) ++ rest) (first + n)) e are in
    let step : AreEnds new (record { line = line; item = item } ∷ (rows_of line (drop (at + 1) items) ++ rest)) place =
    grows (rows_of line (drop (at + 1) items) ++ rest) (subst (AreEnds old (rows_of line (drop (at + 1) items) ++ rest)) (omega (arith, there)) before) in
    let whole : AreEnds new (rows_of line (drop at items) ++ rest) place = subst (λ l. AreEnds new (rows_of line l ++ rest) place) (sym one) step in
    subst (λ n. AreEnds new (rows_of line (drop n items) ++ rest) (first + n)) e' (subst (AreEnds new (rows_of line (drop at items) ++ rest)) there whole)

-- ---- the lines of a program

rows_more : (line : ProgLine) (lines : List ProgLine) → length (rows_among (line ∷ lines)) ≡ length line.items + length (rows_among lines)
rows_more line lines =
    length-append (line_rows line) (rows_among lines) ∙ ap (λ n. n + length (rows_among lines)) (length-map line.items (λ item. record { line = line.number; item = item }))

-- a line is among the lines from it on
pub line_within : (lines : List ProgLine) (k : ℕ) (line : ProgLine) → k < length lines → line ≡ get_or lines k line
    → length line.items + length (rows_among (drop (k + 1) lines)) ≤ length (rows_among lines)
line_within [] k line within is = absurd (omega (arith, within))
line_within (l ∷ lines) zero line within is =
    let long : length (rows_among (l ∷ lines)) ≡ length l.items + length (rows_among lines) = rows_more l lines in
    let same : length line.items ≡ length l.items = ap (λ (x : ProgLine). length x.items) is in
    omega (arith, long, same)
line_within (l ∷ lines) (suc k) line within is =
    let long : length (rows_among (l ∷ lines)) ≡ length l.items + length (rows_among lines) = rows_more l lines in
    let next : suc k + 1 ≡ suc (k + 1) = omega arith in
    let left : length (rows_among (drop (suc k + 1) (l ∷ lines))) ≡ length (rows_among (drop (k + 1) lines)) = ap (λ n. length (rows_among (drop n (l ∷ lines)))) next in
    omega (arith, long, left, line_within lines k line (omega (arith, within)) is)

-- What is done when these lines are left at the front.
pub record AreLate (lines : List ProgLine) (table : Ends) (left place : ℕ) : Type 0 where
  pub late : AreEnds table (rows_among (drop left lines)) place
  pub whole : table.total ≡ length (rows_among lines)

pub none_late : (lines : List ProgLine) (table : Ends) (place : ℕ) → AreEnds table [] place → table.total ≡ place → place ≡ length (rows_among lines)
    → AreLate lines table (length lines) place
none_late lines table place are same is = record {
  late = subst (λ l. AreEnds table l place) (sym (at_drop_all rows_among lines (length lines) (omega arith))) are;
  whole = same ∙ is;
}

-- the line that comes next has room before what was added
pub late_within : (lines : List ProgLine) (table : Ends) (place at i : ℕ) (line : ProgLine) → i < length lines → at ≡ length lines - 1 - i → line ≡ get_or lines at line
    → AreLate lines table (length lines - i) place → length line.items ≤ place
late_within lines table place at i line within here is late =
    let e : length lines - i ≡ at + 1 = omega (arith, within, here) in
    let are : AreEnds table (rows_among (drop (at + 1) lines)) place = subst (λ n. AreEnds table (rows_among (drop n lines)) place) e late.late in
    omega (arith, are.total, late.whole, line_within lines at line (omega (arith, within, here)) is)

pub line_late : (lines : List ProgLine) (old new : Ends) (place place' at i : ℕ) (line : ProgLine) → i < length lines → at ≡ length lines - 1 - i → line ≡ get_or lines at line
    → place' + length line.items ≡ place → AreLate lines old (length lines - i) place
    → ((number : ℕ) (rest : List Row) → AreEnds old rest (place' + length line.items) → AreEnds new (rows_of number line.items ++ rest) place') → new.total ≡ old.total
    → AreLate lines new (length lines - (i + 1)) place'
line_late lines old new place place' at i line within here is before late grows same =
    let e : length lines - i ≡ at + 1 = omega (arith, within, here) in
    let e' : at ≡ length lines - (i + 1) = omega (arith, within, here) in
    let are : AreEnds old (rows_among (drop (at + 1) lines)) (place' + length line.items) =
    subst (AreEnds old (rows_among (drop (at + 1) lines))) (sym before) (subst (λ n. AreEnds old (rows_among (drop n lines)) place) e late.late) in
    let one : drop at lines ≡ line ∷ drop (at + 1) lines = left_from lines at line (omega (arith, within, here)) is in
    record {
      late = subst (λ n. AreEnds new (rows_among (drop n lines)) place') e'
          (subst (λ l. AreEnds new (rows_among l) place') (sym one) (grows line.number (rows_among (drop (at + 1) lines)) are));
      whole = same ∙ late.whole;
    }

pub all_late : (prog : Prog) (lines : List ProgLine) (table : Ends) (i place : ℕ) → lines ≡ prog.lines → length lines ≤ i → AreLate lines table (length lines - i) place
    → AreEndsOf table prog
all_late prog lines table i place is all late =
    let none : length lines - i ≡ 0 = omega (arith, all) in
    let are : AreEnds table (rows_among lines) place = subst (λ n. AreEnds table (rows_among (drop n lines)) place) none late.late in
    let first : place ≡ 0 = omega (arith, are.total, late.whole) in
    subst (λ l. AreEnds table (rows_among l) 0) is (subst (AreEnds table (rows_among lines)) first are)

-- ---- what the table says

ends_long : (rs : List Row) (base : ℕ) → length (ends_of rs base) ≡ length rs
ends_long [] base = refl
ends_long (r ∷ rs) base = ap suc (ends_long rs (base + 1))

abbrev first_or : Row → List Row → Row
first_or d [] = d
first_or d (r ∷ rs) = r

abbrev after_first : List Row → List Row
after_first [] = []
after_first (r ∷ rs) = rs

end_at : (rs : List Row) (base k d : ℕ) (row : Row) (rest : List Row) → drop k rs ≡ row ∷ rest → get_or (ends_of rs base) k d ≡ end_of (bound row.item) rest (base + k + 1)
end_at [] base zero d row rest is = absurd (cc)
end_at [] base (suc k) d row rest is = absurd (cc)
end_at (r ∷ rs) base zero d row rest is =
    let e : base + 1 ≡ base + 0 + 1 = omega arith in
    ap (λ (l : List Row). end_of (bound (first_or row l).item) (after_first l) (base + 1)) is ∙ ap (end_of (bound row.item) rest) e
end_at (r ∷ rs) base (suc k) d row rest is =
    let e : base + 1 + k + 1 ≡ base + suc k + 1 = omega arith in
    end_at rs (base + 1) k d row rest is ∙ ap (end_of (bound row.item) rest) e

-- the rows after one
pub rows_after : (rs : List Row) (k : ℕ) (row : Row) (rest : List Row) → drop k rs ≡ row ∷ rest → drop (k + 1) rs ≡ rest
rows_after rs zero row rest is = drop_one rs ∙ ap after_first is
  where
    drop_one : (rs : List Row) → drop 1 rs ≡ after_first rs
    drop_one [] = refl
    drop_one (r ∷ rs) = refl
rows_after [] (suc k) row rest is = absurd (cc)
rows_after (r ∷ rs) (suc k) row rest is =
    let next : suc k + 1 ≡ suc (k + 1) = omega arith in
    ap (λ n. drop n (r ∷ rs)) next ∙ rows_after rs k row rest is

pub table_long : (table : Ends) (prog : Prog) → AreEndsOf table prog → length table.ends ≡ length (rows prog)
table_long table prog are = sym (length-reverse table.ends) ∙ ap length are.ends ∙ ends_long (rows prog) 0

-- the table has a place for each item of a line
pub place_within : (table : Ends) (prog : Prog) (number first place i : ℕ) (items : List Item) (later : List Row) → AreEndsOf table prog → i < length items → place ≡ first + i
    → drop first (rows prog) ≡ rows_of number items ++ later → place < length table.ends
place_within table prog number first place i items later are within at is =
    let own : length (rows_of number items) ≡ length items = length-map items (λ item. record { line = number; item = item }) in
    omega (arith, table_long table prog are, length-drop first (rows prog), ap length is, length-append (rows_of number items) later, own, within, at)

pub end_is : (table : Ends) (prog : Prog) (place d : ℕ) (row : Row) (rest : List Row) → AreEndsOf table prog → place < length table.ends → drop place (rows prog) ≡ row ∷ rest
    → get_or table.ends (length table.ends - 1 - place) d ≡ after_end prog (bound row.item) place
end_is table prog place d row rest are within is =
    let e : 0 + place + 1 ≡ place + 1 = omega arith in
    sym (get_or-reverse table.ends place d within) ∙ ap (λ l. get_or l place d) are.ends ∙ end_at (rows prog) 0 place d row rest is
    ∙ ap (end_of (bound row.item) rest) e ∙ ap (λ l. end_of (bound row.item) l (place + 1)) (sym (rows_after (rows prog) place row rest is))
