-- How the tables of the flat code grow: item by item, and line by line.
use Rattle.std.proofs.Common.{◌≡◌, ℕ, suc, ◌+◌, ◌-◌, ◌<◌, ◌≤◌, Bool, true, false, List, [], ◌∷◌, ◌++◌, Some, length, get_or, drop, refl, sym, ap, subst, ◌∙◌, arith, append_assoc, length-append}
use Rattle.std.proofs.lemmas.Bool.{lt-ltb, le-ltb}
use Rattle.std.proofs.Math.Seq.{drop-append_seam}
use Rattle.std.proofs.lemmas.List.{append-nil, at_drop_more, drop_more, drop-append-le, drop-drop, drop-map, length-map}
use Rattle.std.specs.Prelude.{flat_map, if◌then◌else◌}
use Rattle.bas_ast.specs.declared.lines.Item.{Item}
use Rattle.bas_ast.specs.declared.program.Prog.{Prog}
use Rattle.bas_ast.specs.declared.program.ProgLine.{ProgLine}
use Rattle.bas_ir.specs.Heights.{empty_height}
use Rattle.bas_ir.specs.declared.ir.LineStart.{LineStart}
use Rattle.bas_ir.specs.declared.op.Op.{Op}
use Rattle.bas_ir.specs.declared.op.Op.TheVariants as o
use Rattle.bas_sem.specs.Places.{Row, rows, rest_among, rest_of_line}
use Rattle.ir_build.specs.Code.{row_code, codes_from, codes, joined, joined_marks, unmarked_all, marks_of, starts_from, start_at, line_starts_from, heights_of}
use Rattle.ir_build.specs.Tables.{no_tables, with_codes, rows_of, line_rows, rows_among}
use Rattle.ir_build.specs.declared.tables.Tables.{Tables}

-- the marks of what is left of an item's operations
abbrev pub marks_left : Bool → List Op → List Bool
marks_left true ops = marks_of ops
marks_left false ops = unmarked_all ops

same_tables : (a b : Tables) → a.ops ≡ b.ops → a.marks ≡ b.marks → a.starts ≡ b.starts → a.heights ≡ b.heights → a ≡ b
same_tables a b ops marks starts heights = λ i. record { ops = ops i; marks = marks i; starts = starts i; heights = heights i }

-- no code adds nothing
pub with_none : (tables : Tables) → with_codes tables [] ≡ tables
with_none tables = same_tables _ _ (append-nil tables.ops) (append-nil tables.marks) (append-nil tables.starts) (append-nil tables.heights)

-- one item, field by field
pub with_one : (before after : Tables) (code : List Op) (at : ℕ) → at ≡ length before.ops
    → after.ops ≡ before.ops ++ code → after.marks ≡ before.marks ++ marks_of code → after.starts ≡ before.starts ++ at ∷ []
    → after.heights ≡ before.heights ++ heights_of (Some empty_height) code → after ≡ with_codes before (code ∷ [])
with_one before after code at place ops marks starts heights =
    same_tables _ _ (ops ∙ ap (λ l. before.ops ++ l) (sym (append-nil code)))
    (marks ∙ ap (λ l. before.marks ++ l) (sym (append-nil (marks_of code))))
    (starts ∙ ap (λ n. before.starts ++ n ∷ []) place)
    (heights ∙ ap (λ l. before.heights ++ l) (sym (append-nil (heights_of (Some empty_height) code))))

-- an item, and then the rest
pub with_more : (tables : Tables) (code : List Op) (codes : List (List Op)) → with_codes tables (code ∷ codes) ≡ with_codes (with_codes tables (code ∷ [])) codes
with_more tables code codes =
    let long : length tables.ops + length code ≡ length (tables.ops ++ (code ++ [])) = simp (append-nil, length-append) in
    same_tables _ _
    (sym (append_assoc tables.ops (code ++ []) (joined codes) ∙ ap (λ l. tables.ops ++ l) (append_assoc code [] (joined codes))))
    (sym (append_assoc tables.marks (marks_of code ++ []) (joined_marks codes) ∙ ap (λ l. tables.marks ++ l) (append_assoc (marks_of code) [] (joined_marks codes))))
    (ap (λ n. tables.starts ++ length tables.ops ∷ starts_from n codes) long ∙ sym (append_assoc tables.starts (length tables.ops ∷ []) (starts_from (length (tables.ops ++ (code ++ []))) codes)))
    (sym (append_assoc tables.heights (heights_of (Some empty_height) code ++ []) (flat_map (heights_of (Some empty_height)) codes)
    ∙ ap (λ l. tables.heights ++ l) (append_assoc (heights_of (Some empty_height) code) [] (flat_map (heights_of (Some empty_height)) codes))))

-- some items, and then others
pub with_both : (tables : Tables) (one two : List (List Op)) → with_codes tables (one ++ two) ≡ with_codes (with_codes tables one) two
with_both tables [] two = ap (λ t. with_codes t two) (sym (with_none tables))
with_both tables (code ∷ one) two =
    with_more tables code (one ++ two) ∙ with_both (with_codes tables (code ∷ [])) one two ∙ ap (λ t. with_codes t two) (sym (with_more tables code one))

-- the codes of rows in two parts
pub codes_both : (prog : Prog) (place : ℕ) (one two : List Row) → codes_from prog place (one ++ two) ≡ codes_from prog place one ++ codes_from prog (place + length one) two
codes_both prog place [] two = ap (λ n. codes_from prog n two) (omega arith)
codes_both prog place (row ∷ one) two =
    ap (λ l. row_code prog place row ∷ l)
    (codes_both prog (place + 1) one two ∙ ap (λ n. codes_from prog (place + 1) one ++ codes_from prog n two) (omega arith))

length_codes : (prog : Prog) (place : ℕ) (rows : List Row) → length (codes_from prog place rows) ≡ length rows
length_codes prog place [] = refl
length_codes prog place (row ∷ rows) = ap suc (length_codes prog (place + 1) rows)

from_none : (n : ℕ) → 0 + n ≡ n
from_none n = omega arith

-- where an item after some others begins
start_after : (one two : List (List Op)) (n : ℕ) → start_at (one ++ two) (length one + n) ≡ length (joined one) + start_at two n
start_after [] two n = ap (start_at two) (from_none n) ∙ sym (from_none (start_at two n))
start_after (code ∷ one) two n =
    let after = start_after one two n in
    let long = length-append code (joined one) in
    let further : suc (length one) + n ≡ suc (length one + n) = omega arith in
    ap (start_at (code ∷ (one ++ two))) further ∙ omega (arith, after, long)

start_first : (codes : List (List Op)) → start_at codes 0 ≡ 0
start_first [] = refl
start_first (code ∷ codes) = refl

-- What is to be added when these lines are left, of which the first item has this place.
pub record AreLeft (prog : Prog) (lines : List ProgLine) (place : ℕ) (tables : Tables) (line_starts : List LineStart) : Type 0 where
  pub whole : with_codes no_tables (codes prog) ≡ with_codes tables (codes_from prog place (flat_map line_rows lines))
  pub lines_too : line_starts_from (codes prog) prog.lines 0 ≡ line_starts ++ line_starts_from (codes prog) lines place
  pub starts : (n : ℕ) → start_at (codes prog) (place + n) ≡ length tables.ops + start_at (codes_from prog place (flat_map line_rows lines)) n
  pub rests : (n : ℕ) → rest_of_line prog (place + n) ≡ rest_among lines n
  pub rows_too : drop place (rows prog) ≡ rows_among lines

whole_left : (prog : Prog) → AreLeft prog prog.lines 0 no_tables []
unfolding codes
whole_left prog = record {
  whole = refl;
  lines_too = refl;
  starts = λ n. ap (start_at (codes prog)) (from_none n) ∙ sym (from_none (start_at (codes prog) n));
  rests = λ n. ap (rest_among prog.lines) (from_none n);
  rows_too = refl;
}

pub all_left : (prog : Prog) (lines : List ProgLine) (tables : Tables) (line_starts : List LineStart)
    → lines ≡ prog.lines → tables ≡ no_tables → line_starts ≡ [] → AreLeft prog lines 0 tables line_starts
all_left prog lines tables line_starts is none empty =
    subst (λ l. AreLeft prog l 0 tables line_starts) (sym is)
    (subst (λ t. AreLeft prog prog.lines 0 t line_starts) (sym none) (subst (AreLeft prog prog.lines 0 no_tables) (sym empty) (whole_left prog)))

-- the rest of the first line that is left, and of those after it
within_line : (line : ProgLine) (lines : List ProgLine) (k : ℕ) → k < length line.items → rest_among (line ∷ lines) k ≡ drop (k + 1) line.items
within_line line lines k within =
    ap (λ (b : Bool). if b then drop (k + 1) line.items else rest_among lines (k - length line.items)) (lt-ltb k (length line.items) within)

past_line : (line : ProgLine) (lines : List ProgLine) (n : ℕ) → rest_among (line ∷ lines) (length line.items + n) ≡ rest_among lines n
past_line line lines n =
    let at : ℕ = length line.items + n in
    ap (λ (b : Bool). if b then drop (at + 1) line.items else rest_among lines (at - length line.items)) (le-ltb at (length line.items) (omega arith))
    ∙ ap (rest_among lines) (omega arith)

pub first_rests : (prog : Prog) (line : ProgLine) (lines : List ProgLine) (place : ℕ) (tables : Tables) (line_starts : List LineStart)
    → AreLeft prog (line ∷ lines) place tables line_starts → (k : ℕ) → k < length line.items → rest_of_line prog (place + k) ≡ drop (k + 1) line.items
first_rests prog line lines place tables line_starts left k within = left.rests k ∙ within_line line lines k within

-- the rows of the first line that is left, and those after it
pub first_rows : (prog : Prog) (line : ProgLine) (lines : List ProgLine) (place : ℕ) (tables : Tables) (line_starts : List LineStart)
    → AreLeft prog (line ∷ lines) place tables line_starts → drop place (rows prog) ≡ line_rows line ++ rows_among lines
first_rows prog line lines place tables line_starts left = left.rows_too

-- one line is added
pub line_added : (prog : Prog) (line : ProgLine) (lines : List ProgLine) (place op place' : ℕ) (tables tables' : Tables) (line_starts : List LineStart)
    → AreLeft prog (line ∷ lines) place tables line_starts → op ≡ length tables.ops → tables' ≡ with_codes tables (codes_from prog place (line_rows line)) → place' ≡ place + length line.items
    → AreLeft prog lines place' tables' (line_starts ++ record { number = line.number; op = op } ∷ [])
line_added prog line lines place op place' tables tables' line_starts left at grown after =
    let own : List (List Op) = codes_from prog place (line_rows line) in
    let rest : List Row = flat_map line_rows lines in
    let long : length (line_rows line) ≡ length line.items = length-map line.items (λ item. record { line = line.number; item = item }) in
    let there : place + length (line_rows line) ≡ place' = omega (arith, long, after) in
    let split : codes_from prog place (line_rows line ++ rest) ≡ own ++ codes_from prog place' rest =
    codes_both prog place (line_rows line) rest ∙ ap (λ n. own ++ codes_from prog n rest) there in
    let starts_here : start_at (codes prog) place ≡ op =
    ap (start_at (codes prog)) (omega arith) ∙ left.starts 0 ∙ ap (λ n. length tables.ops + n) (start_first (codes_from prog place (line_rows line ++ rest))) ∙ omega (arith, at) in
    record {
      whole = left.whole ∙ ap (with_codes tables) split ∙ with_both tables own (codes_from prog place' rest) ∙ ap (λ t. with_codes t (codes_from prog place' rest)) (sym grown);
      lines_too = left.lines_too
          ∙ ap (λ n. line_starts ++ record { number = line.number; op = n } ∷ line_starts_from (codes prog) lines (place + length line.items)) starts_here
          ∙ ap (λ n. line_starts ++ record { number = line.number; op = op } ∷ line_starts_from (codes prog) lines n) (sym after)
          ∙ sym (append_assoc line_starts (record { number = line.number; op = op } ∷ []) (line_starts_from (codes prog) lines place'));
      starts = λ n.
          let many : length own ≡ length line.items = length_codes prog place (line_rows line) ∙ long in
          let after_own = start_after own (codes_from prog place' rest) n in
          let grew : length tables'.ops ≡ length tables.ops + length (joined own) = ap (λ (t : Tables). length t.ops) grown ∙ length-append tables.ops (joined own) in
          ap (start_at (codes prog)) (omega (arith, after)) ∙ left.starts (length own + n) ∙ ap (λ l. length tables.ops + start_at l (length own + n)) split ∙ omega (arith, after_own, grew);
      rests = λ n. ap (rest_of_line prog) (omega (arith, after)) ∙ left.rests (length line.items + n) ∙ past_line line lines n;
      rows_too = ap (λ n. drop n (rows prog)) (sym there) ∙ sym (drop-drop (length (line_rows line)) place (rows prog))
          ∙ ap (drop (length (line_rows line))) left.rows_too ∙ drop-append_seam (line_rows line) rest;
    }

-- no line is left
pub none_left : (prog : Prog) (place : ℕ) (tables : Tables) (line_starts : List LineStart) → AreLeft prog [] place tables line_starts
    → (tables ≡ with_codes no_tables (codes prog)) × (line_starts ≡ line_starts_from (codes prog) prog.lines 0)
none_left prog place tables line_starts left = (sym (left.whole ∙ with_none tables), sym (left.lines_too ∙ append-nil line_starts))

-- the element at a place is the first of what is left from there
pub left_from : {X : Type 0} → (xs : List X) (i : ℕ) (x : X) → i < length xs → x ≡ get_or xs i x → drop i xs ≡ x ∷ drop (i + 1) xs
left_from xs i x within is = drop_more xs i x within ∙ ap (λ y. y ∷ drop (i + 1) xs) (sym is)

-- the line at a place is the first of those that are left from there
pub line_left : (prog : Prog) (lines : List ProgLine) (i : ℕ) (line : ProgLine) (place : ℕ) (tables : Tables) (line_starts : List LineStart) → i < length lines → line ≡ get_or lines i line
    → AreLeft prog (drop i lines) place tables line_starts → AreLeft prog (line ∷ drop (i + 1) lines) place tables line_starts
line_left prog lines i line place tables line_starts within is left = subst (λ l. AreLeft prog l place tables line_starts) (left_from lines i line within is) left

-- one mark more
pub mark_added : (is_first : Bool) (code : List Op) (i : ℕ) (marks marks' whole : List Bool) → i < length code
    → marks' ≡ marks ++ is_first ∷ [] → whole ≡ marks ++ marks_left is_first (drop i code) → whole ≡ marks' ++ marks_left false (drop (i + 1) code)
mark_added is_first code i marks marks' whole within more is =
    is ∙ ap (λ l. marks ++ l) (at_drop_more (marks_left is_first) code i o.End within ∙ one_mark is_first _ (drop (i + 1) code))
    ∙ sym (append_assoc marks (is_first ∷ []) (unmarked_all (drop (i + 1) code)))
    ∙ ap (λ m. m ++ unmarked_all (drop (i + 1) code)) (sym more)
  where
    one_mark : (is_first : Bool) (op : Op) (ops : List Op) → marks_left is_first (op ∷ ops) ≡ is_first ∷ unmarked_all ops
    one_mark true op ops = refl
    one_mark false op ops = refl

-- the rows from an item of a line on
pub rows_from : (prog : Prog) (number first place : ℕ) (items : List Item) (i : ℕ) (x : Item) (later : List Row) → i < length items → x ≡ get_or items i x → place ≡ first + i
    → drop first (rows prog) ≡ rows_of number items ++ later → drop place (rows prog) ≡ record { line = number; item = x } ∷ (rows_of number (drop (i + 1) items) ++ later)
rows_from prog number first place items i x later within is at all =
    let rest : List Row = rows_of number items in
    let same : length rest ≡ length items = length-map items (λ item. record { line = number; item = item }) in
    let long : i ≤ length rest = omega (arith, within, same) in
    ap (λ n. drop n (rows prog)) at ∙ sym (drop-drop i first (rows prog)) ∙ ap (drop i) all ∙ drop-append-le i rest later long
    ∙ ap (λ l. l ++ later) (drop-map (λ item. record { line = number; item = item }) i items ∙ ap (rows_of number) (left_from items i x within is))

-- one item is added
pub item_added : (prog : Prog) (number first place : ℕ) (items : List Item) (i : ℕ) (item : Item) (code : List Op) (tables tables' whole : Tables)
    → i < length items → item ≡ get_or items i item → place ≡ first + i → code ≡ row_code prog place (record { line = number; item = item })
    → tables' ≡ with_codes tables (code ∷ []) → whole ≡ with_codes tables (codes_from prog (first + i) (rows_of number (drop i items)))
    → whole ≡ with_codes tables' (codes_from prog (first + (i + 1)) (rows_of number (drop (i + 1) items)))
item_added prog number first place items i item code tables tables' whole within is at coded grown so_far =
    let rest : List Row = rows_of number (drop (i + 1) items) in
    so_far
    ∙ ap (λ l. with_codes tables (codes_from prog (first + i) (rows_of number l))) (left_from items i item within is)
    ∙ with_more tables (row_code prog (first + i) (record { line = number; item = item })) (codes_from prog (first + i + 1) rest)
    ∙ ap (λ n. with_codes (with_codes tables (row_code prog n (record { line = number; item = item }) ∷ [])) (codes_from prog (first + i + 1) rest)) (sym at)
    ∙ ap (λ l. with_codes (with_codes tables (l ∷ [])) (codes_from prog (first + i + 1) rest)) (sym coded)
    ∙ ap (λ t. with_codes t (codes_from prog (first + i + 1) rest)) (sym grown)
    ∙ ap (λ n. with_codes tables' (codes_from prog n rest)) (omega arith)
