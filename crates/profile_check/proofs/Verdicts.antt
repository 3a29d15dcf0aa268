-- That lines have one cut, one program and one refusal at most, and never both.
use Rattle.std.proofs.Common.{◌≡◌, inl, inr, ℕ, ◌^◌, ◌+◌, ◌≤◌, ◌<◌, Bool, true, false, ◌&&◌, List, [], ◌∷◌, ◌++◌, Option, Some, None, length, sum_by, if◌then◌else◌, refl, sym, ap, subst, ◌∙◌, arith}
use Rattle.std.proofs.lemmas.Bool.{and_parts}
use Rattle.std.proofs.lemmas.List.{length-map}
use Rattle.std.proofs.lemmas.List.Sums.{sum_by-cons}
use Rattle.bv_base.specs.Limits as limit
use Rattle.token_file.specs.declared.line.Line.{Line}
use Rattle.bas_lex.specs.declared.symbol.Sym.{Sym}
use Rattle.bas_lex.proofs.Unique.{cut_once, never_both as cut_never_bad}
use Rattle.bas_ast.specs.declared.lines.Item.{Item}
use Rattle.bas_ast.specs.declared.program.Name.{Name}
use Rattle.bas_ast.specs.declared.program.Prog.{Prog}
use Rattle.bas_ast.specs.declared.program.ProgLine.{ProgLine}
use Rattle.bas_ast.specs.Structures.{IsClosed, bound, has_end}
use Rattle.bas_parse.proofs.CompleteRuns.{one_run}
use Rattle.profile_check.specs.declared.cut_line.CutLine.{CutLine}
use Rattle.profile_check.specs.declared.refusal.Refusal.{Refusal}
use Rattle.profile_check.specs.declared.refusal.Refusal.TheVariants as refusals
use Rattle.profile_check.specs.declared.refusal.Which.TheVariants as limits
use Rattle.profile_check.specs.Cutting.{Cut, IsCut, with_symbols, cut_of, cuts_of}
use Rattle.profile_check.specs.Programs.{IsLine, AreLines, AreSpelled, IsProgram, numbered, labels_of, file_size}
use Rattle.profile_check.specs.Refused.{IsFirstOutside, IsOutside, IsUnclosed, HasTooManyNames, Holds, FirstOf, OpenStructure, TooManyNames, AreRefused}
use Rattle.bas_rules.specs.Structures.{items_of, first_unclosed, closed_in}
use Rattle.profile_check.specs.Tables.{Lists, no_lists}

-- lines are cut in one way
pub cut_same : (asm : Bool) (lines : List Line) (cuts cuts' : List Cut) (bad bad' : Option ℕ) → IsCut asm lines cuts bad → IsCut asm lines cuts' bad' → (cuts ≡ cuts') × (bad ≡ bad')
cut_same asm [] [] [] bad bad' so so' = (refl, so ∙ sym so')
cut_same asm [] [] (cut ∷ cuts') bad bad' so so' = elim so' [ ]
cut_same asm [] (cut ∷ cuts) cuts' bad bad' so so' = elim so [ ]
cut_same asm (line ∷ lines) [] [] bad bad' so so' = (refl, so.2 ∙ sym so'.2)
cut_same asm (line ∷ lines) [] (cut ∷ cuts') bad bad' so so' = absurd (cut_never_bad asm line.text so'.0 so'.1 so.0 so'.2 so.1)
cut_same asm (line ∷ lines) (cut ∷ cuts) [] bad bad' so so' = absurd (cut_never_bad asm line.text so.0 so.1 so'.0 so.2 so'.1)
cut_same asm (line ∷ lines) (cut ∷ cuts) (cut' ∷ cuts') bad bad' so so' =
    let once = cut_once asm line.text so.0 so'.0 so.1 so'.1 so.2 so'.2 in
    let rest = cut_same so'.1 lines cuts cuts' bad bad' (subst (λ (after : Bool). IsCut after lines cuts bad) once.1 so.4) so'.4 in
    let same : cut ≡ cut' = so.3 ∙ ap (λ (s : List Sym). with_symbols asm line s) once.0 ∙ sym so'.3 in
    (ap (λ (c : Cut). c ∷ cuts) same ∙ ap (λ (c : List Cut). cut' ∷ c) rest.0, rest.1)

-- a line has one list of items
pub line_same : (labels : List Name) (place : ℕ) (lists : Lists) (cut : Cut) (xs ys : List Item) → IsLine labels place lists cut xs → IsLine labels place lists cut ys → xs ≡ ys
line_same labels place lists cut xs ys a b = one_run (numbered labels place lists cut).terminals xs ys a.is_run b.is_run

same_line : (p q : ProgLine) → p.number ≡ q.number → p.items ≡ q.items → p ≡ q
same_line p q n i = ap (λ (k : ℕ). record { number = k; items = p.items }) n ∙ ap (λ (xs : List Item). record { number = q.number; items = xs }) i

-- lines are one list of trees
pub lines_same : (labels : List Name) (place : ℕ) (lists after after' : Lists) (cuts : List Cut) (progs progs' : List ProgLine) → AreLines labels place lists cuts progs after → AreLines labels place lists cuts progs' after'
    → (progs ≡ progs') × (after ≡ after')
lines_same labels place lists after after' [] [] [] so so' = (refl, so ∙ sym so')
lines_same labels place lists after after' [] [] (q ∷ progs') so so' = elim so' [ ]
lines_same labels place lists after after' [] (p ∷ progs) progs' so so' = elim so [ ]
lines_same labels place lists after after' (cut ∷ cuts) [] progs' so so' = elim so [ ]
lines_same labels place lists after after' (cut ∷ cuts) (p ∷ progs) [] so so' = elim so' [ ]
lines_same labels place lists after after' (cut ∷ cuts) (p ∷ progs) (q ∷ progs') so so' =
    let rest = lines_same labels (place + 1) (numbered labels place lists cut).lists after after' cuts progs progs' so.2 so'.2 in
    let same : p ≡ q = same_line p q (so.0 ∙ sym so'.0) (line_same labels place lists cut p.items q.items so.1 so'.1) in
    (ap (λ (z : ProgLine). z ∷ progs) same ∙ ap (λ (z : List ProgLine). q ∷ z) rest.0, rest.1)

-- lines that are spelled have none that is outside
lines_inside : (labels : List Name) (place : ℕ) (lists after : Lists) (cuts : List Cut) (progs : List ProgLine) (number : ℕ) → AreLines labels place lists cuts progs after
    → IsFirstOutside labels place lists cuts None number → ⊥
lines_inside labels place lists after [] progs number so out = cc
lines_inside labels place lists after (cut ∷ cuts) [] number so out = elim so [ ]
lines_inside labels place lists after (cut ∷ cuts) (p ∷ progs) number so (inl none) = none.0 p.items so.1
lines_inside labels place lists after (cut ∷ cuts) (p ∷ progs) number so (inr more) = lines_inside labels (place + 1) (numbered labels place lists cut).lists after cuts progs number so.2 more.2

-- one line is the first that is outside
outside_same : (labels : List Name) (place : ℕ) (lists : Lists) (cuts : List Cut) (bad : Option ℕ) (n n' : ℕ) → IsFirstOutside labels place lists cuts bad n → IsFirstOutside labels place lists cuts bad n' → n ≡ n'
outside_same labels place lists [] bad n n' e e' = let same : Some n ≡ Some n' = sym e ∙ e' in cc
outside_same labels place lists (cut ∷ cuts) bad n n' (inl a) (inl b) = sym a.1 ∙ b.1
outside_same labels place lists (cut ∷ cuts) bad n n' (inl a) (inr b) = absurd (a.0 b.0 b.1)
outside_same labels place lists (cut ∷ cuts) bad n n' (inr a) (inl b) = absurd (b.0 a.0 a.1)
outside_same labels place lists (cut ∷ cuts) bad n n' (inr a) (inr b) = outside_same labels (place + 1) (numbered labels place lists cut).lists cuts bad n n' a.2 b.2

-- ---- of whole files

pub spelled_same : (lines : List Line) (progs progs' : List ProgLine) (lists lists' : Lists) → AreSpelled lines progs lists → AreSpelled lines progs' lists' → (progs ≡ progs') × (lists ≡ lists')
spelled_same lines progs progs' lists lists' a b =
    let cut = cut_same false lines a.cuts b.cuts None None a.cut b.cut in
    lines_same (labels_of b.cuts) 0 no_lists lists lists' b.cuts progs progs' (subst (λ (c : List Cut). AreLines (labels_of c) 0 no_lists c progs lists) cut.0 a.are_lines) b.are_lines

pub spelled_inside : (lines : List Line) (progs : List ProgLine) (lists : Lists) (number : ℕ) → AreSpelled lines progs lists → IsOutside lines number → ⊥
spelled_inside lines progs lists number a b =
    let cut = cut_same false lines a.cuts b.cuts None b.bad a.cut b.cut in
    lines_inside (labels_of b.cuts) 0 no_lists lists b.cuts progs number (subst (λ (c : List Cut). AreLines (labels_of c) 0 no_lists c progs lists) cut.0 a.are_lines)
    (subst (λ (o : Option ℕ). IsFirstOutside (labels_of b.cuts) 0 no_lists b.cuts o number) (sym cut.1) b.first)

pub outside_once : (lines : List Line) (n n' : ℕ) → IsOutside lines n → IsOutside lines n' → n ≡ n'
outside_once lines n n' a b =
    let cut = cut_same false lines a.cuts b.cuts a.bad b.bad a.cut b.cut in
    outside_same (labels_of b.cuts) 0 no_lists b.cuts b.bad n n'
    (subst (λ (o : Option ℕ). IsFirstOutside (labels_of b.cuts) 0 no_lists b.cuts o n) cut.1 (subst (λ (c : List Cut). IsFirstOutside (labels_of c) 0 no_lists c a.bad n) cut.0 a.first)) b.first

-- the items of a line and of those after it have their ends
closed_joined : (xs after : List Item) → closed_in xs after ≡ true → IsClosed after → IsClosed (xs ++ after)
closed_joined [] after e closed = closed
closed_joined (x ∷ xs) after e closed = let parts = and_parts (has_end (bound x) (xs ++ after)) (closed_in xs after) e in (parts.0, closed_joined xs after parts.1 closed)

closed_parts : (xs after : List Item) → IsClosed (xs ++ after) → (closed_in xs after ≡ true) × IsClosed after
closed_parts [] after closed = (refl, closed)
closed_parts (x ∷ xs) after closed =
    let rest = closed_parts xs after closed.1 in
    (ap (λ (b : Bool). b && closed_in xs after) closed.0 ∙ rest.0, rest.1)

-- no structure is without its end where no line is the first that has one
none_unclosed : (closed : Bool) (more : Option ℕ) (number : ℕ) → (if closed then more else Some number) ≡ None → (closed ≡ true) × (more ≡ None)
none_unclosed true more number e = (refl, e)
none_unclosed false more number e = let none : Some number ≡ None = e in absurd (cc)

pub closed_where_none : (progs : List ProgLine) → first_unclosed progs ≡ None → IsClosed (items_of progs)
closed_where_none [] e = tt
closed_where_none (p ∷ progs) e =
    let parts = none_unclosed (closed_in p.items (items_of progs)) (first_unclosed progs) p.number e in
    closed_joined p.items (items_of progs) parts.0 (closed_where_none progs parts.1)

pub none_where_closed : (progs : List ProgLine) → IsClosed (items_of progs) → first_unclosed progs ≡ None
none_where_closed [] closed = refl
none_where_closed (p ∷ progs) closed =
    let parts = closed_parts p.items (items_of progs) closed in
    ap (λ (b : Bool). if b then first_unclosed progs else Some p.number) parts.0 ∙ none_where_closed progs parts.1

-- ---- what the lines are refused for

pub refused_outside : (lines : List Line) (number : ℕ) → IsOutside lines number → AreRefused lines (refusals.Outside number)
refused_outside lines number out = inl (number, out, refl)

-- lines that are spelled aren't refused for a line
not_outside : (lines : List Line) (progs : List ProgLine) (lists : Lists) → AreSpelled lines progs lists → (other : Refusal) → (number : ℕ) × IsOutside lines number × (other ≡ refusals.Outside number) → ⊥
not_outside lines progs lists spelled other holds = spelled_inside lines progs lists holds.0 spelled holds.1

-- nor for a structure, where each has its end
not_unclosed : (lines : List Line) (progs : List ProgLine) (lists : Lists) → AreSpelled lines progs lists → IsClosed (items_of progs) → (other : Refusal)
    → (number : ℕ) × IsUnclosed lines number × (other ≡ refusals.Outside number) → ⊥
not_unclosed lines progs lists spelled closed other holds =
    let u = holds.1 in
    let same = (spelled_same lines progs u.progs lists u.lists spelled u.spelled).0 in
    let none : None ≡ Some holds.0 = sym (none_where_closed progs closed) ∙ ap first_unclosed same ∙ u.first in
    cc

pub refused_unclosed : (lines : List Line) (progs : List ProgLine) (lists : Lists) (number : ℕ) → AreSpelled lines progs lists → first_unclosed progs ≡ Some number → AreRefused lines (refusals.Outside number)
refused_unclosed lines progs lists number spelled first =
    inr (not_outside lines progs lists spelled, inl (number, record { progs = progs; lists = lists; spelled = spelled; first = first }, refl))

pub refused_names : (lines : List Line) (progs : List ProgLine) (lists : Lists) → AreSpelled lines progs lists → first_unclosed progs ≡ None → limit.names < length lists.names
    → AreRefused lines (refusals.Limit limits.Names (limit.names + 1))
refused_names lines progs lists spelled none many =
    let closed = closed_where_none progs none in
    inr (
      not_outside lines progs lists spelled,
      inr (
        not_unclosed lines progs lists spelled closed,
        inl (record { progs = progs; lists = lists; spelled = spelled; closed = closed; many = many }, refl),
      ),
    )

-- ---- what the code has found

-- no more lines are cut than there are
cuts_few : (asm : Bool) (lines : List Line) (cuts : List Cut) (bad : Option ℕ) → IsCut asm lines cuts bad → length cuts ≤ length lines
cuts_few asm [] [] bad so = omega arith
cuts_few asm [] (cut ∷ cuts) bad so = elim so [ ]
cuts_few asm (line ∷ lines) [] bad so = omega arith
cuts_few asm (line ∷ lines) (cut ∷ cuts) bad so = let rest = cuts_few so.1 lines cuts bad so.4 in omega (arith, rest)

-- the bytes of a line's record
abbrev record_size : Line → ℕ
record_size line = 4 + length line.text

lines_few : (lines : List Line) → length lines ≤ sum_by record_size lines
lines_few [] = omega arith
lines_few (line ∷ lines) = omega (arith, lines_few lines, sum_by-cons record_size line lines)

pub few_cuts : (lines : List Line) (cuts : List CutLine) (bad : Option ℕ) → IsCut false lines (cuts_of cuts) bad → file_size lines < 2 ^ 32 → length cuts < 2 ^ 32
few_cuts lines cuts bad so small = omega (arith, cuts_few false lines (cuts_of cuts) bad so, lines_few lines, small, length-map cuts cut_of)

-- what lines are cut into is what they are spelled with, or the first that is outside
pub found_lines : (lines : List Line) (cuts cuts2 cuts3 : List CutLine) (labels : List Name) (progs : List ProgLine) (lists : Lists) → IsCut false lines (cuts_of cuts) None → cuts2 ≡ cuts → cuts3 ≡ cuts → labels ≡ labels_of (cuts_of cuts2)
    → AreLines labels 0 no_lists (cuts_of cuts3) progs lists → AreSpelled lines progs lists
found_lines lines cuts cuts2 cuts3 labels progs lists cut e2 e3 is_labels are =
    let is : labels ≡ labels_of (cuts_of cuts) = is_labels ∙ ap (λ (c : List CutLine). labels_of (cuts_of c)) e2 in
    record {
      cuts = cuts_of cuts;
      cut = cut;
      are_lines = subst (λ (l : List Name). AreLines l 0 no_lists (cuts_of cuts) progs lists) is (subst (λ (c : List CutLine). AreLines labels 0 no_lists (cuts_of c) progs lists) e3 are);
    }

pub found_outside : (lines : List Line) (cuts cuts2 cuts3 : List CutLine) (labels : List Name) (bad : Option ℕ) (number : ℕ) → IsCut false lines (cuts_of cuts) bad → cuts2 ≡ cuts → cuts3 ≡ cuts → labels ≡ labels_of (cuts_of cuts2)
    → IsFirstOutside labels 0 no_lists (cuts_of cuts3) bad number → AreRefused lines (refusals.Outside number)
found_outside lines cuts cuts2 cuts3 labels bad number cut e2 e3 is_labels first =
    let is : labels ≡ labels_of (cuts_of cuts) = is_labels ∙ ap (λ (c : List CutLine). labels_of (cuts_of c)) e2 in
    refused_outside lines number (record {
      cuts = cuts_of cuts;
      bad = bad;
      cut = cut;
      first = subst (λ (l : List Name). IsFirstOutside l 0 no_lists (cuts_of cuts) bad number) is (subst (λ (c : List CutLine). IsFirstOutside labels 0 no_lists (cuts_of c) bad number) e3 first);
    })

-- ---- one program, one refusal, and never both

pub program_once : (lines : List Line) (p q : Prog) → IsProgram lines p → IsProgram lines q → p ≡ q
program_once lines p q a b =
    let same = spelled_same lines p.lines q.lines a.lists b.lists a.spelled b.spelled in
    let names = a.names ∙ ap (λ (l : Lists). l.names) same.1 ∙ sym b.names in
    let texts = a.texts ∙ ap (λ (l : Lists). l.texts) same.1 ∙ sym b.texts in
    let data_items = a.data_items ∙ ap (λ (l : Lists). l.data_items) same.1 ∙ sym b.data_items in
    let size = a.size ∙ sym b.size in
    λ i. record { lines = same.0 i; names = names i; texts = texts i; data_items = data_items i; size = size i }

unclosed_once : (lines : List Line) (n n' : ℕ) → IsUnclosed lines n → IsUnclosed lines n' → n ≡ n'
unclosed_once lines n n' a b =
    let same = (spelled_same lines a.progs b.progs a.lists b.lists a.spelled b.spelled).0 in
    let both : Some n ≡ Some n' = sym a.first ∙ ap first_unclosed same ∙ b.first in
    cc

names_once : (lines : List Line) (r s : Refusal) → FirstOf (λ cause other. Holds cause lines other) (TooManyNames ∷ []) r → FirstOf (λ cause other. Holds cause lines other) (TooManyNames ∷ []) s → r ≡ s
names_once lines r s (inl a) (inl b) = a.1 ∙ sym b.1
names_once lines r s (inl a) (inr b) = absurd b.1
names_once lines r s (inr a) b = absurd a.1

later_once : (lines : List Line) (r s : Refusal) → FirstOf (λ cause other. Holds cause lines other) (OpenStructure ∷ TooManyNames ∷ []) r → FirstOf (λ cause other. Holds cause lines other) (OpenStructure ∷ TooManyNames ∷ []) s → r ≡ s
later_once lines r s (inl a) (inl b) = a.2 ∙ ap refusals.Outside (unclosed_once lines a.0 b.0 a.1 b.1) ∙ sym b.2
later_once lines r s (inl a) (inr b) = absurd (b.0 r a)
later_once lines r s (inr a) (inl b) = absurd (a.0 s b)
later_once lines r s (inr a) (inr b) = names_once lines r s a.1 b.1

names_never : (lines : List Line) (prog : Prog) → IsProgram lines prog → HasTooManyNames lines → ⊥
names_never lines prog p many =
    let same = (spelled_same lines prog.lines many.progs p.lists many.lists p.spelled many.spelled).1 in
    let names : length prog.names ≡ length many.lists.names = ap length p.names ∙ ap (λ (l : Lists). length l.names) same in
    absurd (omega (arith, p.few_names, many.many, names))

many_never : (lines : List Line) (prog : Prog) (reason : Refusal) → IsProgram lines prog → FirstOf (λ cause other. Holds cause lines other) (TooManyNames ∷ []) reason → ⊥
many_never lines prog reason p (inl a) = names_never lines prog p a.0
many_never lines prog reason p (inr a) = a.1

open_never : (lines : List Line) (prog : Prog) (reason : Refusal) → IsProgram lines prog → FirstOf (λ cause other. Holds cause lines other) (OpenStructure ∷ TooManyNames ∷ []) reason → ⊥
open_never lines prog reason p (inl a) = not_unclosed lines prog.lines p.lists p.spelled p.closed reason a
open_never lines prog reason p (inr a) = many_never lines prog reason p a.1

-- what is refused for one cause is refused for it alone
pub refused_once : (lines : List Line) (r s : Refusal) → AreRefused lines r → AreRefused lines s → r ≡ s
refused_once lines r s (inl a) (inl b) = a.2 ∙ ap refusals.Outside (outside_once lines a.0 b.0 a.1 b.1) ∙ sym b.2
refused_once lines r s (inl a) (inr b) = absurd (b.0 r a)
refused_once lines r s (inr a) (inl b) = absurd (a.0 s b)
refused_once lines r s (inr a) (inr b) = later_once lines r s a.1 b.1

pub never_both : (lines : List Line) (prog : Prog) (reason : Refusal) → IsProgram lines prog → AreRefused lines reason → ⊥
never_both lines prog reason p (inl a) = spelled_inside lines prog.lines p.lists a.0 p.spelled a.1
never_both lines prog reason p (inr a) = open_never lines prog reason p a.1
