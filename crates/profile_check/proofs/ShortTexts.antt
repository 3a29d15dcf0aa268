-- That the texts of a program's string literals are no longer than its lines.
use Rattle.std.proofs.Common.{ℕ, ◌+◌, ◌-◌, ◌≤◌, Bool, true, false, ◌==◌, List, [], ◌∷◌, ◌++◌, Option, Some, None, length, drop, slice_range, if◌then◌else◌, sym, subst, arith, length-drop}
use Rattle.std.specs.List.{AllByRecursion}
use Rattle.std.proofs.lemmas.List.{length-take}
use Rattle.token_file.specs.declared.line.Line.{Line}
use Rattle.bas_lex.specs.declared.symbol.Sym.{Sym}
use Rattle.bas_ast.specs.declared.program.Name.{Name}
use Rattle.bas_ast.specs.declared.program.ProgLine.{ProgLine}
use Rattle.bas_ast.specs.declared.program.Prog.{Prog}
use Rattle.bas_ast.specs.declared.terminals.Terminal.{Terminal}
use Rattle.bas_ast.specs.declared.terminals.Terminal.TheVariants as t
use Rattle.profile_check.specs.Cutting.{Cut, IsCut}
use Rattle.bas_rules.specs.Names.{name_of}
use Rattle.profile_check.specs.Programs.{IsProgram, AreLines, labels_of, numbered}
use Rattle.profile_check.specs.Tables.{Lists, no_lists, number_name, number_terminal, number_line, is_data}
use Rattle.bas_rules.specs.Texts.{quotation_mark, quoted_from, literal_text}

-- each text has at most as many bytes
abbrev pub AreShort : ℕ → List (List ℕ) → Type 0
AreShort most texts = AllByRecursion (λ text. length text ≤ most) texts

short_by : (is_mark : Bool) (c : ℕ) (xs ys rest : List ℕ) → length xs ≤ length rest → length ys ≤ length rest → length (if is_mark then xs else c ∷ ys) ≤ length (c ∷ rest)
short_by true c xs ys rest x y = omega (arith, x)
short_by false c xs ys rest x y = omega (arith, y)

short_after : (is_mark : Bool) (c : ℕ) (xs rest : List ℕ) → length xs ≤ length rest → length (if is_mark then c ∷ xs else []) ≤ length (c ∷ rest)
short_after true c xs rest x = omega (arith, x)
short_after false c xs rest x = omega arith

pub quoted_short : (after_mark : Bool) (bytes : List ℕ) → length (quoted_from after_mark bytes) ≤ length bytes
quoted_short after_mark [] = omega arith
quoted_short false (c ∷ rest) = short_by (c == quotation_mark) c (quoted_from true rest) (quoted_from false rest) rest (quoted_short true rest) (quoted_short false rest)
quoted_short true (c ∷ rest) = short_after (c == quotation_mark) c (quoted_from false rest) rest (quoted_short false rest)

literal_short : (bytes : List ℕ) → length (literal_text bytes) ≤ length bytes
literal_short [] = omega arith
literal_short (mark ∷ rest) = omega (arith, quoted_short false rest)

pub part_short : (text : List ℕ) (from to : ℕ) → length (slice_range text from to) ≤ length text
part_short text from to = omega (arith, length-take (to - from) (drop from text), length-drop from text)

one_short_more : (most : ℕ) (texts : List (List ℕ)) (text : List ℕ) → AreShort most texts → length text ≤ most → AreShort most (texts ++ text ∷ [])
one_short_more most [] text all short = (short, tt)
one_short_more most (x ∷ texts) text all short = (all.0, one_short_more most texts text all.1 short)

name_short : (most : ℕ) (terminal : Terminal) (lists : Lists) (name : Option Name) → AreShort most lists.texts → AreShort most (number_name terminal lists name).lists.texts
name_short most terminal lists None all = all
name_short most terminal lists (Some name) all = all

terminal_short : (most line : ℕ) (in_data : Bool) (bytes : List ℕ) (terminal : Terminal) (lists : Lists) → length bytes ≤ most → AreShort most lists.texts
    → AreShort most (number_terminal line in_data bytes terminal lists).lists.texts
terminal_short most line in_data bytes (t.Literal n) lists short all = one_short_more most lists.texts (literal_text bytes) all (omega (arith, literal_short bytes, short))
terminal_short most line in_data bytes (t.Tail n) lists short all = all
terminal_short most line in_data bytes terminal lists short all = name_short most terminal lists (name_of bytes terminal) all

line_short : (most line : ℕ) (text : List ℕ) (in_data : Bool) (symbols : List Sym) (terminals : List Terminal) (lists : Lists) → length text ≤ most → AreShort most lists.texts
    → AreShort most (number_line line text in_data symbols terminals lists).lists.texts
unfolding number_line
line_short most line text in_data [] terminals lists short all = all
line_short most line text in_data (symbol ∷ symbols) [] lists short all = all
line_short most line text in_data (symbol ∷ symbols) (terminal ∷ terminals) lists short all =
    let bytes = slice_range text symbol.from symbol.to in
    let part : length bytes ≤ most = omega (arith, part_short text symbol.from symbol.to, short) in
    line_short most line text (is_data terminal) symbols terminals (number_terminal line in_data bytes terminal lists).lists short (terminal_short most line in_data bytes terminal lists part all)

-- the lines' texts are short
AreShortCuts : ℕ → List Cut → Type 0
AreShortCuts most cuts = AllByRecursion (λ cut. length cut.text ≤ most) cuts

cuts_short : (most : ℕ) (asm : Bool) (lines : List Line) (cuts : List Cut) (bad : Option ℕ) → IsCut asm lines cuts bad → AllByRecursion (λ (l : Line). length l.text ≤ most) lines → AreShortCuts most cuts
unfolding AreShortCuts
cuts_short most asm [] [] bad so all = tt
cuts_short most asm [] (cut ∷ cuts) bad so all = elim so [ ]
cuts_short most asm (line ∷ lines) [] bad so all = tt
cuts_short most asm (line ∷ lines) (cut ∷ cuts) bad so all =
    (subst (λ (c : Cut). length c.text ≤ most) (sym so.3) all.0, cuts_short most so.1 lines cuts bad so.4 all.1)

lines_short : (most : ℕ) (labels : List Name) (place : ℕ) (lists after : Lists) (cuts : List Cut) (progs : List ProgLine) → AreLines labels place lists cuts progs after → AreShortCuts most cuts → AreShort most lists.texts
    → AreShort most after.texts
unfolding AreShortCuts
lines_short most labels place lists after [] [] so short all = subst (λ (l : Lists). AreShort most l.texts) (sym so) all
lines_short most labels place lists after [] (p ∷ progs) so short all = elim so [ ]
lines_short most labels place lists after (cut ∷ cuts) [] so short all = elim so [ ]
lines_short most labels place lists after (cut ∷ cuts) (p ∷ progs) so short all =
    lines_short most labels (place + 1) (numbered labels place lists cut).lists after cuts progs so.2 short.1 (line_short most place cut.text false cut.symbols _ lists short.0 all)

pub texts_short : (most : ℕ) (lines : List Line) (prog : Prog) → IsProgram lines prog → AllByRecursion (λ (l : Line). length l.text ≤ most) lines → AreShort most prog.texts
texts_short most lines prog is all =
    let spelled = is.spelled in
    subst (λ (texts : List (List ℕ)). AreShort most texts) (sym is.texts)
    (lines_short most (labels_of spelled.cuts) 0 no_lists is.lists spelled.cuts prog.lines spelled.are_lines (cuts_short most false lines spelled.cuts None spelled.cut all) tt)
