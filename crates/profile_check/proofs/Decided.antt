-- That lines are a program or are refused.
use Rattle.std.proofs.Common.{◌≡◌, ◌⊎◌, inl, inr, ℕ, ◌+◌, ◌≤◌, ◌<◌, Bool, true, false, List, [], ◌∷◌, Option, Some, None, length, refl, sym, ◌∙◌}
use Rattle.std.specs.List.{list_all}
use Rattle.std.proofs.lemmas.Bool.{cases_lt}
use Rattle.bv_base.specs.Limits as limit
use Rattle.token_file.specs.declared.line.Line.{Line}
use Rattle.bas_lex.proofs.Decided.{cut_or_bad}
use Rattle.bas_ast.specs.declared.lines.Item.{Item}
use Rattle.bas_ast.specs.declared.program.Name.{Name}
use Rattle.bas_ast.specs.declared.program.Prog.{Prog}
use Rattle.bas_ast.specs.declared.program.ProgLine.{ProgLine}
use Rattle.bas_ast.specs.Lines.{IsRun}
use Rattle.bas_parse.specs.Runs.{run_items}
use Rattle.bas_parse.proofs.CompleteRuns.{one_run, run_none}
use Rattle.bas_parse.proofs.SoundLines.{run_sound}
use Rattle.profile_check.specs.declared.refusal.Refusal.{Refusal}
use Rattle.profile_check.specs.Cutting.{Cut, IsCut, with_symbols}
use Rattle.bas_rules.specs.Profile.{in_profile}
use Rattle.profile_check.specs.Programs.{IsLine, AreLines, AreSpelled, IsProgram, numbered, labels_of, file_size}
use Rattle.profile_check.specs.Refused.{IsFirstOutside, AreRefused}
use Rattle.bas_rules.specs.Structures.{first_unclosed}
use Rattle.profile_check.specs.Tables.{Lists, no_lists}
use Rattle.profile_check.proofs.LineSteps.{no_meaning, outside_after}
use Rattle.profile_check.proofs.Verdicts.{closed_where_none, refused_outside, refused_unclosed, refused_names}

-- lines are cut, all of them or up to a bad place
lines_cut : (asm : Bool) (lines : List Line) → (cuts : List Cut) × (bad : Option ℕ) × IsCut asm lines cuts bad
lines_cut asm [] = ([], None, refl)
lines_cut asm (line ∷ lines) = elim (cut_or_bad asm line.text) [
  | inl cut ↦ (let rest = lines_cut cut.1 lines in (with_symbols asm line cut.0 ∷ rest.0, rest.1, (cut.0, cut.1, cut.2, refl, rest.2)))
  | inr bad ↦ ([], Some line.number, (bad.0, bad.1, refl))
]

line_meant : (labels : List Name) (place : ℕ) (lists : Lists) (cut : Cut) (items : List Item) → cut.asm ≡ false → IsRun (numbered labels place lists cut).terminals items → (meant : Bool) → list_all in_profile items ≡ meant
    → ((xs : List Item) × IsLine labels place lists cut xs) ⊎ ((xs : List Item) → IsLine labels place lists cut xs → ⊥)
line_meant labels place lists cut items outside run true e = inl (items, record { outside = outside; is_run = run; has_meaning = e })
line_meant labels place lists cut items outside run false e =
    inr (no_meaning labels place lists cut (numbered labels place lists cut).terminals items (one_run (numbered labels place lists cut).terminals) run refl e)

-- a line with a list of items or none, by whether it begins in the assembler and whether the items have a meaning
line_by : (labels : List Name) (place : ℕ) (lists : Lists) (cut : Cut) (asm : Bool) (found : Option (List Item)) → cut.asm ≡ asm → run_items (numbered labels place lists cut).terminals ≡ found
    → ((items : List Item) × IsLine labels place lists cut items) ⊎ ((items : List Item) → IsLine labels place lists cut items → ⊥)
line_by labels place lists cut true found is_asm is_found = inr (λ items line. let both : true ≡ false = sym is_asm ∙ line.outside in cc)
line_by labels place lists cut false None is_asm is_found = inr (λ items line. run_none (numbered labels place lists cut).terminals is_found items line.is_run)
line_by labels place lists cut false (Some items) is_asm is_found = line_meant labels place lists cut items is_asm (run_sound (numbered labels place lists cut).terminals items is_found) (list_all in_profile items) refl

-- a line has items or none
line_or_none : (labels : List Name) (place : ℕ) (lists : Lists) (cut : Cut) → ((items : List Item) × IsLine labels place lists cut items) ⊎ ((items : List Item) → IsLine labels place lists cut items → ⊥)
line_or_none labels place lists cut = line_by labels place lists cut cut.asm (run_items (numbered labels place lists cut).terminals) refl refl

-- lines are spelled, or one is the first that is outside
lines_or_outside : (labels : List Name) (place : ℕ) (lists : Lists) (cuts : List Cut)
    → ((progs : List ProgLine) × (after : Lists) × AreLines labels place lists cuts progs after) ⊎ ((number : ℕ) × ((bad : Option ℕ) → IsFirstOutside labels place lists cuts bad number))
lines_or_outside labels place lists [] = inl ([], lists, refl)
lines_or_outside labels place lists (cut ∷ cuts) = elim (line_or_none labels place lists cut) [
  | inr none ↦ inr (cut.number, λ bad. inl (none, refl))
  | inl line ↦ (elim (lines_or_outside labels (place + 1) (numbered labels place lists cut).lists cuts) [
    | inl rest ↦ inl (record { number = cut.number; items = line.0 } ∷ rest.0, rest.1, (refl, line.1, rest.2))
    | inr more ↦ inr (more.0, λ bad. inr (line.0, line.1, more.1 bad))
  ])
]

-- ---- of whole files

-- a program, or a refusal
Verdict : List Line → Type 0
Verdict lines = ((prog : Prog) × IsProgram lines prog) ⊎ ((reason : Refusal) × AreRefused lines reason)

names_decided : (lines : List Line) (progs : List ProgLine) (lists : Lists) → AreSpelled lines progs lists → first_unclosed progs ≡ None
    → ((limit.names < length lists.names) ⊎ (length lists.names ≤ limit.names)) → Verdict lines
unfolding Verdict
names_decided lines progs lists spelled none (inl many) = inr (_, refused_names lines progs lists spelled none many)
names_decided lines progs lists spelled none (inr few) =
    inl (
      record { lines = progs; names = lists.names; texts = lists.texts; data_items = lists.data_items; size = file_size lines },
      record { lists = lists; spelled = spelled; closed = closed_where_none progs none; names = refl; few_names = few; texts = refl; data_items = refl; size = refl },
    )

structures_decided : (lines : List Line) (progs : List ProgLine) (lists : Lists) → AreSpelled lines progs lists → (first : Option ℕ) → first_unclosed progs ≡ first → Verdict lines
unfolding Verdict
structures_decided lines progs lists spelled (Some number) e = inr (_, refused_unclosed lines progs lists number spelled e)
structures_decided lines progs lists spelled None e = names_decided lines progs lists spelled e (cases_lt limit.names (length lists.names))

spelled_decided : (lines : List Line) (cuts : List Cut) (bad : Option ℕ) → IsCut false lines cuts bad → (progs : List ProgLine) (after : Lists) → AreLines (labels_of cuts) 0 no_lists cuts progs after → Verdict lines
unfolding Verdict
spelled_decided lines cuts None cut progs after are = structures_decided lines progs after (record { cuts = cuts; cut = cut; are_lines = are }) (first_unclosed progs) refl
spelled_decided lines cuts (Some number) cut progs after are =
    inr (_, refused_outside lines number (record { cuts = cuts; bad = Some number; cut = cut; first = outside_after (labels_of cuts) 0 no_lists after cuts progs (Some number) number are refl }))

pub program_or_refused : (lines : List Line) → ((prog : Prog) × IsProgram lines prog) ⊎ ((reason : Refusal) × AreRefused lines reason)
unfolding Verdict
program_or_refused lines =
    let cut = lines_cut false lines in
    elim (lines_or_outside (labels_of cut.0) 0 no_lists cut.0) [
      | inl spelled ↦ spelled_decided lines cut.0 cut.1 cut.2 spelled.0 spelled.1 spelled.2
      | inr out ↦ inr (_, refused_outside lines out.0 (record { cuts = cut.0; bad = cut.1; cut = cut.2; first = out.1 cut.1 }))
    ]
