-- That a file is one program or is refused for one cause.
use Rattle.std.proofs.Common.{◌≡◌, ◌⊎◌, inl, inr, ℕ, ◌+◌, ◌^◌, ◌≤◌, ◌<◌, List, [], ◌∷◌, Result, Ok, Err, length, refl, sym, ap, subst, ◌∙◌, arith, length-append}
use Rattle.std.specs.List.{AllByRecursion}
use Rattle.std.specs.Result.{IfOk, IfErr, IsOkUnless, IsErrAnd}
use Rattle.std.proofs.lemmas.Bool.{cases_lt}
use Rattle.std.proofs.lemmas.List.Sums.{sum_by-cons}
use Rattle.bv_base.specs.Limits.{file_bytes}
use Rattle.token_file.specs.declared.line.Line.{Line}
use Rattle.token_file.specs.Lines.{Lines, Malformed, record_of}
use Rattle.token_file.proofs.OneReading.{one_reading}
use Rattle.bas_ast.specs.declared.program.Prog.{Prog}
use Rattle.profile_check.specs.declared.refusal.Refusal.{Refusal}
use Rattle.profile_check.specs.declared.refusal.Refusal.TheVariants as refusals
use Rattle.profile_check.specs.declared.refusal.Which.TheVariants as limits
use Rattle.profile_check.specs.Files.{Accepted, TooLong, NoLines, BadLines, HoldsOfFile, Refused, FileExplained}
use Rattle.profile_check.specs.Programs.{IsProgram, file_size}
use Rattle.profile_check.specs.Refused.{FirstOf, AreRefused, Explained}
use Rattle.profile_check.proofs.Decided.{program_or_refused}
use Rattle.profile_check.proofs.Verdicts as lines

-- the lines of a file are short
pub lines_short : (bytes : List ℕ) (ls : List Line) → Lines bytes ls → AllByRecursion (λ (l : Line). length l.text ≤ 251) ls
lines_short bytes [] read = tt
lines_short bytes (l ∷ ls) read = (read.1.short, lines_short read.0 ls read.3)

-- and their records no longer than it
pub size_within : (bytes : List ℕ) (ls : List Line) → Lines bytes ls → file_size ls ≤ length bytes
size_within bytes [] read = omega (arith, ap length read.1)
size_within bytes (l ∷ ls) read =
    let more = size_within read.0 ls read.3 in
    omega (arith, more, ap length read.2, length-append (record_of l) read.0, sum_by-cons (λ (k : Line). 4 + length k.text) l ls)

pub size_small : (bytes : List ℕ) (ls : List Line) → Lines bytes ls → length bytes ≤ file_bytes → file_size ls < 2 ^ 32
size_small bytes ls read short = omega (arith, size_within bytes ls read, short)

not_long : (bytes : List ℕ) → length bytes ≤ file_bytes → (other : Refusal) → HoldsOfFile bytes TooLong other → ⊥
not_long bytes short other long = omega (arith, short, long.0)

not_malformed : (bytes : List ℕ) (ls : List Line) → Lines bytes ls → (other : Refusal) → HoldsOfFile bytes NoLines other → ⊥
not_malformed bytes ls read other bad = (one_reading bytes).never_both ls bad.0 read bad.1

pub refused_malformed : (bytes : List ℕ) (at : ℕ) → length bytes ≤ file_bytes → Malformed bytes at → Refused bytes (refusals.Malformed at)
refused_malformed bytes at short bad = inr (not_long bytes short, inl (at, bad, refl))

refused_lines : (bytes : List ℕ) (ls : List Line) (reason : Refusal) → length bytes ≤ file_bytes → Lines bytes ls → AreRefused ls reason → Refused bytes reason
refused_lines bytes ls reason short read why = inr (not_long bytes short, inr (not_malformed bytes ls read, inl (ls, read, why)))

-- a refusal of the lines is one of the file
pub explained_file : (bytes : List ℕ) (ls : List Line) (reason : Refusal) → length bytes ≤ file_bytes → Lines bytes ls → Explained ls reason → FileExplained bytes reason
explained_file bytes ls (refusals.Malformed at) short read why = refused_lines bytes ls (refusals.Malformed at) short read why
explained_file bytes ls (refusals.Outside line) short read why = refused_lines bytes ls (refusals.Outside line) short read why
explained_file bytes ls (refusals.Limit which count) short read why = refused_lines bytes ls (refusals.Limit which count) short read why
explained_file bytes ls refusals.NoMemory short read why = tt

-- ---- one program, one refusal, and never both

same_lines : (bytes : List ℕ) (ls ks : List Line) → Lines bytes ls → Lines bytes ks → ls ≡ ks
same_lines bytes ls ks a b = (one_reading bytes).read_once ls ks a b

pub accepted_once : (bytes : List ℕ) (p q : Prog) → Accepted bytes p → Accepted bytes q → p ≡ q
accepted_once bytes p q a b =
    lines.program_once b.lines p q (subst (λ (ls : List Line). IsProgram ls p) (same_lines bytes a.lines b.lines a.read b.read) a.program) b.program

lines_once : (bytes : List ℕ) (r s : Refusal) → FirstOf (HoldsOfFile bytes) (BadLines ∷ []) r → FirstOf (HoldsOfFile bytes) (BadLines ∷ []) s → r ≡ s
lines_once bytes r s (inl a) (inl b) = lines.refused_once b.0 r s (subst (λ (ls : List Line). AreRefused ls r) (same_lines bytes a.0 b.0 a.1 b.1) a.2) b.2
lines_once bytes r s (inl a) (inr b) = absurd b.1
lines_once bytes r s (inr a) b = absurd a.1

later_once : (bytes : List ℕ) (r s : Refusal) → FirstOf (HoldsOfFile bytes) (NoLines ∷ BadLines ∷ []) r → FirstOf (HoldsOfFile bytes) (NoLines ∷ BadLines ∷ []) s → r ≡ s
later_once bytes r s (inl a) (inl b) = a.2 ∙ ap refusals.Malformed ((one_reading bytes).malformed_once a.0 b.0 a.1 b.1) ∙ sym b.2
later_once bytes r s (inl a) (inr b) = absurd (b.0 r a)
later_once bytes r s (inr a) (inl b) = absurd (a.0 s b)
later_once bytes r s (inr a) (inr b) = lines_once bytes r s a.1 b.1

pub refused_once : (bytes : List ℕ) (r s : Refusal) → Refused bytes r → Refused bytes s → r ≡ s
refused_once bytes r s (inl a) (inl b) = a.1 ∙ sym b.1
refused_once bytes r s (inl a) (inr b) = absurd (b.0 r a)
refused_once bytes r s (inr a) (inl b) = absurd (a.0 s b)
refused_once bytes r s (inr a) (inr b) = later_once bytes r s a.1 b.1

lines_never : (bytes : List ℕ) (prog : Prog) (reason : Refusal) → Accepted bytes prog → FirstOf (HoldsOfFile bytes) (BadLines ∷ []) reason → ⊥
lines_never bytes prog reason a (inl b) =
    lines.never_both b.0 prog reason (subst (λ (ls : List Line). IsProgram ls prog) (same_lines bytes a.lines b.0 a.read b.1) a.program) b.2
lines_never bytes prog reason a (inr b) = b.1

later_never : (bytes : List ℕ) (prog : Prog) (reason : Refusal) → Accepted bytes prog → FirstOf (HoldsOfFile bytes) (NoLines ∷ BadLines ∷ []) reason → ⊥
later_never bytes prog reason a (inl b) = not_malformed bytes a.lines a.read reason b
later_never bytes prog reason a (inr b) = lines_never bytes prog reason a b.1

pub never_both : (bytes : List ℕ) (prog : Prog) (reason : Refusal) → Accepted bytes prog → Refused bytes reason → ⊥
never_both bytes prog reason a (inl b) = omega (arith, a.short, b.0)
never_both bytes prog reason a (inr b) = later_never bytes prog reason a b.1

pub accepted_or_refused : (bytes : List ℕ) → ((prog : Prog) × Accepted bytes prog) ⊎ ((reason : Refusal) × Refused bytes reason)
accepted_or_refused bytes = elim (cases_lt file_bytes (length bytes)) [
  | inl long ↦ inr (refusals.Limit limits.File (file_bytes + 1), inl (long, refl))
  | inr short ↦ (elim (one_reading bytes).read_or_malformed [
    | inr bad ↦ inr (refusals.Malformed bad.0, refused_malformed bytes bad.0 short bad.1)
    | inl read ↦ (elim (program_or_refused read.0) [
      | inl program ↦ inl (program.0, record { short = short; lines = read.0; read = read.1; program = program.1 })
      | inr why ↦ inr (why.0, refused_lines bytes read.0 why.0 short read.1 why.1)
    ])
  ])
]

-- ---- what an answer says

pub accepts_accepted : {T : Type 0} (bytes : List ℕ) (result : Result T Refusal) (prog : Prog) → IfErr result (FileExplained bytes) → Accepted bytes prog → IsOkUnless result refusals.NoMemory
accepts_accepted bytes (Ok p) prog why a = tt
accepts_accepted bytes (Err (refusals.Malformed at)) prog why a = absurd (never_both bytes prog (refusals.Malformed at) a why)
accepts_accepted bytes (Err (refusals.Outside line)) prog why a = absurd (never_both bytes prog (refusals.Outside line) a why)
accepts_accepted bytes (Err (refusals.Limit which count)) prog why a = absurd (never_both bytes prog (refusals.Limit which count) a why)
accepts_accepted bytes (Err refusals.NoMemory) prog why a = refl

pub refuses_refused : {T : Type 0} (bytes : List ℕ) (result : Result T Refusal) (reason : Refusal) → IfOk result (λ _. (prog : Prog) × Accepted bytes prog) → IfErr result (FileExplained bytes) → Refused bytes reason
    → IsErrAnd result (λ error. (error ≡ reason) ⊎ (error ≡ refusals.NoMemory))
refuses_refused bytes (Ok p) reason is why r = absurd (never_both bytes is.0 reason is.1 r)
refuses_refused bytes (Err (refusals.Malformed at)) reason is why r = inl (refused_once bytes (refusals.Malformed at) reason why r)
refuses_refused bytes (Err (refusals.Outside line)) reason is why r = inl (refused_once bytes (refusals.Outside line) reason why r)
refuses_refused bytes (Err (refusals.Limit which count)) reason is why r = inl (refused_once bytes (refusals.Limit which count) reason why r)
refuses_refused bytes (Err refusals.NoMemory) reason is why r = inr refl

-- an answer on the lines is one on the file
pub answer_explained : (bytes : List ℕ) (ls ks : List Line) (result : Result Prog Refusal) → length bytes ≤ file_bytes → Lines bytes ls → ks ≡ ls → IfErr result (Explained ks) → IfErr result (FileExplained bytes)
answer_explained bytes ls ks (Ok prog) short read same why = tt
answer_explained bytes ls ks (Err reason) short read same why = explained_file bytes ls reason short read (subst (λ (l : List Line). Explained l reason) same why)
