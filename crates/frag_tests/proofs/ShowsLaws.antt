-- What the words of each program do on the board.
use Rattle.std.proofs.Common.{◌≡◌, ℕ, ◌/◌, ◌%◌, ◌<◌, List, [], ◌∷◌, ◌++◌, replicate, sym, subst}
use Rattle.bv_base.specs.Bytes.{zeros}
use Rattle.bv_base.specs.MemoryMap.{arena_bytes}
use Rattle.bv_run.specs.declared.report.Report.TheVariants.{Done}
use Rattle.bv_run.specs.Outcome.{Over}
use Rattle.arm2_machine.specs.Step.{board_run}
use Rattle.code_frag.specs.Words.{words_of}
use Rattle.code_frag.proofs.ExampleCopy.{copied_runs}
use Rattle.code_frag.proofs.ExampleCopy as copying
use Rattle.code_frag.proofs.ExampleDivision.{divided_runs}
use Rattle.code_frag.proofs.ExampleDivision as dividing
use Rattle.code_frag.proofs.ExampleFrame.{rows_runs}
use Rattle.code_frag.proofs.ExampleFrame as framing
use Rattle.frag_tests.specs.Shows.{Shows}

-- a run of some words is one of equal words
run_of : (words same : List ℕ) (input bytes : List ℕ) → words ≡ same → (steps : ℕ) × (board_run same input steps ≡ Over bytes (zeros arena_bytes) Done) → (steps : ℕ) × (board_run words input steps ≡ Over bytes (zeros arena_bytes) Done)
run_of words same input bytes is run = subst (λ ws. (steps : ℕ) × (board_run ws input steps ≡ Over bytes (zeros arena_bytes) Done)) (sym is) run

pub division_shows : (x y : ℕ) (words : List ℕ) → x < 256 → y < 256 → 0 < y → words ≡ words_of (dividing.program x y) → Shows words (x / y ∷ x % y ∷ [])
division_shows x y words small_x small_y some is = record {
  runs = λ input bytes. run_of words (words_of (dividing.program x y)) input (x / y ∷ x % y ∷ []) is (divided_runs x y input small_x small_y some bytes);
}

pub copying_shows : (x y : ℕ) (words : List ℕ) → x < 256 → y < 256 → words ≡ words_of (copying.program x y) → Shows words (x ∷ y ∷ [])
copying_shows x y words small_x small_y is = record {
  runs = λ input bytes. run_of words (words_of (copying.program x y)) input (x ∷ y ∷ []) is (copied_runs x y input small_x small_y bytes);
}

pub rows_show : (n : ℕ) (words : List ℕ) → n < 256 → words ≡ words_of (framing.program n) → Shows words (replicate n 32 ++ (10 ∷ 13 ∷ replicate n 32))
rows_show n words small is = record {
  runs = λ input bytes. run_of words (words_of (framing.program n)) input (replicate n 32 ++ (10 ∷ 13 ∷ replicate n 32)) is (rows_runs n input small bytes);
}
