-- An image of an accepted program's words is what its file compiles to, and refusals exclude each other.
use Rattle.std.proofs.Common.{◌≡◌, ℕ, ◌≤◌, List, [], ◌∷◌, length, sym, subst, arith}
use Rattle.std.specs.Prelude.{map}
use Rattle.std.specs.List.{AllByRecursion}
use Rattle.bas_ast.specs.declared.program.DataItem.{DataItem}
use Rattle.bas_ast.specs.declared.program.Prog.{Prog}
use Rattle.bas_compile.specs.Correct.{CompilesTo}
use Rattle.bas_ir.specs.declared.ir.Ir.{Ir}
use Rattle.bas_ir.specs.Machine.{flat_run}
use Rattle.bas_sem.specs.Meaning.{source_run}
use Rattle.bv_base.specs.Limits.{file_bytes}
use Rattle.bv_base.specs.Words.{AreWords}
use Rattle.bv_run.specs.Outcome.{RunsAgree}
use Rattle.bv_run.proofs.Agreement.{agree-agree}
use Rattle.arm2_machine.specs.Image.{ImageOf}
use Rattle.arm2_machine.specs.Step.{board_run}
use Rattle.arm2_machine.proofs.Images.{one_image}
use Rattle.codegen.specs.Agrees.{Agrees}
use Rattle.ir_build.specs.Code.{flat_code}
use Rattle.profile_check.specs.Files.{Accepted}
use Rattle.profile_check.proofs.FileVerdicts.{size_within, accepted_once}

-- the size of an accepted program
pub size_short : (bytes : List ℕ) (prog : Prog) → Accepted bytes prog → prog.size ≤ file_bytes
size_short bytes prog a = let within = size_within bytes a.lines a.read in let size = a.program.size in let short = a.short in omega (arith, within, size, short)

texts_short : (most : ℕ) (items : List DataItem) → AllByRecursion (λ (d : DataItem). length d.text ≤ most) items
    → AllByRecursion (λ (text : List ℕ). length text ≤ most) (map (λ d. d.text) items)
texts_short most [] short = tt
texts_short most (d ∷ ds) short = (short.0, texts_short most ds short.1)

-- the items of DATA of a flat code are no longer than those of its program
pub data_short : (most : ℕ) (prog : Prog) (ir : Ir) → ir ≡ flat_code prog → AllByRecursion (λ (d : DataItem). length d.text ≤ most) prog.data_items
    → AllByRecursion (λ (text : List ℕ). length text ≤ most) ir.data_items
data_short most prog ir is short =
    subst (λ (i : Ir). AllByRecursion (λ (text : List ℕ). length text ≤ most) i.data_items) (sym is) (texts_short most prog.data_items short)

-- contents that are an image of words that agree
pub compiles : (bytes contents words : List ℕ) (prog : Prog) → Accepted bytes prog → AreWords words → ImageOf contents words → Agrees (source_run prog) words → CompilesTo bytes contents
compiles bytes contents words prog accepted are image agrees = record {
  program = prog;
  words = words;
  accepted = accepted;
  only = λ other also. accepted_once bytes other prog also accepted;
  are_words = are;
  image = image;
  agrees = agrees;
}

-- whatever words the contents are an image of agree with the program
pub words_agree : (bytes contents words : List ℕ) (compiled : CompilesTo bytes contents) → AreWords words → ImageOf contents words → Agrees (source_run compiled.program) words
words_agree bytes contents words compiled are is =
    subst (Agrees (source_run compiled.program)) (sym ((one_image contents compiled.words compiled.are_words compiled.image).only words are is)) compiled.agrees

-- a program agrees with what its flat code agrees with
pub agrees_through : (prog : Prog) (ir : Ir) (words : List ℕ) → ir ≡ flat_code prog → ((input : List ℕ) → RunsAgree (source_run prog input) (flat_run (flat_code prog) input)) → Agrees (flat_run ir) words → Agrees (source_run prog) words
agrees_through prog ir words is first second input bytes =
    agree-agree (source_run prog input) (flat_run (flat_code prog) input) (board_run words input) (first input) (subst (λ i. RunsAgree (flat_run i input) (board_run words input)) is (second input bytes))
