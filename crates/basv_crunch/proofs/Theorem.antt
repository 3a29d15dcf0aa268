-- What the file that the end answers is worth: it reads back, lists as the text in normal form, and is that text's file.
use Rattle.std.proofs.Common.{◌≡◌, ℕ, ◌≤◌, List, length, Result, Ok, Err, IfOk, Vec, Global, sym, ap, subst, ◌∙◌}
use Rattle.bv_base.specs.Limits.{crunched_file_bytes}
use Rattle.token_file.specs.declared.line.Line.{Line}
use Rattle.token_file.specs.Lines.{Lines, HasOneReading, file_of}
use Rattle.lister.specs.Listings.{listings}
use Rattle.basv_crunch.specs.declared.error.CrunchError.{CrunchError}
use Rattle.basv_crunch.specs.Crunched.{IsText, IsFileOf}
use Rattle.basv_crunch.specs.NormalForm.{ReadsBack}
use Rattle.basv_crunch.proofs.PieceLines.{one_file}
use Rattle.basv_crunch.proofs.ListedParts.{text_listed}
use Rattle.basv_crunch.proofs.Again.{text_again}

-- the listing of a text's lines has the file of the text
file_again : (text : List ℕ) (lines : List Line) (file : List ℕ) → IsText text lines → file ≡ file_of lines → length file ≤ crunched_file_bytes → IsFileOf (listings lines) file
file_again text lines file is exact short =
    subst (λ t. IsFileOf t file) (sym (text_listed text lines is)) (record { lines = lines; is_text = text_again text lines is; exact = exact; short = short })

pub reads_or_not : (text : List ℕ) (lines lines' : List Line) (answer : Result (Vec ℕ Global) CrunchError) → IsText text lines → lines' ≡ lines → IfOk answer (λ file. (file.items ≡ file_of lines') × (length file.items ≤ crunched_file_bytes)) → IfOk answer (λ file. Lines file.items lines' × HasOneReading file.items lines') → IfOk answer (λ file. ReadsBack text file.items)
reads_or_not text lines lines' (Ok file) is same exact read =
    let again = file_again text lines file.items is (exact.0 ∙ ap file_of same) exact.1 in
    record {
      lines = lines;
      is_text = is;
      read = subst (Lines file.items) same read.0;
      once = subst (HasOneReading file.items) same read.1;
      listing = text_listed text lines is;
      again = again;
      again_only = λ other also. one_file (listings lines) other file.items also again;
    }
reads_or_not text lines lines' (Err error) is same exact read = tt
