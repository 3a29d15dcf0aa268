-- The longest symbol at the front of a text, kind by kind.
use Rattle.std.proofs.Common.{◌≡◌, ℕ, List, ◌++◌, Option, Some, None}
use Rattle.bas_lex.specs.declared.front.Front.{Front}
use Rattle.bas_lex.specs.declared.symbol.SymKind.{SymKind}
use Rattle.bas_lex.specs.Cut.{Begins}
use Rattle.bas_lex.specs.Scan.{Best}

pub begins_map : (F G : SymKind → List ℕ → List ℕ → Type 0) (text : List ℕ) (kind : SymKind) (size : ℕ) → ((k : SymKind) (bytes rest : List ℕ) → text ≡ bytes ++ rest → F k bytes rest → G k bytes rest) → Begins F text kind size → Begins G text kind size
begins_map F G text kind size f b = record { bytes = b.bytes; rest = b.rest; split = b.split; size_is = b.size_is; is = f kind b.bytes b.rest b.split b.is }

-- of symbols that are the same at this text the same one is the longest
pub best_map : (F G : SymKind → List ℕ → List ℕ → Type 0) (text : List ℕ) (found : Option Front) → ((k : SymKind) (bytes rest : List ℕ) → text ≡ bytes ++ rest → F k bytes rest → G k bytes rest) → ((k : SymKind) (bytes rest : List ℕ) → text ≡ bytes ++ rest → G k bytes rest → F k bytes rest) → Best F text found → Best G text found
best_map F G text None f g best = λ kind size b. best kind size (begins_map G F text kind size g b)
best_map F G text (Some front) f g best = record {
  begins = begins_map F G text front.kind front.size f best.begins;
  longest = λ other n b. best.longest other n (begins_map G F text other n g b);
}
