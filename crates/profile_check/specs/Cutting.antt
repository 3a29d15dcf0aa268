-- How the lines of a program are cut into symbols.
use Rattle.std.specs.Prelude.{◌≡◌, ℕ, Bool, List, [], ◌∷◌, Option, Some, None, map}
use Rattle.token_file.specs.declared.line.Line.{Line}
use Rattle.bas_lex.specs.declared.symbol.Sym.{Sym}
use Rattle.bas_lex.specs.Cut.{Symbols, Bad}
use Rattle.profile_check.specs.declared.cut_line.CutLine.{CutLine}

-- A line with its symbols, and whether it begins inside the assembler.
pub record Cut : Type 0 where
  pub number : ℕ
  pub text : List ℕ
  pub asm : Bool
  pub symbols : List Sym

-- a line that the code has cut
abbrev pub cut_of : CutLine → Cut
cut_of cut = record { number = cut.number; text = cut.text.now; asm = cut.asm; symbols = cut.symbols }

abbrev pub cuts_of : List CutLine → List Cut
cuts_of cuts = map cut_of cuts

-- a line that begins inside the assembler or outside, with these symbols
abbrev pub with_symbols : Bool → Line → List Sym → Cut
with_symbols asm line symbols = record { number = line.number; text = line.text; asm = asm; symbols = symbols }

-- The lines are cut one after another, each read with the assembler as the line before left it: all of them, or those before
-- the first line that has a place where no symbol begins, which has this number. This project's own.
abbrev pub IsCut : Bool → List Line → List Cut → Option ℕ → Type 0
IsCut asm [] [] bad = bad ≡ None
IsCut asm [] (cut ∷ cuts) bad = ⊥
IsCut asm (line ∷ lines) [] bad = (at : ℕ) × Bad asm line.text at × (bad ≡ Some line.number)
IsCut asm (line ∷ lines) (cut ∷ cuts) bad =
    (symbols : List Sym) × (after : Bool) × Symbols asm line.text symbols after × (cut ≡ with_symbols asm line symbols) × IsCut after lines cuts bad
