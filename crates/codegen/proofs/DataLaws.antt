-- How the bytes of texts, and their words, follow one another.
use Rattle.std.proofs.Common.{◌≡◌, ℕ, ◌+◌, ◌*◌, ◌^◌, ◌<◌, ◌≤◌, List, [], ◌∷◌, ◌++◌, length, get_or, drop, refl, sym, ap, ◌∙◌, arith, append_assoc, append-nil}
use Rattle.std.specs.Prelude.{flat_map, slice_index_or}
use Rattle.std.proofs.lemmas.List.{drop_more, drop_all, drop-drop, get_or-drop, length-drop}
use Rattle.std.specs.Int.{div_ceil}
use Rattle.arm_isa.specs.declared.instruction.Instr.{Instr}
use Rattle.arm_isa.specs.Words.{means}
use Rattle.code_frag.specs.declared.item.Item.{Item}
use Rattle.code_frag.specs.declared.item.Item.TheVariants.{Ins}
use Rattle.codegen.specs.Emission.{word_from}
use Rattle.codegen.specs.Program.{packed, data_items}

-- ---- pieces of bytes, one after another

module _ {X : Type 0} (f : X → List ℕ) (all : List ℕ) where
  pub pieces_step : (xs : List X) (i : ℕ) (d x : X) (before after : List ℕ) → i < length xs → x ≡ slice_index_or xs i d → after ≡ before ++ f x → before ++ flat_map f (drop i xs) ≡ all → after ++ flat_map f (drop (i + 1) xs) ≡ all
  pieces_step xs i d x before after within is more so_far =
      let next : drop i xs ≡ x ∷ drop (i + 1) xs = drop_more xs i d within ∙ ap (λ y. y ∷ drop (i + 1) xs) (sym is) in
      ap (λ bytes. bytes ++ flat_map f (drop (i + 1) xs)) more ∙ append_assoc before (f x) (flat_map f (drop (i + 1) xs)) ∙ sym (ap (λ rest. before ++ flat_map f rest) next) ∙ so_far

  pub pieces_end : (xs : List X) (i : ℕ) (before : List ℕ) → length xs ≤ i → before ++ flat_map f (drop i xs) ≡ all → before ≡ all
  pieces_end xs i before past so_far =
      let none : drop i xs ≡ [] = drop_all i xs past in
      sym (append-nil before) ∙ sym (ap (λ rest. before ++ flat_map f rest) none) ∙ so_far

-- ---- words

packed-first : (bytes : List ℕ) → 0 < length bytes → packed bytes ≡ word_from bytes 0 ∷ packed (drop 4 bytes)
packed-first [] some = absurd (omega (arith, some))
packed-first (a ∷ []) some = ap (λ w. w ∷ []) (omega arith)
packed-first (a ∷ b ∷ []) some = ap (λ w. w ∷ []) (omega arith)
packed-first (a ∷ b ∷ c ∷ []) some = ap (λ w. w ∷ []) (omega arith)
packed-first (a ∷ b ∷ c ∷ d ∷ rest) some = refl

word_from-drop : (bytes : List ℕ) (n : ℕ) → word_from (drop n bytes) 0 ≡ word_from bytes n
word_from-drop bytes n =
    let zero_more : n + 0 ≡ n = omega arith in
    λ i. (get_or-drop n bytes 0 0 ∙ ap (λ k. get_or bytes k 0) zero_more) i + get_or-drop n bytes 1 0 i * 2 ^ 8 + get_or-drop n bytes 2 0 i * 2 ^ 16 + get_or-drop n bytes 3 0 i * 2 ^ 24

pub words_step : (bytes : List ℕ) (k : ℕ) (i : Instr) (all before after : List Item) → k < div_ceil (length bytes) 4 → i ≡ means (word_from bytes (k * 4)) → after ≡ before ++ Ins i ∷ []
    → before ++ data_items (packed (drop (k * 4) bytes)) ≡ all → after ++ data_items (packed (drop ((k + 1) * 4) bytes)) ≡ all
words_step bytes k i all before after within is more so_far =
    let left : 0 < length (drop (k * 4) bytes) = omega (arith, length-drop (k * 4) bytes, within) in
    let next : drop 4 (drop (k * 4) bytes) ≡ drop ((k + 1) * 4) bytes = drop-drop 4 (k * 4) bytes ∙ ap (λ n. drop n bytes) (omega arith) in
    let first : packed (drop (k * 4) bytes) ≡ word_from bytes (k * 4) ∷ packed (drop ((k + 1) * 4) bytes) = packed-first (drop (k * 4) bytes) left ∙ (λ j. word_from-drop bytes (k * 4) j ∷ packed (next j)) in
    ap (λ is. is ++ data_items (packed (drop ((k + 1) * 4) bytes))) (more ∙ ap (λ j. before ++ Ins j ∷ []) is)
    ∙ append_assoc before (Ins (means (word_from bytes (k * 4))) ∷ []) (data_items (packed (drop ((k + 1) * 4) bytes)))
    ∙ sym (ap (λ ws. before ++ data_items ws) first) ∙ so_far
