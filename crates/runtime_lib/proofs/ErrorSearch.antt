-- The text of an error is found in the image's table.
use Rattle.std.proofs.Common.{◌≡◌, ℕ, suc, ◌+◌, ◌<◌, ◌≤◌, ◌==◌, nat_lt, true, if◌then◌else◌, List, [], ◌∷◌, ◌++◌, length, flat_map, refl, sym, ap, subst, ◌∙◌, arith, append_assoc, eqb-true, ltb-true, eq-eqb}
use Rattle.std.specs.List.{list_all}
use Rattle.std.proofs.lemmas.Bool.{eqb-false, ne_eqb, not-true, not-false, and_parts, false≢true}
use Rattle.bv_base.specs.MemoryMap.{ram_end}
use Rattle.bas_value.specs.Errors.{NumberedText, error_texts, error_text, text_among}
use Rattle.arm_isa.specs.Numbers.{NE}
use Rattle.arm2_alu.proofs.RegisterLaws.{updated}
use Rattle.arm2_alu.specs.declared.operations.Computed.{Computed}
use Rattle.arm2_alu.proofs.ValueLaws.{compared}
use Rattle.arm_core.specs.Core.{Core, put}
use Rattle.arm_core.specs.Effects.{flagged_by}
use Rattle.arm_core.proofs.Comparisons.{after-ne}
use Rattle.arm_core.proofs.MemoryWords.{updated-other}
use Rattle.code_frag.specs.Demands.{Post, on_falls, Owes}
use Rattle.code_frag.specs.Language.{Piece, Seq, While}
use Rattle.code_frag.specs.Regions.{error_texts_start}
use Rattle.code_frag.proofs.Rules.{Less, Turn, end_here, set_then, load_byte_then, test_then, when_then, while_then}
use Rattle.runtime_lib.specs.Entries.{bytes_from, HasErrorTexts, LibraryAsks, LibraryDoes}
use Rattle.runtime_lib.specs.Writing.{search_test, search_turn}

-- ---- the table in memory

-- texts stand from an address on, and then 255 with no text
abbrev IsTableAt : (ℕ → ℕ) → ℕ → List NumberedText → Type 0
IsTableAt m p [] = (m p ≡ 255) × (m (p + 1) ≡ 0)
IsTableAt m p (t ∷ ts) = (m p ≡ t.number) × (m (p + 1) ≡ length t.text) × (bytes_from m (p + 2) (length t.text) ≡ t.text) × IsTableAt m (p + 2 + length t.text) ts

-- the bytes of texts, and their number
abbrev table : List NumberedText → List ℕ
table ts = flat_map (λ t. t.number ∷ length t.text ∷ t.text) ts ++ 255 ∷ 0 ∷ []

abbrev table_size : List NumberedText → ℕ
table_size [] = 2
table_size (t ∷ ts) = 2 + length t.text + table_size ts

-- two rows of bytes, one after the other
bytes_apart : (m : ℕ → ℕ) (a : ℕ) (xs ys : List ℕ) → bytes_from m a (length (xs ++ ys)) ≡ xs ++ ys → (bytes_from m a (length xs) ≡ xs) × (bytes_from m (a + length xs) (length ys) ≡ ys)
bytes_apart m a [] ys is = (refl, ap (λ b. bytes_from m b (length ys)) (let e : a + 0 ≡ a = omega arith in e) ∙ is)
bytes_apart m a (x ∷ xs) ys is =
    let first : m a ≡ x = cc in
    let rest : bytes_from m (a + 1) (length (xs ++ ys)) ≡ xs ++ ys = cc in
    let parts = bytes_apart m (a + 1) xs ys rest in
    ((λ i. first i ∷ parts.0 i), ap (λ b. bytes_from m b (length ys)) (let e : a + suc (length xs) ≡ a + 1 + length xs = omega arith in e) ∙ parts.1)

table_stands : (m : ℕ → ℕ) (p : ℕ) (ts : List NumberedText) → bytes_from m p (length (table ts)) ≡ table ts → IsTableAt m p ts
table_stands m p [] is =
    let first : m p ≡ 255 = cc in
    let second : m (p + 1) ≡ 0 = cc in
    (first, second)
table_stands m p (t ∷ ts) is =
    let next = append_assoc t.text (flat_map (λ (u : NumberedText). u.number ∷ length u.text ∷ u.text) ts) (255 ∷ 0 ∷ []) in
    let whole : bytes_from m p (length (t.number ∷ length t.text ∷ (t.text ++ table ts))) ≡ t.number ∷ length t.text ∷ (t.text ++ table ts) =
    subst (λ l. bytes_from m p (length (t.number ∷ length t.text ∷ l)) ≡ t.number ∷ length t.text ∷ l) next is
    in
    let first : m p ≡ t.number = cc in
    let second : m (p + 1) ≡ length t.text = cc in
    let rest : bytes_from m (p + 1 + 1) (length (t.text ++ table ts)) ≡ t.text ++ table ts = cc in
    let parts = bytes_apart m (p + 1 + 1) t.text (table ts) rest in (
      first,
      second,
      ap (λ b. bytes_from m b (length t.text)) (let e : p + 2 ≡ p + 1 + 1 = omega arith in e) ∙ parts.0,
      table_stands m (p + 2 + length t.text) ts (ap (λ b. bytes_from m b (length (table ts))) (let e : p + 2 + length t.text ≡ p + 1 + 1 + length t.text = omega arith in e) ∙ parts.1),
    )

-- ---- the search

-- the error's text is the one at R2
pub record FindsText (s t : Core) : Type 0 where
  pub text : List ℕ
  pub text_is : text ≡ error_text (s.regs 9)
  pub count : s.mem (t.regs 2 + 1) ≡ length text
  pub bytes : bytes_from s.mem (t.regs 2 + 2) (length text) ≡ text
  pub inside : t.regs 2 + 2 + length text ≤ ram_end
  pub kept : (k : ℕ) → 5 ≤ k → t.regs k ≡ s.regs k
  pub mem : t.mem ≡ s.mem
  pub out : t.out ≡ s.out
  pub input : t.input ≡ s.input

-- the texts that are left, from R2 on
record Searching (s : Core) (ts : List NumberedText) (t : Core) : Type 0 where
  at : IsTableAt s.mem (t.regs 2) ts
  inside : t.regs 2 + table_size ts ≤ ram_end
  below : list_all (λ x. nat_lt x.number 255) ts ≡ true
  same : text_among ts (s.regs 9) ≡ error_text (s.regs 9)
  kept : (k : ℕ) → 5 ≤ k → t.regs k ≡ s.regs k
  mem : t.mem ≡ s.mem
  out : t.out ≡ s.out
  input : t.input ≡ s.input

-- n texts are left
record Left (s : Core) (n : ℕ) (t : Core) : Type 0 where
  texts : List NumberedText
  number : length texts ≡ n
  inv : Searching s texts t

module _ {rest : Piece} {Q : Post} (s : Core) (error : s.regs 9 < 256) (rest_owes : (t : Core) → FindsText s t → Owes LibraryAsks LibraryDoes rest Q t) where
  -- over one text
  turn : (x : NumberedText) (ts : List NumberedText) (t : Core) → Searching s (x ∷ ts) t → text_among ts (s.regs 9) ≡ error_text (s.regs 9) → Owes LibraryAsks LibraryDoes search_turn (on_falls (Less (Left s) (length (x ∷ ts))) Q) t
  turn x ts t c same =
      let p = t.regs 2 in
      let n = length x.text in
      load_byte_then (p + 1) n (omega (arith, c.inside)) ((λ i. c.mem i (p + 1)) ∙ c.at.1) (omega (arith, c.inside)) (λ small.
      set_then (p + 2) refl (omega (arith, c.inside))
      (set_then (p + 2 + n) refl (omega (arith, c.inside))
      (end_here (record {
        count = length ts;
        less = omega arith;
        inv = record {
          texts = ts;
          number = refl;
          inv = record {
            at = c.at.3;
            inside = omega (arith, c.inside);
            below = (and_parts (nat_lt x.number 255) (list_all (λ (y : NumberedText). nat_lt y.number 255) ts) c.below).1;
            same = same;
            kept = λ k high. updated-other (updated (updated t.regs 4 n) 2 (p + 2)) 2 (p + 2 + n) k (λ e. omega (arith, e, high)) ∙ updated-other (updated t.regs 4 n) 2 (p + 2) k (λ e. omega (arith, e, high))
                ∙ updated-other t.regs 4 n k (λ e. omega (arith, e, high)) ∙ c.kept k high;
            mem = c.mem;
            out = c.out;
            input = c.input;
          };
        };
      }))))

  -- after the number of a text is loaded and compared
  abbrev with_number : Computed → ℕ → Core → Core
  with_number y x t = flagged_by y (put 3 x t)

  with_number_inv : (ts : List NumberedText) (y : Computed) (x : ℕ) (t : Core) → Searching s ts t → Searching s ts (with_number y x t)
  with_number_inv ts y x t c = record {
    at = c.at;
    inside = c.inside;
    below = c.below;
    same = c.same;
    kept = λ k high. updated-other t.regs 3 x k (λ e. omega (arith, e, high)) ∙ c.kept k high;
    mem = c.mem;
    out = c.out;
    input = c.input;
  }

  -- the test by what it says of the number at R2: it is the error's, or the table's end, or neither
  by_number : (n x : ℕ) (t : Core) → x < 256 → t.mem (t.regs 2) ≡ x → t.regs 9 ≡ s.regs 9 → t.regs 2 < ram_end → ((y : Computed) → x ≡ s.regs 9 → Owes LibraryAsks LibraryDoes rest Q (with_number y x t))
      → ((y : Computed) → (x ≡ s.regs 9 → ⊥) → x ≡ 255 → Owes LibraryAsks LibraryDoes rest Q (with_number y x t))
      → ((y : Computed) → (x ≡ s.regs 9 → ⊥) → (x ≡ 255 → ⊥) → Owes LibraryAsks LibraryDoes search_turn (on_falls (Less (Left s) n) Q) (with_number y x t))
      → Owes LibraryAsks LibraryDoes search_test (on_falls (Turn LibraryAsks LibraryDoes NE search_turn rest Q (Left s) n) Q) t
  by_number n x t byte there nine inside found ends more =
      let e = s.regs 9 in
      let first = after-ne x e t (omega (arith, byte)) (omega (arith, error)) in
      let second = after-ne x 255 t (omega (arith, byte)) (omega arith) in
      load_byte_then (t.regs 2) x (omega (arith, inside)) there inside (λ small.
      test_then (compared x e) refl (ap (compared x) nine)
      (when_then
      (λ h.
      let other = eqb-false x e (not-true (x == e) (sym first ∙ h)) in
      test_then (compared x 255) refl refl
      (end_here (end_here (record {
        more = λ g. more (compared x 255) other (eqb-false x 255 (not-true (x == 255) (sym second ∙ g)));
        done = λ g. ends (compared x 255) other (eqb-true x 255 (not-false (x == 255) (sym second ∙ g)));
      }))))
      (λ h.
      end_here (record {
        more = λ g. absurd (false≢true (sym h ∙ g));
        done = λ g. found (compared x e) (eqb-true x e (not-false (x == e) (sym first ∙ h)));
      }))))

  -- the text of a number that is the error's
  finds : (x : NumberedText) (ts : List NumberedText) (t : Core) → Searching s (x ∷ ts) t → x.number ≡ s.regs 9 → FindsText s t
  finds x ts t c is = record {
    text = x.text;
    text_is = ap (λ b. if b then x.text else text_among ts (s.regs 9)) (sym (eq-eqb (s.regs 9) x.number (sym is))) ∙ c.same;
    count = c.at.1;
    bytes = c.at.2;
    inside = omega (arith, c.inside);
    kept = c.kept;
    mem = c.mem;
    out = c.out;
    input = c.input;
  }

  -- no text
  finds_none : (t : Core) → Searching s [] t → FindsText s t
  finds_none t c = record {
    text = [];
    text_is = c.same;
    count = c.at.1;
    bytes = refl;
    inside = omega (arith, c.inside);
    kept = c.kept;
    mem = c.mem;
    out = c.out;
    input = c.input;
  }

  by_texts : (ts : List NumberedText) (t : Core) → Searching s ts t → Owes LibraryAsks LibraryDoes search_test (on_falls (Turn LibraryAsks LibraryDoes NE search_turn rest Q (Left s) (length ts)) Q) t
  by_texts [] t c =
      by_number 0 255 t (omega arith) ((λ i. c.mem i (t.regs 2)) ∙ c.at.0) (c.kept 9 (omega arith)) (omega (arith, c.inside))
      (λ y is. rest_owes _ (finds_none _ (with_number_inv [] y 255 t c)))
      (λ y other is. rest_owes _ (finds_none _ (with_number_inv [] y 255 t c)))
      (λ y other more. absurd (more refl))
  by_texts (x ∷ ts) t c =
      let low : x.number < 255 = ltb-true x.number 255 (and_parts (nat_lt x.number 255) (list_all (λ (y : NumberedText). nat_lt y.number 255) ts) c.below).0 in
      by_number (length (x ∷ ts)) x.number t (omega (arith, low)) ((λ i. c.mem i (t.regs 2)) ∙ c.at.0) (c.kept 9 (omega arith)) (omega (arith, c.inside))
      (λ y is. rest_owes _ (finds x ts _ (with_number_inv (x ∷ ts) y x.number t c) is))
      (λ y other is. absurd (omega (arith, is, low)))
      (λ y other more. turn x ts _ (with_number_inv (x ∷ ts) y x.number t c) (ap (λ b. if b then x.text else text_among ts (s.regs 9)) (sym (ne_eqb (s.regs 9) x.number (λ e. other (sym e)))) ∙ c.same))

  test : (n : ℕ) (t : Core) → Left s n t → Owes LibraryAsks LibraryDoes search_test (on_falls (Turn LibraryAsks LibraryDoes NE search_turn rest Q (Left s) n) Q) t
  test n t c = subst (λ k. Owes LibraryAsks LibraryDoes search_test (on_falls (Turn LibraryAsks LibraryDoes NE search_turn rest Q (Left s) k) Q) t) c.number (by_texts c.texts t c.inv)

  pub search_then : s.regs 2 ≡ error_texts_start → HasErrorTexts s.mem → Owes LibraryAsks LibraryDoes (Seq (While search_test NE search_turn) rest) Q s
  search_then at texts =
      while_then (Left s) test (length error_texts)
      (record {
        texts = error_texts;
        number = refl;
        inv = record {
          at = subst (λ a. IsTableAt s.mem a error_texts) (sym at) (table_stands s.mem error_texts_start error_texts texts);
          inside = omega (arith, at, size_is);
          below = refl;
          same = refl;
          kept = λ k high. refl;
          mem = refl;
          out = refl;
          input = refl;
        };
      })
    where
      size_is : table_size error_texts ≤ 4096
      size_is = omega arith
