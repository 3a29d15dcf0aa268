-- A row of bytes in memory that is written.
use Rattle.std.proofs.Common.{◌≡◌, ℕ, zero, suc, ◌+◌, ◌^◌, ◌<◌, ◌≤◌, ◌==◌, List, [], ◌∷◌, ◌++◌, refl, sym, ap, ◌∙◌, arith, append_assoc, append-nil, eqb-true, ltb-true, nat_lt, true}
use Rattle.std.specs.List.{list_all}
use Rattle.std.proofs.lemmas.Bool.{eqb-false, not-true, not-false, and_parts}
use Rattle.arm_isa.proofs.ImmediateLaws.{immediate_value-byte}
use Rattle.bv_base.specs.MemoryMap.{ram_end}
use Rattle.arm_isa.specs.Numbers.{NE}
use Rattle.arm2_alu.proofs.RegisterLaws.{updated}
use Rattle.arm2_alu.proofs.ValueLaws.{compared}
use Rattle.arm_core.specs.Core.{Core}
use Rattle.arm_core.specs.Effects.{flagged_by}
use Rattle.arm_core.proofs.Comparisons.{after-ne}
use Rattle.arm_core.proofs.MemoryWords.{updated-other}
use Rattle.code_frag.specs.Demands.{Post, on_falls, Owes}
use Rattle.code_frag.specs.Language.{Piece, Seq}
use Rattle.code_frag.proofs.Rules.{Less, Turn, end_here, set_then, load_byte_then, write_then, test_then, while_then}
use Rattle.runtime_lib.specs.Entries.{bytes_from, LibraryAsks, LibraryDoes}
use Rattle.runtime_lib.specs.Writing.{literal, text_test, text_turn, write_text}

-- the R4 bytes from R2 on are written; R1 is as it was, and so are R5 and those above it
pub record WritesText (s t : Core) : Type 0 where
  pub out : t.out ≡ s.out ++ bytes_from s.mem (s.regs 2) (s.regs 4)
  pub one : t.regs 1 ≡ s.regs 1
  pub kept : (k : ℕ) → 5 ≤ k → t.regs k ≡ s.regs k
  pub mem : t.mem ≡ s.mem
  pub input : t.input ≡ s.input

-- n bytes are left to write
record Writing (s : Core) (n : ℕ) (t : Core) : Type 0 where
  left : t.regs 4 ≡ n
  small : n < 2 ^ 32
  inside : t.regs 2 + n ≤ ram_end
  out : t.out ++ bytes_from s.mem (t.regs 2) n ≡ s.out ++ bytes_from s.mem (s.regs 2) (s.regs 4)
  one : t.regs 1 ≡ s.regs 1
  kept : (k : ℕ) → 5 ≤ k → t.regs k ≡ s.regs k
  mem : t.mem ≡ s.mem
  input : t.input ≡ s.input

module _ {rest : Piece} {Q : Post} (s : Core) (rest_owes : (t : Core) → WritesText s t → Owes LibraryAsks LibraryDoes rest Q t) where
  -- one byte more
  turn : (n : ℕ) (t u : Core) → Writing s (suc n) t → u.regs ≡ t.regs → u.out ≡ t.out → u.mem ≡ t.mem → u.input ≡ t.input → Owes LibraryAsks LibraryDoes text_turn (on_falls (Less (Writing s) (suc n)) Q) u
  turn n t u c regs out mem input =
      let at : u.regs 2 ≡ t.regs 2 = (λ i. regs i 2) in
      let left : u.regs 4 ≡ suc n = (λ i. regs i 4) ∙ c.left in
      let byte = s.mem (t.regs 2) in
      load_byte_then (t.regs 2) byte (omega (arith, at, c.inside)) (λ i. (mem ∙ c.mem) i (t.regs 2)) (omega (arith, c.inside)) (λ small.
      write_then byte (omega (arith, small))
      (set_then (t.regs 2 + 1) refl (omega (arith, at, c.inside))
      (set_then n refl (omega (arith, left, c.small))
      (end_here (record {
        count = n;
        less = omega arith;
        inv = record {
          left = refl;
          small = omega (arith, c.small);
          inside = omega (arith, c.inside);
          out = append_assoc u.out (byte ∷ []) (bytes_from s.mem (t.regs 2 + 1) n) ∙ ap (λ l. l ++ byte ∷ bytes_from s.mem (t.regs 2 + 1) n) out ∙ c.out;
          one = (λ i. regs i 1) ∙ c.one;
          kept = λ k high. updated-other (updated (updated u.regs 0 byte) 2 (t.regs 2 + 1)) 4 n k (λ e. omega (arith, e, high)) ∙ updated-other (updated u.regs 0 byte) 2 (t.regs 2 + 1) k (λ e. omega (arith, e, high)) ∙ updated-other u.regs 0 byte k (λ e. omega (arith, e, high)) ∙ (λ i. regs i k) ∙ c.kept k high;
          mem = mem ∙ c.mem;
          input = input ∙ c.input;
        };
      })))))

  test : (n : ℕ) (t : Core) → Writing s n t → Owes LibraryAsks LibraryDoes text_test (on_falls (Turn LibraryAsks LibraryDoes NE text_turn rest Q (Writing s) n) Q) t
  test zero t c =
      let is = after-ne 0 0 t (omega arith) (omega arith) in
      test_then (compared 0 0) refl (λ i. compared (c.left i) 0)
      (end_here (record {
        more = λ e. absurd (eqb-false 0 0 (not-true (0 == 0) (sym is ∙ e)) refl);
        done = λ e. rest_owes _ (record {
          out = sym (append-nil t.out) ∙ c.out;
          one = c.one;
          kept = c.kept;
          mem = c.mem;
          input = c.input;
        });
      }))
  test (suc n) t c =
      let is = after-ne (suc n) 0 t c.small (omega arith) in
      test_then (compared (suc n) 0) refl (λ i. compared (c.left i) 0)
      (end_here (record {
        more = λ e. turn n t (flagged_by (compared (suc n) 0) t) c refl refl refl refl;
        done = λ e. absurd (let none = eqb-true (suc n) 0 (not-false (suc n == 0) (sym is ∙ e)) in omega (arith, none));
      }))

  pub write_text_then : s.regs 4 < 2 ^ 32 → s.regs 2 + s.regs 4 ≤ ram_end → Owes LibraryAsks LibraryDoes (Seq write_text rest) Q s
  write_text_then small inside =
      while_then (Writing s) test (s.regs 4)
      (record {
        left = refl;
        small = small;
        inside = inside;
        out = refl;
        one = refl;
        kept = λ k high. refl;
        mem = refl;
        input = refl;
      })

-- ---- bytes that are known beforehand

-- bytes are written, and all but R0 is as it was
pub record WritesBytes (bytes : List ℕ) (s t : Core) : Type 0 where
  pub out : t.out ≡ s.out ++ bytes
  pub kept : (k : ℕ) → 1 ≤ k → t.regs k ≡ s.regs k
  pub mem : t.mem ≡ s.mem
  pub input : t.input ≡ s.input

pub literal_then : (bytes : List ℕ) (rest : Piece) (Q : Post) (s : Core) → list_all (λ b. nat_lt b 256) bytes ≡ true → ((t : Core) → WritesBytes bytes s t → Owes LibraryAsks LibraryDoes rest Q t) → Owes LibraryAsks LibraryDoes (literal bytes rest) Q s
literal_then [] rest Q s low rest_owes = rest_owes s (record { out = sym (append-nil s.out); kept = λ k high. refl; mem = refl; input = refl })
literal_then (b ∷ bytes) rest Q s low rest_owes =
    let parts = and_parts (nat_lt b 256) (list_all (λ x. nat_lt x 256) bytes) low in
    let byte = ltb-true b 256 parts.0 in
    set_then b refl (immediate_value-byte b byte)
    (write_then b (omega (arith, byte))
    (literal_then bytes rest Q _ parts.1 (λ t d.
    rest_owes t (record {
      out = d.out ∙ append_assoc s.out (b ∷ []) bytes;
      kept = λ k high. d.kept k high ∙ updated-other s.regs 0 b k (λ e. omega (arith, e, high));
      mem = d.mem;
      input = d.input;
    }))))
