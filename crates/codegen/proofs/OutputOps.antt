-- The operations that write, those that go elsewhere, and those that end a run.
use Rattle.std.proofs.Common.{◌≡◌, ℕ, zero, suc, ◌+◌, ◌-◌, ◌/◌, ◌%◌, ◌^◌, ◌<◌, ◌≤◌, ◌⊎◌, inl, inr, Bool, true, false, ℤ, List, [], ◌∷◌, ◌++◌, refl, sym, ap, subst, ◌∙◌, arith, append_assoc}
use Rattle.std.proofs.lemmas.Int.{of_z-to_z}
use Rattle.std.specs.Int.{w32}
use Rattle.bas_ast.specs.declared.expressions.NumberFormat.{NumberFormat}
use Rattle.bas_ast.specs.declared.expressions.NumberFormat.TheVariants as formats
use Rattle.bas_ir.specs.declared.op.Mark.{Mark}
use Rattle.bas_ir.specs.declared.op.Mark.TheVariants as marks
use Rattle.bas_ir.specs.declared.op.Op.TheVariants as o
use Rattle.bas_ir.specs.declared.op.Piece.{Piece}
use Rattle.bas_ir.specs.declared.op.Piece.TheVariants as pieces
use Rattle.bas_ir.specs.Effects.{Falls, piece, mark}
use Rattle.bas_ir.specs.Places.{Pending, pushed, text_pushed}
use Rattle.bas_sem.specs.Actions.{wrote}
use Rattle.bas_sem.specs.Course.{Value}
use Rattle.bas_sem.specs.State.{State}
use Rattle.bas_value.specs.Output as out
use Rattle.bas_value.specs.Output.{Part, part_bytes, column_after, low_byte, second_byte}
use Rattle.bv_num.specs.Bits.{signed, pattern}
use Rattle.arm_isa.proofs.ImmediateLaws.{immediate_value-byte}
use Rattle.arm2_alu.proofs.RegisterLaws.{updated}
use Rattle.arm_core.specs.Core.{Core, IsGood, put, word, put_word}
use Rattle.arm_core.proofs.MemoryWords.{updated-other, byte-put_other, word-put_same}
use Rattle.arm_core.proofs.ShiftedOperands.{lsr-value}
use Rattle.code_frag.specs.Demands as demands
use Rattle.code_frag.specs.Demands.{Out, Post, Exit, Leaves, ToLabel, Owes}
use Rattle.code_frag.specs.Language as language
use Rattle.code_frag.specs.Language.{Skip, Call, ◌⨾◌}
use Rattle.code_frag.specs.Places.{data_start}
use Rattle.code_frag.specs.Runs.{SameCode}
use Rattle.code_frag.specs.Regions.{residents_start, column_at, stack_start}
use Rattle.code_frag.proofs.Rules.{end_here, seq_then, skip_then, set_then, write_then, new_line_then, store_then, pull_then, call_then}
use Rattle.runtime_lib.specs.Entries.{CanWrite, Writes, WritesPart, column_in, bytes_from, text_at}
use Rattle.codegen.specs.Operations.{Named, op_code, reset_column, write_code}
use Rattle.codegen.specs.Outcomes.{Arrives}
use Rattle.codegen.specs.StandsFor.{ItemTable, Site, Holds, Numbers, Texts, IsText, StandsFor}
use Rattle.codegen.proofs.Arriving.{CodeAsks, CodeDoes, Free, free_pending, without_top, free_room, IsShort, with_room, free_with_room, room_then, drop_end}
use Rattle.codegen.proofs.PendingLaws.{numbers_room, numbers_kept, texts_room, texts_kept}
use Rattle.codegen.proofs.StateLaws.{holds_wrote}

-- ---- what is written

-- a column stays one
pub column-small : (part : Part) (column : ℕ) → column < 65536 → column_after part column < 65536
column-small (out.Number padded format value) column small = omega arith
column-small (out.Text text) column small = omega arith
column-small out.Field column small = omega arith
column-small out.NewLine column small = omega arith
column-small (out.Spaces amount) column small = omega arith
column-small (out.Tab wanted) column small = omega arith
column-small (out.Byte value) column small = small
column-small (out.Word value) column small = small
column-small (out.Mode number) column small = omega arith
column-small (out.Colour number) column small = small
column-small out.Clear column small = omega arith
column-small (out.Closing text line) column small = omega arith

-- what is pending, after a part was written
pub free_wrote : {image : Site} {p : Pending} {st : State} {s t : Core} (part : Part) → Free image p st s → IsShort p → Writes (part_bytes part (column_in s)) (column_after part (column_in s)) s t → Free image p (wrote part st) t
free_wrote {image} {p} {st} {s} {t} part f short w =
    let column = f.holds.column in
    let pending = free_pending t f short w.kept (λ a low high. w.mem a (inr (omega (arith, low), high))) in
    record {
      holds = holds_wrote st (s.regs 11) (s.regs 13) (t.regs 11) (t.regs 13) s.mem t.mem s.out t.out part f.holds (w.kept 11 (omega arith) (omega arith)) (w.kept 13 (omega arith) (omega arith))
          (w.out ∙ ap (λ c. s.out ++ part_bytes part c) column) (w.column_is ∙ ap (column_after part) column) (column-small part st.column f.holds.column_small) w.mem;
      numbers = pending.0;
      texts = pending.1;
    }

-- where a routine of the library may write
pub can_write : {branches : ℕ} {table : ItemTable} {st : State} {s : Core} → Holds branches table st (s.regs 11) (s.regs 13) s.mem s.out → CanWrite s
can_write h = record {
  base = h.base_is;
  aligned = omega (arith, h.stack_is);
  room = omega (arith, h.stack_is);
  inside = omega (arith, h.stack_is);
  column = omega (arith, h.column, h.column_small);
}

module _ {image : Site} {p : Pending} {st : State} {s : Core} where
  -- a routine that writes a part
  pub writes_then : {e : ℕ} {rest : language.Piece} {Q : Post} (part : Part) → Free image p st s → IsShort p → ((r : ℕ) → CodeAsks e (put 14 r s)) → ((r : ℕ) (o : Out) (t : Core) → CodeDoes e (put 14 r s) o t → WritesPart part (put 14 r s) o t)
      → ((t : Core) → Free image p (wrote part st) t → Owes CodeAsks CodeDoes rest Q t) → Owes CodeAsks CodeDoes (Call e ⨾ rest) Q s
  writes_then part f short asks does owes =
      call_then (λ r low. asks r)
      (λ r t low good d. owes t (free_wrote {s = put 14 r s} part (record { holds = f.holds; numbers = f.numbers; texts = f.texts }) short (does r demands.Falls t d).writes))
      (λ r l t low good d. absurd (let e = (does r (Leaves l) t d).falls in cc))

module _ {image : Site} {p : Pending} {st : State} {s : Core} (texts : Named) where
  -- a number
  pub write_number_owes : (padded : Bool) (format : NumberFormat) (value : ℤ) → StandsFor image (pushed value p) st s → IsShort p
      → Owes CodeAsks CodeDoes (op_code texts (o.WriteNumber padded format)) (Arrives image (Value (Falls p) (wrote (out.Number padded format value) st))) s
  write_number_owes padded format value f short =
      by_case padded format
    where
      Goal : Bool → NumberFormat → Type 0
      Goal padded format = Owes CodeAsks CodeDoes (op_code texts (o.WriteNumber padded format)) (Arrives image (Value (Falls p) (wrote (out.Number padded format value) st))) s

      at : (k : ℕ) → Free image p st (put 1 k s)
      at k = let g = without_top f in record { holds = g.holds; numbers = g.numbers; texts = g.texts }

      is : (padded : Bool) (format : NumberFormat) (r k : ℕ) (o : Out) (t : Core) → WritesPart (out.Number padded format (signed (s.regs 0))) (put 14 r (put 1 k s)) o t → WritesPart (out.Number padded format value) (put 14 r (put 1 k s)) o t
      is padded format r k o t d = subst (λ v. WritesPart (out.Number padded format v) (put 14 r (put 1 k s)) o t) f.numbers.0 d

      by_case : (padded : Bool) (format : NumberFormat) → Goal padded format
      by_case true formats.Decimal = set_then 1 refl refl (writes_then (out.Number true formats.Decimal value) (at 1) short (λ r. can_write f.holds) (λ r o t d. is true formats.Decimal r 1 o t d) (λ t g. drop_end g))
      by_case true formats.Hexadecimal = set_then 1 refl refl (writes_then (out.Number true formats.Hexadecimal value) (at 1) short (λ r. can_write f.holds) (λ r o t d. is true formats.Hexadecimal r 1 o t d) (λ t g. drop_end g))
      by_case false formats.Decimal = set_then 0 refl refl (writes_then (out.Number false formats.Decimal value) (at 0) short (λ r. can_write f.holds) (λ r o t d. is false formats.Decimal r 0 o t d) (λ t g. drop_end g))
      by_case false formats.Hexadecimal = set_then 0 refl refl (writes_then (out.Number false formats.Hexadecimal value) (at 0) short (λ r. can_write f.holds) (λ r o t d. is false formats.Hexadecimal r 0 o t d) (λ t g. drop_end g))

-- ---- bytes

-- the bytes of a number by its register
low-is : (r : ℕ) (value : ℤ) → r < 2 ^ 32 → signed r ≡ value → r % 2 ^ 8 ≡ low_byte value
low-is r value small is = ap (λ n. n % 256) (sym (of_z-to_z w32 r small) ∙ ap pattern is)

second-is : (r : ℕ) (value : ℤ) → r < 2 ^ 32 → signed r ≡ value → r / 2 ^ 8 % 2 ^ 8 ≡ second_byte value
second-is r value small is = ap (λ n. n / 256 % 256) (sym (of_z-to_z w32 r small) ∙ ap pattern is)

-- the column is set to 0
reset_then : {rest : language.Piece} {Q : Post} {s : Core} → s.regs 11 ≡ residents_start → Owes CodeAsks CodeDoes rest Q (record s { regs = updated s.regs 2 0; mem = put_word s.mem column_at 0 }) → Owes CodeAsks CodeDoes (reset_column ⨾ rest) Q s
reset_then base owes = seq_then (set_then 0 refl refl (seq_then (store_then column_at 0 (omega (arith, base)) refl refl (inr (omega arith, omega arith)) (skip_then owes))))

-- a byte is written, and R0 comes back from R1
byte_then : {rest : language.Piece} {Q : Post} {s : Core} (byte : ℕ) → byte < 256
    → Owes CodeAsks CodeDoes rest Q (record s { regs = updated (updated (updated s.regs 1 (s.regs 0)) 0 byte) 0 (s.regs 0); out = s.out ++ byte ∷ [] }) → Owes CodeAsks CodeDoes (write_code byte ⨾ rest) Q s
byte_then {s = s} byte small owes =
    seq_then (set_then (s.regs 0) refl refl (seq_then (set_then byte refl (immediate_value-byte byte small) (seq_then (write_then byte (omega (arith, small)) (seq_then (set_then (s.regs 0) refl refl (skip_then owes))))))))

-- what is pending, after a part was written with R0 as it was
stands_wrote : {image : Site} {p : Pending} {st : State} {s t : Core} (part : Part) → StandsFor image p st s → IsShort p → Writes (part_bytes part (column_in s)) (column_after part (column_in s)) s t → t.regs 0 ≡ s.regs 0 → StandsFor image p (wrote part st) t
stands_wrote {image} {p} {st} {s} {t} part f short w same_top =
    let room = numbers_room s.mem (s.regs 12) (s.regs 0) p.numbers f.numbers in
    let below = texts_room image.bytes s.mem (s.regs 9) (s.regs 10) p.texts f.texts in
    let column = f.holds.column in
    record {
      holds = holds_wrote st (s.regs 11) (s.regs 13) (t.regs 11) (t.regs 13) s.mem t.mem s.out t.out part f.holds (w.kept 11 (omega arith) (omega arith)) (w.kept 13 (omega arith) (omega arith))
          (w.out ∙ ap (λ c. s.out ++ part_bytes part c) column) (w.column_is ∙ ap (column_after part) column) (column-small part st.column f.holds.column_small) w.mem;
      numbers = subst (λ q. Numbers t.mem (t.regs 12) q p.numbers) (sym same_top)
          (subst (λ q. Numbers t.mem q (s.regs 0) p.numbers) (sym (w.kept 12 (omega arith) (omega arith)))
          (numbers_kept s.mem t.mem (s.regs 12) (s.regs 0) p.numbers f.numbers (λ a low high. w.mem a (inr (omega (arith, low, room, short), omega (arith, high))))));
      texts = subst (λ q. Texts image.bytes t.mem (t.regs 9) q p.texts) (sym (w.kept 10 (omega arith) (omega arith)))
          (subst (λ q. Texts image.bytes t.mem q (s.regs 10) p.texts) (sym (w.kept 9 (omega arith) (omega arith)))
          (texts_kept image.bytes s.mem t.mem (s.regs 9) (s.regs 10) p.texts f.texts (λ a low high. w.mem a (inr (omega (arith, low, below, short), omega (arith, high))))));
    }

-- registers that pieces here don't change
others_kept : (f : ℕ → ℕ) (x y z : ℕ) (k : ℕ) → 9 ≤ k → updated (updated (updated f 1 x) 0 y) 0 z k ≡ f k
others_kept f x y z k low =
    updated-other (updated (updated f 1 x) 0 y) 0 z k (λ e. omega (arith, e, low)) ∙ updated-other (updated f 1 x) 0 y k (λ e. omega (arith, e, low)) ∙ updated-other f 1 x k (λ e. omega (arith, e, low))

-- where a store of the column changes nothing
outside : (a : ℕ) → (a < column_at) ⊎ ((column_at + 4 ≤ a) × (a < stack_start)) → (a < column_at) ⊎ (column_at + 4 ≤ a)
outside a (inl below) = inl below
outside a (inr above) = inr above.0

module _ {image : Site} {p : Pending} {st : State} {s : Core} (texts : Named) where
  -- VDU, MODE, COLOUR, SPC and TAB
  pub write_owes : (x : Piece) (value : ℤ) → StandsFor image (pushed value p) st s → IsGood s → IsShort p
      → Owes CodeAsks CodeDoes (op_code texts (o.Write x)) (Arrives image (Value (Falls p) (wrote (piece x value) st))) s
  write_owes pieces.Spaces value f good short =
      writes_then (out.Spaces value) (without_top f) short (λ r. can_write f.holds) (λ r o t d. subst (λ v. WritesPart (out.Spaces v) (put 14 r s) o t) f.numbers.0 d) (λ t g. drop_end g)
  write_owes pieces.Tab value f good short =
      writes_then (out.Tab value) (without_top f) short (λ r. can_write f.holds) (λ r o t d. subst (λ v. WritesPart (out.Tab v) (put 14 r s) o t) f.numbers.0 d) (λ t g. drop_end g)
  write_owes pieces.Byte value f good short =
      write_then (low_byte value) (low-is (s.regs 0) value (good.regs 0) f.numbers.0)
      (drop_end (free_wrote {s = s} (out.Byte value) (without_top f) short (record { out = refl; column_is = refl; kept = λ k low high. refl; mem = λ a apart. refl; input = refl })))
  write_owes pieces.Word value f good short =
      let a = low_byte value in
      let b = second_byte value in
      let r = s.regs 0 in
      write_then a (low-is r value (good.regs 0) f.numbers.0)
      (set_then (r / 2 ^ 8) refl (lsr-value 8 0 (record s { out = s.out ++ a ∷ [] }) (omega arith) (omega arith) (omega arith))
      (write_then b (second-is r value (good.regs 0) f.numbers.0)
      (drop_end (free_wrote {s = s} (out.Word value) (without_top f) short (record {
        out = append_assoc s.out (a ∷ []) (b ∷ []);
        column_is = refl;
        kept = λ k low high. updated-other s.regs 0 (r / 2 ^ 8) k (λ e. omega (arith, e, low));
        mem = λ c apart. refl;
        input = refl;
      })))))
  write_owes pieces.Mode value f good short =
      let a = low_byte value in
      let r = s.regs 0 in
      byte_then 22 (omega arith)
      (write_then a (low-is r value (good.regs 0) f.numbers.0)
      (reset_then f.holds.base_is
      (drop_end (free_wrote {s = s} (out.Mode value) (without_top f) short (record {
        out = append_assoc s.out (22 ∷ []) (a ∷ []);
        column_is = word-put_same s.mem column_at 0 (omega arith);
        kept = λ k low high. updated-other (updated (updated (updated s.regs 1 r) 0 22) 0 r) 2 0 k (λ e. omega (arith, e, low)) ∙ others_kept s.regs r 22 r k low;
        mem = λ c apart. byte-put_other s.mem column_at 0 c (outside c apart);
        input = refl;
      })))))
  write_owes pieces.Colour value f good short =
      let a = low_byte value in
      let r = s.regs 0 in
      byte_then 17 (omega arith)
      (write_then a (low-is r value (good.regs 0) f.numbers.0)
      (drop_end (free_wrote {s = s} (out.Colour value) (without_top f) short (record {
        out = append_assoc s.out (17 ∷ []) (a ∷ []);
        column_is = refl;
        kept = λ k low high. others_kept s.regs r 17 r k low;
        mem = λ c apart. refl;
        input = refl;
      }))))

module _ {image : Site} {p : Pending} {st : State} {s : Core} (texts : Named) where
  -- a comma, a new line, and CLS
  pub write_mark_owes : (x : Mark) → StandsFor image p st s → IsGood s → IsShort p
      → Owes CodeAsks CodeDoes (op_code texts (o.WriteMark x)) (Arrives image (Value (Falls p) (wrote (mark x) st))) s
  write_mark_owes marks.Field f good short =
      let g = free_with_room f good short in
      room_then f short (writes_then out.Field g short (λ r. can_write g.holds) (λ r o t d. d) (λ t h. drop_end h))
  write_mark_owes marks.NewLine f good short =
      new_line_then (reset_then f.holds.base_is
      (end_here (record {
        by = (
          refl,
          stands_wrote {s = s} out.NewLine f short (record {
            out = refl;
            column_is = word-put_same s.mem column_at 0 (omega arith);
            kept = λ k low high. updated-other s.regs 2 0 k (λ e. omega (arith, e, low));
            mem = λ c apart. byte-put_other s.mem column_at 0 c (outside c apart);
            input = refl;
          }) refl,
        );
      })))
  write_mark_owes marks.Clear f good short =
      let r = s.regs 0 in
      byte_then 12 (omega arith)
      (reset_then f.holds.base_is
      (end_here (record {
        by = (
          refl,
          stands_wrote {s = s} out.Clear f short (record {
            out = refl;
            column_is = word-put_same s.mem column_at 0 (omega arith);
            kept = λ k low high. updated-other (updated (updated (updated s.regs 1 r) 0 12) 0 r) 2 0 k (λ e. omega (arith, e, low)) ∙ others_kept s.regs r 12 r k low;
            mem = λ c apart. byte-put_other s.mem column_at 0 c (outside c apart);
            input = refl;
          }) refl,
        );
      })))

-- ---- strings

-- bytes that are the same in two memories
pub bytes-same : (n a : ℕ) (m k : ℕ → ℕ) → ((b : ℕ) → a ≤ b → b < a + n → m b ≡ k b) → bytes_from m a n ≡ bytes_from k a n
bytes-same zero a m k same = refl
bytes-same (suc n) a m k same =
    let first = same a (omega arith) (omega arith) in
    let rest = bytes-same n (a + 1) m k (λ b low high. same b (omega (arith, low)) (omega (arith, high))) in
    (λ i. first i ∷ rest i)

-- a text of the image is in memory
pub text-is : (code : ℕ → ℕ) (s : Core) (a : ℕ) (text : List ℕ) → IsText code a text → IsGood s → SameCode code s.mem → text_at s.mem a ≡ text
text-is code s a text there good same =
    let len = same.kept a there.low (let h = there.high in omega (arith, h)) in
    let short = good.mem a in
    bytes-same (s.mem a) (a + 1) s.mem code (λ b low high. same.kept b (let l = there.low in omega (arith, low, l)) (let h = there.high in omega (arith, high, h, short)))
    ∙ ap (bytes_from code (a + 1)) len ∙ there.is

-- and so it is after a number went to the stack
text-kept : {code : ℕ → ℕ} (s : Core) (a : ℕ) (text : List ℕ) → IsText code a text → IsGood s → SameCode code s.mem → (q : ℕ) → data_start ≤ q → text_at (put_word s.mem q (s.regs 0)) a ≡ text
text-kept {code} s a text there good same q high =
    let end = there.high in
    let short = good.mem a in
    let elsewhere : (b : ℕ) → b < data_start → put_word s.mem q (s.regs 0) b ≡ s.mem b = λ b low. byte-put_other s.mem q (s.regs 0) b (inl (omega (arith, low, high))) in
    ap (bytes_from (put_word s.mem q (s.regs 0)) (a + 1)) (elsewhere a (omega (arith, end)))
    ∙ bytes-same (s.mem a) (a + 1) (put_word s.mem q (s.regs 0)) s.mem (λ b low up. elsewhere b (omega (arith, up, end, short))) ∙ text-is code s a text there good same

module _ {image : Site} {st : State} {s : Core} (texts : Named) where
  -- a string
  pub write_text_owes : (p : Pending) (text : List ℕ) → StandsFor image (text_pushed text p) st s → IsGood s → SameCode image.bytes s.mem → IsShort (text_pushed text p)
      → Owes CodeAsks CodeDoes (op_code texts o.WriteText) (Arrives image (Value (Falls p) (wrote (out.Text text) st))) s
  write_text_owes p text f good same short =
      let q = text_pushed text p in
      let g = free_with_room f good short in
      let there = f.texts.0 in
      let a = s.regs 10 in
      room_then f short
      (set_then a refl refl
      (writes_then {image = image} {p = q} {e = 8} (out.Text text) (record { holds = g.holds; numbers = g.numbers; texts = g.texts }) short (λ r. (can_write g.holds, let h = there.high in omega (arith, h)))
      (λ r o t d. subst (λ l. WritesPart (out.Text l) (put 14 r (put 0 a (with_room s))) o t) (text-kept {code = image.bytes} s a text there good same (s.regs 12 - 4) (let room = free_room g in omega (arith, room, short))) d)
      (λ t h.
      let room = free_room h in
      let below = texts_room image.bytes t.mem (t.regs 9) (t.regs 10) q.texts h.texts in
      pull_then (t.regs 12) (word t.mem (t.regs 12)) (t.regs 12 + 4) refl refl (omega (arith, room)) (omega (arith, room)) (omega (arith, room))
      (λ small. pull_then (t.regs 9) (word t.mem (t.regs 9)) (t.regs 9 + 4) refl refl (omega (arith, below)) (omega (arith, below)) (omega (arith, below))
      (λ low. end_here (record { by = (refl, record { holds = h.holds; numbers = h.numbers; texts = h.texts.1 }) }))))))
