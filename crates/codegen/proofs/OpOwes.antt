-- The code of each operation owes what the operation does.
use Rattle.std.proofs.Common.{◌≡◌, ℕ, suc, ◌+◌, ◌*◌, ◌^◌, ◌<◌, ◌≤◌, ℤ, pos, List, [], ◌∷◌, Some, length, slice_get, slice_index_or, refl, sym, ap, subst, ◌∙◌, arith}
use Rattle.std.proofs.Math.Path.{transport}
use Rattle.bas_ast.specs.declared.expressions.BinaryOp.{BinaryOp}
use Rattle.bas_ast.specs.declared.expressions.UnaryOp.{UnaryOp}
use Rattle.bas_ast.specs.declared.expressions.UnaryOp.TheVariants as unary
use Rattle.bas_ir.specs.declared.ir.Height.{Height}
use Rattle.bas_ir.specs.declared.ir.Ir.{Ir}
use Rattle.bas_ir.specs.declared.op.Op.{Op}
use Rattle.bas_ir.specs.declared.op.Op.TheVariants as o
use Rattle.bas_ir.specs.Coded.{HasCode, HasWidths}
use Rattle.bas_store.specs.Entries.{cell_of}
use Rattle.bas_store.specs.declared.cell.IntegerCell.{IntegerCell}
use Rattle.bas_store.specs.declared.cell.IntegerCell.TheVariants as cells
use Rattle.bas_ir.specs.Effects.{go_unless, go_if_one, go_if_equal, gosub_if_one, effect}
use Rattle.bas_ir.specs.Heights.{height_after}
use Rattle.bas_ir.specs.Places.{Pending, nothing, pushed}
use Rattle.bas_ir.specs.WellFormed.{IsThere, IsCounter}
use Rattle.bas_sem.specs.Calls.{outermost}
use Rattle.bas_sem.specs.Course.{Value}
use Rattle.bas_sem.specs.Operators.{of_one, of_two}
use Rattle.bas_sem.specs.State.{State}
use Rattle.bas_store.specs.Opened.{NextOf}
use Rattle.std.specs.Ordering.{int_eq}
use Rattle.bv_num.specs.Bits.{signed}
use Rattle.arm2_alu.proofs.RegisterLaws.{updated}
use Rattle.arm_core.specs.Core.{Core, IsGood, put, word}
use Rattle.arm_core.proofs.States.{updated-lt}
use Rattle.code_frag.specs.Demands.{Owes}
use Rattle.code_frag.specs.Runs.{SameCode}
use Rattle.code_frag.proofs.Rules.{pull_then}
use Rattle.codegen.specs.Operations.{Named, op_code, binary_code, unary_code}
use Rattle.codegen.specs.Outcomes.{Arrives}
use Rattle.codegen.specs.Program.{number_of_item, text_of}
use Rattle.codegen.specs.StandsFor.{Site, IsSite, IsText, AreEntries, StandsFor}
use Rattle.codegen.proofs.Arriving.{CodeAsks, CodeDoes, Free, without_top, free_room}
use Rattle.codegen.proofs.OperandOps.{binary_owes, binary_with_owes, binary_with_resident_owes, change_resident_owes, go_unless_owes, go_unless_with_owes}
use Rattle.codegen.proofs.ArithmeticOps.{computed, arrived, kept_owes, minus_owes, not_owes, abs_owes, sign_owes}
use Rattle.codegen.proofs.DataOps.{Reads, restore_owes, read_number_owes}
use Rattle.codegen.proofs.CellOps.{push_owes, push_column_owes, push_resident_owes, store_resident_owes, push_integer_owes, store_integer_owes, push_text_owes}
use Rattle.codegen.proofs.LeavingOps.{go_owes, go_if_zero_owes, raise_owes, end_owes}
use Rattle.codegen.proofs.EntryLaws.{IsCloser}
use Rattle.codegen.proofs.LoopOps.{discard_owes, go_if_one_owes, go_if_equal_owes, gosub_if_one_owes, raise_if_one_owes, open_for_owes, open_repeat_owes, open_while_owes, gosub_owes, until_owes, endwhile_owes, return_owes}
use Rattle.codegen.proofs.TurnOps.{next_owes, next_any_owes}
use Rattle.codegen.proofs.OutputOps.{write_number_owes, write_owes, write_mark_owes, write_text_owes}

-- what is pending after a jump
abbrev pub JumpsEmpty : Op → List ℤ → List (List ℕ) → Type 0
JumpsEmpty (o.Go item) numbers texts = (numbers ≡ []) × (texts ≡ [])
JumpsEmpty (o.GoIfZero item) (value ∷ numbers) texts = (numbers ≡ []) × (texts ≡ [])
JumpsEmpty (o.GoUnless relation item) (y ∷ x ∷ numbers) texts = (numbers ≡ []) × (texts ≡ [])
JumpsEmpty (o.GoUnlessWith relation item number) (value ∷ numbers) texts = (numbers ≡ []) × (texts ≡ [])
JumpsEmpty (o.GoIfOne item) (value ∷ numbers) texts = (numbers ≡ []) × (texts ≡ [])
JumpsEmpty (o.GosubIfOne line item) (value ∷ numbers) texts = (numbers ≡ []) × (texts ≡ [])
JumpsEmpty (o.GoIfEqual item) (y ∷ x ∷ numbers) texts = (numbers ≡ []) × (texts ≡ [])
JumpsEmpty (o.Gosub line item) numbers texts = (numbers ≡ []) × (texts ≡ [])
JumpsEmpty (o.Next counter line) numbers texts = (numbers ≡ []) × (texts ≡ [])
JumpsEmpty (o.NextAny line) numbers texts = (numbers ≡ []) × (texts ≡ [])
JumpsEmpty (o.Until line) (value ∷ numbers) texts = (numbers ≡ []) × (texts ≡ [])
JumpsEmpty (o.EndWhile line) numbers texts = (numbers ≡ []) × (texts ≡ [])
JumpsEmpty (o.Return line) numbers texts = (numbers ≡ []) × (texts ≡ [])
JumpsEmpty _ numbers texts = Unit {0}

-- where nothing is pending
none_is : {numbers : List ℤ} {texts : List (List ℕ)} → (numbers ≡ []) × (texts ≡ []) → nothing ≡ record { numbers = numbers; texts = texts }
none_is none = λ i. record { numbers = sym none.0 i; texts = sym none.1 i }

-- an operation has what it takes
pub record Fits (ir : Ir) (op : Op) (numbers : List ℤ) (texts : List (List ℕ)) (st : State) : Type 0 where
  pub coded : HasCode op
  pub widths : HasWidths op
  pub there : IsThere ir op
  pub after : Height
  pub finds : height_after ir.routines op (record { numbers = length numbers; texts = length texts }) ≡ Some after
  pub short : length numbers + length texts ≤ 256
  pub names : length st.stored.integers ≡ length ir.names
  pub entries : AreEntries (length st.stored.integers) (length ir.starts) st.stored.opened
  pub jumps : JumpsEmpty op numbers texts

module _ (image : Site) (address : Named) (ir : Ir) (site : IsSite image) (text_at : ℕ → ℕ) (items_are : image.items ≡ length ir.starts) (back : address.back ≡ image.branches + 4 * image.next)
    (table_is : image.table ≡ record { address = (λ item. text_at (number_of_item ir item)); texts = ir.data_items })
    (literals : (number : ℕ) → number < length ir.texts → IsText image.bytes (text_at number) (slice_index_or ir.texts number [])) where
  -- a word or sign
  unary_owes : (x : UnaryOp) (line : ℕ) (q : Pending) (st : State) (s : Core) → line < 65536 → IsGood s → Free image q st s → Owes CodeAsks CodeDoes (unary_code x line) (Arrives image (computed (of_one x (signed (s.regs 0))) line q st)) s
  unary_owes unary.Plus line q st s fits good f = kept_owes good f line fits unary.Plus refl
  unary_owes unary.Minus line q st s fits good f = minus_owes good f line fits
  unary_owes unary.Not line q st s fits good f = not_owes good f line fits
  unary_owes unary.Abs line q st s fits good f = abs_owes good f line fits
  unary_owes unary.Sgn line q st s fits good f = sign_owes good f line fits
  unary_owes unary.Int line q st s fits good f = kept_owes good f line fits unary.Int refl

  binary_from : (x : BinaryOp) (line : ℕ) (y z : ℤ) (numbers : List ℤ) (texts : List (List ℕ)) (st : State) (s : Core) → line < 65536 → suc (suc (length numbers)) + length texts ≤ 256 → StandsFor image (record { numbers = y ∷ z ∷ numbers; texts = texts }) st s → IsGood s
      → Owes CodeAsks CodeDoes (op_code address (o.Binary x line)) (Arrives image (effect ir outermost (o.Binary x line) (record { numbers = y ∷ z ∷ numbers; texts = texts }) st)) s
  binary_from x line y z numbers texts st s fits short f good =
      let q : Pending = record { numbers = numbers; texts = texts } in
      let room = free_room (without_top f) in
      let p = s.regs 12 in
      let b = word s.mem p in
      pull_then p b (p + 4) refl refl (omega (arith, room)) (omega (arith, room)) (omega (arith, room))
      (λ small.
      let t = put 1 b (put 12 (p + 4) s) in
      transport (λ i. Owes CodeAsks CodeDoes (binary_code x line) (Arrives image (computed (of_two x (f.numbers.1.0 i) (f.numbers.0 i)) line q st)) t)
      (arrived (binary_code x line) _ line (binary_owes x line q st t fits (record {
        regs = λ k. updated-lt (updated s.regs 12 (p + 4)) 1 b (2 ^ 32) (λ j. updated-lt s.regs 12 (p + 4) (2 ^ 32) good.regs (omega (arith, room)) j) small k;
      })
      (record { holds = f.holds; numbers = f.numbers.1.1; texts = f.texts }))))

  -- jumps, where nothing is pending after them
  go_from : (item : ℕ) (numbers : List ℤ) (texts : List (List ℕ)) (st : State) (s : Core) → (numbers ≡ []) × (texts ≡ []) → StandsFor image (record { numbers = numbers; texts = texts }) st s
      → Owes CodeAsks CodeDoes (op_code address (o.Go item)) (Arrives image (effect ir outermost (o.Go item) (record { numbers = numbers; texts = texts }) st)) s
  go_from item numbers texts st s none f = go_owes address item (transport (λ i. StandsFor image (record { numbers = none.0 i; texts = none.1 i }) st s) f)

  go_if_zero_from : (item : ℕ) (value : ℤ) (numbers : List ℤ) (texts : List (List ℕ)) (st : State) (s : Core) → (numbers ≡ []) × (texts ≡ []) → StandsFor image (record { numbers = value ∷ numbers; texts = texts }) st s → IsGood s
      → Owes CodeAsks CodeDoes (op_code address (o.GoIfZero item)) (Arrives image (effect ir outermost (o.GoIfZero item) (record { numbers = value ∷ numbers; texts = texts }) st)) s
  go_if_zero_from item value numbers texts st s none f good =
      transport (λ i. Owes CodeAsks CodeDoes (op_code address (o.GoIfZero item)) (Arrives image (effect ir outermost (o.GoIfZero item) (record { numbers = value ∷ sym none.0 i; texts = sym none.1 i }) st)) s)
      (go_if_zero_owes address item value (transport (λ i. StandsFor image (record { numbers = value ∷ none.0 i; texts = none.1 i }) st s) f) good)

  -- the variable of a FOR
  counter_there : (counter : IntegerCell) (st : State) → length st.stored.integers ≡ length ir.names → IsCounter ir counter → IsCloser (length st.stored.integers) (NextOf (cell_of counter))
  counter_there (cells.Resident index) st names there = there
  counter_there (cells.Named name) st names there = omega (arith, names, there)

  -- the open entries name what they may
  abbrev Are : State → Type 0
  Are st = AreEntries (length st.stored.integers) image.items st.stored.opened

  are_from : (st : State) → AreEntries (length st.stored.integers) (length ir.starts) st.stored.opened → Are st
  are_from st are = subst (λ n. AreEntries (length st.stored.integers) n st.stored.opened) (sym items_are) are

  -- every operation, where what it names is at its address
  pub op_owes : (x : Op) → address.text ≡ text_at (text_of ir x) → (numbers : List ℤ) (texts : List (List ℕ)) (st : State) (s : Core) → Fits ir x numbers texts st → StandsFor image (record { numbers = numbers; texts = texts }) st s → IsGood s → SameCode image.bytes s.mem
      → Owes CodeAsks CodeDoes (op_code address x) (Arrives image (effect ir outermost x (record { numbers = numbers; texts = texts }) st)) s
  op_owes (o.Push value) named numbers texts st s c f good same = push_owes address value c.widths f good c.short
  op_owes o.PushColumn named numbers texts st s c f good same = push_column_owes address f good c.short
  op_owes (o.PushResident index) named numbers texts st s c f good same = push_resident_owes address index c.coded f good c.short
  op_owes (o.PushInteger name line) named numbers texts st s c f good same = push_integer_owes address name line (let n = c.names in let t = c.there in omega (arith, n, t)) c.widths.1 f good c.short
  op_owes (o.PushText number) named numbers texts st s c f good same = push_text_owes address number (slice_index_or ir.texts number []) (subst (λ a. IsText image.bytes a (slice_index_or ir.texts number [])) (sym named) (literals number c.there)) f good c.short
  op_owes (o.Unary x line) named [] texts st s c f good same = absurd (let e = c.finds in cc e)
  op_owes (o.Unary x line) named (value ∷ numbers) texts st s c f good same =
      let q : Pending = record { numbers = numbers; texts = texts } in
      subst (λ v. Owes CodeAsks CodeDoes (unary_code x line) (Arrives image (computed (of_one x v) line q st)) s) f.numbers.0 (unary_owes x line q st s c.widths good (without_top f))
  op_owes (o.Binary x line) named [] texts st s c f good same = absurd (let e = c.finds in cc e)
  op_owes (o.Binary x line) named (value ∷ []) texts st s c f good same = absurd (let e = c.finds in cc e)
  op_owes (o.Binary x line) named (y ∷ z ∷ numbers) texts st s c f good same = binary_from x line y z numbers texts st s c.widths c.short f good
  op_owes (o.BinaryWith x line number) named [] texts st s c f good same = absurd (let e = c.finds in cc e)
  op_owes (o.BinaryWith x line number) named (y ∷ numbers) texts st s c f good same =
      binary_with_owes address x line number y c.widths.0 c.widths.1 f good
  op_owes (o.BinaryWithResident x resident line) named [] texts st s c f good same = absurd (let e = c.finds in cc e)
  op_owes (o.BinaryWithResident x resident line) named (y ∷ numbers) texts st s c f good same =
      binary_with_resident_owes address x resident line y c.coded c.widths.1 f good
  op_owes (o.ChangeResident x resident line number) named numbers texts st s c f good same =
      change_resident_owes address x resident line number c.coded c.widths.1 c.widths.2 f good c.short
  op_owes (o.StoreResident index) named [] texts st s c f good same = absurd (let e = c.finds in cc e)
  op_owes (o.StoreResident index) named (value ∷ numbers) texts st s c f good same = store_resident_owes address index value c.coded f (good.regs 0) (let h = c.short in omega (arith, h))
  op_owes (o.StoreInteger name) named [] texts st s c f good same = absurd (let e = c.finds in cc e)
  op_owes (o.StoreInteger name) named (value ∷ numbers) texts st s c f good same = store_integer_owes address name value (let n = c.names in let t = c.there in omega (arith, n, t)) f good (let h = c.short in omega (arith, h))
  op_owes (o.WriteNumber padded format) named [] texts st s c f good same = absurd (let e = c.finds in cc e)
  op_owes (o.WriteNumber padded format) named (value ∷ numbers) texts st s c f good same = write_number_owes address padded format value f (let h = c.short in omega (arith, h))
  op_owes o.WriteText named numbers [] st s c f good same = absurd (let e = c.finds in cc e)
  op_owes o.WriteText named numbers (text ∷ texts) st s c f good same = write_text_owes address (record { numbers = numbers; texts = texts }) text f good same c.short
  op_owes (o.Write x) named [] texts st s c f good same = absurd (let e = c.finds in cc e)
  op_owes (o.Write x) named (value ∷ numbers) texts st s c f good same = write_owes address x value f good (let h = c.short in omega (arith, h))
  op_owes (o.WriteMark x) named numbers texts st s c f good same = write_mark_owes address x f good c.short
  op_owes (o.Go item) named numbers texts st s c f good same = go_from item numbers texts st s c.jumps f
  op_owes (o.GoIfZero item) named [] texts st s c f good same = absurd (let e = c.finds in cc e)
  op_owes (o.GoIfZero item) named (value ∷ numbers) texts st s c f good same = go_if_zero_from item value numbers texts st s c.jumps f good
  op_owes (o.GoUnless relation item) named [] texts st s c f good same = absurd (let e = c.finds in cc e)
  op_owes (o.GoUnless relation item) named (y ∷ []) texts st s c f good same = absurd (let e = c.finds in cc e)
  op_owes (o.GoUnless relation item) named (y ∷ x ∷ numbers) texts st s c f good same =
      subst (λ q. StandsFor image (pushed y (pushed x q)) st s → Owes CodeAsks CodeDoes (op_code address (o.GoUnless relation item)) (Arrives image (Value (go_unless relation x y item q) st)) s) (none_is c.jumps)
      (λ g. go_unless_owes address relation item y x g good) f
  op_owes (o.GoUnlessWith relation item number) named [] texts st s c f good same = absurd (let e = c.finds in cc e)
  op_owes (o.GoUnlessWith relation item number) named (x ∷ numbers) texts st s c f good same =
      subst (λ q. StandsFor image (pushed x q) st s → Owes CodeAsks CodeDoes (op_code address (o.GoUnlessWith relation item number)) (Arrives image (Value (go_unless relation x number item q) st)) s) (none_is c.jumps)
      (λ g. go_unless_with_owes address relation item number x c.widths.1 g good) f
  op_owes o.Discard named [] texts st s c f good same = absurd (let e = c.finds in cc e)
  op_owes o.Discard named (value ∷ numbers) texts st s c f good same = discard_owes site address back (record { numbers = numbers; texts = texts }) value f
  op_owes (o.GoIfOne item) named [] texts st s c f good same = absurd (let e = c.finds in cc e)
  op_owes (o.GoIfOne item) named (value ∷ numbers) texts st s c f good same =
      subst (λ q. StandsFor image (pushed value q) st s → Owes CodeAsks CodeDoes (op_code address (o.GoIfOne item)) (Arrives image (Value (go_if_one (int_eq value (pos 1)) item value q) st)) s) (none_is c.jumps)
      (λ g. go_if_one_owes site address back item value g good) f
  op_owes (o.GosubIfOne line item) named [] texts st s c f good same = absurd (let e = c.finds in cc e)
  op_owes (o.GosubIfOne line item) named (value ∷ numbers) texts st s c f good same =
      subst (λ q. StandsFor image (pushed value q) st s → Owes CodeAsks CodeDoes (op_code address (o.GosubIfOne line item)) (Arrives image (Value (gosub_if_one (int_eq value (pos 1)) item line value q) st)) s) (none_is c.jumps)
      (λ g. gosub_if_one_owes site address back item line value c.widths.1 g good) f
  op_owes (o.RaiseIfOne error line) named [] texts st s c f good same = absurd (let e = c.finds in cc e)
  op_owes (o.RaiseIfOne error line) named (value ∷ numbers) texts st s c f good same =
      raise_if_one_owes site address back (record { numbers = numbers; texts = texts }) error line value c.coded c.widths.1 f good
  op_owes (o.GoIfEqual item) named [] texts st s c f good same = absurd (let e = c.finds in cc e)
  op_owes (o.GoIfEqual item) named (y ∷ []) texts st s c f good same = absurd (let e = c.finds in cc e)
  op_owes (o.GoIfEqual item) named (y ∷ x ∷ numbers) texts st s c f good same =
      subst (λ q. StandsFor image (pushed y (pushed x q)) st s → Owes CodeAsks CodeDoes (op_code address (o.GoIfEqual item)) (Arrives image (Value (go_if_equal (int_eq y x) item x q) st)) s) (none_is c.jumps)
      (λ g. go_if_equal_owes site address back item y x g good) f
  op_owes (o.OpenFor counter line) named [] texts st s c f good same = absurd (let e = c.finds in cc e)
  op_owes (o.OpenFor counter line) named (step ∷ []) texts st s c f good same = absurd (let e = c.finds in cc e)
  op_owes (o.OpenFor counter line) named (step ∷ limit ∷ numbers) texts st s c f good same =
      open_for_owes site address back (record { numbers = numbers; texts = texts }) counter line limit step c.widths.1 c.widths.0 (counter_there counter st c.names c.there) (let h = c.short in omega (arith, h)) f
  op_owes (o.OpenRepeat line) named numbers texts st s c f good same = open_repeat_owes site address back (record { numbers = numbers; texts = texts }) line c.widths c.short f
  op_owes (o.OpenWhile line) named numbers texts st s c f good same = open_while_owes site address back (record { numbers = numbers; texts = texts }) line c.widths c.short f
  op_owes (o.Gosub line item) named numbers texts st s c f good same =
      subst (λ q. StandsFor image q st s → Owes CodeAsks CodeDoes (op_code address (o.Gosub line item)) (Arrives image (effect ir outermost (o.Gosub line item) q st)) s) (none_is c.jumps)
      (λ g. gosub_owes site address back item line c.widths.1 g) f
  op_owes (o.Next counter line) named numbers texts st s c f good same =
      subst (λ q. StandsFor image q st s → Owes CodeAsks CodeDoes (op_code address (o.Next counter line)) (Arrives image (effect ir outermost (o.Next counter line) q st)) s) (none_is c.jumps)
      (λ g. next_owes site address (are_from st c.entries) line c.widths.1 g counter c.widths.0 (counter_there counter st c.names c.there)) f
  op_owes (o.NextAny line) named numbers texts st s c f good same =
      subst (λ q. StandsFor image q st s → Owes CodeAsks CodeDoes (op_code address (o.NextAny line)) (Arrives image (effect ir outermost (o.NextAny line) q st)) s) (none_is c.jumps)
      (λ g. next_any_owes site address (are_from st c.entries) line c.widths g) f
  op_owes (o.Until line) named [] texts st s c f good same = absurd (let e = c.finds in cc e)
  op_owes (o.Until line) named (value ∷ numbers) texts st s c f good same =
      subst (λ q. StandsFor image (pushed value q) st s → Owes CodeAsks CodeDoes (op_code address (o.Until line)) (Arrives image (effect ir outermost (o.Until line) (pushed value q) st)) s) (none_is c.jumps)
      (λ g. until_owes site address back (are_from st c.entries) line c.widths value g) f
  op_owes (o.EndWhile line) named numbers texts st s c f good same =
      subst (λ q. StandsFor image q st s → Owes CodeAsks CodeDoes (op_code address (o.EndWhile line)) (Arrives image (effect ir outermost (o.EndWhile line) q st)) s) (none_is c.jumps)
      (λ g. endwhile_owes site address back (are_from st c.entries) line c.widths g) f
  op_owes (o.Return line) named numbers texts st s c f good same =
      subst (λ q. StandsFor image q st s → Owes CodeAsks CodeDoes (op_code address (o.Return line)) (Arrives image (effect ir outermost (o.Return line) q st)) s) (none_is c.jumps)
      (λ g. return_owes site address back (are_from st c.entries) line c.widths g) f
  op_owes (o.ReadNumber line) named numbers texts st s c f good same =
      subst (λ t. Owes CodeAsks CodeDoes (op_code address (o.ReadNumber line)) (Arrives image (Reads st line (record { numbers = numbers; texts = texts }) (slice_get t st.data_place))) s) (ap (λ t. t.texts) table_is)
      (read_number_owes site line c.widths f good same c.short address)
  op_owes (o.Restore item) named numbers texts st s c f good same =
      restore_owes site item address.text (subst (λ t. item ≤ length t.texts) (sym table_is) c.there) (named ∙ ap (λ t. t.address item) (sym table_is)) f c.short
  op_owes (o.Raise error line) named numbers texts st s c f good same = raise_owes address (record { numbers = numbers; texts = texts }) error line c.coded c.widths.1 f
  op_owes o.End named numbers texts st s c f good same = end_owes address (record { numbers = numbers; texts = texts }) f
  op_owes (o.Enter kind routine line) named numbers texts st s c f good same = absurd c.coded
  op_owes (o.LeaveProcedure line) named numbers texts st s c f good same = absurd c.coded
  op_owes (o.NeedFunction line) named numbers texts st s c f good same = absurd c.coded
  op_owes o.LeaveNumber named numbers texts st s c f good same = absurd c.coded
  op_owes o.LeaveText named numbers texts st s c f good same = absurd c.coded
  op_owes (o.HandleAll item) named numbers texts st s c f good same = absurd c.coded
  op_owes (o.HandleHere item) named numbers texts st s c f good same = absurd c.coded
  op_owes o.HandleNone named numbers texts st s c f good same = absurd c.coded
