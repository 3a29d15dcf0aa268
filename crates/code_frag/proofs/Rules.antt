-- The rules of the routine language, in the order of execution: a proof follows its routine from the first instruction to
-- the last, and each value that is loaded or computed gets a name of the author's.
use Rattle.std.proofs.Common.{◌≡◌, ℕ, zero, suc, ◌+◌, ◌-◌, ◌*◌, ◌%◌, ◌^◌, ◌<◌, ◌≤◌, Bool, true, false, if◌then◌else◌, List, [], ◌∷◌, ◌++◌, Some, refl, sym, subst, ◌∙◌, arith, length}
use Rattle.bv_base.specs.MemoryMap.{ram_end}
use Rattle.bv_run.specs.declared.report.Report.{Report}
use Rattle.arm_isa.specs.declared.instruction.Instr.{Instr}
use Rattle.arm_isa.specs.declared.instruction.Instr.TheVariants.{Data, Mul, Single, Block, Swi}
use Rattle.arm2_alu.specs.declared.operations.Computed.{Computed}
use Rattle.arm2_alu.specs.Operations.{is_test}
use Rattle.arm2_alu.proofs.RegisterLaws.{updated}
use Rattle.arm_core.specs.Core.{Core, put, word, put_word, meets, IsGood}
use Rattle.arm_core.specs.Effects.{computes, on_condition, takes_input, listed, stored_words, loaded_words, CanUseBlock, operand_in, result_of, flagged_by, moved_by, offset_in, report_in, return_place}
use Rattle.code_frag.specs.Demands.{Exit, ToLabel, ToPlace, ToEnd, Out, Falls, Leaves, Post, instruction_owes, on_falls, Either, turns, rounds, Wp, Owes}
use Rattle.code_frag.specs.Language.{Piece, Skip, Do, Seq, If, When, While, Repeat, Call, Leave, LeaveIf, LeaveTo, Halt}
use Rattle.code_frag.specs.Places.{IsData}
use Rattle.code_frag.proofs.Monotone.{instruction_mono, mono}
-- what is asked at each turn of a loop: the rules of loops are read with it
pub use Rattle.code_frag.specs.Turns.{Less, Round, Turn}

module _ {Asks : ℕ → Core → Type 0} {Does : ℕ → Core → Out → Core → Type 0} where
  -- ---- ends and single steps

  pub end_here : {Q : Post} {s : Core} → Q Falls s → Owes Asks Does Skip Q s
  end_here q = record { by = q }

  pub do_then : {i : Instr} {rest : Piece} {Q : Post} {s : Core} → instruction_owes i (Owes Asks Does rest Q) s → Owes Asks Does (Seq (Do i) rest) Q s
  do_then {i} {rest} {Q} {s} owes = record { by = instruction_mono i (Owes Asks Does rest Q) (Wp Asks Does rest Q) (λ t x. x.by) s owes }

  pub skip_then : {rest : Piece} {Q : Post} {s : Core} → Owes Asks Does rest Q s → Owes Asks Does (Seq Skip rest) Q s
  skip_then x = record { by = x.by }

  pub seq_then : {a b rest : Piece} {Q : Post} {s : Core} → Owes Asks Does (Seq a (Seq b rest)) Q s → Owes Asks Does (Seq (Seq a b) rest) Q s
  seq_then {a} {b} {rest} {Q} {s} x = record { by = mono Asks Does a _ _ regroup s x.by }
    where
      regroup : (o : Out) (t : Core) → on_falls (Wp Asks Does (Seq b rest) Q) Q o t → on_falls (Wp Asks Does b (on_falls (Wp Asks Does rest Q) Q)) (on_falls (Wp Asks Does rest Q) Q) o t
      regroup Falls t q = q
      regroup (Leaves e) t q = q

  -- a part, and then the rest
  pub part_then : {a rest : Piece} {Q : Post} {s : Core} → Owes Asks Does a (on_falls (Owes Asks Does rest Q) Q) s → Owes Asks Does (Seq a rest) Q s
  part_then {a} {rest} {Q} {s} x = record { by = mono Asks Does a _ _ opened s x.by }
    where
      opened : (o : Out) (t : Core) → on_falls (Owes Asks Does rest Q) Q o t → on_falls (Wp Asks Does rest Q) Q o t
      opened Falls t q = q.by
      opened (Leaves e) t q = q

  -- the same with a fact in between, so that the rest is proved once where branches join
  pub cut_then : {a rest : Piece} {Q : Post} {s : Core} (M : Core → Type 0) → Owes Asks Does a (on_falls M Q) s → ((t : Core) → M t → Owes Asks Does rest Q t) → Owes Asks Does (Seq a rest) Q s
  cut_then {a} {rest} {Q} {s} M x rest_owes = record { by = mono Asks Does a _ _ joined s x.by }
    where
      joined : (o : Out) (t : Core) → on_falls M Q o t → on_falls (Wp Asks Does rest Q) Q o t
      joined Falls t q = (rest_owes t q).by
      joined (Leaves e) t q = q

  -- other names for the memory and the output
  pub named_then : {p : Piece} {Q : Post} {s : Core} (m : ℕ → ℕ) (out : List ℕ) → s.mem ≡ m → s.out ≡ out → Owes Asks Does p Q (record s { mem = m; out = out }) → Owes Asks Does p Q s
  named_then {p} {Q} {s} m out mem_is out_is x = subst (Owes Asks Does p Q) (λ i. record s { mem = sym mem_is i; out = sym out_is i }) x

  -- ---- exits

  pub leave_then : {e : ℕ} {rest : Piece} {Q : Post} {s : Core} → Q (Leaves (ToLabel e)) s → Owes Asks Does (Seq (Leave e) rest) Q s
  leave_then q = record { by = q }

  pub leave_if_then : {k e : ℕ} {rest : Piece} {Q : Post} {s : Core} → (meets k s ≡ true → Q (Leaves (ToLabel e)) s) → (meets k s ≡ false → Owes Asks Does rest Q s) → Owes Asks Does (Seq (LeaveIf k e) rest) Q s
  leave_if_then leaves stays = record { by = (leaves, λ e. (stays e).by) }

  pub leave_to_then : {rm : ℕ} {rest : Piece} {Q : Post} {s : Core} (a : ℕ) → return_place (s.regs rm) ≡ a → Q (Leaves (ToPlace a)) s → Owes Asks Does (Seq (LeaveTo rm) rest) Q s
  leave_to_then {rm} {rest} {Q} {s} a is q = record { by = subst (λ p. Q (Leaves (ToPlace p)) s) (sym is) q }

  pub halt_then : {rest : Piece} {Q : Post} {s : Core} (report : Report) → report_in s ≡ Some report → Q (Leaves (ToEnd report)) s → Owes Asks Does (Seq Halt rest) Q s
  halt_then report is q = record { by = (report, is, q) }

  -- ---- choices

  pub if_then : {k : ℕ} {a b rest : Piece} {Q : Post} {s : Core} → (meets k s ≡ true → Owes Asks Does a (on_falls (Owes Asks Does rest Q) Q) s) → (meets k s ≡ false → Owes Asks Does b (on_falls (Owes Asks Does rest Q) Q) s)
      → Owes Asks Does (Seq (If k a b) rest) Q s
  if_then where_held where_failed = record { by = (λ e. (part_then (where_held e)).by, λ e. (part_then (where_failed e)).by) }

  pub when_then : {k : ℕ} {a rest : Piece} {Q : Post} {s : Core} → (meets k s ≡ true → Owes Asks Does a (on_falls (Owes Asks Does rest Q) Q) s) → (meets k s ≡ false → Owes Asks Does rest Q s)
      → Owes Asks Does (Seq (When k a) rest) Q s
  when_then where_held where_failed = record { by = (λ e. (part_then (where_held e)).by, λ e. (where_failed e).by) }

  -- ---- values

  -- data processing without flags: Rd takes a value
  pub set_then : {imm : Bool} {op rn rd op2 : ℕ} {rest : Piece} {Q : Post} {s : Core} (x : ℕ) → is_test op ≡ false → (result_of op (s.regs rn) (operand_in imm op2 s) s.c s.v).value ≡ x
      → Owes Asks Does rest Q (put rd x s) → Owes Asks Does (Seq (Do (Data 14 imm op false rn rd op2)) rest) Q s
  set_then {imm} {op} {rn} {rd} {op2} {rest} {Q} {s} x no_test is owes =
      let r = result_of op (s.regs rn) (operand_in imm op2 s) s.c s.v in
      do_then (subst (λ b. Owes Asks Does rest Q (if b then flagged_by r s else put rd r.value s)) (sym no_test) (subst (λ y. Owes Asks Does rest Q (put rd y s)) (sym is) owes))

  -- with flags: the result by its value, C and V
  pub set_flags_then : {imm : Bool} {op rn rd op2 : ℕ} {rest : Piece} {Q : Post} {s : Core} (x : Computed) → is_test op ≡ false → result_of op (s.regs rn) (operand_in imm op2 s) s.c s.v ≡ x
      → Owes Asks Does rest Q (put rd x.value (flagged_by x s)) → Owes Asks Does (Seq (Do (Data 14 imm op true rn rd op2)) rest) Q s
  set_flags_then {imm} {op} {rn} {rd} {op2} {rest} {Q} {s} x no_test is owes =
      let r = result_of op (s.regs rn) (operand_in imm op2 s) s.c s.v in
      do_then (subst (λ b. Owes Asks Does rest Q (if b then flagged_by r s else put rd r.value (flagged_by r s))) (sym no_test) (subst (λ y. Owes Asks Does rest Q (put rd y.value (flagged_by y s))) (sym is) owes))

  -- a test: the flags alone
  pub test_then : {imm : Bool} {op rn rd op2 : ℕ} {rest : Piece} {Q : Post} {s : Core} (x : Computed) → is_test op ≡ true → result_of op (s.regs rn) (operand_in imm op2 s) s.c s.v ≡ x
      → Owes Asks Does rest Q (flagged_by x s) → Owes Asks Does (Seq (Do (Data 14 imm op true rn rd op2)) rest) Q s
  test_then {imm} {op} {rn} {rd} {op2} {rest} {Q} {s} x test is owes =
      let r = result_of op (s.regs rn) (operand_in imm op2 s) s.c s.v in
      do_then (subst (λ b. Owes Asks Does rest Q (if b then flagged_by r s else put rd r.value (flagged_by r s))) (sym test) (subst (λ y. Owes Asks Does rest Q (flagged_by y s)) (sym is) owes))

  -- data processing under a condition that holds, and under one that fails
  pub set_where_then : {k : ℕ} {imm : Bool} {op rn rd op2 : ℕ} {rest : Piece} {Q : Post} {s : Core} (x : ℕ) → meets k s ≡ true → is_test op ≡ false → (result_of op (s.regs rn) (operand_in imm op2 s) s.c s.v).value ≡ x
      → Owes Asks Does rest Q (put rd x s) → Owes Asks Does (Seq (Do (Data k imm op false rn rd op2)) rest) Q s
  set_where_then {k} {imm} {op} {rn} {rd} {op2} {rest} {Q} {s} x holding no_test is owes =
      let r = result_of op (s.regs rn) (operand_in imm op2 s) s.c s.v in
      do_then (subst (λ b. Owes Asks Does rest Q (on_condition b (computes imm op false rn rd op2 s) s)) (sym holding)
      (subst (λ b. Owes Asks Does rest Q (if b then flagged_by r s else put rd r.value s)) (sym no_test) (subst (λ y. Owes Asks Does rest Q (put rd y s)) (sym is) owes)))

  pub skip_where_then : {k : ℕ} {imm flags : Bool} {op rn rd op2 : ℕ} {rest : Piece} {Q : Post} {s : Core} → meets k s ≡ false → Owes Asks Does rest Q s → Owes Asks Does (Seq (Do (Data k imm op flags rn rd op2)) rest) Q s
  skip_where_then {k} {imm} {flags} {op} {rn} {rd} {op2} {rest} {Q} {s} fails owes =
      do_then (subst (λ b. Owes Asks Does rest Q (on_condition b (computes imm op flags rn rd op2 s) s)) (sym fails) owes)

  -- MUL Rd,Rm,Rs
  pub multiply_then : {rd rn rs rm : ℕ} {rest : Piece} {Q : Post} {s : Core} (x : ℕ) → s.regs rm * s.regs rs % 2 ^ 32 ≡ x → Owes Asks Does rest Q (put rd x s) → Owes Asks Does (Seq (Do (Mul 14 false false rd rn rs rm)) rest) Q s
  multiply_then {rd} {rn} {rs} {rm} {rest} {Q} {s} x is owes = do_then (subst (λ y. Owes Asks Does rest Q (put rd y s)) (sym is) owes)

  -- the board's calls: a byte that is written, a new line, and a byte of the input or its end
  pub write_then : {rest : Piece} {Q : Post} {s : Core} (byte : ℕ) → s.regs 0 % 2 ^ 8 ≡ byte → Owes Asks Does rest Q (record s { out = s.out ++ byte ∷ [] }) → Owes Asks Does (Seq (Do (Swi 14 0)) rest) Q s
  write_then {rest} {Q} {s} byte is owes = do_then (subst (λ b. Owes Asks Does rest Q (record s { out = s.out ++ b ∷ [] })) (sym is) owes)

  pub new_line_then : {rest : Piece} {Q : Post} {s : Core} → Owes Asks Does rest Q (record s { out = s.out ++ 10 ∷ 13 ∷ [] }) → Owes Asks Does (Seq (Do (Swi 14 3)) rest) Q s
  new_line_then owes = do_then owes

  pub read_then : {rest : Piece} {Q : Post} {s : Core} → (s.input ≡ [] → Owes Asks Does rest Q (put 0 (2 ^ 32 - 1) s))
      → ((byte : ℕ) (more : List ℕ) → s.input ≡ byte ∷ more → Owes Asks Does rest Q (record s { regs = updated s.regs 0 byte; input = more })) → Owes Asks Does (Seq (Do (Swi 14 4)) rest) Q s
  read_then {rest} {Q} {s} at_end reads = do_then (each s.input refl)
    where
      each : (input : List ℕ) → s.input ≡ input → Owes Asks Does rest Q (takes_input input s)
      each [] is = at_end is
      each (byte ∷ more) is = reads byte more is

  -- ---- memory

  -- LDR Rd,[Rn,offset]
  pub load_then : {reg up : Bool} {rn rd offset : ℕ} {rest : Piece} {Q : Post} {s : Core} (a x : ℕ) → moved_by up (s.regs rn) (offset_in reg offset s) ≡ a → word s.mem a ≡ x → a % 4 ≡ 0 → a < ram_end
      → (x < 2 ^ 32 → Owes Asks Does rest Q (put rd x s)) → Owes Asks Does (Seq (Do (Single 14 reg true up false false true rn rd offset)) rest) Q s
  load_then {reg} {up} {rn} {rd} {offset} {rest} {Q} {s} a x place is aligned inside rest_owes =
      do_then (subst (λ b. (b % 4 ≡ 0) × (b < ram_end) × (word s.mem b < 2 ^ 32 → Owes Asks Does rest Q (put rd (word s.mem b) s))) (sym place)
      (aligned, inside, subst (λ y. y < 2 ^ 32 → Owes Asks Does rest Q (put rd y s)) (sym is) rest_owes))

  -- LDRB Rd,[Rn,offset]
  pub load_byte_then : {reg up : Bool} {rn rd offset : ℕ} {rest : Piece} {Q : Post} {s : Core} (a x : ℕ) → moved_by up (s.regs rn) (offset_in reg offset s) ≡ a → s.mem a ≡ x → a < ram_end
      → (x < 2 ^ 8 → Owes Asks Does rest Q (put rd x s)) → Owes Asks Does (Seq (Do (Single 14 reg true up true false true rn rd offset)) rest) Q s
  load_byte_then {reg} {up} {rn} {rd} {offset} {rest} {Q} {s} a x place is inside rest_owes =
      do_then (subst (λ b. (b < ram_end) × (s.mem b < 2 ^ 8 → Owes Asks Does rest Q (put rd (s.mem b) s))) (sym place)
      (inside, subst (λ y. y < 2 ^ 8 → Owes Asks Does rest Q (put rd y s)) (sym is) rest_owes))

  -- STR Rd,[Rn,offset]
  pub store_then : {reg up : Bool} {rn rd offset : ℕ} {rest : Piece} {Q : Post} {s : Core} (a x : ℕ) → moved_by up (s.regs rn) (offset_in reg offset s) ≡ a → s.regs rd ≡ x → a % 4 ≡ 0 → IsData a 4
      → Owes Asks Does rest Q (record s { mem = put_word s.mem a x }) → Owes Asks Does (Seq (Do (Single 14 reg true up false false false rn rd offset)) rest) Q s
  store_then {reg} {up} {rn} {rd} {offset} {rest} {Q} {s} a x place is aligned data_is rest_owes =
      do_then (subst (λ b. (b % 4 ≡ 0) × IsData b 4 × Owes Asks Does rest Q (record s { mem = put_word s.mem b (s.regs rd) })) (sym place)
      (aligned, data_is, subst (λ y. Owes Asks Does rest Q (record s { mem = put_word s.mem a y })) (sym is) rest_owes))

  -- STRB Rd,[Rn,offset]
  pub store_byte_then : {reg up : Bool} {rn rd offset : ℕ} {rest : Piece} {Q : Post} {s : Core} (a x : ℕ) → moved_by up (s.regs rn) (offset_in reg offset s) ≡ a → s.regs rd % 2 ^ 8 ≡ x → IsData a 1
      → Owes Asks Does rest Q (record s { mem = updated s.mem a x }) → Owes Asks Does (Seq (Do (Single 14 reg true up true false false rn rd offset)) rest) Q s
  store_byte_then {reg} {up} {rn} {rd} {offset} {rest} {Q} {s} a x place is data_is rest_owes =
      do_then (subst (λ b. IsData b 1 × Owes Asks Does rest Q (record s { mem = updated s.mem b (s.regs rd % 2 ^ 8) })) (sym place)
      (data_is, subst (λ y. Owes Asks Does rest Q (record s { mem = updated s.mem a y })) (sym is) rest_owes))

  -- STR Rd,[Rn,offset]!: Rn takes the address
  pub push_then : {reg up : Bool} {rn rd offset : ℕ} {rest : Piece} {Q : Post} {s : Core} (a x : ℕ) → moved_by up (s.regs rn) (offset_in reg offset s) ≡ a → s.regs rd ≡ x → a % 4 ≡ 0 → IsData a 4
      → Owes Asks Does rest Q (record s { regs = updated s.regs rn a; mem = put_word s.mem a x }) → Owes Asks Does (Seq (Do (Single 14 reg true up false true false rn rd offset)) rest) Q s
  push_then {reg} {up} {rn} {rd} {offset} {rest} {Q} {s} a x place is aligned data_is rest_owes =
      do_then (subst (λ b. (b % 4 ≡ 0) × IsData b 4 × Owes Asks Does rest Q (record s { regs = updated s.regs rn b; mem = put_word s.mem b (s.regs rd) })) (sym place)
      (aligned, data_is, subst (λ y. Owes Asks Does rest Q (record s { regs = updated s.regs rn a; mem = put_word s.mem a y })) (sym is) rest_owes))

  -- LDR Rd,[Rn],offset: Rn takes the moved address after the load
  pub pull_then : {reg up : Bool} {rn rd offset : ℕ} {rest : Piece} {Q : Post} {s : Core} (a x next : ℕ) → s.regs rn ≡ a → word s.mem a ≡ x → moved_by up (s.regs rn) (offset_in reg offset s) ≡ next → a % 4 ≡ 0 → a < ram_end
      → (x < 2 ^ 32 → Owes Asks Does rest Q (put rd x (put rn next s))) → Owes Asks Does (Seq (Do (Single 14 reg false up false false true rn rd offset)) rest) Q s
  pull_then {reg} {up} {rn} {rd} {offset} {rest} {Q} {s} a x next place is moves aligned inside rest_owes =
      do_then (subst (λ c. (s.regs rn % 4 ≡ 0) × (s.regs rn < ram_end) × (word s.mem (s.regs rn) < 2 ^ 32 → Owes Asks Does rest Q (put rd (word s.mem (s.regs rn)) (put rn c s)))) (sym moves)
      (subst (λ b. (b % 4 ≡ 0) × (b < ram_end) × (word s.mem b < 2 ^ 32 → Owes Asks Does rest Q (put rd (word s.mem b) (put rn next s)))) (sym place)
      (aligned, inside, subst (λ y. y < 2 ^ 32 → Owes Asks Does rest Q (put rd y (put rn next s))) (sym is) rest_owes)))

  -- STMDB Rn!,{..}: the registers of a list are stored below Rn, which takes the address of the first
  pub push_all_then : {rn list : ℕ} {rest : Piece} {Q : Post} {s : Core} (a : ℕ) → moved_by false (s.regs rn) (4 * length (listed list)) ≡ a → a % 4 ≡ 0 → IsData a (4 * length (listed list))
      → Owes Asks Does rest Q (record s { regs = updated s.regs rn a; mem = stored_words (listed list) s.regs s.mem a }) → Owes Asks Does (Seq (Do (Block 14 true false false true false rn list)) rest) Q s
  push_all_then {rn} {list} {rest} {Q} {s} a place aligned data_is rest_owes =
      let count = 4 * length (listed list) in
      let base = moved_by false (s.regs rn) count in
      let lowest : a ≡ base + 0 = sym place ∙ omega arith in
      do_then (subst (λ b. (b % 4 ≡ 0) × IsData b count × Owes Asks Does rest Q (record s { regs = updated s.regs rn base; mem = stored_words (listed list) s.regs s.mem b })) lowest
      (aligned, data_is, subst (λ b. Owes Asks Does rest Q (record s { regs = updated s.regs rn b; mem = stored_words (listed list) s.regs s.mem a })) (sym place) rest_owes))

  -- LDMIA Rn!,{..}: the registers of a list take the words from Rn up, which takes the address after them
  pub pull_all_then : {rn list : ℕ} {rest : Piece} {Q : Post} {s : Core} (a next : ℕ) → s.regs rn ≡ a → moved_by true (s.regs rn) (4 * length (listed list)) ≡ next → a % 4 ≡ 0 → a + 4 * length (listed list) ≤ ram_end
      → (((b : ℕ) → word s.mem b < 2 ^ 32) → Owes Asks Does rest Q (record s { regs = loaded_words (listed list) s.mem a (updated s.regs rn next) })) → Owes Asks Does (Seq (Do (Block 14 false true false true true rn list)) rest) Q s
  pull_all_then {rn} {list} {rest} {Q} {s} a next place moves aligned inside rest_owes =
      let lowest : a ≡ s.regs rn + 0 = sym place ∙ omega arith in
      do_then (subst (λ b. CanUseBlock b (length (listed list)) × (((c : ℕ) → word s.mem c < 2 ^ 32) → Owes Asks Does rest Q (record s { regs = loaded_words (listed list) s.mem b (updated s.regs rn (moved_by true (s.regs rn) (4 * length (listed list)))) }))) lowest
      ((aligned, inside), subst (λ y. ((c : ℕ) → word s.mem c < 2 ^ 32) → Owes Asks Does rest Q (record s { regs = loaded_words (listed list) s.mem a (updated s.regs rn y) })) (sym moves) rest_owes))

  -- ---- calls

  -- an entry, by its relation: R14 is any word after it
  pub call_then : {e : ℕ} {rest : Piece} {Q : Post} {s : Core} → ((r : ℕ) → r < 2 ^ 32 → Asks e (put 14 r s)) → ((r : ℕ) (t : Core) → r < 2 ^ 32 → IsGood t → Does e (put 14 r s) Falls t → Owes Asks Does rest Q t)
      → ((r : ℕ) (l : Exit) (t : Core) → r < 2 ^ 32 → IsGood t → Does e (put 14 r s) (Leaves l) t → Q (Leaves l) t) → Owes Asks Does (Seq (Call e) rest) Q s
  call_then {e} {rest} {Q} {s} asks comes leaves = record { by = λ r small. (asks r small, by_out r small) }
    where
      by_out : (r : ℕ) → r < 2 ^ 32 → (o : Out) (t : Core) → IsGood t → Does e (put 14 r s) o t → on_falls (Wp Asks Does rest Q) Q o t
      by_out r small Falls t good does = (comes r t small good does).by
      by_out r small (Leaves l) t good does = leaves r l t small good does

  -- ---- loops: a number falls at each turn

  repeat_within : {k : ℕ} {body rest : Piece} {Q : Post} (I : ℕ → Core → Type 0) → ((n : ℕ) (t : Core) → I n t → Owes Asks Does body (on_falls (Round Asks Does k rest Q I n) Q) t)
      → (bound n : ℕ) (s : Core) → n < bound → I n s → rounds (Wp Asks Does body) k (on_falls (Wp Asks Does rest Q) Q) bound s
  repeat_within I turn zero n s within inv = absurd (omega (arith, within))
  repeat_within {k} {body} {rest} {Q} I turn (suc bound) n s within inv =
      mono Asks Does body _ _ (each (λ t l. repeat_within {k = k} {body = body} {rest = rest} {Q = Q} I turn bound l.count t (omega (arith, within, l.less)) l.inv)) s (turn n s inv).by
    where
      each : ((t : Core) → Less I n t → rounds (Wp Asks Does body) k (on_falls (Wp Asks Does rest Q) Q) bound t) → (o : Out) (t : Core) → on_falls (Round Asks Does k rest Q I n) Q o t
          → on_falls (λ u. Either (meets k u) (rounds (Wp Asks Does body) k (on_falls (Wp Asks Does rest Q) Q) bound u) (Wp Asks Does rest Q u)) (on_falls (Wp Asks Does rest Q) Q) o t
      each again Falls t round = (λ e. again t (round.more e), λ e. (round.done e).by)
      each again (Leaves x) t q = q

  pub repeat_then : {k : ℕ} {body rest : Piece} {Q : Post} {s : Core} (I : ℕ → Core → Type 0) → ((n : ℕ) (t : Core) → I n t → Owes Asks Does body (on_falls (Round Asks Does k rest Q I n) Q) t)
      → (n : ℕ) → I n s → Owes Asks Does (Seq (Repeat body k) rest) Q s
  repeat_then {k} {body} {rest} {Q} {s} I turn n inv = record { by = (suc n, repeat_within {k = k} {body = body} {rest = rest} {Q = Q} I turn (suc n) n s (omega arith) inv) }

  while_within : {k : ℕ} {test body rest : Piece} {Q : Post} (I : ℕ → Core → Type 0) → ((n : ℕ) (t : Core) → I n t → Owes Asks Does test (on_falls (Turn Asks Does k body rest Q I n) Q) t)
      → (bound n : ℕ) (s : Core) → n < bound → I n s → turns (Wp Asks Does test) k (Wp Asks Does body) (on_falls (Wp Asks Does rest Q) Q) bound s
  while_within I turn zero n s within inv = absurd (omega (arith, within))
  while_within {k} {test} {body} {rest} {Q} I turn (suc bound) n s within inv =
      mono Asks Does test _ _ (each (λ t l. while_within {k = k} {test = test} {body = body} {rest = rest} {Q = Q} I turn bound l.count t (omega (arith, within, l.less)) l.inv)) s (turn n s inv).by
    where
      More : Core → Type 0
      More = turns (Wp Asks Does test) k (Wp Asks Does body) (on_falls (Wp Asks Does rest Q) Q) bound

      back : ((t : Core) → Less I n t → More t) → (o : Out) (t : Core) → on_falls (Less I n) Q o t → on_falls More (on_falls (Wp Asks Does rest Q) Q) o t
      back again Falls t less = again t less
      back again (Leaves x) t q = q

      each : ((t : Core) → Less I n t → More t) → (o : Out) (t : Core) → on_falls (Turn Asks Does k body rest Q I n) Q o t
          → on_falls (λ u. Either (meets k u) (Wp Asks Does body (on_falls More (on_falls (Wp Asks Does rest Q) Q)) u) (Wp Asks Does rest Q u)) (on_falls (Wp Asks Does rest Q) Q) o t
      each again Falls t turned = (λ e. mono Asks Does body _ _ (back again) t (turned.more e).by, λ e. (turned.done e).by)
      each again (Leaves x) t q = q

  pub while_then : {k : ℕ} {test body rest : Piece} {Q : Post} {s : Core} (I : ℕ → Core → Type 0) → ((n : ℕ) (t : Core) → I n t → Owes Asks Does test (on_falls (Turn Asks Does k body rest Q I n) Q) t)
      → (n : ℕ) → I n s → Owes Asks Does (Seq (While test k body) rest) Q s
  while_then {k} {test} {body} {rest} {Q} {s} I turn n inv = record { by = (suc n, while_within {k = k} {test = test} {body = body} {rest = rest} {Q = Q} I turn (suc n) n s (omega arith) inv) }
