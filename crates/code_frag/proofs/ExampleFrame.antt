-- A second example: an entry with a frame, which calls another entry twice and has its return address back at the end, and a
-- program that calls it, from their text to the board.
use Rattle.std.proofs.Common.{◌≡◌, ℕ, zero, suc, ◌+◌, ◌-◌, ◌%◌, ◌<◌, ◌≤◌, ◌⊎◌, ◌^◌, true, false, List, [], ◌∷◌, ◌++◌, nat_lt, length, slice_index, Some, inl, inr, refl, sym, ap, ◌∙◌, arith, append_assoc, lt-ltb}
use Rattle.std.proofs.lemmas.Bool.{cases_eq}
use Rattle.bv_base.specs.Bytes.{zeros}
use Rattle.bv_base.specs.MemoryMap.{ram_end, image_start, arena_bytes}
use Rattle.bv_run.specs.declared.report.Report.TheVariants.{Done}
use Rattle.bv_run.specs.Outcome.{Over}
use Rattle.arm_isa.proofs.ImmediateLaws.{immediate_value-byte}
use Rattle.arm2_alu.proofs.RegisterLaws.{updated}
use Rattle.arm2_machine.specs.Machine.{loaded}
use Rattle.arm2_machine.specs.Step.{board_run}
use Rattle.arm_core.specs.Core.{Core, put, word, put_word, IsGood, first_core}
use Rattle.arm_core.proofs.Start.{loaded-is}
use Rattle.arm_core.proofs.MemoryWords.{updated-same, updated-other, byte-put_other, word-put_same, word-put_other}
use Rattle.code_frag.specs.declared.item.Item.{Item}
use Rattle.code_frag.specs.Demands.{ToEnd, Out, Falls, Leaves, at_return, Owes}
use Rattle.code_frag.specs.Instructions.{num, reg, mov, push_all, pull_all, new_line}
use Rattle.code_frag.specs.Language.{Piece, Skip, Call, Halt, ◌⨾◌, items, jump_to}
use Rattle.code_frag.specs.Places.{data_start}
use Rattle.code_frag.specs.Words.{FragState, IsFrag, words_of, label_address}
use Rattle.code_frag.proofs.Branches.{stands_front, stands_after, stands_back}
use Rattle.code_frag.proofs.Example.{SpacesDoes, blanks, spaces, spaces_owes}
use Rattle.code_frag.proofs.Loaded.{image_stands, ends_run, shows_end}
use Rattle.code_frag.proofs.Rules.{end_here, do_then, set_then, push_all_then, pull_all_then, call_then, halt_then}
use Rattle.code_frag.proofs.Sound.{sound, entered}
use Rattle.code_frag.proofs.WordLaws.{length-words_of}

-- a row of R1 spaces, a new line, and a row of R1 spaces again; R4 and R14 lie in the frame
abbrev rows : Piece
rows = push_all 13 0x4010 ⨾ mov 4 (reg 1) ⨾ Call 0 ⨾ new_line ⨾ mov 1 (reg 4) ⨾ Call 0 ⨾ pull_all 13 0x4010 ⨾ Skip

-- the stack has room for the frame
pub record RowsAsks (s : Core) : Type 0 where
  aligned : s.regs 13 % 4 ≡ 0
  low : data_start + 8 ≤ s.regs 13
  high : s.regs 13 ≤ ram_end

-- the rows are written; R4 to R11 and R13 are as they were, and so is the memory but for the frame
pub record RowsDoes (s : Core) (o : Out) (t : Core) : Type 0 where
  falls : o ≡ Falls
  out : t.out ≡ s.out ++ (blanks (s.regs 1) ++ (10 ∷ 13 ∷ blanks (s.regs 1)))
  kept : (k : ℕ) → 4 ≤ k → k < 14 → t.regs k ≡ s.regs k
  mem : (a : ℕ) → (a + 8 < s.regs 13) ⊎ (s.regs 13 ≤ a) → t.mem a ≡ s.mem a

-- the contracts of the entries: the one that is called has the label 0, and this one 1
abbrev Asks : ℕ → Core → Type 0
Asks zero s = Unit {0}
Asks (suc zero) s = RowsAsks s
Asks (suc (suc e)) s = ⊥

abbrev Does : ℕ → Core → Out → Core → Type 0
Does zero s o t = SpacesDoes s o t
Does (suc zero) s o t = RowsDoes s o t
Does (suc (suc e)) s o t = ⊥

-- registers after a frame is loaded: R4, R13 and R14 have their values, and others are as they were
loaded_kept : (f g : ℕ → ℕ) (x y z : ℕ) → x ≡ g 13 → y ≡ g 4 → ((k : ℕ) → 4 < k → k < 13 → f k ≡ g k) → (k : ℕ) → 4 ≤ k → k < 14 → updated (updated (updated f 13 x) 4 y) 14 z k ≡ g k
loaded_kept f g x y z top first between k low high =
    updated-other (updated (updated f 13 x) 4 y) 14 z k (λ e. omega (arith, e, high)) ∙ each (cases_eq k 4) (cases_eq k 13)
  where
    each : (k ≡ 4) ⊎ (k ≡ 4 → ⊥) → (k ≡ 13) ⊎ (k ≡ 13 → ⊥) → updated (updated f 13 x) 4 y k ≡ g k
    each (inl e) c = updated-same (updated f 13 x) 4 y k e ∙ first ∙ ap g (sym e)
    each (inr other) (inl e) = updated-other (updated f 13 x) 4 y k other ∙ updated-same f 13 x k e ∙ top ∙ ap g (sym e)
    each (inr other) (inr last) =
        updated-other (updated f 13 x) 4 y k other ∙ updated-other f 13 x k last ∙ between k (omega (arith, low, other)) (omega (arith, high, last))

module _ (s : Core) (good : IsGood s) (ask : RowsAsks s) where
  -- where the frame begins, and the memory with it
  abbrev frame : ℕ
  frame = s.regs 13 - 8

  abbrev with_frame : ℕ → ℕ
  with_frame = put_word (put_word s.mem frame (s.regs 4)) (frame + 4) (s.regs 14)

  saved_4 : word with_frame frame ≡ s.regs 4
  saved_4 = word-put_other (put_word s.mem frame (s.regs 4)) (frame + 4) (s.regs 14) frame (inl (omega arith)) ∙ word-put_same s.mem frame (s.regs 4) (good.regs 4)

  saved_14 : word with_frame (frame + 4) ≡ s.regs 14
  saved_14 = word-put_same (put_word s.mem frame (s.regs 4)) (frame + 4) (s.regs 14) (good.regs 14)

  outside : (a : ℕ) → (a + 8 < s.regs 13) ⊎ (s.regs 13 ≤ a) → with_frame a ≡ s.mem a
  outside a (inl below) =
      byte-put_other (put_word s.mem frame (s.regs 4)) (frame + 4) (s.regs 14) a (inl (omega (arith, below))) ∙ byte-put_other s.mem frame (s.regs 4) a (inl (omega (arith, below)))
  outside a (inr above) =
      byte-put_other (put_word s.mem frame (s.regs 4)) (frame + 4) (s.regs 14) a (inr (omega (arith, above, ask.low))) ∙ byte-put_other s.mem frame (s.regs 4) a (inr (omega (arith, above, ask.low)))

  -- after both calls
  finished : (t u v : Core) (r r2 : ℕ) → SpacesDoes (put 14 r (put 4 (s.regs 1) (record s { regs = updated s.regs 13 frame; mem = with_frame }))) Falls t
      → SpacesDoes (put 14 r2 (put 1 (s.regs 1) (record t { out = t.out ++ 10 ∷ 13 ∷ [] }))) Falls u
      → v.regs ≡ updated (updated (updated u.regs 13 (s.regs 13)) 4 (word u.mem frame)) 14 (word u.mem (frame + 4)) → v.mem ≡ u.mem → v.out ≡ u.out → at_return (RowsDoes s) s Falls v
  finished t u v r r2 d e regs mem out =
      let there = e.mem ∙ d.mem in
      let between = λ (k : ℕ) (low : 4 < k) (high : k < 13). e.kept k (omega (arith, low)) ∙ updated-other (updated t.regs 1 (s.regs 1)) 14 r2 k (λ x. omega (arith, x, high)) ∙ updated-other t.regs 1 (s.regs 1) k (λ x. omega (arith, x, low))
      ∙ d.kept k (omega (arith, low)) ∙ updated-other (updated (updated s.regs 13 frame) 4 (s.regs 1)) 14 r k (λ x. omega (arith, x, high))
      ∙ updated-other (updated s.regs 13 frame) 4 (s.regs 1) k (λ x. omega (arith, x, low)) ∙ updated-other s.regs 13 frame k (λ x. omega (arith, x, high)) in (
        record {
          falls = refl;
          out =
              out ∙ e.out ∙ (λ i. (d.out i ++ 10 ∷ 13 ∷ []) ++ blanks (s.regs 1))
              ∙ append_assoc (s.out ++ blanks (s.regs 1)) (10 ∷ 13 ∷ []) (blanks (s.regs 1)) ∙ append_assoc s.out (blanks (s.regs 1)) (10 ∷ 13 ∷ blanks (s.regs 1));
          kept = λ k low high. (λ i. regs i k)
              ∙ loaded_kept u.regs s.regs (s.regs 13) (word u.mem frame) (word u.mem (frame + 4)) refl (ap (λ m. word m frame) there ∙ saved_4) between k low high;
          mem = λ a apart. (λ i. (mem ∙ there) i a) ∙ outside a apart;
        },
        (λ i. regs i 14) ∙ ap (λ m. word m (frame + 4)) there ∙ saved_14,
      )

  rows_owes : Owes Asks Does rows (at_return (RowsDoes s) s) s
  rows_owes =
      let four : frame % 4 ≡ 0 = omega (arith, ask.aligned, ask.low) in
      push_all_then frame (omega (arith, ask.low, good.regs 13)) four (inr (omega (arith, ask.low), omega (arith, ask.high, ask.low)))
      (set_then (s.regs 1) refl refl
      (call_then (λ r low. tt)
      (λ r t low good_t d.
      do_then
      (set_then (s.regs 1) refl (d.kept 4 (omega arith))
      (call_then (λ r2 low2. tt)
      (λ r2 u low2 good_u e.
      let top : u.regs 13 ≡ frame = e.kept 13 (omega arith) ∙ d.kept 13 (omega arith) in
      pull_all_then frame (s.regs 13) top (omega (arith, top, ask.low, ask.high)) four (omega (arith, ask.low, ask.high))
      (λ small. end_here (finished t u _ r r2 d e refl refl refl)))
      (λ r2 l u low2 good_u e. absurd (let f = e.falls in cc)))))
      (λ r l t low good_t d. absurd (let f = d.falls in cc))))

-- ---- a program that calls it, and ends

abbrev pub caller : ℕ → Piece
caller n = mov 13 (num 0x8b0) ⨾ mov 1 (num n) ⨾ Call 1 ⨾ mov 0 (num 0) ⨾ Halt ⨾ Skip

-- the items of both entries
abbrev pub entry_items : List Item
entry_items = (items spaces ++ jump_to 14 ∷ []) ++ (items rows ++ jump_to 14 ∷ [])

-- the program's words: the caller's five, then the entry that is called, and then the one that calls it
abbrev pub program : ℕ → FragState
program n = record { items = items (caller n) ++ entry_items; places = Some 5 ∷ Some 12 ∷ [] }

-- both rows are written, and the memory below data is as it was
record CallerDoes (n : ℕ) (s : Core) (o : Out) (t : Core) : Type 0 where
  ends : o ≡ Leaves (ToEnd Done)
  out : t.out ≡ s.out ++ (blanks n ++ (10 ∷ 13 ∷ blanks n))
  mem : (a : ℕ) → a < data_start → t.mem a ≡ s.mem a

caller_owes : (n : ℕ) (s : Core) → n < 256 → Owes Asks Does (caller n) (CallerDoes n s) s
caller_owes n s small =
    set_then 0xb00000 refl refl
    (set_then n refl (immediate_value-byte n small)
    (call_then
    (λ r low. record { aligned = refl; low = omega arith; high = omega arith })
    (λ r t low good d. set_then 0 refl refl (halt_then Done refl (record { ends = refl; out = d.out; mem = λ a below. d.mem a (inl (omega (arith, below))) })))
    (λ r l t low good d. absurd (let e = d.falls in cc))))

-- ---- on the board

is_frag : (n : ℕ) → n < 256 → IsFrag (program n)
is_frag n small =
    let low : nat_lt n 4096 ≡ true = lt-ltb n 4096 (omega (arith, small)) in
    record { items = rw low refl; places = refl }

pub rows_runs : (n : ℕ) (input : List ℕ) → n < 256 → ((k : ℕ) → slice_index input k < 2 ^ 8)
    → (steps : ℕ) × (board_run (words_of (program n)) input steps ≡ Over (blanks n ++ (10 ∷ 13 ∷ blanks n)) (zeros arena_bytes) Done)
rows_runs n input small bytes =
    let words = words_of (program n) in
    let s = first_core words input in
    let m = loaded words input in
    let entry = label_address (program n).places image_start in
    let all = image_stands (program n) input (is_frag n small) (omega arith) bytes in
    let both = stands_back (caller n) entry_items s.mem entry image_start all in
    let start = loaded-is words input (omega (arith, length-words_of (program n))) bytes in
    let called = entered s.mem entry Asks Does 0 spaces refl tt (record { low = omega arith; aligned = refl; high = omega arith })
    (stands_front (items spaces ++ jump_to 14 ∷ []) (items rows ++ jump_to 14 ∷ []) s.mem entry (image_start + 20) both) (λ t good asked. (spaces_owes {Asks = Asks} {Does = Does} t good).by) in
    let callee = entered s.mem entry Asks Does 1 rows refl (called, (called, tt)) (record { low = omega arith; aligned = refl; high = omega arith })
    (stands_after (items spaces ++ jump_to 14 ∷ []) (items rows ++ jump_to 14 ∷ []) s.mem entry (image_start + 20) both) (λ t good asked. (rows_owes t good asked).by) in
    let r = sound s.mem entry Asks Does (caller n) refl (callee, tt) (CallerDoes n s) image_start s m (record { low = omega arith; aligned = refl; high = omega arith })
    (stands_front (items (caller n)) entry_items s.mem entry image_start all) (record { kept = λ a low high. refl }) start (caller_owes n s small).by in
    let ended = ends_run s.mem entry false (CallerDoes n s) image_start _ s m r Done r.holds.ends in
    let written : r.bytes ≡ blanks n ++ (10 ∷ 13 ∷ blanks n) = sym r.writes ∙ r.holds.out in
    (length r.places + 1, shows_end words input r.end r.bytes (length r.places) Done start ended (λ a low high. r.holds.mem a (omega (arith, high))) ∙ ap (λ b. Over b (zeros arena_bytes) Done) written)
