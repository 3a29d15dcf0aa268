-- A third example: an entry with a frame that copies words from one place to another, and a program that calls it and writes
-- what was copied, from their text to the board.
use Rattle.std.proofs.Common.{◌≡◌, ℕ, zero, suc, ◌+◌, ◌-◌, ◌*◌, ◌%◌, ◌^◌, ◌<◌, ◌≤◌, ◌⊎◌, ◌==◌, true, false, List, [], ◌∷◌, ◌++◌, nat_lt, length, slice_index, Some, inl, inr, refl, sym, ap, ◌∙◌, arith, append_assoc, eqb-true, lt-ltb}
use Rattle.std.proofs.lemmas.Bool.{cases_eq, eqb-false, not-true, not-false}
use Rattle.bv_base.specs.Bytes.{zeros}
use Rattle.bv_base.specs.MemoryMap.{ram_end, image_start, arena_bytes}
use Rattle.bv_run.specs.declared.report.Report.TheVariants.{Done}
use Rattle.bv_run.specs.Outcome.{Over}
use Rattle.arm_isa.specs.Numbers.{NE}
use Rattle.arm_isa.proofs.ImmediateLaws.{immediate_value-byte}
use Rattle.arm2_alu.proofs.RegisterLaws.{updated}
use Rattle.arm2_alu.proofs.ValueLaws.{compared}
use Rattle.arm2_machine.specs.Machine.{loaded}
use Rattle.arm2_machine.specs.Step.{board_run}
use Rattle.arm_core.specs.Core.{Core, word, put_word, IsGood, first_core}
use Rattle.arm_core.specs.Effects.{flagged_by, stored_words}
use Rattle.arm_core.proofs.Comparisons.{after-ne}
use Rattle.arm_core.proofs.MemoryWords.{updated-same, updated-other, byte-put_other, word-put_same, word-put_other, word-same}
use Rattle.arm_core.proofs.Start.{loaded-is}
use Rattle.code_frag.specs.Demands.{ToEnd, Out, Falls, Leaves, on_falls, at_return, Owes}
use Rattle.code_frag.specs.Instructions.{num, mov, add, sub, cmp, ldr, str, pull, push_all, pull_all, write_byte}
use Rattle.code_frag.specs.Language.{Piece, Skip, While, Call, Halt, ◌⨾◌, items, jump_to}
use Rattle.code_frag.specs.Places.{data_start}
use Rattle.code_frag.specs.Turns.{Less, Turn}
use Rattle.code_frag.specs.Words.{FragState, IsFrag, words_of}
use Rattle.code_frag.proofs.Branches.{stands_front, stands_back}
use Rattle.code_frag.proofs.Loaded.{image_stands, ends_run, shows_end}
use Rattle.code_frag.proofs.Rules.{end_here, set_then, test_then, write_then, load_then, store_then, pull_then, push_all_then, pull_all_then, while_then, call_then, halt_then}
use Rattle.code_frag.proofs.Sound.{sound, entered}
use Rattle.code_frag.proofs.WordLaws.{label_address, length-words_of}

-- ---- the routine: R2 words from R0 on are copied to R1 on. R0 to R3 lie in the frame.

abbrev pub copy_test : Piece
copy_test = cmp 2 (num 0) ⨾ Skip

abbrev pub copy_turn : Piece
copy_turn = pull 3 0 ⨾ str 3 1 0 ⨾ add 1 1 (num 4) ⨾ sub 2 2 (num 1) ⨾ Skip

abbrev pub copy_end : Piece
copy_end = pull_all 13 0x000f ⨾ Skip

abbrev pub copy : Piece
copy = push_all 13 0x000f ⨾ While copy_test NE copy_turn ⨾ copy_end

-- The words lie in memory, and their copies where data may be stored; the stack has room for the frame; and the three places
-- are apart.
pub record CopyAsks (s : Core) : Type 0 where
  pub source_aligned : s.regs 0 % 4 ≡ 0
  pub source : s.regs 0 + 4 * s.regs 2 ≤ ram_end
  pub target_aligned : s.regs 1 % 4 ≡ 0
  pub target_low : data_start ≤ s.regs 1
  pub target_high : s.regs 1 + 4 * s.regs 2 ≤ ram_end
  pub frame_aligned : s.regs 13 % 4 ≡ 0
  pub frame_low : data_start + 16 ≤ s.regs 13
  pub frame_high : s.regs 13 ≤ ram_end
  pub source_target : (s.regs 0 + 4 * s.regs 2 ≤ s.regs 1) ⊎ (s.regs 1 + 4 * s.regs 2 ≤ s.regs 0)
  pub source_frame : (s.regs 0 + 4 * s.regs 2 + 16 ≤ s.regs 13) ⊎ (s.regs 13 ≤ s.regs 0)
  pub target_frame : (s.regs 1 + 4 * s.regs 2 + 16 ≤ s.regs 13) ⊎ (s.regs 13 ≤ s.regs 1)

-- The words are copied. All registers are as they were, and so is the memory but for the copies and the frame.
pub record CopyDoes (s : Core) (o : Out) (t : Core) : Type 0 where
  pub falls : o ≡ Falls
  pub copied : (j : ℕ) → j < s.regs 2 → word t.mem (s.regs 1 + 4 * j) ≡ word s.mem (s.regs 0 + 4 * j)
  pub kept : (k : ℕ) → k < 15 → t.regs k ≡ s.regs k
  pub others : (a : ℕ) → (a < s.regs 1) ⊎ (s.regs 1 + 4 * s.regs 2 ≤ a) → (a + 16 < s.regs 13) ⊎ (s.regs 13 ≤ a) → t.mem a ≡ s.mem a
  pub out : t.out ≡ s.out
  pub input : t.input ≡ s.input

-- ---- its proof

-- a register that takes the value of another function there
updated_either : (f g : ℕ → ℕ) (i v k : ℕ) → v ≡ g i → ((k ≡ i → ⊥) → f k ≡ g k) → updated f i v k ≡ g k
updated_either f g i v k is other = each (cases_eq k i)
  where
    each : (k ≡ i) ⊎ (k ≡ i → ⊥) → updated f i v k ≡ g k
    each (inl e) = updated-same f i v k e ∙ is ∙ ap g (sym e)
    each (inr e) = updated-other f i v k e ∙ other e

-- registers that are stored leave other bytes and words alone
stored_other : (ns : List ℕ) (regs m : ℕ → ℕ) (a b : ℕ) → (b < a) ⊎ (a + 4 * length ns ≤ b) → stored_words ns regs m a b ≡ m b
stored_other [] regs m a b apart = refl
stored_other (n ∷ ns) regs m a b (inl below) = stored_other ns regs (put_word m a (regs n)) (a + 4) b (inl (omega (arith, below))) ∙ byte-put_other m a (regs n) b (inl below)
stored_other (n ∷ ns) regs m a b (inr above) = stored_other ns regs (put_word m a (regs n)) (a + 4) b (inr (omega (arith, above))) ∙ byte-put_other m a (regs n) b (inr (omega (arith, above)))

stored_after : (ns : List ℕ) (regs m : ℕ → ℕ) (a b : ℕ) → b + 4 ≤ a → word (stored_words ns regs m a) b ≡ word m b
stored_after [] regs m a b below = refl
stored_after (n ∷ ns) regs m a b below = stored_after ns regs (put_word m a (regs n)) (a + 4) b (omega (arith, below)) ∙ word-put_other m a (regs n) b (inl below)

-- and the first has its own
stored_first : (n : ℕ) (ns : List ℕ) (regs m : ℕ → ℕ) (a : ℕ) → regs n < 2 ^ 32 → word (stored_words (n ∷ ns) regs m a) a ≡ regs n
stored_first n ns regs m a small = stored_after ns regs (put_word m a (regs n)) (a + 4) a (omega arith) ∙ word-put_same m a (regs n) small

-- where the frame begins, and the memory with it
abbrev frame : Core → ℕ
frame s = s.regs 13 - 16

abbrev with_frame : Core → ℕ → ℕ
with_frame s = stored_words (0 ∷ 1 ∷ 2 ∷ 3 ∷ []) s.regs s.mem (frame s)

-- n words are left to copy
record Copying (s : Core) (n : ℕ) (t : Core) : Type 0 where
  done : ℕ
  all : done + n ≡ s.regs 2
  from : t.regs 0 ≡ s.regs 0 + 4 * done
  to : t.regs 1 ≡ s.regs 1 + 4 * done
  left : t.regs 2 ≡ n
  top : t.regs 13 ≡ frame s
  kept : (k : ℕ) → 4 ≤ k → (k ≡ 13 → ⊥) → t.regs k ≡ s.regs k
  copied : (j : ℕ) → j < done → word t.mem (s.regs 1 + 4 * j) ≡ word s.mem (s.regs 0 + 4 * j)
  others : (a : ℕ) → (a < s.regs 1) ⊎ (s.regs 1 + 4 * s.regs 2 ≤ a) → t.mem a ≡ with_frame s a
  out : t.out ≡ s.out
  input : t.input ≡ s.input

module _ (s : Core) (good : IsGood s) (ask : CopyAsks s) where
  outside : (a : ℕ) → (a + 16 < s.regs 13) ⊎ (s.regs 13 ≤ a) → with_frame s a ≡ s.mem a
  outside a (inl below) = stored_other (0 ∷ 1 ∷ 2 ∷ 3 ∷ []) s.regs s.mem (frame s) a (inl (omega (arith, below)))
  outside a (inr above) = stored_other (0 ∷ 1 ∷ 2 ∷ 3 ∷ []) s.regs s.mem (frame s) a (inr (omega (arith, above, ask.frame_low)))

  -- the words that are copied are apart from the copies and from the frame
  source_same : (n : ℕ) (t : Core) → Copying s n t → (b : ℕ) → s.regs 0 ≤ b → b < s.regs 0 + 4 * s.regs 2 → t.mem b ≡ s.mem b
  source_same n t c b low high = c.others b (from_target ask.source_target) ∙ outside b (from_frame ask.source_frame)
    where
      from_target : (s.regs 0 + 4 * s.regs 2 ≤ s.regs 1) ⊎ (s.regs 1 + 4 * s.regs 2 ≤ s.regs 0) → (b < s.regs 1) ⊎ (s.regs 1 + 4 * s.regs 2 ≤ b)
      from_target (inl below) = inl (omega (arith, below, high))
      from_target (inr above) = inr (omega (arith, above, low))

      from_frame : (s.regs 0 + 4 * s.regs 2 + 16 ≤ s.regs 13) ⊎ (s.regs 13 ≤ s.regs 0) → (b + 16 < s.regs 13) ⊎ (s.regs 13 ≤ b)
      from_frame (inl below) = inl (omega (arith, below, high))
      from_frame (inr above) = inr (omega (arith, above, low))

  -- and so is the frame from the copies
  frame_same : (n : ℕ) (t : Core) → Copying s n t → (b : ℕ) → frame s ≤ b → b < s.regs 13 → t.mem b ≡ with_frame s b
  frame_same n t c b low high = c.others b (from_target ask.target_frame)
    where
      from_target : (s.regs 1 + 4 * s.regs 2 + 16 ≤ s.regs 13) ⊎ (s.regs 13 ≤ s.regs 1) → (b < s.regs 1) ⊎ (s.regs 1 + 4 * s.regs 2 ≤ b)
      from_target (inl below) = inr (omega (arith, below, low))
      from_target (inr above) = inl (omega (arith, above, high))

  -- a word of the frame
  saved : (n : ℕ) (t : Core) → Copying s n t → (k a : ℕ) → frame s ≤ a → a + 4 ≤ s.regs 13 → word (with_frame s) a ≡ s.regs k → word t.mem a ≡ s.regs k
  saved n t c k a low high is = word-same t.mem (with_frame s) a (λ b above below. frame_same n t c b (omega (arith, low, above)) (omega (arith, high, below))) ∙ is

  -- the memory with one word more
  next_copied : (n : ℕ) (t : Core) (m : ℕ → ℕ) (c : Copying s n t) → m ≡ t.mem → word s.mem (s.regs 0 + 4 * c.done) < 2 ^ 32 → (j : ℕ) → j < c.done + 1 → (j ≡ c.done) ⊎ (j ≡ c.done → ⊥)
      → word (put_word m (s.regs 1 + 4 * c.done) (word s.mem (s.regs 0 + 4 * c.done))) (s.regs 1 + 4 * j) ≡ word s.mem (s.regs 0 + 4 * j)
  next_copied n t m c mem small j low (inl e) =
      ap (λ k. word (put_word m (s.regs 1 + 4 * c.done) (word s.mem (s.regs 0 + 4 * c.done))) (s.regs 1 + 4 * k)) e
      ∙ word-put_same m (s.regs 1 + 4 * c.done) (word s.mem (s.regs 0 + 4 * c.done)) small ∙ ap (λ k. word s.mem (s.regs 0 + 4 * k)) (sym e)
  next_copied n t m c mem small j low (inr e) =
      word-put_other m (s.regs 1 + 4 * c.done) (word s.mem (s.regs 0 + 4 * c.done)) (s.regs 1 + 4 * j) (inl (omega (arith, low, e)))
      ∙ ap (λ k. word k (s.regs 1 + 4 * j)) mem ∙ c.copied j (omega (arith, low, e))

  -- a byte beside the copies is beside the next of them
  beside : (done n a : ℕ) → done + n ≡ s.regs 2 → (n ≡ 0 → ⊥) → (a < s.regs 1) ⊎ (s.regs 1 + 4 * s.regs 2 ≤ a) → (a < s.regs 1 + 4 * done) ⊎ (s.regs 1 + 4 * done + 4 ≤ a)
  beside done n a all some (inl below) = inl (omega (arith, below))
  beside done n a all some (inr above) = inr (omega (arith, above, all, some))

-- registers above R3 after a turn
turn_kept : (f : ℕ → ℕ) (v0 v3 v1 v2 k : ℕ) → 4 ≤ k → updated (updated (updated (updated f 0 v0) 3 v3) 1 v1) 2 v2 k ≡ f k
turn_kept f v0 v3 v1 v2 k high =
    updated-other (updated (updated (updated f 0 v0) 3 v3) 1 v1) 2 v2 k (λ e. omega (arith, e, high))
    ∙ updated-other (updated (updated f 0 v0) 3 v3) 1 v1 k (λ e. omega (arith, e, high))
    ∙ updated-other (updated f 0 v0) 3 v3 k (λ e. omega (arith, e, high)) ∙ updated-other f 0 v0 k (λ e. omega (arith, e, high))

-- registers after the frame is loaded
loaded_kept : (f g : ℕ → ℕ) (top w0 w1 w2 w3 : ℕ) → top ≡ g 13 → w0 ≡ g 0 → w1 ≡ g 1 → w2 ≡ g 2 → w3 ≡ g 3 → ((k : ℕ) → 4 ≤ k → (k ≡ 13 → ⊥) → f k ≡ g k)
    → (k : ℕ) → updated (updated (updated (updated (updated f 13 top) 0 w0) 1 w1) 2 w2) 3 w3 k ≡ g k
loaded_kept f g top w0 w1 w2 w3 is_top is0 is1 is2 is3 others k =
    updated_either (updated (updated (updated (updated f 13 top) 0 w0) 1 w1) 2 w2) g 3 w3 k is3
    (λ n3. updated_either (updated (updated (updated f 13 top) 0 w0) 1 w1) g 2 w2 k is2
    (λ n2. updated_either (updated (updated f 13 top) 0 w0) g 1 w1 k is1
    (λ n1. updated_either (updated f 13 top) g 0 w0 k is0
    (λ n0. updated_either f g 13 top k is_top (λ n13. others k (omega (arith, n0, n1, n2, n3)) n13)))))

module _ {Asks : ℕ → Core → Type 0} {Does : ℕ → Core → Out → Core → Type 0} (s : Core) (good : IsGood s) (ask : CopyAsks s) where
  -- one word more
  further : (n : ℕ) (t u : Core) → Copying s n t → (n ≡ 0 → ⊥) → u.regs ≡ t.regs → u.mem ≡ t.mem → u.out ≡ t.out → u.input ≡ t.input → Owes Asks Does copy_turn (on_falls (Less (Copying s) n) (at_return (CopyDoes s) s)) u
  further n t u c some regs mem out input =
      let a = s.regs 0 + 4 * c.done in
      let b = s.regs 1 + 4 * c.done in
      let x = word s.mem a in
      let from : u.regs 0 ≡ a = (λ i. regs i 0) ∙ c.from in
      let to : u.regs 1 ≡ b = (λ i. regs i 1) ∙ c.to in
      let left : u.regs 2 ≡ n = (λ i. regs i 2) ∙ c.left in
      let few : n < 2 ^ 32 = omega (arith, c.all, good.regs 2) in
      let is : word u.mem a ≡ x = ap (λ m. word m a) mem ∙ word-same t.mem s.mem a (λ e low high. source_same s good ask n t c e (omega (arith, low)) (omega (arith, high, c.all, some))) in
      pull_then a x (a + 4) from is (omega (arith, from, ask.source, c.all, some)) (omega (arith, ask.source_aligned)) (omega (arith, ask.source, c.all, some))
      (λ small.
      store_then b x (omega (arith, to, ask.target_high, c.all)) refl (omega (arith, ask.target_aligned)) (inr (omega (arith, ask.target_low), omega (arith, ask.target_high, c.all, some)))
      (set_then (b + 4) refl (omega (arith, to, ask.target_high, c.all, some))
      (set_then (n - 1) refl (omega (arith, left, some, few))
      (end_here (record {
        count = n - 1;
        less = omega (arith, some);
        inv = record {
          done = c.done + 1;
          all = omega (arith, c.all, some);
          from = omega arith;
          to = omega arith;
          left = refl;
          top = (λ i. regs i 13) ∙ c.top;
          kept = λ k high other. turn_kept u.regs (a + 4) x (b + 4) (n - 1) k high ∙ (λ i. regs i k) ∙ c.kept k high other;
          copied = λ j low. next_copied s good ask n t u.mem c mem small j low (cases_eq j c.done);
          others = λ e apart. byte-put_other u.mem b x e (beside s good ask c.done n e c.all some apart) ∙ (λ i. mem i e) ∙ c.others e apart;
          out = out ∙ c.out;
          input = input ∙ c.input;
        };
      })))))

  -- none is left
  finished : (n : ℕ) (t u : Core) → Copying s n t → n ≡ 0 → u.regs ≡ t.regs → u.mem ≡ t.mem → u.out ≡ t.out → u.input ≡ t.input → Owes Asks Does copy_end (at_return (CopyDoes s) s) u
  finished n t u c none regs mem out input =
      let f = frame s in
      let top : u.regs 13 ≡ f = (λ i. regs i 13) ∙ c.top in
      let m1 = put_word s.mem f (s.regs 0) in
      let m2 = put_word m1 (f + 4) (s.regs 1) in
      let m3 = put_word m2 (f + 4 + 4) (s.regs 2) in
      let is0 : word u.mem f ≡ s.regs 0 = ap (λ m. word m f) mem ∙ saved s good ask n t c 0 f (omega arith) (omega (arith, ask.frame_low)) (stored_first 0 (1 ∷ 2 ∷ 3 ∷ []) s.regs s.mem f (good.regs 0)) in
      let is1 : word u.mem (f + 4) ≡ s.regs 1 = ap (λ m. word m (f + 4)) mem ∙ saved s good ask n t c 1 (f + 4) (omega arith) (omega (arith, ask.frame_low)) (stored_first 1 (2 ∷ 3 ∷ []) s.regs m1 (f + 4) (good.regs 1)) in
      let is2 : word u.mem (f + 4 + 4) ≡ s.regs 2 = ap (λ m. word m (f + 4 + 4)) mem ∙ saved s good ask n t c 2 (f + 4 + 4) (omega arith) (omega (arith, ask.frame_low)) (stored_first 2 (3 ∷ []) s.regs m2 (f + 4 + 4) (good.regs 2)) in
      let is3 : word u.mem (f + 4 + 4 + 4) ≡ s.regs 3 = ap (λ m. word m (f + 4 + 4 + 4)) mem ∙ saved s good ask n t c 3 (f + 4 + 4 + 4) (omega arith) (omega (arith, ask.frame_low)) (stored_first 3 [] s.regs m3 (f + 4 + 4 + 4) (good.regs 3)) in
      let kept = loaded_kept u.regs s.regs (s.regs 13) (word u.mem f) (word u.mem (f + 4)) (word u.mem (f + 4 + 4)) (word u.mem (f + 4 + 4 + 4)) refl is0 is1 is2 is3 (λ k high other. (λ i. regs i k) ∙ c.kept k high other) in
      pull_all_then f (s.regs 13) top (omega (arith, top, ask.frame_low, ask.frame_high)) (omega (arith, ask.frame_aligned, ask.frame_low)) (omega (arith, ask.frame_low, ask.frame_high))
      (λ small. end_here (
        record {
          falls = refl;
          copied = λ j low. ap (λ m. word m (s.regs 1 + 4 * j)) mem ∙ c.copied j (omega (arith, low, none, c.all));
          kept = λ k low. kept k;
          others = λ a apart far. (λ i. mem i a) ∙ c.others a apart ∙ outside s good ask a far;
          out = out ∙ c.out;
          input = input ∙ c.input;
        },
        kept 14,
      ))

  tested : (n : ℕ) (t : Core) → Copying s n t → Owes Asks Does copy_test (on_falls (Turn Asks Does NE copy_turn copy_end (at_return (CopyDoes s) s) (Copying s) n) (at_return (CopyDoes s) s)) t
  tested n t c =
      let is = after-ne n 0 t (omega (arith, c.all, good.regs 2)) (omega arith) in
      test_then (compared n 0) refl (λ i. compared (c.left i) 0)
      (end_here (record {
        more = λ e. further n t (flagged_by (compared n 0) t) c (eqb-false n 0 (not-true (n == 0) (sym is ∙ e))) refl refl refl refl;
        done = λ e. finished n t (flagged_by (compared n 0) t) c (eqb-true n 0 (not-false (n == 0) (sym is ∙ e))) refl refl refl refl;
      }))

  pub copy_owes : Owes Asks Does copy (at_return (CopyDoes s) s) s
  copy_owes =
      push_all_then (frame s) (omega (arith, ask.frame_low, good.regs 13)) (omega (arith, ask.frame_aligned, ask.frame_low)) (inr (omega (arith, ask.frame_low), omega (arith, ask.frame_low, ask.frame_high)))
      (while_then (Copying s) tested (s.regs 2)
      (record {
        done = 0;
        all = omega arith;
        from = omega arith;
        to = omega arith;
        left = refl;
        top = refl;
        kept = λ k high other. updated-other s.regs 13 (frame s) k other;
        copied = λ j low. absurd (omega (arith, low));
        others = λ a apart. refl;
        out = refl;
        input = refl;
      }))

-- ---- a program that stores two words, calls it, and writes the copies

abbrev pub caller : ℕ → ℕ → Piece
caller x y =
    mov 13 (num 0x8b0) ⨾ mov 0 (num 0x890) ⨾ mov 1 (num 0x8a0) ⨾ mov 2 (num 2) ⨾ mov 3 (num x) ⨾ str 3 0 0 ⨾ mov 3 (num y) ⨾ str 3 0 4 ⨾ Call 0
    ⨾ ldr 0 1 0 ⨾ write_byte ⨾ ldr 0 1 4 ⨾ write_byte ⨾ mov 0 (num 0) ⨾ Halt ⨾ Skip

-- the program's words: the caller's fifteen, and then the entry, whose label is 0
abbrev pub program : ℕ → ℕ → FragState
program x y = record { items = items (caller x y) ++ (items copy ++ jump_to 14 ∷ []); places = Some 15 ∷ [] }

-- the contracts of its entries
abbrev Asks : ℕ → Core → Type 0
Asks zero s = CopyAsks s
Asks (suc e) s = ⊥

abbrev Does : ℕ → Core → Out → Core → Type 0
Does zero s o t = CopyDoes s o t
Does (suc e) s o t = ⊥

-- both words are written, and the memory below data is as it was
record CallerDoes (x y : ℕ) (s : Core) (o : Out) (t : Core) : Type 0 where
  ends : o ≡ Leaves (ToEnd Done)
  out : t.out ≡ s.out ++ (x ∷ y ∷ [])
  mem : (a : ℕ) → a < data_start → t.mem a ≡ s.mem a

module _ (x y : ℕ) (s : Core) (small_x : x < 256) (small_y : y < 256) where
  -- the memory with both words
  abbrev given : ℕ → ℕ
  given = put_word (put_word s.mem 0x900000 x) 0x900004 y

  given_x : word given 0x900000 ≡ x
  given_x = word-put_other (put_word s.mem 0x900000 x) 0x900004 y 0x900000 (inl (omega arith)) ∙ word-put_same s.mem 0x900000 x (omega (arith, small_x))

  given_y : word given 0x900004 ≡ y
  given_y = word-put_same (put_word s.mem 0x900000 x) 0x900004 y (omega (arith, small_y))

  given_below : (a : ℕ) → a < data_start → given a ≡ s.mem a
  given_below a low = byte-put_other (put_word s.mem 0x900000 x) 0x900004 y a (inl (omega (arith, low))) ∙ byte-put_other s.mem 0x900000 x a (inl (omega (arith, low)))

  caller_owes : Owes Asks Does (caller x y) (CallerDoes x y s) s
  caller_owes =
      set_then 0xb00000 refl refl
      (set_then 0x900000 refl refl
      (set_then 0xa00000 refl refl
      (set_then 2 refl refl
      (set_then x refl (immediate_value-byte x small_x)
      (store_then 0x900000 x refl refl refl (inr (omega arith, omega arith))
      (set_then y refl (immediate_value-byte y small_y)
      (store_then 0x900004 y refl refl refl (inr (omega arith, omega arith))
      (call_then
      (λ r low. record {
        source_aligned = refl;
        source = omega arith;
        target_aligned = refl;
        target_low = omega arith;
        target_high = omega arith;
        frame_aligned = refl;
        frame_low = omega arith;
        frame_high = omega arith;
        source_target = inl (omega arith);
        source_frame = inl (omega arith);
        target_frame = inl (omega arith);
      })
      (λ r t low good d.
      let to : t.regs 1 ≡ 0xa00000 = d.kept 1 (omega arith) in
      let first : word t.mem 0xa00000 ≡ x = d.copied 0 (omega arith) ∙ given_x in
      let second : word t.mem 0xa00004 ≡ y = d.copied 1 (omega arith) ∙ given_y in
      load_then 0xa00000 x (omega (arith, to)) first refl (omega arith)
      (λ fits.
      write_then x (omega (arith, small_x))
      (load_then 0xa00004 y (omega (arith, to)) second refl (omega arith)
      (λ fits_too.
      write_then y (omega (arith, small_y))
      (set_then 0 refl refl
      (halt_then Done refl (record {
        ends = refl;
        out = append_assoc t.out (x ∷ []) (y ∷ []) ∙ ap (λ l. l ++ (x ∷ y ∷ [])) d.out;
        mem = λ a below. d.others a (inl (omega (arith, below))) (inl (omega (arith, below))) ∙ given_below a below;
      })))))))
      (λ r l t low good d. absurd (let e = d.falls in cc))))))))))

-- ---- on the board

is_frag : (x y : ℕ) → x < 256 → y < 256 → IsFrag (program x y)
is_frag x y small_x small_y =
    let low_x : nat_lt x 4096 ≡ true = lt-ltb x 4096 (omega (arith, small_x)) in
    let low_y : nat_lt y 4096 ≡ true = lt-ltb y 4096 (omega (arith, small_y)) in
    record { items = rw (low_x, low_y) refl; places = refl }

pub copied_runs : (x y : ℕ) (input : List ℕ) → x < 256 → y < 256 → ((k : ℕ) → slice_index input k < 2 ^ 8) → (steps : ℕ) × (board_run (words_of (program x y)) input steps ≡ Over (x ∷ y ∷ []) (zeros arena_bytes) Done)
copied_runs x y input small_x small_y bytes =
    let words = words_of (program x y) in
    let s = first_core words input in
    let m = loaded words input in
    let entry = label_address (program x y).places image_start in
    let entry_items = items copy ++ jump_to 14 ∷ [] in
    let all = image_stands (program x y) input (is_frag x y small_x small_y) (omega arith) bytes in
    let start = loaded-is words input (omega (arith, length-words_of (program x y))) bytes in
    let callee = entered s.mem entry Asks Does 0 copy refl tt (record { low = omega arith; aligned = refl; high = omega arith })
    (stands_back (caller x y) entry_items s.mem entry image_start all) (λ t good asked. (copy_owes {Asks = Asks} {Does = Does} t good asked).by) in
    let r = sound s.mem entry Asks Does (caller x y) refl (callee, tt) (CallerDoes x y s) image_start s m (record { low = omega arith; aligned = refl; high = omega arith })
    (stands_front (items (caller x y)) entry_items s.mem entry image_start all) (record { kept = λ a low high. refl }) start (caller_owes x y s small_x small_y).by in
    let ended = ends_run s.mem entry false (CallerDoes x y s) image_start _ s m r Done r.holds.ends in
    let written : r.bytes ≡ x ∷ y ∷ [] = sym r.writes ∙ r.holds.out in
    (length r.places + 1, shows_end words input r.end r.bytes (length r.places) Done start ended (λ a low high. r.holds.mem a (omega (arith, high))) ∙ ap (λ b. Over b (zeros arena_bytes) Done) written)
