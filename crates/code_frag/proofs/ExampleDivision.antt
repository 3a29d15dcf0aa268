-- A fourth example: an entry that divides by a loop, and a program that calls it and writes quotient and remainder, from their
-- text to the board.
use Rattle.std.proofs.Common.{◌≡◌, ℕ, zero, suc, ◌+◌, ◌-◌, ◌*◌, ◌/◌, ◌%◌, ◌^◌, ◌<◌, ◌≤◌, true, false, List, [], ◌∷◌, ◌++◌, nat_lt, length, slice_index, Some, refl, sym, ap, ◌∙◌, arith, append_assoc, lt-ltb, leb-true, leb-false}
use Rattle.std.proofs.lemmas.Nat.{div-mul-add, mod-mul-add}
use Rattle.std.proofs.Math.Nat.{div-le_self, le-mul_of_pos_right}
use Rattle.bv_base.specs.Bytes.{zeros}
use Rattle.bv_base.specs.MemoryMap.{image_start, arena_bytes}
use Rattle.bv_run.specs.declared.report.Report.TheVariants.{Done}
use Rattle.bv_run.specs.Outcome.{Over}
use Rattle.arm_isa.specs.Numbers.{CS}
use Rattle.arm_isa.proofs.ImmediateLaws.{immediate_value-byte}
use Rattle.arm2_alu.proofs.ValueLaws.{compared}
use Rattle.arm2_machine.specs.Machine.{loaded}
use Rattle.arm2_machine.specs.Step.{board_run}
use Rattle.arm2_alu.proofs.RegisterLaws.{updated}
use Rattle.arm_core.specs.Core.{Core, IsGood, first_core}
use Rattle.arm_core.specs.Effects.{flagged_by}
use Rattle.arm_core.proofs.Comparisons.{after-cs}
use Rattle.arm_core.proofs.MemoryWords.{updated-other}
use Rattle.arm_core.proofs.Start.{loaded-is}
use Rattle.code_frag.specs.Demands.{ToEnd, Out, Falls, Leaves, on_falls, at_return, Owes}
use Rattle.code_frag.specs.Instructions.{num, reg, mov, add, sub, cmp, write_byte}
use Rattle.code_frag.specs.Language.{Piece, Skip, While, Call, Halt, ◌⨾◌, items, jump_to}
use Rattle.code_frag.specs.Turns.{Less, Turn}
use Rattle.code_frag.specs.Words.{FragState, IsFrag, words_of, label_address}
use Rattle.code_frag.proofs.Branches.{stands_front, stands_back}
use Rattle.code_frag.proofs.Loaded.{image_stands, ends_run, shows_end}
use Rattle.code_frag.proofs.Rules.{end_here, set_then, test_then, write_then, while_then, call_then, halt_then}
use Rattle.code_frag.proofs.Sound.{sound, entered}
use Rattle.code_frag.proofs.WordLaws.{length-words_of}

-- ---- the routine: R2 = R0 divided by R1, and R0 the rest

abbrev pub divide_test : Piece
divide_test = cmp 0 (reg 1) ⨾ Skip

abbrev pub divide_turn : Piece
divide_turn = sub 0 0 (reg 1) ⨾ add 2 2 (num 1) ⨾ Skip

abbrev pub divide : Piece
divide = mov 2 (num 0) ⨾ While divide_test CS divide_turn ⨾ Skip

-- quotient and remainder are in R2 and R0, and all but these and the flags is as it was
pub record DivideDoes (s : Core) (o : Out) (t : Core) : Type 0 where
  pub falls : o ≡ Falls
  pub quotient : t.regs 2 ≡ s.regs 0 / s.regs 1
  pub remainder : t.regs 0 ≡ s.regs 0 % s.regs 1
  pub kept : (k : ℕ) → (k ≡ 0 → ⊥) → (k ≡ 2 → ⊥) → t.regs k ≡ s.regs k
  pub mem : t.mem ≡ s.mem
  pub out : t.out ≡ s.out
  pub input : t.input ≡ s.input

-- ---- its proof

-- n is left to divide
record Dividing (s : Core) (n : ℕ) (t : Core) : Type 0 where
  left : t.regs 0 ≡ n
  all : t.regs 2 * s.regs 1 + n ≡ s.regs 0
  kept : (k : ℕ) → (k ≡ 0 → ⊥) → (k ≡ 2 → ⊥) → t.regs k ≡ s.regs k
  mem : t.mem ≡ s.mem
  out : t.out ≡ s.out
  input : t.input ≡ s.input

-- the quotient by what is left at the end
quotient_is : (q d n a : ℕ) → q * d + n ≡ a → n < d → q ≡ a / d
quotient_is q d n a all low = sym (div-mul-add q d n low) ∙ ap (λ k. k / d) all

remainder_is : (q d n a : ℕ) → q * d + n ≡ a → n < d → n ≡ a % d
remainder_is q d n a all low = sym (mod-mul-add q d n low) ∙ ap (λ k. k % d) all

one_more : (q d n a : ℕ) → q * d + n ≡ a → d ≤ n → (q + 1) * d + (n - d) ≡ a
one_more q d n a all enough =
    let e : (q + 1) * d ≡ q * d + d = omega arith in
    omega (arith, e, all, enough)

module _ {Asks : ℕ → Core → Type 0} {Does : ℕ → Core → Out → Core → Type 0} (s : Core) (good : IsGood s) (some : 0 < s.regs 1) where
  -- one more in the quotient
  turn : (n : ℕ) (t u : Core) → Dividing s n t → s.regs 1 ≤ n → u.regs ≡ t.regs → u.mem ≡ t.mem → u.out ≡ t.out → u.input ≡ t.input → Owes Asks Does divide_turn (on_falls (Less (Dividing s) n) (at_return (DivideDoes s) s)) u
  turn n t u c enough regs mem out input =
      let d = s.regs 1 in
      let q = t.regs 2 in
      let left : u.regs 0 ≡ n = (λ i. regs i 0) ∙ c.left in
      let by : u.regs 1 ≡ d = (λ i. regs i 1) ∙ c.kept 1 (λ e. omega (arith, e)) (λ e. omega (arith, e)) in
      let so_far : u.regs 2 ≡ q = (λ i. regs i 2) in
      let few : q ≤ q * d = le-mul_of_pos_right q some in
      let small : n < 2 ^ 32 = omega (arith, c.all, good.regs 0) in
      set_then (n - d) refl (omega (arith, left, by, small, enough))
      (set_then (q + 1) refl (omega (arith, so_far, few, c.all, good.regs 0, enough, some))
      (end_here (record {
        count = n - d;
        less = omega (arith, some, enough);
        inv = record {
          left = refl;
          all = one_more q d n (s.regs 0) c.all enough;
          kept = λ k first second. updated-other (updated u.regs 0 (n - d)) 2 (q + 1) k second ∙ updated-other u.regs 0 (n - d) k first ∙ (λ i. regs i k) ∙ c.kept k first second;
          mem = mem ∙ c.mem;
          out = out ∙ c.out;
          input = input ∙ c.input;
        };
      })))

  tested : (n : ℕ) (t : Core) → Dividing s n t → Owes Asks Does divide_test (on_falls (Turn Asks Does CS divide_turn Skip (at_return (DivideDoes s) s) (Dividing s) n) (at_return (DivideDoes s) s)) t
  tested n t c =
      let d = s.regs 1 in
      let by : t.regs 1 ≡ d = c.kept 1 (λ e. omega (arith, e)) (λ e. omega (arith, e)) in
      let is = after-cs n d t in
      test_then (compared n d) refl (λ i. compared (c.left i) (by i))
      (end_here (record {
        more = λ e. turn n t (flagged_by (compared n d) t) c (leb-true d n (sym is ∙ e)) refl refl refl refl;
        done = λ e. end_here (
            let low : n < d = leb-false d n (sym is ∙ e) in (
              record {
                falls = refl;
                quotient = quotient_is (t.regs 2) d n (s.regs 0) c.all low;
                remainder = c.left ∙ remainder_is (t.regs 2) d n (s.regs 0) c.all low;
                kept = c.kept;
                mem = c.mem;
                out = c.out;
                input = c.input;
              },
              c.kept 14 (λ x. omega (arith, x)) (λ x. omega (arith, x)),
            ));
      }))

  pub divide_owes : Owes Asks Does divide (at_return (DivideDoes s) s) s
  divide_owes =
      set_then 0 refl refl
      (while_then (Dividing s) tested (s.regs 0)
      (record {
        left = refl;
        all = omega arith;
        kept = λ k first second. updated-other s.regs 2 0 k second;
        mem = refl;
        out = refl;
        input = refl;
      }))

-- ---- a program that calls it, and writes quotient and remainder

abbrev pub caller : ℕ → ℕ → Piece
caller x y = mov 0 (num x) ⨾ mov 1 (num y) ⨾ Call 0 ⨾ mov 3 (reg 0) ⨾ mov 0 (reg 2) ⨾ write_byte ⨾ mov 0 (reg 3) ⨾ write_byte ⨾ mov 0 (num 0) ⨾ Halt ⨾ Skip

-- the program's words: the caller's ten, and then the entry, whose label is 0
abbrev pub program : ℕ → ℕ → FragState
program x y = record { items = items (caller x y) ++ (items divide ++ jump_to 14 ∷ []); places = Some 10 ∷ [] }

-- the contracts of its entries
abbrev Asks : ℕ → Core → Type 0
Asks zero s = 0 < s.regs 1
Asks (suc e) s = ⊥

abbrev Does : ℕ → Core → Out → Core → Type 0
Does zero s o t = DivideDoes s o t
Does (suc e) s o t = ⊥

-- both bytes are written
record CallerDoes (x y : ℕ) (s : Core) (o : Out) (t : Core) : Type 0 where
  ends : o ≡ Leaves (ToEnd Done)
  out : t.out ≡ s.out ++ (x / y ∷ x % y ∷ [])
  mem : t.mem ≡ s.mem

caller_owes : (x y : ℕ) (s : Core) → x < 256 → y < 256 → 0 < y → Owes Asks Does (caller x y) (CallerDoes x y s) s
caller_owes x y s small_x small_y some =
    set_then x refl (immediate_value-byte x small_x)
    (set_then y refl (immediate_value-byte y small_y)
    (call_then
    (λ r low. some)
    (λ r t low good d.
    let q : t.regs 2 ≡ x / y = d.quotient in
    let rest : t.regs 0 ≡ x % y = d.remainder in
    let below : x / y ≤ x = div-le_self x y in
    let within : x % y < y = omega (arith, some) in
    set_then (x % y) refl rest
    (set_then (x / y) refl q
    (write_then (x / y) (omega (arith, below, small_x))
    (set_then (x % y) refl refl
    (write_then (x % y) (omega (arith, within, small_y))
    (set_then 0 refl refl
    (halt_then Done refl (record {
      ends = refl;
      out = append_assoc t.out (x / y ∷ []) (x % y ∷ []) ∙ ap (λ l. l ++ (x / y ∷ x % y ∷ [])) d.out;
      mem = d.mem;
    }))))))))
    (λ r l t low good d. absurd (let e = d.falls in cc))))

-- ---- on the board

is_frag : (x y : ℕ) → x < 256 → y < 256 → IsFrag (program x y)
is_frag x y small_x small_y =
    let low_x : nat_lt x 4096 ≡ true = lt-ltb x 4096 (omega (arith, small_x)) in
    let low_y : nat_lt y 4096 ≡ true = lt-ltb y 4096 (omega (arith, small_y)) in
    record { items = rw (low_x, low_y) refl; places = refl }

pub divided_runs : (x y : ℕ) (input : List ℕ) → x < 256 → y < 256 → 0 < y → ((k : ℕ) → slice_index input k < 2 ^ 8) → (steps : ℕ) × (board_run (words_of (program x y)) input steps ≡ Over (x / y ∷ x % y ∷ []) (zeros arena_bytes) Done)
divided_runs x y input small_x small_y some bytes =
    let words = words_of (program x y) in
    let s = first_core words input in
    let m = loaded words input in
    let entry = label_address (program x y).places image_start in
    let entry_items = items divide ++ jump_to 14 ∷ [] in
    let all = image_stands (program x y) input (is_frag x y small_x small_y) (omega arith) bytes in
    let start = loaded-is words input (omega (arith, length-words_of (program x y))) bytes in
    let callee = entered s.mem entry Asks Does 0 divide refl tt (record { low = omega arith; aligned = refl; high = omega arith })
    (stands_back (caller x y) entry_items s.mem entry image_start all) (λ t good asked. (divide_owes {Asks = Asks} {Does = Does} t good asked).by) in
    let r = sound s.mem entry Asks Does (caller x y) refl (callee, tt) (CallerDoes x y s) image_start s m (record { low = omega arith; aligned = refl; high = omega arith })
    (stands_front (items (caller x y)) entry_items s.mem entry image_start all) (record { kept = λ a low high. refl }) start (caller_owes x y s small_x small_y some).by in
    let ended = ends_run s.mem entry false (CallerDoes x y s) image_start _ s m r Done r.holds.ends in
    let written : r.bytes ≡ x / y ∷ x % y ∷ [] = sym r.writes ∙ r.holds.out in
    (length r.places + 1, shows_end words input r.end r.bytes (length r.places) Done start ended (λ a low high. (λ i. r.holds.mem i a)) ∙ ap (λ b. Over b (zeros arena_bytes) Done) written)
