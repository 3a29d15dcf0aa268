-- An example of a routine, from its text to the board: an entry that writes spaces, and a program that calls it.
use Rattle.std.proofs.Common.{◌≡◌, ℕ, zero, suc, ◌+◌, ◌-◌, ◌%◌, ◌^◌, ◌<◌, ◌≤◌, ◌==◌, true, false, List, [], ◌∷◌, ◌++◌, nat_lt, length, slice_index, replicate, Some, refl, sym, ap, ◌∙◌, arith, append_assoc, append-nil, eqb-true, lt-ltb}
use Rattle.std.proofs.lemmas.Bool.{eqb-false, not-true, not-false}
use Rattle.bv_base.specs.Bytes.{zeros}
use Rattle.bv_base.specs.MemoryMap.{image_start, arena_bytes}
use Rattle.bv_run.specs.declared.report.Report.TheVariants.{Done}
use Rattle.bv_run.specs.Outcome.{Over}
use Rattle.arm_isa.specs.Numbers.{NE}
use Rattle.arm_isa.proofs.ImmediateLaws.{immediate_value-byte}
use Rattle.arm2_machine.specs.Machine.{loaded}
use Rattle.arm2_machine.specs.Step.{board_run}
use Rattle.arm_core.proofs.Start.{loaded-is}
use Rattle.arm2_alu.proofs.ValueLaws.{compared}
use Rattle.arm_core.specs.Core.{Core, IsGood, first_core}
use Rattle.arm_core.specs.Effects.{flagged_by}
use Rattle.arm_core.proofs.Comparisons.{after-ne}
use Rattle.arm_core.proofs.MemoryWords.{updated-other}
use Rattle.code_frag.specs.Demands.{ToEnd, Out, Falls, Leaves, Post, on_falls, at_return, Owes}
use Rattle.code_frag.specs.Instructions.{num, mov, sub, cmp, write_byte}
use Rattle.code_frag.specs.Language.{Piece, Skip, While, Call, Halt, ◌⨾◌, items, jump_to}
use Rattle.code_frag.specs.Words.{FragState, IsFrag, words_of}
use Rattle.code_frag.specs.Turns.{Less, Turn}
use Rattle.code_frag.proofs.Branches.{stands_front, stands_back}
use Rattle.code_frag.proofs.Loaded.{image_stands, ends_run, shows_end}
use Rattle.code_frag.proofs.Sound.{sound, entered}
use Rattle.code_frag.proofs.WordLaws.{label_address, length-words_of}
use Rattle.code_frag.proofs.Rules.{end_here, do_then, set_then, test_then, while_then, call_then, halt_then}

-- ---- the routine: R1 spaces

abbrev pub spaces_test : Piece
spaces_test = cmp 1 (num 0) ⨾ Skip

abbrev pub spaces_turn : Piece
spaces_turn = write_byte ⨾ sub 1 1 (num 1) ⨾ Skip

abbrev pub spaces : Piece
spaces = mov 0 (num 32) ⨾ While spaces_test NE spaces_turn ⨾ Skip

-- n spaces
abbrev pub blanks : ℕ → List ℕ
blanks n = replicate n 32

-- R1 spaces are written, and all but R0, R1 and the flags is as it was
pub record SpacesDoes (s : Core) (o : Out) (t : Core) : Type 0 where
  pub falls : o ≡ Falls
  pub out : t.out ≡ s.out ++ blanks (s.regs 1)
  pub mem : t.mem ≡ s.mem
  pub input : t.input ≡ s.input
  pub kept : (k : ℕ) → 2 ≤ k → t.regs k ≡ s.regs k

-- ---- its proof

-- n spaces are left to write
record Spacing (s : Core) (n : ℕ) (t : Core) : Type 0 where
  left : t.regs 1 ≡ n
  small : n < 2 ^ 32
  byte : t.regs 0 ≡ 32
  written : ℕ
  all : written + n ≡ s.regs 1
  out : t.out ≡ s.out ++ blanks written
  mem : t.mem ≡ s.mem
  input : t.input ≡ s.input
  kept : (k : ℕ) → 2 ≤ k → t.regs k ≡ s.regs k

one_more : (n : ℕ) → blanks n ++ 32 ∷ [] ≡ blanks (n + 1)
one_more zero = refl
one_more (suc n) = (λ i. 32 ∷ one_more n i) ∙ ap blanks (let e : suc (n + 1) ≡ suc n + 1 = omega arith in e)

-- what is asked at the routine's end
abbrev pub AtEnd : Core → Post
AtEnd s = at_return (SpacesDoes s) s

module _ {Asks : ℕ → Core → Type 0} {Does : ℕ → Core → Out → Core → Type 0} (s : Core) (good : IsGood s) where
  -- one space more
  turn : (n : ℕ) (t u : Core) → Spacing s n t → (n ≡ 0 → ⊥) → u.regs ≡ t.regs → u.out ≡ t.out → u.mem ≡ t.mem → u.input ≡ t.input → Owes Asks Does spaces_turn (on_falls (Less (Spacing s) n) (AtEnd s)) u
  turn n t u c some regs out mem input =
      let one : u.regs 1 ≡ n = (λ i. regs i 1) ∙ c.left in
      let zero_is : u.regs 0 ≡ 32 = (λ i. regs i 0) ∙ c.byte in
      do_then
      (set_then (n - 1) refl (omega (arith, one, some, c.small))
      (end_here (record {
        count = n - 1;
        less = omega (arith, some);
        inv = record {
          left = refl;
          small = omega (arith, c.small);
          byte = zero_is;
          written = c.written + 1;
          all = omega (arith, c.all, some);
          out =
              (λ i. (out ∙ c.out) i ++ (ap (λ x. x % 2 ^ 8) zero_is i ∷ []))
              ∙ append_assoc s.out (blanks c.written) (32 ∷ []) ∙ ap (λ l. s.out ++ l) (one_more c.written);
          mem = mem ∙ c.mem;
          input = input ∙ c.input;
          kept = λ k high. updated-other u.regs 1 (n - 1) k (λ e. omega (arith, e, high)) ∙ (λ i. regs i k) ∙ c.kept k high;
        };
      })))

  test : (n : ℕ) (t : Core) → Spacing s n t → Owes Asks Does spaces_test (on_falls (Turn Asks Does NE spaces_turn Skip (AtEnd s) (Spacing s) n) (AtEnd s)) t
  test n t c =
      let is = after-ne n 0 t c.small (omega arith) in
      test_then (compared n 0) refl (λ i. compared (c.left i) 0)
      (end_here (record {
        more = λ e. turn n t (flagged_by (compared n 0) t) c (eqb-false n 0 (not-true (n == 0) (sym is ∙ e))) refl refl refl refl;
        done = λ e. end_here (
            let none : n ≡ 0 = eqb-true n 0 (not-false (n == 0) (sym is ∙ e)) in (
              record {
                falls = refl;
                out = c.out ∙ ap (λ k. s.out ++ blanks k) (omega (arith, c.all, none));
                mem = c.mem;
                input = c.input;
                kept = c.kept;
              },
              c.kept 14 (omega arith),
            ));
      }))

  pub spaces_owes : Owes Asks Does spaces (AtEnd s) s
  spaces_owes =
      set_then 32 refl refl
      (while_then (Spacing s) test (s.regs 1)
      (record {
        left = refl;
        small = good.regs 1;
        byte = refl;
        written = 0;
        all = omega arith;
        out = sym (append-nil s.out);
        mem = refl;
        input = refl;
        kept = λ k high. updated-other s.regs 0 32 k (λ e. omega (arith, e, high));
      }))

-- ---- a program that calls it, and ends

abbrev pub caller : ℕ → Piece
caller n = mov 1 (num n) ⨾ Call 0 ⨾ mov 0 (num 0) ⨾ Halt ⨾ Skip

-- the program's words: the caller's four, and then the entry, whose label is 0
abbrev pub program : ℕ → FragState
program n = record { items = items (caller n) ++ (items spaces ++ jump_to 14 ∷ []); places = Some 4 ∷ [] }

-- the contracts of its entries
abbrev Asks : ℕ → Core → Type 0
Asks e s = Unit {0}

abbrev Does : ℕ → Core → Out → Core → Type 0
Does zero s o t = SpacesDoes s o t
Does (suc e) s o t = ⊥

-- n spaces, and the end
record CallerDoes (n : ℕ) (s : Core) (o : Out) (t : Core) : Type 0 where
  ends : o ≡ Leaves (ToEnd Done)
  out : t.out ≡ s.out ++ blanks n
  mem : t.mem ≡ s.mem

caller_owes : (n : ℕ) (s : Core) → n < 256 → Owes Asks Does (caller n) (CallerDoes n s) s
caller_owes n s small =
    set_then n refl (immediate_value-byte n small)
    (call_then
    (λ r low. tt)
    (λ r t low good d. set_then 0 refl refl (halt_then Done refl (record { ends = refl; out = d.out; mem = d.mem })))
    (λ r l t low good d. absurd (let e = d.falls in cc)))

-- ---- on the board

is_frag : (n : ℕ) → n < 256 → IsFrag (program n)
is_frag n small =
    let low : nat_lt n 4096 ≡ true = lt-ltb n 4096 (omega (arith, small)) in
    record { items = rw low refl; places = refl }

program_runs : (n : ℕ) (input : List ℕ) → n < 256 → ((k : ℕ) → slice_index input k < 2 ^ 8) → (steps : ℕ) × (board_run (words_of (program n)) input steps ≡ Over (blanks n) (zeros arena_bytes) Done)
program_runs n input small bytes =
    let words = words_of (program n) in
    let s = first_core words input in
    let m = loaded words input in
    let entry = label_address (program n).places image_start in
    let entry_items = items spaces ++ jump_to 14 ∷ [] in
    let all = image_stands (program n) input (is_frag n small) (omega arith) bytes in
    let start = loaded-is words input (omega (arith, length-words_of (program n))) bytes in
    let callee = entered s.mem entry Asks Does 0 spaces refl tt (record { low = omega arith; aligned = refl; high = omega arith })
    (stands_back (caller n) entry_items s.mem entry image_start all) (λ t good asked. (spaces_owes {Asks = Asks} {Does = Does} t good).by) in
    let x = sound s.mem entry Asks Does (caller n) refl (callee, tt) (CallerDoes n s) image_start s m (record { low = omega arith; aligned = refl; high = omega arith })
    (stands_front (items (caller n)) entry_items s.mem entry image_start all) (record { kept = λ a low high. refl }) start (caller_owes n s small).by in
    let ended = ends_run s.mem entry false (CallerDoes n s) image_start _ s m x Done x.holds.ends in
    let written : x.bytes ≡ blanks n = sym x.writes ∙ x.holds.out in
    (length x.places + 1, shows_end words input x.end x.bytes (length x.places) Done start ended (λ a low high. (λ i. x.holds.mem i a)) ∙ ap (λ b. Over b (zeros arena_bytes) Done) written)
