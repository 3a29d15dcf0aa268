-- The routines that write numbers meet their contracts.
use Rattle.std.proofs.Common.{◌≡◌, ℕ, suc, ◌+◌, ◌-◌, ◌/◌, ◌%◌, ◌^◌, ◌<◌, ◌≤◌, ◌==◌, ◌⊎◌, inl, inr, not, Bool, true, false, List, [], ◌∷◌, ◌++◌, length, map, refl, sym, ap, subst, ◌∙◌, arith, append_assoc, append-nil, length-append}
use Rattle.std.specs.Int.{w32, from_bool}
use Rattle.std.specs.Int.Digits.{digits_of}
use Rattle.std.proofs.lemmas.Bool.{leb-true, leb-false}
use Rattle.std.proofs.lemmas.List.{length-map, length-replicate}
use Rattle.std.proofs.lemmas.Nat.{mod_below}
use Rattle.std.proofs.Math.Nat.{div-eq_of_lt, mod-eq_of_lt}
use Rattle.std.proofs.lemmas.Int.{of_z-to_z}
use Rattle.bas_ast.specs.declared.expressions.NumberFormat.{NumberFormat}
use Rattle.bas_ast.specs.declared.expressions.NumberFormat.TheVariants.{Decimal, Hexadecimal}
use Rattle.bas_value.specs.Output.{Number, number_text, justified, spaces, column_after}
use Rattle.bv_num.specs.Digits.{digit_byte, digits, decimal_text}
use Rattle.bv_num.proofs.Numerals.{digits-split}
use Rattle.arm2_alu.proofs.RegisterLaws.{updated}
use Rattle.arm2_alu.proofs.ValueLaws.{compared, minus, signed-low, signed-high}
use Rattle.arm_core.specs.Core.{Core, put, word, IsGood}
use Rattle.arm_core.specs.Effects.{flagged_by}
use Rattle.arm_core.proofs.Comparisons.{after-cs}
use Rattle.arm_core.proofs.MemoryWords.{updated-other}
use Rattle.code_frag.specs.Demands.{Post, on_falls, at_return, Owes}
use Rattle.code_frag.specs.Language.{Piece, Call, ◌⨾◌}
use Rattle.code_frag.specs.Regions.{residents_start, column_at}
use Rattle.code_frag.proofs.Rules.{end_here, set_then, test_then, when_then, call_then, cut_then}
use Rattle.runtime_lib.specs.Entries.{LibraryAsks, LibraryDoes, CanWrite, WritesPart, IsUntouched, number_in, column_in, routine_does, DecimalNumber, HexadecimalNumber, Run, label_of}
use Rattle.runtime_lib.specs.Digits.{Power, pads, moves_column, writes_number, decimal_number, hexadecimal_number, powers_of_ten, powers_of_sixteen}
use Rattle.runtime_lib.proofs.DigitLaws.{Descend}
use Rattle.runtime_lib.proofs.DigitParts.{counts_then, writes_then, WritesDigit, writes_digit_owes}
use Rattle.runtime_lib.proofs.NumberParts.{padding, justified_is, Pads, pads_owes, MovesColumn, moves_column_owes, sign_text, WritesSign, writes_sign_owes}

-- ---- before the text

-- the spaces are written, the column is moved past the text, and R4 to R13 but for R6 are as they were
record Prepares (pad column : ℕ) (s t : Core) : Type 0 where
  kept : (k : ℕ) → 4 ≤ k → k ≤ 13 → t.regs k ≡ s.regs k
  column_is : word t.mem column_at ≡ column
  mem : (a : ℕ) → (a < column_at) ⊎ (column_at + 4 ≤ a) → t.mem a ≡ s.mem a
  out : t.out ≡ s.out ++ spaces pad
  input : t.input ≡ s.input

padding_few : (padded : Bool) (size : ℕ) → padding padded size < 256
padding_few true size = omega arith
padding_few false size = omega arith

module _ (size padded column : ℕ) (small : size < 256) (s : Core) (six : s.regs 6 ≡ size) (one : s.regs 1 ≡ padded) (word_small : padded < 2 ^ 32) (base : s.regs 11 ≡ residents_start) (column_is : word s.mem column_at ≡ column)
    (low : column < 65536) (Q : Post) where
  abbrev pad : ℕ
  pad = padding (not (padded == 0)) size

  prepares_then : {rest : Piece} → ((t : Core) → Prepares pad ((column + (size + pad)) % 65536) s t → Owes LibraryAsks LibraryDoes rest Q t) → Owes LibraryAsks LibraryDoes (pads ⨾ moves_column ⨾ Call (label_of Run) ⨾ rest) Q s
  prepares_then next =
      cut_then (Pads size s) (pads_owes size small s six (omega (arith, one, word_small)) Q)
      (λ t p.
      let moved = (column + (size + pad)) % 65536 in
      let same : word t.mem column_at ≡ column = (λ i. word (p.mem i) column_at) ∙ column_is in
      let number : t.regs 1 ≡ pad = p.number ∙ ap (λ n. padding (not (n == 0)) size) one in
      cut_then (MovesColumn moved t)
      (subst (λ n. Owes LibraryAsks LibraryDoes moves_column (on_falls (MovesColumn ((n + (size + pad)) % 65536) t) Q) t) same
      (moves_column_owes size pad small (padding_few (not (padded == 0)) size) t (p.kept 11 (λ e. omega (arith, e)) ∙ base) (p.kept 6 (λ e. omega (arith, e)) ∙ six) number (omega (arith, same, low)) Q))
      (λ u m.
      call_then (λ r low_r. tt)
      (λ r v low_r good d.
      next v (record {
        kept = λ k high below. d.kept k (omega (arith, high)) ∙ updated-other u.regs 14 r k (λ e. omega (arith, e, below)) ∙ m.kept k (λ e. omega (arith, e, high)) ∙ p.kept k (λ e. omega (arith, e, high));
        column_is = (λ i. word (d.mem i) column_at) ∙ m.column_is;
        mem = λ a apart. (λ i. d.mem i a) ∙ m.mem a apart ∙ (λ i. p.mem i a);
        out = d.out ∙ (λ i. m.out i ++ spaces ((m.kept 1 (λ e. omega (arith, e)) ∙ number) i)) ∙ ap (λ l. l ++ spaces pad) p.out;
        input = d.input ∙ m.input ∙ p.input;
      }))
      (λ r l v low_r good d. absurd (let f = d.falls in cc))))

-- ---- a number by its digits

-- the number is in R0, and the sign in R5, before the routine writes
record Ready (n : ℕ) (negative : Bool) (s t : Core) : Type 0 where
  value : t.regs 0 ≡ n
  padded : t.regs 1 ≡ s.regs 1
  sign : t.regs 5 ≡ from_bool negative
  back : t.regs 8 ≡ s.regs 14
  kept : (k : ℕ) → 9 ≤ k → k ≤ 13 → t.regs k ≡ s.regs k
  mem : t.mem ≡ s.mem
  out : t.out ≡ s.out
  input : t.input ≡ s.input

module _ (base above n : ℕ) (negative : Bool) (powers : List Power) (least : 2 ≤ base) (greatest : base ≤ 16) (below : n < above) (small : n < 2 ^ 32) (descend : Descend base above powers) (few : length powers < 16)
    (format : NumberFormat) (s : Core) (good : IsGood s) (can : CanWrite s) (text_is : number_text format (number_in s 0) ≡ sign_text negative ++ digits base n) where
  abbrev AtEnd : Post
  AtEnd = at_return (WritesPart (Number (not (s.regs 1 == 0)) format (number_in s 0)) s) s

  -- the number of bytes of the text
  abbrev size : ℕ
  size = from_bool negative + 1 + length (digits_of base (n / base))

  size_is : length (number_text format (number_in s 0)) ≡ size
  size_is =
      ap length text_is ∙ length-append (sign_text negative) (digits base n)
      ∙ (λ i. sign_size negative i + (ap length (digits-split base n) ∙ length-append (map digit_byte (digits_of base (n / base))) (digit_byte (n % base) ∷ [])) i)
      ∙ omega (arith, length-map (digits_of base (n / base)) digit_byte)
    where
      sign_size : (b : Bool) → length (sign_text b) ≡ from_bool b
      sign_size true = refl
      sign_size false = refl

  abbrev front : ℕ
  front = padding (not (s.regs 1 == 0)) size

  column_is : (column_in s + (size + front)) % 65536 ≡ column_after (Number (not (s.regs 1 == 0)) format (number_in s 0)) (column_in s)
  column_is =
      let padded = not (s.regs 1 == 0) in
      let text = number_text format (number_in s 0) in
      let whole : length (justified padded text) ≡ size + front =
      ap length (justified_is padded text) ∙ length-append (spaces (padding padded (length text))) text
      ∙ (λ i. (length-replicate {A = ℕ} (padding padded (length text)) 32 ∙ ap (padding padded) size_is) i + size_is i) ∙ omega arith in
      ap (λ n. (column_in s + n) % 65536) (sym whole)

  -- the bytes before the last digit, and it
  bytes_are : s.out ++ spaces front ++ (sign_text negative ++ (map digit_byte (digits_of base (n / base)) ++ digit_byte (n % base) ∷ [])) ≡ s.out ++ justified (not (s.regs 1 == 0)) (number_text format (number_in s 0))
  bytes_are =
      let padded = not (s.regs 1 == 0) in
      let text = number_text format (number_in s 0) in
      append_assoc s.out (spaces front) _
      ∙ (λ i. s.out ++ (spaces (padding padded (sym size_is i)) ++ (ap (λ ds. sign_text negative ++ ds) (sym (digits-split base n)) ∙ sym text_is) i))
      ∙ ap (λ l. s.out ++ l) (sym (justified_is padded text))

  start_few : from_bool negative + 1 < 3
  start_few = each negative
    where
      each : (b : Bool) → from_bool b + 1 < 3
      each true = omega arith
      each false = omega arith

  number_owes : (t : Core) → Ready n negative s t → Owes LibraryAsks LibraryDoes (writes_number powers) AtEnd t
  number_owes t r =
      let start = from_bool negative + 1 in
      let t7 = put 7 n t in
      let t4 = put 4 n t7 in
      let t6 = put 6 start t4 in
      let none : n / above ≡ 0 = div-eq_of_lt below in
      let whole : n % above ≡ n = mod-eq_of_lt below in
      let kept_6 = λ (k : ℕ) (high : 8 ≤ k). updated-other t4.regs 6 start k (λ e. omega (arith, e, high)) ∙ updated-other t7.regs 4 n k (λ e. omega (arith, e, high)) ∙ updated-other t.regs 7 n k (λ e. omega (arith, e, high)) in
      set_then n refl r.value
      (set_then n refl r.value
      (set_then start refl ((λ i. (r.sign i + 1) % 2 ^ 32) ∙ omega (arith, start_few))
      (counts_then base n start least t6 powers above t6 descend
      (record {
        size = omega arith ∙ ap (λ m. start + length (digits_of base m)) (sym none);
        room = omega (arith, start_few, few);
        number = refl;
        kept = λ k two six. refl;
        mem = refl;
        out = refl;
        input = refl;
      })
      (λ u c.
      let kept_u = λ (k : ℕ) (high : 8 ≤ k). c.kept k (λ e. omega (arith, e, high)) (λ e. omega (arith, e, high)) ∙ kept_6 k high in
      prepares_then size (s.regs 1) (column_in s) (omega (arith, c.room, c.size)) u c.size (c.kept 1 (λ e. omega (arith, e)) (λ e. omega (arith, e)) ∙ r.padded) (good.regs 1)
      (kept_u 11 (omega arith) ∙ r.kept 11 (omega arith) (omega arith) ∙ can.base) ((λ i. word ((c.mem ∙ r.mem) i) column_at)) can.column AtEnd
      (λ v p.
      cut_then (WritesSign negative v) (writes_sign_owes v AtEnd negative (p.kept 5 (omega arith) (omega arith) ∙ c.kept 5 (λ e. omega (arith, e)) (λ e. omega (arith, e)) ∙ r.sign))
      (λ w g.
      writes_then base n least greatest small w AtEnd powers above w descend
      (record {
        number = g.kept 7 (λ e. omega (arith, e)) ∙ p.kept 7 (omega arith) (omega arith) ∙ c.number;
        left = g.kept 4 (λ e. omega (arith, e)) ∙ p.kept 4 (omega arith) (omega arith) ∙ c.kept 4 (λ e. omega (arith, e)) (λ e. omega (arith, e)) ∙ sym whole;
        out = sym (append-nil w.out) ∙ ap (λ m. w.out ++ map digit_byte (digits_of base m)) (sym none);
        kept = λ k high. refl;
        mem = refl;
        input = refl;
      })
      (λ x k.
      let d = n % base in
      let below_16 = mod_below n base (omega (arith, least)) in
      set_then (48 + d) refl ((λ i. (k.left i + 48) % 2 ^ 32) ∙ omega (arith, below_16, greatest))
      (cut_then (WritesDigit d (put 0 (48 + d) x)) (writes_digit_owes d (omega (arith, below_16, greatest)) (put 0 (48 + d) x) AtEnd refl)
      (λ y q.
      let kept_y = λ (j : ℕ) (high : 8 ≤ j) (low : j ≤ 13). q.kept j (λ e. omega (arith, e, high)) ∙ updated-other x.regs 0 (48 + d) j (λ e. omega (arith, e, high)) ∙ k.kept j high ∙ g.kept j (λ e. omega (arith, e, high))
      ∙ p.kept j (omega (arith, high)) low ∙ kept_u j high in
      let mem_y = q.mem ∙ k.mem ∙ g.mem in
      set_then (s.regs 14) refl (kept_y 8 (omega arith) (omega arith) ∙ r.back)
      (end_here (
        record {
          falls = refl;
          writes = record {
            out =
                q.out ∙ (λ i. (k.out ∙ ap (λ l. l ++ map digit_byte (digits_of base (n / base))) (g.out ∙ (λ j. (p.out ∙ ap (λ l. l ++ spaces front) (c.out ∙ r.out)) j ++ sign_text negative))) i ++ digit_byte d ∷ [])
                ∙ append_assoc ((s.out ++ spaces front) ++ sign_text negative) (map digit_byte (digits_of base (n / base))) (digit_byte d ∷ [])
                ∙ append_assoc (s.out ++ spaces front) (sign_text negative) (map digit_byte (digits_of base (n / base)) ++ digit_byte d ∷ [])
                ∙ bytes_are;
            column_is = (λ i. word (mem_y i) column_at) ∙ p.column_is ∙ column_is;
            kept = λ j high low. updated-other y.regs 14 (s.regs 14) j (λ e. omega (arith, e, low)) ∙ kept_y j (omega (arith, high)) low ∙ r.kept j high low;
            mem = λ a untouched. (λ i. mem_y i a) ∙ p.mem a (apart untouched) ∙ (λ i. (c.mem ∙ r.mem) i a);
            input = q.input ∙ k.input ∙ g.input ∙ p.input ∙ c.input ∙ r.input;
          };
        },
        refl,
      )))))))))))
    where
      apart : {a : ℕ} → IsUntouched a → (a < column_at) ⊎ (column_at + 4 ≤ a)
      apart (inl low) = inl low
      apart (inr high) = inr high.0

-- ---- decimal

module _ (s : Core) (good : IsGood s) (can : CanWrite s) where
  ten_owes : (n : ℕ) (negative : Bool) → n < 2 ^ 32 → decimal_text (number_in s 0) ≡ sign_text negative ++ digits 10 n → (t : Core) → Ready n negative s t
      → Owes LibraryAsks LibraryDoes (writes_number powers_of_ten) (at_return (routine_does DecimalNumber s) s) t
  ten_owes n negative small text_is t r =
      number_owes 10 (10 ^ 10) n negative powers_of_ten (omega arith) (omega arith) (omega (arith, small)) small (
        refl,
        omega arith,
        omega arith,
        (
          refl,
          omega arith,
          omega arith,
          (
            refl,
            omega arith,
            omega arith,
            (
              refl,
              omega arith,
              omega arith,
              (
                refl,
                omega arith,
                omega arith,
                (refl, omega arith, omega arith, (refl, omega arith, omega arith, (refl, omega arith, omega arith, (refl, omega arith, omega arith, refl)))),
              ),
            ),
          ),
        ),
      )
      (omega arith) Decimal s good can text_is t r

  pub decimal_owes : Owes LibraryAsks LibraryDoes decimal_number (at_return (routine_does DecimalNumber s) s) s
  decimal_owes =
      let b = s.regs 0 in
      let t8 = put 8 (s.regs 14) s in
      let t5 = put 5 0 t8 in
      let u = flagged_by (compared b (2 ^ 31)) t5 in
      let over = after-cs b (2 ^ 31) t5 in
      set_then (s.regs 14) refl refl
      (set_then 0 refl refl
      (test_then (compared b (2 ^ 31)) refl refl
      (when_then
      (λ e.
      let high = leb-true (2 ^ 31) b (sym over ∙ e) in
      let n = minus 0 b in
      let magnitude : n ≡ suc (2 ^ 32 - suc b) = omega (arith, high, good.regs 0) in
      set_then n refl refl
      (set_then 1 refl refl
      (end_here
      (ten_owes n true (omega arith) (ap decimal_text (signed-high b high) ∙ ap (λ m. 45 ∷ digits 10 m) (sym magnitude)) (put 5 1 (put 0 n u))
      (record {
        value = refl;
        padded = refl;
        sign = refl;
        back = refl;
        kept = λ k low most. updated-other (updated u.regs 0 n) 5 1 k (λ x. omega (arith, x, low)) ∙ updated-other u.regs 0 n k (λ x. omega (arith, x, low))
            ∙ updated-other t8.regs 5 0 k (λ x. omega (arith, x, low)) ∙ updated-other s.regs 8 (s.regs 14) k (λ x. omega (arith, x, low));
        mem = refl;
        out = refl;
        input = refl;
      })))))
      (λ e.
      let low_b = leb-false (2 ^ 31) b (sym over ∙ e) in
      ten_owes b false (good.regs 0) (ap decimal_text (signed-low b low_b)) u
      (record {
        value = refl;
        padded = refl;
        sign = refl;
        back = refl;
        kept = λ k low most. updated-other t8.regs 5 0 k (λ x. omega (arith, x, low)) ∙ updated-other s.regs 8 (s.regs 14) k (λ x. omega (arith, x, low));
        mem = refl;
        out = refl;
        input = refl;
      })))))

  -- ---- hexadecimal

  pub hexadecimal_owes : Owes LibraryAsks LibraryDoes hexadecimal_number (at_return (routine_does HexadecimalNumber s) s) s
  hexadecimal_owes =
      let n = s.regs 0 in
      let t8 = put 8 (s.regs 14) s in
      set_then (s.regs 14) refl refl
      (set_then 0 refl refl
      (number_owes 16 (2 ^ 32) n false powers_of_sixteen (omega arith) (omega arith) (good.regs 0) (good.regs 0) (
        refl,
        omega arith,
        omega arith,
        (
          refl,
          omega arith,
          omega arith,
          (
            refl,
            omega arith,
            omega arith,
            (
              refl,
              omega arith,
              omega arith,
              (
                refl,
                omega arith,
                omega arith,
                (refl, omega arith, omega arith, (refl, omega arith, omega arith, refl)),
              ),
            ),
          ),
        ),
      )
      (omega arith) Hexadecimal s good can (ap (digits 16) (of_z-to_z w32 n (good.regs 0))) (put 5 0 t8)
      (record {
        value = refl;
        padded = refl;
        sign = refl;
        back = refl;
        kept = λ k low most. updated-other t8.regs 5 0 k (λ x. omega (arith, x, low)) ∙ updated-other s.regs 8 (s.regs 14) k (λ x. omega (arith, x, low));
        mem = refl;
        out = refl;
        input = refl;
      })))
