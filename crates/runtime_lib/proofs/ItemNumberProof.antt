-- The number of an item of DATA.
use Rattle.std.proofs.Common.{◌≡◌, ℕ, suc, ◌+◌, ◌-◌, ◌*◌, ◌%◌, ◌^◌, ◌<◌, ◌≤◌, ◌⊎◌, inl, inr, Bool, true, false, if◌then◌else◌, List, drop, Ok, Err, refl, sym, ap, ◌∙◌, arith, lt-ltb, le-ltb, le-leb, eq-eqb}
use Rattle.std.specs.Int.{w32, cast_signed, from_bool}
use Rattle.std.proofs.lemmas.Bool.{cases_lt, lt-leb, ltb-true, ltb-false, eqb-true, eqb-false, ne_eqb, true≢false, false≢true}
use Rattle.std.proofs.Math.Nat.{mul-le-mul_right}
use Rattle.bv_base.specs.MemoryMap.{ram_end}
use Rattle.bv_num.specs.Operation.{too_big, in_range, with_sign}
use Rattle.bv_num.specs.Value.{after_spaces, front_value, begins_with, after_sign, value_of, in_word, data_value}
use Rattle.arm_isa.specs.Numbers.{MOV, CS, CC}
use Rattle.arm2_alu.proofs.RegisterLaws.{updated}
use Rattle.arm2_alu.proofs.ValueLaws.{compared}
use Rattle.arm_core.specs.Core.{Core, put, IsGood}
use Rattle.arm_core.specs.Effects.{flagged_by}
use Rattle.arm_core.proofs.Comparisons.{after-eq, after-cs, after-cc}
use Rattle.code_frag.specs.Demands.{Falls, Post, on_falls, at_return, Owes}
use Rattle.code_frag.specs.Instructions.{num, reg, process_if, add, mul}
use Rattle.code_frag.specs.Language.{Piece, Skip, ◌⨾◌}
use Rattle.code_frag.proofs.Rules.{Less, Turn, end_here, set_then, load_byte_then, test_then, set_where_then, skip_where_then, multiply_then, if_then, when_then, while_then}
use Rattle.runtime_lib.specs.Entries.{text_at, LibraryAsks, LibraryDoes, Answers, Calculates}
use Rattle.runtime_lib.specs.Reading.{steps_on, digits_test, digits_turn, reads_digits, begins_hexadecimal, begins_decimal, ends_number, item_number}
use Rattle.runtime_lib.proofs.Leading.{leads}
use Rattle.runtime_lib.proofs.ReadingLaws.{first, begins-first, IsDigitCode, row_value, front-row, row-digit, row-ends, row-past, some-digit}
use Rattle.runtime_lib.proofs.ReadingParts.{IsLeft, one-less, left-next, left-same, KeepsBut, but_kept, IsBut, but-after, Peeks, peeks_then, digit_then, spaces_then, sign_then}
use Rattle.runtime_lib.proofs.SignedLaws.{big}
use Rattle.runtime_lib.proofs.SignedParts.{GivesAnswer, answer_owes, by_result}

-- ---- the digits

-- The value so far, with which the digits that are left make up the whole, and no error; or the error says that the whole is too big.
abbrev Stands : ℕ → ℕ → ℕ → List ℕ → ℕ → ℕ → Type 0
Stands base past whole rest value error = ((error ≡ 0) × (value < 2 ^ 32) × (row_value base value rest ≡ whole)) ⊎ ((error ≡ too_big) × (past ≤ whole))

-- n bytes are left
record Reading (base past whole : ℕ) (s : Core) (n : ℕ) (t : Core) : Type 0 where
  rest : List ℕ
  left : IsLeft rest n t
  stands : Stands base past whole rest (t.regs 0) (t.regs 1)
  but : IsBut 0 4 s t

-- it is the whole, or the error says that the whole is too big
abbrev IsWhole : ℕ → ℕ → ℕ → ℕ → Type 0
IsWhole past whole value error = ((error ≡ 0) × (value < 2 ^ 32) × (value ≡ whole)) ⊎ ((error ≡ too_big) × (past ≤ whole))

-- so do R0 and R1
record HasRead (past whole : ℕ) (s t : Core) : Type 0 where
  result : IsWhole past whole (t.regs 0) (t.regs 1)
  but : IsBut 0 4 s t

-- one digit more, where it fits and where it doesn't
fits-digit : (base bound past value v : ℕ) → bound * base ≡ past → past ≤ 2 ^ 32 → value < bound → v < base → value * base + v < 2 ^ 32
fits-digit base bound past value v is most low digit =
    let product : suc value * base ≤ bound * base = mul-le-mul_right base low in
    let parts : suc value * base ≡ value * base + base = omega arith in
    omega (arith, product, parts, is, most, digit)

module _ {rest : Piece} {Q : Post} (base bound past : ℕ) (some : 0 < base) (few : base ≤ 16) (is_past : bound * base ≡ past) (fits : past ≤ 2 ^ 32) (whole : ℕ) (s : Core) (six : s.regs 6 ≡ base) (seven : s.regs 7 ≡ bound)
    (next : (t : Core) → HasRead past whole s t → Owes LibraryAsks LibraryDoes rest Q t) where
  abbrev Inv : ℕ → Core → Type 0
  Inv = Reading base past whole s

  -- where a digit is, with its value in R4
  record AtDigit (n : ℕ) (left : List ℕ) (t u : Core) : Type 0 where
    is_left : IsLeft left n t
    stands : Stands base past whole left (t.regs 0) (t.regs 1)
    code : IsDigitCode (first left) (u.regs 4)
    low : u.regs 4 < base
    value : u.regs 0 ≡ t.regs 0
    error : u.regs 1 ≡ t.regs 1
    place : u.regs 2 ≡ t.regs 2
    but : IsBut 0 4 s u
    mem : u.mem ≡ t.mem
    end : u.regs 8 ≡ t.regs 8

  -- after the comparison with the bound
  adds : (n : ℕ) (r : List ℕ) (t u v : Core) → AtDigit n r t u → 0 < n → v.regs 0 ≡ u.regs 0 → v.regs 2 ≡ u.regs 2 → v.regs 4 ≡ u.regs 4 → v.regs 6 ≡ base → v.regs 8 ≡ u.regs 8 → IsBut 0 4 s v → v.mem ≡ u.mem
      → Stands base past whole (drop 1 r) ((t.regs 0 * base % 2 ^ 32 + u.regs 4) % 2 ^ 32) (v.regs 1) → Owes LibraryAsks LibraryDoes (mul 3 0 6 ⨾ add 0 3 (reg 4) ⨾ steps_on) (on_falls (Less Inv n) Q) v
  adds n r t u v d more same_0 same_2 same_4 base_is same_8 but mem stands =
      let x = t.regs 0 * base % 2 ^ 32 in
      let inside = d.is_left.inside in
      let at : v.regs 2 ≡ t.regs 2 = same_2 ∙ d.place in
      multiply_then x (λ i. (same_0 ∙ d.value) i * base_is i % 2 ^ 32)
      (set_then ((x + u.regs 4) % 2 ^ 32) refl (λ i. (x + same_4 i) % 2 ^ 32)
      (set_then (t.regs 2 + 1) refl (omega (arith, at, inside, more))
      (end_here (record {
        count = n - 1;
        less = omega (arith, more);
        inv = record {
          rest = drop 1 r;
          left = left-next r (drop 1 r) n t _ refl d.is_left more refl (same_8 ∙ d.end) (mem ∙ d.mem);
          stands = stands;
          but = record {
            regs = but_kept 0 4 _ s.regs 2 _ (omega arith) (omega arith) (but_kept 0 4 _ s.regs 0 _ (omega arith) (omega arith) (but_kept 0 4 v.regs s.regs 3 _ (omega arith) (omega arith) but.regs));
            mem = but.mem;
            out = but.out;
            input = but.input;
          };
        };
      }))))

  turn_owes : (n : ℕ) (r : List ℕ) (t u : Core) → AtDigit n r t u → Owes LibraryAsks LibraryDoes digits_turn (on_falls (Less Inv n) Q) u
  turn_owes n r t u d =
      let value = t.regs 0 in
      let bound_is : u.regs 7 ≡ bound = d.but.regs 7 (inr (omega arith)) ∙ seven in
      let base_is : u.regs 6 ≡ base = d.but.regs 6 (inr (omega arith)) ∙ six in
      let more = one-less r n t d.is_left (some-digit base few (u.regs 4) r d.code d.low) in
      test_then (compared value bound) refl (λ i. compared (d.value i) (bound_is i)) (by_bound (cases_lt value bound) more base_is)
    where
      y : ℕ
      y = (t.regs 0 * base % 2 ^ 32 + u.regs 4) % 2 ^ 32

      by_bound : (t.regs 0 < bound) ⊎ (bound ≤ t.regs 0) → 0 < n → u.regs 6 ≡ base
          → Owes LibraryAsks LibraryDoes (process_if CS MOV 1 0 (num too_big) ⨾ mul 3 0 6 ⨾ add 0 3 (reg 4) ⨾ steps_on) (on_falls (Less Inv n) Q) (flagged_by (compared (t.regs 0) bound) u)
      by_bound (inr reached) more base_is =
          set_where_then too_big (after-cs (t.regs 0) bound u ∙ le-leb bound (t.regs 0) reached) refl refl
          (adds n r t u _ d more refl refl refl base_is refl
          (record { regs = but_kept 0 4 u.regs s.regs 1 _ (omega arith) (omega arith) d.but.regs; mem = d.but.mem; out = d.but.out; input = d.but.input })
          refl
          (inr (refl, past_whole d.stands)))
        where
          past_whole : Stands base past whole r (t.regs 0) (t.regs 1) → past ≤ whole
          past_whole (inl k) = let p = row-past base few (u.regs 4) bound past (t.regs 0) r is_past some reached d.code d.low in omega (arith, p, k.2)
          past_whole (inr k) = k.1
      by_bound (inl low) more base_is =
          skip_where_then (after-cs (t.regs 0) bound u ∙ lt-leb bound (t.regs 0) low)
          (adds n r t u _ d more refl refl refl base_is refl
          (record { regs = d.but.regs; mem = d.but.mem; out = d.but.out; input = d.but.input })
          refl
          (after d.stands))
        where
          after : Stands base past whole r (t.regs 0) (t.regs 1) → Stands base past whole (drop 1 r) y (u.regs 1)
          after (inl k) =
              let small = fits-digit base bound past (t.regs 0) (u.regs 4) is_past fits low d.low in
              let exact : y ≡ t.regs 0 * base + u.regs 4 = omega (arith, small) in
              inl (d.error ∙ k.0, omega (arith, exact, small), ap (λ x. row_value base x (drop 1 r)) exact ∙ row-digit base few (u.regs 4) (t.regs 0) r d.code d.low ∙ k.2)
          after (inr k) = inr (d.error ∙ k.0, k.1)

  test_owes : (n : ℕ) (t : Core) → Inv n t → Owes LibraryAsks LibraryDoes digits_test (on_falls (Turn LibraryAsks LibraryDoes CC digits_turn rest Q Inv n) Q) t
  test_owes n t c =
      peeks_then c.rest n t c.left (λ u p.
      digit_then (first c.rest) p.small u (λ v d.
      let x = v.regs 4 in
      let is = after-cc x base v in
      let kept = but-after 3 4 3 3 3 4 t u v (omega arith) (omega arith) (omega arith) (omega arith) p.but d.but in
      let but = but-after 0 4 0 4 3 4 s t v (omega arith) (omega arith) (omega arith) (omega arith) c.but kept in
      test_then (compared x base) refl (ap (compared x) (but.regs 6 (inr (omega arith)) ∙ six))
      (end_here (record {
        more = λ e. turn_owes n c.rest t _ (record {
          is_left = c.left;
          stands = c.stands;
          code = d.code;
          low = ltb-true x base (sym is ∙ e);
          value = kept.regs 0 (inl (omega arith));
          error = kept.regs 1 (inl (omega arith));
          place = kept.regs 2 (inl (omega arith));
          but = record { regs = but.regs; mem = but.mem; out = but.out; input = but.input };
          mem = kept.mem;
          end = kept.regs 8 (inr (omega arith));
        });
        done = λ e. next _ (record {
          result = ended c.rest t v (kept.regs 0 (inl (omega arith))) (kept.regs 1 (inl (omega arith))) (λ value. row-ends base few x value c.rest d.code (ltb-false x base (sym is ∙ e))) c.stands;
          but = record { regs = but.regs; mem = but.mem; out = but.out; input = but.input };
        });
      }))) p.byte)
    where
      ended : (r : List ℕ) (t v : Core) → v.regs 0 ≡ t.regs 0 → v.regs 1 ≡ t.regs 1 → ((value : ℕ) → row_value base value r ≡ value) → Stands base past whole r (t.regs 0) (t.regs 1)
          → IsWhole past whole (v.regs 0) (v.regs 1)
      ended r t v number error none (inl k) = inl (error ∙ k.0, omega (arith, number, k.1), number ∙ sym (none (t.regs 0)) ∙ k.2)
      ended r t v number error none (inr k) = inr (error ∙ k.0, k.1)

  digits_then : (n : ℕ) (text : List ℕ) → IsLeft text n s → s.regs 0 ≡ 0 → s.regs 1 ≡ 0 → row_value base 0 text ≡ whole → Owes LibraryAsks LibraryDoes (reads_digits rest) Q s
  digits_then n text left start no_error same =
      while_then Inv test_owes n (record {
        rest = text;
        left = left;
        stands = inl (no_error, omega (arith, start), ap (λ x. row_value base x text) start ∙ same);
        but = record { regs = λ k other. refl; mem = refl; out = refl; input = refl };
      })

-- ---- the routine

module _ (s : Core) (good : IsGood s) (inside : s.regs 0 + 256 ≤ ram_end) where
  abbrev text : List ℕ
  text = text_at s.mem (s.regs 0)

  abbrev Goal : Post
  Goal = at_return (Calculates (data_value text) s) s

  -- the routine's end
  ends : (t : Core) → IsBut 0 8 s t → Answers (data_value text) t → Goal Falls t
  ends t but answers = (
    record {
      falls = refl;
      answers = answers;
      kept = λ k low high. but.regs k (inr (omega (arith, low)));
      mem = but.mem;
      out = but.out;
      input = but.input;
    },
    but.regs 14 (inr (omega arith)),
  )

  -- the digits and what is after them, by what they lead to
  record Ready (base bound : ℕ) (rest : List ℕ) (t : Core) : Type 0 where
    count : ℕ
    left : IsLeft rest count t
    start : t.regs 0 ≡ 0
    no_error : t.regs 1 ≡ 0
    six : t.regs 6 ≡ base
    seven : t.regs 7 ≡ bound
    but : IsBut 0 8 s t

  -- where they are too big
  fails : (u : Core) → u.regs 1 ≡ too_big → IsBut 0 8 s u → data_value text ≡ Err too_big → Owes LibraryAsks LibraryDoes ends_number Goal u
  fails u one but is =
      test_then (compared too_big 0) refl (ap (λ x. compared x 0) one)
      (when_then
      (λ e. absurd (false≢true e))
      (λ e. end_here (ends _ (record { regs = but.regs; mem = but.mem; out = but.out; input = but.input }) (by_result (data_value text) (Err too_big) _ is one))))

  hexadecimal_ends : begins_with 38 text ≡ true → (t u : Core) → Ready 16 (2 ^ 28) (drop 1 text) t → HasRead (2 ^ 32) (front_value 16 (drop 1 text)) t u → Owes LibraryAsks LibraryDoes ends_number Goal u
  hexadecimal_ends marked t u ready read = by_result_of read.result
    where
      whole : ℕ
      whole = front_value 16 (drop 1 text)

      value : data_value text ≡ in_word whole
      value = ap (λ c. if c then in_word whole else value_of text) marked

      but : IsBut 0 8 s u
      but = but-after 0 8 0 8 0 4 s t u (omega arith) (omega arith) (omega arith) (omega arith) ready.but read.but

      by_result_of : IsWhole (2 ^ 32) whole (u.regs 0) (u.regs 1) → Owes LibraryAsks LibraryDoes ends_number Goal u
      by_result_of (inl k) =
          let fits : in_word whole ≡ Ok (cast_signed w32 whole) = ap (λ c. if c then Ok (cast_signed w32 whole) else Err too_big) (lt-ltb whole (2 ^ 32) (omega (arith, k.1, k.2))) in
          test_then (compared 0 0) refl (ap (λ x. compared x 0) k.0)
          (when_then
          (λ e.
          test_then (compared 16 10) refl (ap (λ x. compared x 10) (read.but.regs 6 (inr (omega arith)) ∙ ready.six))
          (when_then
          (λ f. absurd (false≢true f))
          (λ f. end_here (end_here (ends _ (record { regs = but.regs; mem = but.mem; out = but.out; input = but.input }) (by_result (data_value text) (Ok (cast_signed w32 whole)) _ (value ∙ fits) (k.0, ap (cast_signed w32) k.2)))))))
          (λ e. absurd (true≢false e)))
      by_result_of (inr k) = fails u k.0 but (value ∙ ap (λ c. if c then Ok (cast_signed w32 whole) else Err too_big) (le-ltb whole (2 ^ 32) k.1))

  decimal_ends : begins_with 38 text ≡ false → (t u : Core) → Ready 10 214748365 (after_sign (after_spaces text)) t → t.regs 5 ≡ from_bool (begins_with 45 (after_spaces text)) → HasRead 2147483650 (front_value 10 (after_sign (after_spaces text))) t u
      → Owes LibraryAsks LibraryDoes ends_number Goal u
  decimal_ends unmarked t u ready five read = by_result_of read.result
    where
      whole : ℕ
      whole = front_value 10 (after_sign (after_spaces text))

      sign : Bool
      sign = begins_with 45 (after_spaces text)

      value : data_value text ≡ in_range (with_sign sign whole)
      value = ap (λ c. if c then in_word (front_value 16 (drop 1 text)) else value_of text) unmarked

      but : IsBut 0 8 s u
      but = but-after 0 8 0 8 0 4 s t u (omega arith) (omega arith) (omega arith) (omega arith) ready.but read.but

      Inside : Post
      Inside = on_falls (Owes LibraryAsks LibraryDoes Skip Goal) Goal

      answered : (m : ℕ) (v w : Core) → v.regs ≡ u.regs → v.mem ≡ u.mem → v.out ≡ u.out → v.input ≡ u.input → m ≡ whole → GivesAnswer (in_range (with_sign sign m)) v w → Goal Falls w
      answered m v w regs mem out input is g =
          ends w
          (record { regs = kept; mem = g.mem ∙ mem ∙ but.mem; out = g.out ∙ out ∙ but.out; input = g.input ∙ input ∙ but.input })
          (by_result (data_value text) (in_range (with_sign sign m)) w (value ∙ ap (λ n. in_range (with_sign sign n)) (sym is)) g.answers)
        where
          kept : KeepsBut 0 8 w.regs s.regs
          kept k (inl below) = absurd (omega (arith, below))
          kept k (inr above) = g.kept k (omega (arith, above)) ∙ (λ i. regs i k) ∙ but.regs k (inr above)

      by_result_of : IsWhole 2147483650 whole (u.regs 0) (u.regs 1) → Owes LibraryAsks LibraryDoes ends_number Goal u
      by_result_of (inl k) =
          test_then (compared 0 0) refl (ap (λ x. compared x 0) k.0)
          (when_then
          (λ e.
          test_then (compared 10 10) refl (ap (λ x. compared x 10) (read.but.regs 6 (inr (omega arith)) ∙ ready.six))
          (when_then
          (λ f.
          let v = flagged_by (compared 10 10) (flagged_by (compared 0 0) u) in
          leads (GivesAnswer (in_range (with_sign sign (u.regs 0))) v) (Owes LibraryAsks LibraryDoes Skip Inside) Inside (λ w g. end_here (end_here (answered (u.regs 0) v w refl refl refl refl k.2 g)))
          (answer_owes v Inside (u.regs 0) k.1 refl sign (read.but.regs 5 (inr (omega arith)) ∙ five)))
          (λ f. absurd (true≢false f))))
          (λ e. absurd (true≢false e)))
      by_result_of (inr k) = fails u k.0 but (value ∙ big sign whole (omega (arith, k.1)))

  -- where the routine has the text's length, and its first byte
  record Begun (t : Core) : Type 0 where
    count : ℕ
    left : IsLeft text count t
    start : t.regs 0 ≡ 0
    no_error : t.regs 1 ≡ 0
    but : IsBut 0 8 s t

  abbrev AtDigits : Post
  AtDigits = on_falls (Owes LibraryAsks LibraryDoes (reads_digits ends_number) Goal) Goal

  hexadecimal_begins : (t : Core) → Begun t → first text ≡ 38 → Owes LibraryAsks LibraryDoes begins_hexadecimal AtDigits t
  hexadecimal_begins t d is =
      let more = one-less text d.count t d.left (omega (arith, is)) in
      let within = d.left.inside in
      set_then (t.regs 2 + 1) refl (omega (arith, within, more))
      (set_then 16 refl refl
      (set_then (2 ^ 28) refl refl
      (end_here (reads _ (record {
        count = d.count - 1;
        left = left-next text (drop 1 text) d.count t _ refl d.left more refl refl refl;
        start = d.start;
        no_error = d.no_error;
        six = refl;
        seven = refl;
        but = record {
          regs = but_kept 0 8 _ s.regs 7 _ (omega arith) (omega arith) (but_kept 0 8 _ s.regs 6 _ (omega arith) (omega arith) (but_kept 0 8 t.regs s.regs 2 _ (omega arith) (omega arith) d.but.regs));
          mem = d.but.mem;
          out = d.but.out;
          input = d.but.input;
        };
      })))))
    where
      marked : begins_with 38 text ≡ true
      marked = begins-first 37 text ∙ eq-eqb (first text) 38 is

      reads : (u : Core) → Ready 16 (2 ^ 28) (drop 1 text) u → Owes LibraryAsks LibraryDoes (reads_digits ends_number) Goal u
      reads u r =
          digits_then 16 (2 ^ 28) (2 ^ 32) (omega arith) (omega arith) refl (omega arith) (front_value 16 (drop 1 text)) u r.six r.seven (λ v read. hexadecimal_ends marked u v r read)
          r.count (drop 1 text) r.left r.start r.no_error (front-row 16 (drop 1 text))

  decimal_begins : (t : Core) → Begun t → (first text ≡ 38 → ⊥) → Owes LibraryAsks LibraryDoes begins_decimal AtDigits t
  decimal_begins t d other =
      spaces_then text t (λ u k.
      sign_then (after_spaces text) k.count u k.left k.byte k.small (λ v g.
      let passed = but-after 2 5 2 3 2 5 t u v (omega arith) (omega arith) (omega arith) (omega arith) k.but g.but in
      let but = but-after 0 8 0 8 2 5 s t v (omega arith) (omega arith) (omega arith) (omega arith) d.but passed in
      set_then 10 refl refl
      (set_then 0xcc00000 refl refl
      (set_then 0xcccc000 refl refl
      (set_then 0xcccccc0 refl refl
      (set_then 214748365 refl refl
      (end_here (reads _ g.sign (record {
        count = g.count;
        left = left-same _ _ g.count v _ refl g.left refl refl refl;
        start = passed.regs 0 (inl (omega arith)) ∙ d.start;
        no_error = passed.regs 1 (inl (omega arith)) ∙ d.no_error;
        six = refl;
        seven = refl;
        but = record {
          regs = kept v but.regs;
          mem = but.mem;
          out = but.out;
          input = but.input;
        };
      }))))))))) d.count d.left
    where
      unmarked : begins_with 38 text ≡ false
      unmarked = begins-first 37 text ∙ ne_eqb (first text) 38 other

      kept : (v : Core) → KeepsBut 0 8 v.regs s.regs → KeepsBut 0 8 (updated (updated (updated (updated (updated v.regs 6 10) 7 0xcc00000) 7 0xcccc000) 7 0xcccccc0) 7 214748365) s.regs
      kept v one =
          but_kept 0 8 _ s.regs 7 _ (omega arith) (omega arith) (but_kept 0 8 _ s.regs 7 _ (omega arith) (omega arith) (but_kept 0 8 _ s.regs 7 _ (omega arith) (omega arith) (but_kept 0 8 _ s.regs 7 _ (omega arith) (omega arith)
          (but_kept 0 8 v.regs s.regs 6 _ (omega arith) (omega arith) one))))

      reads : (u : Core) → u.regs 5 ≡ from_bool (begins_with 45 (after_spaces text)) → Ready 10 214748365 (after_sign (after_spaces text)) u → Owes LibraryAsks LibraryDoes (reads_digits ends_number) Goal u
      reads u five r =
          digits_then 10 214748365 2147483650 (omega arith) (omega arith) refl (omega arith) (front_value 10 (after_sign (after_spaces text))) u r.six r.seven (λ v read. decimal_ends unmarked u v r five read)
          r.count (after_sign (after_spaces text)) r.left r.start r.no_error (front-row 10 (after_sign (after_spaces text)))

  -- the core before the first byte is looked at
  abbrev begin : Core
  begin = put 1 0 (put 0 0 (put 8 (s.regs 0 + 1 + s.mem (s.regs 0)) (put 2 (s.regs 0 + 1) (put 8 (s.mem (s.regs 0)) s))))

  whole_text : s.mem (s.regs 0) < 256 → IsLeft text (s.mem (s.regs 0)) begin
  whole_text small = record { end = refl; inside = omega (arith, inside, small); bytes = refl }

  begun : (t u : Core) → s.mem (s.regs 0) < 256 → Peeks text begin t → u.regs ≡ t.regs → u.mem ≡ t.mem → u.out ≡ t.out → u.input ≡ t.input → Begun u
  begun t u small p regs mem out input = record {
    count = s.mem (s.regs 0);
    left = left-same text text (s.mem (s.regs 0)) begin u refl (whole_text small) (same 2 (inl (omega arith))) (same 8 (inr (omega arith))) (mem ∙ p.but.mem);
    start = same 0 (inl (omega arith));
    no_error = same 1 (inl (omega arith));
    but = but-after 0 8 0 8 3 3 s begin u (omega arith) (omega arith) (omega arith) (omega arith) (record { regs = before; mem = refl; out = refl; input = refl })
        (record { regs = same; mem = mem ∙ p.but.mem; out = out ∙ p.but.out; input = input ∙ p.but.input });
  }
    where
      same : KeepsBut 3 3 u.regs begin.regs
      same k other = (λ i. regs i k) ∙ p.but.regs k other

      before : KeepsBut 0 8 begin.regs s.regs
      before =
          but_kept 0 8 _ s.regs 1 _ (omega arith) (omega arith) (but_kept 0 8 _ s.regs 0 _ (omega arith) (omega arith) (but_kept 0 8 _ s.regs 8 _ (omega arith) (omega arith)
          (but_kept 0 8 _ s.regs 2 _ (omega arith) (omega arith) (but_kept 0 8 s.regs s.regs 8 _ (omega arith) (omega arith) (λ k other. refl)))))

  pub item_number_owes : Owes LibraryAsks LibraryDoes item_number Goal s
  item_number_owes =
      let a = s.regs 0 in
      let n = s.mem a in
      load_byte_then a n (omega (arith, inside)) refl (omega (arith, inside)) (λ small.
      set_then (a + 1) refl (omega (arith, inside))
      (set_then (a + 1 + n) refl (omega (arith, inside, small))
      (set_then 0 refl refl
      (set_then 0 refl refl
      (peeks_then text n begin (whole_text small) (λ t p.
      let b = first text in
      let is = after-eq b 38 t (omega (arith, p.small)) (omega arith) in
      test_then (compared b 38) refl (ap (λ x. compared x 38) p.byte)
      (if_then
      (λ e. hexadecimal_begins _ (begun t _ small p refl refl refl refl) (eqb-true b 38 (sym is ∙ e)))
      (λ e. decimal_begins _ (begun t _ small p refl refl refl refl) (eqb-false b 38 (sym is ∙ e))))))))))
