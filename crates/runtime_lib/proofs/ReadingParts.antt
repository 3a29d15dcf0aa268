-- Parts of the routine of an item's number: the next byte, spaces and the sign.
use Rattle.std.proofs.Common.{◌≡◌, ℕ, zero, suc, ◌+◌, ◌-◌, ◌%◌, ◌^◌, ◌<◌, ◌≤◌, ◌==◌, ◌⊎◌, inl, inr, Bool, true, false, List, drop, refl, sym, ap, subst, ◌∙◌, arith, le-leb, eq-eqb}
use Rattle.std.specs.Int.{from_bool}
use Rattle.std.proofs.lemmas.Bool.{cases_lt, lt-leb, leb-true, leb-false, ltb-true, ltb-false, eqb-true, eqb-false, ne_eqb}
use Rattle.bv_base.specs.MemoryMap.{ram_end}
use Rattle.bv_num.specs.Value.{after_spaces, begins_with, after_sign}
use Rattle.arm_isa.specs.Numbers.{ADD, SUB, MOV, EQ, CS}
use Rattle.arm2_alu.proofs.RegisterLaws.{updated}
use Rattle.arm2_alu.proofs.ValueLaws.{minus, compared}
use Rattle.arm_core.specs.Core.{Core, put, meets}
use Rattle.arm_core.specs.Effects.{flagged_by}
use Rattle.arm_core.proofs.Comparisons.{after-eq, after-cs, after-cc}
use Rattle.arm_core.proofs.MemoryWords.{updated-other}
use Rattle.code_frag.specs.Demands.{Post, on_falls, Owes}
use Rattle.code_frag.specs.Instructions.{num, process_if}
use Rattle.code_frag.specs.Language.{Piece, Skip, ◌⨾◌}
use Rattle.code_frag.proofs.Rules.{Turn, end_here, set_then, load_byte_then, test_then, set_where_then, skip_where_then, when_then, while_then}
use Rattle.runtime_lib.specs.Entries.{bytes_from, LibraryAsks, LibraryDoes}
use Rattle.runtime_lib.specs.Reading.{peeks, steps_on, spaces_test, skips_spaces, takes_plus, takes_sign, takes_capital, takes_letter, takes_digit}
use Rattle.runtime_lib.proofs.ReadingLaws.{first, some-byte, bytes-next, begins-first, after-space, after-no_space, after-plus, after-minus, after-no_sign, IsDigitCode, code-decimal, code-small, code-capital, code-none}

-- ---- what is left of a text

-- n bytes are left of it, from R2 up to R8, and they are in memory
pub record IsLeft (text : List ℕ) (n : ℕ) (t : Core) : Type 0 where
  pub end : t.regs 8 ≡ t.regs 2 + n
  pub inside : t.regs 2 + n ≤ ram_end
  pub bytes : bytes_from t.mem (t.regs 2) n ≡ text

-- one less
pub one-less : (text : List ℕ) (n : ℕ) (t : Core) → IsLeft text n t → 0 < first text → 0 < n
one-less text n t left some = some-byte t.mem (t.regs 2) n (omega (arith, some, ap first left.bytes))

pub left-next : (text rest : List ℕ) (n : ℕ) (t u : Core) → rest ≡ drop 1 text → IsLeft text n t → 0 < n → u.regs 2 ≡ t.regs 2 + 1 → u.regs 8 ≡ t.regs 8 → u.mem ≡ t.mem → IsLeft rest (n - 1) u
left-next text rest n t u is left some two eight mem = record {
  end = omega (arith, eight, left.end, two, some);
  inside = omega (arith, left.inside, two, some);
  bytes = (λ i. bytes_from (mem i) (two i) (n - 1)) ∙ bytes-next t.mem (t.regs 2) n some ∙ ap (drop 1) left.bytes ∙ sym is;
}

pub left-same : (text rest : List ℕ) (n : ℕ) (t u : Core) → rest ≡ text → IsLeft text n t → u.regs 2 ≡ t.regs 2 → u.regs 8 ≡ t.regs 8 → u.mem ≡ t.mem → IsLeft rest n u
left-same text rest n t u is left two eight mem = record {
  end = omega (arith, eight, left.end, two);
  inside = omega (arith, left.inside, two);
  bytes = (λ i. bytes_from (mem i) (two i) n) ∙ left.bytes ∙ sym is;
}

-- ---- what the parts leave alone

-- the registers but for those from one to another
abbrev pub KeepsBut : ℕ → ℕ → (ℕ → ℕ) → (ℕ → ℕ) → Type 0
KeepsBut low high f g = (k : ℕ) → (k < low) ⊎ (high < k) → f k ≡ g k

pub but_kept : (low high : ℕ) (f g : ℕ → ℕ) (n x : ℕ) → low ≤ n → n ≤ high → KeepsBut low high f g → KeepsBut low high (updated f n x) g
but_kept low high f g n x least most kept k (inl below) = updated-other f n x k (λ e. omega (arith, e, below, least)) ∙ kept k (inl below)
but_kept low high f g n x least most kept k (inr above) = updated-other f n x k (λ e. omega (arith, e, above, most)) ∙ kept k (inr above)

-- a core as it was but for them and flags
pub record IsBut (low high : ℕ) (s t : Core) : Type 0 where
  pub regs : KeepsBut low high t.regs s.regs
  pub mem : t.mem ≡ s.mem
  pub out : t.out ≡ s.out
  pub input : t.input ≡ s.input

-- one part after another, in the bounds of both
pub but-after : (low high a b c d : ℕ) (s t u : Core) → low ≤ a → b ≤ high → low ≤ c → d ≤ high → IsBut a b s t → IsBut c d t u → IsBut low high s u
but-after low high a b c d s t u low_a b_high low_c d_high one two = record { regs = regs; mem = two.mem ∙ one.mem; out = two.out ∙ one.out; input = two.input ∙ one.input }
  where
    regs : KeepsBut low high u.regs s.regs
    regs k (inl below) = two.regs k (inl (omega (arith, below, low_c))) ∙ one.regs k (inl (omega (arith, below, low_a)))
    regs k (inr above) = two.regs k (inr (omega (arith, above, d_high))) ∙ one.regs k (inr (omega (arith, above, b_high)))

-- ---- the next byte

-- it is in R3
pub record Peeks (text : List ℕ) (s t : Core) : Type 0 where
  pub byte : t.regs 3 ≡ first text
  pub small : first text < 256
  pub but : IsBut 3 3 s t

pub peeks_then : {rest : Piece} {Q : Post} (text : List ℕ) (n : ℕ) (s : Core) → IsLeft text n s → ((t : Core) → Peeks text s t → Owes LibraryAsks LibraryDoes rest Q t) → Owes LibraryAsks LibraryDoes (peeks rest) Q s
peeks_then {rest} {Q} text n s left next =
    let a = s.regs 2 in
    let t = put 3 0 s in
    set_then 0 refl refl
    (test_then (compared a (a + n)) refl (ap (compared a) left.end)
    (when_then
    (λ e.
    let some : a < a + n = ltb-true a (a + n) (sym (after-cc a (a + n) t) ∙ e) in
    let is = byte n (omega (arith, some)) left.bytes in
    load_byte_then a (s.mem a) (omega (arith, left.inside, some)) refl (omega (arith, left.inside, some)) (λ small.
    end_here (next _ (record {
      byte = is;
      small = omega (arith, small, is);
      but = record { regs = but_kept 3 3 _ s.regs 3 _ (omega arith) (omega arith) (but_kept 3 3 s.regs s.regs 3 _ (omega arith) (omega arith) (λ k other. refl)); mem = refl; out = refl; input = refl };
    }))))
    (λ e.
    let none : a + n ≤ a = ltb-false a (a + n) (sym (after-cc a (a + n) t) ∙ e) in
    let is = no_byte n (omega (arith, none)) left.bytes in
    next _ (record {
      byte = is;
      small = omega (arith, is);
      but = record { regs = but_kept 3 3 s.regs s.regs 3 _ (omega arith) (omega arith) (λ k other. refl); mem = refl; out = refl; input = refl };
    }))))
  where
    byte : (n : ℕ) → 0 < n → bytes_from s.mem (s.regs 2) n ≡ text → s.mem (s.regs 2) ≡ first text
    byte zero some is = absurd (omega (arith, some))
    byte (suc n) some is = ap first is

    no_byte : (n : ℕ) → n ≡ 0 → bytes_from s.mem (s.regs 2) n ≡ text → 0 ≡ first text
    no_byte zero none is = ap first is
    no_byte (suc n) none is = absurd (omega (arith, none))

-- ---- its digit

-- the digit's value is in R4
pub record Digits (b : ℕ) (s t : Core) : Type 0 where
  pub code : IsDigitCode b (t.regs 4)
  pub but : IsBut 3 4 s t

module _ {rest : Piece} {Q : Post} (b : ℕ) (small : b < 256) (s : Core) (next : (u : Core) → Digits b s u → Owes LibraryAsks LibraryDoes rest Q u) where
  abbrev Inside : Post
  Inside = on_falls (Owes LibraryAsks LibraryDoes rest Q) Q

  more : (f : ℕ → ℕ) (n x : ℕ) → 3 ≤ n → n ≤ 4 → KeepsBut 3 4 f s.regs → KeepsBut 3 4 (updated f n x) s.regs
  more f n x = but_kept 3 4 f s.regs n x

  -- a capital letter's, or that of a byte that is no letter
  capital_owes : (c : ℕ) (t : Core) → c < 256 → t.regs 3 ≡ c → IsBut 3 4 s t → (65 ≤ c → IsDigitCode b (c - 55)) → (c < 65 → IsDigitCode b (minus c 65)) → Owes LibraryAsks LibraryDoes takes_capital Inside t
  capital_owes c t few three but letter none =
      set_then (minus c 65) refl (ap (λ x. minus x 65) three)
      (test_then (compared c 65) refl (ap (λ x. compared x 65) three) (by_size (cases_lt c 65)))
    where
      by_size : (c < 65) ⊎ (65 ≤ c) → Owes LibraryAsks LibraryDoes (process_if CS ADD 4 4 (num 10) ⨾ Skip) Inside (flagged_by (compared c 65) (put 4 (minus c 65) t))
      by_size (inr great) =
          set_where_then (c - 55) (after-cs c 65 t ∙ le-leb 65 c great) refl (omega (arith, great, few))
          (end_here (next _ (record {
            code = letter great;
            but = record { regs = more _ 4 _ (omega arith) (omega arith) (more t.regs 4 _ (omega arith) (omega arith) but.regs); mem = but.mem; out = but.out; input = but.input };
          })))
      by_size (inl low) =
          skip_where_then (after-cs c 65 t ∙ lt-leb 65 c low)
          (end_here (next _ (record {
            code = none low;
            but = record { regs = more t.regs 4 _ (omega arith) (omega arith) but.regs; mem = but.mem; out = but.out; input = but.input };
          })))

  letter_owes : (t : Core) → t.regs 3 ≡ b → IsBut 3 4 s t → 10 ≤ minus b 48 → Owes LibraryAsks LibraryDoes takes_letter Inside t
  letter_owes t three but other = test_then (compared b 97) refl (ap (λ x. compared x 97) three) (by_size (cases_lt b 97))
    where
      by_size : (b < 97) ⊎ (97 ≤ b) → Owes LibraryAsks LibraryDoes (process_if CS SUB 3 3 (num 32) ⨾ takes_capital) Inside (flagged_by (compared b 97) t)
      by_size (inr great) =
          set_where_then (b - 32) (after-cs b 97 t ∙ le-leb 97 b great) refl (ap (λ x. minus x 32) three ∙ omega (arith, great, small))
          (capital_owes (b - 32) _ (omega (arith, small)) refl
          (record { regs = more t.regs 3 _ (omega arith) (omega arith) but.regs; mem = but.mem; out = but.out; input = but.input })
          (λ high. subst (IsDigitCode b) (let e : b - 87 ≡ b - 32 - 55 = omega arith in e) (code-small b great))
          (λ low. absurd (omega (arith, low, great))))
      by_size (inl below) =
          skip_where_then (after-cs b 97 t ∙ lt-leb 97 b below)
          (capital_owes b _ small three
          (record { regs = but.regs; mem = but.mem; out = but.out; input = but.input })
          (λ high. code-capital b high below)
          (λ low. code-none b low other))

  pub digit_then : s.regs 3 ≡ b → Owes LibraryAsks LibraryDoes (takes_digit rest) Q s
  digit_then three =
      let x = minus b 48 in
      let is = after-cs x 10 (put 4 x s) in
      set_then x refl (ap (λ y. minus y 48) three)
      (test_then (compared x 10) refl refl
      (when_then
      (λ e. letter_owes _ three (record { regs = kept x; mem = refl; out = refl; input = refl }) (leb-true 10 x (sym is ∙ e)))
      (λ e. next _ (record { code = code-decimal b small (leb-false 10 x (sym is ∙ e)); but = record { regs = kept x; mem = refl; out = refl; input = refl } }))))
    where
      kept : (x : ℕ) → KeepsBut 3 4 (updated s.regs 4 x) s.regs
      kept x = more s.regs 4 x (omega arith) (omega arith) (λ k other. refl)

-- ---- spaces

-- R2 is past them, and the next byte is in R3
pub record SkipsSpaces (text : List ℕ) (s t : Core) : Type 0 where
  pub count : ℕ
  pub left : IsLeft (after_spaces text) count t
  pub byte : t.regs 3 ≡ first (after_spaces text)
  pub small : first (after_spaces text) < 256
  pub but : IsBut 2 3 s t

-- n bytes are left
record Skipping (text : List ℕ) (s : Core) (n : ℕ) (t : Core) : Type 0 where
  rest : List ℕ
  same : after_spaces rest ≡ after_spaces text
  left : IsLeft rest n t
  but : IsBut 2 3 s t

module _ {rest : Piece} {Q : Post} (text : List ℕ) (s : Core) (next : (t : Core) → SkipsSpaces text s t → Owes LibraryAsks LibraryDoes rest Q t) where
  skip_test : (n : ℕ) (t : Core) → Skipping text s n t → Owes LibraryAsks LibraryDoes spaces_test (on_falls (Turn LibraryAsks LibraryDoes EQ steps_on rest Q (Skipping text s) n) Q) t
  skip_test n t c =
      peeks_then c.rest n t c.left (λ u p.
      let b = first c.rest in
      let is = after-eq b 32 u (omega (arith, p.small)) (omega arith) in
      let two : u.regs 2 ≡ t.regs 2 = p.but.regs 2 (inl (omega arith)) in
      let eight : u.regs 8 ≡ t.regs 8 = p.but.regs 8 (inr (omega arith)) in
      let but = but-after 2 3 2 3 3 3 s t u (omega arith) (omega arith) (omega arith) (omega arith) c.but p.but in
      test_then (compared b 32) refl (ap (λ x. compared x 32) p.byte)
      (end_here (record {
        more = λ e.
            let space : b ≡ 32 = eqb-true b 32 (sym is ∙ e) in
            let some = one-less c.rest n t c.left (omega (arith, space)) in
            let inside = c.left.inside in
            set_then (t.regs 2 + 1) refl (omega (arith, two, inside, some))
            (end_here (record {
              count = n - 1;
              less = omega (arith, some);
              inv = record {
                rest = drop 1 c.rest;
                same = sym (after-space c.rest space) ∙ c.same;
                left = left-next c.rest (drop 1 c.rest) n t _ refl c.left some refl eight p.but.mem;
                but = record {
                  regs = but_kept 2 3 u.regs s.regs 2 _ (omega arith) (omega arith) but.regs;
                  mem = but.mem;
                  out = but.out;
                  input = but.input;
                };
              };
            }));
        done = λ e.
            let other = eqb-false b 32 (sym is ∙ e) in
            let same : c.rest ≡ after_spaces text = sym (after-no_space c.rest other) ∙ c.same in
            next _ (record {
              count = n;
              left = left-same c.rest (after_spaces text) n t _ (sym same) c.left two eight p.but.mem;
              byte = p.byte ∙ ap first same;
              small = subst (λ r. first r < 256) same p.small;
              but = record { regs = but.regs; mem = but.mem; out = but.out; input = but.input };
            });
      })))

  pub spaces_then : (n : ℕ) → IsLeft text n s → Owes LibraryAsks LibraryDoes (skips_spaces rest) Q s
  spaces_then n left = while_then (Skipping text s) skip_test n (record { rest = text; same = refl; left = left; but = record { regs = λ k other. refl; mem = refl; out = refl; input = refl } })

-- ---- the sign

-- R2 is past it, and R5 says whether it is a minus sign
pub record TakesSign (text : List ℕ) (s t : Core) : Type 0 where
  pub count : ℕ
  pub left : IsLeft (after_sign text) count t
  pub sign : t.regs 5 ≡ from_bool (begins_with 45 text)
  pub but : IsBut 2 5 s t

module _ {rest : Piece} {Q : Post} (text : List ℕ) (n : ℕ) (s : Core) (left : IsLeft text n s) (byte : s.regs 3 ≡ first text) (small : first text < 256) (next : (t : Core) → TakesSign text s t → Owes LibraryAsks LibraryDoes rest Q t) where
  abbrev b : ℕ
  b = first text

  -- R2 is one more
  stepped : 0 < b → (s.regs 2 + 1) % 2 ^ 32 ≡ s.regs 2 + 1
  stepped some = let inside = left.inside in let more = one-less text n s left some in omega (arith, inside, more)

  kept : KeepsBut 2 5 (updated s.regs 5 0) s.regs
  kept = but_kept 2 5 s.regs s.regs 5 0 (omega arith) (omega arith) (λ k other. refl)

  minus_owes : b ≡ 45 → Owes LibraryAsks LibraryDoes (process_if EQ MOV 5 0 (num 1) ⨾ process_if EQ ADD 2 2 (num 1) ⨾ takes_plus rest) Q (flagged_by (compared b 45) (put 5 0 s))
  minus_owes is =
      let some : 0 < b = omega (arith, is) in
      let t = flagged_by (compared b 45) (put 5 0 s) in
      let met = after-eq b 45 (put 5 0 s) (omega (arith, small)) (omega arith) ∙ eq-eqb b 45 is in
      set_where_then 1 met refl refl
      (set_where_then (s.regs 2 + 1) met refl (stepped some)
      (test_then (compared b 43) refl (ap (λ x. compared x 43) byte)
      (skip_where_then (after-eq b 43 t (omega (arith, small)) (omega arith) ∙ ne_eqb b 43 (λ e. omega (arith, e, is)))
      (next _ (record {
        count = n - 1;
        left = left-next text (after_sign text) n s _ (after-minus text is) left (one-less text n s left some) refl refl refl;
        sign = sym (ap from_bool (begins-first 44 text ∙ eq-eqb b 45 is));
        but = record { regs = but_kept 2 5 _ s.regs 2 _ (omega arith) (omega arith) (but_kept 2 5 _ s.regs 5 _ (omega arith) (omega arith) kept); mem = refl; out = refl; input = refl };
      })))))

  plus_owes : (b ≡ 45 → ⊥) → (t : Core) → t.regs ≡ updated s.regs 5 0 → t.mem ≡ s.mem → t.out ≡ s.out → t.input ≡ s.input → Owes LibraryAsks LibraryDoes (takes_plus rest) Q t
  plus_owes no_minus t regs mem out input =
      let is = after-eq b 43 t (omega (arith, small)) (omega arith) in
      let two : t.regs 2 ≡ s.regs 2 = (λ i. regs i 2) in
      let five : t.regs 5 ≡ from_bool (begins_with 45 text) = (λ i. regs i 5) ∙ sym (ap from_bool (begins-first 44 text ∙ ne_eqb b 45 no_minus)) in
      let others : KeepsBut 2 5 t.regs s.regs = λ k other. (λ i. regs i k) ∙ kept k other in
      test_then (compared b 43) refl (ap (λ x. compared x 43) ((λ i. regs i 3) ∙ byte)) (by_plus (b == 43) refl is two five others)
    where
      by_plus : (c : Bool) → (b == 43) ≡ c → meets EQ (flagged_by (compared b 43) t) ≡ (b == 43) → t.regs 2 ≡ s.regs 2 → t.regs 5 ≡ from_bool (begins_with 45 text) → KeepsBut 2 5 t.regs s.regs
          → Owes LibraryAsks LibraryDoes (process_if EQ ADD 2 2 (num 1) ⨾ rest) Q (flagged_by (compared b 43) t)
      by_plus true e is two five others =
          let plus = eqb-true b 43 e in
          let some : 0 < b = omega (arith, plus) in
          set_where_then (s.regs 2 + 1) (is ∙ e) refl (ap (λ x. (x + 1) % 2 ^ 32) two ∙ stepped some)
          (next _ (record {
            count = n - 1;
            left = left-next text (after_sign text) n s _ (after-plus text plus) left (one-less text n s left some) refl (others 8 (inr (omega arith))) mem;
            sign = five;
            but = record { regs = but_kept 2 5 t.regs s.regs 2 _ (omega arith) (omega arith) others; mem = mem; out = out; input = input };
          }))
      by_plus false e is two five others =
          skip_where_then (is ∙ e)
          (next _ (record {
            count = n;
            left = left-same text (after_sign text) n s _ (after-no_sign text (eqb-false b 43 e) no_minus) left two (others 8 (inr (omega arith))) mem;
            sign = five;
            but = record { regs = others; mem = mem; out = out; input = input };
          }))

  pub sign_then : Owes LibraryAsks LibraryDoes (takes_sign rest) Q s
  sign_then = set_then 0 refl refl (test_then (compared b 45) refl (ap (λ x. compared x 45) byte) (by_minus (b == 45) refl))
    where
      by_minus : (c : Bool) → (b == 45) ≡ c → Owes LibraryAsks LibraryDoes (process_if EQ MOV 5 0 (num 1) ⨾ process_if EQ ADD 2 2 (num 1) ⨾ takes_plus rest) Q (flagged_by (compared b 45) (put 5 0 s))
      by_minus true e = minus_owes (eqb-true b 45 e)
      by_minus false e =
          let unmet = after-eq b 45 (put 5 0 s) (omega (arith, small)) (omega arith) ∙ e in
          skip_where_then unmet (skip_where_then unmet (plus_owes (eqb-false b 45 e) _ refl refl refl refl))
