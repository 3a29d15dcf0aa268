-- The parts of the routines that write numbers: powers, the number of digits, and the digits.
use Rattle.std.proofs.Common.{◌≡◌, ℕ, zero, suc, ◌+◌, ◌*◌, ◌/◌, ◌%◌, ◌^◌, ◌<◌, ◌≤◌, Bool, true, false, nat_le, if◌then◌else◌, List, [], ◌∷◌, ◌++◌, length, map, refl, sym, ap, subst, ◌∙◌, arith, append_assoc, length-append}
use Rattle.std.specs.Int.Digits.{digits_of}
use Rattle.std.proofs.lemmas.Bool.{leb-true, leb-false, lt-ltb, le-ltb}
use Rattle.std.proofs.lemmas.List.{map-append}
use Rattle.std.proofs.lemmas.Nat.{mod_below}
use Rattle.arm_isa.specs.Immediates.{immediate_value}
use Rattle.arm_isa.specs.Numbers.{CS}
use Rattle.arm2_alu.proofs.RegisterLaws.{updated}
use Rattle.arm2_alu.proofs.ValueLaws.{compared, minus}
use Rattle.arm_core.specs.Core.{Core, put, meets}
use Rattle.arm_core.specs.Effects.{flagged_by}
use Rattle.arm_core.proofs.Comparisons.{after-cs}
use Rattle.arm_core.proofs.MemoryWords.{updated-other}
use Rattle.bv_num.specs.Digits.{digit_byte}
use Rattle.code_frag.specs.Demands.{Out, Post, on_falls, Owes}
use Rattle.code_frag.specs.Instructions.{num, reg, process_if, add, sub, cmp, write_byte}
use Rattle.code_frag.specs.Language.{Piece, Skip, ◌⨾◌}
use Rattle.code_frag.proofs.Rules.{Less, Turn, end_here, set_then, test_then, set_where_then, skip_where_then, when_then, while_then, write_then}
use Rattle.runtime_lib.specs.Digits.{Power, sum_with, power_value, adds_each, takes_power, counts, writes_digit, takes_digit, writes}
use Rattle.std.proofs.Math.Nat.{mod-le}
use Rattle.runtime_lib.proofs.Leading.{leads}
use Rattle.runtime_lib.proofs.DigitLaws.{Descend, sum_with-le, reached, passed, passed_rest, rest_is}

-- ---- a power

-- R2 has a number, and all else is as it was
record TakesPower (v : ℕ) (s t : Core) : Type 0 where
  two : t.regs 2 ≡ v
  kept : (k : ℕ) → (k ≡ 2 → ⊥) → t.regs k ≡ s.regs k
  mem : t.mem ≡ s.mem
  out : t.out ≡ s.out
  input : t.input ≡ s.input

module _ {Asks : ℕ → Core → Type 0} {Does : ℕ → Core → Out → Core → Type 0} {rest : Piece} {Q : Post} (s : Core) where
  adds_then : (fields : List ℕ) (x : ℕ) (t : Core) → TakesPower x s t → sum_with x fields < 2 ^ 32 → ((u : Core) → TakesPower (sum_with x fields) s u → Owes Asks Does rest Q u) → Owes Asks Does (adds_each fields rest) Q t
  adds_then [] x t taken small next = next t taken
  adds_then (field ∷ fields) x t taken small next =
      let y = x + immediate_value field in
      let most = sum_with-le y fields in
      set_then y refl ((λ i. (taken.two i + immediate_value field) % 2 ^ 32) ∙ omega (arith, most, small))
      (adds_then fields y (put 2 y t) (record { two = refl; kept = λ k other. updated-other t.regs 2 y k other ∙ taken.kept k other; mem = taken.mem; out = taken.out; input = taken.input }) small next)

  takes_power_then : (p : Power) → power_value p < 2 ^ 32 → ((u : Core) → TakesPower (power_value p) s u → Owes Asks Does rest Q u) → Owes Asks Does (takes_power p rest) Q s
  takes_power_then p small next =
      let x = immediate_value p.first in
      set_then x refl refl
      (adds_then p.more x (put 2 x s) (record { two = refl; kept = λ k other. updated-other s.regs 2 x k other; mem = refl; out = refl; input = refl }) small next)

-- ---- the number of digits

-- R6 has a number and that of the digits of the number in R7, down to a power; further powers are left
pub record Counting (base n start above left : ℕ) (s t : Core) : Type 0 where
  pub size : t.regs 6 ≡ start + length (digits_of base (n / above))
  pub room : t.regs 6 + left < 256
  pub number : t.regs 7 ≡ n
  pub kept : (k : ℕ) → (k ≡ 2 → ⊥) → (k ≡ 6 → ⊥) → t.regs k ≡ s.regs k
  pub mem : t.mem ≡ s.mem
  pub out : t.out ≡ s.out
  pub input : t.input ≡ s.input

module _ {Asks : ℕ → Core → Type 0} {Does : ℕ → Core → Out → Core → Type 0} {rest : Piece} {Q : Post} (base n start : ℕ) (least : 2 ≤ base) (s : Core) where
  pub counts_then : (ps : List Power) (above : ℕ) (t : Core) → Descend base above ps → Counting base n start above (length ps) s t → ((u : Core) → Counting base n start base 0 s u → Owes Asks Does rest Q u)
      → Owes Asks Does (counts ps rest) Q t
  counts_then [] above t descend c next = next t (subst (λ k. Counting base n start k 0 s t) descend c)
  counts_then (p ∷ ps) above t descend c next =
      let v = power_value p in
      takes_power_then t p descend.2
      (λ u taken.
      let same : u.regs 7 ≡ n = taken.kept 7 (λ e. omega (arith, e)) ∙ c.number in
      let w = flagged_by (compared n v) u in
      let over = after-cs n v u in
      test_then (compared n v) refl (λ i. compared (same i) (taken.two i))
      (by_reach (λ x more. counts_then ps v x descend.3 more next) u taken w refl refl refl refl (nat_le v n) refl over))
    where
      by_reach : ((x : Core) → Counting base n start (power_value p) (length ps) s x → Owes Asks Does (counts ps rest) Q x) → (u : Core) → TakesPower (power_value p) t u → (w : Core) → w.regs ≡ u.regs → w.mem ≡ u.mem → w.out ≡ u.out → w.input ≡ u.input → (b : Bool) → nat_le (power_value p) n ≡ b → meets CS w ≡ nat_le (power_value p) n
          → Owes Asks Does (process_if CS 4 6 6 (num 1) ⨾ counts ps rest) Q w
      by_reach again u taken w regs mem out input true is flag =
          let v = power_value p in
          let six : w.regs 6 ≡ t.regs 6 = (λ i. regs i 6) ∙ taken.kept 6 (λ e. omega (arith, e)) in
          let more = reached base v above n least descend.1 descend.0 (leb-true v n is) in
          set_where_then (t.regs 6 + 1) (flag ∙ is) refl ((λ i. (six i + 1) % 2 ^ 32) ∙ omega (arith, c.room))
          (again (put 6 (t.regs 6 + 1) w)
          (record {
            size = omega (arith, c.size, ap length more, length-append (digits_of base (n / above)) (n / v % base ∷ []));
            room = omega (arith, c.room);
            number = (λ i. regs i 7) ∙ taken.kept 7 (λ e. omega (arith, e)) ∙ c.number;
            kept = λ k two other. updated-other w.regs 6 (t.regs 6 + 1) k other ∙ (λ i. regs i k) ∙ taken.kept k two ∙ c.kept k two other;
            mem = mem ∙ taken.mem ∙ c.mem;
            out = out ∙ taken.out ∙ c.out;
            input = input ∙ taken.input ∙ c.input;
          }))
      by_reach again u taken w regs mem out input false is flag =
          let v = power_value p in
          let six : w.regs 6 ≡ t.regs 6 = (λ i. regs i 6) ∙ taken.kept 6 (λ e. omega (arith, e)) in
          let none = passed base v above n least descend.1 descend.0 (leb-false v n is) in
          skip_where_then (flag ∙ is)
          (again w
          (record {
            size = six ∙ c.size ∙ ap (λ ds. start + length ds) (sym none);
            room = omega (arith, c.room, six);
            number = (λ i. regs i 7) ∙ taken.kept 7 (λ e. omega (arith, e)) ∙ c.number;
            kept = λ k two other. (λ i. regs i k) ∙ taken.kept k two ∙ c.kept k two other;
            mem = mem ∙ taken.mem ∙ c.mem;
            out = out ∙ taken.out ∙ c.out;
            input = input ∙ taken.input ∙ c.input;
          }))

-- ---- a digit

-- a digit is written, and all but R0 is as it was
pub record WritesDigit (d : ℕ) (s t : Core) : Type 0 where
  pub out : t.out ≡ s.out ++ digit_byte d ∷ []
  pub kept : (k : ℕ) → (k ≡ 0 → ⊥) → t.regs k ≡ s.regs k
  pub mem : t.mem ≡ s.mem
  pub input : t.input ≡ s.input

digit_low : (d : ℕ) → d < 10 → digit_byte d ≡ 48 + d
digit_low d small = ap (λ b. if b then 48 + d else 55 + d) (lt-ltb d 10 small)

digit_high : (d : ℕ) → 10 ≤ d → digit_byte d ≡ 55 + d
digit_high d great = ap (λ b. if b then 48 + d else 55 + d) (le-ltb d 10 great)

module _ {Asks : ℕ → Core → Type 0} {Does : ℕ → Core → Out → Core → Type 0} (d : ℕ) (small : d < 16) (s : Core) (Q : Post) where
  pub writes_digit_owes : s.regs 0 ≡ 48 + d → Owes Asks Does writes_digit (on_falls (WritesDigit d s) Q) s
  writes_digit_owes is =
      let x = 48 + d in
      test_then (compared x 58) refl (λ i. compared (is i) 58)
      (by_size (flagged_by (compared x 58) s) is refl refl refl refl (nat_le 58 x) refl (after-cs x 58 s))
    where
      by_size : (t : Core) → t.regs 0 ≡ 48 + d → t.regs ≡ s.regs → t.mem ≡ s.mem → t.out ≡ s.out → t.input ≡ s.input → (b : Bool) → nat_le 58 (48 + d) ≡ b → meets CS t ≡ nat_le 58 (48 + d)
          → Owes Asks Does (process_if CS 4 0 0 (num 7) ⨾ write_byte ⨾ Skip) (on_falls (WritesDigit d s) Q) t
      by_size t byte regs mem out input true is flag =
          let y = 55 + d in
          set_where_then y (flag ∙ is) refl ((λ i. (byte i + 7) % 2 ^ 32) ∙ omega (arith, small))
          (write_then y (omega (arith, small))
          (end_here (record {
            out = (λ i. out i ++ sym (digit_high d (omega (arith, leb-true 58 (48 + d) is))) i ∷ []);
            kept = λ k other. updated-other t.regs 0 y k other ∙ (λ i. regs i k);
            mem = mem;
            input = input;
          })))
      by_size t byte regs mem out input false is flag =
          let y = 48 + d in
          skip_where_then (flag ∙ is)
          (write_then y (ap (λ x. x % 2 ^ 8) byte ∙ omega (arith, small))
          (end_here (record {
            out = (λ i. out i ++ sym (digit_low d (omega (arith, leb-false 58 (48 + d) is))) i ∷ []);
            kept = λ k other. (λ i. regs i k);
            mem = mem;
            input = input;
          })))

-- how far a digit has come by subtraction: k times more the power goes into what is left
record Subtracting (v d rest : ℕ) (s : Core) (k : ℕ) (t : Core) : Type 0 where
  left : t.regs 4 ≡ k * v + rest
  whole : k * v + rest < 2 ^ 32
  below : rest < v
  power : t.regs 2 ≡ v
  byte : t.regs 0 + k ≡ 48 + d
  kept : (k : ℕ) → 7 ≤ k → t.regs k ≡ s.regs k
  mem : t.mem ≡ s.mem
  out : t.out ≡ s.out
  input : t.input ≡ s.input

-- a digit is taken from R4 and written
record TakesDigit (d rest : ℕ) (s t : Core) : Type 0 where
  left : t.regs 4 ≡ rest
  kept : (k : ℕ) → 7 ≤ k → t.regs k ≡ s.regs k
  out : t.out ≡ s.out ++ digit_byte d ∷ []
  mem : t.mem ≡ s.mem
  input : t.input ≡ s.input

abbrev subtraction : Piece
subtraction = sub 4 4 (reg 2) ⨾ add 0 0 (num 1) ⨾ Skip

module _ {Asks : ℕ → Core → Type 0} {Does : ℕ → Core → Out → Core → Type 0} (v d rest : ℕ) (small : d < 16) (s : Core) (Q : Post) where
  subtracts : (k : ℕ) (t : Core) → Subtracting v d rest s (suc k) t → Owes Asks Does subtraction (on_falls (Less (Subtracting v d rest s) (suc k)) (on_falls (TakesDigit d rest s) Q)) t
  subtracts k t c =
      let x = k * v + rest in
      let y = t.regs 0 + 1 in
      set_then x refl ((λ i. minus (c.left i) (c.power i)) ∙ omega (arith, c.whole))
      (set_then y refl (omega (arith, c.byte, small))
      (end_here (record {
        count = k;
        less = omega arith;
        inv = record {
          left = refl;
          whole = omega (arith, c.whole);
          below = c.below;
          power = c.power;
          byte = omega (arith, c.byte);
          kept = λ n high. updated-other (updated t.regs 4 x) 0 y n (λ e. omega (arith, e, high)) ∙ updated-other t.regs 4 x n (λ e. omega (arith, e, high)) ∙ c.kept n high;
          mem = c.mem;
          out = c.out;
          input = c.input;
        };
      })))

  written : (t : Core) → Subtracting v d rest s 0 t → Owes Asks Does writes_digit (on_falls (TakesDigit d rest s) Q) t
  written t c =
      leads (WritesDigit d t) (TakesDigit d rest s) Q
      (λ u w. record {
        left = w.kept 4 (λ e. omega (arith, e)) ∙ c.left ∙ omega arith;
        kept = λ k high. w.kept k (λ e. omega (arith, e, high)) ∙ c.kept k high;
        out = w.out ∙ ap (λ l. l ++ digit_byte d ∷ []) c.out;
        mem = w.mem ∙ c.mem;
        input = w.input ∙ c.input;
      })
      (writes_digit_owes d small t Q (omega (arith, c.byte)))

  turns : (k : ℕ) (t : Core) → Subtracting v d rest s k t → Owes Asks Does (cmp 4 (reg 2) ⨾ Skip) (on_falls (Turn Asks Does CS subtraction writes_digit (on_falls (TakesDigit d rest s) Q) (Subtracting v d rest s) k) (on_falls (TakesDigit d rest s) Q)) t
  turns k t c =
      let x = k * v + rest in
      let u = flagged_by (compared x v) t in
      let there : Subtracting v d rest s k u = record { left = c.left; whole = c.whole; below = c.below; power = c.power; byte = c.byte; kept = c.kept; mem = c.mem; out = c.out; input = c.input } in
      test_then (compared x v) refl (λ i. compared (c.left i) (c.power i))
      (end_here (by_left k u there (after-cs x v t)))
    where
      by_left : (k : ℕ) (u : Core) → Subtracting v d rest s k u → meets CS u ≡ nat_le v (k * v + rest) → Turn Asks Does CS subtraction writes_digit (on_falls (TakesDigit d rest s) Q) (Subtracting v d rest s) k u
      by_left zero u c flag = record {
        more = λ e. absurd (omega (arith, leb-true v (0 * v + rest) (sym flag ∙ e), c.below));
        done = λ e. written u c;
      }
      by_left (suc k) u c flag = record {
        more = λ e. subtracts k u c;
        done = λ e. absurd (omega (arith, leb-false v (suc k * v + rest) (sym flag ∙ e)));
      }

  takes_digit_owes : s.regs 2 ≡ v → s.regs 4 ≡ d * v + rest → d * v + rest < 2 ^ 32 → rest < v → Owes Asks Does takes_digit (on_falls (TakesDigit d rest s) Q) s
  takes_digit_owes power left whole below =
      set_then 48 refl refl
      (while_then (Subtracting v d rest s) turns d
      (record {
        left = left;
        whole = whole;
        below = below;
        power = power;
        byte = refl;
        kept = λ k high. updated-other s.regs 0 48 k (λ e. omega (arith, e, high));
        mem = refl;
        out = refl;
        input = refl;
      }))

-- ---- the digits

-- the digits of the number in R7 are written down to a power, and R4 has what is left
pub record Writing (base n above : ℕ) (s t : Core) : Type 0 where
  pub number : t.regs 7 ≡ n
  pub left : t.regs 4 ≡ n % above
  pub out : t.out ≡ s.out ++ map digit_byte (digits_of base (n / above))
  pub kept : (k : ℕ) → 8 ≤ k → t.regs k ≡ s.regs k
  pub mem : t.mem ≡ s.mem
  pub input : t.input ≡ s.input

module _ (base n : ℕ) (least : 2 ≤ base) (s : Core) where
  -- one more digit
  one_more : (above v : ℕ) → v * base ≡ above → 0 < v → v ≤ n → (t u w : Core) → Writing base n above s t → TakesPower v t u → TakesDigit (n / v % base) (n % v) u w → Writing base n v s w
  one_more above v is some great t u w c taken d =
      let digit = n / v % base in
      let front = digits_of base (n / above) in
      let shown : map digit_byte front ++ digit_byte digit ∷ [] ≡ map digit_byte (digits_of base (n / v)) =
      sym (map-append digit_byte front (digit ∷ [])) ∙ ap (map digit_byte) (sym (reached base v above n least some is great)) in
      record {
        number = d.kept 7 (omega arith) ∙ taken.kept 7 (λ e. omega (arith, e)) ∙ c.number;
        left = d.left;
        out = d.out ∙ ap (λ l. l ++ digit_byte digit ∷ []) (taken.out ∙ c.out) ∙ append_assoc s.out (map digit_byte front) (digit_byte digit ∷ []) ∙ ap (λ l. s.out ++ l) shown;
        kept = λ k high. d.kept k (omega (arith, high)) ∙ taken.kept k (λ e. omega (arith, e, high)) ∙ c.kept k high;
        mem = d.mem ∙ taken.mem ∙ c.mem;
        input = d.input ∙ taken.input ∙ c.input;
      }

  -- or none
  none_more : (above v : ℕ) → v * base ≡ above → 0 < v → n < v → (t u : Core) → Writing base n above s t → TakesPower v t u → Writing base n v s u
  none_more above v is some low t u c taken = record {
    number = taken.kept 7 (λ e. omega (arith, e)) ∙ c.number;
    left = taken.kept 4 (λ e. omega (arith, e)) ∙ c.left ∙ passed_rest base v above n least some is low;
    out = taken.out ∙ c.out ∙ ap (λ ds. s.out ++ map digit_byte ds) (sym (passed base v above n least some is low));
    kept = λ k high. taken.kept k (λ e. omega (arith, e, high)) ∙ c.kept k high;
    mem = taken.mem ∙ c.mem;
    input = taken.input ∙ c.input;
  }

module _ {Asks : ℕ → Core → Type 0} {Does : ℕ → Core → Out → Core → Type 0} {rest : Piece} (base n : ℕ) (least : 2 ≤ base) (greatest : base ≤ 16) (small : n < 2 ^ 32) (s : Core) (Q : Post) where
  pub writes_then : (ps : List Power) (above : ℕ) (t : Core) → Descend base above ps → Writing base n above s t → ((u : Core) → Writing base n base s u → Owes Asks Does rest Q u) → Owes Asks Does (writes ps rest) Q t
  writes_then [] above t descend c next = next t (subst (λ k. Writing base n k s t) descend c)
  writes_then (p ∷ ps) above t descend c next =
      let v = power_value p in
      let digit = n / v % base in
      takes_power_then t p descend.2
      (λ u taken.
      let same : u.regs 7 ≡ n = taken.kept 7 (λ e. omega (arith, e)) ∙ c.number in
      let left : u.regs 4 ≡ digit * v + n % v = taken.kept 4 (λ e. omega (arith, e)) ∙ c.left ∙ rest_is base v above n least descend.1 descend.0 in
      let w = flagged_by (compared n v) u in
      let tagged : TakesPower v t w = record { two = taken.two; kept = taken.kept; mem = taken.mem; out = taken.out; input = taken.input } in
      let over = after-cs n v u in
      let below = mod_below (n / v) base (omega (arith, least)) in
      test_then (compared n v) refl (λ i. compared (same i) (taken.two i))
      (when_then
      (λ e.
      leads (TakesDigit digit (n % v) w) _ Q
      (λ x d. writes_then ps v x descend.3 (one_more base n least s above v descend.0 descend.1 (leb-true v n (sym over ∙ e)) t w x c tagged d) next)
      (takes_digit_owes v digit (n % v) (omega (arith, below, greatest)) w Q taken.two left (omega (arith, rest_is base v above n least descend.1 descend.0, mod-le n above, small)) (mod_below n v descend.1)))
      (λ e. writes_then ps v w descend.3 (none_more base n least s above v descend.0 descend.1 (leb-false v n (sym over ∙ e)) t w c tagged) next)))
