-- NEXT.
use Rattle.std.proofs.Common.{◌≡◌, ℕ, zero, suc, ◌+◌, ◌-◌, ◌%◌, ◌^◌, ◌<◌, ◌≤◌, ◌==◌, ◌⊎◌, inl, inr, not, Bool, true, false, if◌then◌else◌, ℤ, ◌+ℤ◌, Option, None, Some, Ok, Err, refl, sym, ap, subst, ◌∙◌, arith, leb-true, leb-false, le-leb}
use Rattle.std.specs.Int.{w32, cast_signed}
use Rattle.std.specs.Int.Signed.{lt_z}
use Rattle.std.proofs.lemmas.Bool.{ne_eqb, not-true, not-false, false≢true, true≢false, lt-leb, le-ltb}
use Rattle.bv_num.specs.Operation.{too_big, in_range, is_negative}
use Rattle.bas_value.specs.Errors.{no_for, other_for}
use Rattle.arm_isa.specs.Numbers.{MOV, EQ, CC, LT}
use Rattle.arm2_alu.specs.declared.operations.Computed.{Computed}
use Rattle.arm2_alu.specs.Operations.{is_signed_word}
use Rattle.arm2_alu.proofs.RegisterLaws.{updated}
use Rattle.arm2_alu.proofs.SignedLaws.{sum-exact}
use Rattle.arm2_alu.proofs.ValueLaws.{compared, summed}
use Rattle.arm_core.specs.Core.{Core, put, word, put_word, meets, IsGood}
use Rattle.arm_core.specs.Effects.{flagged_by}
use Rattle.arm_core.proofs.Comparisons.{after-eq, after-cs, after-cc, after-lt}
use Rattle.arm_core.proofs.MemoryWords.{byte-put_other, word-put_same, word-put_other, word-same}
use Rattle.code_frag.specs.Demands.{Falls, Post, on_falls, at_return, Owes}
use Rattle.code_frag.specs.Instructions.{num, process_if, mov, cmp}
use Rattle.code_frag.specs.Language.{Skip, If, ◌⨾◌}
use Rattle.code_frag.specs.Regions.{residents_start, opened_count_at, cells_start, arrays_start}
use Rattle.code_frag.proofs.Rules.{end_here, set_then, load_then, store_then, test_then, set_flags_then, if_then, when_then, set_where_then, skip_where_then}
use Rattle.runtime_lib.specs.Entries.{LibraryAsks, LibraryDoes}
use Rattle.runtime_lib.specs.Loops.{turns_none, turns_found, compares_limit, leads_on, stores_number, turning}
use Rattle.runtime_lib.specs.Opened.{turning_error, most_entries, entry_at, kind_of, limit_of, step_of, code_of, opened_count, latest, IsApart, IsVariable, variable_size, signed_at, signed_limit, signed_step, goes_on, Fails, CanTurn, TurnsEntry, TurnsBy, Turned, TurnsLatest}
use Rattle.runtime_lib.proofs.EntryParts.{KeepsOthers, others_kept, Others, comes-back, part-apart, count_address, count_data, word_below}
use Rattle.runtime_lib.proofs.EntrySearch.{looks-named, looks-any, IsFound, search_then}
use Rattle.runtime_lib.proofs.RangeLaws.{in_range-word, in_range-no_word}
use Rattle.runtime_lib.proofs.TurningLaws.{below-zero, ends-down, ends-up}

-- ---- variables

-- what each variable's address is
pub record Variable (a : ℕ) : Type 0 where
  pub aligned : a % 4 ≡ 0
  pub low : residents_start ≤ a
  pub high : a + variable_size a ≤ arrays_start
  pub apart : (a + variable_size a ≤ opened_count_at) ⊎ (opened_count_at + 4 ≤ a)
  pub four : 4 ≤ variable_size a
  pub cell : cells_start ≤ a → variable_size a ≡ 8

variable-is : (a : ℕ) → IsVariable a → Variable a
variable-is a (inl (aligned, low, high)) =
    let small : variable_size a ≡ 4 = ap (λ b. if b then 8 else 4) (lt-leb cells_start a (omega (arith, high))) in
    record {
      aligned = aligned;
      low = low;
      high = omega (arith, small, high);
      apart = inl (omega (arith, small, high, aligned));
      four = omega (arith, small);
      cell = λ above. absurd (omega (arith, above, high));
    }
variable-is a (inr (aligned, low, high)) =
    let large : variable_size a ≡ 8 = ap (λ b. if b then 8 else 4) (le-leb cells_start a low) in
    record {
      aligned = omega (arith, aligned);
      low = omega (arith, low);
      high = omega (arith, large, high, aligned);
      apart = inr (omega (arith, low));
      four = omega (arith, large);
      cell = λ above. large;
    }

-- ---- the routine

module _ (s : Core) (good : IsGood s) (ask : CanTurn s) where
  abbrev Goal : Post
  Goal = at_return (TurnsLatest s) s

  abbrev what : ℕ
  what = s.regs 1

  abbrev After : Post
  After = on_falls (Owes LibraryAsks LibraryDoes Skip Goal) Goal

  -- its end
  turns : (t : Core) (found : Option ℕ) → latest s.mem what ≡ found → Others s t → Turned found s t → Goal Falls t
  turns t found is others turned = (record { comes_back = comes-back s t others; turned = subst (λ f. Turned f s t) (sym is) turned }, others.regs 14 (inr (omega arith)))

  -- ---- no FOR is found

  -- the error is by a FOR of any variable
  second_owes : (t : Core) (any : Option ℕ) → latest s.mem what ≡ None → latest s.mem zero ≡ any → IsFound any t → Others s t → t.mem ≡ s.mem
      → Owes LibraryAsks LibraryDoes (cmp 5 (num 0) ⨾ mov 1 (num other_for) ⨾ process_if EQ MOV 1 0 (num no_for) ⨾ Skip) After t
  second_owes t None none is at others mem =
      test_then (compared 0 0) refl (ap (λ x. compared x 0) at)
      (set_then other_for refl refl
      (set_where_then no_for refl refl refl
      (end_here (end_here (turns _ None none
      (record { regs = others_kept _ s.regs 1 _ (omega arith) (omega arith) (others_kept t.regs s.regs 1 _ (omega arith) (omega arith) others.regs); out = others.out; input = others.input })
      (record { error_is = ap turning_error (sym is); mem = mem }))))))
  second_owes t (Some k) none is at others mem =
      let some : (k + 1 == 0) ≡ false = ne_eqb (k + 1) 0 (λ z. omega (arith, z)) in
      test_then (compared (k + 1) 0) refl (ap (λ x. compared x 0) at.0)
      (set_then other_for refl refl
      (skip_where_then (after-eq (k + 1) 0 t (omega (arith, at.2)) (omega arith) ∙ some)
      (end_here (end_here (turns _ None none
      (record { regs = others_kept t.regs s.regs 1 _ (omega arith) (omega arith) others.regs; out = others.out; input = others.input })
      (record { error_is = ap turning_error (sym is); mem = mem }))))))

  none_owes : (t : Core) → latest s.mem what ≡ None → Others s t → t.mem ≡ s.mem → Owes LibraryAsks LibraryDoes turns_none After (flagged_by (compared 0 0) t)
  none_owes t none others mem =
      let base : t.regs 11 ≡ residents_start = others.regs 11 (inr (omega arith)) ∙ ask.entries.base in
      let u = put 4 (2 ^ 32 - residents_start) (put 1 residents_start (flagged_by (compared 0 0) t)) in
      set_then residents_start refl base
      (set_then (2 ^ 32 - residents_start) refl (ap (λ x. (0 + (2 ^ 32 - x)) % 2 ^ 32) base)
      (search_then u zero base (subst (λ m. opened_count m ≤ most_entries) (sym mem) ask.entries.few) looks-any (λ v g.
      second_owes v g.found none (ap (λ m. latest m zero) (sym mem) ∙ g.found_is) g.at
      (record {
        regs = λ k apart. g.others.regs k apart ∙ others_kept _ t.regs 4 _ (omega arith) (omega arith) (others_kept t.regs t.regs 1 _ (omega arith) (omega arith) (λ j is. refl)) k apart ∙ others.regs k apart;
        out = g.others.out ∙ others.out;
        input = g.others.input ∙ others.input;
      })
      (g.mem ∙ mem))))

  -- ---- a FOR is found

  module _ (k : ℕ) (is : latest s.mem what ≡ Some k) (few : k < most_entries) where
    abbrev v : ℕ
    v = kind_of s.mem k

    abbrev l : ℕ
    l = limit_of s.mem k

    abbrev p : ℕ
    p = step_of s.mem k

    -- where the words of the entry are in registers
    record Loaded (t : Core) : Type 0 where
      count : t.regs 5 ≡ k + 1
      place : t.regs 6 ≡ entry_at k + 32
      variable : t.regs 1 ≡ v
      step : t.regs 3 ≡ p
      limit : t.regs 4 ≡ l
      others : Others s t

    -- and the number is in R2 and stored
    record Stored (y : ℕ) (t : Core) : Type 0 where
      loaded : Loaded t
      number : t.regs 2 ≡ y
      value : word t.mem v ≡ y
      made : cells_start ≤ v → word t.mem (v + 4) ≡ 1
      mem : (a : ℕ) → IsApart v (variable_size v) a → t.mem a ≡ s.mem a

    abbrev z : ℤ
    z = signed_at s.mem v +ℤ signed_step s.mem k

    abbrev on : ℤ → Bool
    on number = goes_on (signed_step s.mem k) (signed_limit s.mem k) number

    abbrev Inner : Post
    Inner = on_falls (Owes LibraryAsks LibraryDoes Skip After) After

    var : Variable v
    var = variable-is v (ask.variable k is)

    -- what a turn leaves
    turned : (t : Core) → in_range z ≡ Ok z → Others s t → TurnsEntry k z s t → Goal Falls t
    turned t fits others entry = turns t (Some k) is others (subst (λ r. TurnsBy k r s t) (sym fits) entry)

    overflows : (t : Core) → in_range z ≡ Err too_big → Others s t → Fails too_big s t → Goal Falls t
    overflows t over others fails = turns t (Some k) is others (subst (λ r. TurnsBy k r s t) (sym over) fails)

    entry_of : (b : Bool) (y : ℕ) (t u : Core) → Stored y t → on z ≡ b → cast_signed w32 y ≡ z → u.regs 1 ≡ 0 → u.regs 2 ≡ (if b then code_of s.mem k else 0) → u.mem ≡ put_word t.mem opened_count_at (if b then k + 1 else k)
        → (if b then k + 1 else k) < 2 ^ 32 → TurnsEntry k z s u
    entry_of b y t u st goes is one two mem small =
        let c : ℕ = if b then k + 1 else k in
        record {
          no_error = one;
          variable = ap (cast_signed w32) (ap (λ m. word m v) mem ∙ word-put_other t.mem opened_count_at c v (near var.apart) ∙ st.value) ∙ is;
          made = λ above. ap (λ m. word m (v + 4)) mem ∙ word-put_other t.mem opened_count_at c (v + 4) (far (var.cell above) var.apart) ∙ st.made above;
          code = two ∙ ap (λ x. if x then code_of s.mem k else 0) (sym goes);
          count = ap (λ m. word m opened_count_at) mem ∙ word-put_same t.mem opened_count_at c small ∙ ap (λ x. if x then k + 1 else k) (sym goes);
          mem = λ a apart other. (λ i. mem i a) ∙ byte-put_other t.mem opened_count_at c a apart ∙ st.mem a other;
        }
      where
        near : (v + variable_size v ≤ opened_count_at) ⊎ (opened_count_at + 4 ≤ v) → (v + 4 ≤ opened_count_at) ⊎ (opened_count_at + 4 ≤ v)
        near (inl below) = inl (omega (arith, below, var.four))
        near (inr above) = inr above

        far : variable_size v ≡ 8 → (v + variable_size v ≤ opened_count_at) ⊎ (opened_count_at + 4 ≤ v) → (v + 4 + 4 ≤ opened_count_at) ⊎ (opened_count_at + 4 ≤ v + 4)
        far size (inl below) = inl (omega (arith, below, size))
        far size (inr above) = inr (omega (arith, above))

    code_kept : (y : ℕ) (t : Core) → Stored y t → word t.mem (entry_at k + 16) ≡ code_of s.mem k
    code_kept y t st = word-same t.mem s.mem (entry_at k + 16) (λ a low high. st.mem a (inr (omega (arith, low, var.high))))

    -- where the loop goes on, and where it ends
    leads_owes : (b : Bool) (y : ℕ) (t : Core) → Stored y t → cast_signed w32 y ≡ z → in_range z ≡ Ok z → on z ≡ b → meets LT t ≡ not b → Owes LibraryAsks LibraryDoes leads_on Inner t
    leads_owes true y t st is fits goes flag =
        let ld = st.loaded in
        let code = code_of s.mem k in
        let base : t.regs 11 ≡ residents_start = ld.others.regs 11 (inr (omega arith)) ∙ ask.entries.base in
        skip_where_then flag
        (load_then (entry_at k + 16) code (word_below (t.regs 6) k 16 ld.place few (omega arith)) (code_kept y t st) (omega arith) (omega (arith, few)) (λ bound.
        skip_where_then flag
        (store_then opened_count_at (k + 1) (count_address (t.regs 11) base) ld.count refl count_data
        (set_then 0 refl refl
        (end_here (end_here (end_here (turned _ fits
        (record { regs = others_kept _ s.regs 1 _ (omega arith) (omega arith) (others_kept t.regs s.regs 2 _ (omega arith) (omega arith) ld.others.regs); out = ld.others.out; input = ld.others.input })
        (entry_of true y t _ st goes is refl refl refl (omega (arith, few)))))))))))
    leads_owes false y t st is fits goes flag =
        let ld = st.loaded in
        let code = code_of s.mem k in
        let base : t.regs 11 ≡ residents_start = ld.others.regs 11 (inr (omega arith)) ∙ ask.entries.base in
        set_where_then k flag refl (omega (arith, ld.count, few))
        (load_then (entry_at k + 16) code (word_below (t.regs 6) k 16 ld.place few (omega arith)) (code_kept y t st) (omega arith) (omega (arith, few)) (λ bound.
        set_where_then 0 flag refl refl
        (store_then opened_count_at k (count_address (t.regs 11) base) refl refl count_data
        (set_then 0 refl refl
        (end_here (end_here (end_here (turned _ fits
        (record {
          regs = others_kept _ s.regs 1 _ (omega arith) (omega arith) (others_kept _ s.regs 2 _ (omega arith) (omega arith) (others_kept _ s.regs 2 _ (omega arith) (omega arith) (others_kept t.regs s.regs 5 _ (omega arith) (omega arith) ld.others.regs)));
          out = ld.others.out;
          input = ld.others.input;
        })
        (entry_of false y t _ st goes is refl refl refl (omega (arith, few)))))))))))

    -- the number is compared with the limit
    module _ (small_p : p < 2 ^ 32) (small_l : l < 2 ^ 32) where
      with_flags : (x : Computed) (y : ℕ) (t : Core) → Stored y t → Stored y (flagged_by x t)
      with_flags x y t st = record {
        loaded = record { count = st.loaded.count; place = st.loaded.place; variable = st.loaded.variable; step = st.loaded.step; limit = st.loaded.limit; others = record { regs = st.loaded.others.regs; out = st.loaded.others.out; input = st.loaded.others.input } };
        number = st.number;
        value = st.value;
        made = st.made;
        mem = st.mem;
      }

      compares_owes : (y : ℕ) (t : Core) → Stored y t → y < 2 ^ 32 → cast_signed w32 y ≡ z → in_range z ≡ Ok z → Owes LibraryAsks LibraryDoes (compares_limit leads_on) Inner t
      compares_owes y t st small is fits =
          let u = flagged_by (compared p 0) t in
          let sign : meets LT u ≡ is_negative (signed_step s.mem k) = after-lt p 0 t small_p (omega arith) ∙ below-zero (signed_step s.mem k) in
          test_then (compared p 0) refl (ap (λ x. compared x 0) st.loaded.step)
          (if_then
          (λ e.
          test_then (compared y l) refl (λ i. compared (st.number i) (st.loaded.limit i))
          (end_here (leads_owes (on z) y _ (with_flags (compared y l) y u (with_flags (compared p 0) y t st)) is fits refl
          (after-lt y l u small small_l ∙ ap (λ n. lt_z n (signed_limit s.mem k)) is ∙ ends-down (signed_step s.mem k) (signed_limit s.mem k) z (sym sign ∙ e)))))
          (λ e.
          test_then (compared l y) refl (λ i. compared (st.loaded.limit i) (st.number i))
          (end_here (leads_owes (on z) y _ (with_flags (compared l y) y u (with_flags (compared p 0) y t st)) is fits refl
          (after-lt l y u small_l small ∙ ap (λ n. lt_z (signed_limit s.mem k) n) is ∙ ends-up (signed_step s.mem k) (signed_limit s.mem k) z (sym sign ∙ e))))))

      -- it is stored
      stores_owes : (y : ℕ) (t : Core) → Loaded t → t.regs 2 ≡ y → t.mem ≡ s.mem → y < 2 ^ 32 → cast_signed w32 y ≡ z → in_range z ≡ Ok z → Owes LibraryAsks LibraryDoes (stores_number (compares_limit leads_on)) Inner t
      stores_owes y t ld number mem small is fits =
          let m1 = put_word t.mem v y in
          let base : t.regs 11 ≡ residents_start = ld.others.regs 11 (inr (omega arith)) ∙ ask.entries.base in
          store_then v y (omega (arith, ld.variable, var.high)) number var.aligned (inr (var.low, omega (arith, var.high, var.four)))
          (set_then cells_start refl (ap (λ x. (x + 256) % 2 ^ 32) base)
          (test_then (compared v cells_start) refl (ap (λ x. compared x cells_start) ld.variable)
          (when_then
          (λ e.
          let above = leb-true cells_start v (sym (after-cs v cells_start t) ∙ e) in
          let size = var.cell above in
          set_then 1 refl refl
          (store_then (v + 4) 1 (omega (arith, ld.variable, var.high)) refl (omega (arith, var.aligned)) (inr (omega (arith, var.low), omega (arith, var.high, size)))
          (end_here (compares_owes y _ (record {
            loaded = record {
              count = ld.count;
              place = ld.place;
              variable = ld.variable;
              step = ld.step;
              limit = ld.limit;
              others = record { regs = others_kept _ s.regs 7 _ (omega arith) (omega arith) (others_kept t.regs s.regs 7 _ (omega arith) (omega arith) ld.others.regs); out = ld.others.out; input = ld.others.input };
            };
            number = number;
            value = word-put_other m1 (v + 4) 1 v (inl (omega arith)) ∙ word-put_same t.mem v y small;
            made = λ above. word-put_same m1 (v + 4) 1 (omega arith);
            mem = λ a apart. byte-put_other m1 (v + 4) 1 a (part-apart v a (v + 4) 4 (variable_size v) (omega arith) (omega (arith, size)) apart)
                ∙ byte-put_other t.mem v y a (part-apart v a v 4 (variable_size v) (omega arith) (omega (arith, size)) apart) ∙ (λ i. mem i a);
          }) small is fits))))
          (λ e.
          let below = leb-false cells_start v (sym (after-cs v cells_start t) ∙ e) in
          compares_owes y _ (record {
            loaded = record {
              count = ld.count;
              place = ld.place;
              variable = ld.variable;
              step = ld.step;
              limit = ld.limit;
              others = record { regs = others_kept t.regs s.regs 7 _ (omega arith) (omega arith) ld.others.regs; out = ld.others.out; input = ld.others.input };
            };
            number = number;
            value = word-put_same t.mem v y small;
            made = λ above. absurd (omega (arith, above, below));
            mem = λ a apart. byte-put_other t.mem v y a (part-apart v a v 4 (variable_size v) (omega arith) (omega (arith, var.four)) apart) ∙ (λ i. mem i a);
          }) small is fits))))

    found_owes : (t : Core) → IsFound (Some k) t → Others s t → t.mem ≡ s.mem → Owes LibraryAsks LibraryDoes turns_found After (flagged_by (compared (k + 1) 0) t)
    found_owes t at others mem =
        let x = word s.mem v in
        let six = t.regs 6 in
        load_then (entry_at k + 4) v (word_below six k 28 at.1 few (omega arith)) (ap (λ m. word m (entry_at k + 4)) mem) (omega arith) (omega (arith, few)) (λ small_v.
        load_then v x (omega (arith, var.high)) (ap (λ m. word m v) mem) var.aligned (omega (arith, var.high)) (λ small_x.
        load_then (entry_at k + 12) p (word_below six k 20 at.1 few (omega arith)) (ap (λ m. word m (entry_at k + 12)) mem) (omega arith) (omega (arith, few)) (λ small_p.
        load_then (entry_at k + 8) l (word_below six k 24 at.1 few (omega arith)) (ap (λ m. word m (entry_at k + 8)) mem) (omega arith) (omega (arith, few)) (λ small_l.
        set_flags_then (summed x p) refl refl
        (if_then
        (λ e.
        set_then too_big refl refl
        (end_here (end_here (end_here (overflows _ (in_range-no_word z (not-true (is_signed_word z) e))
        (record { regs = others_kept _ s.regs 1 _ (omega arith) (omega arith) (kept x small_p); out = others.out; input = others.input })
        (record { error_is = refl; mem = mem }))))))
        (λ e.
        let word_is = not-false (is_signed_word z) e in
        stores_owes small_p small_l ((x + p) % 2 ^ 32) _
        (record { count = at.0; place = at.1; variable = refl; step = refl; limit = refl; others = record { regs = kept x small_p; out = others.out; input = others.input } })
        refl mem (omega arith) (sum-exact x p small_x small_p word_is) (in_range-word z word_is)))))))
      where
        kept : (x : ℕ) → p < 2 ^ 32 → KeepsOthers (updated (updated (updated (updated (updated t.regs 1 v) 2 x) 3 p) 4 l) 2 ((x + p) % 2 ^ 32)) s.regs
        kept x _ = others_kept _ s.regs 2 _ (omega arith) (omega arith) (others_kept _ s.regs 4 _ (omega arith) (omega arith) (others_kept _ s.regs 3 _ (omega arith) (omega arith) (others_kept _ s.regs 2 _ (omega arith) (omega arith)
            (others_kept t.regs s.regs 1 _ (omega arith) (omega arith) others.regs))))

  -- ---- the whole

  by_found : (t : Core) (found : Option ℕ) → latest s.mem what ≡ found → IsFound found t → Others s t → t.mem ≡ s.mem → Owes LibraryAsks LibraryDoes (cmp 5 (num 0) ⨾ If EQ turns_none turns_found ⨾ Skip) Goal t
  by_found t None is at others mem =
      test_then (compared 0 0) refl (ap (λ x. compared x 0) at)
      (if_then
      (λ e. none_owes t is others mem)
      (λ e. absurd (true≢false e)))
  by_found t (Some k) is at others mem =
      let some : (k + 1 == 0) ≡ false = ne_eqb (k + 1) 0 (λ z. omega (arith, z)) in
      test_then (compared (k + 1) 0) refl (ap (λ x. compared x 0) at.0)
      (if_then
      (λ e. absurd (false≢true (sym some ∙ sym (after-eq (k + 1) 0 t (omega (arith, at.2)) (omega arith)) ∙ e)))
      (λ e. found_owes k is at.2 t at others mem))

  by_word : (n : ℕ) → what ≡ n → Owes LibraryAsks LibraryDoes turning Goal s
  by_word zero is =
      let base = ask.entries.base in
      let span = 2 ^ 32 - residents_start in
      set_then 1 refl refl
      (test_then (compared 0 1) refl (ap (λ x. compared x 1) is)
      (set_where_then residents_start refl refl base
      (set_where_then span refl refl (ap (λ x. (0 + (2 ^ 32 - x)) % 2 ^ 32) base)
      (search_then _ zero base ask.entries.few looks-any (λ t f.
      by_found t f.found (ap (latest s.mem) is ∙ f.found_is) f.at
      (record {
        regs = λ k apart. f.others.regs k apart ∙ others_kept _ s.regs 4 _ (omega arith) (omega arith) (others_kept _ s.regs 1 _ (omega arith) (omega arith) (others_kept s.regs s.regs 4 _ (omega arith) (omega arith) (λ j same. refl))) k apart;
        out = f.others.out;
        input = f.others.input;
      })
      f.mem)))))
  by_word (suc n) is =
      let fails : meets CC (flagged_by (compared (suc n) 1) s) ≡ false = after-cc (suc n) 1 s ∙ le-ltb (suc n) 1 (omega arith) in
      set_then 1 refl refl
      (test_then (compared (suc n) 1) refl (ap (λ x. compared x 1) is)
      (skip_where_then fails
      (skip_where_then fails
      (search_then _ what ask.entries.base ask.entries.few (looks-named what (omega (arith, is)) (good.regs 1)) (λ t f.
      by_found t f.found f.found_is f.at
      (record {
        regs = λ k apart. f.others.regs k apart ∙ others_kept s.regs s.regs 4 1 (omega arith) (omega arith) (λ j same. refl) k apart;
        out = f.others.out;
        input = f.others.input;
      })
      f.mem)))))

  pub turning_owes : Owes LibraryAsks LibraryDoes turning Goal s
  turning_owes = by_word what refl
