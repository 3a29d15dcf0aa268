-- An entry is opened.
use Rattle.std.proofs.Common.{◌≡◌, ℕ, ◌+◌, ◌^◌, ◌<◌, ◌≤◌, inl, inr, refl, sym, ap, ◌∙◌, arith, leb-true, leb-false}
use Rattle.bas_value.specs.Errors.{no_room}
use Rattle.arm2_alu.proofs.RegisterLaws.{updated}
use Rattle.arm2_alu.proofs.ValueLaws.{compared}
use Rattle.arm_core.specs.Core.{Core, put, word, put_word, IsGood}
use Rattle.arm_core.specs.Effects.{flagged_by}
use Rattle.arm_core.proofs.Comparisons.{after-cs}
use Rattle.arm_core.proofs.MemoryWords.{byte-put_other, word-put_same, word-put_other}
use Rattle.code_frag.specs.Demands.{Post, on_falls, at_return, Owes}
use Rattle.code_frag.specs.Language.{Skip}
use Rattle.code_frag.specs.Regions.{opened_count_at, depth_at, opened_start}
use Rattle.code_frag.proofs.Rules.{end_here, set_then, load_then, store_then, test_then, if_then}
use Rattle.runtime_lib.specs.Entries.{LibraryAsks, LibraryDoes}
use Rattle.runtime_lib.specs.Loops.{opens, opening}
use Rattle.runtime_lib.specs.Opened.{most_entries, entry_at, opened_count, IsApart, CanUseEntries, OpensEntry, Opens}
use Rattle.runtime_lib.proofs.EntryParts.{KeepsOthers, others_kept, comes-back, part-apart, count_address, depth_address, count_data, first_word, word_above, first_data, entry_data, after_entries_then}

-- ---- five words of an entry, and then the count

-- the memory after them
abbrev entry_put : (ℕ → ℕ) → ℕ → (d w l p c : ℕ) → ℕ → ℕ
entry_put m a d w l p c = put_word (put_word (put_word (put_word (put_word m a d) (a + 4) w) (a + 8) l) (a + 12) p) (a + 16) c

abbrev counted : (ℕ → ℕ) → ℕ → (d w l p c n : ℕ) → ℕ → ℕ
counted m a d w l p c n = put_word (entry_put m a d w l p c) opened_count_at n

-- what stands in it, where the entry comes after the count
record StandsIn (m : ℕ → ℕ) (a d w l p c n : ℕ) : Type 0 where
  count : word (counted m a d w l p c n) opened_count_at ≡ n
  first : word (counted m a d w l p c n) a ≡ d
  second : word (counted m a d w l p c n) (a + 4) ≡ w
  third : word (counted m a d w l p c n) (a + 8) ≡ l
  fourth : word (counted m a d w l p c n) (a + 12) ≡ p
  fifth : word (counted m a d w l p c n) (a + 16) ≡ c
  others : (b : ℕ) → IsApart opened_count_at 4 b → IsApart a 20 b → counted m a d w l p c n b ≡ m b

stands-in : (m : ℕ → ℕ) (a d w l p c n : ℕ) → opened_count_at + 4 ≤ a → (d < 2 ^ 32) → (w < 2 ^ 32) → (l < 2 ^ 32) → (p < 2 ^ 32) → (c < 2 ^ 32) → (n < 2 ^ 32) → StandsIn m a d w l p c n
stands-in m a d w l p c n after small_d small_w small_l small_p small_c small_n =
    let m1 = put_word m a d in
    let m2 = put_word m1 (a + 4) w in
    let m3 = put_word m2 (a + 8) l in
    let m4 = put_word m3 (a + 12) p in
    let m5 = put_word m4 (a + 16) c in
    record {
      count = word-put_same m5 opened_count_at n small_n;
      first = word-put_other m5 opened_count_at n a (inr after) ∙ word-put_other m4 (a + 16) c a (inl (omega arith)) ∙ word-put_other m3 (a + 12) p a (inl (omega arith)) ∙ word-put_other m2 (a + 8) l a (inl (omega arith))
          ∙ word-put_other m1 (a + 4) w a (inl (omega arith)) ∙ word-put_same m a d small_d;
      second = word-put_other m5 opened_count_at n (a + 4) (inr (omega (arith, after))) ∙ word-put_other m4 (a + 16) c (a + 4) (inl (omega arith)) ∙ word-put_other m3 (a + 12) p (a + 4) (inl (omega arith))
          ∙ word-put_other m2 (a + 8) l (a + 4) (inl (omega arith)) ∙ word-put_same m1 (a + 4) w small_w;
      third = word-put_other m5 opened_count_at n (a + 8) (inr (omega (arith, after))) ∙ word-put_other m4 (a + 16) c (a + 8) (inl (omega arith)) ∙ word-put_other m3 (a + 12) p (a + 8) (inl (omega arith))
          ∙ word-put_same m2 (a + 8) l small_l;
      fourth = word-put_other m5 opened_count_at n (a + 12) (inr (omega (arith, after))) ∙ word-put_other m4 (a + 16) c (a + 12) (inl (omega arith)) ∙ word-put_same m3 (a + 12) p small_p;
      fifth = word-put_other m5 opened_count_at n (a + 16) (inr (omega (arith, after))) ∙ word-put_same m4 (a + 16) c small_c;
      others = λ b beside apart. byte-put_other m5 opened_count_at n b beside ∙ byte-put_other m4 (a + 16) c b (part-apart a b (a + 16) 4 20 (omega arith) (omega arith) apart)
          ∙ byte-put_other m3 (a + 12) p b (part-apart a b (a + 12) 4 20 (omega arith) (omega arith) apart) ∙ byte-put_other m2 (a + 8) l b (part-apart a b (a + 8) 4 20 (omega arith) (omega arith) apart)
          ∙ byte-put_other m1 (a + 4) w b (part-apart a b (a + 4) 4 20 (omega arith) (omega arith) apart) ∙ byte-put_other m a d b (part-apart a b a 4 20 (omega arith) (omega arith) apart);
    }

-- ---- the routine

module _ (s : Core) (good : IsGood s) (ask : CanUseEntries s) where
  abbrev n : ℕ
  n = opened_count s.mem

  abbrev Goal : Post
  Goal = at_return (Opens s) s

  -- there is room
  opens_owes : n < most_entries → Owes LibraryAsks LibraryDoes opens (on_falls (Owes LibraryAsks LibraryDoes Skip Goal) Goal) (flagged_by (compared n 4096) (put 5 n s))
  opens_owes room =
      let a = entry_at n in
      let d = word s.mem depth_at in
      after_entries_then n refl (omega (arith, room))
      (load_then depth_at d (depth_address (s.regs 11) ask.base) refl refl (omega arith) (λ small.
      store_then a d (first_word a n refl room) refl (omega arith) (first_data n room)
      (store_then (a + 4) (s.regs 1) (word_above a n 4 refl room (omega arith)) refl (omega arith) (entry_data n 4 room (omega arith))
      (store_then (a + 8) (s.regs 3) (word_above a n 8 refl room (omega arith)) refl (omega arith) (entry_data n 8 room (omega arith))
      (store_then (a + 12) (s.regs 4) (word_above a n 12 refl room (omega arith)) refl (omega arith) (entry_data n 12 room (omega arith))
      (store_then (a + 16) (s.regs 2) (word_above a n 16 refl room (omega arith)) refl (omega arith) (entry_data n 16 room (omega arith))
      (set_then (n + 1) refl (omega (arith, room))
      (store_then opened_count_at (n + 1) (count_address (s.regs 11) ask.base) refl refl count_data
      (set_then 0 refl refl
      (end_here (end_here (
        record {
          comes_back = comes-back s _ (record { regs = kept a d; out = refl; input = refl });
          opens = λ below. by_words (stands-in s.mem a d (s.regs 1) (s.regs 3) (s.regs 4) (s.regs 2) (n + 1) (omega arith) small (good.regs 1) (good.regs 3) (good.regs 4) (good.regs 2) (omega (arith, room))) refl refl;
          full = λ above. absurd (omega (arith, above, room));
        },
        refl,
      ))))))))))))
    where
      kept : (a d : ℕ) → KeepsOthers (updated (updated (updated (updated (updated (updated (updated s.regs 5 n) 6 0xbc0000) 6 opened_start) 6 a) 7 d) 5 (n + 1)) 1 0) s.regs
      kept a d = others_kept _ s.regs 1 _ (omega arith) (omega arith) (others_kept _ s.regs 5 _ (omega arith) (omega arith) (others_kept _ s.regs 7 _ (omega arith) (omega arith) (others_kept _ s.regs 6 _ (omega arith) (omega arith)
          (others_kept _ s.regs 6 _ (omega arith) (omega arith) (others_kept _ s.regs 6 _ (omega arith) (omega arith) (others_kept s.regs s.regs 5 _ (omega arith) (omega arith) (λ k is. refl)))))))

      by_words : {t : Core} → StandsIn s.mem (entry_at n) (word s.mem depth_at) (s.regs 1) (s.regs 3) (s.regs 4) (s.regs 2) (n + 1) → t.mem ≡ counted s.mem (entry_at n) (word s.mem depth_at) (s.regs 1) (s.regs 3) (s.regs 4) (s.regs 2) (n + 1)
          → t.regs 1 ≡ 0 → OpensEntry s t
      by_words {t} i mem one = record {
        no_error = one;
        count = ap (λ m. word m opened_count_at) mem ∙ i.count;
        depth = ap (λ m. word m (entry_at n)) mem ∙ i.first;
        kind = ap (λ m. word m (entry_at n + 4)) mem ∙ i.second;
        limit = ap (λ m. word m (entry_at n + 8)) mem ∙ i.third;
        step = ap (λ m. word m (entry_at n + 12)) mem ∙ i.fourth;
        code = ap (λ m. word m (entry_at n + 16)) mem ∙ i.fifth;
        mem = λ b beside apart. (λ j. mem j b) ∙ i.others b beside apart;
      }

  pub opening_owes : Owes LibraryAsks LibraryDoes opening Goal s
  opening_owes =
      let is = after-cs n 4096 (put 5 n s) in
      load_then opened_count_at n (count_address (s.regs 11) ask.base) refl refl (omega arith) (λ bound.
      test_then (compared n 4096) refl refl
      (if_then
      (λ e.
      let full : 4096 ≤ n = leb-true 4096 n (sym is ∙ e) in
      set_then no_room refl refl
      (end_here (end_here (
        record {
          comes_back = comes-back s _ (record {
            regs = others_kept _ s.regs 1 _ (omega arith) (omega arith) (others_kept s.regs s.regs 5 _ (omega arith) (omega arith) (λ k is. refl));
            out = refl;
            input = refl;
          });
          opens = λ below. absurd (omega (arith, below, full));
          full = λ above. record { error_is = refl; mem = refl };
        },
        refl,
      ))))
      (λ e. opens_owes (leb-false 4096 n (sym is ∙ e)))))
