-- UNTIL, ENDWHILE and RETURN.
use Rattle.std.proofs.Common.{◌≡◌, ℕ, ◌+◌, ◌==◌, ◌⊎◌, inl, inr, false, Option, None, Some, refl, sym, ap, subst, ◌∙◌, arith}
use Rattle.std.proofs.lemmas.Bool.{ne_eqb, false≢true, true≢false}
use Rattle.bas_value.specs.Errors.{no_subroutine, no_repeat, no_while}
use Rattle.arm_isa.specs.Numbers.{EQ}
use Rattle.arm2_alu.proofs.RegisterLaws.{updated}
use Rattle.arm2_alu.proofs.ValueLaws.{compared}
use Rattle.arm_core.specs.Core.{Core, put, word, IsGood}
use Rattle.arm_core.specs.Effects.{flagged_by}
use Rattle.arm_core.proofs.Comparisons.{after-eq}
use Rattle.arm_core.proofs.MemoryWords.{byte-put_other, word-put_same}
use Rattle.code_frag.specs.Demands.{Falls, Post, on_falls, at_return, Owes}
use Rattle.code_frag.specs.Instructions.{num, cmp}
use Rattle.code_frag.specs.Language.{Skip, If, ◌⨾◌}
use Rattle.code_frag.specs.Regions.{opened_count_at}
use Rattle.code_frag.proofs.Rules.{end_here, set_then, load_then, store_then, test_then, if_then, set_where_then, skip_where_then}
use Rattle.runtime_lib.specs.Entries.{LibraryAsks, LibraryDoes}
use Rattle.runtime_lib.specs.Loops.{closes_none, closes_found, closing_word}
use Rattle.runtime_lib.specs.Opened.{repeat_kind, while_kind, gosub_kind, closing_error, entry_at, code_of, latest, CanCloseEntry, Closed, ClosesLatest}
use Rattle.runtime_lib.proofs.EntryParts.{KeepsOthers, others_kept, Others, comes-back, count_address, count_data, word_below}
use Rattle.runtime_lib.proofs.EntrySearch.{looks-named, IsFound, Finds, search_then}

module _ (s : Core) (good : IsGood s) (ask : CanCloseEntry s) where
  abbrev Goal : Post
  Goal = at_return (ClosesLatest s) s

  abbrev kind : ℕ
  kind = s.regs 1

  -- the routine's end
  closes : (t : Core) (found : Option ℕ) → latest s.mem kind ≡ found → Others s t → Closed found s t → Goal Falls t
  closes t found is others closed = (record { comes_back = comes-back s t others; closed = subst (λ f. Closed f s t) (sym is) closed }, others.regs 14 (inr (omega arith)))

  -- nothing is found
  fails : (t u : Core) (error : ℕ) → Finds s kind t → latest s.mem kind ≡ None → closing_error kind ≡ error → u.regs 1 ≡ error → KeepsOthers u.regs t.regs → u.out ≡ t.out → u.input ≡ t.input → u.mem ≡ t.mem → Goal Falls u
  fails t u error f none is one kept out input mem =
      closes u None none
      (record { regs = λ k apart. kept k apart ∙ f.others.regs k apart; out = out ∙ f.others.out; input = input ∙ f.others.input })
      (record { error_is = one ∙ sym is; mem = mem ∙ f.mem })

  abbrev After : Post
  After = on_falls (Owes LibraryAsks LibraryDoes Skip Goal) Goal

  none_owes : (t : Core) → Finds s kind t → latest s.mem kind ≡ None → Owes LibraryAsks LibraryDoes closes_none After (flagged_by (compared 0 0) t)
  none_owes t f none = by_kind kinds
    where
      kinds : (kind ≡ repeat_kind) ⊎ ((kind ≡ while_kind) ⊎ (kind ≡ gosub_kind))
      kinds = grind (arith, ask.low, ask.high)

      kept : (x y : ℕ) → KeepsOthers (updated (updated t.regs 1 x) 1 y) t.regs
      kept x y = others_kept _ t.regs 1 _ (omega arith) (omega arith) (others_kept t.regs t.regs 1 _ (omega arith) (omega arith) (λ k is. refl))

      by_kind : (kind ≡ repeat_kind) ⊎ ((kind ≡ while_kind) ⊎ (kind ≡ gosub_kind)) → Owes LibraryAsks LibraryDoes closes_none After (flagged_by (compared 0 0) t)
      by_kind (inl is) =
          test_then (compared 1 2) refl (ap (λ x. compared x 2) (f.first ∙ is))
          (set_then no_while refl refl
          (set_where_then no_repeat refl refl refl
          (skip_where_then refl
          (end_here (end_here (fails t _ no_repeat f none (ap closing_error is) refl (kept no_while no_repeat) refl refl refl))))))
      by_kind (inr (inl is)) =
          test_then (compared 2 2) refl (ap (λ x. compared x 2) (f.first ∙ is))
          (set_then no_while refl refl
          (skip_where_then refl
          (skip_where_then refl
          (end_here (end_here (fails t _ no_while f none (ap closing_error is) refl (others_kept t.regs t.regs 1 _ (omega arith) (omega arith) (λ k is. refl)) refl refl refl))))))
      by_kind (inr (inr is)) =
          test_then (compared 3 2) refl (ap (λ x. compared x 2) (f.first ∙ is))
          (set_then no_while refl refl
          (skip_where_then refl
          (set_where_then no_subroutine refl refl refl
          (end_here (end_here (fails t _ no_subroutine f none (ap closing_error is) refl (kept no_while no_subroutine) refl refl refl))))))

  -- an entry is found
  found_owes : (t : Core) (k : ℕ) → Finds s kind t → latest s.mem kind ≡ Some k → IsFound (Some k) t → Owes LibraryAsks LibraryDoes closes_found After (flagged_by (compared (k + 1) 0) t)
  found_owes t k f is at =
      let few = at.2 in
      let code = code_of s.mem k in
      let base : t.regs 11 ≡ s.regs 11 = f.others.regs 11 (inr (omega arith)) in
      load_then (entry_at k + 16) code (word_below (t.regs 6) k 16 at.1 few (omega arith)) (ap (λ m. word m (entry_at k + 16)) f.mem) (omega arith) (omega (arith, few)) (λ bound.
      set_then k refl (omega (arith, at.0, few))
      (store_then opened_count_at k (count_address (t.regs 11) (base ∙ ask.entries.base)) refl refl count_data
      (set_then 0 refl refl
      (end_here (end_here (closes _ (Some k) is
      (record {
        regs = λ j apart. others_kept _ t.regs 1 _ (omega arith) (omega arith) (others_kept _ t.regs 5 _ (omega arith) (omega arith) (others_kept t.regs t.regs 2 _ (omega arith) (omega arith) (λ i is. refl))) j apart ∙ f.others.regs j apart;
        out = f.others.out;
        input = f.others.input;
      })
      (record {
        no_error = refl;
        code = refl;
        count = word-put_same t.mem opened_count_at k (omega (arith, few));
        mem = λ a apart. byte-put_other t.mem opened_count_at k a apart ∙ (λ i. f.mem i a);
      })))))))

  by_found : (t : Core) (found : Option ℕ) → Finds s kind t → latest s.mem kind ≡ found → IsFound found t → Owes LibraryAsks LibraryDoes (cmp 5 (num 0) ⨾ If EQ closes_none closes_found ⨾ Skip) Goal t
  by_found t None f is at =
      test_then (compared 0 0) refl (ap (λ x. compared x 0) at)
      (if_then
      (λ e. none_owes t f is)
      (λ e. absurd (true≢false e)))
  by_found t (Some k) f is at =
      let few = at.2 in
      let none : (k + 1 == 0) ≡ false = ne_eqb (k + 1) 0 (λ z. omega (arith, z)) in
      test_then (compared (k + 1) 0) refl (ap (λ x. compared x 0) at.0)
      (if_then
      (λ e. absurd (false≢true (sym none ∙ sym (after-eq (k + 1) 0 t (omega (arith, few)) (omega arith)) ∙ e)))
      (λ e. found_owes t k f is at))

  pub closing_word_owes : Owes LibraryAsks LibraryDoes closing_word Goal s
  closing_word_owes =
      set_then 1 refl refl
      (search_then (put 4 1 s) kind ask.entries.base ask.entries.few (looks-named kind (omega (arith, ask.low)) (good.regs 1)) (λ t f.
      by_found t f.found (from_entry t f) f.found_is f.at))
    where
      from_entry : (t : Core) → Finds (put 4 1 s) kind t → Finds s kind t
      from_entry t f = record {
        found = f.found;
        found_is = f.found_is;
        at = f.at;
        first = f.first;
        others = record { regs = λ k apart. f.others.regs k apart ∙ others_kept s.regs s.regs 4 1 (omega arith) (omega arith) (λ j is. refl) k apart; out = f.others.out; input = f.others.input };
        mem = f.mem;
      }
