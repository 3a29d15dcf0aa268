-- The search for the entry that a closing word finds.
use Rattle.std.proofs.Common.{◌≡◌, ℕ, zero, suc, ◌+◌, ◌-◌, ◌^◌, ◌<◌, ◌≤◌, ◌==◌, nat_le, nat_lt, Bool, true, false, if◌then◌else◌, Option, None, Some, refl, sym, ap, ◌∙◌, arith, leb-true, leb-false, le-ltb, lt-ltb, eq-eqb, eqb-true}
use Rattle.std.proofs.lemmas.Bool.{eqb-false, ne_eqb, not-true, not-false, false≢true}
use Rattle.arm_isa.specs.Numbers.{CS}
use Rattle.arm2_alu.proofs.RegisterLaws.{updated}
use Rattle.arm2_alu.proofs.ValueLaws.{minus, compared}
use Rattle.arm_core.specs.Core.{Core, put, word}
use Rattle.arm_core.proofs.Comparisons.{after-cs, after-ne}
use Rattle.code_frag.specs.Demands.{Post, on_falls, Owes}
use Rattle.code_frag.specs.Language.{Piece}
use Rattle.code_frag.specs.Regions.{residents_start, opened_count_at, depth_at}
use Rattle.code_frag.proofs.Rules.{Less, Turn, end_here, set_then, load_then, test_then, if_then, when_then, while_then}
use Rattle.runtime_lib.specs.Entries.{LibraryAsks, LibraryDoes}
use Rattle.runtime_lib.specs.Loops.{entry_test, entry_turn, search}
use Rattle.runtime_lib.specs.Opened.{most_entries, entry_at, depth_of, kind_of, wants, nearest, opened_count, latest}
use Rattle.runtime_lib.proofs.EntryParts.{KeepsOthers, others_kept, Others, count_address, depth_address, first_below, word_below, after_entries_then}

-- ---- what is looked for

-- a word is looked for where it is at a number, or above it by less than another
pub record Looks (what low span : ℕ) : Type 0 where
  pub by : (w : ℕ) → w < 2 ^ 32 → nat_lt (minus w low) span ≡ wants what w

-- that very word
pub looks-named : (what : ℕ) → 0 < what → what < 2 ^ 32 → Looks what what 1
looks-named zero some small = absurd (omega (arith, some))
looks-named (suc x) some small = record { by = λ w low. each w low (w == suc x) refl }
  where
    each : (w : ℕ) → w < 2 ^ 32 → (b : Bool) → (w == suc x) ≡ b → nat_lt (minus w (suc x)) 1 ≡ (w == suc x)
    each w low true is = lt-ltb (minus w (suc x)) 1 (let e = eqb-true w (suc x) is in omega (arith, e, small)) ∙ sym is
    each w low false is = le-ltb (minus w (suc x)) 1 (let apart = eqb-false w (suc x) is in above w low (λ e. apart e)) ∙ sym is
      where
        above : (w : ℕ) → w < 2 ^ 32 → (w ≡ suc x → ⊥) → 1 ≤ minus w (suc x)
        above w low apart = omega (arith, low, small, apart)

-- any FOR
pub looks-any : Looks 0 residents_start (2 ^ 32 - residents_start)
looks-any = record { by = λ w low. each w low (nat_le residents_start w) refl }
  where
    each : (w : ℕ) → w < 2 ^ 32 → (b : Bool) → nat_le residents_start w ≡ b → nat_lt (minus w residents_start) (2 ^ 32 - residents_start) ≡ nat_le residents_start w
    each w low true is = lt-ltb (minus w residents_start) (2 ^ 32 - residents_start) (let e = leb-true residents_start w is in omega (arith, e, low)) ∙ sym is
    each w low false is = le-ltb (minus w residents_start) (2 ^ 32 - residents_start) (let e = leb-false residents_start w is in omega (arith, e, low)) ∙ sym is

-- ---- one entry

module _ (m : ℕ → ℕ) (depth what k : ℕ) where
  abbrev step : Bool → Bool → Option ℕ
  step own wanted = if own then (if wanted then Some k else nearest m depth what k) else None

  nearest-other : (depth_of m k ≡ depth → ⊥) → nearest m depth what (suc k) ≡ None
  nearest-other apart = ap (λ b. step b (wants what (kind_of m k))) (ne_eqb (depth_of m k) depth apart)

  nearest-own : (b : Bool) → depth_of m k ≡ depth → wants what (kind_of m k) ≡ b → nearest m depth what (suc k) ≡ step true b
  nearest-own b own is = (λ i. step (eq-eqb (depth_of m k) depth own i) (is i))

-- ---- the search

-- where R5 and R6 are for what is found
abbrev pub IsFound : Option ℕ → Core → Type 0
IsFound None t = t.regs 5 ≡ 0
IsFound (Some k) t = (t.regs 5 ≡ k + 1) × (t.regs 6 ≡ entry_at k + 32) × (k < most_entries)

-- the search's end
pub record Finds (s : Core) (what : ℕ) (t : Core) : Type 0 where
  pub found : Option ℕ
  pub found_is : latest s.mem what ≡ found
  pub at : IsFound found t
  pub first : t.regs 1 ≡ s.regs 1
  pub others : Others s t
  pub mem : t.mem ≡ s.mem

-- j entries are left
record Searching (s : Core) (what j : ℕ) (t : Core) : Type 0 where
  left : t.regs 5 ≡ j
  place : t.regs 6 ≡ entry_at j
  depth : t.regs 7 ≡ word s.mem depth_at
  few : j ≤ most_entries
  same : nearest s.mem (word s.mem depth_at) what j ≡ latest s.mem what
  first : t.regs 1 ≡ s.regs 1
  span : t.regs 4 ≡ s.regs 4
  others : Others s t
  mem : t.mem ≡ s.mem

module _ {rest : Piece} {Q : Post} (s : Core) (what : ℕ) (small : word s.mem depth_at < 2 ^ 32) (looks : Looks what (s.regs 1) (s.regs 4)) (next : (t : Core) → Finds s what t → Owes LibraryAsks LibraryDoes rest Q t) where
  abbrev d : ℕ
  d = word s.mem depth_at

  -- what the test owes where j entries are left
  abbrev Tested : ℕ → Core → Type 0
  Tested j t = Owes LibraryAsks LibraryDoes entry_test (on_falls (Turn LibraryAsks LibraryDoes CS entry_turn rest Q (Searching s what) j) Q) t

  -- on to the entry before
  turn : (k : ℕ) (t : Core) → t.regs 5 ≡ suc k → t.regs 6 ≡ entry_at (suc k) → t.regs 7 ≡ d → suc k ≤ most_entries → nearest s.mem d what k ≡ latest s.mem what → t.regs 1 ≡ s.regs 1 → t.regs 4 ≡ s.regs 4 → Others s t → t.mem ≡ s.mem
      → Owes LibraryAsks LibraryDoes entry_turn (on_falls (Less (Searching s what) (suc k)) Q) t
  turn k t five six seven few same one four others mem =
      set_then k refl (omega (arith, five, few))
      (set_then (entry_at k) refl (omega (arith, six, few))
      (end_here (record {
        count = k;
        less = omega arith;
        inv = record {
          left = refl;
          place = refl;
          depth = seven;
          few = omega (arith, few);
          same = same;
          first = one;
          span = four;
          others = record {
            regs = others_kept _ s.regs 6 _ (omega arith) (omega arith) (others_kept t.regs s.regs 5 _ (omega arith) (omega arith) others.regs);
            out = others.out;
            input = others.input;
          };
          mem = mem;
        };
      })))

  by_count : (j : ℕ) (t : Core) → Searching s what j t → Tested j t
  by_count zero t c =
      let is = after-cs 0 1 t in
      test_then (compared 0 1) refl (ap (λ x. compared x 1) c.left)
      (when_then
      (λ e. absurd (false≢true (sym is ∙ e)))
      (λ e. end_here (record {
        more = λ g. absurd (false≢true (sym is ∙ g));
        done = λ g. next _ (record { found = None; found_is = sym c.same; at = c.left; first = c.first; others = record { regs = c.others.regs; out = c.others.out; input = c.others.input }; mem = c.mem });
      })))
  by_count (suc k) t c =
      let p = entry_at k in
      let e1 = depth_of s.mem k in
      let w = kind_of s.mem k in
      let few = c.few in
      let is = after-cs (suc k) 1 t in
      let place : t.regs 6 ≡ entry_at k + 32 = omega (arith, c.place) in
      test_then (compared (suc k) 1) refl (ap (λ x. compared x 1) c.left)
      (when_then
      (λ e.
      load_then p e1 (first_below (t.regs 6) k place (omega (arith, few))) (ap (λ m. word m p) c.mem) (omega arith) (omega (arith, few)) (λ bound.
      let other = after-ne e1 d (put 2 e1 t) bound small in
      test_then (compared e1 d) refl (ap (compared e1) c.depth)
      (if_then
      (λ g.
      let apart = eqb-false e1 d (not-true (e1 == d) (sym other ∙ g)) in
      set_then 0 refl refl
      (test_then (compared 0 1) refl refl
      (end_here (end_here (end_here (record {
        more = λ h. absurd (false≢true (sym (after-cs 0 1 t) ∙ h));
        done = λ h. next _ (record {
          found = None;
          found_is = sym c.same ∙ nearest-other s.mem d what k apart;
          at = refl;
          first = c.first;
          others = record {
            regs = others_kept _ s.regs 5 _ (omega arith) (omega arith) (others_kept t.regs s.regs 2 _ (omega arith) (omega arith) c.others.regs);
            out = c.others.out;
            input = c.others.input;
          };
          mem = c.mem;
        });
      }))))))
      (λ g.
      let own = eqb-true e1 d (not-false (e1 == d) (sym other ∙ g)) in
      load_then (p + 4) w (word_below (t.regs 6) k 28 place (omega (arith, few)) (omega arith)) (ap (λ m. word m (p + 4)) c.mem) (omega arith) (omega (arith, few)) (λ fits.
      let x = minus w (s.regs 1) in
      let matched = after-cs x (s.regs 4) t in
      set_then x refl (ap (minus w) c.first)
      (test_then (compared x (s.regs 4)) refl (ap (compared x) c.span)
      (end_here (end_here (end_here (record {
        more = λ h.
            let apart : wants what w ≡ false = sym (looks.by w fits) ∙ le-ltb x (s.regs 4) (leb-true (s.regs 4) x (sym matched ∙ h)) in
            turn k _ c.left c.place c.depth few (sym (nearest-own s.mem d what k false own apart) ∙ c.same) c.first c.span (record { regs = kept e1 w x; out = c.others.out; input = c.others.input }) c.mem;
        done = λ h.
            let wanted : wants what w ≡ true = sym (looks.by w fits) ∙ lt-ltb x (s.regs 4) (leb-false (s.regs 4) x (sym matched ∙ h)) in
            next _ (record {
              found = Some k;
              found_is = sym c.same ∙ nearest-own s.mem d what k true own wanted;
              at = (omega (arith, c.left), place, omega (arith, few));
              first = c.first;
              others = record { regs = kept e1 w x; out = c.others.out; input = c.others.input };
              mem = c.mem;
            });
      }))))))))))
      (λ e. absurd (omega (arith, leb-false 1 (suc k) (sym is ∙ e)))))
    where
      kept : (e1 w x : ℕ) → KeepsOthers (updated (updated (updated t.regs 2 e1) 2 w) 2 x) s.regs
      kept e1 w x = others_kept _ s.regs 2 _ (omega arith) (omega arith) (others_kept _ s.regs 2 _ (omega arith) (omega arith) (others_kept t.regs s.regs 2 _ (omega arith) (omega arith) c.others.regs))

pub search_then : {rest : Piece} {Q : Post} (s : Core) (what : ℕ) → s.regs 11 ≡ residents_start → opened_count s.mem ≤ most_entries → Looks what (s.regs 1) (s.regs 4) → ((t : Core) → Finds s what t → Owes LibraryAsks LibraryDoes rest Q t)
    → Owes LibraryAsks LibraryDoes (search rest) Q s
search_then {rest} {Q} s what base few looks next =
    let n = opened_count s.mem in
    let d = word s.mem depth_at in
    load_then opened_count_at n (count_address (s.regs 11) base) refl refl (omega arith) (λ bound.
    load_then depth_at d (depth_address (s.regs 11) base) refl refl (omega arith) (λ small.
    after_entries_then n refl few
    (while_then (Searching s what) (by_count s what small looks next) n
    (record {
      left = refl;
      place = refl;
      depth = refl;
      few = few;
      same = refl;
      first = refl;
      span = refl;
      others = record {
        regs = others_kept _ s.regs 6 _ (omega arith) (omega arith) (others_kept _ s.regs 6 _ (omega arith) (omega arith) (others_kept _ s.regs 6 _ (omega arith) (omega arith)
            (others_kept _ s.regs 7 _ (omega arith) (omega arith) (others_kept s.regs s.regs 5 _ (omega arith) (omega arith) (λ k is. refl)))));
        out = refl;
        input = refl;
      };
      mem = refl;
    }))))
