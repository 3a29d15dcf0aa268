-- Runs of pieces put together: a step and then a run, and one run after another. Each step is made at an address of a set.
use Rattle.std.proofs.Common.{◌≡◌, ℕ, ◌+◌, ◌≤◌, ◌&&◌, Bool, true, false, List, [], ◌∷◌, ◌++◌, refl, sym, ap, subst, ◌∙◌, arith, append_assoc, append-nil, length-append}
use Rattle.std.proofs.lemmas.Bool.{and_parts, false≢true}
use Rattle.arm2_machine.specs.Machine.{Machine}
use Rattle.arm_core.specs.Core.{Core, IsGood, IsAt}
use Rattle.arm_core.specs.Made.{Makes}
use Rattle.code_frag.specs.Demands.{Exit, ToLabel, ToPlace, ToEnd, Out, Falls, Leaves, Post, on_falls}
use Rattle.code_frag.specs.Rows.{Row, Rising}
use Rattle.code_frag.specs.Runs.{SameCode, Comes, Moved}
use Rattle.code_frag.specs.Within.{AllIn, LastIn, EndsWithin}
use Rattle.code_frag.proofs.RowLaws.{row_append, row_step, rising_from, rising_to, rising_append}

module _ (code entry : ℕ → ℕ) (own : ℕ → Bool) where
  -- a run of no step
  pub stays : (Q : Post) (place next : ℕ) (s : Core) (m : Machine) → SameCode code s.mem → IsAt s place m → place ≡ next → Q Falls s → EndsWithin code entry own true Q place next s m
  stays Q place next s m same is there holds = record {
    run = record {
      out = Falls;
      end = s;
      machine = m;
      places = [];
      bytes = [];
      holds = holds;
      same = same;
      row = (refl, refl);
      writes = sym (append-nil s.out);
      comes = subst (λ a. IsAt s a m) there is;
      rises = λ t. omega (arith, there);
      moved = tt;
    };
    within = tt;
    last = tt;
  }

  -- less is said of its addresses
  pub weakens : (f g : Bool) (Q : Post) (place next : ℕ) (s : Core) (m : Machine) → (g ≡ true → f ≡ true) → EndsWithin code entry own f Q place next s m → EndsWithin code entry own g Q place next s m
  weakens f g Q place next s m less x = record {
    run = record {
      out = x.run.out;
      end = x.run.end;
      machine = x.run.machine;
      places = x.run.places;
      bytes = x.run.bytes;
      holds = x.run.holds;
      same = x.run.same;
      row = x.run.row;
      writes = x.run.writes;
      comes = x.run.comes;
      rises = λ t. x.run.rises (less t);
      moved = x.run.moved;
    };
    within = x.within;
    last = x.last;
  }

  pub loosens : (flat : Bool) (Q : Post) (place next : ℕ) (s : Core) (m : Machine) → EndsWithin code entry own flat Q place next s m → EndsWithin code entry own false Q place next s m
  loosens flat Q place next s m x = weakens flat false Q place next s m (λ t. absurd (false≢true t)) x

  -- the core where a run has come is good
  good_there : (o : Out) (next : ℕ) (t : Core) (m : Machine) → Comes entry o next t m → IsGood t
  good_there Falls next t m c = c.good
  good_there (Leaves (ToLabel k)) next t m c = c.good
  good_there (Leaves (ToPlace a)) next t m c = c.good
  good_there (Leaves (ToEnd report)) next t m c = c.1.good

  -- something else is asked at the end
  pub asks_else : (flat : Bool) (P Q : Post) (place next : ℕ) (s : Core) (m : Machine) → ((o : Out) (t : Core) → IsGood t → P o t → Q o t) → EndsWithin code entry own flat P place next s m → EndsWithin code entry own flat Q place next s m
  asks_else flat P Q place next s m implies x = record {
    run = record {
      out = x.run.out;
      end = x.run.end;
      machine = x.run.machine;
      places = x.run.places;
      bytes = x.run.bytes;
      holds = implies x.run.out x.run.end (good_there x.run.out next x.run.end x.run.machine x.run.comes) x.run.holds;
      same = x.run.same;
      row = x.run.row;
      writes = x.run.writes;
      comes = x.run.comes;
      rises = x.run.rises;
      moved = x.run.moved;
    };
    within = x.within;
    last = x.last;
  }

  split_falls : (Q : Post) (o : Out) (t : Core) → IsGood t → Q o t → on_falls (Q Falls) Q o t
  split_falls Q Falls t good q = q
  split_falls Q (Leaves e) t good q = q

  pub by_falls : (flat : Bool) (Q : Post) (place next : ℕ) (s : Core) (m : Machine) → EndsWithin code entry own flat Q place next s m → EndsWithin code entry own flat (on_falls (Q Falls) Q) place next s m
  by_falls flat Q place next s m x = asks_else flat Q (on_falls (Q Falls) Q) place next s m (split_falls Q) x

  moved_later : (o : Out) (ps qs : List ℕ) → Moved o qs → Moved o (ps ++ qs)
  moved_later Falls ps qs moved = tt
  moved_later (Leaves (ToLabel k)) ps qs moved = omega (arith, moved, length-append ps qs)
  moved_later (Leaves (ToPlace a)) ps qs moved = omega (arith, moved, length-append ps qs)
  moved_later (Leaves (ToEnd report)) ps qs moved = tt

  moved_first : (o : Out) (p : ℕ) (ps : List ℕ) → Moved o (p ∷ ps)
  moved_first Falls p ps = tt
  moved_first (Leaves (ToLabel k)) p ps = omega arith
  moved_first (Leaves (ToPlace a)) p ps = omega arith
  moved_first (Leaves (ToEnd report)) p ps = tt

  both_in : (ps qs : List ℕ) → AllIn own ps → AllIn own qs → AllIn own (ps ++ qs)
  both_in [] qs first second = second
  both_in (p ∷ ps) qs first second = (first.0, both_in ps qs first.1 second)

  -- a step, and then a run: of a flat piece the step goes up
  pub steps_then : (flat : Bool) (Q : Post) (place to next : ℕ) (s t : Core) (m : Machine) (made : Makes s m to t) → IsAt s place m → own place ≡ true → (flat ≡ true → place + 4 ≤ to)
      → EndsWithin code entry own flat Q to next t made.machine → EndsWithin code entry own flat Q place next s m
  steps_then flat Q place to next s t m made is mine up x = record {
    run = record {
      out = x.run.out;
      end = x.run.end;
      machine = x.run.machine;
      places = place ∷ x.run.places;
      bytes = made.bytes ++ x.run.bytes;
      holds = x.run.holds;
      same = x.run.same;
      row = row_append (place ∷ []) x.run.places m made.machine x.run.machine made.bytes x.run.bytes (row_step s t place to m made is) x.run.row;
      writes = x.run.writes ∙ ap (λ l. l ++ x.run.bytes) made.out ∙ append_assoc s.out made.bytes x.run.bytes;
      comes = x.run.comes;
      rises = λ f. (omega arith, rising_from x.run.places (place + 4) to next (up f) (x.run.rises f));
      moved = moved_first x.run.out place x.run.places;
    };
    within = (mine, x.within);
    last = x.last;
  }

  -- a step that leaves
  pub leaves_by : (Q : Post) (place to next : ℕ) (s : Core) (m : Machine) (e : Exit) (made : Makes s m to s) → IsAt s place m → own place ≡ true → SameCode code s.mem → place + 4 ≤ next
      → Comes entry (Leaves e) next s made.machine → LastIn own (Leaves e) made.machine → Q (Leaves e) s → EndsWithin code entry own true Q place next s m
  leaves_by Q place to next s m e made is mine same within comes last holds = record {
    run = record {
      out = Leaves e;
      end = s;
      machine = made.machine;
      places = place ∷ [];
      bytes = made.bytes;
      holds = holds;
      same = same;
      row = row_step s s place to m made is;
      writes = made.out;
      comes = comes;
      rises = λ f. (omega arith, within);
      moved = moved_first (Leaves e) place [];
    };
    within = (mine, tt);
    last = last;
  }

  -- one run and then another: where the first falls, the second begins
  onward_by : (f g : Bool) (Q : Post) (M : Core → Type 0) (place mid next : ℕ) (s : Core) (m : Machine)
      (out : Out) (end : Core) (machine : Machine) (places bytes : List ℕ)
      → on_falls M Q out end → SameCode code end.mem → Row places m bytes machine → end.out ≡ s.out ++ bytes → Comes entry out mid end machine → (f ≡ true → Rising places place mid) → Moved out places
      → AllIn own places → LastIn own out machine
      → (g ≡ true → mid ≤ next)
      → ((t : Core) (n : Machine) → SameCode code t.mem → IsAt t mid n → M t → EndsWithin code entry own g Q mid next t n)
      → EndsWithin code entry own (f && g) Q place next s m
  onward_by f g Q M place mid next s m Falls end machine places bytes holds same row writes comes rises moved inside last within then =
      let x = then end machine same comes holds in
      record {
        run = record {
          out = x.run.out;
          end = x.run.end;
          machine = x.run.machine;
          places = places ++ x.run.places;
          bytes = bytes ++ x.run.bytes;
          holds = x.run.holds;
          same = x.run.same;
          row = row_append places x.run.places m machine x.run.machine bytes x.run.bytes row x.run.row;
          writes = x.run.writes ∙ ap (λ l. l ++ x.run.bytes) writes ∙ append_assoc s.out bytes x.run.bytes;
          comes = x.run.comes;
          rises = λ t. let both = and_parts f g t in rising_append places x.run.places place mid next (rises both.0) (x.run.rises both.1);
          moved = moved_later x.run.out places x.run.places x.run.moved;
        };
        within = both_in places x.run.places inside x.within;
        last = x.last;
      }
  onward_by f g Q M place mid next s m (Leaves e) end machine places bytes holds same row writes comes rises moved inside last within then = record {
    run = record {
      out = Leaves e;
      end = end;
      machine = machine;
      places = places;
      bytes = bytes;
      holds = holds;
      same = same;
      row = row;
      writes = writes;
      comes = left e comes;
      rises = λ t. let both = and_parts f g t in rising_to places place mid next (within both.1) (rises both.0);
      moved = moved;
    };
    within = inside;
    last = last;
  }
    where
      left : (e : Exit) → Comes entry (Leaves e) mid end machine → Comes entry (Leaves e) next end machine
      left (ToLabel k) c = c
      left (ToPlace a) c = c
      left (ToEnd report) c = c

  pub onward : (f g : Bool) (Q : Post) (M : Core → Type 0) (place mid next : ℕ) (s : Core) (m : Machine) → EndsWithin code entry own f (on_falls M Q) place mid s m
      → (g ≡ true → mid ≤ next)
      → ((t : Core) (n : Machine) → SameCode code t.mem → IsAt t mid n → M t → EndsWithin code entry own g Q mid next t n)
      → EndsWithin code entry own (f && g) Q place next s m
  onward f g Q M place mid next s m x within then =
      onward_by f g Q M place mid next s m x.run.out x.run.end x.run.machine x.run.places x.run.bytes x.run.holds x.run.same x.run.row x.run.writes x.run.comes x.run.rises x.run.moved x.within x.last within then
