-- The words of a piece do on the board what the piece owes, by the piece, and each step is made at an own address.
use Rattle.std.proofs.Common.{◌≡◌, ℕ, zero, suc, ◌+◌, ◌-◌, ◌*◌, ◌%◌, ◌<◌, ◌≤◌, ◌&&◌, not, nat_le, nat_lt, Bool, true, false, List, [], ◌∷◌, ◌++◌, refl, sym, ap, subst, ◌∙◌, arith, ltb-true, lt-ltb, le-leb, append-nil}
use Rattle.std.proofs.lemmas.Bool.{and_parts, and_from, false≢true}
use Rattle.bv_base.specs.MemoryMap.{image_start}
use Rattle.arm_isa.specs.declared.instruction.Instr.{Instr}
use Rattle.arm_isa.specs.declared.instruction.Instr.TheVariants.{Branch, Swi}
use Rattle.arm_isa.specs.Numbers.{AL}
use Rattle.arm_isa.specs.Words.{means}
use Rattle.arm2_machine.specs.Machine.{Machine}
use Rattle.arm2_machine.specs.Swi.{swi_end}
use Rattle.arm_core.specs.Core.{Core, put, word, meets, IsGood, IsAt}
use Rattle.arm_core.specs.Effects.{is_plain, executed, link_value, return_place}
use Rattle.arm_core.specs.Made.{Makes, AtInstruction}
use Rattle.arm_core.proofs.BranchSteps.{branch-made, skip-made, link-made, link-lt, link-returns, jump-made}
use Rattle.arm_core.proofs.CallSteps.{end-made}
use Rattle.arm_core.proofs.MemoryWords.{word-same}
use Rattle.arm_core.proofs.Steps.{plain-made}
use Rattle.code_frag.specs.declared.item.Item.{Item}
use Rattle.code_frag.specs.declared.item.Item.TheVariants.{Ins, Jump}
use Rattle.code_frag.specs.Demands.{ToLabel, ToPlace, ToEnd, Out, Falls, Leaves, Post, on_falls, Either, turns, rounds, at_return, Wp}
use Rattle.code_frag.specs.Language.{Piece, Skip, Do, Seq, If, When, While, Repeat, Call, Leave, LeaveIf, LeaveTo, Halt, contrary, over, back_over, branch, jump_to, size, items, is_well_formed, is_flat, calls}
use Rattle.code_frag.specs.Places.{data_start}
use Rattle.code_frag.specs.Runs.{Stands, StandsItem, IsCode, SameCode, EndsAt, Meets, MeetEach}
use Rattle.code_frag.specs.Within.{AllIn, IsOwn, words_at, LastIn, EndsWithin, MeetsWithin, MeetEachWithin}
use Rattle.code_frag.proofs.Branches.{target-over, target-back, meets-contrary, stands_first, stands_rest, stands_front, stands_back}
use Rattle.code_frag.proofs.Ends.{stays, weakens, loosens, asks_else, by_falls, steps_then, leaves_by, onward}
use Rattle.code_frag.proofs.Owed.{owes-can, owes-then, owes-code}

-- n words lie where code lies, at own addresses
record Lies (own : ℕ → Bool) (place n : ℕ) : Type 0 where
  low : image_start ≤ place
  aligned : place % 4 ≡ 0
  high : place + 4 * n ≤ data_start
  mine : (a : ℕ) → place ≤ a → a < place + 4 * n → own a ≡ true

module _ (code entry : ℕ → ℕ) (own : ℕ → Bool) (Asks : ℕ → Core → Type 0) (Does : ℕ → Core → Out → Core → Type 0) where
  -- the board is at an instruction of the code
  at_word : (s : Core) (pc : ℕ) (m : Machine) (i : Instr) → SameCode code s.mem → IsAt s pc m → image_start ≤ pc → pc + 4 ≤ data_start → means (word code pc) ≡ i → AtInstruction s pc m i
  at_word s pc m i same is low high there = record {
    is = is;
    inside = omega (arith, high);
    instruction = ap means (word-same s.mem code pc (λ b above below. same.kept b (omega (arith, low, above)) (omega (arith, high, below)))) ∙ there;
  }

  -- another address after a piece
  ends_at : (flat : Bool) (Q : Post) (place next to : ℕ) (s : Core) (m : Machine) → next ≡ to → EndsWithin code entry own flat Q place next s m → EndsWithin code entry own flat Q place to s m
  ends_at flat Q place next to s m e x = subst (λ n. EndsWithin code entry own flat Q place n s m) e x

  -- another address before it
  begins_at : (flat : Bool) (Q : Post) (place next to : ℕ) (s : Core) (m : Machine) → to ≡ place → EndsWithin code entry own flat Q place next s m → EndsWithin code entry own flat Q to next s m
  begins_at flat Q place next to s m e x = subst (λ n. EndsWithin code entry own flat Q n next s m) (sym e) x

  -- the branch of a condition that the part after it has: it is passed where the condition holds
  passes : (k n : ℕ) (s : Core) (pc : ℕ) (m : Machine) → SameCode code s.mem → IsAt s pc m → image_start ≤ pc → pc + 4 ≤ data_start → StandsItem code entry pc (branch (contrary k) (over n)) → meets k s ≡ true → Makes s m (pc + 4) s
  passes k n s pc m same is low high there holding =
      skip-made s pc m (contrary k) false (over n) (at_word s pc m _ same is low high there) (meets-contrary k s ∙ ap not holding)

  -- and made where it fails
  jumps_over : (k n : ℕ) (s : Core) (pc : ℕ) (m : Machine) → SameCode code s.mem → IsAt s pc m → image_start ≤ pc → pc + 4 + 4 * n ≤ data_start → StandsItem code entry pc (branch (contrary k) (over n)) → meets k s ≡ false → Makes s m (pc + 4 + 4 * n) s
  jumps_over k n s pc m same is low high there fails =
      subst (λ a. Makes s m a s) (target-over pc n (omega (arith, high)))
      (branch-made s pc m (contrary k) (over n) (at_word s pc m _ same is low (omega (arith, high)) there) (meets-contrary k s ∙ ap not fails))

  -- a branch that is always made, over words and back over words
  goes_over : (n : ℕ) (s : Core) (pc : ℕ) (m : Machine) → SameCode code s.mem → IsAt s pc m → image_start ≤ pc → pc + 4 + 4 * n ≤ data_start → StandsItem code entry pc (branch AL (over n)) → Makes s m (pc + 4 + 4 * n) s
  goes_over n s pc m same is low high there =
      subst (λ a. Makes s m a s) (target-over pc n (omega (arith, high))) (branch-made s pc m AL (over n) (at_word s pc m _ same is low (omega (arith, high)) there) refl)

  goes_back : (k n : ℕ) (s : Core) (pc : ℕ) (m : Machine) → SameCode code s.mem → IsAt s pc m → image_start ≤ pc → pc + 4 ≤ data_start → 4 * n ≤ pc → StandsItem code entry pc (branch k (back_over n)) → meets k s ≡ true → Makes s m (pc - 4 * n) s
  goes_back k n s pc m same is low high enough there holding =
      subst (λ a. Makes s m a s) (target-back pc n enough (omega (arith, high))) (branch-made s pc m k (back_over n) (at_word s pc m _ same is low high there) holding)

  -- what is said of a piece: at any place, from any board
  abbrev Sound : Piece → Type 1
  Sound p = (Q : Post) (pc : ℕ) (s : Core) (m : Machine) → Lies own pc (size p) → Stands (items p) code entry pc → SameCode code s.mem → IsAt s pc m → Wp Asks Does p Q s → EndsWithin code entry own (is_flat p) Q pc (pc + 4 * size p) s m

  sound_do : (i : Instr) → is_plain i ≡ true → Sound (Do i)
  sound_do i plain Q pc s m lies stands same is owes =
      let at = at_word s pc m i same is lies.low (omega (arith, lies.high)) (stands_first (Ins i) [] code entry pc stands) in
      let made = plain-made i s pc m at plain (owes-can i (Q Falls) s owes) in
      steps_then code entry own true Q pc (pc + 4) (pc + 4 * 1) s (executed i s) m made is (lies.mine pc (omega arith) (omega arith)) (λ t. omega arith)
      (stays code entry own Q (pc + 4) (pc + 4 * 1) (executed i s) made.machine (owes-code code i (Q Falls) s owes same) made.is (omega arith) (owes-then i (Q Falls) s is.good plain owes))

  sound_seq : (a b : Piece) → Sound a → Sound b → Sound (Seq a b)
  sound_seq a b first second Q pc s m lies stands same is wp =
      onward code entry own (is_flat a) (is_flat b) Q (Wp Asks Does b Q) pc (pc + 4 * size a) (pc + 4 * (size a + size b)) s m
      (first (on_falls (Wp Asks Does b Q) Q) pc s m (record { low = lies.low; aligned = lies.aligned; high = omega (arith, lies.high); mine = λ a l h. lies.mine a (omega (arith, l)) (omega (arith, h)) }) (stands_front (items a) (items b) code entry pc stands) same is wp)
      (λ t. omega arith)
      (λ t n kept at owed. ends_at (is_flat b) Q (pc + 4 * size a) _ _ t n (omega arith)
      (second Q (pc + 4 * size a) t n (record { low = omega (arith, lies.low); aligned = omega (arith, lies.aligned); high = omega (arith, lies.high); mine = λ a l h. lies.mine a (omega (arith, l)) (omega (arith, h)) }) (stands_back a (items b) code entry pc stands) kept at owed))

  sound_if : (k : ℕ) (a b : Piece) → Sound a → Sound b → Sound (If k a b)
  sound_if k a b first second Q pc s m lies stands same is wp = each (meets k s) refl
    where
      over_b : Item
      over_b = branch AL (over (size b))

      rest : Stands (items a ++ (over_b ∷ items b)) code entry (pc + 4)
      rest = stands_rest (branch (contrary k) (over (suc (size a)))) (items a ++ (over_b ∷ items b)) code entry pc stands

      late : Stands (over_b ∷ items b) code entry (pc + 4 + 4 * size a)
      late = stands_back a (over_b ∷ items b) code entry (pc + 4) rest

      test : StandsItem code entry pc (branch (contrary k) (over (suc (size a))))
      test = stands_first (branch (contrary k) (over (suc (size a)))) (items a ++ (over_b ∷ items b)) code entry pc stands

      -- after the first part, over the second
      after_first : (t : Core) (n : Machine) → SameCode code t.mem → IsAt t (pc + 4 + 4 * size a) n → Q Falls t → EndsWithin code entry own true Q (pc + 4 + 4 * size a) (pc + 4 * (1 + (size a + (1 + size b)))) t n
      after_first t n kept at holds =
          let mid = pc + 4 + 4 * size a in
          let made = goes_over (size b) t mid n kept at (omega (arith, lies.low)) (omega (arith, lies.high)) (stands_first over_b (items b) code entry mid late) in
          steps_then code entry own true Q mid (mid + 4 + 4 * size b) _ t t n made at (lies.mine mid (omega arith) (omega arith)) (λ f. omega arith)
          (stays code entry own Q (mid + 4 + 4 * size b) _ t made.machine kept made.is (omega arith) holds)

      each : (c : Bool) → meets k s ≡ c → EndsWithin code entry own (is_flat a && is_flat b) Q pc (pc + 4 * (1 + (size a + (1 + size b)))) s m
      each true e =
          let made = passes k (suc (size a)) s pc m same is lies.low (omega (arith, lies.high)) test e in
          let next = pc + 4 * (1 + (size a + (1 + size b))) in
          let mid = pc + 4 + 4 * size a in
          steps_then code entry own (is_flat a && is_flat b) Q pc (pc + 4) next s s m made is (lies.mine pc (omega arith) (omega arith)) (λ f. omega arith)
          (weakens code entry own (is_flat a && true) (is_flat a && is_flat b) Q (pc + 4) next s made.machine (λ f. and_from (is_flat a) true (and_parts (is_flat a) (is_flat b) f).0 refl)
          (onward code entry own (is_flat a) true Q (Q Falls) (pc + 4) mid next s made.machine
          (by_falls code entry own (is_flat a) Q (pc + 4) mid s made.machine
          (first Q (pc + 4) s made.machine (record { low = omega (arith, lies.low); aligned = omega (arith, lies.aligned); high = omega (arith, lies.high); mine = λ a l h. lies.mine a (omega (arith, l)) (omega (arith, h)) }) (stands_front (items a) (over_b ∷ items b) code entry (pc + 4) rest) same made.is (wp.0 e)))
          (λ f. omega arith) after_first))
      each false e =
          let made = jumps_over k (suc (size a)) s pc m same is lies.low (omega (arith, lies.high)) test e in
          let next = pc + 4 * (1 + (size a + (1 + size b))) in
          let to = pc + 4 + 4 * suc (size a) in
          let there : Stands (items b) code entry to = subst (Stands (items b) code entry) (let e : pc + 4 + 4 * size a + 4 ≡ to = omega arith in e) (stands_rest over_b (items b) code entry (pc + 4 + 4 * size a) late) in
          steps_then code entry own (is_flat a && is_flat b) Q pc to next s s m made is (lies.mine pc (omega arith) (omega arith)) (λ f. omega arith)
          (weakens code entry own (is_flat b) (is_flat a && is_flat b) Q to next s made.machine (λ f. (and_parts (is_flat a) (is_flat b) f).1)
          (ends_at (is_flat b) Q to (to + 4 * size b) next s made.machine (omega arith)
          (second Q to s made.machine (record { low = omega (arith, lies.low); aligned = omega (arith, lies.aligned); high = omega (arith, lies.high); mine = λ a l h. lies.mine a (omega (arith, l)) (omega (arith, h)) }) there same made.is (wp.1 e))))

  sound_when : (k : ℕ) (a : Piece) → Sound a → Sound (When k a)
  sound_when k a first Q pc s m lies stands same is wp = each (meets k s) refl
    where
      test : StandsItem code entry pc (branch (contrary k) (over (size a)))
      test = stands_first (branch (contrary k) (over (size a))) (items a) code entry pc stands

      each : (c : Bool) → meets k s ≡ c → EndsWithin code entry own (is_flat a) Q pc (pc + 4 * (1 + size a)) s m
      each true e =
          let made = passes k (size a) s pc m same is lies.low (omega (arith, lies.high)) test e in
          let next = pc + 4 * (1 + size a) in
          steps_then code entry own (is_flat a) Q pc (pc + 4) next s s m made is (lies.mine pc (omega arith) (omega arith)) (λ f. omega arith)
          (ends_at (is_flat a) Q (pc + 4) (pc + 4 + 4 * size a) next s made.machine (omega arith)
          (first Q (pc + 4) s made.machine (record { low = omega (arith, lies.low); aligned = omega (arith, lies.aligned); high = omega (arith, lies.high); mine = λ a l h. lies.mine a (omega (arith, l)) (omega (arith, h)) }) (stands_rest (branch (contrary k) (over (size a))) (items a) code entry pc stands) same made.is (wp.0 e)))
      each false e =
          let made = jumps_over k (size a) s pc m same is lies.low (omega (arith, lies.high)) test e in
          let next = pc + 4 * (1 + size a) in
          weakens code entry own true (is_flat a) Q pc next s m (λ f. refl)
          (steps_then code entry own true Q pc (pc + 4 + 4 * size a) next s s m made is (lies.mine pc (omega arith) (omega arith)) (λ f. omega arith)
          (stays code entry own Q (pc + 4 + 4 * size a) next s made.machine same made.is (omega arith) (wp.1 e)))

  -- ---- loops

  -- at most n turns of a loop whose test comes first
  while_ends : (n : ℕ) (p : Piece) (k : ℕ) (b : Piece) → Sound p → Sound b → (Q : Post) (pc : ℕ) (s : Core) (m : Machine) → Lies own pc (size (While p k b)) → Stands (items (While p k b)) code entry pc
      → SameCode code s.mem → IsAt s pc m → turns (Wp Asks Does p) k (Wp Asks Does b) Q n s → EndsWithin code entry own false Q pc (pc + 4 * size (While p k b)) s m
  while_ends zero p k b first second Q pc s m lies stands same is owed = absurd owed
  while_ends (suc n) p k b first second Q pc s m lies stands same is owed =
      turn (λ t l kept at more. while_ends n p k b first second Q pc t l lies stands kept at more)
    where
      back : Item
      back = branch AL (back_over (size p + (1 + size b)))

      test_item : Item
      test_item = branch (contrary k) (over (suc (size b)))

      next : ℕ
      next = pc + 4 * (size p + (1 + (size b + 1)))

      -- where the branch of the test is, where the body begins, and where the branch back is
      at_test : ℕ
      at_test = pc + 4 * size p

      at_back : ℕ
      at_back = at_test + 4 + 4 * size b

      late : Stands (test_item ∷ (items b ++ (back ∷ []))) code entry at_test
      late = stands_back p (test_item ∷ (items b ++ (back ∷ []))) code entry pc stands

      body : Stands (items b ++ (back ∷ [])) code entry (at_test + 4)
      body = stands_rest test_item (items b ++ (back ∷ [])) code entry at_test late

      turn : ((t : Core) (l : Machine) → SameCode code t.mem → IsAt t pc l → turns (Wp Asks Does p) k (Wp Asks Does b) Q n t → EndsWithin code entry own false Q pc (pc + 4 * (size p + (1 + (size b + 1)))) t l)
          → EndsWithin code entry own false Q pc (pc + 4 * (size p + (1 + (size b + 1)))) s m
      turn again =
          onward code entry own false false Q Test pc at_test next s m
          (loosens code entry own (is_flat p) (on_falls Test Q) pc at_test s m
          (first (on_falls Test Q) pc s m (record { low = lies.low; aligned = lies.aligned; high = omega (arith, lies.high); mine = λ a l h. lies.mine a (omega (arith, l)) (omega (arith, h)) }) (stands_front (items p) (test_item ∷ (items b ++ (back ∷ []))) code entry pc stands) same is owed))
          (λ f. omega arith)
          (λ t l kept at either. tested t l kept at either (meets k t) refl)
        where
          Test : Core → Type 0
          Test t = Either (meets k t) (Wp Asks Does b (on_falls (turns (Wp Asks Does p) k (Wp Asks Does b) Q n) Q) t) (Q Falls t)

          tested : (t : Core) (l : Machine) → SameCode code t.mem → IsAt t at_test l → Test t → (c : Bool) → meets k t ≡ c → EndsWithin code entry own false Q at_test next t l
          tested t l kept at either true e =
              let made = passes k (suc (size b)) t at_test l kept at (omega (arith, lies.low)) (omega (arith, lies.high)) (stands_first test_item (items b ++ (back ∷ [])) code entry at_test late) e in
              let More : Core → Type 0 = turns (Wp Asks Does p) k (Wp Asks Does b) Q n in
              steps_then code entry own false Q at_test (at_test + 4) next t t l made at (lies.mine at_test (omega arith) (omega arith)) (λ f. absurd (false≢true f))
              (onward code entry own false false Q More (at_test + 4) at_back next t made.machine
              (loosens code entry own (is_flat b) (on_falls More Q) (at_test + 4) at_back t made.machine
              (second (on_falls More Q) (at_test + 4) t made.machine (record { low = omega (arith, lies.low); aligned = omega (arith, lies.aligned); high = omega (arith, lies.high); mine = λ a l h. lies.mine a (omega (arith, l)) (omega (arith, h)) })
              (stands_front (items b) (back ∷ []) code entry (at_test + 4) body) kept made.is (either.0 e)))
              (λ f. omega arith)
              (λ u j same_then there more.
              let returned = goes_back AL (size p + (1 + size b)) u at_back j same_then there (omega (arith, lies.low)) (omega (arith, lies.high)) (omega (arith, lies.low)) (stands_first back [] code entry at_back (stands_back b (back ∷ []) code entry (at_test + 4) body)) refl in
              let to = at_back - 4 * (size p + (1 + size b)) in
              let first_word : to ≡ pc = omega arith in
              steps_then code entry own false Q at_back to next u u j returned there (lies.mine at_back (omega arith) (omega arith)) (λ f. absurd (false≢true f))
              (begins_at false Q pc next to u returned.machine first_word (again u returned.machine same_then (subst (λ a. IsAt u a returned.machine) first_word returned.is) more))))
          tested t l kept at either false e =
              let made = jumps_over k (suc (size b)) t at_test l kept at (omega (arith, lies.low)) (omega (arith, lies.high)) (stands_first test_item (items b ++ (back ∷ [])) code entry at_test late) e in
              let to = at_test + 4 + 4 * suc (size b) in
              steps_then code entry own false Q at_test to next t t l made at (lies.mine at_test (omega arith) (omega arith)) (λ f. absurd (false≢true f))
              (loosens code entry own true Q to next t made.machine (stays code entry own Q to next t made.machine kept made.is (omega arith) (either.1 e)))

  sound_while : (p : Piece) (k : ℕ) (b : Piece) → Sound p → Sound b → Sound (While p k b)
  sound_while p k b first second Q pc s m lies stands same is wp = while_ends wp.0 p k b first second Q pc s m lies stands same is wp.1

  -- at most n turns of a loop whose test comes last
  repeat_ends : (n : ℕ) (b : Piece) (k : ℕ) → Sound b → (Q : Post) (pc : ℕ) (s : Core) (m : Machine) → Lies own pc (size (Repeat b k)) → Stands (items (Repeat b k)) code entry pc
      → SameCode code s.mem → IsAt s pc m → rounds (Wp Asks Does b) k Q n s → EndsWithin code entry own false Q pc (pc + 4 * size (Repeat b k)) s m
  repeat_ends zero b k body Q pc s m lies stands same is owed = absurd owed
  repeat_ends (suc n) b k body Q pc s m lies stands same is owed =
      round (λ t l kept at more. repeat_ends n b k body Q pc t l lies stands kept at more)
    where
      back : Item
      back = branch k (back_over (size b))

      next : ℕ
      next = pc + 4 * (size b + 1)

      at_back : ℕ
      at_back = pc + 4 * size b

      test : StandsItem code entry at_back back
      test = stands_first back [] code entry at_back (stands_back b (back ∷ []) code entry pc stands)

      round : ((t : Core) (l : Machine) → SameCode code t.mem → IsAt t pc l → rounds (Wp Asks Does b) k Q n t → EndsWithin code entry own false Q pc (pc + 4 * (size b + 1)) t l)
          → EndsWithin code entry own false Q pc (pc + 4 * (size b + 1)) s m
      round again =
          onward code entry own false false Q Test pc at_back next s m
          (loosens code entry own (is_flat b) (on_falls Test Q) pc at_back s m
          (body (on_falls Test Q) pc s m (record { low = lies.low; aligned = lies.aligned; high = omega (arith, lies.high); mine = λ a l h. lies.mine a (omega (arith, l)) (omega (arith, h)) }) (stands_front (items b) (back ∷ []) code entry pc stands) same is owed))
          (λ f. omega arith)
          (λ t l kept at either. tested t l kept at either (meets k t) refl)
        where
          Test : Core → Type 0
          Test t = Either (meets k t) (rounds (Wp Asks Does b) k Q n t) (Q Falls t)

          tested : (t : Core) (l : Machine) → SameCode code t.mem → IsAt t at_back l → Test t → (c : Bool) → meets k t ≡ c → EndsWithin code entry own false Q at_back next t l
          tested t l kept at either true e =
              let made = goes_back k (size b) t at_back l kept at (omega (arith, lies.low)) (omega (arith, lies.high)) (omega arith) test e in
              let to = at_back - 4 * size b in
              let first_word : to ≡ pc = omega arith in
              steps_then code entry own false Q at_back to next t t l made at (lies.mine at_back (omega arith) (omega arith)) (λ f. absurd (false≢true f))
              (begins_at false Q pc next to t made.machine first_word (again t made.machine kept (subst (λ a. IsAt t a made.machine) first_word made.is) (either.0 e)))
          tested t l kept at either false e =
              let made = skip-made t at_back l k false (back_over (size b)) (at_word t at_back l _ kept at (omega (arith, lies.low)) (omega (arith, lies.high)) test) e in
              steps_then code entry own false Q at_back (at_back + 4) next t t l made at (lies.mine at_back (omega arith) (omega arith)) (λ f. absurd (false≢true f))
              (loosens code entry own true Q (at_back + 4) next t made.machine (stays code entry own Q (at_back + 4) next t made.machine kept made.is (omega arith) (either.1 e)))

  sound_repeat : (b : Piece) (k : ℕ) → Sound b → Sound (Repeat b k)
  sound_repeat b k body Q pc s m lies stands same is wp = repeat_ends wp.0 b k body Q pc s m lies stands same is wp.1

  -- ---- calls and exits

  sound_call : (e : ℕ) → MeetsWithin code entry own Asks Does e → Sound (Call e)
  sound_call e callee Q pc s m lies stands same is wp =
      let item = stands_first (Jump AL true (record { number = e })) [] code entry pc stands in
      let r = link_value pc s in
      let t = put 14 r s in
      let at = at_word s pc m (Branch AL true item.0) same is lies.low (omega (arith, lies.high)) item.1 in
      let made : Makes s m (entry e) t = subst (λ a. Makes s m a t) item.2 (link-made s pc m item.0 at) in
      let owed = wp r (link-lt pc s at.inside) in
      let back : return_place r ≡ pc + 4 * 1 = link-returns pc s at.inside lies.aligned ∙ omega arith in
      steps_then code entry own false Q pc (entry e) (pc + 4 * 1) s t m made is (lies.mine pc (omega arith) (omega arith)) (λ f. absurd (false≢true f))
      (ends_at false Q (entry e) (return_place r) (pc + 4 * 1) t made.machine back
      (asks_else code entry own false (Does e t) Q (entry e) (return_place r) t made.machine owed.1 (callee.runs t made.machine same made.is owed.0)))

  sound_leave : (e : ℕ) → Sound (Leave e)
  sound_leave e Q pc s m lies stands same is wp =
      let item = stands_first (Jump AL false (record { number = e })) [] code entry pc stands in
      let made : Makes s m (entry e) s = subst (λ a. Makes s m a s) item.2 (branch-made s pc m AL item.0 (at_word s pc m _ same is lies.low (omega (arith, lies.high)) item.1) refl) in
      leaves_by code entry own Q pc (entry e) (pc + 4 * 1) s m (ToLabel e) made is (lies.mine pc (omega arith) (omega arith)) same (omega arith) made.is tt wp

  sound_leave_if : (k e : ℕ) → Sound (LeaveIf k e)
  sound_leave_if k e Q pc s m lies stands same is wp = each (meets k s) refl
    where
      item : StandsItem code entry pc (Jump k false (record { number = e }))
      item = stands_first (Jump k false (record { number = e })) [] code entry pc stands

      each : (c : Bool) → meets k s ≡ c → EndsWithin code entry own true Q pc (pc + 4 * 1) s m
      each true holding =
          let made : Makes s m (entry e) s = subst (λ a. Makes s m a s) item.2 (branch-made s pc m k item.0 (at_word s pc m _ same is lies.low (omega (arith, lies.high)) item.1) holding) in
          leaves_by code entry own Q pc (entry e) (pc + 4 * 1) s m (ToLabel e) made is (lies.mine pc (omega arith) (omega arith)) same (omega arith) made.is tt (wp.0 holding)
      each false fails =
          let made = skip-made s pc m k false item.0 (at_word s pc m _ same is lies.low (omega (arith, lies.high)) item.1) fails in
          steps_then code entry own true Q pc (pc + 4) (pc + 4 * 1) s s m made is (lies.mine pc (omega arith) (omega arith)) (λ f. omega arith)
          (stays code entry own Q (pc + 4) (pc + 4 * 1) s made.machine same made.is (omega arith) (wp.1 fails))

  sound_leave_to : (rm : ℕ) → rm < 15 → Sound (LeaveTo rm)
  sound_leave_to rm low Q pc s m lies stands same is wp =
      let made = jump-made s pc m rm (at_word s pc m _ same is lies.low (omega (arith, lies.high)) (stands_first (jump_to rm) [] code entry pc stands)) low in
      leaves_by code entry own Q pc _ (pc + 4 * 1) s m (ToPlace (return_place (s.regs rm))) made is (lies.mine pc (omega arith) (omega arith)) same (omega arith) made.is tt wp

  sound_halt : Sound Halt
  sound_halt Q pc s m lies stands same is wp = record {
    run = record {
      out = Leaves (ToEnd wp.0);
      end = s;
      machine = m;
      places = [];
      bytes = [];
      holds = wp.2;
      same = same;
      row = (refl, refl);
      writes = sym (append-nil s.out);
      comes = (pc, is, end-made s pc m wp.0 (at_word s pc m _ same is lies.low (omega (arith, lies.high)) (stands_first (Ins (Swi AL swi_end)) [] code entry pc stands)) wp.1);
      rises = λ f. omega arith;
      moved = tt;
    };
    within = tt;
    last = ap own is.pc ∙ lies.mine pc (omega arith) (omega arith);
  }

  -- ---- all pieces

  meet_front : (es fs : List ℕ) → MeetEachWithin code entry own Asks Does (es ++ fs) → MeetEachWithin code entry own Asks Does es
  meet_front [] fs all = tt
  meet_front (e ∷ es) fs all = (all.0, meet_front es fs all.1)

  meet_back : (es fs : List ℕ) → MeetEachWithin code entry own Asks Does (es ++ fs) → MeetEachWithin code entry own Asks Does fs
  meet_back [] fs all = all
  meet_back (e ∷ es) fs all = meet_back es fs all.1

  pieces_sound : (p : Piece) → is_well_formed p ≡ true → MeetEachWithin code entry own Asks Does (calls p) → Sound p
  pieces_sound Skip formed callees Q pc s m lies stands same is wp = stays code entry own Q pc (pc + 4 * 0) s m same is (omega arith) wp
  pieces_sound (Do i) formed callees Q pc s m lies stands same is wp = sound_do i formed Q pc s m lies stands same is wp
  pieces_sound (Seq a b) formed callees Q pc s m lies stands same is wp =
      let f = and_parts (is_well_formed a) (is_well_formed b) formed in
      sound_seq a b (pieces_sound a f.0 (meet_front (calls a) (calls b) callees)) (pieces_sound b f.1 (meet_back (calls a) (calls b) callees)) Q pc s m lies stands same is wp
  pieces_sound (If k a b) formed callees Q pc s m lies stands same is wp =
      let f = and_parts (is_well_formed a) (is_well_formed b) formed in
      sound_if k a b (pieces_sound a f.0 (meet_front (calls a) (calls b) callees)) (pieces_sound b f.1 (meet_back (calls a) (calls b) callees)) Q pc s m lies stands same is wp
  pieces_sound (When k a) formed callees Q pc s m lies stands same is wp = sound_when k a (pieces_sound a formed callees) Q pc s m lies stands same is wp
  pieces_sound (While p k b) formed callees Q pc s m lies stands same is wp =
      let f = and_parts (is_well_formed p) (is_well_formed b) formed in
      sound_while p k b (pieces_sound p f.0 (meet_front (calls p) (calls b) callees)) (pieces_sound b f.1 (meet_back (calls p) (calls b) callees)) Q pc s m lies stands same is wp
  pieces_sound (Repeat b k) formed callees Q pc s m lies stands same is wp = sound_repeat b k (pieces_sound b formed callees) Q pc s m lies stands same is wp
  pieces_sound (Call e) formed callees Q pc s m lies stands same is wp = sound_call e callees.0 Q pc s m lies stands same is wp
  pieces_sound (Leave e) formed callees Q pc s m lies stands same is wp = sound_leave e Q pc s m lies stands same is wp
  pieces_sound (LeaveIf k e) formed callees Q pc s m lies stands same is wp = sound_leave_if k e Q pc s m lies stands same is wp
  pieces_sound (LeaveTo rm) formed callees Q pc s m lies stands same is wp = sound_leave_to rm (ltb-true rm 15 formed) Q pc s m lies stands same is wp
  pieces_sound Halt formed callees Q pc s m lies stands same is wp = sound_halt Q pc s m lies stands same is wp

  -- the words of a piece that stand where code lies, at own addresses
  lies_own : (place n : ℕ) → IsCode place n → IsOwn own place n → Lies own place n
  lies_own place n lies mine = record { low = lies.low; aligned = lies.aligned; high = lies.high; mine = mine.each }

  pub sound_within : (p : Piece) → is_well_formed p ≡ true → MeetEachWithin code entry own Asks Does (calls p) → (Q : Post) (pc : ℕ) (s : Core) (m : Machine) → IsCode pc (size p) → IsOwn own pc (size p)
      → Stands (items p) code entry pc → SameCode code s.mem → IsAt s pc m → Wp Asks Does p Q s → EndsWithin code entry own (is_flat p) Q pc (pc + 4 * size p) s m
  sound_within p formed callees Q pc s m lies mine stands same is wp = pieces_sound p formed callees Q pc s m (lies_own pc (size p) lies mine) stands same is wp

  -- ---- entries

  -- an entry: its body, and MOV PC,R14
  pub entered_within : (e : ℕ) (body : Piece) → is_well_formed body ≡ true → MeetEachWithin code entry own Asks Does (calls body) → IsCode (entry e) (size body + 1) → IsOwn own (entry e) (size body + 1)
      → Stands (items body ++ (jump_to 14 ∷ [])) code entry (entry e) → ((s : Core) → IsGood s → Asks e s → Wp Asks Does body (at_return (Does e s) s) s) → MeetsWithin code entry own Asks Does e
  entered_within e body formed callees code_lies own_lies stands owed = record { runs = runs }
    where
      lies : Lies own (entry e) (size body + 1)
      lies = lies_own (entry e) (size body + 1) code_lies own_lies

      runs : (s : Core) (m : Machine) → SameCode code s.mem → IsAt s (entry e) m → Asks e s → EndsWithin code entry own false (Does e s) (entry e) (return_place (s.regs 14)) s m
      runs s m same is asked =
          let mid = entry e + 4 * size body in
          let next = return_place (s.regs 14) in
          onward code entry own false false (Does e s) Back (entry e) mid next s m
          (loosens code entry own (is_flat body) (on_falls Back (Does e s)) (entry e) mid s m
          (asks_else code entry own (is_flat body) (at_return (Does e s) s) (on_falls Back (Does e s)) (entry e) mid s m by_out
          (pieces_sound body formed callees (at_return (Does e s) s) (entry e) s m (record { low = lies.low; aligned = lies.aligned; high = omega (arith, lies.high); mine = λ a l h. lies.mine a (omega (arith, l)) (omega (arith, h)) })
          (stands_front (items body) (jump_to 14 ∷ []) code entry (entry e) stands) same is (owed s is.good asked))))
          (λ f. absurd (false≢true f))
          (λ t n kept at back.
          let made = jump-made t mid n 14 (at_word t mid n _ kept at (omega (arith, lies.low)) (omega (arith, lies.high)) (stands_first (jump_to 14) [] code entry mid (stands_back body (jump_to 14 ∷ []) code entry (entry e) stands))) (omega arith) in
          steps_then code entry own false (Does e s) mid (return_place (t.regs 14)) next t t n made at (lies.mine mid (omega arith) (omega arith)) (λ f. absurd (false≢true f))
          (loosens code entry own true (Does e s) (return_place (t.regs 14)) next t made.machine
          (stays code entry own (Does e s) (return_place (t.regs 14)) next t made.machine kept made.is (ap return_place back.1) back.0)))
        where
          Back : Core → Type 0
          Back t = Does e s Falls t × (t.regs 14 ≡ s.regs 14)

          by_out : (o : Out) (t : Core) → IsGood t → at_return (Does e s) s o t → on_falls Back (Does e s) o t
          by_out Falls t good x = x
          by_out (Leaves x) t good q = q

-- ---- whatever the addresses are

-- the set of all addresses
everywhere : ℕ → Bool
everywhere a = true

everywhere_all : (a : ℕ) → everywhere a ≡ true
unfolding everywhere
everywhere_all a = refl

all_everywhere : (places : List ℕ) → AllIn everywhere places
all_everywhere [] = tt
all_everywhere (p ∷ ps) = (everywhere_all p, all_everywhere ps)

last_everywhere : (o : Out) (m : Machine) → LastIn everywhere o m
last_everywhere Falls m = tt
last_everywhere (Leaves (ToLabel k)) m = tt
last_everywhere (Leaves (ToPlace a)) m = tt
last_everywhere (Leaves (ToEnd report)) m = everywhere_all m.regs.pc

is_everywhere : (place n : ℕ) → IsOwn everywhere place n
is_everywhere place n = record { each = λ a low high. everywhere_all a }

module _ (code entry : ℕ → ℕ) (Asks : ℕ → Core → Type 0) (Does : ℕ → Core → Out → Core → Type 0) where
  meets_everywhere : (e : ℕ) → Meets code entry Asks Does e → MeetsWithin code entry everywhere Asks Does e
  meets_everywhere e callee = record {
    runs = λ s m same is asked. let x = callee.runs s m same is asked in record { run = x; within = all_everywhere x.places; last = last_everywhere x.out x.machine };
  }

  each_everywhere : (es : List ℕ) → MeetEach code entry Asks Does es → MeetEachWithin code entry everywhere Asks Does es
  each_everywhere [] callees = tt
  each_everywhere (e ∷ es) callees = (meets_everywhere e callees.0, each_everywhere es callees.1)

  -- what is said of a piece: at any place, from any board
  pub sound : (p : Piece) → is_well_formed p ≡ true → MeetEach code entry Asks Does (calls p) → (Q : Post) (pc : ℕ) (s : Core) (m : Machine) → IsCode pc (size p) → Stands (items p) code entry pc
      → SameCode code s.mem → IsAt s pc m → Wp Asks Does p Q s → EndsAt code entry (is_flat p) Q pc (pc + 4 * size p) s m
  sound p formed callees Q pc s m lies stands same is wp =
      (sound_within code entry everywhere Asks Does p formed (each_everywhere (calls p) callees) Q pc s m lies (is_everywhere pc (size p)) stands same is wp).run

  -- an entry: its body, and MOV PC,R14
  pub entered : (e : ℕ) (body : Piece) → is_well_formed body ≡ true → MeetEach code entry Asks Does (calls body) → IsCode (entry e) (size body + 1) → Stands (items body ++ (jump_to 14 ∷ [])) code entry (entry e)
      → ((s : Core) → IsGood s → Asks e s → Wp Asks Does body (at_return (Does e s) s) s) → Meets code entry Asks Does e
  entered e body formed callees lies stands owed =
      let x = entered_within code entry everywhere Asks Does e body formed (each_everywhere (calls body) callees) lies (is_everywhere (entry e) (size body + 1)) stands owed in
      record { runs = λ s m same is asked. (x.runs s m same is asked).run }

  -- ---- a wider set

  all_wider : (own more : ℕ → Bool) → ((a : ℕ) → own a ≡ true → more a ≡ true) → (places : List ℕ) → AllIn own places → AllIn more places
  all_wider own more wider [] all = tt
  all_wider own more wider (p ∷ ps) all = (wider p all.0, all_wider own more wider ps all.1)

  last_wider : (own more : ℕ → Bool) → ((a : ℕ) → own a ≡ true → more a ≡ true) → (o : Out) (m : Machine) → LastIn own o m → LastIn more o m
  last_wider own more wider Falls m last = tt
  last_wider own more wider (Leaves (ToLabel k)) m last = tt
  last_wider own more wider (Leaves (ToPlace a)) m last = tt
  last_wider own more wider (Leaves (ToEnd report)) m last = wider m.regs.pc last

  -- an entry whose steps are made in a set makes them in a wider one
  pub meets-wider : (own more : ℕ → Bool) (e : ℕ) → ((a : ℕ) → own a ≡ true → more a ≡ true) → MeetsWithin code entry own Asks Does e → MeetsWithin code entry more Asks Does e
  meets-wider own more e wider callee = record {
    runs = λ s m same is asked. let x = callee.runs s m same is asked in record {
      run = x.run;
      within = all_wider own more wider x.run.places x.within;
      last = last_wider own more wider x.run.out x.run.machine x.last;
    };
  }

-- the words of a piece are in their set
pub words-own : (place n : ℕ) → IsOwn (words_at place n) place n
words-own place n = record { each = λ a low high. and_from (nat_le place a) (nat_lt a (place + 4 * n)) (le-leb place a low) (lt-ltb a (place + 4 * n) high) }
