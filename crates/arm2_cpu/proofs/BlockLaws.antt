-- The registers of a list, and the words of a block.
use Rattle.std.proofs.Common.{◌≡◌, ℕ, zero, suc, ◌+◌, ◌*◌, ◌/◌, ◌%◌, ◌^◌, ◌<◌, Bool, true, false, List, ◌∷◌, length, refl, sym, ap, ◌∙◌, arith, Some, None, eqb-true}
use Rattle.std.proofs.lemmas.Bool.{eqb-false}
use Rattle.std.specs.Int.RustNames.{count_ones}
use Rattle.std.proofs.lemmas.Nat.{mod-pow-add, ones_cat, ones-le, shr-shr}
use Rattle.arm2_alu.specs.declared.regs.Regs.{Regs}
use Rattle.arm2_cpu.specs.Access.{can_use}
use Rattle.arm_isa.specs.Fields.{bit}
use Rattle.arm2_cpu.specs.Memory.{Space, word_in, with_word}
use Rattle.arm2_alu.specs.Registers.{with_banked}
use Rattle.arm2_cpu.specs.Block.{registers_among, registers_in, low_registers_in, next_word, refused_word, with_block, with_words, stored_value}

-- one register more, or none
pub among_takes : (j k n list : ℕ) → bit list n ≡ true → j ≡ suc k → registers_among j n list ≡ n ∷ registers_among k (n + 1) list
unfolding registers_among
among_takes j k n list set is = rw (is, set) refl

pub among_skips : (j k n list : ℕ) → bit list n ≡ false → j ≡ suc k → registers_among j n list ≡ registers_among k (n + 1) list
unfolding registers_among
among_skips j k n list clear is = rw (is, clear) refl

no_ones : count_ones 0 ≡ 0
unfolding count_ones
no_ones = refl

one_more : (n : ℕ) → n + count_ones 1 ≡ suc n
unfolding count_ones
one_more n = omega arith

none_more : (n : ℕ) → n + count_ones 0 ≡ n
unfolding count_ones
none_more n = omega arith

-- the number of a list's registers is that of its bits that are 1
pub count_among : (k n list : ℕ) → length (registers_among k n list) ≡ count_ones (list / 2 ^ n % 2 ^ k)
unfolding registers_among
count_among zero n list = sym (ap count_ones (let e : list / 2 ^ n % 2 ^ 0 ≡ 0 = omega arith in e) ∙ no_ones)
count_among (suc k) n list = cases (bit list n) refl (count_among k (n + 1) list)
  where
    rest : ℕ
    rest = list / 2 ^ (n + 1) % 2 ^ k

    parts : list / 2 ^ n % 2 ^ suc k ≡ rest * 2 ^ 1 + list / 2 ^ n % 2
    parts =
        ap (λ m. list / 2 ^ n % 2 ^ m) (let e : suc k ≡ k + 1 = omega arith in e)
        ∙ mod-pow-add (list / 2 ^ n) k 1
        ∙ ap (λ m. m % 2 ^ k * 2 ^ 1 + list / 2 ^ n % 2 ^ 1) (shr-shr list n 1)

    ones : count_ones (list / 2 ^ n % 2 ^ suc k) ≡ count_ones rest + count_ones (list / 2 ^ n % 2)
    ones = ap count_ones parts ∙ ones_cat 1 rest (list / 2 ^ n % 2) (omega arith)

    cases : (b : Bool) → bit list n ≡ b → length (registers_among k (n + 1) list) ≡ count_ones rest → length (registers_among (suc k) n list) ≡ count_ones (list / 2 ^ n % 2 ^ suc k)
    cases true e h =
        let one : list / 2 ^ n % 2 ≡ 1 = eqb-true _ 1 e in
        rw e (ap suc h ∙ sym (ones ∙ ap (λ b. count_ones rest + count_ones b) one ∙ one_more (count_ones rest)))
    cases false e h =
        let none : list / 2 ^ n % 2 ≡ 0 = let other = eqb-false _ 1 e in omega (arith, other) in
        rw e (h ∙ sym (ones ∙ ap (λ b. count_ones rest + count_ones b) none ∙ none_more (count_ones rest)))

pub count_is : (list : ℕ) → list < 2 ^ 16 → count_ones list ≡ length (registers_in list)
count_is list small =
    let whole : list / 2 ^ 0 % 2 ^ 16 ≡ list = omega (arith, small) in
    sym (count_among 16 0 list ∙ ap count_ones whole)

pub count_low_is : (list : ℕ) → count_ones (list % 32768) ≡ length (low_registers_in list)
count_low_is list =
    let part : list / 2 ^ 0 % 2 ^ 15 ≡ list % 32768 = omega arith in
    sym (count_among 15 0 list ∙ ap count_ones part)

pub few_ones : (n : ℕ) → n < 2 ^ 16 → count_ones n < 17
few_ones n small = let e = ones-le 16 n small in omega (arith, e)

pub fewer_ones : (n : ℕ) → count_ones (n % 32768) < 16
fewer_ones n = let e = ones-le 15 (n % 32768) (omega arith) in omega (arith, e)

pub ruleset count_laws = (count_is, count_low_is, few_ones, fewer_ones)

-- the words after the first
pub refused_next : (j k : ℕ) (s : Space) (user : Bool) (at : ℕ) → can_use s user at ≡ true → j ≡ suc k → refused_word j s user at ≡ refused_word k s user (next_word at)
unfolding refused_word
refused_next j k s user at allowed is = rw (is, allowed) refl

pub refused_here : (j k : ℕ) (s : Space) (user : Bool) (at : ℕ) → can_use s user at ≡ false → j ≡ suc k → refused_word j s user at ≡ Some at
unfolding refused_word
refused_here j k s user at refused is = rw (is, refused) refl

pub refused_none : (j : ℕ) (s : Space) (user : Bool) (at : ℕ) → j ≡ 0 → refused_word j s user at ≡ None
unfolding refused_word
refused_none j s user at is = rw is refl

-- where none of the words is refused, the first may be used
pub allowed_here : (j k : ℕ) (s : Space) (user : Bool) (at : ℕ) → refused_word j s user at ≡ None → j ≡ suc k → can_use s user at ≡ true
allowed_here j k s user at none is = cases (can_use s user at) refl
  where
    cases : (b : Bool) → can_use s user at ≡ b → can_use s user at ≡ true
    cases true e = e
    cases false e = let h = refused_here j k s user at e is in cc

-- a loop over the registers of a list: what may be used of the words that are left
pub register_allowed : (j k n list : ℕ) (s : Space) (user : Bool) (at : ℕ) → refused_word (length (registers_among j n list)) s user at ≡ None → bit list n ≡ true → j ≡ suc k → can_use s user at ≡ true
register_allowed j k n list s user at none set is =
    allowed_here (length (registers_among j n list)) (length (registers_among k (n + 1) list)) s user at none (ap length (among_takes j k n list set is))

pub rest_allowed : (j k n list : ℕ) (s : Space) (user : Bool) (at : ℕ) → refused_word (length (registers_among j n list)) s user at ≡ None → bit list n ≡ true → j ≡ suc k → refused_word (length (registers_among k (n + 1) list)) s user (next_word at) ≡ None
rest_allowed j k n list s user at none set is =
    sym (refused_next (length (registers_among j n list)) (length (registers_among k (n + 1) list)) s user at (register_allowed j k n list s user at none set is) (ap length (among_takes j k n list set is))) ∙ none

pub skipped_allowed : (j k n list : ℕ) (s : Space) (user : Bool) (at : ℕ) → refused_word (length (registers_among j n list)) s user at ≡ None → bit list n ≡ false → j ≡ suc k → refused_word (length (registers_among k (n + 1) list)) s user at ≡ None
skipped_allowed j k n list s user at none clear is = ap (λ ns. refused_word (length ns) s user at) (sym (among_skips j k n list clear is)) ∙ none

-- what is left to store
pub block_takes : (j k n list : ℕ) (s : Space) (bytes : List ℕ) (r : Regs) (svc : Bool) (at : ℕ) → bit list n ≡ true → j ≡ suc k → with_block (registers_among j n list) s bytes r svc at ≡ with_block (registers_among k (n + 1) list) s (with_word s bytes at (stored_value r svc n)) r svc (next_word at)
unfolding with_block
block_takes j k n list s bytes r svc at set is = ap (λ ns. with_block ns s bytes r svc at) (among_takes j k n list set is)

pub block_skips : (j k n list : ℕ) (s : Space) (bytes : List ℕ) (r : Regs) (svc : Bool) (at : ℕ) → bit list n ≡ false → j ≡ suc k → with_block (registers_among j n list) s bytes r svc at ≡ with_block (registers_among k (n + 1) list) s bytes r svc at
block_skips j k n list s bytes r svc at clear is = ap (λ ns. with_block ns s bytes r svc at) (among_skips j k n list clear is)

pub block_ends : (j n list : ℕ) (s : Space) (bytes : List ℕ) (r : Regs) (svc : Bool) (at : ℕ) → j ≡ 0 → with_block (registers_among j n list) s bytes r svc at ≡ bytes
unfolding with_block registers_among
block_ends j n list s bytes r svc at is = rw is refl

-- what is left to load
pub words_take : (j k n list : ℕ) (s : Space) (bytes : List ℕ) (r : Regs) (svc : Bool) (at : ℕ) → bit list n ≡ true → j ≡ suc k → with_words (registers_among j n list) s bytes r svc at ≡ with_words (registers_among k (n + 1) list) s bytes (with_banked svc r n (word_in s bytes at)) svc (next_word at)
unfolding with_words
words_take j k n list s bytes r svc at set is = ap (λ ns. with_words ns s bytes r svc at) (among_takes j k n list set is)

pub words_skip : (j k n list : ℕ) (s : Space) (bytes : List ℕ) (r : Regs) (svc : Bool) (at : ℕ) → bit list n ≡ false → j ≡ suc k → with_words (registers_among j n list) s bytes r svc at ≡ with_words (registers_among k (n + 1) list) s bytes r svc at
words_skip j k n list s bytes r svc at clear is = ap (λ ns. with_words ns s bytes r svc at) (among_skips j k n list clear is)

pub words_end : (j n list : ℕ) (s : Space) (bytes : List ℕ) (r : Regs) (svc : Bool) (at : ℕ) → j ≡ 0 → with_words (registers_among j n list) s bytes r svc at ≡ r
unfolding with_words registers_among
words_end j n list s bytes r svc at is = rw is refl

-- each of the words that aren't refused may be used
pub allowed_at : (j i : ℕ) (s : Space) (user : Bool) (at : ℕ) → at < 2 ^ 32 → refused_word j s user at ≡ None → i < j → can_use s user ((at + 4 * i) % 2 ^ 32) ≡ true
allowed_at zero i s user at word none below = absurd (omega (arith, below))
allowed_at (suc k) zero s user at word none below =
    ap (can_use s user) (let e : (at + 4 * 0) % 2 ^ 32 ≡ at = omega (arith, word) in e) ∙ allowed_here (suc k) k s user at none refl
allowed_at (suc k) (suc i) s user at word none below =
    let rest = sym (refused_next (suc k) k s user at (allowed_here (suc k) k s user at none refl) refl) ∙ none in
    let later : (at + 4 * suc i) % 2 ^ 32 ≡ (next_word at + 4 * i) % 2 ^ 32 = omega arith in
    ap (can_use s user) later ∙ allowed_at k i s user (next_word at) (omega arith) rest (omega (arith, below))

-- the last of the registers, where a list has it
pub among_last : (k n list : ℕ) → bit list (n + k) ≡ true → length (registers_among (suc k) n list) ≡ suc (length (registers_among k n list))
unfolding registers_among
among_last zero n list set =
    let here = ap (bit list) (let e : n ≡ n + 0 = omega arith in e) ∙ set in
    rw here refl
among_last (suc k) n list set = cases (bit list n) refl (among_last k (n + 1) list (ap (bit list) (let e : n + 1 + k ≡ n + suc k = omega arith in e) ∙ set))
  where
    cases : (b : Bool) → bit list n ≡ b → length (registers_among (suc k) (n + 1) list) ≡ suc (length (registers_among k (n + 1) list)) → length (registers_among (suc (suc k)) n list) ≡ suc (length (registers_among (suc k) n list))
    cases true e h = rw e (ap suc h)
    cases false e h = rw e h

-- the word for R15 may be used
pub last_allowed : (list : ℕ) (s : Space) (user : Bool) (at count : ℕ) → at < 2 ^ 32 → bit list 15 ≡ true → refused_word (length (registers_in list)) s user at ≡ None → count ≡ length (low_registers_in list) → can_use s user ((at + 4 * count) % 2 ^ 32) ≡ true
last_allowed list s user at count word set none is =
    let more = among_last 15 0 list set in
    allowed_at (length (registers_in list)) count s user at word none (omega (arith, more, is))
