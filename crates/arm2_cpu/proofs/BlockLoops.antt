-- What the loops over the registers of a block keep.
use Rattle.std.proofs.Common.{◌≡◌, ℕ, suc, ◌+◌, ◌-◌, ◌%◌, ◌<◌, ◌≤◌, Bool, true, false, List, length, Some, None, sym, ap, ◌∙◌, arith}
use Rattle.arm2_alu.specs.declared.regs.Regs.{Regs}
use Rattle.arm2_cpu.specs.Access.{can_use}
use Rattle.arm2_cpu.specs.Block.{registers_among, registers_in, low_registers_in, next_word, refused_word, stored_value, with_block, with_words}
use Rattle.arm_isa.specs.Fields.{bit}
use Rattle.arm2_cpu.specs.Memory.{Space, word_in, with_word}
use Rattle.arm2_alu.specs.Registers.{with_banked}
use Rattle.arm2_cpu.proofs.BlockLaws.{register_allowed, rest_allowed, skipped_allowed, block_takes, block_skips, block_ends, words_take, words_skip, words_end, refused_next, refused_here, refused_none}

-- the registers from n on are still to be stored
pub record Storing (s : Space) (list : ℕ) (user : Bool) (n at : ℕ) (bytes first : List ℕ) (r : Regs) (svc : Bool) (start : ℕ) : Type 0 where
  pub aligned : at % 4 ≡ 0
  pub allowed : refused_word (length (registers_among (16 - n) n list)) s user at ≡ None
  pub rest : with_block (registers_among (16 - n) n list) s bytes r svc at ≡ with_block (registers_in list) s first r svc start

-- the registers from n on are still to be loaded
pub record Loading (s : Space) (list : ℕ) (user : Bool) (n at : ℕ) (bytes : List ℕ) (r first : Regs) (svc : Bool) (start : ℕ) : Type 0 where
  pub aligned : at % 4 ≡ 0
  pub allowed : refused_word (length (registers_among (16 - n) n list)) s user at ≡ None
  pub rest : with_words (registers_among (15 - n) n list) s bytes r svc at ≡ with_words (low_registers_in list) s bytes first svc start

-- a register that isn't listed
pub storing_skips : (s : Space) (list : ℕ) (user : Bool) (n at : ℕ) (bytes first : List ℕ) (r : Regs) (svc : Bool) (start : ℕ) → Storing s list user n at bytes first r svc start → n < 16 → bit list n ≡ false → Storing s list user (n + 1) at bytes first r svc start
storing_skips s list user n at bytes first r svc start h below clear =
    let left : 16 - n ≡ suc (16 - (n + 1)) = omega (arith, below) in
    record {
      aligned = h.aligned;
      allowed = skipped_allowed _ (16 - (n + 1)) n list s user at h.allowed clear left;
      rest = sym (block_skips _ (16 - (n + 1)) n list s bytes r svc at clear left) ∙ h.rest;
    }

-- a register that is stored
pub storing_takes : (s : Space) (list : ℕ) (user : Bool) (n at : ℕ) (bytes first : List ℕ) (r : Regs) (svc : Bool) (start value : ℕ) (after : List ℕ) → Storing s list user n at bytes first r svc start → n < 16 → bit list n ≡ true → value ≡ stored_value r svc n → after ≡ with_word s bytes at value → Storing s list user (n + 1) (next_word at) after first r svc start
storing_takes s list user n at bytes first r svc start value after h below set is stored =
    let left : 16 - n ≡ suc (16 - (n + 1)) = omega (arith, below) in
    let aligned = h.aligned in
    record {
      aligned = omega (arith, aligned);
      allowed = rest_allowed _ (16 - (n + 1)) n list s user at h.allowed set left;
      rest =
          ap (λ b. with_block (registers_among (16 - (n + 1)) (n + 1) list) s b r svc (next_word at)) (stored ∙ ap (with_word s bytes at) is)
          ∙ sym (block_takes _ (16 - (n + 1)) n list s bytes r svc at set left) ∙ h.rest;
    }

pub storing_may : (s : Space) (list : ℕ) (user : Bool) (n at : ℕ) (bytes first : List ℕ) (r : Regs) (svc : Bool) (start : ℕ) → Storing s list user n at bytes first r svc start → n < 16 → bit list n ≡ true → can_use s user at ≡ true
storing_may s list user n at bytes first r svc start h below set =
    register_allowed _ (16 - (n + 1)) n list s user at h.allowed set (omega (arith, below))

pub storing_ends : (s : Space) (list : ℕ) (user : Bool) (n at : ℕ) (bytes first : List ℕ) (r : Regs) (svc : Bool) (start : ℕ) → Storing s list user n at bytes first r svc start → 16 ≤ n → bytes ≡ with_block (registers_in list) s first r svc start
storing_ends s list user n at bytes first r svc start h over = sym (block_ends (16 - n) n list s bytes r svc at (omega (arith, over))) ∙ h.rest

pub loading_skips : (s : Space) (list : ℕ) (user : Bool) (n at : ℕ) (bytes : List ℕ) (r first : Regs) (svc : Bool) (start : ℕ) → Loading s list user n at bytes r first svc start → n < 15 → bit list n ≡ false → Loading s list user (n + 1) at bytes r first svc start
loading_skips s list user n at bytes r first svc start h below clear =
    record {
      aligned = h.aligned;
      allowed = skipped_allowed _ (16 - (n + 1)) n list s user at h.allowed clear (omega (arith, below));
      rest = sym (words_skip _ (15 - (n + 1)) n list s bytes r svc at clear (omega (arith, below))) ∙ h.rest;
    }

pub loading_takes : (s : Space) (list : ℕ) (user : Bool) (n at : ℕ) (bytes : List ℕ) (r first : Regs) (svc : Bool) (start value : ℕ) (after : Regs) → Loading s list user n at bytes r first svc start → n < 15 → bit list n ≡ true → value ≡ word_in s bytes at → after ≡ with_banked svc r n value → Loading s list user (n + 1) (next_word at) bytes after first svc start
loading_takes s list user n at bytes r first svc start value after h below set is loaded =
    let aligned = h.aligned in
    record {
      aligned = omega (arith, aligned);
      allowed = rest_allowed _ (16 - (n + 1)) n list s user at h.allowed set (omega (arith, below));
      rest =
          ap (λ x. with_words (registers_among (15 - (n + 1)) (n + 1) list) s bytes x svc (next_word at)) (loaded ∙ ap (with_banked svc r n) is)
          ∙ sym (words_take _ (15 - (n + 1)) n list s bytes r svc at set (omega (arith, below))) ∙ h.rest;
    }

pub loading_may : (s : Space) (list : ℕ) (user : Bool) (n at : ℕ) (bytes : List ℕ) (r first : Regs) (svc : Bool) (start : ℕ) → Loading s list user n at bytes r first svc start → n < 15 → bit list n ≡ true → can_use s user at ≡ true
loading_may s list user n at bytes r first svc start h below set =
    register_allowed _ (16 - (n + 1)) n list s user at h.allowed set (omega (arith, below))

pub loading_ends : (s : Space) (list : ℕ) (user : Bool) (n at : ℕ) (bytes : List ℕ) (r first : Regs) (svc : Bool) (start : ℕ) → Loading s list user n at bytes r first svc start → 15 ≤ n → r ≡ with_words (low_registers_in list) s bytes first svc start
loading_ends s list user n at bytes r first svc start h over = sym (words_end (15 - n) n list s bytes r svc at (omega (arith, over))) ∙ h.rest

-- the words from an address on are still to be looked at
pub record Checking (s : Space) (user : Bool) (left at count start : ℕ) : Type 0 where
  pub aligned : at % 4 ≡ 0
  pub rest : refused_word left s user at ≡ refused_word count s user start

pub checking_next : (s : Space) (user : Bool) (left next at count start : ℕ) → Checking s user left at count start → left ≡ suc next → can_use s user at ≡ true → Checking s user next (next_word at) count start
checking_next s user left next at count start h is allowed =
    let aligned = h.aligned in
    record { aligned = omega (arith, aligned); rest = sym (refused_next left next s user at allowed is) ∙ h.rest }

pub checking_refuses : (s : Space) (user : Bool) (left next at count start : ℕ) → Checking s user left at count start → left ≡ suc next → can_use s user at ≡ false → Some at ≡ refused_word count s user start
checking_refuses s user left next at count start h is refused = sym (refused_here left next s user at refused is) ∙ h.rest

pub checking_ends : (s : Space) (user : Bool) (left at count start : ℕ) → Checking s user left at count start → left ≡ 0 → None ≡ refused_word count s user start
checking_ends s user left at count start h is = sym (refused_none left s user at is) ∙ h.rest
