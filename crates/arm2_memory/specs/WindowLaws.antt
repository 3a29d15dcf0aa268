-- A window is a lawful memory. These lemmas are beside the definition since the law of an implementation can cite nothing
-- of its own crate's proofs.
use Rattle.std.proofs.Common.{◌≡◌, ℕ, ◌+◌, ◌%◌, ◌<◌, ◌≤◌, Bool, true, false, arith}
use Rattle.std.proofs.lemmas.Bool.Decides.{nat_tests}
use Rattle.arm2_cpu.specs.Memory.{IsLawful, word_address}
use Rattle.arm2_memory.specs.Window.{is_between, window, IsPlace}

between-true : (low high at : ℕ) → is_between low high at ≡ true → (low ≤ at) × (at < high)
between-true low high at is = grind (arith, nat_tests)

between_words : (low high at : ℕ) → low % 4 ≡ 0 → high % 4 ≡ 0 → is_between low high at ≡ is_between low high (word_address at)
between_words low high at from to = grind (arith, nat_tests)

pub window-lawful : (start end low high : ℕ) → IsPlace start end low high → IsLawful (window start end low high)
window-lawful start end low high is = record { within = within; whole_words = words }
  where
    within : (user : Bool) (at : ℕ) → (window start end low high).allows user at ≡ true → (start ≤ at) × (at < start + (window start end low high).size)
    within true at here = let k = between-true low high at here in (omega (arith, k, is.begins), omega (arith, k, is.begins, is.ends))
    within false at here = let k = between-true start end at here in (k.0, omega (arith, k))

    words : (user : Bool) (at : ℕ) → (window start end low high).allows user at ≡ (window start end low high).allows user (word_address at)
    words true at = between_words low high at is.low_aligned is.high_aligned
    words false at = between_words start end at is.start_aligned is.end_aligned
