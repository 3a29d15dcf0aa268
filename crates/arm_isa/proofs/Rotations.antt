-- Rotations of words.
use Rattle.std.proofs.Common.{◌≡◌, ℕ, zero, suc, ◌+◌, ◌-◌, ◌*◌, ◌/◌, ◌%◌, ◌^◌, ◌<◌, sym, ap, ◌∙◌, arith, bit_or}
use Rattle.std.proofs.lemmas.Nat.{div-mul-add, mod-mul-add, div_below, mod_below, div-add-mod', pow-add, pow_pos, or_shifted, or_comm, mul-add-lt}
use Rattle.std.proofs.Math.Nat.{mul-lt-mul_of_pos_right}
use Rattle.std.specs.Int.{w32, rotate_left, rotate_right}
use Rattle.std.specs.Int.Bits.{or_self}
use Rattle.arm_isa.specs.Immediates.{rotated}

-- a number turned left: its low part comes in front of its high part
abbrev left : ℕ → ℕ → ℕ → ℕ
left a c n = n % c * a + n / c

abbrev right : ℕ → ℕ → ℕ → ℕ
right a c n = n / a + n % a * c

right_left : (a c n : ℕ) → 0 < a → 0 < c → n < a * c → right a c (left a c n) ≡ n
right_left a c n some_a some_c small =
    let high : n / c < a = div_below n c a some_c small in
    let at1 : (n % c * a + n / c) / a ≡ n % c = div-mul-add (n % c) a (n / c) high in
    let at2 : (n % c * a + n / c) % a ≡ n / c = mod-mul-add (n % c) a (n / c) high in
    (λ i. at1 i + at2 i * c) ∙ omega (arith, div-add-mod' n c)

left_right : (a c n : ℕ) → 0 < a → 0 < c → n < c * a → left a c (right a c n) ≡ n
left_right a c n some_a some_c small =
    let high : n / a < c = div_below n a c some_a small in
    let turned : n / a + n % a * c ≡ n % a * c + n / a = omega arith in
    let at1 : (n / a + n % a * c) % c ≡ n / a = ap (λ k. k % c) turned ∙ mod-mul-add (n % a) c (n / a) high in
    let at2 : (n / a + n % a * c) / c ≡ n % a = ap (λ k. k / c) turned ∙ div-mul-add (n % a) c (n / a) high in
    (λ i. at1 i * a + at2 i) ∙ div-add-mod' n a

product : (r : ℕ) → r < 32 → 2 ^ r * 2 ^ (32 - r) ≡ 4294967296
product r small = sym (pow-add 2 r (32 - r)) ∙ ap (λ k. 2 ^ k) (let e : r + (32 - r) ≡ 32 = omega arith in e)

shifted_part : (a c n : ℕ) → 0 < a → 0 < c → n * a % (c * a) ≡ n % c * a
shifted_part a c n some_a some_c =
    let parts : n * a ≡ n / c * (c * a) + n % c * a = ap (λ k. k * a) (sym (div-add-mod' n c)) ∙ omega arith in
    ap (λ k. k % (c * a)) parts ∙ mod-mul-add (n / c) (c * a) (n % c * a) (mul-lt-mul_of_pos_right (mod_below n c some_c) some_a)

rotate_is_left : (n r : ℕ) → n < 4294967296 → r < 32 → rotate_left w32 n r ≡ left (2 ^ r) (2 ^ (32 - r)) n
rotate_is_left n zero small within =
    let whole : n * 2 ^ 0 % 2 ^ 32 ≡ n = omega (arith, small) in
    let part : n / 2 ^ 0 ≡ n = omega arith in
    (λ i. bit_or (whole i) (part i)) ∙ or_self n ∙ omega (arith, small)
rotate_is_left n (suc r) small within =
    let a = 2 ^ suc r in
    let c = 2 ^ (32 - suc r) in
    let by : suc r % 32 ≡ suc r = omega (arith, within) in
    let back : (32 - suc r % 32) % 32 ≡ 32 - suc r = omega (arith, within) in
    let size : c * a ≡ 2 ^ 32 = (let e : c * a ≡ a * c = omega arith in e) ∙ product (suc r) within in
    let high : n * a % 2 ^ 32 ≡ n % c * a = ap (λ k. n * a % k) (sym size) ∙ shifted_part a c n (pow_pos (suc r)) (pow_pos (32 - suc r)) in
    let low : n / c < a = div_below n c a (pow_pos (32 - suc r)) (omega (arith, product (suc r) within, small)) in
    (λ i. bit_or (n * 2 ^ by i % 2 ^ 32) (n / 2 ^ back i))
    ∙ ap (λ k. bit_or k (n / c)) high
    ∙ or_shifted (n % c) (suc r) (n / c) low

-- what rotate_left gives is turned back to the number
pub rotated-rotate_left : (n r : ℕ) → n < 4294967296 → r < 32 → rotated (rotate_left w32 n r) r ≡ n
rotated-rotate_left n r small within =
    ap (λ k. rotated k r) (rotate_is_left n r small within)
    ∙ right_left (2 ^ r) (2 ^ (32 - r)) n (pow_pos r) (pow_pos (32 - r)) (omega (arith, product r within, small))

-- what is turned back to the number is what rotate_left gives
pub rotate_left-rotated : (n b r : ℕ) → b < 4294967296 → r < 32 → rotated b r ≡ n → n < 4294967296 → rotate_left w32 n r ≡ b
rotate_left-rotated n b r small within is n_small =
    rotate_is_left n r n_small within ∙ ap (left (2 ^ r) (2 ^ (32 - r))) (sym is)
    ∙ left_right (2 ^ r) (2 ^ (32 - r)) b (pow_pos r) (pow_pos (32 - r)) (omega (arith, product r within, small))

-- a rotated word is a word
pub rotated-lt : (n r : ℕ) → n < 4294967296 → r < 32 → rotated n r < 4294967296
rotated-lt n r small within =
    let a = 2 ^ r in
    let c = 2 ^ (32 - r) in
    let size : c * a ≡ 2 ^ 32 = (let e : c * a ≡ a * c = omega arith in e) ∙ product r within in
    let high : n / a < c = div_below n a c (pow_pos r) (omega (arith, size, small)) in
    let below = mul-add-lt (n % a) c (n / a) a (mod_below n a (pow_pos r)) high in
    omega (arith, below, size)

-- what rotate_right of a u32 gives
pub rotate_right-rotated : (n r : ℕ) → n < 4294967296 → r < 32 → rotate_right w32 n r ≡ rotated n r
rotate_right-rotated n zero small within =
    let part : n / 2 ^ 0 ≡ n = omega arith in
    let whole : n * 2 ^ 0 % 2 ^ 32 ≡ n = omega (arith, small) in
    (λ i. bit_or (part i) (whole i)) ∙ or_self n ∙ omega (arith, small)
rotate_right-rotated n (suc r) small within =
    let a = 2 ^ suc r in
    let c = 2 ^ (32 - suc r) in
    let by : suc r % 32 ≡ suc r = omega (arith, within) in
    let back : (32 - suc r % 32) % 32 ≡ 32 - suc r = omega (arith, within) in
    let high : n * c % 2 ^ 32 ≡ n % a * c = ap (λ k. n * c % k) (sym (product (suc r) within)) ∙ shifted_part c a n (pow_pos (32 - suc r)) (pow_pos (suc r)) in
    let low : n / a < c = div_below n a c (pow_pos (suc r)) (omega (arith, product (suc r) within, small)) in
    (λ i. bit_or (n / 2 ^ by i) (n * 2 ^ back i % 2 ^ 32))
    ∙ ap (λ k. bit_or (n / a) k) high
    ∙ or_comm (n / a) (n % a * c)
    ∙ or_shifted (n % a) (32 - suc r) (n / a) low
    ∙ omega arith
