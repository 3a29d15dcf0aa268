-- What each condition says after CMP, of the numbers that were compared.
use Rattle.std.proofs.Common.{◌≡◌, ◌≢◌, ℕ, ◌^◌, ◌<◌, ◌==◌, ◌&&◌, not, nat_le, nat_lt, Bool, true, false, ℤ, pos, negsuc, ◌≤ℤ◌, ◌<ℤ◌, refl, sym, ap, ◌∙◌, arith, eqb-true}
use Rattle.std.proofs.lemmas.Bool.{eqb-false}
use Rattle.std.proofs.lemmas.Bool.Decides.{nat_tests}
use Rattle.std.proofs.lemmas.Int.{ints, by_lt_z, of_z-to_z}
use Rattle.std.specs.Int.{w32, cast_signed, cast_unsigned}
use Rattle.std.specs.Int.Signed.{le_z, lt_z}
use Rattle.arm_isa.specs.Numbers.{EQ, NE, CS, CC, HI, LS, GE, LT, GT, LE}
use Rattle.arm2_alu.specs.declared.regs.Regs.{Regs}
use Rattle.arm2_alu.specs.Conditions.{holds}
use Rattle.arm2_alu.specs.Results.{flagged}
use Rattle.arm2_alu.proofs.RegisterLaws.{holds-eq, holds-ne, holds-cs, holds-cc, holds-hi, holds-ls, holds-ge, holds-lt, holds-gt, holds-le}
use Rattle.arm2_alu.proofs.SignedLaws.{signed_ge, ge-by_order}
use Rattle.arm2_alu.proofs.ValueLaws.{minus, compared, difference-zero}

pub compared-eq : (a b : ℕ) (r : Regs) → a < 2 ^ 32 → b < 2 ^ 32 → holds EQ (flagged (compared a b) r) ≡ (a == b)
compared-eq a b r small below = holds-eq _ _ _ _ r ∙ difference-zero a b small below

pub compared-ne : (a b : ℕ) (r : Regs) → a < 2 ^ 32 → b < 2 ^ 32 → holds NE (flagged (compared a b) r) ≡ not (a == b)
compared-ne a b r small below = holds-ne _ _ _ _ r ∙ ap not (difference-zero a b small below)

not_le : (a b : ℕ) → not (nat_le b a) ≡ nat_lt a b
not_le a b = grind (arith, nat_tests)

not_lt : (a b : ℕ) → not (nat_lt b a) ≡ nat_le a b
not_lt a b = grind (arith, nat_tests)

-- of the words as they stand: CS, CC, HI and LS
pub compared-cs : (a b : ℕ) (r : Regs) → holds CS (flagged (compared a b) r) ≡ nat_le b a
compared-cs a b r = holds-cs _ _ _ _ r

pub compared-cc : (a b : ℕ) (r : Regs) → holds CC (flagged (compared a b) r) ≡ nat_lt a b
compared-cc a b r = holds-cc _ _ _ _ r ∙ not_le a b

above : (a b : ℕ) → (nat_le b a && not (a == b)) ≡ nat_lt b a
above a b = grind (arith, nat_tests)

pub compared-hi : (a b : ℕ) (r : Regs) → a < 2 ^ 32 → b < 2 ^ 32 → holds HI (flagged (compared a b) r) ≡ nat_lt b a
compared-hi a b r small below = holds-hi _ _ _ _ r ∙ ap (λ t. nat_le b a && not t) (difference-zero a b small below) ∙ above a b

pub compared-ls : (a b : ℕ) (r : Regs) → a < 2 ^ 32 → b < 2 ^ 32 → holds LS (flagged (compared a b) r) ≡ nat_le a b
compared-ls a b r small below =
    holds-ls _ _ _ _ r ∙ ap (λ t. not (nat_le b a && not t)) (difference-zero a b small below) ∙ ap not (above a b)
    ∙ not_lt a b

-- of the words as signed numbers: GE, LT, GT and LE
at_least : (x y : ℤ) → y ≤ℤ x → le_z y x ≡ true
at_least x y h = grind (arith, ints)

less : (x y : ℤ) → x <ℤ y → le_z y x ≡ false
less x y h = grind (arith, ints)

not_at_least : (x y : ℤ) → not (le_z y x) ≡ lt_z x y
not_at_least (pos a) (pos b) = not_le a b
not_at_least (pos a) (negsuc b) = refl
not_at_least (negsuc a) (pos b) = refl
not_at_least (negsuc a) (negsuc b) = not_le b a

not_less : (x y : ℤ) → not (lt_z y x) ≡ le_z x y
not_less (pos a) (pos b) = not_lt a b
not_less (pos a) (negsuc b) = refl
not_less (negsuc a) (pos b) = refl
not_less (negsuc a) (negsuc b) = not_lt b a

signed-ge : (a b : ℕ) → a < 2 ^ 32 → b < 2 ^ 32 → signed_ge a b ≡ le_z (cast_signed w32 b) (cast_signed w32 a)
signed-ge a b small below =
    let order = ge-by_order a b small below in
    by_lt_z (cast_signed w32 a) (cast_signed w32 b) (λ h. order.1 h ∙ sym (less _ _ h)) (λ h. order.0 h ∙ sym (at_least _ _ h))

pub compared-ge : (a b : ℕ) (r : Regs) → a < 2 ^ 32 → b < 2 ^ 32 → holds GE (flagged (compared a b) r) ≡ le_z (cast_signed w32 b) (cast_signed w32 a)
compared-ge a b r small below = holds-ge _ _ _ _ r ∙ signed-ge a b small below

pub compared-lt : (a b : ℕ) (r : Regs) → a < 2 ^ 32 → b < 2 ^ 32 → holds LT (flagged (compared a b) r) ≡ lt_z (cast_signed w32 a) (cast_signed w32 b)
compared-lt a b r small below = holds-lt _ _ _ _ r ∙ ap not (signed-ge a b small below) ∙ not_at_least (cast_signed w32 a) (cast_signed w32 b)

same_word : (a b : ℕ) → a < 2 ^ 32 → b < 2 ^ 32 → cast_signed w32 a ≡ cast_signed w32 b → a ≡ b
same_word a b small below same = sym (of_z-to_z w32 a small) ∙ ap (cast_unsigned w32) same ∙ of_z-to_z w32 b below

above_signed : (x y : ℤ) (t : Bool) → (t ≡ true → x ≡ y) → (t ≡ false → x ≢ y) → (not t && le_z y x) ≡ lt_z y x
above_signed x y true equal apart = let same = equal refl in grind (arith, ints)
above_signed x y false equal apart = let other = apart refl in grind (arith, ints)

signed-gt : (a b : ℕ) → a < 2 ^ 32 → b < 2 ^ 32 → (not (minus a b == 0) && signed_ge a b) ≡ lt_z (cast_signed w32 b) (cast_signed w32 a)
signed-gt a b small below =
    (λ i. not (difference-zero a b small below i) && signed-ge a b small below i)
    ∙ above_signed (cast_signed w32 a) (cast_signed w32 b) (a == b)
    (λ e. ap (cast_signed w32) (eqb-true a b e))
    (λ e same. eqb-false a b e (same_word a b small below same))

pub compared-gt : (a b : ℕ) (r : Regs) → a < 2 ^ 32 → b < 2 ^ 32 → holds GT (flagged (compared a b) r) ≡ lt_z (cast_signed w32 b) (cast_signed w32 a)
compared-gt a b r small below = holds-gt _ _ _ _ r ∙ signed-gt a b small below

pub compared-le : (a b : ℕ) (r : Regs) → a < 2 ^ 32 → b < 2 ^ 32 → holds LE (flagged (compared a b) r) ≡ le_z (cast_signed w32 a) (cast_signed w32 b)
compared-le a b r small below = holds-le _ _ _ _ r ∙ ap not (signed-gt a b small below) ∙ not_less (cast_signed w32 a) (cast_signed w32 b)
