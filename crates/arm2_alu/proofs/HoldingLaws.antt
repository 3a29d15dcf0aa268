-- The table of the flags under which each condition holds.
use Rattle.std.proofs.Common.{◌≡◌, ℕ, ◌*◌, ◌/◌, ◌%◌, ◌^◌, ◌<◌, ◌==◌, ◌&&◌, not, Bool, true, false, if◌then◌else◌, List, [], ◌∷◌, slice_index_or, refl, sym, ap, ◌∙◌, arith}
use Rattle.std.proofs.lemmas.Bool.Decides.{eqb_tells}
use Rattle.std.proofs.Common.{inl, inr}
use Rattle.std.proofs.lemmas.List.{get_or_default}
use Rattle.bv_base.proofs.Computed.{all_below, all_below-at}
use Rattle.arm_isa.specs.Fields.{bit}
use Rattle.arm_isa.specs.Numbers.{EQ, CS, MI, VS, HI, GE, GT}
use Rattle.arm2_alu.specs.declared.regs.Regs.{Regs}
use Rattle.arm2_alu.specs.Conditions.{same, even_condition, holds}

-- the flags of each condition, from EQ to NV
abbrev pub holding : List ℕ
holding = 0xf0f0 ∷ 0x0f0f ∷ 0xcccc ∷ 0x3333 ∷ 0xff00 ∷ 0x00ff ∷ 0xaaaa ∷ 0x5555 ∷ 0x0c0c ∷ 0xf3f3 ∷ 0xaa55 ∷ 0x55aa ∷ 0x0a05 ∷ 0xf5fa ∷ 0xffff ∷ 0 ∷ []

-- what the table says of a condition under a PSR
abbrev pub told : ℕ → ℕ → Bool
told cond psr = slice_index_or holding cond 0 / 2 ^ (psr / 4) % 2 == 1

-- the even conditions under a PSR, and then all
abbrev even_under : ℕ → ℕ → Bool
even_under cond psr =
    if cond == EQ then bit psr 4
    else if cond == CS then bit psr 3
    else if cond == MI then bit psr 5
    else if cond == VS then bit psr 2
    else if cond == HI then bit psr 3 && not (bit psr 4)
    else if cond == GE then same (bit psr 5) (bit psr 2)
    else if cond == GT then not (bit psr 4) && same (bit psr 5) (bit psr 2)
    else true

abbrev holds_under : ℕ → ℕ → Bool
holds_under cond psr = if cond % 2 == 0 then even_under cond psr else not (even_under (cond / 2 * 2) psr)

holds-under : (cond : ℕ) (r : Regs) → holds cond r ≡ holds_under cond r.psr
unfolding holds even_condition
holds-under cond r = refl

same-true : (a b : Bool) → same a b ≡ true → a ≡ b
same-true true true e = refl
same-true true false e = sym e
same-true false true e = e
same-true false false e = refl

abbrev each_below : ℕ → Bool
each_below cond = all_below 64 (λ psr. same (told cond psr) (holds_under cond psr))

every : all_below 16 each_below ≡ true
every = refl

told-holds : (cond : ℕ) (r : Regs) → cond < 16 → r.psr < 64 → told cond r.psr ≡ holds cond r
told-holds cond r nibble six =
    same-true _ _ (all_below-at 64 (λ psr. same (told cond psr) (holds_under cond psr)) (all_below-at 16 each_below every cond nibble) r.psr six) ∙ sym (holds-under cond r)

-- the same of the words that the code has
pub flags-hold : (cond : ℕ) (r : Regs) (flags at psr : ℕ) → flags ≡ slice_index_or holding at flags → at ≡ cond → psr ≡ r.psr → cond < 16 → psr < 64 → (flags / 2 ^ (psr / 4) % 2 == 1) ≡ holds cond r
flags-hold cond r flags at psr is_flags is_at is_psr nibble six =
    ap (λ n. n / 2 ^ (psr / 4) % 2 == 1) (is_flags ∙ get_or_default holding at flags 0 (omega (arith, nibble, is_at)) ∙ ap (λ n. slice_index_or holding n 0) is_at) ∙ ap (told cond) is_psr ∙ told-holds cond r nibble (omega (arith, six, is_psr))

differ : (n k : ℕ) → k < n → (n == k) ≡ false
differ n k above = elim (eqb_tells n k) [ inl t ↦ (let same = t.1 in absurd (omega (arith, above, same))) | inr f ↦ f.0 ]

even-past : (n : ℕ) (r : Regs) → 15 < n → even_condition n r ≡ true
unfolding even_condition
even-past n r past =
    rw (differ n EQ (omega (arith, past)), differ n CS (omega (arith, past)), differ n MI (omega (arith, past)), differ n VS (omega (arith, past)), differ n HI (omega (arith, past)), differ n GE (omega (arith, past)), differ n GT (omega (arith, past))) refl

-- past the table the even ones hold
pub past-holds : (cond : ℕ) (r : Regs) → 15 < cond → (cond % 2 == 0) ≡ holds cond r
unfolding holds
past-holds cond r past = cases (cond % 2 == 0) refl
  where
    cases : (t : Bool) → (cond % 2 == 0) ≡ t → (cond % 2 == 0) ≡ holds cond r
    cases true e = rw e (sym (even-past cond r past))
    cases false e = rw e (sym (ap not (even-past (cond / 2 * 2) r (omega (arith, past)))))
