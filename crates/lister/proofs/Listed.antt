-- The listing of a text from one symbol on.
use Rattle.std.proofs.Common.{◌≡◌, ℕ, zero, suc, ◌-◌, ◌<◌, ◌≤◌, Bool, false, ◌==◌, List, [], ◌∷◌, ◌++◌, length, replicate, take, drop, length-append, ◌+◌, decimal, refl, sym, ap, ◌∙◌, arith, append_assoc}
use Rattle.std.proofs.lemmas.List.{length-replicate}
use Rattle.std.proofs.lemmas.Fmt.{length-decimal-le}
use Rattle.lister.specs.Listing.{shown, listed, justified}

-- bytes that were listed before are passed over
pub listed-drop : (taken : ℕ) (quoted : Bool) (text : List ℕ) → listed taken quoted text ≡ listed 0 quoted (drop taken text)
listed-drop zero quoted text = refl
listed-drop (suc taken) quoted [] = refl
listed-drop (suc taken) quoted (byte ∷ rest) = listed-drop taken quoted rest

listed-symbol : (byte : ℕ) (after : List ℕ) → listed 0 false (byte ∷ after) ≡ (shown byte after).text ++ listed (shown byte after).taken (byte == 34) after
listed-symbol byte after = refl

-- the symbol at the front of what is left, outside quotation marks, and what is after it
pub lists_symbol : (byte : ℕ) (after now rest before listing whole : List ℕ) (quoted : Bool) → quoted ≡ false → now ≡ byte ∷ after → listing ≡ before ++ (shown byte after).text → rest ≡ drop (shown byte after).taken after → before ++ listed 0 quoted now ≡ whole → listing ++ listed 0 (byte == 34) rest ≡ whole
lists_symbol byte after now rest before listing whole quoted outside front written rest_is so =
    let left : listed 0 (byte == 34) rest ≡ listed (shown byte after).taken (byte == 34) after = ap (λ r. listed 0 (byte == 34) r) rest_is ∙ sym (listed-drop (shown byte after).taken (byte == 34) after) in
    ap (λ l. l ++ listed 0 (byte == 34) rest) written ∙ append_assoc before _ _ ∙ ap (λ l. before ++ ((shown byte after).text ++ l)) left ∙ ap (λ l. before ++ l) (sym (listed-symbol byte after) ∙ ap (λ t. listed 0 false t) (sym front) ∙ ap (λ q. listed 0 q now) (sym outside)) ∙ so

-- a line's number has at most five digits
pub five_digits : (number : ℕ) → number < 65536 → length (decimal number) ≤ 5
five_digits number small = length-decimal-le 5 number (omega arith) (omega (arith, small)) (omega (arith, small))

-- five spaces but as many as the digits are
pub spaces_left : (count : ℕ) → count ≤ 5 → take {A = ℕ} (5 - count) (drop count (32 ∷ 32 ∷ 32 ∷ 32 ∷ 32 ∷ [])) ≡ replicate (5 - count) 32
spaces_left zero few = refl
spaces_left (suc zero) few = refl
spaces_left (suc (suc zero)) few = refl
spaces_left (suc (suc (suc zero))) few = refl
spaces_left (suc (suc (suc (suc zero)))) few = refl
spaces_left (suc (suc (suc (suc (suc zero))))) few = refl
spaces_left (suc (suc (suc (suc (suc (suc n)))))) few = absurd (omega (arith, few))

pub five_columns : (number : ℕ) → number < 65536 → length (justified 5 (decimal number)) ≡ 5
five_columns number small =
    let digits = five_digits number small in
    let whole : 5 - length (decimal number) + length (decimal number) ≡ 5 = omega (arith, digits) in
    length-append _ _ ∙ ap (λ n. n + length (decimal number)) (length-replicate _ _) ∙ whole

-- a number's spaces and digits
pub puts_number : (number : ℕ) (before spaced after digits : List ℕ) → number < 65536 → digits ≡ decimal number → spaced ≡ before ++ take {A = ℕ} (5 - length digits) (drop (length digits) (32 ∷ 32 ∷ 32 ∷ 32 ∷ 32 ∷ [])) → after ≡ spaced ++ digits → after ≡ before ++ justified 5 (decimal number)
puts_number number before spaced after digits small is spaces puts =
    let few : length digits ≤ 5 = omega (arith, five_digits number small, ap length is) in
    puts ∙ ap (λ l. l ++ digits) (spaces ∙ ap (λ l. before ++ l) (spaces_left (length digits) few)) ∙ append_assoc before _ _ ∙ ap (λ d. before ++ justified 5 d) is
