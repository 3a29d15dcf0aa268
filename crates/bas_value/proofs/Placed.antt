-- A text at the front of zeros.
use Rattle.std.proofs.Common.{◌≡◌, ℕ, ◌-◌, List, ◌++◌, length, take, drop, replicate, sym, ap, ◌∙◌}
use Rattle.std.proofs.Math.Seq.{take-append_seam}
use Rattle.std.proofs.lemmas.List.{drop-replicate}
use Rattle.bas_value.specs.Text.{IsPlaced, longest_string}

-- a text that is laid over the front of zeros is placed
pub placed_over : (text zeros : List ℕ) (n : ℕ) → zeros ≡ replicate longest_string 0 → n ≡ length text
    → IsPlaced (record { bytes = text ++ drop n zeros; len = n })
placed_over text zeros n all long =
    let front : take n (text ++ drop n zeros) ≡ text = ap (λ k. take k (text ++ drop n zeros)) long ∙ take-append_seam text _ in
    let rest : drop n zeros ≡ replicate (longest_string - length text) 0 =
    ap (drop n) all ∙ drop-replicate n longest_string 0 ∙ ap (λ k. replicate (longest_string - k) 0) long in
    (ap (λ t. t ++ replicate (longest_string - length t) 0) front ∙ ap (λ r. text ++ r) (sym rest), ap length front ∙ sym long)
