use Rattle.std.proofs.Common.{◌≡◌, ℕ, true, List, [], ◌∷◌, ◌++◌, length, map, slice_set, Option, Some, None, ap, ◌∙◌}
use Rattle.std.specs.List.{list_all}
use Rattle.code_frag.specs.Words.{FragState, is_placed, shifted_place}
use Rattle.code_frag.proofs.JoinLaws.{placed-shifted}
use Rattle.frag_tests.proofs.fragments.program.Goals as goal

-- the label of the caller and those of the library have places
main_placed : (start labelled branched joined placed lib : List (Option ℕ)) (l k n : ℕ) → start ≡ [] → labelled ≡ start ++ None ∷ [] → l ≡ length start → branched ≡ labelled
    → joined ≡ branched ++ map (shifted_place n) lib → placed ≡ slice_set joined l (Some k) → list_all is_placed lib ≡ true → list_all is_placed placed ≡ true
main_placed start labelled branched joined placed lib l k n none label first same together last all =
    let before = same ∙ label ∙ ap (λ ps. ps ++ None ∷ []) none in
    let place = first ∙ ap length none in
    ap (list_all is_placed) (last ∙ (λ i. slice_set ((together ∙ ap (λ ps. ps ++ map (shifted_place n) lib) before) i) (place i) (Some k)))
    ∙ placed-shifted n lib ∙ all

pub returns-clause-placed : goal.returns-clause-placed
returns-clause-placed c =
    let places : FragState → List (Option ℕ) = λ f. f.places in
    ap (λ (f : FragState). list_all is_placed f.places) (c.in_ok-emit_all-2.ensures.ok)
    ∙ ap (λ (f : FragState). list_all is_placed f.places) (c.in_ok-branch-2.ensures.ok)
    ∙ ap (λ (f : FragState). list_all is_placed f.places) (c.in_ok-emit_all.ensures.ok)
    ∙ main_placed _ _ _ _ _ c.args.lib.now.frag.places _ _ _ (ap places c.new-frag.ensures) (ap places c.in_ok-main.ensures.ok) c.in_ok-main.ensures.number (ap places c.in_ok-branch.ensures.ok)
    (ap places c.in_ok-number.ensures.ok) (ap places c.place.ensures) c.requires.placed
