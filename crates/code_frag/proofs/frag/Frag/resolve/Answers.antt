use Rattle.std.proofs.Common.{◌≡◌, ℕ, ◌<◌, ◌≤◌, true, false, List, [], ◌++◌, length, drop, get_or, sym, ap, subst, ◌∙◌, arith, append-nil}
use Rattle.std.proofs.lemmas.Grind.{common_steps}
use Rattle.std.specs.List.{list_all}
use Rattle.arm_isa.specs.declared.instruction.Instr.TheVariants.{Data}
use Rattle.code_frag.specs.declared.item.Item.{Item}
use Rattle.code_frag.specs.declared.item.Item.TheVariants.{Ins}
use Rattle.code_frag.specs.Words.{FragState, IsFrag, most_words, item_fits, place_fits, words_from, words_of, Reaches}
use Rattle.code_frag.proofs.FragLaws.{all_implies, place_fits-more}
use Rattle.code_frag.proofs.WordLaws.{all_at, words-reach}
use Rattle.code_frag.proofs.frag.Frag.resolve.Goals as goal

-- an item of a list is as the list's items are
fits_there : (n m : ℕ) (xs ys : List Item) (i : ℕ) (d : Item) → list_all (item_fits n) xs ≡ true → ys ≡ xs → m ≡ n → i < length ys → item_fits m (get_or ys i d) ≡ true
fits_there n m xs ys i d all same labels within =
    ap (λ k. item_fits k (get_or ys i d)) labels ∙ all_at (item_fits n) ys i d (ap (list_all (item_fits n)) same ∙ all) within

pub word-word-requires-clause-fits : goal.word-word-requires-clause-fits
word-word-requires-clause-fits c =
    fits_there (length c.self.inside.places.items) (length c.deref.result.now) c.self.inside.items.items c.deref-item-items.result.now c.loop-item.item-index (Ins (Data 0 false 0 false 0 0 0))
    c.self.invariant.items c.deref-item-items.ensures.value (ap length c.deref.ensures.value) c.loop-item-test.true

pub word-word-requires-clause-places_fit : goal.word-word-requires-clause-places_fit
word-word-requires-clause-places_fit c =
    let few = rw (← c.self.view_is) at c.requires.few in
    ap (list_all (place_fits most_words)) c.deref.ensures.value
    ∙ all_implies (place_fits (length c.self.inside.items.items)) (place_fits most_words) (place_fits-more (length c.self.inside.items.items) most_words few) c.self.inside.places.items c.self.invariant.places

-- the words of a fragment, once no item is left
all_words : (f : FragState) (ws : List ℕ) (k : ℕ) → length f.items ≤ k → ws ++ words_from (drop k f.items) f.places k ≡ words_from f.items f.places 0 → ws ≡ words_of f
unfolding words_of
all_words f ws k past so =
    let none : drop k f.items ≡ [] = grind (arith, common_steps) in
    sym (append-nil ws) ∙ ap (λ is. ws ++ words_from is f.places k) (sym none) ∙ so

pub returns-clause-words : goal.returns-clause-words
returns-clause-words c =
    let same = ap (λ (f : FragState). length f.items) c.self.view_is in
    let items = ap length c.deref-item-items.ensures.value in
    all_words c.args.self.now c.loop-item.words.items c.loop-item.item-index (omega (arith, same, items, c.loop-item-test.false)) c.loop-item.invariant.so_far

pub returns-clause-reaches : goal.returns-clause-reaches
returns-clause-reaches c =
    let same = ap (λ (f : FragState). length f.items) c.self.view_is in
    let items = ap length c.deref-item-items.ensures.value in
    let whole = all_words c.args.self.now c.loop-item.words.items c.loop-item.item-index (omega (arith, same, items, c.loop-item-test.false)) c.loop-item.invariant.so_far in
    subst (Reaches c.args.self.now c.args.base) (sym whole) (words-reach c.args.self.now c.args.base (subst IsFrag c.self.view_is c.self.invariant) c.requires.few)
