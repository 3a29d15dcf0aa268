-- A body part by part.
use Rattle.std.proofs.Common.{◌≡◌, ◌≢◌, ℕ, Bool, true, false, ◌==◌, length, true≢false, eqb-true, List, [], ◌∷◌, ◌++◌, take, drop, Some, None, refl, sym, ap, subst, ◌∙◌, append_assoc, append-nil}
use Rattle.std.proofs.lemmas.List.{nil_from_length}
use Rattle.basv_crunch.specs.declared.part.Part.{Part}
use Rattle.basv_crunch.specs.declared.part.Place.{Place}
use Rattle.basv_crunch.specs.declared.part.Place.TheVariants as places
use Rattle.basv_crunch.specs.Parts.{FirstPart, part_bytes, after_part}
use Rattle.basv_crunch.specs.Crunched.{CutInto, parts_bytes, CrunchesTo}
use Rattle.basv_crunch.proofs.FirstParts.{one_first}

-- These parts of a body were taken, and their bytes written. Every cut of the whole has them, and goes on as one of the rest.
pub record IsSoFar (body : List ℕ) (place : Place) (rest tokens : List ℕ) : Type 0 where
  pub front : List Part
  pub joins : (parts : List Part) → CutInto place rest parts → CutInto places.Start body (front ++ parts)
  pub splits : (parts : List Part) → CutInto places.Start body parts → (more : List Part) × CutInto place rest more × (parts ≡ front ++ more)
  pub bytes : (parts : List Part) → parts_bytes body (front ++ parts) ≡ tokens ++ parts_bytes rest parts

pub so_far_first : (body : List ℕ) → IsSoFar body places.Start body []
so_far_first body = record { front = []; joins = λ parts cut. cut; splits = λ parts cut. (parts, cut, refl); bytes = λ parts. refl }

part_of_some : (p q : Part) → Some p ≡ Some q → p ≡ q
part_of_some p q e = cc

one_more : (body : List ℕ) (place : Place) (rest tokens : List ℕ) (part : Part) → rest ≢ [] → FirstPart place rest (Some part) → IsSoFar body place rest tokens → IsSoFar body (after_part place part.kind) (drop part.size rest) (tokens ++ part_bytes part.kind (take part.size rest))
one_more body place rest tokens part some first s = record {
  front = s.front ++ part ∷ [];
  joins = λ parts cut. subst (CutInto places.Start body) (sym (append_assoc s.front (part ∷ []) parts)) (s.joins (part ∷ parts) (some, first, cut));
  splits = λ parts cut. (let m = s.splits parts cut in text_after parts m.0 m.1 m.2);
  bytes = λ parts. ap (parts_bytes body) (append_assoc s.front (part ∷ []) parts) ∙ s.bytes (part ∷ parts) ∙ sym (append_assoc tokens (part_bytes part.kind (take part.size rest)) (parts_bytes (drop part.size rest) parts));
}
  where
    text_after : (parts more : List Part) → CutInto place rest more → parts ≡ s.front ++ more → (after : List Part) × CutInto (after_part place part.kind) (drop part.size rest) after × (parts ≡ (s.front ++ part ∷ []) ++ after)
    text_after parts [] cut e = absurd (some cut)
    text_after parts (q ∷ more) cut e =
        let same : q ≡ part = part_of_some q part (one_first place rest (Some q) (Some part) cut.1 first) in
        (more, subst (λ (p : Part). CutInto (after_part place p.kind) (drop p.size rest) more) same cut.2, e ∙ ap (λ p. s.front ++ p ∷ more) same ∙ sym (append_assoc s.front (part ∷ []) more))

pub so_far_next : (body : List ℕ) (place place' : Place) (rest after source tokens tokens' : List ℕ) (part : Part) → rest ≢ [] → FirstPart place rest (Some part) → source ≡ take part.size rest → after ≡ drop part.size rest → tokens' ≡ tokens ++ part_bytes part.kind source → place' ≡ after_part place part.kind → IsSoFar body place rest tokens → IsSoFar body place' after tokens'
so_far_next body place place' rest after source tokens tokens' part some first is_source is_after is_tokens is_place s =
    let written : tokens' ≡ tokens ++ part_bytes part.kind (take part.size rest) = is_tokens ∙ ap (λ x. tokens ++ part_bytes part.kind x) is_source in
    subst (λ p. IsSoFar body p after tokens') (sym is_place) (subst (λ r. IsSoFar body (after_part place part.kind) r tokens') (sym is_after) (subst (λ t. IsSoFar body (after_part place part.kind) (drop part.size rest) t) (sym written) (one_more body place rest tokens part some first s)))

pub so_far_done : (body : List ℕ) (place : Place) (rest tokens : List ℕ) → rest ≡ [] → IsSoFar body place rest tokens → CrunchesTo body tokens
so_far_done body place rest tokens none s = record { parts = s.front ++ []; cut = s.joins [] none; bytes = sym (s.bytes [] ∙ append-nil tokens) }

pub so_far_fails : (body : List ℕ) (place : Place) (rest tokens : List ℕ) → rest ≢ [] → FirstPart place rest None → IsSoFar body place rest tokens → (other : List ℕ) → CrunchesTo body other → ⊥
so_far_fails body place rest tokens some none s other crunches = let m = s.splits crunches.parts crunches.cut in by_more m.0 m.1
  where
    by_more : (more : List Part) → CutInto place rest more → ⊥
    by_more [] cut = some cut
    by_more (q ∷ more) cut = let no : Some q ≡ None = one_first place rest (Some q) None cut.1 none in absurd (cc)

one_cut : (place : Place) (text : List ℕ) (a b : List Part) → CutInto place text a → CutInto place text b → a ≡ b
one_cut place text [] [] p q = refl
one_cut place text [] (b ∷ bs) p q = absurd (q.0 p)
one_cut place text (a ∷ more) [] p q = absurd (p.0 q)
one_cut place text (a ∷ more) (b ∷ bs) p q =
    let same : b ≡ a = part_of_some b a (one_first place text (Some b) (Some a) q.1 p.1) in
    let others = one_cut (after_part place a.kind) (drop a.size text) more bs p.2 (subst (λ (x : Part). CutInto (after_part place x.kind) (drop x.size text) bs) same q.2) in
    (λ i. sym same i ∷ others i)

-- a body becomes one text at most
pub one_text : (body a b : List ℕ) → CrunchesTo body a → CrunchesTo body b → a ≡ b
one_text body a b p q = p.bytes ∙ ap (parts_bytes body) (one_cut places.Start body p.parts q.parts p.cut q.cut) ∙ sym q.bytes

-- what the test for an empty text says
pub not_nil : (text : List ℕ) (t : Bool) → t ≡ (length text == 0) → t ≡ false → text ≢ []
not_nil text t is fails e = true≢false (sym (is ∙ ap (λ l. length l == 0) e) ∙ fails)

pub is_nil : (text : List ℕ) (t : Bool) → t ≡ (length text == 0) → t ≡ true → text ≡ []
is_nil text t is holds = nil_from_length text (eqb-true (length text) 0 (sym is ∙ holds))
