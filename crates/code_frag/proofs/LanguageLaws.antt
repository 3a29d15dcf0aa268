-- The laws of the routine language, in one place.
use Rattle.std.proofs.Common.{ℕ, ◌+◌, ◌*◌, length, map, sym, ap, subst}
use Rattle.arm_core.specs.Core.{Core}
use Rattle.code_frag.specs.Demands.{Out, Post}
use Rattle.code_frag.specs.Language.{size}
use Rattle.code_frag.specs.Words.{shifted_place}
use Rattle.code_frag.specs.Laws.{LanguageIsSound, LoopsEnd, FragmentsStand}
use Rattle.code_frag.specs.Within.{words_at, MeetEachWithin}
use Rattle.code_frag.proofs.JoinLaws.{place-front, address-joined, stands-joined}
use Rattle.code_frag.proofs.Kept.{register-kept, memory-kept}
use Rattle.code_frag.proofs.Rules.{part_then, while_then, repeat_then}
use Rattle.code_frag.proofs.Sound.{sound, sound_within, entered, entered_within, words-own}
use Rattle.code_frag.proofs.WordLaws.{stands-words}

module _ (Asks : ℕ → Core → Type 0) (Does : ℕ → Core → Out → Core → Type 0) (Q : Post) where
  pub language_sound : LanguageIsSound Asks Does Q
  language_sound = record {
    pieces = λ p code entry place s m formed callees at owes. sound code entry Asks Does p formed callees Q place s m at.lies at.stands at.same at.is owes.by;
    own_words = λ own p code entry place s m formed callees mine at owes. sound_within code entry own Asks Does p formed callees Q place s m at.lies mine at.stands at.same at.is owes.by;
    alone = λ p code entry place s m formed none at owes.
        let own = words_at place (size p) in
        sound_within code entry own Asks Does p formed (subst (MeetEachWithin code entry own Asks Does) (sym none) tt) Q place s m at.lies (words-own place (size p)) at.stands at.same at.is owes.by;
    entries = λ e body code entry formed callees there owed. entered code entry Asks Does e body formed callees there.lies there.stands (λ s good asked. (owed s good asked).by);
    own_entries = λ own e body code entry formed callees mine there owed. entered_within code entry own Asks Does e body formed callees there.lies mine there.stands (λ s good asked. (owed s good asked).by);
    in_order = λ a b s owes. part_then {a = a} {rest = b} {Q = Q} {s = s} owes;
    register_stays = λ p k s apart owes. record { by = register-kept Asks Does p k apart Q s owes.by };
    memory_stays = λ p s apart owes. record { by = memory-kept Asks Does p apart Q s owes.by };
  }

  pub loops_end : (I : ℕ → Core → Type 0) → LoopsEnd Asks Does Q I
  loops_end I = record {
    test_first = λ test body rest k n s turn inv. while_then {test = test} {body = body} {rest = rest} {Q = Q} I turn n inv;
    test_last = λ body rest k n s turn inv. repeat_then {body = body} {rest = rest} {Q = Q} I turn n inv;
  }

pub fragments_stand : FragmentsStand
fragments_stand = record {
  words = λ f code base good few low has. stands-words f code base good few low has;
  joins = λ a b code entry base stands. stands-joined a b code entry base stands;
  first_labels = λ a b base l within. ap (λ p. base + 4 * p) (place-front a.places (map (shifted_place (length a.items)) b.places) l within);
  second_labels = λ a b base l p there. address-joined a.places b.places (length a.items) base l p there;
}
