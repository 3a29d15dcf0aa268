use Rattle.std.proofs.Common.{◌≡◌, sym, ap, subst, ◌∙◌, map, string_bytes, drop, true≢false, None, if◌then◌else◌}
use denote.Enum.Bare.{sameb}
use Rattle.clap.specs.contracts.error.kind.ErrorKind.{the_type}
use Rattle.clap.specs.declared.error.kind.ErrorKind.TheVariants.{OutOfMemory}
use Rattle.clap.specs.Values.{kind_of}
use Rattle.clap.specs.Simple.{App, app_of, is_simple, matches_of}
use Rattle.clap.specs.Faults.{fault_of, is_simple_and_free}
use Rattle.basv_words.specs.Taken.{has_target, has_options}
use Rattle.basv_words.specs.Reader.{gathered, has_empty_value}
use Rattle.basv_words.proofs.AllWords.{answer, are_texts, empty_refused, reads, refused_kinds}
use Rattle.basv_words.proofs.Fronts.{rest_map}
use Rattle.basv_words.proofs.Slots.{plain_is, simple_is}
use Rattle.basv_words.proofs.reader.read_words.Goals as goal

pub returns-then-has_empty_value : goal.returns-then-has_empty_value
returns-then-has_empty_value c =
    let words = map string_bytes c.args.words.now in
    sym (empty_refused (has_target c.args.kind) (has_options c.args.kind) (drop 1 words)
    (ap has_empty_value (sym (rest_map string_bytes c.args.words.now)) ∙ sym c.has_empty_value.ensures ∙ c.if-has_empty_value.true))

pub returns-in-Ok : goal.returns-in-Ok
returns-in-Ok c =
    let words = map string_bytes c.args.words.now in
    let target = has_target c.args.kind in
    let options = has_options c.args.kind in
    let app = c.in_ok-reader.ensures in
    let filled = ap has_empty_value (sym (rest_map string_bytes c.args.words.now)) ∙ sym c.has_empty_value.ensures ∙ c.if-has_empty_value.false in
    let rows = (c.in-Ok.ensures.matches (ap is_simple app ∙ plain_is target options)).0 in
    let none = c.in-Ok.ensures.kinds (ap is_simple_and_free app ∙ simple_is target options) in
    c.given_by.ensures ∙ ap gathered rows ∙ ap (λ ks. answer ks (matches_of (app_of c.in_ok-reader.field-0) words)) (sym none)
    ∙ ap (λ (a : App). answer (fault_of a words) (matches_of a words)) app
    ∙ reads target options words (are_texts c.args.words.now) filled

pub returns : goal.returns
returns c =
    let words = map string_bytes c.args.words.now in
    let target = has_target c.args.kind in
    let options = has_options c.args.kind in
    let app = c.in_ok-reader.ensures in
    let filled = ap has_empty_value (sym (rest_map string_bytes c.args.words.now)) ∙ sym c.has_empty_value.ensures ∙ c.if-has_empty_value.false in
    let kinds = c.in-Err.ensures.kinds (ap is_simple_and_free app ∙ simple_is target options) in
    let other : kind_of c.in-Err.error ≡ OutOfMemory → ⊥ = λ is.
    true≢false (sym (subst (λ k. c.eq.result ≡ sameb the_type k OutOfMemory) (c.kind.ensures ∙ is) c.eq.ensures) ∙ c.if-eq.false) in
    ap (λ b. if b then gathered (matches_of (app_of c.in_ok-reader.field-0) words) else None) (sym (refused_kinds (fault_of (app_of c.in_ok-reader.field-0) words) c.in-Err.error kinds other))
    ∙ ap (λ (a : App). answer (fault_of a words) (matches_of a words)) app
    ∙ reads target options words (are_texts c.args.words.now) filled
