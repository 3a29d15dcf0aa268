use Rattle.std.proofs.Common.{inr, subst}
use Rattle.std.proofs.lemmas.Result.{err_from_is_err_and}
use Rattle.profile_check.specs.Files.{FileExplained}
use Rattle.basv_top.proofs.InterpFacts.{explained_ending}
use Rattle.basv_top.proofs.interp_command.take_program.Goals as goal

pub returns-in_err-prog-clause-none : goal.returns-in_err-prog-clause-none
returns-in_err-prog-clause-none g c =
    let bytes = c.in_ok-bytes.bytes.items in
    let p = err_from_is_err_and c.from_residual-in_err-prog.result c.from_residual-in_err-prog.ensures.1 in
    let why = subst (λ b. FileExplained b c.in_err-prog.field-0.0) c.as_slice.ensures.value c.in_err-prog.ensures.refused in
    rw (p.1, p.2) (inr (bytes, c.in_ok-bytes.ensures.taken, c.in_ok-bytes.ensures.fits, explained_ending bytes c.in_err-prog.field-0.0 why))
