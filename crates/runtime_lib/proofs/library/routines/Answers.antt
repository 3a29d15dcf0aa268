use Rattle.std.proofs.Common.{sym, ap, subst, ◌∙◌, ◌≤◌, length}
use Rattle.code_frag.specs.Words.{FragState, AllPlaced}
use Rattle.runtime_lib.specs.Library.{most_library_words}
use Rattle.runtime_lib.proofs.LibraryLaws.{library-made, library-labels, library-placed, library-few}
use Rattle.runtime_lib.proofs.library.routines.Goals as goal

pub returns-clause-code : goal.returns-clause-code
returns-clause-code c = c.frag-4.view_is ∙ c.in_ok-add_readers.ensures ∙ library-made

pub returns-clause-labels : goal.returns-clause-labels
returns-clause-labels c = ap (λ (f : FragState). length f.places) (c.frag-4.view_is ∙ c.in_ok-add_readers.ensures ∙ library-made) ∙ library-labels

pub returns-clause-placed : goal.returns-clause-placed
returns-clause-placed c = subst AllPlaced (sym (c.frag-4.view_is ∙ c.in_ok-add_readers.ensures ∙ library-made)) library-placed

pub returns-clause-few : goal.returns-clause-few
returns-clause-few c = subst (λ (f : FragState). length f.items ≤ most_library_words) (sym (c.frag-4.view_is ∙ c.in_ok-add_readers.ensures ∙ library-made)) library-few
