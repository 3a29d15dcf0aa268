use Rattle.runtime_lib.proofs.LibraryLaws.{library_meets}
use Rattle.runtime_lib.proofs.laws.library_meets.Goals as goal

pub returns : goal.returns
returns c = library_meets
