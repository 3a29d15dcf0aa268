use Rattle.bas_compile.proofs.Composed.{words_agree}
use Rattle.bas_compile.proofs.laws.compiled_images_agree.Goals as goal

pub returns-clause-agrees : goal.returns-clause-agrees
returns-clause-agrees c = words_agree

pub returns-clause-never_broken : goal.returns-clause-never_broken
returns-clause-never_broken c = λ bytes contents words input compiled are is are_bytes bound out arena kind address.
    (words_agree bytes contents words compiled are is input are_bytes).never_broken bound out arena kind address
