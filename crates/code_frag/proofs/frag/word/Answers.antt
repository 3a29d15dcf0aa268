use Rattle.std.proofs.Common.{subst, sym, ◌∙◌, length, arith, rules}
use Rattle.std.proofs.lemmas.Int.{to_z-of_z}
use mir.Val.{SFits}
use Rattle.std.specs.Int.{w32}
use Rattle.arm_isa.specs.declared.instruction.Instr.TheVariants.{Branch}
use Rattle.arm_isa.specs.Words.{IsValid}
use Rattle.code_frag.proofs.WordLaws.{valid_item, valid_jump}
use Rattle.code_frag.proofs.frag.word.Goals as goal

pub encode-requires : goal.encode-requires
encode-requires c = valid_item c.in-Ins.i (length c.args.places.now) (rw c.in-Ins.is at c.requires.fits)

pub encode-requires-in-Jump : goal.encode-requires-in-Jump
encode-requires-in-Jump c =
    let fits : SFits w32 c.distance.result = search rules in
    let same = to_z-of_z w32 c.distance.result fits ∙ c.distance.ensures in
    subst (λ d. IsValid (Branch c.in-Jump.cond c.in-Jump.link d)) (sym same)
    (valid_jump (length c.args.places.now) c.in-Jump.cond c.in-Jump.link c.in-Jump.to.number c.args.at c.place_at.result (rw c.in-Jump.is at c.requires.fits) (omega (arith, c.requires.at_in)) c.place_at.ensures.few)
