use Rattle.std.proofs.Common.{◌-◌, min, ◌<◌, length, get_or, sym, subst, ◌∙◌, arith}
use Rattle.codegen.specs.Program.{text_of}
use Rattle.codegen.proofs.EmitLaws.{addresses-some, address-is}
use Rattle.codegen.proofs.image_texts.address_of.Goals as goal

pub overflow_sub-table : goal.overflow_sub-table
overflow_sub-table c = let some = subst (λ table. 0 < length table) (sym c.requires) (addresses-some c.args.ir.now) in omega (arith, some)

pub bounds-table-text_within : goal.bounds-table-text_within
bounds-table-text_within c = let some = subst (λ table. 0 < length table) (sym c.requires) (addresses-some c.args.ir.now) in omega (arith, some, c.text_within.ensures)

pub returns : goal.returns
returns c =
    (λ i. get_or (c.requires i) ((c.text_within.ensures ∙ (λ j. min (text_of c.args.ir.now c.args.op) (length (c.requires j) - 1))) i) 0)
    ∙ address-is c.args.ir.now (text_of c.args.ir.now c.args.op)
