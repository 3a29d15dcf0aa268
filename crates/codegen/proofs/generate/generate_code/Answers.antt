use Rattle.std.proofs.Common.{length, sym, subst, ap, ◌∙◌, arith}
use Rattle.std.proofs.lemmas.Result.{IfOk-weaker}
use Rattle.bv_base.specs.Words.{AreWords}
use Rattle.code_frag.specs.Words.{AllPlaced, FragState, IsFrag, words_of}
use Rattle.code_frag.proofs.WordLaws.{length-words_of, are-words}
use Rattle.codegen.specs.Fitting.{CanGenerate}
use Rattle.codegen.proofs.Bound.{program-bound}
use Rattle.codegen.proofs.Whole.{words_agree}
use Rattle.codegen.proofs.WholeProgram.{all_placed}
use Rattle.codegen.proofs.generate.generate_code.Goals as goal

pub resolve-requires-clause-placed : goal.resolve-requires-clause-placed
resolve-requires-clause-placed c = subst AllPlaced (sym c.in_ok-frag.ensures.built) (all_placed c.args.ir.now)

pub resolve-requires-clause-few : goal.resolve-requires-clause-few
resolve-requires-clause-few c =
    let many = ap (λ (f : FragState). length f.items) c.in_ok-frag.ensures.built in
    let bound = program-bound c.args.ir.now c.requires.well_formed.laid_out.marks c.requires.in_items.marked in
    let short = c.requires.well_formed.short in
    let size = c.requires.size in
    omega (arith, many, bound, short, size)

pub returns-clause-agrees : goal.returns-clause-agrees
returns-clause-agrees c =
    let can : CanGenerate c.args.ir.now = record { well_formed = c.requires.well_formed; in_items = c.requires.in_items; have_code = c.requires.have_code; widths = c.all_have_widths.ensures; short_data = c.requires.short_data } in
    let is_program = c.frag.view_is ∙ c.in_ok-frag.ensures.built in
    IfOk-weaker c.resolve.result _ _ (λ words is. words_agree c.args.ir.now _ words.items can c.in_ok-frag.ensures.bytes c.frag.invariant is_program (is ∙ ap words_of (sym c.frag.view_is)) c.requires.size) c.resolve.ensures.words

pub returns-clause-are_words : goal.returns-clause-are_words
returns-clause-are_words c =
    let many = ap (λ (f : FragState). length f.items) c.in_ok-frag.ensures.built in
    let bound = program-bound c.args.ir.now c.requires.well_formed.laid_out.marks c.requires.in_items.marked in
    let short = c.requires.well_formed.short in
    let size = c.requires.size in
    let frag = subst IsFrag c.frag.view_is c.frag.invariant in
    IfOk-weaker c.resolve.result _ _ (λ words is. subst AreWords (sym is) (are-words c.in_ok-frag.frag frag (omega (arith, many, bound, short, size)))) c.resolve.ensures.words

pub returns-clause-short : goal.returns-clause-short
returns-clause-short c =
    let many = ap (λ (f : FragState). length f.items) c.in_ok-frag.ensures.built in
    let bound = program-bound c.args.ir.now c.requires.well_formed.laid_out.marks c.requires.in_items.marked in
    let short = c.requires.well_formed.short in
    let count = length-words_of c.in_ok-frag.frag in
    IfOk-weaker c.resolve.result _ _ (λ words is. omega (arith, ap length is, count, many, bound, short)) c.resolve.ensures.words

pub returns-clause-few : goal.returns-clause-few
returns-clause-few c =
    let many = ap (λ (f : FragState). length f.items) c.in_ok-frag.ensures.built in
    let bound = program-bound c.args.ir.now c.requires.well_formed.laid_out.marks c.requires.in_items.marked in
    let short = c.requires.well_formed.short in
    let count = length-words_of c.in_ok-frag.frag in
    let size = c.requires.size in
    IfOk-weaker c.resolve.result _ _ (λ words is. omega (arith, ap length is, count, many, bound, short, size)) c.resolve.ensures.words
