use Rattle.std.proofs.Common.{◌∙◌, sym, ap, subst}
use Rattle.arm_isa.specs.Words.{word_of, IsValid}
use Rattle.arm_isa.proofs.RoundTrip.{means_by_class, word_of-means, valid-means}
use Rattle.arm_isa.proofs.decoding.decode.Goals as goal

pub returns-clause-value : goal.returns-clause-value
returns-clause-value c = c.read_as.ensures ∙ sym (means_by_class c.args.word c.class_of.result (sym c.class_of.ensures))

pub returns-clause-valid : goal.returns-clause-valid
returns-clause-valid c = subst IsValid (sym (returns-clause-value c)) (valid-means c.args.word c.ranges.word.fits)

pub returns-clause-encodes : goal.returns-clause-encodes
returns-clause-encodes c = ap word_of (returns-clause-value c) ∙ word_of-means c.args.word c.ranges.word.fits
