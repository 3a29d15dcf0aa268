use Rattle.std.proofs.Common.{arith, ap, slice_index}
use Rattle.bv_token.proofs.References.{reads_back, all_in_range}
use Rattle.bv_token.proofs.reference.write_ref.Goals as goal

pub returns-clause-read_back : goal.returns-clause-read_back
returns-clause-read_back c =
    let bytes = c.to_be_bytes.ensures in
    reads_back _ _ c.args.number (ap (λ l. slice_index l 1) bytes) (ap (λ l. slice_index l 0) bytes) (omega (arith, c.ranges.number.fits))

pub returns-clause-range : goal.returns-clause-range
returns-clause-range c =
    let bytes = c.to_be_bytes.ensures in
    all_in_range _ _ c.args.number (ap (λ l. slice_index l 1) bytes) (ap (λ l. slice_index l 0) bytes)
