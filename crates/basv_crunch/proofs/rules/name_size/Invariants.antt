use Rattle.bv_token.specs.Names.{is_in_name}
use Rattle.basv_crunch.proofs.Rows.{IsCounted}
use Rattle.basv_crunch.proofs.rules.name_size.Given as goal

abbrev pub invariant-loop-byte : goal.invariant-loop-byte
invariant-loop-byte l = IsCounted is_in_name l.text l.byte-index l.count
