use Rattle.std.proofs.Common.{◌≡◌, ◌++◌, false, drop}
use Rattle.bas_rules.specs.Texts as spec
use Rattle.bas_rules.proofs.texts.quoted_text.Given as goal

abbrev pub invariant-loop-byte : goal.invariant-loop-byte
invariant-loop-byte l = spec.quoted_from false l.bytes ≡ l.text ++ spec.quoted_from l.after_mark (drop l.byte-index l.bytes)
