use Rattle.token_file.proofs.OneReading.{one_reading}
use Rattle.token_file.proofs.laws.one_reading.Goals as goal

pub returns : goal.returns
returns c = one_reading c.args.bytes.now
