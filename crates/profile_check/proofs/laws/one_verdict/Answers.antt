use Rattle.profile_check.proofs.FileVerdicts as files
use Rattle.profile_check.proofs.laws.one_verdict.Goals as goal

pub returns-clause-accepted_or_refused : goal.returns-clause-accepted_or_refused
returns-clause-accepted_or_refused c = files.accepted_or_refused c.args.bytes.now

pub returns-clause-accepted_once : goal.returns-clause-accepted_once
returns-clause-accepted_once c = files.accepted_once c.args.bytes.now

pub returns-clause-refused_once : goal.returns-clause-refused_once
returns-clause-refused_once c = files.refused_once c.args.bytes.now

pub returns-clause-never_both : goal.returns-clause-never_both
returns-clause-never_both c = files.never_both c.args.bytes.now
