-- What a shelf that never fails tells. This project's own.
use Rattle.std.specs.Prelude.{List, [], Some, None, unwrap_or}
use Rattle.std.specs.FinMap.{get}
use Rattle.bv_io.specs.Files.{Held}
use Rattle.bv_io.specs.Log.{Event}
use Rattle.basv_top.specs.Seen.{SeenShelf, SeenSink}

-- under each name what was added or put, or else the empty file, no fault, ever, and its log
abbrev pub seen_in_memory : Held × List Event → SeenShelf
seen_in_memory shelf = record { content = λ name. Some (Some (unwrap_or (get shelf.0 name) [])); take_faults = 0; put_faults = 0; log = shelf.1 }

-- nothing of what was written, no fault, ever, and the log
abbrev pub seen_dropped : List Event → SeenSink
seen_dropped log = record { written = None; faults = 0; log = log }
