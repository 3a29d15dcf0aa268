-- The event that a call is, as the log is handed it.
use Rattle.bv_io.specs.declared.log.Call.{Call}
use Rattle.bv_io.specs.declared.log.Call.TheVariants as calls
use Rattle.bv_io.specs.Log.{Event, take_event, put_event, write_event}

abbrev pub event_of : Call → Event
event_of (calls.Take name answer) = take_event name.now answer.now
event_of (calls.Put name bytes answer) = put_event name.now bytes.now answer.now
event_of (calls.Write bytes answer) = write_event bytes.now answer.now
