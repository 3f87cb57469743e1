-- The text of a run as lines of JSON: its scheme, and an object for each event, keys in byte order.
use Rattle.std.specs.Prelude.{ℕ, List, [], ◌∷◌, ◌++◌, codes, decimal}
use Rattle.units.specs.Code.{node_text}
use Rattle.wire.specs.Records.{record_text}
use Rattle.protocol.specs.declared.event.WorldEvent.{WorldEvent}
use Rattle.protocol.specs.declared.event.WorldEvent.TheVariants.{Take, Commit, Post, Deliver, Crash, Restart}
use Rattle.scheme.specs.Written.{scheme_text}
use Rattle.protocol.specs.Scheme.{Scheme}

-- the object of an event, and a newline. An input is written as its record's text, and a moment in seconds
abbrev pub event_object : WorldEvent → List ℕ
event_object (Take node input) = codes "{\"event\":\"take\",\"input\":" ++ record_text input ++ codes ",\"node\":\"" ++ node_text node ++ codes "\"}\n"
event_object (Commit node count) = codes "{\"count\":" ++ decimal count ++ codes ",\"event\":\"commit\",\"node\":\"" ++ node_text node ++ codes "\"}\n"
event_object (Post node key) = codes "{\"event\":\"post\",\"key\":" ++ decimal key ++ codes ",\"node\":\"" ++ node_text node ++ codes "\"}\n"
event_object (Deliver message moment) = codes "{\"event\":\"deliver\",\"message\":" ++ decimal message ++ codes ",\"moment\":" ++ decimal moment.seconds ++ codes "}\n"
event_object (Crash node kept) = codes "{\"event\":\"crash\",\"kept\":" ++ decimal kept ++ codes ",\"node\":\"" ++ node_text node ++ codes "\"}\n"
event_object (Restart node) = codes "{\"event\":\"restart\",\"node\":\"" ++ node_text node ++ codes "\"}\n"

-- the objects of the events, one after another
abbrev pub event_objects : List WorldEvent → List ℕ
event_objects [] = []
event_objects (e ∷ events) = event_object e ++ event_objects events

-- the scheme's line, then the lines of the events
abbrev pub run_objects : Scheme → List WorldEvent → List ℕ
run_objects scheme events = scheme_text scheme ++ codes "\n" ++ event_objects events
