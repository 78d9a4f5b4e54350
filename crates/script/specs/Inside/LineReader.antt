-- The meaning of a line, by its first field.
use Rattle.std.specs.Prelude.{Bool, if◌then◌else◌, List, [], ◌∷◌, codes, bytes_eq, Option, Some, None}
use Rattle.packet_base.specs.declared.qos.QoS.{QoS}
use Rattle.session_base.specs.declared.publication.Publication.{Publication}
use Rattle.script.specs.Fields.{Text, parse_amount, parse_client, parse_filter, parse_number, parse_numbers, parse_payload, parse_qos, parse_retain, parse_topic}
use Rattle.script.specs.declared.script_line.ScriptLine.{ScriptLine}
use Rattle.script.specs.declared.script_line.ScriptLine.TheVariants as lines

-- the result with one more value, if there is one
abbrev pub with : {X Y : Type 0} → Option (X → Y) → Option X → Option Y
with (Some make) (Some value) = Some (make value)
with (Some make) None = None
with None value = None

-- the value of one field, if there is no other
abbrev pub only : {X : Type 0} → (Text → Option X) → List Text → Option X
only reads [] = None
only reads (field ∷ []) = reads field
only reads (field ∷ other ∷ more) = None

-- the meaning of one field, if there is just one and it has a value
abbrev pub one : {X : Type 0} → (X → ScriptLine) → (Text → Option X) → List Text → Option ScriptLine
one make reads fields = with (Some make) (only reads fields)

-- the meaning of two fields, if there are just two and both have values
abbrev pub two : {X Y : Type 0} → (X → Y → ScriptLine) → (Text → Option X) → (Text → Option Y)
    → List Text → Option ScriptLine
two make reads next [] = None
two make reads next (field ∷ []) = None
two make reads next (field ∷ other ∷ []) = with (with (Some make) (reads field)) (next other)
two make reads next (field ∷ other ∷ third ∷ more) = None

-- the line by which a client subscribes to a filter
abbrev pub subscription_line : Text → Text → QoS → ScriptLine
subscription_line client filter qos = lines.Subscribe client filter qos

-- the three fields of `subscribe`
abbrev pub parse_subscribe : List Text → Option ScriptLine
parse_subscribe [] = None
parse_subscribe (client ∷ []) = None
parse_subscribe (client ∷ filter ∷ []) = None
parse_subscribe (client ∷ filter ∷ qos ∷ []) =
    with (with (with (Some subscription_line) (parse_client client)) (parse_filter filter))
    (parse_qos qos)
parse_subscribe (client ∷ filter ∷ qos ∷ other ∷ more) = None

-- a publication of these fields
abbrev pub publication : Text → QoS → Bool → Text → Publication
publication topic qos retain payload =
    record { retain = retain; qos = qos; topic = topic; payload = payload }

-- the last four fields of `publish`
unfoldable pub parse_publication : Text → Text → Text → Text → Option Publication
parse_publication topic qos retain payload =
    with (with (with (with (Some publication) (parse_topic topic)) (parse_qos qos))
    (parse_retain retain)) (parse_payload payload)

-- the line by which a client publishes
abbrev pub publication_line : Text → Publication → ScriptLine
publication_line client sent = lines.Publish client sent

-- the five fields of `publish`
abbrev pub parse_publish : List Text → Option ScriptLine
parse_publish [] = None
parse_publish (client ∷ []) = None
parse_publish (client ∷ topic ∷ []) = None
parse_publish (client ∷ topic ∷ qos ∷ []) = None
parse_publish (client ∷ topic ∷ qos ∷ retain ∷ []) = None
parse_publish (client ∷ topic ∷ qos ∷ retain ∷ payload ∷ []) =
    with (with (Some publication_line) (parse_client client))
    (parse_publication topic qos retain payload)
parse_publish (client ∷ topic ∷ qos ∷ retain ∷ payload ∷ other ∷ more) = None

-- the meaning of the fields after this word
unfoldable pub line_by : Text → List Text → Option ScriptLine
line_by word fields =
    if bytes_eq word (codes "assign") then two lines.Assign parse_numbers parse_number fields else
    if bytes_eq word (codes "deliver") then one lines.Deliver parse_number fields else
    if bytes_eq word (codes "tick") then one lines.Tick parse_number fields else
    if bytes_eq word (codes "cut") then one lines.Cut parse_number fields else
    if bytes_eq word (codes "crash") then one lines.Crash parse_number fields else
    if bytes_eq word (codes "open") then two lines.Open parse_client parse_number fields else
    if bytes_eq word (codes "up") then two lines.CarryUp parse_number parse_amount fields else
    if bytes_eq word (codes "down") then two lines.CarryDown parse_number parse_amount fields else
    if bytes_eq word (codes "abandon") then one lines.Abandon parse_client fields else
    if bytes_eq word (codes "disconnect") then one lines.Disconnect parse_client fields else
    if bytes_eq word (codes "notice") then one lines.Notice parse_number fields else
    if bytes_eq word (codes "publish") then parse_publish fields else
    if bytes_eq word (codes "subscribe") then parse_subscribe fields else
    if bytes_eq word (codes "unsubscribe")
    then two lines.Unsubscribe parse_client parse_filter fields else
    if bytes_eq word (codes "expel") then two lines.Expel parse_client parse_number fields else
    None

-- the meaning of the fields of a line
abbrev pub line_of : List Text → Option ScriptLine
line_of [] = None
line_of (word ∷ fields) = line_by word fields
