-- The fields that state a script: its world, and each line after the first.
use Rattle.std.specs.Prelude.{List, [], ◌∷◌, ◌++◌, codes, map}
use Rattle.std.specs.List.{flat_map}
use Rattle.std.specs.Fmt.{decimal}
use Rattle.rows.specs.Fields.{Text}
use Rattle.rows.specs.Playing.{Answers}
use Rattle.packet_base.specs.QoS.{qos_number}
use Rattle.session_base.specs.declared.publication.Publication.{Publication}
use Rattle.script.specs.declared.opening.Opening.{Opening}
use Rattle.script.specs.declared.script_line.Amount.{Amount}
use Rattle.script.specs.declared.script_line.Amount.TheVariants as amounts
use Rattle.script.specs.declared.script_line.ScriptLine.{ScriptLine}
use Rattle.script.specs.declared.script_line.ScriptLine.TheVariants as lines
use Rattle.script.specs.declared.script_reader.Script.{Script}
use Rattle.program_rows.specs.AnswerFields.{flag_fields, number_fields, numbers_fields}

-- `client "a"`
abbrev pub client_fields : Text → List Text
client_fields client = codes "client" ∷ client ∷ []

-- `world 2 member 1 member 2 primary 1 client "a"`
abbrev pub opening_fields : Opening → List Text
opening_fields opening = number_fields (codes "world") opening.nodes
    ++ numbers_fields (codes "member") opening.config.members
    ++ number_fields (codes "primary") opening.config.primary
    ++ flat_map client_fields opening.clients.items

-- `all`, or a number
abbrev pub amount_field : Amount → Text
amount_field amounts.All = codes "all"
amount_field (amounts.Bytes count) = decimal count

-- `topic "t" qos 2 retain 0 payload "x"`
abbrev pub publication_fields : Publication → List Text
publication_fields sent = codes "topic" ∷ sent.topic ∷ number_fields (codes "qos") (qos_number sent.qos)
    ++ flag_fields (codes "retain") sent.retain ++ codes "payload" ∷ sent.payload ∷ []

-- the fields of a line
abbrev pub line_fields : ScriptLine → List Text
line_fields (lines.Assign members primary) =
    codes "assign" ∷ numbers_fields (codes "member") members
    ++ number_fields (codes "primary") primary
line_fields (lines.Deliver message) = number_fields (codes "deliver") message
line_fields (lines.Tick node) = number_fields (codes "tick") node
line_fields (lines.Cut node) = number_fields (codes "cut") node
line_fields (lines.Expel client node) = codes "expel" ∷ client ∷ decimal node ∷ []
line_fields (lines.Crash node) = number_fields (codes "crash") node
line_fields (lines.Open client node) = codes "open" ∷ client ∷ decimal node ∷ []
line_fields (lines.CarryUp connection amount) =
    number_fields (codes "up") connection ++ amount_field amount ∷ []
line_fields (lines.CarryDown connection amount) =
    number_fields (codes "down") connection ++ amount_field amount ∷ []
line_fields (lines.Abandon client) = codes "abandon" ∷ client ∷ []
line_fields (lines.Disconnect client) = codes "disconnect" ∷ client ∷ []
line_fields (lines.Notice connection) = number_fields (codes "notice") connection
line_fields (lines.Publish client sent) = codes "publish" ∷ client ∷ publication_fields sent
line_fields (lines.Subscribe client filter qos) =
    codes "subscribe" ∷ client ∷ codes "filter" ∷ filter
    ∷ number_fields (codes "qos") (qos_number qos)
line_fields (lines.Unsubscribe client filter) =
    codes "unsubscribe" ∷ client ∷ codes "filter" ∷ filter ∷ []

-- the first line, and each after it
abbrev pub script_answers : Script → Answers
script_answers script = opening_fields script.opening ∷ map line_fields script.lines.items
