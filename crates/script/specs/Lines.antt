-- The form of each line after the first: its fields, and their meaning.
use Rattle.std.specs.Prelude.{◌≡◌, ℕ, Bool, List, [], ◌∷◌, codes, Some}
use Rattle.packet_base.specs.declared.qos.QoS.{QoS}
use Rattle.script.specs.Fields.{Text, parse_amount, parse_client, parse_filter, parse_number, parse_numbers, parse_payload, parse_qos, parse_retain, parse_topic}
use Rattle.script.specs.declared.script_line.Amount.{Amount}
use Rattle.script.specs.declared.script_line.ScriptLine.{ScriptLine}
use Rattle.script.specs.declared.script_line.ScriptLine.TheVariants as lines

-- the line of these fields means this
pub data IsLine : List Text → ScriptLine → Type 0 where
  -- `assign 2,3 2`
  assign : {members_field primary_field : Text} {members : List ℕ} {primary : ℕ}
      → parse_numbers members_field ≡ Some members → parse_number primary_field ≡ Some primary
      → IsLine (codes "assign" ∷ members_field ∷ primary_field ∷ []) (lines.Assign members primary)
  -- `deliver 0`
  deliver : {message_field : Text} {message : ℕ} → parse_number message_field ≡ Some message
      → IsLine (codes "deliver" ∷ message_field ∷ []) (lines.Deliver message)
  -- `tick 1`
  tick : {node_field : Text} {node : ℕ} → parse_number node_field ≡ Some node
      → IsLine (codes "tick" ∷ node_field ∷ []) (lines.Tick node)
  -- `cut 1`
  cut : {node_field : Text} {node : ℕ} → parse_number node_field ≡ Some node
      → IsLine (codes "cut" ∷ node_field ∷ []) (lines.Cut node)
  -- `expel b 1`
  expel : {client_field node_field : Text} {client : Text} {node : ℕ}
      → parse_client client_field ≡ Some client → parse_number node_field ≡ Some node
      → IsLine (codes "expel" ∷ client_field ∷ node_field ∷ []) (lines.Expel client node)
  -- `crash 1`
  crash : {node_field : Text} {node : ℕ} → parse_number node_field ≡ Some node
      → IsLine (codes "crash" ∷ node_field ∷ []) (lines.Crash node)
  -- `open a 1`
  opens : {client_field node_field : Text} {client : Text} {node : ℕ}
      → parse_client client_field ≡ Some client → parse_number node_field ≡ Some node
      → IsLine (codes "open" ∷ client_field ∷ node_field ∷ []) (lines.Open client node)
  -- `up 1 15`, `up 1 all`
  up : {connection_field amount_field : Text} {connection : ℕ} {amount : Amount}
      → parse_number connection_field ≡ Some connection → parse_amount amount_field ≡ Some amount
      → IsLine (codes "up" ∷ connection_field ∷ amount_field ∷ []) (lines.CarryUp connection amount)
  -- `down 1 4`, `down 1 all`
  down : {connection_field amount_field : Text} {connection : ℕ} {amount : Amount}
      → parse_number connection_field ≡ Some connection → parse_amount amount_field ≡ Some amount
      → IsLine (codes "down" ∷ connection_field ∷ amount_field ∷ [])
      (lines.CarryDown connection amount)
  -- `abandon a`
  abandon : {client_field : Text} {client : Text} → parse_client client_field ≡ Some client
      → IsLine (codes "abandon" ∷ client_field ∷ []) (lines.Abandon client)
  -- `disconnect a`
  disconnect : {client_field : Text} {client : Text} → parse_client client_field ≡ Some client
      → IsLine (codes "disconnect" ∷ client_field ∷ []) (lines.Disconnect client)
  -- `notice 1`
  notice : {connection_field : Text} {connection : ℕ}
      → parse_number connection_field ≡ Some connection
      → IsLine (codes "notice" ∷ connection_field ∷ []) (lines.Notice connection)
  -- `publish a t/1 2 0 78`
  publish : {client_field topic_field qos_field retain_field payload_field : Text}
      {client topic payload : Text} {qos : QoS} {retain : Bool}
      → parse_client client_field ≡ Some client → parse_topic topic_field ≡ Some topic
      → parse_qos qos_field ≡ Some qos
      → parse_retain retain_field ≡ Some retain → parse_payload payload_field ≡ Some payload
      → IsLine
      (codes "publish" ∷ client_field ∷ topic_field ∷ qos_field ∷ retain_field ∷ payload_field ∷ [])
      (lines.Publish client
      (record { retain = retain; qos = qos; topic = topic; payload = payload }))
  -- `subscribe b t/# 2`
  subscribe : {client_field filter_field qos_field : Text} {client filter : Text} {qos : QoS}
      → parse_client client_field ≡ Some client → parse_filter filter_field ≡ Some filter
      → parse_qos qos_field ≡ Some qos
      → IsLine (codes "subscribe" ∷ client_field ∷ filter_field ∷ qos_field ∷ [])
      (lines.Subscribe client filter qos)
  -- `unsubscribe b t/#`
  unsubscribe : {client_field filter_field : Text} {client filter : Text}
      → parse_client client_field ≡ Some client → parse_filter filter_field ≡ Some filter
      → IsLine (codes "unsubscribe" ∷ client_field ∷ filter_field ∷ [])
      (lines.Unsubscribe client filter)
