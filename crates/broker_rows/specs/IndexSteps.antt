-- Steps about subscriptions, and their answers (MQTT 3.3.5, 3.8.4, 3.10.4, 4.7).
use Rattle.std.specs.Prelude.{◌≡◌, List, [], ◌∷◌, map, codes, is_some}
use Rattle.rows.specs.Fields.{Text}
use Rattle.rows.specs.Playing.{Answers, Agrees}
use Rattle.rows.specs.Answers.{yes_or_no}
use Rattle.rows.specs.declared.line.Line.{Line}
use Rattle.packet_base.specs.declared.qos.QoS.{QoS}
use Rattle.subs_base.specs.Content.{Content, no_subscriptions, with_row, without_row, without_client}
use Rattle.subs_base.specs.Granted.{Row, IsGranted}
use Rattle.subs_base.specs.ListIndex.{content_of}
use Rattle.broker_rows.specs.Values.{qos_text}
use Rattle.broker_rows.specs.declared.index_steps.ByList.{ByList}
use Rattle.broker_rows.specs.declared.index_steps.ByTree.{ByTree}

-- `client "a" qos 1`
abbrev pub grant_fields : Row → List Text
grant_fields grant = codes "client" ∷ grant.0 ∷ codes "qos" ∷ qos_text grant.1 ∷ []

-- a step, its answers, and the subscriptions before and after it
pub data IndexStep (old : Content) (step : List Text) (answers : Answers) (new : Content) :
    Type 0 where
  -- `subscribe "a" "t/#" 1`
  subscribe : (client filter : Text) (qos : QoS)
      → step ≡ codes "subscribe" ∷ client ∷ filter ∷ qos_text qos ∷ [] → answers ≡ []
      → new ≡ with_row old client filter qos → IndexStep old step answers new
  -- `unsubscribe "a" "t/#"`: whether it was there
  unsubscribe : (client filter : Text)
      → step ≡ codes "unsubscribe" ∷ client ∷ filter ∷ []
      → answers ≡ yes_or_no (is_some (old client filter)) ∷ []
      → new ≡ without_row old client filter → IndexStep old step answers new
  -- `end "a"`: all subscriptions of the client end
  end : (client : Text) → step ≡ codes "end" ∷ client ∷ [] → answers ≡ []
      → new ≡ without_client old client → IndexStep old step answers new
  -- `publish "t/1"`: each client that gets it, at which QoS
  publish : (topic : Text) (rows : List Row) → step ≡ codes "publish" ∷ topic ∷ []
      → IsGranted old topic rows → answers ≡ map grant_fields rows → new ≡ old
      → IndexStep old step answers new

-- a step of the list
abbrev pub ListDoes : ByList → List Text → Answers → ByList → Type 0
ListDoes old step answers new = IndexStep (content_of old.index) step answers (content_of new.index)

-- a step of the tree
abbrev pub TreeDoes : ByTree → List Text → Answers → ByTree → Type 0
TreeDoes old step answers new = IndexStep (content_of old.index) step answers (content_of new.index)

-- the steps agree with a list that has no subscription
abbrev pub ListAgrees : List Line → Type 0
ListAgrees steps = (list : ByList) × (content_of list.index ≡ no_subscriptions)
    × Agrees ListDoes list steps

-- the steps agree with a tree that has no subscription
abbrev pub TreeAgrees : List Line → Type 0
TreeAgrees steps = (tree : ByTree) × (content_of tree.index ≡ no_subscriptions)
    × Agrees TreeDoes tree steps
