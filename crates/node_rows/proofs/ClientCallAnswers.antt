-- ClientCallAnswers.antt: a call of a client, by its word.
use Rattle.std.proofs.Common.{◌≡◌, true, false, [], ◌∷◌, Ok, codes, bytes_eq, refl, subst}
use Rattle.rows.specs.Fields.{Text}
use Rattle.packet_base.specs.declared.qos.QoS.{QoS}
use Rattle.client.specs.Core.{AnswersCall, Core, LeavesServer, OpensConnection, gone, publication_with}
use Rattle.client.specs.Input.{OnBytes}
use Rattle.client_base.specs.Steps.{Call, keeper_step}
use Rattle.node_rows.specs.ClientCalls.{Calls, Ended, IsQoS}

pub open_call : (word : Text) (old new : Core) (ended : Ended) → bytes_eq word (codes "open") ≡ true
    → OpensConnection (keeper_step Call.Opens old.state) old ended new → Calls (word ∷ []) old ended new
open_call word old new ended is opens = Calls.opens is opens

pub lost_call : (word : Text) (old new : Core) → bytes_eq word (codes "lost") ≡ true → new ≡ gone old
    → Calls (word ∷ []) old (Ok tt) new
lost_call word old new is loses = Calls.loses is loses refl

pub disconnect_call : (word : Text) (old new : Core) (ended : Ended) → bytes_eq word (codes "disconnect") ≡ true
    → LeavesServer (keeper_step Call.Disconnects old.state) old ended new → Calls (word ∷ []) old ended new
disconnect_call word old new ended is leaves = Calls.disconnects is leaves

pub bytes_call : (word piece bytes : Text) (old new : Core) (ended : Ended) → bytes_eq word (codes "bytes") ≡ true
    → piece ≡ bytes → OnBytes piece old.state.stage old ended new → Calls (word ∷ bytes ∷ []) old ended new
bytes_call word piece bytes old new ended is same receives =
    let P : Text → Type 0 = λ p. OnBytes p old.state.stage old ended new in
    Calls.receives is (subst P same receives)

pub unsubscribe_call : (word filter text : Text) (old new : Core) (ended : Ended)
    → bytes_eq word (codes "unsubscribe") ≡ true → filter ≡ text
    → AnswersCall (keeper_step (Call.Unsubscribes filter) old.state) old ended new
    → Calls (word ∷ text ∷ []) old ended new
unsubscribe_call word filter text old new ended is same answers =
    let P : Text → Type 0 = λ f. AnswersCall (keeper_step (Call.Unsubscribes f) old.state) old ended new in
    Calls.unsubscribes is (subst P same answers)

pub subscribe_call : (word filter text digits : Text) (qos : QoS) (old new : Core) (ended : Ended)
    → bytes_eq word (codes "subscribe") ≡ true → IsQoS digits qos → filter ≡ text
    → AnswersCall (keeper_step (Call.Subscribes filter qos) old.state) old ended new
    → Calls (word ∷ text ∷ digits ∷ []) old ended new
subscribe_call word filter text digits qos old new ended is read same answers =
    let P : Text → Type 0 = λ f. AnswersCall (keeper_step (Call.Subscribes f qos) old.state) old ended new in
    Calls.subscribes qos is read (subst P same answers)

pub publish_call : (word topic name digits payload bytes : Text) (qos : QoS) (old new : Core) (ended : Ended)
    → bytes_eq word (codes "publish") ≡ true → IsQoS digits qos → topic ≡ name → payload ≡ bytes
    → AnswersCall (keeper_step (Call.Publishes (publication_with false qos topic payload)) old.state) old ended new
    → Calls (word ∷ name ∷ digits ∷ bytes ∷ []) old ended new
publish_call word topic name digits payload bytes qos old new ended is read same_topic same_payload answers =
    let P : Text → Type 0 = λ t.
    AnswersCall (keeper_step (Call.Publishes (publication_with false qos t payload)) old.state) old ended new in
    let Q : Text → Type 0 = λ b.
    AnswersCall (keeper_step (Call.Publishes (publication_with false qos name b)) old.state) old ended new in
    Calls.publishes qos is read (subst Q same_payload (subst P same_topic answers))
