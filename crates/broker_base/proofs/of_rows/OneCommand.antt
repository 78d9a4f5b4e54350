-- A command of a connection's owner, except a taken PUBLISH, concerns only that connection and
-- client.
use Rattle.std.proofs.Common.{◌≡◌, Bool, true, false, ◌&&◌, ◌||◌, if◌then◌else◌, List, Option, Some, None, refl, ap, ap₂, ◌∙◌, sym, subst}
use Rattle.session_base.specs.Subscriptions.{GrantedSubscription}
use Rattle.packet.specs.declared.publish.Publish.{Publish}
use Rattle.packet.specs.declared.packet.Packet.{Packet}
use Rattle.packet.specs.declared.packet.Packet.TheVariants as packets
use Rattle.session_base.specs.Publication.{publication_of}
use Rattle.broker_spec.specs.Connection.{ConnectionName, same_connection}
use Rattle.broker_spec.specs.Place.{Client, same_client, Mark, Limits}
use Rattle.broker_spec.specs.Sessions.{any_connection, is_leaving, ends, expels}
use Rattle.broker_base.specs.ClientSession.{ClientSession}
use Rattle.broker_base.specs.State.{State, owner_in}
use Rattle.broker_base.specs.Decisions.{is_refused_in, repeats_taken, owned_mark, packet_mark_in, connect_mark_in, mark_in, place_in}
use Rattle.broker_base.specs.Step.{is_about}
use Rattle.broker_spec.specs.declared.command.Command.{Command}
use Rattle.broker_spec.specs.declared.command.Command.TheVariants as commands
use Rattle.broker_base.specs.rows.Touched.{TouchesNoOther, comes_on, is_taken, IsMarkOf}

-- ---- what ends

-- a command on x ends no other connection
ends_on : (command : Command) (mark : Mark) (x z : ConnectionName) → comes_on command ≡ Some x → same_connection x z ≡ false → ends command mark z ≡ false
ends_on (commands.Packet y packet) mark x z on off =
    let same : y ≡ x = cc in ap (λ n. same_connection n z && is_leaving mark) same ∙ ap (λ b. b && is_leaving mark) off
ends_on (commands.Connect y d clean) mark x z on off = let same : y ≡ x = cc in ap (λ n. same_connection n z) same ∙ off
ends_on (commands.Lost y) mark x z on off = let same : y ≡ x = cc in ap (λ n. same_connection n z) same ∙ off
ends_on (commands.Start ballot) mark x z on off = absurd (cc)
ends_on (commands.Expel c) mark x z on off = absurd (cc)

-- and expels no client
pub spares : (command : Command) (x : ConnectionName) (c : Client) → comes_on command ≡ Some x → expels command c ≡ false
spares (commands.Packet y packet) x c on = refl
spares (commands.Connect y d clean) x c on = refl
spares (commands.Lost y) x c on = refl
spares (commands.Start ballot) x c on = refl
spares (commands.Expel d) x c on = absurd (cc)

-- nor that of a session that is not on x
pub ends_none : (command : Command) (mark : Mark) (x : ConnectionName) (connection : Option ConnectionName) → comes_on command ≡ Some x →
    any_connection (same_connection x) connection ≡ false → any_connection (ends command mark) connection ≡ false
ends_none command mark x None on off = refl
ends_none command mark x (Some z) on off = ends_on command mark x z on off

-- ---- what it is about

-- a command with the mark of one client is about no other
about_one : (command : Command) (mark : Mark) (d c : Client) → IsMarkOf d mark → same_client d c ≡ false →
    (subscriptions : List GrantedSubscription) → is_about command mark c subscriptions ≡ false
about_one (commands.Connect x e clean) Mark.Accepted d c of other subscriptions = absurd of
about_one (commands.Packet x (packets.Publish p)) (Mark.Taken e) d c of other subscriptions = absurd of
about_one command (Mark.Granted e which) d c of other subscriptions = ap (λ b. same_client b c) of ∙ other
about_one command (Mark.Handled e) d c of other subscriptions = ap (λ b. same_client b c) of ∙ other
about_one _ _ d c of other subscriptions = refl

-- so it touches no other session
pub ones_marked : (command : Command) (mark : Mark) (x : ConnectionName) (d : Client) → comes_on command ≡ Some x → IsMarkOf d mark →
    TouchesNoOther (record { command = command; mark = mark }) x d
ones_marked command mark x d on of c kept other off =
    ap₂ (λ a b. a || b) (ap₂ (λ a b. a || b) (spares command x c on) (ends_none command mark x kept.connection on off)) (about_one command mark d c of other kept.state.subscriptions)

-- ---- the marks of an owner's commands

-- the mark of an owner's PUBLISH that is not taken
publish_mark : (limits : Limits) (state : State) (owner : Client × ClientSession) (p : Publish) → is_taken (owned_mark limits state owner (packets.Publish p)) ≡ false →
    IsMarkOf owner.0 (owned_mark limits state owner (packets.Publish p))
publish_mark limits state owner p = by (repeats_taken owner.1 p.delivery) (is_refused_in limits state (publication_of p))
  where
    by : (again refused : Bool) → is_taken (if again then Mark.Repeat owner.0 else if refused then Mark.Refused owner.0 else Mark.Taken owner.0) ≡ false →
        IsMarkOf owner.0 (if again then Mark.Repeat owner.0 else if refused then Mark.Refused owner.0 else Mark.Taken owner.0)
    by true refused e = refl
    by false true e = refl
    by false false e = absurd (cc)

-- the mark of any packet of an owner that is not taken
owned_is : (limits : Limits) (state : State) (owner : Client × ClientSession) (packet : Packet) → is_taken (owned_mark limits state owner packet) ≡ false →
    IsMarkOf owner.0 (owned_mark limits state owner packet)
owned_is limits state owner (packets.Publish p) e = publish_mark limits state owner p e
owned_is limits state owner _ e = refl

-- the mark of any command of an owner that is not taken
pub owners_mark : (limits : Limits) (state : State) (command : Command) (x : ConnectionName) (owner : Client × ClientSession) → comes_on command ≡ Some x →
    owner_in x state.sessions ≡ Some owner → is_taken (mark_in limits state command) ≡ false → IsMarkOf owner.0 (mark_in limits state command)
owners_mark limits state (commands.Packet y packet) x owner on found e =
    let same : y ≡ x = cc in
    let here : owner_in y state.sessions ≡ Some owner = ap (λ n. owner_in n state.sessions) same ∙ found in
    subst (λ (o : Option (Client × ClientSession)). IsMarkOf owner.0 (packet_mark_in limits state packet o)) (sym here)
    (owned_is limits state owner packet (ap (λ o. is_taken (packet_mark_in limits state packet o)) (sym here) ∙ e))
owners_mark limits state (commands.Connect y c clean) x owner on found e =
    let same : y ≡ x = cc in
    let here : owner_in y state.sessions ≡ Some owner = ap (λ n. owner_in n state.sessions) same ∙ found in
    subst (λ (o : Option (Client × ClientSession)). IsMarkOf owner.0 (connect_mark_in limits state c o)) (sym here) refl
owners_mark limits state (commands.Lost y) x owner on found e = tt
owners_mark limits state (commands.Start ballot) x owner on found e = absurd (cc)
owners_mark limits state (commands.Expel c) x owner on found e = absurd (cc)

-- a command of an owner concerns only its connection and client
pub ones_owned : (limits : Limits) (state : State) (command : Command) (x : ConnectionName) (owner : Client × ClientSession) → comes_on command ≡ Some x →
    owner_in x state.sessions ≡ Some owner → is_taken (mark_in limits state command) ≡ false → TouchesNoOther (place_in limits state command) x owner.0
ones_owned limits state command x owner on found e =
    ones_marked command (mark_in limits state command) x owner.0 on (owners_mark limits state command x owner on found e)
