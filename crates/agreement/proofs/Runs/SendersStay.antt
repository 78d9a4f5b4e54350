-- SendersStay.antt: whoever sends is the master or a node, and so the primary of each ballot that is activated is a node.
use Rattle.std.proofs.Common.{◌≡◌, ℕ, zero, suc, ◌<◌, ◌⊎◌, inl, inr, List, [], ◌∷◌, length, Some, None, Option, refl, ap, sym, ◌∙◌, subst, arith}
use Rattle.std.specs.Prelude.{slice_get}
use Rattle.std.proofs.lemmas.List.{length-set}
use Rattle.machine.specs.Machine.{Rules}
use Rattle.agreement.specs.whole_logs.Messages.{Body, Effect, Message}
use Rattle.agreement.specs.whole_logs.Messages.Body.{Activate}
use Rattle.ballot_base.specs.declared.config.Config.{Config}
use Rattle.agreement.specs.whole_logs.Losses.{Loses, halted}
use Rattle.agreement.specs.whole_logs.Protocol.{Input, replica_step}
use Rattle.agreement.specs.whole_logs.Replica.{ReplicaState}
use Rattle.agreement.specs.World.{GroupWorld, messages, moved}
use Rattle.lists.specs.Lists.{In}
use Rattle.lists.specs.Lists.In.{here, there}
use Rattle.lists.proofs.Members.{in_append}
use Rattle.agreement.specs.MasterState.{MasterState, MasterOutcome, AssignRefusal, activated, assigned, refusal, master_after}
use Rattle.agreement.specs.Steps.{MayHappen, sends_from_master, world_after}
use Rattle.agreement.specs.Steps.MayHappen.{node_takes, node_stops, master_assigns, master_hears, assignment_lost, answer_lost}
use Rattle.agreement.specs.Inside.Ballots.{Given, History}
use Rattle.agreement.specs.Inside.Extension.{Extends}
use Rattle.agreement.specs.Inside.Serves.{IsNode, AreSenders, IsLedByNode, Serves}
use Rattle.agreement.specs.Inside.Sound.{IsSoundWorld}
use Rattle.agreement.proofs.Effects.{thinned_messages}
use Rattle.agreement.proofs.Masters.Assigns.{active_or_waiting}
use Rattle.agreement.proofs.Runs.Senders.{from_in, step_is_from}

-- what is found is within the list
found_low : {X : Type 0} (xs : List X) (n : ℕ) (x : X) → slice_get xs n ≡ Some x → n < length xs
found_low [] n x e = cc
found_low (y ∷ xs) zero x e = omega arith
found_low (y ∷ xs) (suc n) x e = let z = found_low xs n x e in omega (arith, z)

-- after a step with losses each message is still from the node
loses_from : {S C O : Type 0} (rules : Rules S C O) (r : ReplicaState S C) (input : Input C) (new : ReplicaState S C) (given : List (Effect C O)) →
    Loses rules r (replica_step rules r input) new given → (to : ℕ) (m : Message C) → In (to, m) (messages given) → m.from ≡ r.id
loses_from rules r input new given (inl (e, thinned)) to m i =
    from_in r.id (step_is_from rules r input) to m (thinned_messages thinned (to, m) i)
loses_from {C = C} {O = O} rules r input new given (inr (inl (e, f))) to m i =
    elim (subst (λ (us : List (Effect C O)). In (to, m) (messages us)) f i) [ ]
loses_from {C = C} {O = O} rules r input new given (inr (inr (e, f))) to m i =
    elim (subst (λ (us : List (Effect C O)). In (to, m) (messages us)) f i) [ ]

-- a node's move
pub moved_senders : {S C O : Type 0} (rules : Rules S C O) (w : GroupWorld S C O) (h : History C) (n : ℕ) (r new : ReplicaState S C) (given : List (Effect C O)) →
    IsSoundWorld rules w h → slice_get w.nodes n ≡ Some r → ((to : ℕ) (m : Message C) → In (to, m) (messages given) → m.from ≡ r.id) →
    AreSenders w → AreSenders (moved w n new given)
moved_senders {S = S} {C = C} {O = O} rules w h n r new given s stands from senders to m i = by_age (in_append w.sent (messages given) i)
  where
    by_age : In (to, m) w.sent ⊎ In (to, m) (messages given) → (m.from ≡ 0) ⊎ IsNode (length (moved w n new given).nodes) m.from
    by_age (inl before) = subst (λ j. (m.from ≡ 0) ⊎ IsNode j m.from) (sym (length-set w.nodes n new)) (senders to m before)
    by_age (inr now) =
        inr (n, from to m now ∙ (s.nodes n r stands).id, (let a = length-set w.nodes n new in let b = found_low w.nodes n r stands in omega (arith, a, b)))

-- a message of the master
from_one : {C : Type 0} (receiver from : ℕ) (body : Body C) (to : ℕ) (m : Message C) →
    In {X = ℕ × Message C} (to, m) ((receiver, record { from = from; body = body }) ∷ []) → m.from ≡ from
from_one receiver from body to m here = refl
from_one receiver from body to m (there j) = elim j [ ]

master_senders : {S C O : Type 0} (w : GroupWorld S C O) (o : MasterOutcome C) → AreSenders w → AreSenders (sends_from_master w o)
master_senders {C = C} w o senders to m i = by_age (in_append w.sent _ i)
  where
    by_age : In (to, m) w.sent ⊎ In {X = ℕ × Message C} (to, m) ((o.receiver, record { from = 0; body = o.body }) ∷ []) → (m.from ≡ 0) ⊎ IsNode (length w.nodes) m.from
    by_age (inl before) = senders to m before
    by_age (inr now) = inl (from_one o.receiver 0 o.body to m now)

-- whatever happens
pub senders_stay : {S C O : Type 0} (rules : Rules S C O) (m : MasterState) (w : GroupWorld S C O) (k : MasterState) (v : GroupWorld S C O) (h : History C) →
    IsSoundWorld rules w h → MayHappen rules m w k v → AreSenders w → AreSenders v
senders_stay rules m w k v h s (node_takes n r input {new = new} {given = given} stands runs may loses) senders =
    moved_senders rules w h n r new given s stands (loses_from rules r input new given loses) senders
senders_stay rules m w k v h s (node_stops n r stands) senders =
    moved_senders rules w h n r (halted rules r) [] s stands (λ to x i. elim i [ ]) senders
senders_stay {C = C} rules m w k v h s (master_hears from b sent) senders = master_senders w (activated C m b from m.waiting) senders
senders_stay rules m w k v h s (answer_lost from b sent) senders = senders
senders_stay rules m w k v h s (assignment_lost config) senders = senders
senders_stay {C = C} rules m w k v h s (master_assigns config) senders = by_refusal (refusal m config)
  where
    by_refusal : (o : Option AssignRefusal) → AreSenders (world_after m w config o)
    by_refusal (Some why) = senders
    by_refusal None = master_senders w (assigned C m config) senders

-- the number of nodes stays
same_nodes : {S C O : Type 0} (rules : Rules S C O) (m : MasterState) (w : GroupWorld S C O) (k : MasterState) (v : GroupWorld S C O) →
    MayHappen rules m w k v → length v.nodes ≡ length w.nodes
same_nodes rules m w k v (node_takes n r input {new = new} stands runs may loses) = length-set w.nodes n new
same_nodes rules m w k v (node_stops n r stands) = length-set w.nodes n (halted rules r)
same_nodes rules m w k v (master_hears from b sent) = refl
same_nodes rules m w k v (answer_lost from b sent) = refl
same_nodes rules m w k v (assignment_lost config) = refl
same_nodes {S = S} {C = C} {O = O} rules m w k v (master_assigns config) = by_refusal (refusal m config)
  where
    by_refusal : (o : Option AssignRefusal) → length (world_after m w config o).nodes ≡ length w.nodes
    by_refusal (Some why) = refl
    by_refusal None = refl

-- the active ballot stays, or it is the one that waited, and its primary asked for it
abbrev IsAsked : {S C O : Type 0} → MasterState → GroupWorld S C O → ℕ → Type 0
IsAsked m w b = (from : ℕ) × In (0, record { from = from; body = Activate b }) w.sent × ((config : Config) × (m.waiting ≡ Some (b, config)))

asked_by : {S C O : Type 0} (m k : MasterState) (w : GroupWorld S C O) (b from : ℕ) → In (0, record { from = from; body = Activate b }) w.sent →
    (k.active ≡ m.active) ⊎ ((k.active ≡ b) × ((config : Config) × (m.waiting ≡ Some (b, config)))) →
    (k.active ≡ m.active) ⊎ IsAsked m w k.active
asked_by m k w b from sent (inl same) = inl same
asked_by m k w b from sent (inr (is, waits)) = inr (subst (λ x. IsAsked m w x) (sym is) (from, sent, waits))

active_then : {S C O : Type 0} (rules : Rules S C O) (m : MasterState) (w : GroupWorld S C O) (k : MasterState) (v : GroupWorld S C O) →
    MayHappen rules m w k v → (k.active ≡ m.active) ⊎ IsAsked m w k.active
active_then rules m w k v (node_takes n r input stands runs may loses) = inl refl
active_then rules m w k v (node_stops n r stands) = inl refl
active_then {C = C} rules m w k v (master_hears from b sent) = asked_by m (activated C m b from m.waiting).state w b from sent (active_or_waiting C m b from m.waiting refl)
active_then {C = C} rules m w k v (answer_lost from b sent) = asked_by m (activated C m b from m.waiting).state w b from sent (active_or_waiting C m b from m.waiting refl)
active_then {S = S} {C = C} {O = O} rules m w k v (master_assigns config) = by_refusal (refusal m config)
  where
    by_refusal : (o : Option AssignRefusal) → ((master_after m config o).active ≡ m.active) ⊎ IsAsked m w (master_after m config o).active
    by_refusal (Some why) = inl refl
    by_refusal None = inl refl
active_then {S = S} {C = C} {O = O} rules m w k v (assignment_lost config) = by_refusal (refusal m config)
  where
    by_refusal : (o : Option AssignRefusal) → ((master_after m config o).active ≡ m.active) ⊎ IsAsked m w (master_after m config o).active
    by_refusal (Some why) = inl refl
    by_refusal None = inl refl

-- who asks for the ballot that waits is its primary, a member, and so no master
asked_led : {S C O : Type 0} (rules : Rules S C O) (m : MasterState) (w : GroupWorld S C O) (h : History C) (b : ℕ) →
    Serves rules m w h → IsAsked m w b → IsLedByNode (length w.nodes) h b
asked_led {S = S} {C = C} {O = O} rules m w h b s (from, sent, (config, waits)) = by_sender (s.senders 0 _ sent)
  where
    said : (g : Given) × (h.given b ≡ Some g) × (from ≡ g.primary)
    said = let z = s.sound.said 0 _ sent in (z.0, z.1.given, z.2)

    given : (g : Given) × (h.given b ≡ Some g) × (g.members ≡ config.members)
    given = let z = (s.master.waits b config waits).2 in (z.0, z.1, z.3)

    same : said.0 ≡ given.0
    same = let a = said.1 in let c = given.1 in cc

    member : In said.0.primary config.members
    member = subst (λ ms. In said.0.primary ms) (ap (λ (y : Given). y.members) same ∙ given.2) (s.sound.ballots.led b said.0 said.1)

    by_sender : (from ≡ 0) ⊎ IsNode (length w.nodes) from → IsLedByNode (length w.nodes) h b
    by_sender (inl none) =
        let z = s.serving.waiting b config waits said.0.primary member in
        let e = z.1 in let f = said.2 in absurd (omega (arith, e, f, none))
    by_sender (inr node) = (said.0, said.1, subst (λ x. IsNode (length w.nodes) x) said.2 node)

-- the primary of the active ballot is a node
pub led_then : {S C O : Type 0} (rules : Rules S C O) (m : MasterState) (w : GroupWorld S C O) (k : MasterState) (v : GroupWorld S C O) (h i : History C) →
    Serves rules m w h → Extends w h v i → MayHappen rules m w k v → IsLedByNode (length v.nodes) i k.active
led_then {S = S} {C = C} {O = O} rules m w k v h i s extends step =
    subst (λ j. IsLedByNode j i k.active) (sym (same_nodes rules m w k v step)) (given_still (by_active (active_then rules m w k v step)))
  where
    by_active : (k.active ≡ m.active) ⊎ IsAsked m w k.active → IsLedByNode (length w.nodes) h k.active
    by_active (inl same) = subst (λ b. IsLedByNode (length w.nodes) h b) (sym same) s.led
    by_active (inr asked) = asked_led rules m w h k.active s asked

    given_still : IsLedByNode (length w.nodes) h k.active → IsLedByNode (length w.nodes) i k.active
    given_still (g, is, node) = (g, extends.given k.active g is, node)
