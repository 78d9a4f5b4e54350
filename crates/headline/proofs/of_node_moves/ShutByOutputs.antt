-- What the outputs of a replica make of a connection that may be closed.
use Rattle.std.proofs.Common.{arith, ◌≡◌, ℕ, Bool, true, false, ◌&&◌, if◌then◌else◌, List, [], ◌∷◌, ◌++◌, Option, Some, None, refl, sym, ap, ◌∙◌, subst}
use Rattle.std.specs.List.{find, fold}
use Rattle.std.proofs.lemmas.List.{append-nil}
use Rattle.packet.specs.declared.packet.Packet.{Packet}
use Rattle.packet.specs.Spelling.{spelling}
use Rattle.ballot_base.specs.declared.message.Effect.{Effect}
use Rattle.ballot_base.specs.declared.message.Effect.TheVariants.{To, Out}
use Rattle.ballot_base.specs.Protocol.{Input}
use Rattle.ballot_base.specs.Replica.{ReplicaState}
use Rattle.ballot_base.specs.StepOutcome.{Outcome}
use Rattle.ballot_base.specs.Service.{proposed}
use Rattle.broker_base.specs.State.{State}
use Rattle.broker_spec.specs.declared.command.Command.{Command}
use Rattle.broker_spec.specs.declared.command.Output.{Output}
use Rattle.broker_spec.specs.declared.command.Output.TheVariants as outputs
use Rattle.broker_spec.specs.Connection.{ConnectionName, same_connection}
use Rattle.broker_spec.proofs.ConnectionNames.{same_name, same_itself}
use Rattle.exactly_once.specs.Sends.{sends_to}
use Rattle.world_base.specs.declared.node_connections.connection.Connection.{Connection}
use Rattle.world_base.specs.node_connections.Connections.{is_open_named}
use Rattle.world_base.specs.node_connections.ConnectionChanges.{closed_connection, with_queued, changed_where}
use Rattle.world_base.specs.node_core.Core.{CoreState, StepOutcome, rules, serves}
use Rattle.world_base.specs.node_core.Effects.{without_messages, after_replica_step, with_effect, proposes, changes_named, drives, outcome_of_input}
use Rattle.headline.specs.node_moves.Closed.{listed_named}
use Rattle.headline.specs.node_moves.Ends.{AtMostOne, IsOrderly}
use Rattle.headline.specs.node_moves.Puts.{outputs_of, spelled}
use Rattle.headline.proofs.of_node_moves.JoinedGrows.{Up, up_proposed}
use Rattle.headline.proofs.of_node_moves.Views.{view, found_passes, none_changes}
use Rattle.headline.proofs.of_node_moves.Kept.{heard_up, live, named, left_true, put_out_name, stays_handled}
use Rattle.headline.proofs.of_node_moves.Shut.{Shuts, all, listed_closed, put_out_shuts, shuts_closed, shuts_dead, shuts_joined, shuts_nothing, shuts_on, shuts_others, shuts_same, shuts_unchanged}

pub right_true : (a b : Bool) → (a && b) ≡ true → b ≡ true
right_true true b t = t
right_true false b t = absurd cc

-- ---- a packet for a name

sent : (x name : ConnectionName) (bytes : List ℕ) (cs : List Connection) → AtMostOne (named x) cs → (b : Bool) → same_connection x name ≡ b
    → Shuts (if b then bytes else []) (view all (named x) cs) (view all (named x) (changed_where (is_open_named name) (with_queued bytes) cs))
sent x name bytes cs one true e = subst (λ (y : ConnectionName). Shuts bytes (view all (named x) cs) (view all (named x) (changed_where (is_open_named y) (with_queued bytes) cs)))
    (same_name x name e) (there (find (is_open_named x) cs) refl)
  where
    there : (o : Option Connection) → find (is_open_named x) cs ≡ o → Shuts bytes (view all (named x) cs) (view all (named x) (changed_where (is_open_named x) (with_queued bytes) cs))
    there None f =
        subst (λ (l : List Connection). Shuts bytes (view all (named x) cs) (view all (named x) l)) (sym (none_changes (is_open_named x) (with_queued bytes) cs f))
        (shuts_dead bytes (view all (named x) cs) (λ c h. listed_closed x cs c f h))
    there (Some c) f =
        let passes = found_passes (is_open_named x) cs c f in
        let lives = left_true (live c) (named x c) passes in
        shuts_on x (is_open_named x) (with_queued bytes) cs c bytes one (put_out_name bytes) f (right_true (live c) (named x c) passes) (put_out_shuts bytes c lives)
sent x name bytes cs one false e = by (find (is_open_named name) cs) refl
  where
    flip : (c : Connection) → c.name ≡ name → (b : Bool) → named x c ≡ b → b ≡ false
    flip c is true f =
        let same : x ≡ name = sym (same_name c.name x f) ∙ is in
        sym (subst (λ (y : ConnectionName). same_connection x y ≡ true) same (same_itself x)) ∙ e
    flip c is false f = refl

    by : (o : Option Connection) → find (is_open_named name) cs ≡ o → Shuts [] (view all (named x) cs) (view all (named x) (changed_where (is_open_named name) (with_queued bytes) cs))
    by None f = shuts_unchanged x (is_open_named name) (with_queued bytes) cs f
    by (Some c) f =
        let is = same_name c.name name (right_true (live c) (named name c) (found_passes (is_open_named name) cs c f)) in
        shuts_others x (is_open_named name) (with_queued bytes) cs c (put_out_name bytes) f (flip c is (named x c) refl)

-- ---- what a step of the replica gives

-- the bytes of some effects, for a name
abbrev pub bytes_for : ConnectionName → List (Effect Command Output) → List ℕ
bytes_for x effects = spelled (sends_to x (outputs_of effects))

pub bytes_join : (x : ConnectionName) (e : Effect Command Output) (effects : List (Effect Command Output)) → bytes_for x (e ∷ effects) ≡ bytes_for x (e ∷ []) ++ bytes_for x effects
bytes_join x (To receiver message) effects = refl
bytes_join x (Out place (outputs.Close name)) effects = refl
bytes_join x (Out place (outputs.Send name packet)) effects = by (same_connection x name)
  where
    rest : List Packet
    rest = sends_to x (outputs_of effects)

    by : (b : Bool) → spelled (if b then packet ∷ rest else rest) ≡ spelled (if b then packet ∷ [] else []) ++ spelled rest
    by true = ap (λ (l : List ℕ). l ++ spelled rest) (sym (append-nil (spelling packet)))
    by false = refl

pub named_shuts : (x name : ConnectionName) (f : Connection → Connection) (core : CoreState) (bytes : List ℕ)
    → Shuts bytes (listed_named x core) (view all (named x) (changed_where (is_open_named name) f core.connections)) → Shuts bytes (listed_named x core) (listed_named x (changes_named name f core))
unfolding changes_named
named_shuts x name f core bytes h = h

pub handled_shuts : (x : ConnectionName) (core : CoreState) (e : Effect Command Output) → IsOrderly core
    → Shuts (bytes_for x (e ∷ [])) (listed_named x core) (listed_named x (with_effect core e))
handled_shuts x core (To receiver message) o = shuts_same (listed_named x core)
handled_shuts x core (Out place (outputs.Close name)) o =
    named_shuts x name closed_connection core []
    (shuts_nothing x (is_open_named name) closed_connection core.connections (o.names x) (λ d e. left_true (live d) (named name d) e) (λ d. refl) (λ d e. shuts_closed d))
handled_shuts x core (Out place (outputs.Send name packet)) o =
    named_shuts x name (with_queued (spelling packet)) core (spelled (if same_connection x name then packet ∷ [] else []))
    (by (same_connection x name) (sent x name (spelling packet) core.connections (o.names x) (same_connection x name) refl))
  where
    after : Option Connection
    after = view all (named x) (changed_where (is_open_named name) (with_queued (spelling packet)) core.connections)

    by : (b : Bool) → Shuts (if b then spelling packet else []) (listed_named x core) after → Shuts (spelled (if b then packet ∷ [] else [])) (listed_named x core) after
    by true h = subst (λ (l : List ℕ). Shuts l (listed_named x core) after) (sym (append-nil (spelling packet))) h
    by false h = h

delivered_shuts : (x : ConnectionName) (core : CoreState) (effects : List (Effect Command Output)) → IsOrderly core
    → Shuts (bytes_for x effects) (listed_named x core) (listed_named x (fold with_effect core effects))
delivered_shuts x core [] o = shuts_same (listed_named x core)
delivered_shuts x core (e ∷ effects) o =
    subst (λ (l : List ℕ). Shuts l (listed_named x core) (listed_named x (fold with_effect (with_effect core e) effects))) (sym (bytes_join x e effects))
    (shuts_joined (handled_shuts x core e o) (delivered_shuts x (with_effect core e) effects (stays_handled core e o).orderly))

moved_shuts : (x : ConnectionName) (outcome : Outcome State Command Output) (core : CoreState) → Up core.replica.state outcome → IsOrderly core
    → Shuts (bytes_for x outcome.effects) (listed_named x core) (listed_named x (after_replica_step outcome core).core)
moved_shuts x outcome core up o =
    let within = o.within in
    delivered_shuts x (let k : CoreState = record core { replica = record core.replica { state = outcome.state } } in k) outcome.effects
    (record { names = o.names; given = o.given; within = omega (arith, within, up) })

pub driven_shuts : (x : ConnectionName) (input : Input Command) (core : CoreState) → IsOrderly core
    → Shuts (bytes_for x (outcome_of_input input core.replica.state).effects) (listed_named x core) (listed_named x (drives input core).core)
unfolding drives
driven_shuts x input core o = moved_shuts x (outcome_of_input input core.replica.state) core (heard_up input core) o

-- what a proposal gives
abbrev pub given_by : Command → Bool → ReplicaState State Command → List (Effect Command Output)
given_by command serving r = if serving then (proposed rules r command).effects else []

pub proposed_shuts : (x : ConnectionName) (command : Command) (core : CoreState) → IsOrderly core
    → Shuts (bytes_for x (given_by command (serves core) core.replica.state)) (listed_named x core) (listed_named x (proposes command core).core)
unfolding proposes
proposed_shuts x command core o = by (serves core)
  where
    by : (b : Bool) → Shuts (bytes_for x (given_by command b core.replica.state)) (listed_named x core)
        (listed_named x (let t : StepOutcome = if b then after_replica_step (proposed rules core.replica.state command) core else without_messages core in t).core)
    by true = moved_shuts x (proposed rules core.replica.state command) core (up_proposed rules core.replica.state command) o
    by false = shuts_same (listed_named x core)
