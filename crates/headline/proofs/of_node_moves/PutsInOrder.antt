-- What a node queues on a connection are the packets that name it, in order.
use Rattle.std.proofs.Common.{◌≡◌, ◌+◌, ℕ, nat_le, length, Bool, true, false, ◌&&◌, if◌then◌else◌, List, [], ◌∷◌, ◌++◌, Option, Some, None, refl, sym, ap, ◌∙◌, subst, filter, map, append_assoc, arith}
use Rattle.std.specs.List.{find, fold}
use Rattle.std.proofs.lemmas.List.{append-nil}
use Rattle.packet.specs.declared.packet.Packet.{Packet}
use Rattle.packet_base.specs.declared.refusal_code.RefusalCode.{RefusalCode}
use Rattle.packet.specs.Spelling.{spelling}
use Rattle.ballot_base.specs.declared.message.Effect.{Effect}
use Rattle.ballot_base.specs.declared.message.Effect.TheVariants.{To, Out}
use Rattle.ballot_base.specs.StepOutcome.{Outcome}
use Rattle.ballot_base.specs.Service.{proposed}
use Rattle.broker_base.specs.State.{State}
use Rattle.broker_spec.specs.declared.command.Command.{Command}
use Rattle.broker_spec.specs.declared.command.Output.{Output}
use Rattle.broker_spec.specs.declared.command.Output.TheVariants as outputs
use Rattle.broker_spec.specs.Connection.{ConnectionName, same_connection}
use Rattle.broker_spec.proofs.ConnectionNames.{same_name, same_itself}
use Rattle.exactly_once.specs.Sends.{sends_to}
use Rattle.world_base.specs.declared.node_connections.port.Port.{Port}
use Rattle.world_base.specs.declared.node_connections.connection.Connection.{Connection}
use Rattle.ballot_base.specs.Protocol.{Input}
use Rattle.ballot_base.specs.Replica.{CountedReplica, ReplicaState}
use Rattle.world_base.specs.node_core.Step.{settled, with_next_connection}
use Rattle.world_base.specs.node_connections.Connections.{is_listed, is_at, is_open_at, is_open_named}
use Rattle.world_base.specs.node_connections.ConnectionChanges.{noted_proposed, with_unread, left_with, max_pending, closed_connection, failing, with_queued, putting, changed_where}
use Rattle.world_base.specs.node_core.Core.{CoreState, StepOutcome, rules, serves}
use Rattle.world_base.specs.node_core.FailedConnections.{closes_failed}
use Rattle.world_base.specs.node_core.PacketInput.{changes}
use Rattle.world_base.specs.node_connections.Refusals.{connect_refused}
use Rattle.world_base.specs.node_core.Effects.{without_messages, after_replica_step, with_effect, proposes, changes_named, drives, outcome_of_input, has_room}
use Rattle.headline.specs.node_moves.Ends.{AtMostOne, IsOrderly, open_named}
use Rattle.headline.specs.node_moves.Moves.{NodeMove}
use Rattle.headline.specs.node_moves.Moves.NodeMove.{hears, opens_one, holds, reads_first, reads_later, closes, refuses, loses_one, loses_next, expels_one, cuts_log, crashes, settles, hands}
use Rattle.headline.specs.node_moves.Puts.{PutsInOrder, move_effects, is_handing, outputs_of, spelled}
use Rattle.headline.proofs.of_node_moves.Opening.{open_stays}
use Rattle.headline.proofs.of_node_moves.Views.{view, if_live, found_passes, same_some, some_none, none_changes, view_of_others, view_of_changed, view_filtered}
use Rattle.headline.proofs.of_node_moves.Kept.{live, named, named_kept, left_true, stays_handled, all_closed, unlisted_dead, changed_orderly, failing_over, put_out_name, same_of_failed, stays_failed, heard_up}
use Rattle.headline.proofs.of_node_moves.JoinedGrows.{Up, up_proposed}
use Rattle.headline.proofs.of_node_moves.NamesInOrder.{same_le}

-- these bytes are queued after, if the connection stays open
pub data Puts (bytes : List ℕ) : Option Connection → Option Connection → Type 0 where
  nobody : Puts bytes None None
  put : {c d : Connection} → d.pending ≡ c.pending ++ bytes → Puts bytes (Some c) (Some d)
  gone : {c : Connection} → Puts bytes (Some c) None

puts_none : (o : Option Connection) → Puts [] o o
puts_none None = nobody
puts_none (Some c) = put (sym (append-nil c.pending))

puts_joined : {a b : List ℕ} {o p q : Option Connection} → Puts a o p → Puts b p q → Puts (a ++ b) o q
puts_joined nobody nobody = nobody
puts_joined {a = a} {b = b} (put {c = c} e) (put f) = put (f ∙ ap (λ (l : List ℕ). l ++ b) e ∙ append_assoc c.pending a b)
puts_joined (put e) gone = gone
puts_joined gone nobody = gone

if_still : (bytes : List ℕ) (c d : Connection) (b : Bool) → (b ≡ true → d.pending ≡ c.pending ++ bytes) → Puts bytes (Some c) (if b then Some d else None)
if_still bytes c d true e = put (e refl)
if_still bytes c d false e = gone

-- one that is found is changed
puts_found : (x : ConnectionName) (test : Connection → Bool) (f : Connection → Connection) (cs : List Connection) (c : Connection) (bytes : List ℕ) → AtMostOne (named x) cs
    → ((d : Connection) → test d ≡ true → live d ≡ true) → ((d : Connection) → (f d).name ≡ d.name) → find test cs ≡ Some c → named x c ≡ true
    → (live (f c) ≡ true → (f c).pending ≡ c.pending ++ bytes) → Puts bytes (view live (named x) cs) (view live (named x) (changed_where test f cs))
puts_found x test f cs c bytes one lives name found is pending =
    let two = view_of_changed live (named x) test f cs c one lives (named_kept x f name) found is in
    subst (λ (o : Option Connection). Puts bytes o (view live (named x) (changed_where test f cs))) (sym two.0)
    (subst (Puts bytes (Some c)) (sym two.1) (if_still bytes c (f c) (live (f c)) pending))

puts_others : (x : ConnectionName) (test : Connection → Bool) (f : Connection → Connection) (cs : List Connection) (c : Connection)
    → ((d : Connection) → (f d).name ≡ d.name) → find test cs ≡ Some c → named x c ≡ false → Puts [] (view live (named x) cs) (view live (named x) (changed_where test f cs))
puts_others x test f cs c name found other =
    subst (Puts [] (view live (named x) cs)) (sym (view_of_others live (named x) test f cs c (named_kept x f name) found other)) (puts_none (view live (named x) cs))

-- a change that queues nothing
puts_nothing : (x : ConnectionName) (test : Connection → Bool) (f : Connection → Connection) (cs : List Connection) → AtMostOne (named x) cs
    → ((d : Connection) → test d ≡ true → live d ≡ true) → ((d : Connection) → (f d).name ≡ d.name) → ((d : Connection) → (f d).pending ≡ d.pending)
    → Puts [] (view live (named x) cs) (view live (named x) (changed_where test f cs))
puts_nothing x test f cs one lives name pending = by (find test cs) refl
  where
    on : (c : Connection) → find test cs ≡ Some c → (b : Bool) → named x c ≡ b → Puts [] (view live (named x) cs) (view live (named x) (changed_where test f cs))
    on c e true is = puts_found x test f cs c [] one lives name e is (λ _. pending c ∙ sym (append-nil c.pending))
    on c e false other = puts_others x test f cs c name e other

    by : (o : Option Connection) → find test cs ≡ o → Puts [] (view live (named x) cs) (view live (named x) (changed_where test f cs))
    by None e = subst (λ (l : List Connection). Puts [] (view live (named x) cs) (view live (named x) l)) (sym (none_changes test f cs e)) (puts_none (view live (named x) cs))
    by (Some c) e = on c e (named x c) refl

-- ---- one output

-- bytes are queued, if the connection stays open
put_out_pending : (bytes : List ℕ) (c : Connection) → live (with_queued bytes c) ≡ true → (with_queued bytes c).pending ≡ c.pending ++ bytes
put_out_pending bytes c = by (nat_le (length c.pending + length bytes) max_pending)
  where
    by : (b : Bool) → live (if b then putting bytes c else failing c) ≡ true
        → (let d : Connection = if b then putting bytes c else failing c in d).pending ≡ c.pending ++ bytes
    by true lives = refl
    by false lives = let over = failing_over c in absurd cc

sent_list : (x name : ConnectionName) (bytes : List ℕ) (cs : List Connection) → AtMostOne (named x) cs → (b : Bool) → same_connection x name ≡ b
    → Puts (if b then bytes else []) (view live (named x) cs) (view live (named x) (changed_where (is_open_named name) (with_queued bytes) cs))
sent_list x name bytes cs one true e = by (find (is_open_named x) cs) refl
  where
    same : x ≡ name
    same = same_name x name e

    lives : (d : Connection) → is_open_named x d ≡ true → live d ≡ true
    lives d t = left_true (live d) (named x d) t

    right : (a b : Bool) → (a && b) ≡ true → b ≡ true
    right true b t = t
    right false b t = absurd cc

    there : (o : Option Connection) → find (is_open_named x) cs ≡ o → Puts bytes (view live (named x) cs) (view live (named x) (changed_where (is_open_named x) (with_queued bytes) cs))
    there None f =
        subst (λ (l : List Connection). Puts bytes (view live (named x) cs) (view live (named x) l)) (sym (none_changes (is_open_named x) (with_queued bytes) cs f))
        (subst (λ (o : Option Connection). Puts bytes o o) (sym f) nobody)
    there (Some c) f =
        puts_found x (is_open_named x) (with_queued bytes) cs c bytes one lives (put_out_name bytes) f (right (live c) (named x c) (found_passes (is_open_named x) cs c f))
        (put_out_pending bytes c)

    by : (o : Option Connection) → find (is_open_named x) cs ≡ o → Puts bytes (view live (named x) cs) (view live (named x) (changed_where (is_open_named name) (with_queued bytes) cs))
    by o f = subst (λ (y : ConnectionName). Puts bytes (view live (named x) cs) (view live (named x) (changed_where (is_open_named y) (with_queued bytes) cs))) same (there o f)
sent_list x name bytes cs one false e = by (find (is_open_named name) cs) refl
  where
    right : (a b : Bool) → (a && b) ≡ true → b ≡ true
    right true b t = t
    right false b t = absurd cc

    flip : (c : Connection) → c.name ≡ name → (b : Bool) → named x c ≡ b → b ≡ false
    flip c is true f =
        let same : x ≡ name = sym (same_name c.name x f) ∙ is in
        let itself : same_connection x name ≡ true = subst (λ (y : ConnectionName). same_connection x y ≡ true) same (same_itself x) in
        sym itself ∙ e
    flip c is false f = refl

    by : (o : Option Connection) → find (is_open_named name) cs ≡ o → Puts [] (view live (named x) cs) (view live (named x) (changed_where (is_open_named name) (with_queued bytes) cs))
    by None f =
        subst (λ (l : List Connection). Puts [] (view live (named x) cs) (view live (named x) l)) (sym (none_changes (is_open_named name) (with_queued bytes) cs f))
        (puts_none (view live (named x) cs))
    by (Some c) f =
        let is = same_name c.name name (right (live c) (named name c) (found_passes (is_open_named name) cs c f)) in
        puts_others x (is_open_named name) (with_queued bytes) cs c (put_out_name bytes) f (flip c is (named x c) refl)

-- ---- what a step of the replica gives

-- the bytes of some effects, for a name
abbrev bytes_for : ConnectionName → List (Effect Command Output) → List ℕ
bytes_for x effects = spelled (sends_to x (outputs_of effects))

bytes_join : (x : ConnectionName) (e : Effect Command Output) (effects : List (Effect Command Output)) → bytes_for x (e ∷ effects) ≡ bytes_for x (e ∷ []) ++ bytes_for x effects
bytes_join x (To receiver message) effects = refl
bytes_join x (Out place (outputs.Close name)) effects = refl
bytes_join x (Out place (outputs.Send name packet)) effects = by (same_connection x name)
  where
    rest : List Packet
    rest = sends_to x (outputs_of effects)

    by : (b : Bool) → spelled (if b then packet ∷ rest else rest) ≡ spelled (if b then packet ∷ [] else []) ++ spelled rest
    by true = ap (λ (l : List ℕ). l ++ spelled rest) (sym (append-nil (spelling packet)))
    by false = refl

named_puts : (x name : ConnectionName) (f : Connection → Connection) (core : CoreState) (bytes : List ℕ)
    → Puts bytes (open_named x core) (view live (named x) (changed_where (is_open_named name) f core.connections)) → Puts bytes (open_named x core) (open_named x (changes_named name f core))
unfolding changes_named
named_puts x name f core bytes h = h

handled_puts : (x : ConnectionName) (core : CoreState) (e : Effect Command Output) → IsOrderly core → Puts (bytes_for x (e ∷ [])) (open_named x core) (open_named x (with_effect core e))
handled_puts x core (To receiver message) o = puts_none (open_named x core)
handled_puts x core (Out place (outputs.Close name)) o =
    named_puts x name closed_connection core []
    (puts_nothing x (is_open_named name) closed_connection core.connections (o.names x) (λ d e. left_true (live d) (named name d) e) (λ d. refl) (λ d. refl))
handled_puts x core (Out place (outputs.Send name packet)) o =
    named_puts x name (with_queued (spelling packet)) core (spelled (if same_connection x name then packet ∷ [] else []))
    (by (same_connection x name) (sent_list x name (spelling packet) core.connections (o.names x) (same_connection x name) refl))
  where
    after : Option Connection
    after = view live (named x) (changed_where (is_open_named name) (with_queued (spelling packet)) core.connections)

    by : (b : Bool) → Puts (if b then spelling packet else []) (open_named x core) after → Puts (spelled (if b then packet ∷ [] else [])) (open_named x core) after
    by true h = subst (λ (l : List ℕ). Puts l (open_named x core) after) (sym (append-nil (spelling packet))) h
    by false h = h

delivered_puts : (x : ConnectionName) (core : CoreState) (effects : List (Effect Command Output)) → IsOrderly core
    → Puts (bytes_for x effects) (open_named x core) (open_named x (fold with_effect core effects))
delivered_puts x core [] o = puts_none (open_named x core)
delivered_puts x core (e ∷ effects) o =
    subst (λ (l : List ℕ). Puts l (open_named x core) (open_named x (fold with_effect (with_effect core e) effects))) (sym (bytes_join x e effects))
    (puts_joined (handled_puts x core e o) (delivered_puts x (with_effect core e) effects (stays_handled core e o).orderly))

moved_puts : (x : ConnectionName) (outcome : Outcome State Command Output) (core : CoreState) → Up core.replica.state outcome → IsOrderly core
    → Puts (bytes_for x outcome.effects) (open_named x core) (open_named x (after_replica_step outcome core).core)
moved_puts x outcome core up o =
    let within = o.within in
    delivered_puts x (let k : CoreState = record core { replica = record core.replica { state = outcome.state } } in k) outcome.effects
    (record { names = o.names; given = o.given; within = omega (arith, within, up) })

driven_puts : (x : ConnectionName) (input : Input Command) (core : CoreState) → IsOrderly core
    → Puts (bytes_for x (outcome_of_input input core.replica.state).effects) (open_named x core) (open_named x (drives input core).core)
unfolding drives
driven_puts x input core o = moved_puts x (outcome_of_input input core.replica.state) core (heard_up input core) o

-- what a proposal gives
abbrev given_by : Command → Bool → ReplicaState State Command → List (Effect Command Output)
given_by command serving r = if serving then (proposed rules r command).effects else []

proposed_puts : (x : ConnectionName) (command : Command) (core : CoreState) → IsOrderly core
    → Puts (bytes_for x (given_by command (serves core) core.replica.state)) (open_named x core) (open_named x (proposes command core).core)
unfolding proposes
proposed_puts x command core o = by (serves core)
  where
    by : (b : Bool) → Puts (bytes_for x (given_by command b core.replica.state)) (open_named x core)
        (open_named x (let t : StepOutcome = if b then after_replica_step (proposed rules core.replica.state command) core else without_messages core in t).core)
    by true = moved_puts x (proposed rules core.replica.state command) core (up_proposed rules core.replica.state command) o
    by false = puts_none (open_named x core)

-- ---- moves

puts_open : (bytes : List ℕ) (o p : Option Connection) (c d : Connection) → Puts bytes o p → o ≡ Some c → p ≡ Some d → d.pending ≡ c.pending ++ bytes
puts_open bytes (Some a) (Some b) c d (put e) f g =
    ap (λ (z : Connection). z.pending) (sym (same_some b d g)) ∙ e ∙ ap (λ (z : Connection). z.pending ++ bytes) (same_some a c f)
puts_open bytes None None c d nobody f g = absurd (some_none c (sym f))
puts_open bytes None (Some b) c d z f g = elim z [ ]
puts_open bytes (Some a) None c d gone f g = absurd (some_none d (sym g))

at_puts : (x : ConnectionName) (port : Port) (f : Connection → Connection) (core : CoreState) → IsOrderly core → ((d : Connection) → (f d).name ≡ d.name)
    → ((d : Connection) → (f d).pending ≡ d.pending) → Puts [] (open_named x core) (open_named x (changes port f core))
unfolding changes
at_puts x port f core o name pending =
    puts_nothing x (is_open_at port) f core.connections (o.names x) (λ d e. left_true (live d) (is_at port d) e) name pending

at_orderly : (port : Port) (f : Connection → Connection) (core : CoreState) → IsOrderly core → ((d : Connection) → (f d).name ≡ d.name) → IsOrderly (changes port f core)
unfolding changes
at_orderly port f core o name = changed_orderly core (changes port f core) (is_open_at port) f o refl refl (same_le core.replica.state.joined) name

at_replica : (port : Port) (f : Connection → Connection) (core : CoreState) → (changes port f core).replica ≡ core.replica
unfolding changes
at_replica port f core = refl

-- a proposal after a change of connections
after_puts : (x : ConnectionName) (command : Command) (core between : CoreState) → Puts [] (open_named x core) (open_named x between) → IsOrderly between
    → between.replica ≡ core.replica → Puts (bytes_for x (given_by command (serves core) core.replica.state)) (open_named x core) (open_named x (proposes command between).core)
after_puts x command core between first o same =
    puts_joined first
    (subst (λ (l : List (Effect Command Output)). Puts (bytes_for x l) (open_named x between) (open_named x (proposes command between).core)) (ap given_of same)
    (proposed_puts x command between o))
  where
    given_of : CountedReplica State Command → List (Effect Command Output)
    given_of r = given_by command (serves (let k : CoreState = record { replica = r; last_name = record { ballot = 0; count = 0 }; connections = [] } in k)) r.state

with_room : (x : ConnectionName) (command : Command) (core between : CoreState) → has_room core ≡ true
    → Puts (bytes_for x (given_by command (serves core) core.replica.state)) (open_named x core) (open_named x (proposes command between).core)
    → Puts (bytes_for x (proposed rules core.replica.state command).effects) (open_named x core) (open_named x (proposes command between).core)
with_room x command core between room h =
    subst (λ (b : Bool). Puts (bytes_for x (given_by command b core.replica.state)) (open_named x core) (open_named x (proposes command between).core))
    (left_true (serves core) _ room) h

settled_puts : (x : ConnectionName) (core : CoreState) → Puts [] (open_named x core) (open_named x (settled core))
unfolding settled
settled_puts x core = by (serves core)
  where
    nothing_left : (o : Option Connection) → Puts [] o None
    nothing_left None = nobody
    nothing_left (Some c) = gone

    by : (b : Bool) → Puts [] (open_named x core) (view live (named x) (filter is_listed (if b then core.connections else map closed_connection core.connections)))
    by true = subst (Puts [] (open_named x core)) (sym (view_filtered live (named x) is_listed core.connections unlisted_dead)) (puts_none (open_named x core))
    by false =
        subst (Puts [] (open_named x core)) (sym (view_filtered live (named x) is_listed (map closed_connection core.connections) unlisted_dead ∙ all_closed x core.connections))
        (nothing_left (open_named x core))

-- a change that closes the connection
closing_puts : (x : ConnectionName) (port : Port) (f : Connection → Connection) (cs : List Connection) → AtMostOne (named x) cs → ((d : Connection) → (f d).name ≡ d.name)
    → ((d : Connection) → live (f d) ≡ false) → Puts [] (view live (named x) cs) (view live (named x) (changed_where (is_open_at port) f cs))
closing_puts x port f cs one name over = by (find (is_open_at port) cs) refl
  where
    on : (c : Connection) → find (is_open_at port) cs ≡ Some c → (b : Bool) → named x c ≡ b
        → Puts [] (view live (named x) cs) (view live (named x) (changed_where (is_open_at port) f cs))
    on c e true is =
        let two = view_of_changed live (named x) (is_open_at port) f cs c one (λ d t. left_true (live d) (is_at port d) t) (named_kept x f name) e is in
        let none : if_live live (f c) ≡ None = rw (over c) refl in
        subst (λ (o : Option Connection). Puts [] o (view live (named x) (changed_where (is_open_at port) f cs))) (sym two.0) (subst (Puts [] (Some c)) (sym (two.1 ∙ none)) gone)
    on c e false other = puts_others x (is_open_at port) f cs c name e other

    by : (o : Option Connection) → find (is_open_at port) cs ≡ o → Puts [] (view live (named x) cs) (view live (named x) (changed_where (is_open_at port) f cs))
    by None e =
        subst (λ (l : List Connection). Puts [] (view live (named x) cs) (view live (named x) l)) (sym (none_changes (is_open_at port) f cs e)) (puts_none (view live (named x) cs))
    by (Some c) e = on c e (named x c) refl

refused_puts : (x : ConnectionName) (port : Port) (code : RefusalCode) (core : CoreState) → IsOrderly core → Puts [] (open_named x core) (open_named x (changes port (connect_refused code) core))
unfolding changes
refused_puts x port code core o = closing_puts x port (connect_refused code) core.connections (o.names x) (λ d. refl) (λ d. refl)

opened_puts : (x : ConnectionName) (port : Port) (core : CoreState) (c : Connection) → IsOrderly core → open_named x core ≡ Some c
    → Puts [] (open_named x core) (open_named x (with_next_connection port core))
opened_puts x port core c o there =
    subst (λ (z : Option Connection). Puts [] z (open_named x (with_next_connection port core))) (sym there)
    (subst (Puts [] (Some c)) (sym (open_stays x port core c o there)) (put (sym (append-nil c.pending))))

all_puts : (core : CoreState) (turn : StepOutcome) (m : NodeMove core turn) → IsOrderly core → is_handing m ≡ false → (x : ConnectionName) (c : Connection) → open_named x core ≡ Some c
    → Puts (bytes_for x (move_effects m)) (open_named x core) (open_named x turn.core)
all_puts core turn (hears input other) o no_hand x c there = driven_puts x input core o
all_puts core turn (opens_one port) o no_hand x c there = opened_puts x port core c o there
all_puts core turn (holds port piece) o no_hand x c there = at_puts x port (with_unread piece) core o (λ d. refl) (λ d. refl)
all_puts core turn (reads_first now port k connect rest at first is room) o no_hand x c there =
    let left : CoreState = changes port (left_with now rest) core in
    let ordered = at_orderly port (left_with now rest) core o (λ d. refl) in
    with_room x _ core (changes port (noted_proposed connect.keep_alive) left) room
    (after_puts x _ core (changes port (noted_proposed connect.keep_alive) left)
    (puts_joined (at_puts x port (left_with now rest) core o (λ d. refl) (λ d. refl)) (at_puts x port (noted_proposed connect.keep_alive) left ordered (λ d. refl) (λ d. refl)))
    (at_orderly port (noted_proposed connect.keep_alive) left ordered (λ d. refl)) (at_replica port (noted_proposed connect.keep_alive) left ∙ at_replica port (left_with now rest) core))
all_puts core turn (reads_later now port k packet rest at later is room) o no_hand x c there =
    with_room x _ core (changes port (left_with now rest) core) room
    (after_puts x _ core (changes port (left_with now rest) core) (at_puts x port (left_with now rest) core o (λ d. refl) (λ d. refl))
    (at_orderly port (left_with now rest) core o (λ d. refl)) (at_replica port (left_with now rest) core))
all_puts core turn (closes port) o no_hand x c there = at_puts x port closed_connection core o (λ d. refl) (λ d. refl)
all_puts core turn (refuses port k code at first is) o no_hand x c there = refused_puts x port code core o
all_puts core turn (loses_one port k at proposed_before) o no_hand x c there =
    after_puts x _ core (changes port closed_connection core) (at_puts x port closed_connection core o (λ d. refl) (λ d. refl)) (at_orderly port closed_connection core o (λ d. refl)) (at_replica port closed_connection core)
all_puts core turn (loses_next k at) o no_hand x c there =
    after_puts x _ core (closes_failed core) (subst (Puts [] (open_named x core)) (sym (same_of_failed x core)) (puts_none (open_named x core)))
    (stays_failed core o).orderly refl
all_puts core turn (expels_one client) o no_hand x c there = after_puts x _ core core (puts_none (open_named x core)) o refl
all_puts core turn (cuts_log can) o no_hand x c there = puts_none (open_named x core)
all_puts core turn crashes o no_hand x c there = puts_none (open_named x core)
all_puts core turn settles o no_hand x c there = settled_puts x core
all_puts core turn (hands port) o no_hand x c there = absurd cc

pub puts_in_order : PutsInOrder
puts_in_order core turn m o no_hand x c d there later =
    puts_open (bytes_for x (move_effects m)) (open_named x core) (open_named x turn.core) c d (all_puts core turn m o no_hand x c there) there later
