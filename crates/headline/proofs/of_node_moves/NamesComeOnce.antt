-- Names stay apart in each step of a node, also when memory may run out.
use Rattle.std.proofs.Common.{◌≡◌, inl, inr, ◌≤◌, ◌<◌, ℕ, zero, suc, Bool, true, false, not, ◌&&◌, if◌then◌else◌, List, [], ◌∷◌, ◌++◌, length, Option, Some, None, refl, sym, ap, ◌∙◌, subst, arith}
use Rattle.std.specs.List.{find, list_any}
use Rattle.packet.specs.Spelling.{spelling}
use Rattle.packet.specs.declared.packet.Packet.{Packet}
use Rattle.packet.specs.declared.packet.Packet.TheVariants as packets
use Rattle.ballot_base.specs.declared.message.Effect.{Effect}
use Rattle.ballot_base.specs.Losses.{ReplicaStepOrLost}
use Rattle.ballot_base.specs.Protocol.{Input}
use Rattle.ballot_base.specs.Protocol.Input.{Receives, Ticks}
use Rattle.ballot_base.specs.Replica.{CountedReplica, ReplicaState}
use Rattle.ballot_base.specs.StepOutcome.{Outcome}
use Rattle.broker_base.specs.State.{State}
use Rattle.broker_spec.specs.declared.command.Command.{Command}
use Rattle.broker_spec.specs.declared.command.Command.TheVariants as commands
use Rattle.broker_spec.specs.Connection.{ConnectionName, is_connection_name}
use Rattle.broker_spec.specs.declared.command.Output.{Output}
use Rattle.broker_spec.specs.declared.command.Output.TheVariants as outputs
use Rattle.world_base.specs.declared.node_connections.port.Port.{Port}
use Rattle.world_base.specs.declared.node_core.item.Item.{Item}
use Rattle.world_base.specs.declared.node_core.item.Item.TheVariants.{Peer, Tick, Opened, Bytes, Ended, Expel, Cut, Crash}
use Rattle.world_base.specs.declared.node_connections.connection.Connection.{Connection}
use Rattle.world_base.specs.node_connections.Connections.{fresh, has_failed, is_at, is_open_at, is_open_named}
use Rattle.world_base.specs.node_connections.ConnectionChanges.{noted_proposed, closed_connection, failing, with_unread, left_with, with_queued, changed_where}
use Rattle.world_base.specs.node_core.Core.{CoreState, rules, serves}
use Rattle.world_base.specs.node_core.FailedConnections.{closes_failed}
use Rattle.world_base.specs.node_core.PortOutput.{hands_over}
use Rattle.world_base.specs.node_core.Lossy.{Account, HandlesAll, Drives, HandledStepOrLost, Repeated, Performs, TakesCommand, Then, without_effects}
use Rattle.world_base.specs.node_core.LossyProposals.{Declines, ProposesCommand}
use Rattle.world_base.specs.node_core.LossyProposals.Declines.{no_room, forgets, stops}
use Rattle.world_base.specs.node_core.Lossy.HandlesAll.{nothing, does, sends, loses}
use Rattle.world_base.specs.node_core.LossyStep.{ActsOn, HoldsBytes, RunsOn, DoesItem}
use Rattle.world_base.specs.node_core.LossyEndings.{EndsConnection, EndsSilent, ReportsFailed}
use Rattle.world_base.specs.node_core.LossyPacketInput.{TakesOr, TakesFirstPacket, ClosesConnection, ReadsNext, Shuts}
use Rattle.world_base.specs.node_core.LossyEndings.EndsConnection.{none_open, unproposed, proposed}
use Rattle.world_base.specs.node_core.LossyEndings.EndsSilent.{none_silent, ends_one}
use Rattle.world_base.specs.node_core.LossyEndings.ReportsFailed.{none_failed, tells_one}
use Rattle.world_base.specs.node_core.LossyPacketInput.ReadsNext.{waits, first, later, refuses, ends}
use Rattle.world_base.specs.node_core.PacketInput.{changes, open_at, unread_of}
use Rattle.world_base.specs.node_connections.Refusals.{connect_refused}
use Rattle.world_base.specs.node_core.Step.{crashed, next_name, with_next_connection, settled, with_cut}
use Rattle.world_base.specs.node_core.LossyStep.LogCutOrLost.{nothing_to_cut, cuts_log, forgets_cut}
use Rattle.world_base.specs.node_core.Effects.{changes_named}
use Rattle.headline.specs.node_moves.Apart.{KeepsNames, NamesComeOnce}
use Rattle.headline.specs.node_moves.Closed.{listed_named}
use Rattle.headline.specs.node_moves.Ends.{IsGiven, IsOrderly, Precedes}
use Rattle.headline.specs.node_moves.Names.{IsNextName}
use Rattle.headline.proofs.of_node_moves.JoinedGrows.{Up}
use Rattle.headline.proofs.of_node_moves.Kept.{changed_orderly, heard_up, named, named_kept, put_out_name, stays_handed, stays_settled}
use Rattle.headline.proofs.of_node_moves.NamesInOrder.{given_later, next_precedes, not_both, same_le}
use Rattle.headline.proofs.of_node_moves.NewNames.{handed_away, opened_new, settled_away}
use Rattle.headline.proofs.of_node_moves.Opening.{opens_well}
use Rattle.headline.proofs.of_node_moves.ProposesInOrder.{opening_orderly}
use Rattle.headline.proofs.of_node_moves.ReplicaStays.{added_same}
use Rattle.headline.proofs.of_node_moves.Views.{some_none}

abbrev Keep : CoreState → CoreState → Type 0
Keep core new = IsOrderly core → KeepsNames core new

keep_same : (core : CoreState) → Keep core core
keep_same core o = record { orderly = o; given = λ x g. g; gone = λ x g none. none }

keep_both : (a b c : CoreState) → Keep a b → Keep b c → Keep a c
keep_both a b c one two o =
    let s = one o in
    let t = two s.orderly in
    record {
      orderly = t.orderly;
      given = λ x g. t.given x (s.given x g);
      gone = λ x g none. t.gone x (s.given x g) (s.gone x g none);
    }

-- ---- one change

-- who is not there does not come by a change
gone_changed : (name test : Connection → Bool) (f : Connection → Connection) (cs : List Connection) → ((d : Connection) → name (f d) ≡ name d) →
    find name cs ≡ None → find name (changed_where test f cs) ≡ None
gone_changed name test f [] kept none = refl
gone_changed name test f (c ∷ cs) kept none = by_name (name c) refl none (gone_changed name test f cs kept)
  where
    by_test : (t : Bool) → name c ≡ false → find name cs ≡ None → find name (changed_where test f cs) ≡ None →
        find name (if t then f c ∷ cs else c ∷ changed_where test f cs) ≡ None
    by_test true other e ih = let there : name (f c) ≡ false = kept c ∙ other in rw there e
    by_test false other e ih = rw other ih

    by_name : (n : Bool) → name c ≡ n → (if n then Some c else find name cs) ≡ None →
        (find name cs ≡ None → find name (changed_where test f cs) ≡ None) → find name (changed_where test f (c ∷ cs)) ≡ None
    by_name true is e ih = absurd (some_none c e)
    by_name false is e ih = by_test (test c) is e (ih e)

keep_changed : (core new : CoreState) (test : Connection → Bool) (f : Connection → Connection) →
    new.connections ≡ changed_where test f core.connections → new.last_name ≡ core.last_name →
    core.replica.state.joined ≤ new.replica.state.joined → ((c : Connection) → (f c).name ≡ c.name) → Keep core new
keep_changed core new test f are same up name o =
    record {
      orderly = changed_orderly core new test f o are same up name;
      given = λ x g. subst (λ (y : ConnectionName). IsGiven y x) (sym same) g;
      gone = λ x g none. subst (λ (l : List Connection). find (named x) l ≡ None) (sym are)
          (gone_changed (named x) test f core.connections (named_kept x f name) none);
    }

keep_at : (port : Port) (f : Connection → Connection) (core : CoreState) → ((c : Connection) → (f c).name ≡ c.name) → Keep core (changes port f core)
unfolding changes
keep_at port f core name = keep_changed core (changes port f core) (is_open_at port) f refl refl (same_le core.replica.state.joined) name

keep_named : (to : ConnectionName) (f : Connection → Connection) (core : CoreState) → ((c : Connection) → (f c).name ≡ c.name) →
    Keep core (changes_named to f core)
unfolding changes_named
keep_named to f core name = keep_changed core (changes_named to f core) (is_open_named to) f refl refl (same_le core.replica.state.joined) name

keep_closed : (port : Port) (core : CoreState) → Keep core (changes port closed_connection core)
keep_closed port core = keep_at port closed_connection core (λ c. refl)

keep_failed : (core : CoreState) → Keep core (closes_failed core)
keep_failed core = keep_changed core (closes_failed core) has_failed closed_connection refl refl (same_le core.replica.state.joined) (λ c. refl)

-- ---- the replica

keep_replica : (core : CoreState) (replica : CountedReplica State Command) → core.replica.state.joined ≤ replica.state.joined →
    Keep core (record core { replica = replica })
keep_replica core replica up o =
    let within = o.within in
    record {
      orderly = record { names = o.names; given = o.given; within = omega (arith, within, up) };
      given = λ x g. g;
      gone = λ x g none. none;
    }

same_up : (r s : ReplicaState State Command) → s ≡ r → r.joined ≤ s.joined
same_up r s e = subst (λ (t : ReplicaState State Command). r.joined ≤ t.joined) (sym e) (same_le r.joined)

pub steps_up : (old new : CountedReplica State Command) (outcome : Outcome State Command Output) (given : List (Effect Command Output)) →
    Up old.state outcome → ReplicaStepOrLost rules old outcome new given → old.state.joined ≤ new.state.joined
steps_up old new outcome given up (inl (state, effects, rest)) =
    subst (λ (t : ReplicaState State Command). old.state.joined ≤ t.joined) (sym state) up
steps_up old new outcome given up (inr (inl (state, rest), counted)) =
    subst (λ (t : ReplicaState State Command). old.state.joined ≤ t.joined) (sym state) up
steps_up old new outcome given up (inr (inr (inl (state, rest)), counted)) = same_up old.state new.state state
steps_up old new outcome given up (inr (inr (inr (state, rest)), counted)) =
    subst (λ (t : ReplicaState State Command). old.state.joined ≤ t.joined) (sym state) (same_le old.state.joined)

keep_served : (output : Output) (core new : CoreState) → Performs output core new → Keep core new
keep_served (outputs.Send name packet) core new (inl is) =
    subst (λ (k : CoreState). Keep core k) (sym is) (keep_named name (with_queued (spelling packet)) core (put_out_name (spelling packet)))
keep_served (outputs.Send name packet) core new (inr is) =
    subst (λ (k : CoreState). Keep core k) (sym is) (keep_named name failing core (λ c. refl))
keep_served (outputs.Close name) core new is = subst (λ (k : CoreState). Keep core k) (sym is) (keep_named name closed_connection core (λ c. refl))

keep_delivered : (given : List (Effect Command Output)) (core new : CoreState) (messages : List (Effect Command Output)) →
    HandlesAll given core new messages → Keep core new
keep_delivered _ core _ _ nothing = keep_same core
keep_delivered _ core new _ (does {place} {output} {core = k} {next = next} {given = given} served more) =
    keep_both core next new (keep_served output core next served) (keep_delivered given next new _ more)
keep_delivered _ core new _ (sends {receiver} {message} {given = given} more) = keep_delivered given core new _ more
keep_delivered _ core new _ (loses {receiver} {message} {given = given} more) = keep_delivered given core new _ more

keep_moved : (outcome : Outcome State Command Output) (core : CoreState) (account : Account) → Up core.replica.state outcome →
    HandledStepOrLost outcome core account → Keep core account.core
keep_moved outcome core account up m =
    keep_both core (record core { replica = m.replica }) account.core
    (keep_replica core m.replica (steps_up core.replica m.replica outcome account.given up m.steps))
    (keep_delivered account.given (record core { replica = m.replica }) account.core account.messages m.handles)

keep_driven : (input : Input Command) (core : CoreState) (account : Account) → Drives input core account → Keep core account.core
keep_driven input core account m = keep_moved _ core account (heard_up input core) m

keep_taken : (command : Command) (core : CoreState) (account : Account) → TakesCommand command core account → Keep core account.core
keep_taken command core account t =
    let same : t.replica.state.joined ≡ core.replica.state.joined =
    ap (λ (r : ReplicaState State Command). r.joined) t.done.state ∙ (added_same rules core.replica.state command).joined in
    keep_both core (record core { replica = t.replica }) account.core
    (keep_replica core t.replica (subst (λ (n : ℕ). core.replica.state.joined ≤ n) (sym same) (same_le core.replica.state.joined)))
    (keep_delivered account.given (record core { replica = t.replica }) account.core account.messages t.handles)

-- ---- what was done, one thing after the other

by_account : (core new : CoreState) (account : Account) → account ≡ without_effects new → Keep core new → Keep core account.core
by_account core new account is keep = subst (λ (d : Account). Keep core d.core) (sym is) keep

keep_declined : (core : CoreState) (account : Account) → Declines core account → Keep core account.core
keep_declined core account (no_room full is) = by_account core core account is (keep_same core)
keep_declined core account (forgets room is) = by_account core _ account is (keep_replica core _ (same_le core.replica.state.joined))
keep_declined core account (stops room is) = by_account core _ account is (keep_replica core _ (same_le core.replica.state.joined))

keep_proposed : (command : Command) (core : CoreState) (account : Account) → ProposesCommand command core account → Keep core account.core
keep_proposed command core account (inl takes) = keep_taken command core account takes
keep_proposed command core account (inr declines) = keep_declined core account declines

keep_then : (P Q : CoreState → Account → Type 0) → ((k : CoreState) (d : Account) → P k d → Keep k d.core) →
    ((k : CoreState) (d : Account) → Q k d → Keep k d.core) → (core : CoreState) (account : Account) → Then P Q core account → Keep core account.core
keep_then P Q p q core account t =
    subst (λ (d : Account). Keep core d.core) (sym t.is)
    (keep_both core t.one.core t.two.core (p core t.one t.first) (q t.one.core t.two t.next))

keep_repeated : (n : ℕ) (Next : CoreState → Account → Type 0) → ((k : CoreState) (d : Account) → Next k d → Keep k d.core) →
    (core : CoreState) (account : Account) → Repeated n Next core account → Keep core account.core
keep_repeated zero Next on core account none = by_account core core account none (keep_same core)
keep_repeated (suc n) Next on core account done = keep_then Next (Repeated n Next) on (keep_repeated n Next on) core account done

keep_asked : (command : Command) (Otherwise : CoreState → Account → Type 0) → ((k : CoreState) (d : Account) → Otherwise k d → Keep k d.core) →
    (core : CoreState) (account : Account) → TakesOr command Otherwise core account → Keep core account.core
keep_asked command Otherwise on core account (inl takes) = keep_taken command core account takes
keep_asked command Otherwise on core account (inr other) = keep_then Declines Otherwise keep_declined on core account other

-- ---- ends

keep_ended : (port : Port) (core : CoreState) (account : Account) → EndsConnection port core account → Keep core account.core
keep_ended port core account (none_open none is) = by_account core core account is (keep_same core)
keep_ended port core account (unproposed c found other is) = by_account core (changes port closed_connection core) account is (keep_closed port core)
keep_ended port core account (proposed c found heard proposes) =
    keep_both core (changes port closed_connection core) account.core (keep_closed port core)
    (keep_proposed (commands.Lost c.name) (changes port closed_connection core) account proposes)

keep_silent : (now : ℕ) (core : CoreState) (account : Account) → EndsSilent now core account → Keep core account.core
keep_silent now core account (none_silent none is) = by_account core core account is (keep_same core)
keep_silent now core account (ends_one port found runs) = keep_ended port core account runs

keep_lost : (core : CoreState) (account : Account) → ReportsFailed core account → Keep core account.core
keep_lost core account (none_failed none is) = by_account core core account is (keep_same core)
keep_lost core account (tells_one c found proposes) =
    keep_both core (closes_failed core) account.core (keep_failed core)
    (keep_proposed (commands.Lost c.name) (closes_failed core) account proposes)

-- ---- reads

keep_shut : (port : Port) (core : CoreState) (account : Account) → ClosesConnection port core account → Keep core account.core
keep_shut port core account is = by_account core (changes port closed_connection core) account is (keep_closed port core)

keep_shuts : (port : Port) (core : CoreState) (account : Account) → Shuts port core account → Keep core account.core
keep_shuts port core account (inl is) = keep_shut port core account is
keep_shuts port core account (inr is) = by_account core (changes port failing core) account is (keep_at port failing core (λ c. refl))

keep_begun : (port : Port) (name : ConnectionName) (packet : Packet) (core : CoreState) (account : Account) →
    TakesFirstPacket port name packet core account → Keep core account.core
keep_begun port name (packets.Connect connect) core account runs =
    keep_both core (changes port (noted_proposed connect.keep_alive) core) account.core (keep_at port (noted_proposed connect.keep_alive) core (λ c. refl))
    (keep_asked (commands.Connect name connect.client connect.clean) (ClosesConnection port) (keep_shut port)
    (changes port (noted_proposed connect.keep_alive) core) account runs)
keep_begun port name _ core account runs = keep_shut port core account runs

keep_left : (port : Port) (now : ℕ) (rest : List ℕ) (core : CoreState) → Keep core (changes port (left_with now rest) core)
keep_left port now rest core = keep_at port (left_with now rest) core (λ c. refl)

keep_read : (now : ℕ) (port : Port) (core : CoreState) (account : Account) → ReadsNext now port core account → Keep core account.core
keep_read now port core account (waits c found more is) = by_account core core account is (keep_same core)
keep_read now port core account (first c packet rest found awaits is runs) =
    keep_both core (changes port (left_with now rest) core) account.core (keep_left port now rest core)
    (keep_begun port c.name packet (changes port (left_with now rest) core) account runs)
keep_read now port core account (later c packet rest found after_first is runs) =
    keep_both core (changes port (left_with now rest) core) account.core (keep_left port now rest core)
    (keep_asked (commands.Packet c.name packet) (Shuts port) (keep_shuts port) (changes port (left_with now rest) core) account runs)
keep_read now port core account (refuses c code found awaits is runs) =
    by_account core (changes port (connect_refused code) core) account runs (keep_at port (connect_refused code) core (λ c. refl))
keep_read now port core account (ends may runs) = keep_ended port core account runs

-- ---- a connection is opened

-- one that is not found where it would be taken for one that came
never_found : (found : Option Connection) → ((d : Connection) → found ≡ Some d → ⊥) → found ≡ None
never_found None never = refl
never_found (Some d) never = absurd (never d refl)

next_above : (core : CoreState) (x : ConnectionName) → core.last_name.ballot ≤ core.replica.state.joined → IsNextName core x → Precedes core.last_name x
next_above core x within n = by (next_precedes core within)
  where
    by : Precedes core.last_name (next_name core) → Precedes core.last_name x
    by (inl above) = inl (subst (λ (b : ℕ). core.last_name.ballot < b) (sym n.ballot) above)
    by (inr (same, above)) = inr (same ∙ sym n.ballot, subst (λ (k : ℕ). core.last_name.count < k) (sym n.count) above)

given_still : (x : ConnectionName) (port : Port) (core : CoreState) → IsOrderly core → IsGiven core.last_name x → IsGiven (with_next_connection port core).last_name x
unfolding with_next_connection
given_still x port core o g = by ((serves core && not (list_any (is_at port) core.connections)) && is_connection_name (next_name core))
  where
    by : (b : Bool) → IsGiven (let k : CoreState = if b then record core { last_name = next_name core; connections = core.connections ++ fresh port (next_name core) ∷ [] } else core in k).last_name x
    by true = given_later core.last_name (next_name core) x (next_precedes core o.within) g
    by false = g

keep_opened : (port : Port) (core : CoreState) → Keep core (with_next_connection port core)
keep_opened port core o =
    record {
      orderly = (opens_well port core o).orderly;
      given = λ x g. given_still x port core o g;
      gone = λ x g none. never_found (listed_named x (with_next_connection port core))
          (λ d there. not_both core.last_name x (next_above core x o.within (opened_new x port core d none there)) g);
    }

-- ---- an item

keep_item : (item : Item) (core : CoreState) (account : Account) → DoesItem item core account → Keep core account.core
keep_item (Peer message) core account runs = keep_driven (Receives message) core account runs
keep_item (Tick now) core account runs =
    keep_then (Drives Ticks) (λ k d. Repeated (length k.connections) (EndsSilent now) k d) (keep_driven Ticks)
    (λ k d silent. keep_repeated (length k.connections) (EndsSilent now) (keep_silent now) k d silent) core account
    (record { one = runs.one; two = runs.two; first = runs.first; next = runs.next; is = runs.is })
keep_item (Opened port now) core account (inl is) = by_account core (with_next_connection port core) account is (keep_opened port core)
keep_item (Opened port now) core account (inr is) = by_account core core account is (keep_same core)
keep_item (Bytes port piece now) core account runs =
    keep_then (HoldsBytes port piece) (λ k d. Repeated (unread_of (open_at port k)) (ReadsNext now port) k d) held
    (λ k d reads. keep_repeated (unread_of (open_at port k)) (ReadsNext now port) (keep_read now port) k d reads) core account
    (record { one = runs.one; two = runs.two; first = runs.first; next = runs.next; is = runs.is })
  where
    held : (k : CoreState) (d : Account) → HoldsBytes port piece k d → Keep k d.core
    held k d (inl is) = by_account k (changes port (with_unread piece) k) d is (keep_at port (with_unread piece) k (λ c. refl))
    held k d (inr ended) = keep_ended port k d ended
keep_item (Ended port) core account runs = keep_ended port core account runs
keep_item (Expel client) core account runs = keep_proposed (commands.Expel client) core account runs
keep_item Cut core account (nothing_to_cut none is) = by_account core core account is (keep_same core)
keep_item Cut core account (cuts_log can reads is) = by_account core (with_cut core) account is (keep_replica core _ (same_le core.replica.state.joined))
keep_item Cut core account (forgets_cut can is) = by_account core _ account is (keep_replica core _ (same_le core.replica.state.joined))
keep_item Crash core account is = by_account core (crashed core) account is (keep_replica core _ (same_le core.replica.state.joined))

keep_acts : (item : Item) (core : CoreState) (account : Account) → ActsOn item core account → Keep core account.core
keep_acts item core account acts =
    keep_then (DoesItem item) (λ k d. Repeated (length k.connections) ReportsFailed k d) (keep_item item)
    (λ k d lost. keep_repeated (length k.connections) ReportsFailed keep_lost k d lost) core account
    (record { one = acts.one; two = acts.two; first = acts.first; next = acts.next; is = acts.is })

keep_settled : (core : CoreState) → Keep core (settled core)
keep_settled core o =
    let s = stays_settled core o in
    record {
      orderly = s.orderly;
      given = λ x g. subst (λ (y : ConnectionName). IsGiven y x) (sym s.last) g;
      gone = λ x g none. never_found (listed_named x (settled core)) (λ d there. settled_away x core d o none there);
    }

keep_handed : (port : Port) (core : CoreState) → Keep core (hands_over port core)
keep_handed port core o =
    let s = stays_handed port core o in
    record {
      orderly = s.orderly;
      given = λ x g. subst (λ (y : ConnectionName). IsGiven y x) (sym s.last) g;
      gone = λ x g none. never_found (listed_named x (hands_over port core)) (λ d there. handed_away x port core d o none there);
    }

keep_run : (item : Item) (core new : CoreState) (messages : List (Effect Command Output)) → RunsOn item core new messages → Keep core new
keep_run item core new messages run =
    keep_both core run.account.core new (keep_acts item core run.account run.acts)
    (subst (λ (k : CoreState). Keep run.account.core k) (sym run.settles) (keep_settled run.account.core))

pub names_come_once : NamesComeOnce
names_come_once =
    record {
      opens = opening_orderly;
      steps = keep_run;
      hands = keep_handed;
    }
