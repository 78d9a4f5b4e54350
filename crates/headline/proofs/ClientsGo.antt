-- What a client does in a world is done in the world of `model` too: it calls, handles a packet,
-- and opens a connection.
use Rattle.std.proofs.Common.{◌≡◌, ◌≤◌, ◌⊎◌, inl, inr, ℕ, zero, suc, Bool, true, false, ◌||◌, List, [], ◌∷◌, length, Ok, Option, Some, set, refl, sym, ap, ◌∙◌, subst}
use Rattle.std.specs.Prelude.{slice_get}
use Rattle.std.proofs.lemmas.Bool.{both_ways, cases_Bool}
use Rattle.packet.specs.Spelling.{IsPacket}
use Rattle.packet.specs.declared.packet.Packet.{Packet}
use Rattle.cutter.specs.Stream.{Stream, Takes}
use Rattle.ballot_base.specs.declared.config.Config.{Config}
use Rattle.broker_spec.specs.declared.command.Command.{Command}
use Rattle.broker_spec.specs.Commands.{past_of, usual_limits}
use Rattle.broker_spec.specs.Connection.{ConnectionName, same_connection}
use Rattle.broker_spec.specs.Place.{Client}
use Rattle.broker_spec.proofs.ConnectionNames.{same_name}
use Rattle.client_base.specs.Connected.{new_connection}
use Rattle.client_base.specs.Handled.{packet_handled}
use Rattle.client_base.specs.Keeper.{Written}
use Rattle.client_base.specs.Written.{writes_first}
use Rattle.lists.specs.Lists.{Each, In, IsPrefixOf}
use Rattle.lists.proofs.Places.{get_set, get_set_other}
use Rattle.headline.specs.node_moves.Pipe.{Joins}
use Rattle.exactly_once.specs.Sends.{put_to}
use Rattle.exactly_once.specs.Sides.{ClientConnection, Side}
use Rattle.exactly_once.specs.Story.{StoryStep, Story}
use Rattle.exactly_once.specs.StoryCommands.{any_named, is_packet_of}
use Rattle.headline.specs.packet_world.World.{ClientsAreApart}
use Rattle.headline.specs.packet_world.Steps.{is_call, is_of_connection}
use Rattle.headline.proofs.of_packet_world.Lists.{each_by, each_get, each_set, same_or_other, stands_within, there_is}
use Rattle.headline.specs.node_moves.Moves.NodeCall.{takes}
use Rattle.headline.specs.node_moves.Puts.{spelled}
use Rattle.headline.specs.node_group.Group.{Group}
use Rattle.headline.specs.node_group.Steps.{GroupTrace}
use Rattle.headline.specs.node_group.Steps.GroupTrace.{then_went}
use Rattle.headline.proofs.of_node_group.Placed.{get_mapped, set_mapped}
use Rattle.headline.specs.node_group.Carried.{answers_to}
use Rattle.world_base.specs.declared.node_core.item.Item.TheVariants.{Opened}
use Rattle.world_base.specs.declared.node_connections.port.Port.{Port}
use Rattle.headline.specs.byte_world.Steps.{DoesCall}
use Rattle.headline.specs.byte_world.ClientSteps.{after_connecting, after_packet, story_alone}
use Rattle.headline.specs.byte_world.World.{ClientPipes, HasPipe, Pipe, ByteWorld, after_writing, newly_written, packets_of, sent_up, with_client}
use Rattle.headline.proofs.of_byte_world.WorldsHold.{Holds}
use Rattle.headline.proofs.of_byte_world.WorldsKeep.{call_writes}
use Rattle.headline.proofs.AnswersFit.{answers_fit}
use Rattle.headline.proofs.Beside.{Alone, Beside, alone}
use Rattle.headline.proofs.ClientsBeside.{IsFreshAlone, calls_beside, handles_beside, named_untaken, opens_beside}
use Rattle.headline.proofs.CommandsFit.{IsWritten, list_fits}
use Rattle.headline.proofs.GoesBeside.{GoesBeside, group_beside}
use Rattle.headline.proofs.of_node_group.CarriedInOrder.{IsAgreedSo, carries_each}
use Rattle.headline.proofs.NamesGiven.{names_fit}
use Rattle.headline.proofs.NextAnswer.{next_answer}
use Rattle.headline.proofs.Places.{each_of_made}
use Rattle.headline.proofs.WorldsWrite.{HasAllPipes, clients_alone, known_at, order_at, pipes_alone}

-- ---- one client becomes another, and the group rests

client_rests : {nodes : ℕ} {config : Config} {cs : List Client} (v : ByteWorld) (went : GroupTrace nodes config v.group) (i : ℕ) (later : ClientPipes) (s : GoesBeside nodes config cs v went) → Holds (with_client i later v) went
    → HasAllPipes later → ((agreed : List Command) → IsAgreedSo s.so agreed → Beside cs agreed (set (clients_alone v) i (pipes_alone later))) → GoesBeside nodes config cs (with_client i later v) went
client_rests {cs = cs} v went i later s holds all beside =
    record {
      holds = holds;
      piped = each_set HasAllPipes v.clients i later s.piped all;
      so = s.so;
      beside = λ agreed is. subst (Beside cs agreed) (sym (set_mapped pipes_alone v.clients i later)) (beside agreed is);
    }

sent_length : (ps : List Packet) (pipes : List Pipe) → length (sent_up ps pipes) ≡ length pipes
sent_length ps [] = refl
sent_length ps (p ∷ pipes) = refl

-- ---- it calls

writes_length : (new : List Written) (connections : List ClientConnection) → length (writes_first new connections) ≡ length connections
writes_length new [] = refl
writes_length new (κ ∷ connections) = refl

pub calls_so : {nodes : ℕ} {config : Config} {cs : List Client} (v : ByteWorld) (went : GroupTrace nodes config v.group) (i : ℕ) (c : ClientPipes) (t : Story)
    (h : StoryStep usual_limits (story_alone c) t) (s : GoesBeside nodes config cs v went)
    → slice_get v.clients i ≡ Some c → is_call h ≡ true → Holds (with_client i (after_writing t.keeper t.connections c) v) went
    → GoesBeside nodes config cs (with_client i (after_writing t.keeper t.connections c) v) went
calls_so v went i c t h s at call holds =
    let new = call_writes h call in
    client_rests v went i (after_writing t.keeper t.connections c) s holds
    (sent_length (newly_written c.connections t.connections) c.pipes ∙ each_get HasAllPipes v.clients i c s.piped at ∙ sym (ap length new.1 ∙ writes_length new.0 c.connections))
    (λ agreed is. calls_beside (s.beside agreed is) i (story_alone c) t h call (get_mapped pipes_alone v.clients i c at))

-- ---- it handles a packet

joins_whole : (ps : List Packet) (bytes : List ℕ) → Joins ps bytes → Each IsPacket ps
joins_whole [] bytes j = tt
joins_whole (p ∷ ps) bytes (front, rest, spells, fits, is, j) = (fits, joins_whole ps rest j)

module _ {nodes : ℕ} {config : Config} {cs : List Client} (v : ByteWorld) (went : GroupTrace nodes config v.group) (s : GoesBeside nodes config cs v went) (agreed : List Command) (is : IsAgreedSo s.so agreed) where
  -- each packet in the list was written by a client on a connection
  was_written : (command : Command) → In command agreed → is_of_connection command ≡ true → IsWritten agreed command
  was_written command among own =
      let z = known_at v went s.holds s.piped s.so agreed is command among own in
      let k = z.2 in
      let h = s.holds.each k.i k.c k.j k.κ k.p k.has in
      record {
        name = k.κ.name;
        written = packets_of k.κ.written;
        named = names_fit went k.κ.name h.placed.earlier k.p.node h.placed.among h.placed.had;
        whole = joins_whole (packets_of k.κ.written) _ h.up.joined;
        order = order_at v went s.holds s.piped s.so agreed is k.i k.c k.j k.κ k.p k.has;
        of = ap (is_packet_of command) k.name ∙ z.1;
      }

  -- the next packet that it cuts is the next answer
  pub next_there : (i : ℕ) (c : ClientPipes) (j : ℕ) (κ : ClientConnection) (p : Pipe) (packet : Packet) (left : Stream) → HasPipe v i c j κ p → Takes p.came (Ok (Some packet)) left
      → slice_get (put_to usual_limits (past_of usual_limits agreed) κ.name) κ.handled ≡ Some packet
  next_there i c j κ p packet left has cut =
      let h = s.holds.each i c j κ p has in
      let down = (carries_each v.group went s.so agreed is κ.name (packets_of κ.written) h.up.later h.up.joined).down in
      ap (slice_get (put_to usual_limits (past_of usual_limits agreed) κ.name)) (sym h.down.counted)
      ∙ next_answer h.down.handled (put_to usual_limits (past_of usual_limits agreed) κ.name) p.came left p.down packet h.down.whole
      (answers_fit agreed κ.name (list_fits agreed was_written)) h.down.sound (subst (λ l. IsPrefixOf l (answers_to κ.name agreed)) (sym h.down.is) down) cut

pub handles_so : {nodes : ℕ} {config : Config} {cs : List Client} (v : ByteWorld) (went : GroupTrace nodes config v.group) (i : ℕ) (c : ClientPipes) (κ : ClientConnection) (others : List ClientConnection) (p : Pipe) (pipes : List Pipe)
    (packet : Packet) (left : Stream) (s : GoesBeside nodes config cs v went) → slice_get v.clients i ≡ Some c → c.connections ≡ κ ∷ others → c.pipes ≡ p ∷ pipes → c.keeper.is_open ≡ true
    → Takes p.came (Ok (Some packet)) left → Holds (with_client i (after_packet others pipes p left (packet_handled packet (record { keeper = c.keeper; connection = κ })) c) v) went
    → GoesBeside nodes config cs (with_client i (after_packet others pipes p left (packet_handled packet (record { keeper = c.keeper; connection = κ })) c) v) went
handles_so v went i c κ others p pipes packet left s at are piped is_open cut holds =
    let side : Side = packet_handled packet (record { keeper = c.keeper; connection = κ }) in
    let all = each_get HasAllPipes v.clients i c s.piped at in
    client_rests v went i (after_packet others pipes p left side c) s holds
    (sent_length (newly_written c.connections (side.connection ∷ others)) (record p { came = left } ∷ pipes) ∙ ap length (sym piped) ∙ all ∙ ap length are)
    (λ agreed is.
    handles_beside (s.beside agreed is) i c.keeper κ others packet (get_mapped pipes_alone v.clients i c at ∙ ap (λ l. Some (alone c.keeper l)) are) is_open
    (next_there v went s agreed is i c 0 κ p packet left (record { client = at; connection = ap (λ l. slice_get l 0) are; pipe = ap (λ l. slice_get l 0) piped }) cut) side refl)

-- ---- it opens a connection

named_at : (x : ConnectionName) (connections : List ClientConnection) → any_named (same_connection x) connections ≡ true → (j : ℕ) × (κ : ClientConnection) × (slice_get connections j ≡ Some κ) × (x ≡ κ.name)
named_at x [] e = absurd (both_ways false refl e)
named_at x (κ ∷ connections) e = by (same_connection x κ.name) refl e (named_at x connections)
  where
    by : (b : Bool) → same_connection x κ.name ≡ b → (b || any_named (same_connection x) connections) ≡ true
        → (any_named (same_connection x) connections ≡ true → (j : ℕ) × (μ : ClientConnection) × (slice_get connections j ≡ Some μ) × (x ≡ μ.name))
        → (j : ℕ) × (μ : ClientConnection) × (slice_get (κ ∷ connections) j ≡ Some μ) × (x ≡ μ.name)
    by true is rest next = (zero, κ, refl, same_name x κ.name is)
    by false is rest next = let z = next rest in (suc z.0, z.1, z.2, z.3)

module _ {nodes : ℕ} {config : Config} (v : ByteWorld) (g : Group) (i : ℕ) (c : ClientPipes) (κ : ClientConnection) (p : Pipe) (later : ClientPipes) (at : slice_get v.clients i ≡ Some c)
    (are : later.connections ≡ κ ∷ c.connections) (piped_so : later.pipes ≡ p ∷ c.pipes) (piped : Each HasAllPipes v.clients) {went : GroupTrace nodes config g}
    (holds : Holds (with_client i later (record v { group = g })) went) where
  abbrev w : ByteWorld
  w = with_client i later (record v { group = g })

  mine : HasPipe w i later 0 κ p
  mine = record { client = get_set v.clients i c later at; connection = ap (λ l. slice_get l 0) are; pipe = ap (λ l. slice_get l 0) piped_so }

  other_name : (k : ℕ) (e : ClientPipes) (l : ℕ) (μ : ClientConnection) → slice_get v.clients k ≡ Some e → slice_get e.connections l ≡ Some μ → κ.name ≡ μ.name → ⊥
  other_name k e l μ there stood same = by (same_or_other k i)
    where
      q : (r : Pipe) × (slice_get e.pipes l ≡ Some r)
      q = there_is e.pipes l (subst (λ n. suc l ≤ n) (sym (each_get HasAllPipes v.clients k e piped there)) (stands_within e.connections l μ stood))

      one_client : (a b : ClientPipes) → (let o : Option ClientPipes = Some a in o) ≡ Some b → a ≡ b
      one_client a b e = cc

      never : (n : ℕ) → 0 ≡ suc n → ⊥
      never n e = cc

      by : (k ≡ i) ⊎ (k ≡ i → ⊥) → ⊥
      by (inl here) =
          let is : e ≡ c = one_client e c (sym there ∙ ap (slice_get v.clients) here ∙ at) in
          never l (holds.one i later 0 κ p i later (suc l) μ q.0 mine
          (record {
            client = get_set v.clients i c later at;
            connection = ap (λ z. slice_get z (suc l)) are ∙ ap (λ (z : ClientPipes). slice_get z.connections l) (sym is) ∙ stood;
            pipe = ap (λ z. slice_get z (suc l)) piped_so ∙ ap (λ (z : ClientPipes). slice_get z.pipes l) (sym is) ∙ q.1;
          }) same).1
      by (inr apart) =
          apart (sym (holds.one i later 0 κ p k e l μ q.0 mine (record { client = get_set_other v.clients i k later apart ∙ there; connection = stood; pipe = q.1 }) same).0)

  pub is_fresh : IsFreshAlone κ.name (clients_alone v)
  is_fresh =
      each_of_made pipes_alone (λ (a : Alone). any_named (same_connection κ.name) a.connections ≡ false) v.clients
      (each_by (λ (e : ClientPipes). any_named (same_connection κ.name) (pipes_alone e).connections ≡ false) v.clients
      (λ k e there. named_untaken (same_connection κ.name) e.connections ∙ by k e there (cases_Bool (any_named (same_connection κ.name) e.connections))))
    where
      by : (k : ℕ) (e : ClientPipes) → slice_get v.clients k ≡ Some e
          → (any_named (same_connection κ.name) e.connections ≡ true) ⊎ (any_named (same_connection κ.name) e.connections ≡ false) → any_named (same_connection κ.name) e.connections ≡ false
      by k e there (inr none) = none
      by k e there (inl some) = let z = named_at κ.name e.connections some in absurd (other_name k e z.0 z.1 there z.2 z.3)

pub connects_so : {nodes : ℕ} {config : Config} {cs : List Client} → ClientsAreApart cs → (v : ByteWorld) (went : GroupTrace nodes config v.group) (i n : ℕ) (c : ClientPipes) (x : ConnectionName) (port : Port) (now : ℕ)
    (d : DoesCall v.group (Some (n, takes (Opened port now)))) (s : GoesBeside nodes config cs v went) → slice_get v.clients i ≡ Some c
    → Holds (with_client i (after_connecting x n port c) (record v { group = d.after })) (then_went went d.step)
    → GoesBeside nodes config cs (with_client i (after_connecting x n port c) (record v { group = d.after })) (then_went went d.step)
connects_so {cs = cs} apart v went i n c x port now d s at holds =
    let later = after_connecting x n port c in
    let κ : ClientConnection = new_connection c.keeper.client x in
    let p : Pipe = record { node = n; port = port; up = spelled (packets_of κ.written); down = []; came = record { bytes = []; failed = false } } in
    group_beside apart (with_client i later (record v { group = d.after })) v.group went s.so d.step
    (λ agreed is.
    subst (Beside cs agreed) (sym (set_mapped pipes_alone v.clients i later))
    (opens_beside apart (s.beside agreed is) i c.keeper c.connections x (get_mapped pipes_alone v.clients i c at)
    (is_fresh v d.after i c κ p later at refl refl s.piped holds)))
    holds (each_set HasAllPipes v.clients i later s.piped (ap suc (each_get HasAllPipes v.clients i c s.piped at)))
