-- The run of the row: a client publishes at QoS 2 to itself beside a stranger, and accepts its publication once.
use Rattle.std.specs.List.{All, list_all, list_any}
use Rattle.std.specs.Prelude.{nat_lt, nat_le}
use Rattle.std.specs.Str.{chars, is_utf8}
use lib.Utf8.{encode}
use Rattle.std.proofs.Common.{◌≡◌, ◌<◌, ◌≤◌, ◌&&◌, ℕ, zero, suc, Bool, true, false, List, [], map, ◌∷◌, ◌++◌, Option, Some, refl, sym, ap, ◌∙◌, subst, arith}
use Rattle.std.proofs.lemmas.Bool.{both_ways}
use Rattle.std.proofs.lemmas.List.{append-nil}
use Rattle.lists.specs.Lists.{Each, In}
use Rattle.lists.specs.Lists.In.{here, there}
use Rattle.lists.proofs.Tests.{or_none}
use Rattle.packet.specs.declared.packet.Packet.TheVariants as packets
use Rattle.packet.specs.Spelling.{IsPacket, spelling}
use Rattle.packet.specs.Subscribe.{FitsSubscription}
use Rattle.packet_base.specs.Spelling.{IsId}
use Rattle.client_base.specs.Connected.{new_connection}
use Rattle.client_base.specs.Called.{adds_own, written_for}
use Rattle.client_base.specs.Handled.{lost}
use Rattle.client_base.specs.Keeper.{Keeper, ids_in_use, new_keeper}
use Rattle.client_base.specs.Written.{plain, writes_first}
use Rattle.client_base.specs.declared.request.Request.TheVariants as requests
use Rattle.exactly_once.specs.Rows.{asks_for_news, news, writer}
use Rattle.exactly_once.specs.Acceptance.{accepted_on}
use Rattle.exactly_once.specs.Sides.{ClientConnection}
use Rattle.exactly_once.specs.Story.{Story}
use Rattle.exactly_once.specs.Story.StoryStep.{loses, publishes_one, subscribes}
use Rattle.session_base.specs.Identifiers.{least_free}
use Rattle.broker_spec.specs.Connection.{ConnectionName}
use Rattle.ballot_base.specs.LawfulConfig.{max_node}
use Rattle.world_base.specs.declared.node_connections.connection.Connection.{Connection as NodesEnd}
use Rattle.world_base.specs.declared.node_connections.port.Port.{Port}
use Rattle.world_base.specs.declared.node_connections.connection.ConnectionStage.TheVariants.{Proposed}
use Rattle.world_base.specs.node_connections.Connections.{fresh}
use Rattle.world_base.specs.declared.node_core.item.Item.TheVariants.{Opened, Bytes}
use Rattle.headline.specs.Rows.{one_node}
use Rattle.headline.specs.node_moves.Moves.{NodeCall}
use Rattle.headline.specs.node_moves.Moves.NodeCall.{takes, hands_out}
use Rattle.headline.specs.node_moves.Puts.{spelled}
use Rattle.headline.specs.node_group.Group.{opening_group}
use Rattle.headline.specs.byte_world.World.{ClientPipes, packets_of}
use Rattle.headline.proofs.ServedNode.{both, connack, connect, core_at_first, publish, suback, subscribe}
use Rattle.one_client.specs.Along.Along.{calls, connects, opens}
use Rattle.one_client.specs.Calls.{IsByte, calls_on, opens_at}
use Rattle.one_client.specs.Names.{AreNamed, IsNameAt, OpensOnce}
use Rattle.one_client.specs.Ports.{HasOwnPorts}
use Rattle.one_client.specs.Rows.{AcceptsBesideAStranger, lost_port, name_of, noise, other_port, own_port, second_connection, spare_name}
use Rattle.one_client.proofs.PortBytes.{had_now}
use Rattle.one_client.proofs.PortNames.{names_go_with_ports, untold_name}
use Rattle.one_client.proofs.RowAlong.{Row, client_with, lost_connection, pipe_with, row_arrives, row_calls, row_goes, row_handles}
use Rattle.one_client.proofs.RowNode.{client_comes, client_there, it_completes, it_connects, it_grants, it_hands, it_releases, it_takes, list_connected, list_done, list_published, list_released, list_subscribed, serving, stranger_comes, stranger_errs, stranger_gone, stranger_there}

-- ---- what is written can be spelled

less_by : (n m : ℕ) → nat_lt n m ≡ true → n < m
less_by n m e = grind (arith, e)

within_by : (n m : ℕ) → nat_le n m ≡ true → n ≤ m
within_by n m e = grind (arith, e)

connect_whole : IsPacket connect
unfolding is_utf8 chars encode
connect_whole = ((less_by _ _ refl, refl), tt, within_by _ _ refl)

connack_whole : IsPacket connack
connack_whole = (tt, tt, within_by _ _ refl)

id_whole : IsId 1
id_whole = (less_by _ _ refl, less_by _ _ refl)

pubrec_whole : IsPacket (packets.Pubrec 1)
pubrec_whole = (id_whole, tt, within_by _ _ refl)

pubrel_whole : IsPacket (packets.Pubrel 1)
pubrel_whole = (id_whole, tt, within_by _ _ refl)

pubcomp_whole : IsPacket (packets.Pubcomp 1)
pubcomp_whole = (id_whole, tt, within_by _ _ refl)

filters_whole : All FitsSubscription asks_for_news.filters
unfolding is_utf8 chars encode
filters_whole zero d low = refl
filters_whole (suc k) d low = absurd (omega (arith, low))

subscribe_whole : IsPacket subscribe
subscribe_whole = ((id_whole, filters_whole), less_by _ _ refl, within_by _ _ refl)

suback_whole : IsPacket suback
suback_whole = (id_whole, less_by _ _ refl, within_by _ _ refl)

publish_whole : IsPacket publish
unfolding is_utf8 chars encode
publish_whole = ((refl, id_whole), tt, within_by _ _ refl)

-- what it writes after PUBREC and the PUBLISH is one piece
one_piece : (spelling (packets.Pubrel 1) ++ []) ++ (spelling (packets.Pubrec 1) ++ []) ≡ both ++ []
unfolding spelling
one_piece = refl

-- ---- bytes

all_bytes : (numbers : List ℕ) → list_all (λ number. nat_lt number 256) numbers ≡ true → Each IsByte numbers
all_bytes [] e = tt
all_bytes (number ∷ numbers) e = (less_by number 256 (first (nat_lt number 256) (list_all (λ n. nat_lt n 256) numbers) e), all_bytes numbers (second (nat_lt number 256) (list_all (λ n. nat_lt n 256) numbers) e))
  where
    first : (a b : Bool) → (a && b) ≡ true → a ≡ true
    first true b f = refl
    first false b f = f

    second : (a b : Bool) → (a && b) ≡ true → b ≡ true
    second true b f = f
    second false b f = absurd (both_ways false refl f)

connect_bytes : Each IsByte (spelling connect)
unfolding spelling is_utf8 chars encode
connect_bytes = all_bytes (spelling connect) refl

subscribe_bytes : Each IsByte (spelling subscribe)
unfolding spelling is_utf8 chars encode
subscribe_bytes = all_bytes (spelling subscribe) refl

publish_bytes : Each IsByte (spelling publish)
unfolding spelling is_utf8 chars encode
publish_bytes = all_bytes (spelling publish) refl

both_bytes : Each IsByte both
unfolding spelling
both_bytes = all_bytes both refl

pubcomp_bytes : Each IsByte (spelling (packets.Pubcomp 1))
unfolding spelling
pubcomp_bytes = all_bytes (spelling (packets.Pubcomp 1)) refl

noise_bytes : Each IsByte noise
noise_bytes = all_bytes noise refl

-- ---- the client with the connection that it opens

abbrev keeper_opens : Keeper
keeper_opens = record (lost (new_keeper writer)) { is_open = true }

abbrev its_connection : ClientConnection
its_connection = new_connection writer second_connection

-- a call that opens nothing at the port, where nothing was opened, or is opened
never : {A : Type 0} → false ≡ true → A
never e = absurd (both_ways false refl e)

not_both : {A : Type 0} → true ≡ false → A
not_both e = absurd (both_ways true e refl)

-- ---- the run

abbrev calls_at_first : List (Option (ℕ × NodeCall))
calls_at_first = Some (0, takes (Opened own_port 0)) ∷ Some (0, takes (Bytes other_port noise 0)) ∷ Some (0, takes (Opened other_port 0)) ∷ []

row_connects : Row core_at_first (client_with keeper_opens its_connection (pipe_with (spelled (packets_of its_connection.written)) [] [])) [] []
row_connects =
    record {
      group = opening_group max_node 1 one_node;
      went = _;
      one = _;
      along = connects (calls (connects (opens max_node refl) spare_name 0 lost_port refl tt connect_whole) _ loses refl tt) second_connection 0 own_port refl tt connect_whole;
      is = refl;
      stands = refl;
      calls_are = refl;
      once = tt;
      untold = refl;
      said = refl;
    }

-- the node is told of it after the stranger
row_told : Row client_there (client_with keeper_opens its_connection (pipe_with (spelled (packets_of its_connection.written)) [] [])) calls_at_first []
row_told =
    let came = row_goes row_connects (takes (Opened other_port 0)) stranger_there (spelled (packets_of its_connection.written)) tt stranger_comes tt (λ e. never e) (λ e. refl) refl (record { untold = refl; nothing = refl; handed = refl }) in
    let gone = row_goes came (takes (Bytes other_port noise 0)) stranger_gone (spelled (packets_of its_connection.written)) tt stranger_errs noise_bytes (λ e. never e) (λ e. refl) refl (record { untold = refl; nothing = refl; handed = refl }) in
    row_goes gone (takes (Opened own_port 0)) client_there (spelled (packets_of its_connection.written)) tt client_comes tt (λ e. refl) (λ e. refl) refl (record { untold = refl; nothing = refl; handed = refl })

abbrev brings : List ℕ → Option (ℕ × NodeCall)
brings bytes = Some (0, takes (Bytes own_port bytes 0))

abbrev given : Option (ℕ × NodeCall)
given = Some (0, hands_out own_port)

abbrev keeper_served : Keeper
keeper_served = record keeper_opens { is_online = true; was_served = true }

abbrev connection_served : ClientConnection
connection_served = record its_connection { handled = 1; confirmed = true }

-- its CONNECT is answered
row_served : Row (serving list_connected []) (client_with keeper_served connection_served (pipe_with [] [] [])) (given ∷ brings (spelling connect) ∷ calls_at_first) []
row_served =
    let read = row_goes row_told (takes (Bytes own_port (spelling connect) 0)) (serving list_connected (spelling connack)) [] tt it_connects connect_bytes (λ e. never e) (λ e. not_both e) refl (record { untold = refl; nothing = refl; handed = refl }) in
    let handed = row_goes read (hands_out own_port) (serving list_connected []) [] tt (it_hands list_connected (spelling connack)) tt (λ e. never e) (λ e. not_both e) refl (record { untold = refl; nothing = refl; handed = refl }) in
    let came = row_arrives handed (spelling connack) [] (sym (append-nil (spelling connack))) in
    row_handles came connack [] _ refl refl connack_whole (sym (append-nil (spelling connack))) tt

-- what it does when it subscribes, and when it publishes
abbrev then_subscribes : ClientPipes → Story
then_subscribes z =
    record {
      past = [];
      connections = writes_first (plain (packets.Subscribe asks_for_news) ∷ []) z.connections;
      keeper = record z.keeper { requests = z.keeper.requests ++ requests.Subscribes asks_for_news.id ∷ [] };
    }

abbrev then_publishes : ClientPipes → Story
then_publishes z = record { past = []; connections = writes_first (written_for news z.keeper) z.connections; keeper = adds_own news z.keeper }

abbrev calls_at_last : List (Option (ℕ × NodeCall))
calls_at_last =
    brings (spelling (packets.Pubcomp 1)) ∷ given ∷ brings both ∷ given ∷ brings (spelling publish) ∷ given ∷ brings (spelling subscribe) ∷ given ∷ brings (spelling connect) ∷ calls_at_first

-- a port of which a node was not told was opened once at most
opened_never : (n : ℕ) (port : Port) (node_calls : List (Option (ℕ × NodeCall))) → list_any (opens_at n port) node_calls ≡ false → OpensOnce n port node_calls
opened_never n port [] none = tt
opened_never n port (node_call ∷ node_calls) none =
    let parts = or_none (opens_at n port node_call) (list_any (opens_at n port) node_calls) none in
    (λ opens. parts.1, opened_never n port node_calls parts.1)

-- all that the row says, if it ends so
row_ends : (keeper : Keeper) (κ : ClientConnection) (last : Row (serving list_done []) (client_with keeper κ (pipe_with [] [] [])) calls_at_last (news ∷ [])) → κ.name ≡ second_connection
    → accepted_on (κ ∷ lost_connection ∷ []) ≡ news ∷ [] → AcceptsBesideAStranger
row_ends keeper κ last name accepted =
    let end : NodesEnd = record (fresh own_port second_connection) { stage = Proposed } in
    let known : IsNameAt last.went second_connection 0 own_port = names_go_with_ports 1 one_node last.group last.went 0 end last.once (had_now last.went 0 (serving list_done []) end last.stands here) in
    record {
      group = last.group;
      went = last.went;
      one = last.one;
      along = last.along;
      names = ap (λ (z : ClientPipes). map name_of z.connections) last.is ∙ ap (λ (x : ConnectionName). x ∷ spare_name ∷ []) name;
      named = subst (λ (z : ClientPipes). AreNamed last.went z.connections z.pipes) (sym last.is)
          (subst (λ (x : ConnectionName). IsNameAt last.went x 0 own_port) (sym name) known, (untold_name last.went 0 lost_port spare_name last.untold refl, tt));
      own_ports = subst (λ (z : ClientPipes). HasOwnPorts last.went z.pipes) (sym last.is) (last.once, refl, (opened_never 0 lost_port (calls_on last.went) last.untold, refl, tt));
      untold = last.untold;
      stranger = subst (In (let o : Option (ℕ × NodeCall) = Some (0, takes (Bytes other_port noise 0)) in o)) (sym last.calls_are)
          (there (there (there (there (there (there (there (there (there (there here))))))))));
      asked = last.said;
      accepted = ap (λ (z : ClientPipes). accepted_on z.connections) last.is ∙ accepted;
    }

pub accepts_beside_a_stranger : AcceptsBesideAStranger
accepts_beside_a_stranger =
    let asks = row_calls row_served then_subscribes _ (subscribes asks_for_news (ap (λ (z : ClientPipes). z.keeper.is_online) row_served.is) (sym (ap (λ (z : ClientPipes). least_free (ids_in_use z.keeper)) row_served.is))) [] refl refl refl
    (subscribe_whole, tt) in
    let asked = row_goes asks (takes (Bytes own_port (spelling subscribe) 0)) (serving list_subscribed (spelling suback)) [] tt it_grants subscribe_bytes (λ e. never e) (λ e. not_both e) refl (record { untold = refl; nothing = refl; handed = refl }) in
    let granted = row_goes asked (hands_out own_port) (serving list_subscribed []) [] tt (it_hands list_subscribed (spelling suback)) tt (λ e. never e) (λ e. not_both e) refl (record { untold = refl; nothing = refl; handed = refl }) in
    let told = row_arrives granted (spelling suback) [] (sym (append-nil (spelling suback))) in
    let subscribed = row_handles told suback [] _ refl refl suback_whole (sym (append-nil (spelling suback))) tt in
    let writes = row_calls subscribed then_publishes _ (publishes_one news (λ e. ap (λ (z : ClientPipes). z.keeper.is_online) subscribed.is)) (news ∷ []) refl refl refl (publish_whole, tt) in
    let answers : List ℕ = spelling (packets.Pubrec 1) ++ spelling publish in
    let taken = row_goes writes (takes (Bytes own_port (spelling publish) 0)) (serving list_published answers) [] tt it_takes publish_bytes (λ e. never e) (λ e. not_both e) refl (record { untold = refl; nothing = refl; handed = refl }) in
    let handed = row_goes taken (hands_out own_port) (serving list_published []) [] tt (it_hands list_published answers) tt (λ e. never e) (λ e. not_both e) refl (record { untold = refl; nothing = refl; handed = refl }) in
    let came = row_arrives handed answers [] (sym (append-nil answers)) in
    let first = row_handles came (packets.Pubrec 1) (spelling publish) _ refl refl pubrec_whole refl (pubrel_whole, tt) in
    let second = row_handles first publish [] _ refl refl publish_whole (sym (append-nil (spelling publish))) (pubrec_whole, tt) in
    let ends : List ℕ = spelling (packets.Pubcomp 1) ++ spelling (packets.Pubrel 1) in
    let released = row_goes second (takes (Bytes own_port both 0)) (serving list_released ends) [] tt it_releases both_bytes (λ e. never e) (λ e. not_both e) one_piece (record { untold = refl; nothing = refl; handed = refl }) in
    let returned = row_goes released (hands_out own_port) (serving list_released []) [] tt (it_hands list_released ends) tt (λ e. never e) (λ e. not_both e) refl (record { untold = refl; nothing = refl; handed = refl }) in
    let back = row_arrives returned ends [] (sym (append-nil ends)) in
    let third = row_handles back (packets.Pubcomp 1) (spelling (packets.Pubrel 1)) _ refl refl pubcomp_whole refl tt in
    let fourth = row_handles third (packets.Pubrel 1) [] _ refl refl pubrel_whole (sym (append-nil (spelling (packets.Pubrel 1)))) (pubcomp_whole, tt) in
    let last = row_goes fourth (takes (Bytes own_port (spelling (packets.Pubcomp 1)) 0)) (serving list_done []) [] tt it_completes pubcomp_bytes (λ e. never e) (λ e. not_both e) refl (record { untold = refl; nothing = refl; handed = refl }) in
    row_ends _ _ last refl refl
