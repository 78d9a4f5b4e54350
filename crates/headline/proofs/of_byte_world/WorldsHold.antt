-- What holds for all connections of a world with their pipes, and that what only its clients do
-- keeps it.
use Rattle.std.proofs.Common.{◌≡◌, ◌⊎◌, inl, inr, ℕ, zero, suc, List, [], ◌∷◌, ◌++◌, Option, Some, set, slice_get, refl, sym, ap, ◌∙◌, subst}
use Rattle.packet.specs.Spelling.{IsPacket}
use Rattle.packet.specs.declared.packet.Packet.{Packet}
use Rattle.ballot_base.specs.declared.config.Config.{Config}
use Rattle.broker_spec.specs.Connection.{ConnectionName}
use Rattle.client_base.specs.Keeper.{Written}
use Rattle.cutter.specs.Stream.{Stream}
use Rattle.lists.specs.Lists.{Each, In}
use Rattle.lists.proofs.Places.{get_set, get_set_other}
use Rattle.headline.proofs.of_packet_world.Lists.{same_or_other, set_get}
use Rattle.exactly_once.specs.Sides.{ClientConnection}
use Rattle.world_base.specs.declared.node_connections.connection.Connection.{Connection as NodesEnd}
use Rattle.world_base.specs.declared.node_connections.port.Port.{Port}
use Rattle.world_base.specs.node_core.Core.{CoreState}
use Rattle.headline.specs.node_moves.Puts.{spelled}
use Rattle.headline.specs.node_group.Group.{Group}
use Rattle.headline.specs.node_group.Steps.{GroupTrace}
use Rattle.headline.specs.node_group.Streams.{came_up, went_down}
use Rattle.headline.specs.byte_world.World.{ClientPipes, HasPipe, Pipe, ByteWorld, packets_of, with_client, with_pipe}
pub use Rattle.headline.specs.byte_world.AtNodes.{LeadsToPort}
use Rattle.headline.proofs.of_byte_world.OnTheWay.{IsHandled, packets_after, piece_down}
use Rattle.headline.proofs.of_byte_world.PipesHold.{IsPlaced, IsUp, PipeHolds, up_written}

-- a client has a connection of this name
pub record IsKnown (w : ByteWorld) (x : ConnectionName) : Type 0 where
  pub i : ℕ
  pub c : ClientPipes
  pub j : ℕ
  pub κ : ClientConnection
  pub p : Pipe
  pub has : HasPipe w i c j κ p
  pub name : κ.name ≡ x

-- nothing came on it or was sent
abbrev pub IsUnheard : {nodes : ℕ} {config : Config} {g : Group} → GroupTrace nodes config g → ConnectionName → Type 0
IsUnheard went x = (came_up x went ≡ []) × (went_down x went ≡ [])

pub record Holds {nodes : ℕ} {config : Config} (w : ByteWorld) (went : GroupTrace nodes config w.group) : Type 0 where
  pub each : (i : ℕ) (c : ClientPipes) (j : ℕ) (κ : ClientConnection) (p : Pipe) → HasPipe w i c j κ p → PipeHolds went κ p
  pub one : (i : ℕ) (c : ClientPipes) (j : ℕ) (κ : ClientConnection) (p : Pipe) (k : ℕ) (d : ClientPipes) (l : ℕ) (μ : ClientConnection) (q : Pipe) → HasPipe w i c j κ p → HasPipe w k d l μ q
      → κ.name ≡ μ.name → (i ≡ k) × (j ≡ l)
  pub used : (n : ℕ) (core : CoreState) (d : NodesEnd) → slice_get w.group.nodes n ≡ Some core → In d core.connections → LeadsToPort w n d.port
  pub known : (x : ConnectionName) → IsUnheard went x ⊎ IsKnown w x

-- ---- a step that opens nothing

-- a connection after a step, and the same one before
pub record Came {nodes : ℕ} {config : Config} (v : ByteWorld) {g : Group} (went : GroupTrace nodes config g) (k l : ℕ) (later : ClientConnection) (q : Pipe) : Type 0 where
  pub c : ClientPipes
  pub κ : ClientConnection
  pub p : Pipe
  pub has : HasPipe v k c l κ p
  pub name : later.name ≡ κ.name
  pub holds : PipeHolds went later q

-- a connection before a step, and the same one after
pub record Stays (w : ByteWorld) (k l : ℕ) (κ : ClientConnection) (p : Pipe) : Type 0 where
  pub c : ClientPipes
  pub later : ClientConnection
  pub q : Pipe
  pub has : HasPipe w k c l later q
  pub name : later.name ≡ κ.name
  pub node : q.node ≡ p.node
  pub port : q.port ≡ p.port

pub holds_on : {nodes : ℕ} {config : Config} (v w : ByteWorld) (went : GroupTrace nodes config v.group) (after : GroupTrace nodes config w.group) → Holds v went
    → ((k : ℕ) (c : ClientPipes) (l : ℕ) (κ : ClientConnection) (p : Pipe) → HasPipe w k c l κ p → Came v after k l κ p)
    → ((k : ℕ) (c : ClientPipes) (l : ℕ) (κ : ClientConnection) (p : Pipe) → HasPipe v k c l κ p → Stays w k l κ p)
    → ((n : ℕ) (core : CoreState) (d : NodesEnd) → slice_get w.group.nodes n ≡ Some core → In d core.connections → LeadsToPort v n d.port)
    → ((x : ConnectionName) → IsUnheard after x ⊎ IsKnown v x) → Holds w after
holds_on v w went after h back forth olds knows =
    record {
      each = λ i c j κ p has. (back i c j κ p has).holds;
      one = λ i c j κ p k d l μ q has other same.
          let a = back i c j κ p has in
          let b = back k d l μ q other in
          h.one i a.c j a.κ a.p k b.c l b.κ b.p a.has b.has (sym a.name ∙ same ∙ b.name);
      used = λ n core d at i. leads n d.port (olds n core d at i);
      known = λ x. by x (knows x);
    }
  where
    leads : (n : ℕ) (port : Port) → LeadsToPort v n port → LeadsToPort w n port
    leads n port l =
        let s = forth l.index l.client l.nth l.connection l.pipe l.has in
        record { index = l.index; client = s.c; nth = l.nth; connection = s.later; pipe = s.q; has = s.has; node = s.node ∙ l.node; at = ap (λ (z : Port). z.0) s.port ∙ l.at }

    by : (x : ConnectionName) → IsUnheard after x ⊎ IsKnown v x → IsUnheard after x ⊎ IsKnown w x
    by x (inl none) = inl none
    by x (inr k) = let s = forth k.i k.c k.j k.κ k.p k.has in inr (record { i = k.i; c = s.c; j = k.j; κ = s.later; p = s.q; has = s.has; name = s.name ∙ k.name })

-- ---- one connection of one client changes

pub record ChangedAt (c later : ClientPipes) (j : ℕ) (κ μ : ClientConnection) (p q : Pipe) : Type 0 where
  pub connections : (l : ℕ) → (l ≡ j → ⊥) → slice_get later.connections l ≡ slice_get c.connections l
  pub connection : slice_get later.connections j ≡ Some μ
  pub pipes : (l : ℕ) → (l ≡ j → ⊥) → slice_get later.pipes l ≡ slice_get c.pipes l
  pub pipe : slice_get later.pipes j ≡ Some q
  pub name : μ.name ≡ κ.name
  pub node : q.node ≡ p.node
  pub port : q.port ≡ p.port

some_is : {X : Type 0} (a b : X) → (let o : Option X = Some a in o) ≡ Some b → a ≡ b
some_is a b e = cc

-- after it each connection is that one, or another that stays as it is
pub data Place (v : ByteWorld) (i j : ℕ) (μ : ClientConnection) (q : Pipe) (k l : ℕ) (κ : ClientConnection) (p : Pipe) : Type 0 where
  mine : k ≡ i → l ≡ j → κ ≡ μ → p ≡ q → Place v i j μ q k l κ p
  another : ((k ≡ i) × (l ≡ j) → ⊥) → (d : ClientPipes) → HasPipe v k d l κ p → Place v i j μ q k l κ p

pub place_back : (v : ByteWorld) (g : Group) (i j : ℕ) (c later : ClientPipes) (κ μ : ClientConnection) (p q : Pipe) → HasPipe v i c j κ p → ChangedAt c later j κ μ p q
    → (k : ℕ) (d : ClientPipes) (l : ℕ) (ν : ClientConnection) (r : Pipe) → HasPipe (with_client i later (record v { group = g })) k d l ν r → Place v i j μ q k l ν r
place_back v g i j c later κ μ p q has change k d l ν r there_now = by (set_get v.clients i k c later d has.client there_now.client)
  where
    inner : k ≡ i → later ≡ d → (l ≡ j) ⊎ (l ≡ j → ⊥) → Place v i j μ q k l ν r
    inner same is (inl at) =
        mine same at
        (some_is ν μ (sym there_now.connection ∙ ap (λ (z : ClientPipes). slice_get z.connections l) (sym is) ∙ ap (slice_get later.connections) at ∙ change.connection))
        (some_is r q (sym there_now.pipe ∙ ap (λ (z : ClientPipes). slice_get z.pipes l) (sym is) ∙ ap (slice_get later.pipes) at ∙ change.pipe))
    inner same is (inr apart) =
        another (λ both. apart both.1) c
        (record {
          client = ap (slice_get v.clients) same ∙ has.client;
          connection = sym (change.connections l apart) ∙ ap (λ (z : ClientPipes). slice_get z.connections l) is ∙ there_now.connection;
          pipe = sym (change.pipes l apart) ∙ ap (λ (z : ClientPipes). slice_get z.pipes l) is ∙ there_now.pipe;
        })

    by : ((k ≡ i) × (later ≡ d)) ⊎ ((k ≡ i → ⊥) × (slice_get v.clients k ≡ Some d)) → Place v i j μ q k l ν r
    by (inl (same, is)) = inner same is (same_or_other l j)
    by (inr (apart, at)) = another (λ both. apart both.0) d (record { client = at; connection = there_now.connection; pipe = there_now.pipe })

pub place_forth : (v : ByteWorld) (g : Group) (i j : ℕ) (c later : ClientPipes) (κ μ : ClientConnection) (p q : Pipe) → HasPipe v i c j κ p → ChangedAt c later j κ μ p q
    → (k : ℕ) (d : ClientPipes) (l : ℕ) (ν : ClientConnection) (r : Pipe) → HasPipe v k d l ν r → Stays (with_client i later (record v { group = g })) k l ν r
place_forth v g i j c later κ μ p q has change k d l ν r was = by (same_or_other k i)
  where
    inner : k ≡ i → d ≡ c → (l ≡ j) ⊎ (l ≡ j → ⊥) → Stays (with_client i later (record v { group = g })) k l ν r
    inner same is (inl at) =
        let one : ν ≡ κ = some_is ν κ (sym was.connection ∙ ap (λ (z : ClientPipes). slice_get z.connections l) is ∙ ap (slice_get c.connections) at ∙ has.connection) in
        let two : r ≡ p = some_is r p (sym was.pipe ∙ ap (λ (z : ClientPipes). slice_get z.pipes l) is ∙ ap (slice_get c.pipes) at ∙ has.pipe) in
        record {
          c = later;
          later = μ;
          q = q;
          has = record {
            client = ap (slice_get (set v.clients i later)) same ∙ get_set v.clients i c later has.client;
            connection = ap (slice_get later.connections) at ∙ change.connection;
            pipe = ap (slice_get later.pipes) at ∙ change.pipe;
          };
          name = change.name ∙ ap (λ (z : ClientConnection). z.name) (sym one);
          node = change.node ∙ ap (λ (z : Pipe). z.node) (sym two);
          port = change.port ∙ ap (λ (z : Pipe). z.port) (sym two);
        }
    inner same is (inr apart) =
        record {
          c = later;
          later = ν;
          q = r;
          has = record {
            client = ap (slice_get (set v.clients i later)) same ∙ get_set v.clients i c later has.client;
            connection = change.connections l apart ∙ ap (λ (z : ClientPipes). slice_get z.connections l) (sym is) ∙ was.connection;
            pipe = change.pipes l apart ∙ ap (λ (z : ClientPipes). slice_get z.pipes l) (sym is) ∙ was.pipe;
          };
          name = refl;
          node = refl;
          port = refl;
        }

    by : (k ≡ i) ⊎ (k ≡ i → ⊥) → Stays (with_client i later (record v { group = g })) k l ν r
    by (inl same) = inner same (some_is d c (sym was.client ∙ ap (slice_get v.clients) same ∙ has.client)) (same_or_other l j)
    by (inr apart) =
        record {
          c = d;
          later = ν;
          q = r;
          has = record { client = get_set_other v.clients i k later apart ∙ was.client; connection = was.connection; pipe = was.pipe };
          name = refl;
          node = refl;
          port = refl;
        }

-- ---- the group rests

pub client_holds : {nodes : ℕ} {config : Config} (v : ByteWorld) (went : GroupTrace nodes config v.group) (i j : ℕ) (c later : ClientPipes) (κ μ : ClientConnection) (p q : Pipe) → HasPipe v i c j κ p
    → ChangedAt c later j κ μ p q → PipeHolds went μ q → Holds v went → Holds (with_client i later v) went
client_holds v went i j c later κ μ p q has change holds h =
    holds_on v (with_client i later v) went went h
    (λ k d l ν r there_now. by k d l ν r (place_back v v.group i j c later κ μ p q has change k d l ν r there_now))
    (place_forth v v.group i j c later κ μ p q has change) h.used h.known
  where
    by : (k : ℕ) (d : ClientPipes) (l : ℕ) (ν : ClientConnection) (r : Pipe) → Place v i j μ q k l ν r → Came v went k l ν r
    by k d l ν r (mine same at one two) =
        record {
          c = c;
          κ = κ;
          p = p;
          has = record {
            client = ap (slice_get v.clients) same ∙ has.client;
            connection = ap (slice_get c.connections) at ∙ has.connection;
            pipe = ap (slice_get c.pipes) at ∙ has.pipe;
          };
          name = ap (λ (z : ClientConnection). z.name) one ∙ change.name;
          holds = subst (λ (z : ClientConnection). PipeHolds went z r) (sym one) (subst (λ (z : Pipe). PipeHolds went μ z) (sym two) holds);
        }
    by k d l ν r (another apart e was) = record { c = e; κ = ν; p = r; has = was; name = refl; holds = h.each k e l ν r was }

-- what a pipe is set to
pub set_at : (c : ClientPipes) (j : ℕ) (κ : ClientConnection) (p q : Pipe) → slice_get c.connections j ≡ Some κ → slice_get c.pipes j ≡ Some p → q.node ≡ p.node → q.port ≡ p.port
    → ChangedAt c (with_pipe j q c) j κ κ p q
set_at c j κ p q connection pipe node port =
    record {
      connections = λ l apart. refl;
      connection = connection;
      pipes = λ l apart. get_set_other c.pipes j l q apart;
      pipe = get_set c.pipes j p q pipe;
      name = refl;
      node = node;
      port = port;
    }

-- the newest one changes
pub first_at : (c later : ClientPipes) (κ μ : ClientConnection) (others : List ClientConnection) (p q : Pipe) (pipes : List Pipe) → c.connections ≡ κ ∷ others → c.pipes ≡ p ∷ pipes
    → later.connections ≡ μ ∷ others → later.pipes ≡ q ∷ pipes → μ.name ≡ κ.name → q.node ≡ p.node → q.port ≡ p.port → ChangedAt c later 0 κ μ p q
first_at c later κ μ others p q pipes are piped now now_piped name node port =
    record { connections = connections; connection = ap (λ l. slice_get l 0) now; pipes = all_pipes; pipe = ap (λ l. slice_get l 0) now_piped; name = name; node = node; port = port }
  where
    connections : (l : ℕ) → (l ≡ 0 → ⊥) → slice_get later.connections l ≡ slice_get c.connections l
    connections zero apart = absurd (apart refl)
    connections (suc l) apart = ap (λ z. slice_get z (suc l)) now ∙ sym (ap (λ z. slice_get z (suc l)) are)

    all_pipes : (l : ℕ) → (l ≡ 0 → ⊥) → slice_get later.pipes l ≡ slice_get c.pipes l
    all_pipes zero apart = absurd (apart refl)
    all_pipes (suc l) apart = ap (λ z. slice_get z (suc l)) now_piped ∙ sym (ap (λ z. slice_get z (suc l)) piped)

-- ---- what a client does with one

pub arrives_holds : {nodes : ℕ} {config : Config} {g : Group} (went : GroupTrace nodes config g) (κ : ClientConnection) (p : Pipe) (piece rest : List ℕ) → p.down ≡ piece ++ rest → PipeHolds went κ p
    → PipeHolds went κ (record p { down = rest; came = record p.came { bytes = p.came.bytes ++ piece } })
arrives_holds went κ p piece rest cut h = record { placed = h.placed; up = h.up; down = piece_down κ.handled p.came p.down piece rest (went_down κ.name went) cut h.down }

-- it writes, and may have handled a packet
pub does_holds : {nodes : ℕ} {config : Config} {g : Group} (went : GroupTrace nodes config g) (κ μ : ClientConnection) (p : Pipe) (came : Stream) (new : List Written) → μ.name ≡ κ.name
    → μ.written ≡ κ.written ++ new → Each IsPacket (packets_of new) → IsHandled μ.handled came p.down (went_down κ.name went) → PipeHolds went κ p
    → PipeHolds went μ (record p { up = p.up ++ spelled (packets_of new); came = came })
does_holds {g = g} went κ μ p came new name written whole down h =
    record {
      placed = subst (λ (x : ConnectionName). IsPlaced went x p.node p.port) (sym name) h.placed;
      up = subst (λ (x : ConnectionName). IsUp g (packets_of μ.written) (came_up x went) p.node p.port (p.up ++ spelled (packets_of new))) (sym name)
          (subst (λ (ps : List Packet). IsUp g ps (came_up κ.name went) p.node p.port (p.up ++ spelled (packets_of new))) (sym (packets_after κ μ new written))
          (up_written g (packets_of κ.written) (packets_of new) (came_up κ.name went) p.node p.port p.up whole h.up));
      down = subst (λ (x : ConnectionName). IsHandled μ.handled came p.down (went_down x went)) (sym name) down;
    }
