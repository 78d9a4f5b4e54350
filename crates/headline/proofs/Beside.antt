-- A world of `model` with the same clients as another world: while each client's nodes have read
-- all that it wrote, and sent all that is agreed, it continues as the agreed list grows.
use Rattle.std.proofs.Common.{◌≡◌, ℕ, true, List, [], ◌∷◌, filter, length, map, take, Some, refl, sym, ap, ◌∙◌, subst, arith}
use Rattle.std.specs.Prelude.{slice_get}
use Rattle.broker_spec.specs.declared.command.Command.{Command}
use Rattle.broker_spec.specs.Place.{Client}
use Rattle.client_base.specs.Keeper.{Keeper, Written}
use Rattle.lists.specs.Lists.{Each, In, IsPrefixOf}
use Rattle.lists.proofs.Prefixes.{prefix_length}
use Rattle.exactly_once.specs.Sides.{ClientConnection}
use Rattle.exactly_once.specs.StoryCommands.{is_packet_of}
use Rattle.headline.specs.packet_world.World.{ClientsAreApart, ClientEnds, End, PacketWorld}
use Rattle.headline.specs.packet_world.Exact.{commands_from}
use Rattle.headline.specs.packet_world.Steps.{HasPipe, Reached, is_of_connection}
use Rattle.headline.specs.packet_world.Served.{IsOfPipe, ServesWorld, untaken}
use Rattle.headline.proofs.of_packet_world.Answers.{of_name}
use Rattle.headline.proofs.of_packet_world.Lists.{each_by, each_get}
use Rattle.headline.proofs.of_packet_world.Serving.{worlds_are_served}
use Rattle.headline.proofs.of_node_group.Placed.{get_mapped}
use Rattle.headline.proofs.Untaken.{AreSameUntaken, untaken_connection}
use Rattle.headline.proofs.AllPutOut.{IsFull, all_put_out, end_of, ends_of, filled}
use Rattle.headline.proofs.Places.{each_of_made, map_back, map_twice, same_place, take_whole}

-- a client with its connections, except how much of them is in the list
pub record Alone : Type 0 where
  pub keeper : Keeper
  pub connections : List ClientConnection

abbrev pub alone : Keeper → List ClientConnection → Alone
alone keeper connections = record { keeper = keeper; connections = map untaken_connection connections }

abbrev pub ends_alone : ClientEnds → Alone
ends_alone c = alone c.keeper c.connections

-- a world with these clients, in which each node has read all and sent all
pub record Beside (cs : List Client) (agreed : List Command) (clients : List Alone) : Type 0 where
  pub world : PacketWorld
  pub reached : Reached cs world
  pub is : world.agreed ≡ agreed
  pub full : Each (IsFull agreed) world.clients
  pub same : map ends_alone world.clients ≡ clients

-- ---- what a client shows of its ends without its nodes

-- ends do not depend on how much is in the list
ends_untaken : (agreed : List Command) (connections : List ClientConnection) → ends_of agreed (map untaken_connection connections) ≡ ends_of agreed connections
ends_untaken agreed [] = refl
ends_untaken agreed (κ ∷ connections) = ap (λ l. end_of agreed κ ∷ l) (ends_untaken agreed connections)

pub same_ends : (agreed : List Command) (connections others : List ClientConnection) → AreSameUntaken connections others → ends_of agreed connections ≡ ends_of agreed others
same_ends agreed connections others same = sym (ends_untaken agreed connections) ∙ ap (ends_of agreed) same ∙ ends_untaken agreed others

-- if all that is not taken of two lists of clients is the same, their ends are full together
full_still : (agreed : List Command) (clients others : List ClientEnds) → map untaken others ≡ map untaken clients → Each (IsFull agreed) clients → Each (IsFull agreed) others
full_still agreed clients others same full =
    each_by (IsFull agreed) others (λ i c at. by i c (same_place untaken untaken clients others i c (sym same) at))
  where
    by : (i : ℕ) (c : ClientEnds) → (d : ClientEnds) × (slice_get clients i ≡ Some d) × (untaken d ≡ untaken c) → IsFull agreed c
    by i c (d, there, one) =
        ap (λ (z : ClientEnds). z.ends) (sym one) ∙ each_get (IsFull agreed) clients i d full there
        ∙ same_ends agreed d.connections c.connections (ap (λ (z : ClientEnds). z.connections) one)

alone_still : (clients others : List ClientEnds) → map untaken others ≡ map untaken clients → map ends_alone others ≡ map ends_alone clients
alone_still clients others same = sym (map_twice untaken bare others) ∙ ap (map bare) same ∙ map_twice untaken bare clients
  where
    bare : ClientEnds → Alone
    bare c = record { keeper = c.keeper; connections = c.connections }

-- ---- the list grows

-- a command is a packet of one of these connections
pub record IsOfAlone (clients : List Alone) (command : Command) : Type 0 where
  pub i : ℕ
  pub j : ℕ
  pub client : Alone
  pub connection : ClientConnection
  pub there : slice_get clients i ≡ Some client
  pub at : slice_get client.connections j ≡ Some connection
  pub named : is_packet_of command connection.name ≡ true

-- a list has of each connection a prefix of what was written, in order, and only packets of these
-- connections
pub record IsOfWritten (clients : List Alone) (agreed : List Command) : Type 0 where
  pub order : (i j : ℕ) (c : Alone) (κ : ClientConnection) → slice_get clients i ≡ Some c → slice_get c.connections j ≡ Some κ →
      IsPrefixOf (filter (of_name κ.name) agreed) (commands_from κ.name 0 κ.written)
  pub known : (command : Command) → In command agreed → is_of_connection command ≡ true → IsOfAlone clients command

module _ (cs : List Client) (apart : ClientsAreApart cs) (agreed later : List Command) (clients : List Alone) (b : Beside cs agreed clients) (grown : IsPrefixOf agreed later)
    (of : IsOfWritten clients later) where
  -- a connection without its node
  alone_at : (i j : ℕ) (c : ClientEnds) (κ : ClientConnection) → slice_get b.world.clients i ≡ Some c → slice_get c.connections j ≡ Some κ
      → (slice_get clients i ≡ Some (ends_alone c)) × (slice_get (ends_alone c).connections j ≡ Some (untaken_connection κ))
  alone_at i j c κ at there =
      (sym (ap (λ l. slice_get l i) b.same) ∙ get_mapped ends_alone b.world.clients i c at, get_mapped untaken_connection c.connections j κ there)

  all_taken : (i j : ℕ) (c : ClientEnds) (κ : ClientConnection) (e : End) → HasPipe b.world i c j κ e → take e.read κ.written ≡ κ.written
  all_taken i j c κ e pipe =
      let full = each_get (IsFull agreed) b.world.clients i c b.full pipe.client in
      let one = get_mapped (end_of agreed) c.connections j κ pipe.connection in
      ap (λ n. take n κ.written) (ap (λ (z : End). z.read) (one_end e (end_of agreed κ) (sym pipe.end ∙ ap (λ l. slice_get l j) full ∙ one))) ∙ take_whole κ.written
    where
      one_end : (x y : End) → Some x ≡ Some y → x ≡ y
      one_end x y s = cc

  served : ServesWorld b.world later
  served =
      record {
        grows = subst (λ (l : List Command). IsPrefixOf l later) (sym b.is) grown;
        order = λ i j c κ e pipe.
            let at = alone_at i j c κ pipe.client pipe.connection in
            subst (λ (l : List Written). IsPrefixOf (filter (of_name κ.name) later) (commands_from κ.name 0 l)) (sym (all_taken i j c κ e pipe))
            (of.order i j (ends_alone c) (untaken_connection κ) at.0 at.1);
        known = λ command among own. found command (of.known command among own);
      }
    where
      found : (command : Command) → IsOfAlone clients command → IsOfPipe b.world command
      found command o = by (map_back ends_alone b.world.clients o.i o.client (ap (λ l. slice_get l o.i) b.same ∙ o.there))
        where
          by : (c : ClientEnds) × (slice_get b.world.clients o.i ≡ Some c) × (ends_alone c ≡ o.client) → IsOfPipe b.world command
          by (c, at, is) =
              let z = map_back untaken_connection c.connections o.j o.connection (ap (λ (y : Alone). slice_get y.connections o.j) is ∙ o.at) in
              let full = each_get (IsFull agreed) b.world.clients o.i c b.full at in
              record {
                index = o.i;
                nth = o.j;
                client = c;
                connection = z.0;
                end = end_of agreed z.0;
                pipe = record { client = at; connection = z.1; end = ap (λ l. slice_get l o.j) full ∙ get_mapped (end_of agreed) c.connections o.j z.0 z.1 };
                named = ap (λ (κ : ClientConnection). is_packet_of command κ.name) z.2 ∙ o.named;
              }

  -- then the world continues to the longer list
  pub grows_beside : Beside cs later clients
  grows_beside =
      let came = worlds_are_served cs b.world later apart b.reached served in
      let long = prefix_length grown in
      let same_long = ap length came.agreed in
      let all = all_put_out cs agreed came.after apart came.reached (omega (arith, long, same_long)) (full_still agreed b.world.clients came.after.clients came.clients b.full) in
      record {
        world = record came.after { clients = map (filled came.after.agreed) came.after.clients };
        reached = all;
        is = came.agreed;
        full = each_of_made (filled came.after.agreed) (IsFull later) came.after.clients
            (each_by (λ c. IsFull later (filled came.after.agreed c)) came.after.clients (λ i c at. ap (λ l. ends_of l c.connections) came.agreed));
        same = map_twice (filled came.after.agreed) ends_alone came.after.clients ∙ alone_still b.world.clients came.after.clients came.clients ∙ b.same;
      }
