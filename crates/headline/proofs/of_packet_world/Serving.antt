-- A world comes to each later list on which the nodes agree.
use Rattle.std.proofs.Common.{◌≡◌, ◌+◌, ℕ, true, false, List, [], ◌∷◌, ◌++◌, filter, set, take, Some, refl, ap, sym, ◌∙◌, subst, arith, inl, inr, ◌⊎◌, append_assoc}
use Rattle.std.specs.Prelude.{slice_get}
use Rattle.std.proofs.lemmas.Bool.{cases_Bool}
use Rattle.std.proofs.lemmas.List.{append-nil}
use Rattle.broker_spec.specs.Connection.{ConnectionName}
use Rattle.broker_spec.specs.Place.{Client}
use Rattle.broker_spec.specs.declared.command.Command.{Command}
use Rattle.lists.specs.Lists.{In, IsPrefixOf}
use Rattle.lists.specs.Lists.In.{here}
use Rattle.lists.proofs.Members.{in_right}
use Rattle.lists.proofs.Places.{get_set, get_set_other}
use Rattle.client_base.specs.Keeper.{Written}
use Rattle.exactly_once.specs.Sides.{ClientConnection}
use Rattle.exactly_once.specs.StoryCommands.{is_packet_of, with_one_counted, command_of}
use Rattle.headline.specs.packet_world.World.{End, ClientEnds, PacketWorld, ClientsAreApart}
use Rattle.headline.specs.packet_world.Steps.{HasPipe, Reached, is_of_connection}
use Rattle.headline.specs.packet_world.Steps.PacketWorldStep.{agrees, agrees_else}
use Rattle.headline.specs.packet_world.Steps.Reached.{goes_on}
use Rattle.headline.specs.packet_world.Exact.{commands_from}
use Rattle.headline.specs.packet_world.Served.{IsOfPipe, ServesWorld, untaken, CommandsLeadTo, WorldsAreServed}
use Rattle.headline.proofs.of_packet_world.Lists.{set_get, same_or_other}
use Rattle.headline.proofs.of_packet_world.Answers.{of_name}
use Rattle.headline.proofs.of_packet_world.WorldsExact.{reached_holds}
use Rattle.headline.proofs.of_packet_world.NextPackets.{next_of}
use Rattle.headline.proofs.of_packet_world.TakenOn.{IsKept, counted_back, counted_on, counted_untaken, map_set}

-- ---- the world after it

abbrev after : PacketWorld → ℕ → ℕ → ClientEnds → ClientConnection → Written → PacketWorld
after w i j c κ v =
    record {
      agreed = w.agreed ++ command_of κ.name κ.taken v.packet ∷ [];
      clients = set w.clients i (record c { connections = with_one_counted j c.connections });
    }

some_is : {X : Type 0} (x y : X) → Some x ≡ Some y → x ≡ y
some_is x y e = cc

-- a connection after it was there before
pub record WasPipe (w : PacketWorld) (κ : ClientConnection) (e : End) : Type 0 where
  pub i : ℕ
  pub j : ℕ
  pub client : ClientEnds
  pub connection : ClientConnection
  pub pipe : HasPipe w i client j connection e
  pub kept : IsKept connection κ

pipe_before : (w : PacketWorld) (i j : ℕ) (c : ClientEnds) (κ : ClientConnection) (v : Written) → slice_get w.clients i ≡ Some c → (k l : ℕ) (d : ClientEnds) (μ : ClientConnection) (f : End)
    → HasPipe (after w i j c κ v) k d l μ f → WasPipe w μ f
pipe_before w i j c κ v there' k l d μ f pipe = by (set_get w.clients i k c later d there' pipe.client)
  where
    later : ClientEnds
    later = record c { connections = with_one_counted j c.connections }

    by : ((k ≡ i) × (later ≡ d)) ⊎ ((k ≡ i → ⊥) × (slice_get w.clients k ≡ Some d)) → WasPipe w μ f
    by (inl (s, is)) =
        let back = counted_back j l c.connections μ (subst (λ (z : ClientEnds). slice_get z.connections l ≡ Some μ) (sym is) pipe.connection) in
        record {
          i = i;
          j = l;
          client = c;
          connection = back.0;
          pipe = record { client = there'; connection = back.1; end = subst (λ (z : ClientEnds). slice_get z.ends l ≡ Some f) (sym is) pipe.end };
          kept = back.2;
        }
    by (inr (other, at)) =
        record { i = k; j = l; client = d; connection = μ; pipe = record { client = at; connection = pipe.connection; end = pipe.end }; kept = record { name = refl; written = refl } }

-- and one that was there is there
pipe_after : (w : PacketWorld) (i j : ℕ) (c : ClientEnds) (κ : ClientConnection) (v : Written) → slice_get w.clients i ≡ Some c → (command : Command) → IsOfPipe w command → IsOfPipe (after w i j c κ v) command
pipe_after w i j c κ v there' command of = by (same_or_other of.index i)
  where
    later : ClientEnds
    later = record c { connections = with_one_counted j c.connections }

    by : (of.index ≡ i) ⊎ (of.index ≡ i → ⊥) → IsOfPipe (after w i j c κ v) command
    by (inr other) =
        record {
          index = of.index;
          nth = of.nth;
          client = of.client;
          connection = of.connection;
          end = of.end;
          pipe = record { client = get_set_other w.clients i of.index later other ∙ of.pipe.client; connection = of.pipe.connection; end = of.pipe.end };
          named = of.named;
        }
    by (inl same) =
        let one : of.client ≡ c = some_is of.client c (sym of.pipe.client ∙ ap (slice_get w.clients) same ∙ there') in
        let on = counted_on j of.nth c.connections of.connection (subst (λ (z : ClientEnds). slice_get z.connections of.nth ≡ Some of.connection) one of.pipe.connection) in
        record {
          index = i;
          nth = of.nth;
          client = later;
          connection = on.0;
          end = of.end;
          pipe = record {
            client = get_set w.clients i c later there';
            connection = on.1;
            end = subst (λ (z : ClientEnds). slice_get z.ends of.nth ≡ Some of.end) one of.pipe.end;
          };
          named = ap (is_packet_of command) on.2.name ∙ of.named;
        }

served_after : (w : PacketWorld) (later rest : List Command) (i j : ℕ) (c : ClientEnds) (κ : ClientConnection) (v : Written) → slice_get w.clients i ≡ Some c → ServesWorld w later
    → later ≡ (after w i j c κ v).agreed ++ rest → ServesWorld (after w i j c κ v) later
served_after w later rest i j c κ v there' served is =
    record {
      grows = record { rest = rest; is = is };
      order = λ k l d μ f pipe.
          let was = pipe_before w i j c κ v there' k l d μ f pipe in
          let before = served.order was.i was.j was.client was.connection f was.pipe in
          subst (λ (ws : List Written). IsPrefixOf (filter (of_name μ.name) later) (commands_from μ.name 0 (take f.read ws))) (sym was.kept.written)
          (subst (λ (x : ConnectionName). IsPrefixOf (filter (of_name x) later) (commands_from x 0 (take f.read was.connection.written))) (sym was.kept.name) before);
      known = λ command among own. pipe_after w i j c κ v there' command (served.known command among own);
    }

-- ---- command by command

pushed : {X : Type 0} (xs rest : List X) (y : X) → xs ++ y ∷ rest ≡ (xs ++ y ∷ []) ++ rest
pushed xs rest y = sym (append_assoc xs (y ∷ []) rest)

from_zero : (n : ℕ) → 0 + n ≡ n
from_zero n = omega arith

comes_to : (cs : List Client) (rest : List Command) (w : PacketWorld) (later : List Command) → ClientsAreApart cs → Reached cs w → ServesWorld w later → later ≡ w.agreed ++ rest → CommandsLeadTo cs w later
comes_to cs [] w later apart reached served is =
    record { after = w; reached = reached; agreed = sym (is ∙ append-nil w.agreed); clients = refl }
comes_to cs (y ∷ rest) w later apart reached served is = by (cases_Bool (is_of_connection y)) (λ v. comes_to cs rest v later apart)
  where
    Next : Type 0
    Next = (v : PacketWorld) → Reached cs v → ServesWorld v later → later ≡ v.agreed ++ rest → CommandsLeadTo cs v later

    by : (is_of_connection y ≡ true) ⊎ (is_of_connection y ≡ false) → Next → CommandsLeadTo cs w later
    by (inr else') next =
        let v : PacketWorld = record w { agreed = w.agreed ++ y ∷ [] } in
        let is' : later ≡ (w.agreed ++ y ∷ []) ++ rest = is ∙ pushed w.agreed rest y in
        let came = next v (goes_on reached (agrees_else y else'))
        (record {
          grows = record { rest = rest; is = is' };
          order = λ i j c κ e pipe. served.order i j c κ e (record { client = pipe.client; connection = pipe.connection; end = pipe.end });
          known = λ command among own.
              let of = served.known command among own in
              record {
                index = of.index;
                nth = of.nth;
                client = of.client;
                connection = of.connection;
                end = of.end;
                pipe = record { client = of.pipe.client; connection = of.pipe.connection; end = of.pipe.end };
                named = of.named;
              };
        }) is' in
        record { after = came.after; reached = came.reached; agreed = came.agreed; clients = came.clients }
    by (inl own) next =
        let of = served.known y (subst (In y) (sym is) (in_right w.agreed here)) own in
        let n = next_of w later rest y of.index of.nth of.client of.connection of.end (reached_holds cs w apart reached) served is of.pipe of.named in
        let κ = of.connection in
        let v = after w of.index of.nth of.client κ n.written in
        let is' : later ≡ v.agreed ++ rest = is ∙ ap (λ z. w.agreed ++ z ∷ rest) (n.is ∙ ap (λ k. command_of κ.name k n.written.packet) (from_zero κ.taken)) ∙ pushed w.agreed rest (command_of κ.name κ.taken n.written.packet) in
        let came = next v (goes_on reached (agrees of.index of.nth of.client κ of.end n.written of.pipe n.less n.stands))
        (served_after w later rest of.index of.nth of.client κ n.written of.pipe.client served is') is' in
        record {
          after = came.after;
          reached = came.reached;
          agreed = came.agreed;
          clients = came.clients
              ∙ map_set untaken w.clients of.index of.client (record of.client { connections = with_one_counted of.nth of.client.connections }) of.pipe.client
              (ap (λ l. let z : ClientEnds = record of.client { connections = l } in z) (counted_untaken of.nth of.client.connections));
        }

pub worlds_are_served : WorldsAreServed
worlds_are_served cs w later apart reached served = comes_to cs served.grows.rest w later apart reached served served.grows.is
