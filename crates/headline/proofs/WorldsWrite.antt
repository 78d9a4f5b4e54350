-- What the nodes of a world agree on is of what its clients wrote: of each connection a prefix, in order, and of no other.
use Rattle.std.proofs.Common.{◌≡◌, ◌≤◌, ◌⊎◌, inl, inr, ℕ, suc, Bool, true, false, if◌then◌else◌, List, [], ◌∷◌, ◌++◌, filter, length, map, Some, refl, sym, ap, ◌∙◌, subst}
use Rattle.std.specs.Prelude.{slice_get}
use Rattle.std.proofs.lemmas.Bool.{both_ways}
use Rattle.ballot_base.specs.declared.config.Config.{Config}
use Rattle.broker_spec.specs.declared.command.Command.{Command}
use Rattle.broker_spec.specs.declared.command.Command.TheVariants as commands
use Rattle.broker_spec.specs.Connection.{ConnectionName}
use Rattle.client_base.specs.Keeper.{Written}
use Rattle.lists.specs.Lists.{Each, In, IsPrefixOf}
use Rattle.lists.specs.Lists.In.{here, there}
use Rattle.exactly_once.specs.Sides.{ClientConnection}
use Rattle.exactly_once.specs.StoryCommands.{command_of, is_packet_of}
use Rattle.exactly_once.proofs.Takes.{same_name_self}
use Rattle.headline.specs.packet_world.Exact.{commands_from}
use Rattle.headline.specs.packet_world.Steps.{is_of_connection}
use Rattle.headline.proofs.of_packet_world.Answers.{of_name}
use Rattle.headline.proofs.of_packet_world.Lists.{each_get, stands_within, there_is}
use Rattle.headline.specs.node_moves.Ends.{packet_commands_from}
use Rattle.headline.specs.node_group.Steps.{GroupTrace}
use Rattle.headline.specs.node_group.Order.{packet_commands as packets_in_list}
use Rattle.headline.proofs.of_node_group.Placed.{get_mapped}
use Rattle.headline.specs.byte_world.World.{ClientPipes, HasPipe, Pipe, ByteWorld, packets_of}
use Rattle.headline.proofs.of_byte_world.WorldsHold.{Holds, IsKnown, IsUnheard}
use Rattle.headline.proofs.Untaken.{untaken_connection}
use Rattle.headline.proofs.Beside.{Alone, IsOfWritten, alone}
use Rattle.headline.proofs.of_node_group.CarriedInOrder.{CarriedSo, IsAgreedSo, carries_each}
use Rattle.headline.proofs.Places.{map_back}

abbrev pub pipes_alone : ClientPipes → Alone
pipes_alone c = alone c.keeper c.connections

abbrev pub clients_alone : ByteWorld → List Alone
clients_alone w = map pipes_alone w.clients

-- each of its connections has a pipe
abbrev pub HasAllPipes : ClientPipes → Type 0
HasAllPipes c = length c.pipes ≡ length c.connections

-- ---- commands

same_commands : (x : ConnectionName) (n : ℕ) (written : List Written) → packet_commands_from x n (packets_of written) ≡ commands_from x n written
same_commands x n [] = refl
same_commands x n (w ∷ written) = ap (λ l. command_of x n w.packet ∷ l) (same_commands x (suc n) written)

-- the connection that a command is a packet of
named_in : (command : Command) → is_of_connection command ≡ true → (x : ConnectionName) × (is_packet_of command x ≡ true)
named_in (commands.Connect x c clean) own = (x, same_name_self x)
named_in (commands.Packet x packet) own = (x, same_name_self x)
named_in (commands.Lost x) own = absurd (both_ways false refl own)
named_in (commands.Start ballot) own = absurd (both_ways false refl own)
named_in (commands.Expel c) own = absurd (both_ways false refl own)

-- what passes a test is among those that do
passing : {X : Type 0} (test : X → Bool) (xs : List X) (x : X) → In x xs → test x ≡ true → In x (filter test xs)
passing test [] x i holds = elim i [ ]
passing test (y ∷ xs) x here holds = subst (λ (b : Bool). In x (if b then x ∷ filter test xs else filter test xs)) (sym holds) here
passing test (y ∷ xs) x (there among) holds = by (test y) (passing test xs x among holds)
  where
    by : (b : Bool) → In x (filter test xs) → In x (if b then y ∷ filter test xs else filter test xs)
    by true i = there i
    by false i = i

none_in : {X : Type 0} (x : X) (xs : List X) → IsPrefixOf xs [] → In x xs → ⊥
none_in x (y ∷ xs) front i = let e = front.is in cc
none_in x [] front i = elim i [ ]

-- ---- what is agreed

module _ {nodes : ℕ} {config : Config} (w : ByteWorld) (went : GroupTrace nodes config w.group) (holds : Holds w went) (piped : Each HasAllPipes w.clients) (so : CarriedSo went)
    (agreed : List Command) (is : IsAgreedSo so agreed) where
  -- a connection of a client, with its pipe
  pub record Stands (i j : ℕ) (a : Alone) (κ : ClientConnection) : Type 0 where
    pub c : ClientPipes
    pub μ : ClientConnection
    pub p : Pipe
    pub has : HasPipe w i c j μ p
    pub same : untaken_connection μ ≡ κ

  pub stands_there : (i j : ℕ) (a : Alone) (κ : ClientConnection) → slice_get (clients_alone w) i ≡ Some a → slice_get a.connections j ≡ Some κ → Stands i j a κ
  stands_there i j a κ at stood = by (map_back pipes_alone w.clients i a at)
    where
      by : (c : ClientPipes) × (slice_get w.clients i ≡ Some c) × (pipes_alone c ≡ a) → Stands i j a κ
      by (c, client, one) =
          let z = map_back untaken_connection c.connections j κ (ap (λ (y : Alone). slice_get y.connections j) one ∙ stood) in
          let all = each_get HasAllPipes w.clients i c piped client in
          let p = there_is c.pipes j (subst (λ n. suc j ≤ n) (sym all) (stands_within c.connections j z.0 z.1)) in
          record { c = c; μ = z.0; p = p.0; has = record { client = client; connection = z.1; pipe = p.1 }; same = z.2 }

  -- the list has a prefix of what was written on it
  pub order_at : (i : ℕ) (c : ClientPipes) (j : ℕ) (κ : ClientConnection) (p : Pipe) → HasPipe w i c j κ p
      → IsPrefixOf (packets_in_list κ.name agreed) (packet_commands_from κ.name 0 (packets_of κ.written))
  order_at i c j κ p has = let h = holds.each i c j κ p has in (carries_each w.group went so agreed is κ.name (packets_of κ.written) h.up.later h.up.joined).up

  -- a packet in the list is of a connection of a client
  pub known_at : (command : Command) → In command agreed → is_of_connection command ≡ true → (x : ConnectionName) × (is_packet_of command x ≡ true) × IsKnown w x
  known_at command among own = let z = named_in command own in (z.0, z.1, by z.0 z.1 (holds.known z.0))
    where
      by : (x : ConnectionName) → is_packet_of command x ≡ true → IsUnheard went x ⊎ IsKnown w x → IsKnown w x
      by x mine (inr k) = k
      by x mine (inl none) =
          absurd (none_in command (packets_in_list x agreed)
          (carries_each w.group went so agreed is x [] [] (ap (λ l. l ++ []) none.0)).up (passing (of_name x) agreed command among mine))

  pub is_of_written : IsOfWritten (clients_alone w) agreed
  is_of_written =
      record {
        order = λ i j a κ at stood.
            let s = stands_there i j a κ at stood in
            subst (λ (ν : ClientConnection). IsPrefixOf (filter (of_name ν.name) agreed) (commands_from ν.name 0 ν.written)) s.same
            (subst (λ l. IsPrefixOf (packets_in_list s.μ.name agreed) l) (same_commands s.μ.name 0 s.μ.written) (order_at i s.c j s.μ s.p s.has));
        known = λ command among own.
            let z = known_at command among own in
            record {
              i = z.2.i;
              j = z.2.j;
              client = pipes_alone z.2.c;
              connection = untaken_connection z.2.κ;
              there = get_mapped pipes_alone w.clients z.2.i z.2.c z.2.has.client;
              at = get_mapped untaken_connection z.2.c.connections z.2.j z.2.κ z.2.has.connection;
              named = ap (is_packet_of command) z.2.name ∙ z.1;
            };
      }
