-- No Connect in a list on which the nodes of a world agree is clean: a client wrote it, as the first packet of a connection.
use Rattle.std.proofs.Common.{◌≡◌, ◌⊎◌, inl, inr, ℕ, suc, Bool, true, false, if◌then◌else◌, List, [], ◌∷◌, ◌++◌, filter, refl, sym, ap, ◌∙◌, subst}
use Rattle.ballot_base.specs.declared.config.Config.{Config}
use Rattle.broker_spec.specs.declared.command.Command.{Command}
use Rattle.broker_spec.specs.declared.command.Command.TheVariants as commands
use Rattle.broker_spec.specs.Connection.{ConnectionName}
use Rattle.broker_spec.specs.Place.{Client}
use Rattle.client_base.specs.Connected.{opening_connect}
use Rattle.client_base.specs.Keeper.{Written}
use Rattle.lists.specs.Lists.{Each, In, IsPrefixOf}
use Rattle.lists.specs.Lists.In.{here, there}
use Rattle.lists.proofs.Members.{in_left}
use Rattle.headline.proofs.of_packet_world.Lists.{each_get}
use Rattle.exactly_once.specs.StoryCommands.{is_packet_of}
use Rattle.exactly_once.proofs.Takes.{same_name_self}
use Rattle.packet.specs.declared.packet.Packet.{Packet}
use Rattle.headline.specs.node_moves.Ends.{packet_commands_from}
use Rattle.headline.specs.node_group.Steps.{GroupTrace}
use Rattle.headline.specs.node_group.Order.{packet_commands as packets_in_list}
use Rattle.headline.proofs.of_node_group.CarriedInOrder.{CarriedSo, IsAgreedSo, carried_so, carries_each}
use Rattle.headline.specs.byte_world.Carried.{trace_of}
use Rattle.headline.specs.byte_world.Kept.{NoConnectIsClean, NoneIsClean}
use Rattle.headline.specs.byte_world.World.{ByteWorld, packets_of}
use Rattle.headline.proofs.of_byte_world.BeginsKept.{AllBeginKept, BeginsKept, all_begin_kept}
use Rattle.headline.proofs.of_byte_world.PipesInOrder.{in_order, reached_holds}
use Rattle.headline.proofs.of_byte_world.WorldsHold.{Holds, IsKnown, IsUnheard}

-- what passes a test is among those that do
passing : {X : Type 0} (test : X → Bool) (xs : List X) (x : X) → In x xs → test x ≡ true → In x (filter test xs)
passing test [] x i holds = elim i [ ]
passing test (y ∷ xs) x here holds = subst (λ (b : Bool). In x (if b then x ∷ filter test xs else filter test xs)) (sym holds) here
passing test (y ∷ xs) x (there among) holds = by (test y) (passing test xs x among holds)
  where
    by : (b : Bool) → In x (filter test xs) → In x (if b then y ∷ filter test xs else filter test xs)
    by true i = there i
    by false i = i

in_first : {X : Type 0} (x y : X) (ys : List X) → In x (y ∷ ys) → (x ≡ y) ⊎ In x ys
in_first x y ys here = inl refl
in_first x y ys (there i) = inr i

-- after the first packet of a connection there is no Connect
none_later : (x : ConnectionName) (n : ℕ) (packets : List Packet) (y : ConnectionName) (c : Client) (clean : Bool) →
    In (commands.Connect y c clean) (packet_commands_from x (suc n) packets) → ⊥
none_later x n [] y c clean i = elim i [ ]
none_later x n (packet ∷ packets) y c clean i = by (none_later x (suc n) packets y c clean) (in_first _ _ _ i)
  where
    by : (In (commands.Connect y c clean) (packet_commands_from x (suc (suc n)) packets) → ⊥) →
        (commands.Connect y c clean ≡ commands.Packet x packet) ⊎ In (commands.Connect y c clean) (packet_commands_from x (suc (suc n)) packets) → ⊥
    by rest (inl e) = cc
    by rest (inr j) = rest j

-- and the first one is not clean
first_kept : (x : ConnectionName) (d : Client) (more : List Written) (y : ConnectionName) (c : Client) (clean : Bool) →
    In (commands.Connect y c clean) (packet_commands_from x 0 (packets_of (opening_connect d ∷ more))) → clean ≡ false
first_kept x d more y c clean i = by (in_first _ _ _ i)
  where
    by : (commands.Connect y c clean ≡ commands.Connect x d false) ⊎ In (commands.Connect y c clean) (packet_commands_from x 1 (packets_of more)) → clean ≡ false
    by (inl e) = cc
    by (inr j) = absurd (none_later x 0 (packets_of more) y c clean j)

none_in : {X : Type 0} (x : X) (xs : List X) → IsPrefixOf xs [] → In x xs → ⊥
none_in x (y ∷ xs) front i = let e = front.is in cc
none_in x [] front i = elim i [ ]

module _ {nodes : ℕ} {config : Config} (w : ByteWorld) (went : GroupTrace nodes config w.group) (holds : Holds w went) (begin : Each AllBeginKept w.clients) (so : CarriedSo went)
    (agreed : List Command) (is : IsAgreedSo so agreed) where
  -- of a connection of a client
  of_known : (x : ConnectionName) (c : Client) (clean : Bool) → In (commands.Connect x c clean) agreed → IsKnown w x → clean ≡ false
  of_known x c clean among k = by (each_get BeginsKept k.c.connections k.j k.κ (each_get AllBeginKept w.clients k.i k.c begin k.has.client) k.has.connection)
    where
      front : IsPrefixOf (packets_in_list k.κ.name agreed) (packet_commands_from k.κ.name 0 (packets_of k.κ.written))
      front = (in_order w went holds so agreed is k.i k.c k.j k.κ k.p k.has).up

      written : In (commands.Connect x c clean) (packet_commands_from k.κ.name 0 (packets_of k.κ.written))
      written = subst (λ (l : List Command). In (commands.Connect x c clean) l) (sym front.is)
          (in_left front.rest (passing (λ (command : Command). is_packet_of command k.κ.name) agreed (commands.Connect x c clean) among
          (ap (is_packet_of (commands.Connect x c clean)) k.name ∙ same_name_self x)))

      by : BeginsKept k.κ → clean ≡ false
      by b = first_kept k.κ.name b.client b.more x c clean
          (subst (λ (l : List Written). In (commands.Connect x c clean) (packet_commands_from k.κ.name 0 (packets_of l))) b.written written)

  -- and there is no other
  of_unheard : (x : ConnectionName) (c : Client) (clean : Bool) → In (commands.Connect x c clean) agreed → IsUnheard went x → ⊥
  of_unheard x c clean among none =
      none_in (commands.Connect x c clean) (packets_in_list x agreed)
      (carries_each w.group went so agreed is x [] [] (ap (λ (l : List ℕ). l ++ []) none.0)).up
      (passing (λ (command : Command). is_packet_of command x) agreed (commands.Connect x c clean) among (same_name_self x))

  pub none_clean : NoneIsClean agreed
  none_clean x c clean among = by (holds.known x)
    where
      by : IsUnheard went x ⊎ IsKnown w x → clean ≡ false
      by (inl none) = absurd (of_unheard x c clean among none)
      by (inr known) = of_known x c clean among known

pub no_connect_is_clean : NoConnectIsClean
no_connect_is_clean nodes config cs w trail =
    let so = carried_so (trace_of trail) in
    record { of = so.of; none = λ agreed is. none_clean w (trace_of trail) (reached_holds w trail) (all_begin_kept w trail) so agreed is }
