-- The packets of a connection among what is proposed to a replica: it takes them all, if its log
-- has room for them.
use Rattle.std.proofs.Common.{◌≡◌, ◌<◌, ◌+◌, ℕ, Bool, true, false, not, nat_lt, if◌then◌else◌, List, [], ◌∷◌, ◌++◌, length, refl, sym, ap, arith}
use Rattle.std.proofs.lemmas.Bool.{lt-ltb}
use Rattle.std.proofs.lemmas.List.{length-append}
use Rattle.std.proofs.lemmas.List.Elements.{filter-append}
use Rattle.ballot_base.specs.Logs.{Log, places}
use Rattle.ballot_base.specs.Protocol.{Input}
use Rattle.ballot_base.specs.Protocol.Input.{Receives, Proposes, Ticks}
use Rattle.ballot_base.specs.Replica.{ReplicaState, is_active}
use Rattle.ballot_base.specs.Service.{max_places, proposed}
use Rattle.broker_base.specs.State.{State}
use Rattle.broker_spec.specs.declared.command.Command.{Command}
use Rattle.broker_spec.specs.Connection.{ConnectionName}
use Rattle.exactly_once.specs.StoryCommands.{is_packet_of}
use Rattle.agreement.specs.cut_logs.Proposals.{proposal_by, taken_by}
use Rattle.world_base.specs.node_core.Core.{CoreState, rules, serves}
use Rattle.headline.specs.node_moves.Moves.{is_proposal}
use Rattle.headline.proofs.of_node_moves.Kept.{left_true}
use Rattle.headline.proofs.of_node_moves.Taken.{proposed_log}
use Rattle.headline.specs.node_group.Group.{replica_of}
use Rattle.headline.specs.node_group.GroupMoments.{packets_in}

pub packets_join : (x : ConnectionName) (rows more : List (ℕ × Command)) → packets_in x (rows ++ more) ≡ packets_in x rows ++ packets_in x more
packets_join x rows more = filter-append (λ (row : ℕ × Command). is_packet_of row.1 x) rows more

-- of an input the packets of all connections are taken
abbrev pub AreTaken : ReplicaState State Command → ReplicaState State Command → Input Command → Type 0
AreTaken r new input = (x : ConnectionName) → packets_in x (taken_by r new input) ≡ packets_in x (proposal_by r input)

-- there is room for the command, if it is a packet of a connection
abbrev pub HasRoomFor : CoreState → Command → Type 0
HasRoomFor core command = (x : ConnectionName) → is_packet_of command x ≡ true → nat_lt (places (replica_of core).log) max_places ≡ true

nothing_if : (b : Bool) (x : ConnectionName) → packets_in x (if b then [] else []) ≡ []
nothing_if true x = refl
nothing_if false x = refl

-- what is no proposal has none
pub none_taken : (r new : ReplicaState State Command) (input : Input Command) → is_proposal input ≡ false → AreTaken r new input
none_taken r new (Receives message) other = λ x. nothing_if (nat_lt (places r.log) (places new.log)) x
none_taken r new Ticks other = λ x. nothing_if (nat_lt (places r.log) (places new.log)) x
none_taken r new (Proposes command) other = absurd cc

-- if there is room the log grows
grows : (r : ReplicaState State Command) (command : Command) → is_active r.role ≡ true → nat_lt (places r.log) max_places ≡ true
    → nat_lt (places r.log) (places (proposed rules r command).state.log) ≡ true
grows r command active room =
    let same = ap (λ (l : Log Command). places l) (proposed_log r command active room) in
    let one : length (r.log.rest ++ command ∷ []) ≡ length r.log.rest + 1 = length-append r.log.rest (command ∷ []) in
    let long : places (proposed rules r command).state.log ≡ places r.log + 1 = omega (arith, same, one) in
    lt-ltb (places r.log) (places (proposed rules r command).state.log) (more (places r.log) (places (proposed rules r command).state.log) long)
  where
    more : (n m : ℕ) → m ≡ n + 1 → n < m
    more n m e = omega (arith, e)

pub proposal_taken : (core : CoreState) (command : Command) → serves core ≡ true → HasRoomFor core command
    → AreTaken (replica_of core) (proposed rules (replica_of core) command).state (Proposes command)
proposal_taken core command serving room x = by (is_packet_of command x) refl
  where
    r : ReplicaState State Command
    r = replica_of core

    if_taken : Bool → List (ℕ × Command)
    if_taken b = packets_in x (if b then (r.joined, command) ∷ [] else [])

    none : is_packet_of command x ≡ false → (b : Bool) → if_taken b ≡ if_taken true
    none other true = refl
    none other false = sym (ap (λ (b : Bool). let l : List (ℕ × Command) = if b then (r.joined, command) ∷ [] else [] in l) other)

    by : (b : Bool) → is_packet_of command x ≡ b → if_taken (nat_lt (places r.log) (places (proposed rules r command).state.log)) ≡ if_taken true
    by true is = ap if_taken (grows r command (left_true (is_active r.role) (not r.stopped) serving) (room x is))
    by false other = none other (nat_lt (places r.log) (places (proposed rules r command).state.log))
