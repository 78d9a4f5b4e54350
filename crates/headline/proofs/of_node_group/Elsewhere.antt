-- What a move of a node is for a name under which it has no open connection; and that a name that was given stays so.
use Rattle.std.proofs.Common.{◌≡◌, ℕ, Bool, true, false, if◌then◌else◌, List, [], ◌∷◌, ◌++◌, Option, Some, None, Err, refl, sym, ap, ◌∙◌, subst}
use Rattle.packet_base.specs.declared.refusal_code.RefusalCode.{RefusalCode}
use Rattle.packet_base.specs.declared.stop.Stop.TheVariants as stops
use Rattle.packet.specs.Verdict.{verdict}
use Rattle.packet.specs.declared.packet.Packet.{Packet}
use Rattle.packet.proofs.MoreBytes.{faults_stay_so}
use Rattle.packet.proofs.PacketReads.{verdict_again}
use Rattle.broker_spec.specs.declared.command.Command.{Command}
use Rattle.broker_spec.specs.declared.command.Command.TheVariants as commands
use Rattle.broker_spec.specs.Connection.{ConnectionName, same_connection}
use Rattle.headline.specs.node_moves.Pipe.{Joins}
use Rattle.exactly_once.specs.StoryCommands.{is_packet_of}
use Rattle.world_base.specs.declared.node_connections.port.Port.{Port}
use Rattle.world_base.specs.declared.node_connections.connection.Connection.{Connection}
use Rattle.world_base.specs.node_core.Core.{CoreState, StepOutcome, serves}
use Rattle.world_base.specs.node_core.PacketInput.{open_at}
use Rattle.headline.specs.node_moves.Closed.{exact_refusal}
use Rattle.headline.specs.node_moves.Ends.{IsEnd, IsGiven, IsOrderly, open_named, piece_on}
use Rattle.headline.specs.node_moves.Ends.{came_on as exactly_came, move_proposal as exactly_proposed}
use Rattle.headline.specs.node_moves.Ends.IsEnd.{not_yet, is_open, is_over}
use Rattle.headline.specs.node_moves.LossyMoves.{NodeMoveOrLost}
use Rattle.headline.specs.node_moves.LossyParts.{came_on, move_proposal, refusal_in}
use Rattle.headline.specs.node_moves.LossyMoves.NodeMoveOrLost.{exactly, first_losing, later_losing, drops}
use Rattle.headline.specs.node_moves.Moves.{NodeMove}
use Rattle.headline.specs.node_moves.Moves.NodeMove.{holds, reads_first, reads_later, refuses, loses_one, loses_next, expels_one}
use Rattle.headline.proofs.of_node_moves.Kept.{named}
use Rattle.headline.proofs.of_node_moves.NamesInOrder.{not_both}
use Rattle.headline.proofs.of_node_moves.ReadsInOrder.{found_given, found_open}
use Rattle.headline.proofs.of_node_moves.Views.{some_none}
use Rattle.broker_spec.proofs.ConnectionNames.{same_name}
use Rattle.headline.specs.node_group.Steps.{commands_put as exactly_put}
use Rattle.headline.specs.node_group.Losses.{commands_put}
use Rattle.headline.specs.node_group.Order.{packet_commands}

-- ---- no open connection

not_there : (x : ConnectionName) (core : CoreState) (port : Port) (c : Connection) → IsOrderly core → open_named x core ≡ None → open_at port core ≡ Some c → named x c ≡ true → ⊥
not_there x core port c o none at is = some_none c (sym (found_open x core port c o at is) ∙ none)

one_other : (x : ConnectionName) (core : CoreState) (port : Port) (c : Connection) (command : Command) → IsOrderly core → open_named x core ≡ None → open_at port core ≡ Some c
    → is_packet_of command x ≡ named x c → packet_commands x (command ∷ []) ≡ []
one_other x core port c command o none at same = by (named x c) refl
  where
    by : (b : Bool) → named x c ≡ b → packet_commands x (command ∷ []) ≡ []
    by true is = absurd (not_there x core port c o none at is)
    by false other = ap (λ (b : Bool). let l : List Command = if b then command ∷ [] else [] in l) (same ∙ other)

-- nothing is put for it
exactly_none_put : (x : ConnectionName) (core : CoreState) (outcome : StepOutcome) (m : NodeMove core outcome) → IsOrderly core → open_named x core ≡ None
    → packet_commands x (exactly_proposed m) ≡ []
exactly_none_put x core outcome (reads_first now port c connect rest at first is room) o none =
    one_other x core port c (commands.Connect c.name connect.client connect.clean) o none at refl
exactly_none_put x core outcome (reads_later now port c packet rest at later is room) o none = one_other x core port c (commands.Packet c.name packet) o none at refl
exactly_none_put x core outcome m o none = refl

pub none_put : (x : ConnectionName) (core : CoreState) (outcome : StepOutcome) (m : NodeMoveOrLost core outcome) → IsOrderly core → open_named x core ≡ None
    → packet_commands x (move_proposal m) ≡ []
none_put x core outcome (exactly m) o none = exactly_none_put x core outcome m o none
none_put x core outcome (first_losing now port c connect rest account at first is taken) o none =
    one_other x core port c (commands.Connect c.name connect.client connect.clean) o none at refl
none_put x core outcome (later_losing now port c packet rest account at later is taken) o none = one_other x core port c (commands.Packet c.name packet) o none at refl
none_put x core outcome m o none = refl

-- no bytes come on it
no_piece : (x : ConnectionName) (core : CoreState) (port : Port) (piece : List ℕ) → IsOrderly core → open_named x core ≡ None → piece_on x piece (open_at port core) ≡ []
no_piece x core port piece o none = by (open_at port core) refl
  where
    on : (c : Connection) → open_at port core ≡ Some c → (b : Bool) → named x c ≡ b → (if b then piece else []) ≡ []
    on c at true is = absurd (not_there x core port c o none at is)
    on c at false is = refl

    by : (found : Option Connection) → open_at port core ≡ found → piece_on x piece found ≡ []
    by None at = refl
    by (Some c) at = on c at (named x c) refl

exactly_none_came : (x : ConnectionName) (core : CoreState) (outcome : StepOutcome) (m : NodeMove core outcome) → IsOrderly core → open_named x core ≡ None → exactly_came x m ≡ []
exactly_none_came x core outcome (holds port piece) o none = no_piece x core port piece o none
exactly_none_came x core outcome m o none = refl

pub none_came : (x : ConnectionName) (core : CoreState) (outcome : StepOutcome) (m : NodeMoveOrLost core outcome) → IsOrderly core → open_named x core ≡ None → came_on x m ≡ []
none_came x core outcome (exactly m) o none = exactly_none_came x core outcome m o none
none_came x core outcome (drops port piece) o none = no_piece x core port piece o none
none_came x core outcome m o none = refl

-- ---- what is put are the packets that are proposed

lost_or_not : (x : ConnectionName) (name : ConnectionName) (b : Bool) → packet_commands x (if b then commands.Lost name ∷ [] else []) ≡ []
lost_or_not x name true = refl
lost_or_not x name false = refl

expelled_or_not : (x : ConnectionName) (client : List ℕ) (b : Bool) → packet_commands x (if b then commands.Expel client ∷ [] else []) ≡ []
expelled_or_not x client true = refl
expelled_or_not x client false = refl

exactly_packets : (x : ConnectionName) (core : CoreState) (outcome : StepOutcome) (m : NodeMove core outcome) → packet_commands x (exactly_put m) ≡ packet_commands x (exactly_proposed m)
exactly_packets x core outcome (loses_one port c at asked) = lost_or_not x c.name (serves core)
exactly_packets x core outcome (loses_next c at) = lost_or_not x c.name (serves core)
exactly_packets x core outcome (expels_one client) = expelled_or_not x client (serves core)
exactly_packets x core outcome m = refl

pub packets_put : (x : ConnectionName) (core : CoreState) (outcome : StepOutcome) (m : NodeMoveOrLost core outcome) → packet_commands x (commands_put m) ≡ packet_commands x (move_proposal m)
packets_put x core outcome (exactly m) = exactly_packets x core outcome m
packets_put x core outcome m = refl

-- ---- no CONNECT is refused if the bytes are those of packets

no_stop : (rest : List Packet) (held later : List ℕ) (code : RefusalCode) → Joins rest (held ++ later) → verdict held ≡ Err (stops.Refused code) → ⊥
unfolding verdict
no_stop rest held later code joined e = by rest joined
  where
    stays : verdict (held ++ later) ≡ Err (stops.Refused code)
    stays = faults_stay_so held later (stops.Refused code) (λ f. cc) e

    by : (ps : List Packet) → Joins ps (held ++ later) → ⊥
    by [] j = let f = sym (ap verdict j) ∙ stays in cc
    by (p ∷ ps) (front, left, sp, kp, is, j) = let f = sym (ap verdict is ∙ verdict_again p front left kp sp) ∙ stays in cc

exactly_refused : (x : ConnectionName) (core : CoreState) (outcome : StepOutcome) (m : NodeMove core outcome) (written read : List Packet) (in_transit : List ℕ) → IsOrderly core
    → IsEnd x core written read in_transit → exact_refusal x m ≡ []
exactly_refused x core outcome (refuses port c code at first is) written read in_transit o end = by (same_connection c.name x) refl
  where
    there : named x c ≡ true → IsEnd x core written read in_transit → ⊥
    there named_so (not_yet below none piped) = not_both core.last_name x below (subst (IsGiven core.last_name) (same_name c.name x named_so) (found_given core port c o at))
    there named_so (is_open d given found stage piped) =
        let same : c ≡ d = one c d (sym (found_open x core port c o at named_so) ∙ found) in
        no_stop piped.rest d.unread in_transit code piped.joined (ap (λ (z : Connection). verdict z.unread) (sym same) ∙ is)
      where
        one : (a b : Connection) → (let q : Option Connection = Some a in q) ≡ Some b → a ≡ b
        one a b e = cc
    there named_so (is_over given none front) = not_there x core port c o none at named_so

    by : (b : Bool) → same_connection c.name x ≡ b → (exact_refusal x (let k : NodeMove core outcome = refuses port c code at first is in k)) ≡ []
    by true e = absurd (there e end)
    by false e = rw e refl
exactly_refused x core outcome m written read in_transit o end = refl

pub none_refused : (x : ConnectionName) (core : CoreState) (outcome : StepOutcome) (m : NodeMoveOrLost core outcome) (written read : List Packet) (in_transit : List ℕ) → IsOrderly core
    → IsEnd x core written read in_transit → refusal_in x m ≡ []
none_refused x core outcome (exactly m) written read in_transit o end = exactly_refused x core outcome m written read in_transit o end
none_refused x core outcome m written read in_transit o end = refl
