-- The commands of packets that were written on a connection are fitting; a list of such commands is
-- fitting too.
use Rattle.std.proofs.Common.{◌≡◌, ℕ, zero, suc, Bool, true, false, if◌then◌else◌, List, [], ◌∷◌, filter, refl, subst}
use Rattle.lists.specs.Lists.{Each, In, IsPrefixOf}
use Rattle.lists.specs.Lists.In.{here, there}
use Rattle.lists.proofs.OfEach.{each_left}
use Rattle.packet.specs.declared.packet.Packet.{Packet}
use Rattle.packet.specs.declared.packet.Packet.TheVariants as packets
use Rattle.packet.specs.Spelling.{IsPacket}
use Rattle.broker_spec.specs.declared.command.Command.{Command}
use Rattle.broker_spec.specs.declared.command.Command.TheVariants as commands
use Rattle.broker_spec.specs.Connection.{ConnectionName, IsConnectionName}
use Rattle.exactly_once.specs.StoryCommands.{command_of, is_packet_of}
use Rattle.headline.specs.packet_world.Steps.{is_of_connection}
use Rattle.headline.specs.node_moves.Ends.{packet_commands_from}
use Rattle.headline.specs.node_group.Order.{packet_commands}
use Rattle.headline.proofs.Fitting.{IsFitting}

-- ---- of one connection

command_fits : (x : ConnectionName) (n : ℕ) (packet : Packet) → IsConnectionName x → IsPacket packet → IsFitting (command_of x n packet)
command_fits x zero (packets.Connect connect) named fits = (named, fits.0.1)
command_fits x zero packet named fits = (named, fits.0, (fits.1, fits.2))
command_fits x (suc n) packet named fits = (named, fits.0, (fits.1, fits.2))

pub commands_fit : (x : ConnectionName) (n : ℕ) (written : List Packet) → IsConnectionName x → Each IsPacket written → Each IsFitting (packet_commands_from x n written)
commands_fit x n [] named fits = tt
commands_fit x n (packet ∷ written) named fits = (command_fits x n packet named fits.0, commands_fit x (suc n) written named fits.1)

-- ---- of a list

-- what holds for each that passes a test holds for one of the list that passes it
of_passing : (P : Command → Type 0) (test : Command → Bool) (xs : List Command) (command : Command) → Each P (filter test xs) → In command xs → test command ≡ true → P command
of_passing P test [] command all among holds = elim among [ ]
of_passing P test (x ∷ xs) command all (there among) holds = by (test x) all (λ rest. of_passing P test xs command rest among holds)
  where
    by : (b : Bool) → Each P (if b then x ∷ filter test xs else filter test xs) → (Each P (filter test xs) → P command) → P command
    by true rest next = next rest.1
    by false rest next = next rest
of_passing P test (x ∷ xs) command all here holds = (subst (λ (b : Bool). Each P (if b then command ∷ filter test xs else filter test xs)) holds all).0

each_among : (P : Command → Type 0) (xs : List Command) → ((command : Command) → In command xs → P command) → Each P xs
each_among P [] all = tt
each_among P (x ∷ xs) all = (all x here, each_among P xs (λ command among. all command (there among)))

-- the command is of a connection, and the list has of it a prefix of the packets that were written
-- on it
pub record IsWritten (agreed : List Command) (command : Command) : Type 0 where
  pub name : ConnectionName
  pub written : List Packet
  pub named : IsConnectionName name
  pub whole : Each IsPacket written
  pub order : IsPrefixOf (packet_commands name agreed) (packet_commands_from name 0 written)
  pub of : is_packet_of command name ≡ true

fits_so : (agreed : List Command) (command : Command) → In command agreed → IsWritten agreed command → IsFitting command
fits_so agreed command among w =
    of_passing IsFitting (λ (c : Command). is_packet_of c w.name) agreed command
    (each_left IsFitting (packet_commands w.name agreed) w.order.rest (subst (Each IsFitting) w.order.is (commands_fit w.name 0 w.written w.named w.whole))) among w.of

-- a list is fitting if each of its packets is of such a connection
pub list_fits : (agreed : List Command) → ((command : Command) → In command agreed → is_of_connection command ≡ true → IsWritten agreed command) → Each IsFitting agreed
list_fits agreed written = each_among IsFitting agreed by
  where
    by : (command : Command) → In command agreed → IsFitting command
    by (commands.Connect x c clean) among = fits_so agreed (commands.Connect x c clean) among (written (commands.Connect x c clean) among refl)
    by (commands.Packet x packet) among = fits_so agreed (commands.Packet x packet) among (written (commands.Packet x packet) among refl)
    by (commands.Lost x) among = tt
    by (commands.Start ballot) among = tt
    by (commands.Expel c) among = tt
