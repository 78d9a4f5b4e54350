-- A group of nodes that take what the ends of a world's connections read serves the world.
use Rattle.std.proofs.Common.{◌≡◌, ℕ, Bool, true, false, ◌==◌, if◌then◌else◌, List, [], ◌∷◌, filter, take, refl, ap, sym, ◌∙◌, subst}
use Rattle.std.proofs.lemmas.Bool.{both_ways, eq-eqb}
use Rattle.broker_spec.specs.Connection.{ConnectionName}
use Rattle.broker_spec.specs.declared.command.Command.{Command}
use Rattle.broker_spec.specs.declared.command.Command.TheVariants as commands
use Rattle.broker_spec.proofs.ConnectionNames.{same_itself}
use Rattle.lists.specs.Lists.{In, IsPrefixOf}
use Rattle.lists.specs.Lists.In.{here, there}
use Rattle.lists.proofs.Members.{in_left}
use Rattle.agreement.specs.Proposals.{IsOfBallot, commands_of, rows_in}
use Rattle.agreement.specs.cut_logs.Proposals.{taken_at, taken_of}
use Rattle.agreement.proofs.of_cut_logs.Orders.{one_node_takes_a_ballot}
use Rattle.agreement.proofs.of_cut_logs.MomentsAgree.{nodes_agree}
use Rattle.agreement.proofs.of_cut_logs.MomentsAgree.{agreed_grows}
use Rattle.agreement.proofs.of_cut_logs.Orders.{keeps_the_order}
use Rattle.agreement.proofs.of_cut_logs.Orders.{taken_at_in}
use Rattle.exactly_once.specs.Sides.{ClientConnection}
use Rattle.exactly_once.specs.StoryCommands.{is_packet_of}
use Rattle.headline.specs.packet_world.World.{End}
use Rattle.headline.specs.packet_world.Steps.{is_of_connection}
use Rattle.headline.specs.packet_world.Exact.{commands_from}
use Rattle.headline.specs.packet_world.Served.{IsOfPipe}
use Rattle.headline.specs.packet_world.Groups.{GroupsServe, ReadsAt}
use Rattle.headline.proofs.of_packet_world.AgreedInOrder.{agreed_in_order}
use Rattle.headline.proofs.of_packet_world.Answers.{of_name}

-- a start and an Expel are the packets of no connection, and each command of a connection has its name
no_packet : (command : Command) (x : ConnectionName) → is_of_connection command ≡ false → is_packet_of command x ≡ false
no_packet (commands.Connect y c clean) x e = cc
no_packet (commands.Packet y packet) x e = cc
no_packet (commands.Lost y) x e = refl
no_packet (commands.Start ballot) x e = refl
no_packet (commands.Expel c) x e = refl

name_of : (command : Command) → is_of_connection command ≡ true → (x : ConnectionName) × (is_packet_of command x ≡ true)
name_of (commands.Connect y c clean) e = (y, same_itself y)
name_of (commands.Packet y packet) e = (y, same_itself y)
name_of (commands.Lost y) e = cc
name_of (commands.Start ballot) e = cc
name_of (commands.Expel c) e = cc

-- ---- members of lists that are filtered

in_filtered : {X : Type 0} (test : X → Bool) (xs : List X) (x : X) → In x xs → test x ≡ true → In x (filter test xs)
in_filtered test [] x i e = elim i [ ]
in_filtered {X = X} test (y ∷ xs) x i e = by x (test y) refl i e (λ j. in_filtered test xs x j e)
  where
    by : (z : X) (b : Bool) → test y ≡ b → In z (y ∷ xs) → test z ≡ true → (In z xs → In z (filter test xs)) → In z (if b then y ∷ filter test xs else filter test xs)
    by z true is here passes ih = here
    by z true is (there j) passes ih = there (ih j)
    by z false is here passes ih = absurd (both_ways (test z) is passes)
    by z false is (there j) passes ih = ih j

in_whole : {X : Type 0} (test : X → Bool) (xs : List X) (x : X) → In x (filter test xs) → In x xs
in_whole test [] x i = elim i [ ]
in_whole {X = X} test (y ∷ xs) x i = by x (test y) i (in_whole test xs x)
  where
    by : (z : X) (b : Bool) → In z (if b then y ∷ filter test xs else filter test xs) → (In z (filter test xs) → In z xs) → In z (y ∷ xs)
    by z true here ih = here
    by z true (there j) ih = there (ih j)
    by z false j ih = there (ih j)

-- the row of a command
row_of : (rows : List (ℕ × Command)) (command : Command) → In command (commands_of rows) → (row : ℕ × Command) × In row rows × (row.1 ≡ command)
row_of [] command i = elim i [ ]
row_of (row ∷ rows) command here = (row, here, refl)
row_of (row ∷ rows) command (there i) = let z = row_of rows command i in (z.0, there z.1, z.2)

-- commands that are named in only one ballot are among the rows of that ballot
named_in : (names : Command → Bool) (ballot : ℕ) (rows : List (ℕ × Command)) → ((row : ℕ × Command) → In row rows → names row.1 ≡ true → row.0 ≡ ballot)
    → filter names (commands_of rows) ≡ filter names (commands_of (rows_in ballot rows))
named_in names ballot [] only = refl
named_in names ballot (row ∷ rows) only = by (row.0 == ballot) refl (names row.1) refl (named_in names ballot rows (λ other j. only other (there j)))
  where
    by : (b : Bool) → (row.0 == ballot) ≡ b → (n : Bool) → names row.1 ≡ n
        → filter names (commands_of rows) ≡ filter names (commands_of (rows_in ballot rows))
        → (if n then row.1 ∷ filter names (commands_of rows) else filter names (commands_of rows))
        ≡ filter names (commands_of (if b then row ∷ rows_in ballot rows else rows_in ballot rows))
    by true same true named ih = ap (λ l. row.1 ∷ l) ih ∙ sym (ap (λ (z : Bool). if z then row.1 ∷ filter names (commands_of (rows_in ballot rows)) else filter names (commands_of (rows_in ballot rows))) named)
    by true same false other ih = ih ∙ sym (ap (λ (z : Bool). if z then row.1 ∷ filter names (commands_of (rows_in ballot rows)) else filter names (commands_of (rows_in ballot rows))) other)
    by false apart true named ih = let z = eq-eqb row.0 ballot (only row here named) in absurd cc
    by false apart false other ih = ih

-- ---- the law

pub groups_serve : GroupsServe
groups_serve rules starts config a moments w later came before after takes =
    record {
      grows = agreed_grows rules config a moments w.agreed later before after;
      order = λ i j c κ e pipe. order κ e (takes.ends i j c κ e pipe);
      known = λ command among own. known command among own (name_of command own);
    }
  where
    of_ballot : (x : ConnectionName) → IsOfBallot rules.start_of (of_name x) x.ballot (taken_of came)
    of_ballot x = record { starts = λ ballot. no_packet (rules.start_of ballot) x (starts ballot); only = λ row j is. takes.ballots row j x is }

    in_order : (x : ConnectionName) → IsPrefixOf (filter (of_name x) later) (filter (of_name x) (commands_of (taken_of came)))
    in_order x = (agreed_in_order rules (keeps_the_order rules) (nodes_agree rules) config a moments later came after).1 (of_name x) x.ballot (of_ballot x)

    order : (κ : ClientConnection) (e : End) → ReadsAt came κ e → IsPrefixOf (filter (of_name κ.name) later) (commands_from κ.name 0 (take e.read κ.written))
    order κ e r =
        let whole = named_in (of_name κ.name) κ.name.ballot (taken_of came) (λ row j is. takes.ballots row j κ.name is) in
        let own = named_in (of_name κ.name) κ.name.ballot (taken_at r.node came) (λ row j is. takes.ballots row (taken_at_in rules config a moments came r.node row j) κ.name is) in
        let one = one_node_takes_a_ballot rules config a moments came r.moment r.node κ.name.ballot r.among r.primary in
        subst (λ (l : List Command). IsPrefixOf (filter (of_name κ.name) later) l)
        (whole ∙ ap (λ (rows : List (ℕ × Command)). filter (of_name κ.name) (commands_of rows)) one ∙ sym own ∙ r.taken) (in_order κ.name)

    known : (command : Command) → In command later → is_of_connection command ≡ true → (x : ConnectionName) × (is_packet_of command x ≡ true) → IsOfPipe w command
    known command among own (x, named) =
        let front = in_order x in
        let there' = subst (λ (l : List Command). In command l) (sym front.is) (in_left front.rest (in_filtered (of_name x) later command among named)) in
        let row = row_of (taken_of came) command (in_whole (of_name x) (commands_of (taken_of came)) command there') in
        subst (λ (z : Command). IsOfPipe w z) row.2 (takes.known row.0 row.1 (ap is_of_connection row.2 ∙ own))
