-- Whatever bytes come to nodes, a Connect that they propose came first on its connection.
use Rattle.std.proofs.Common.{◌≡◌, ◌⊎◌, inl, inr, ◌+◌, ℕ, Bool, true, false, if◌then◌else◌, List, [], ◌∷◌, ◌++◌, Option, Some, None, Ok, Result, refl, sym, ap, ◌∙◌, subst}
use Rattle.std.specs.List.{find}
use Rattle.std.proofs.lemmas.Bool.{both_ways}
use Rattle.std.proofs.lemmas.List.{append-nil, append_assoc}
use Rattle.lists.specs.Lists.{Each, In}
use Rattle.lists.specs.Lists.In.{here, there}
use Rattle.lists.proofs.Members.{in_append}
use Rattle.lists.proofs.OfEach.{each_then}
use Rattle.packet.specs.Verdict.{verdict}
use Rattle.packet.specs.declared.connect.Connect.{Connect}
use Rattle.packet.specs.declared.packet.Packet.{Packet}
use Rattle.packet.specs.declared.packet.Packet.TheVariants as packets
use Rattle.packet.proofs.MoreBytes.{verdict_grows}
use Rattle.packet_base.proofs.Growing.{StandsWithMore}
use Rattle.packet_base.specs.declared.stop.Stop.{Stop}
use Rattle.agreement.specs.Proposals.{commands_of}
use Rattle.broker_spec.specs.declared.command.Command.{Command}
use Rattle.broker_spec.specs.declared.command.Command.TheVariants as commands
use Rattle.broker_spec.specs.Connection.{ConnectionName, is_connection_name, same_connection}
use Rattle.broker_spec.specs.EndingTheorems.{is_connect_of}
use Rattle.broker_spec.specs.Place.{Client}
use Rattle.exactly_once.proofs.Takes.{same_name_self}
use Rattle.world_base.specs.declared.node_connections.connection.Connection.{Connection}
use Rattle.world_base.specs.declared.node_connections.port.Port.{Port}
use Rattle.world_base.specs.node_connections.Connections.{awaits_first_packet, fresh, is_open_at}
use Rattle.world_base.specs.node_connections.ConnectionChanges.{changed_where, closed_connection, with_unread}
use Rattle.world_base.specs.node_core.Core.{CoreState, StepOutcome}
use Rattle.world_base.specs.node_core.PacketInput.{changes, open_at}
use Rattle.world_base.specs.node_core.Step.{next_name}
use Rattle.headline.specs.node_moves.Ends.{AtMostOne, IsGiven, IsOrderly, piece_on}
use Rattle.headline.specs.node_moves.LossyMoves.{NodeMoveOrLost}
use Rattle.headline.specs.node_moves.LossyMoves.NodeMoveOrLost.{exactly, hears_losing, first_losing, later_losing, tells_losing, expels_losing, forgets, halts, fails, unheard, drops}
use Rattle.headline.specs.node_moves.LossyParts.{came_on, move_proposal}
use Rattle.headline.specs.node_moves.LossyRuns.{MoveTraceOrLost, bytes_on}
use Rattle.headline.specs.node_moves.LossyRuns.MoveTraceOrLost.{rests, goes_on}
use Rattle.headline.specs.node_moves.Moves.NodeMove.{hears, opens_one, holds, reads_first, reads_later, closes, refuses, loses_one, loses_next, expels_one, cuts_log, crashes, settles, hands}
use Rattle.headline.proofs.of_node_moves.Kept.{named}
use Rattle.headline.proofs.of_node_moves.LossyReads.{losses_read_in_order}
use Rattle.headline.proofs.of_node_moves.NamesInOrder.{next_precedes, not_both}
use Rattle.headline.proofs.of_node_moves.Views.{found_each}
use Rattle.headline.specs.node_group.Group.{replica_of}
use Rattle.headline.specs.node_group.Losses.{commands_put, put_in_move, put_in_run}
use Rattle.headline.proofs.of_node_group.Given.{stays_given}
use Rattle.one_client.specs.ConnectsFirst.{ConnectsAs}
use Rattle.one_client.proofs.AgreedCommands.{passed, passing}
use Rattle.one_client.proofs.ConnectsOnce.{rows_joined, rows_of, same_connects}
use Rattle.one_client.proofs.Followers.{IsFollowed, move_kept}

-- ---- a CONNECT at the front stays there

pub longer_connects : (bytes more : List ℕ) (client : Client) → ConnectsAs bytes client → ConnectsAs (bytes ++ more) client
longer_connects bytes more client c =
    record {
      connect = c.connect;
      rest = c.rest ++ more;
      first = subst (λ (r : Result (Packet × List ℕ) Stop). StandsWithMore more r (verdict (bytes ++ more))) c.first (verdict_grows bytes more);
      is = c.is;
    }

-- ---- a connection that waits for its first packet holds all that came

abbrev pub HoldsAll : ConnectionName → List ℕ → Connection → Type 0
HoldsAll x came c = c.name ≡ x → awaits_first_packet c.stage ≡ true → c.unread ≡ came

follows_all : (x : ConnectionName) (came : List ℕ) → IsFollowed (HoldsAll x came)
follows_all x came c d f all is waits = f.same waits ∙ all (sym f.name ∙ is) (f.waits waits)

unnamed : (x : ConnectionName) (c : Connection) → same_connection c.name x ≡ false → c.name ≡ x → ⊥
unnamed x c other is = both_ways (same_connection c.name x) other (ap (λ (y : ConnectionName). same_connection y x) is ∙ same_name_self x)

none_hold : (x : ConnectionName) (came : List ℕ) (cs : List Connection) → Each (λ (c : Connection). named x c ≡ false) cs → Each (HoldsAll x came) cs
none_hold x came cs none = each_then (λ (c : Connection). named x c ≡ false) (HoldsAll x came) cs (λ c other is waits. absurd (unnamed x c other is)) none

-- bytes that come elsewhere are not of the name
comes_elsewhere : (x : ConnectionName) (piece : List ℕ) (test : Connection → Bool) (cs : List Connection) → Each (λ (c : Connection). named x c ≡ false) cs → piece_on x piece (find test cs) ≡ []
comes_elsewhere x piece test cs none = by (find test cs) refl
  where
    by : (o : Option Connection) → find test cs ≡ o → piece_on x piece o ≡ []
    by None e = refl
    by (Some c) e = ap (λ (b : Bool). let l : List ℕ = if b then piece else [] in l) (found_each (λ (z : Connection). named x z ≡ false) test cs c none e)

-- the connection to which a piece comes holds it, or is closed
module _ (x : ConnectionName) (came piece : List ℕ) (test : Connection → Bool) (f : Connection → Connection)
    (same : (c : Connection) → (f c).name ≡ c.name)
    (more : (c : Connection) → awaits_first_packet (f c).stage ≡ true → (awaits_first_packet c.stage ≡ true) × ((f c).unread ≡ c.unread ++ piece)) where
  piece_held : (cs : List Connection) → AtMostOne (named x) cs → Each (HoldsAll x came) cs → Each (HoldsAll x (came ++ piece_on x piece (find test cs))) (changed_where test f cs)
  piece_held [] one all = tt
  piece_held (d ∷ cs) one all = by (test d) (named x d) refl (piece_held cs one.1 all.1)
    where
      -- the other connections
      rest : (b : Bool) → named x d ≡ b → Each (HoldsAll x (came ++ (if b then piece else []))) cs
      rest true e = none_hold x (came ++ piece) cs (one.0 e)
      rest false e = subst (λ l. Each (HoldsAll x l) cs) (sym (append-nil came)) all.1

      by : (a b : Bool) → named x d ≡ b → Each (HoldsAll x (came ++ piece_on x piece (find test cs))) (changed_where test f cs)
          → Each (HoldsAll x (came ++ piece_on x piece (if a then Some d else find test cs))) (if a then f d ∷ cs else d ∷ changed_where test f cs)
      by true b e ih = (
        λ is waits.
            let m = more d waits in
            let mine : d.name ≡ x = sym (same d) ∙ is in
            m.1 ∙ ap (λ l. l ++ piece) (all.0 mine m.0)
            ∙ ap (λ (q : Bool). came ++ (let l : List ℕ = if q then piece else [] in l)) (sym (ap (λ (y : ConnectionName). same_connection y x) mine ∙ same_name_self x)),
        subst (λ (q : Bool). Each (HoldsAll x (came ++ (let l : List ℕ = if q then piece else [] in l))) cs) (sym e) (rest b e),
      )
      by false b e ih = (
        λ is waits.
            all.0 is waits ∙ sym (append-nil came)
            ∙ ap (λ l. came ++ l) (sym (comes_elsewhere x piece test cs (one.0 (ap (λ (y : ConnectionName). same_connection y x) is ∙ same_name_self x)))),
        ih,
      )

held_at : (x : ConnectionName) (came piece : List ℕ) (port : Port) (core : CoreState) → IsOrderly core → Each (HoldsAll x came) core.connections
    → Each (HoldsAll x (came ++ piece_on x piece (open_at port core))) (changes port (with_unread piece) core).connections
unfolding changes
held_at x came piece port core o all = piece_held x came piece (is_open_at port) (with_unread piece) (λ c. refl) (λ c waits. (waits, refl)) core.connections (o.names x) all

dropped_at : (x : ConnectionName) (came piece : List ℕ) (port : Port) (core : CoreState) → IsOrderly core → Each (HoldsAll x came) core.connections
    → Each (HoldsAll x (came ++ piece_on x piece (open_at port core))) (changes port closed_connection core).connections
unfolding changes
dropped_at x came piece port core o all = piece_held x came piece (is_open_at port) closed_connection (λ c. refl) (λ c waits. absurd (shut waits)) core.connections (o.names x) all
  where
    shut : false ≡ true → ⊥
    shut e = both_ways false refl e

-- ---- one move

-- the name was given, or nothing came on it
abbrev IsKnown : ConnectionName → List ℕ → CoreState → Type 0
IsKnown x came core = IsGiven core.last_name x ⊎ (came ≡ [])

new_holds : (x : ConnectionName) (came : List ℕ) (core : CoreState) → IsOrderly core → IsKnown x came core → (port : Port) → is_connection_name (next_name core) ≡ true → HoldsAll x came (fresh port (next_name core))
new_holds x came core o (inl given) port fits is waits = absurd (not_both core.last_name (next_name core) (next_precedes core o.within) (subst (IsGiven core.last_name) (sym is) given))
new_holds x came core o (inr none) port fits is waits = sym none

move_holds : (x : ConnectionName) (came : List ℕ) (core : CoreState) (outcome : StepOutcome) (m : NodeMoveOrLost core outcome) → IsOrderly core → IsKnown x came core → Each (HoldsAll x came) core.connections
    → Each (HoldsAll x (came ++ came_on x m)) outcome.core.connections
move_holds x came core outcome (exactly (holds port piece)) o known all = held_at x came piece port core o all
move_holds x came core outcome (drops port piece) o known all = dropped_at x came piece port core o all
move_holds x came core outcome (exactly (hears input other)) o known all =
    subst (λ l. Each (HoldsAll x l) outcome.core.connections) (sym (append-nil came)) (move_kept (HoldsAll x came) (follows_all x came) core outcome (exactly (hears input other)) (new_holds x came core o known) tt all)
move_holds x came core outcome (exactly (opens_one port)) o known all =
    subst (λ l. Each (HoldsAll x l) outcome.core.connections) (sym (append-nil came)) (move_kept (HoldsAll x came) (follows_all x came) core outcome (exactly (opens_one port)) (new_holds x came core o known) tt all)
move_holds x came core outcome (exactly (reads_first now port c connect rest at first is room)) o known all =
    subst (λ l. Each (HoldsAll x l) outcome.core.connections) (sym (append-nil came)) (move_kept (HoldsAll x came) (follows_all x came) core outcome (exactly (reads_first now port c connect rest at first is room)) (new_holds x came core o known) tt all)
move_holds x came core outcome (exactly (reads_later now port c packet rest at later is room)) o known all =
    subst (λ l. Each (HoldsAll x l) outcome.core.connections) (sym (append-nil came)) (move_kept (HoldsAll x came) (follows_all x came) core outcome (exactly (reads_later now port c packet rest at later is room)) (new_holds x came core o known) tt all)
move_holds x came core outcome (exactly (closes port)) o known all =
    subst (λ l. Each (HoldsAll x l) outcome.core.connections) (sym (append-nil came)) (move_kept (HoldsAll x came) (follows_all x came) core outcome (exactly (closes port)) (new_holds x came core o known) tt all)
move_holds x came core outcome (exactly (refuses port c code at first is)) o known all =
    subst (λ l. Each (HoldsAll x l) outcome.core.connections) (sym (append-nil came)) (move_kept (HoldsAll x came) (follows_all x came) core outcome (exactly (refuses port c code at first is)) (new_holds x came core o known) tt all)
move_holds x came core outcome (exactly (loses_one port c at asked)) o known all =
    subst (λ l. Each (HoldsAll x l) outcome.core.connections) (sym (append-nil came)) (move_kept (HoldsAll x came) (follows_all x came) core outcome (exactly (loses_one port c at asked)) (new_holds x came core o known) tt all)
move_holds x came core outcome (exactly (loses_next c at)) o known all =
    subst (λ l. Each (HoldsAll x l) outcome.core.connections) (sym (append-nil came)) (move_kept (HoldsAll x came) (follows_all x came) core outcome (exactly (loses_next c at)) (new_holds x came core o known) tt all)
move_holds x came core outcome (exactly (expels_one client)) o known all =
    subst (λ l. Each (HoldsAll x l) outcome.core.connections) (sym (append-nil came)) (move_kept (HoldsAll x came) (follows_all x came) core outcome (exactly (expels_one client)) (new_holds x came core o known) tt all)
move_holds x came core outcome (exactly (cuts_log can)) o known all =
    subst (λ l. Each (HoldsAll x l) outcome.core.connections) (sym (append-nil came)) (move_kept (HoldsAll x came) (follows_all x came) core outcome (exactly (cuts_log can)) (new_holds x came core o known) tt all)
move_holds x came core outcome (exactly crashes) o known all =
    subst (λ l. Each (HoldsAll x l) outcome.core.connections) (sym (append-nil came)) (move_kept (HoldsAll x came) (follows_all x came) core outcome (exactly crashes) (new_holds x came core o known) tt all)
move_holds x came core outcome (exactly settles) o known all =
    subst (λ l. Each (HoldsAll x l) outcome.core.connections) (sym (append-nil came)) (move_kept (HoldsAll x came) (follows_all x came) core outcome (exactly settles) (new_holds x came core o known) tt all)
move_holds x came core outcome (exactly (hands port)) o known all =
    subst (λ l. Each (HoldsAll x l) outcome.core.connections) (sym (append-nil came)) (move_kept (HoldsAll x came) (follows_all x came) core outcome (exactly (hands port)) (new_holds x came core o known) tt all)
move_holds x came core outcome (hears_losing input account other drives) o known all =
    subst (λ l. Each (HoldsAll x l) outcome.core.connections) (sym (append-nil came)) (move_kept (HoldsAll x came) (follows_all x came) core outcome (hears_losing input account other drives) (new_holds x came core o known) tt all)
move_holds x came core outcome (first_losing now port c connect rest account at first is taken) o known all =
    subst (λ l. Each (HoldsAll x l) outcome.core.connections) (sym (append-nil came)) (move_kept (HoldsAll x came) (follows_all x came) core outcome (first_losing now port c connect rest account at first is taken) (new_holds x came core o known) tt all)
move_holds x came core outcome (later_losing now port c packet rest account at later is taken) o known all =
    subst (λ l. Each (HoldsAll x l) outcome.core.connections) (sym (append-nil came)) (move_kept (HoldsAll x came) (follows_all x came) core outcome (later_losing now port c packet rest account at later is taken) (new_holds x came core o known) tt all)
move_holds x came core outcome (tells_losing name account taken) o known all =
    subst (λ l. Each (HoldsAll x l) outcome.core.connections) (sym (append-nil came)) (move_kept (HoldsAll x came) (follows_all x came) core outcome (tells_losing name account taken) (new_holds x came core o known) tt all)
move_holds x came core outcome (expels_losing client account taken) o known all =
    subst (λ l. Each (HoldsAll x l) outcome.core.connections) (sym (append-nil came)) (move_kept (HoldsAll x came) (follows_all x came) core outcome (expels_losing client account taken) (new_holds x came core o known) tt all)
move_holds x came core outcome forgets o known all =
    subst (λ l. Each (HoldsAll x l) outcome.core.connections) (sym (append-nil came)) (move_kept (HoldsAll x came) (follows_all x came) core outcome forgets (new_holds x came core o known) tt all)
move_holds x came core outcome halts o known all =
    subst (λ l. Each (HoldsAll x l) outcome.core.connections) (sym (append-nil came)) (move_kept (HoldsAll x came) (follows_all x came) core outcome halts (new_holds x came core o known) tt all)
move_holds x came core outcome (fails port) o known all =
    subst (λ l. Each (HoldsAll x l) outcome.core.connections) (sym (append-nil came)) (move_kept (HoldsAll x came) (follows_all x came) core outcome (fails port) (new_holds x came core o known) tt all)
move_holds x came core outcome unheard o known all =
    subst (λ l. Each (HoldsAll x l) outcome.core.connections) (sym (append-nil came)) (move_kept (HoldsAll x came) (follows_all x came) core outcome unheard (new_holds x came core o known) tt all)

-- a Connect that is proposed was read
abbrev pub connect_of : ConnectionName → Client → Bool → Command
connect_of x client clean = commands.Connect x client clean

read_first : (x : ConnectionName) (came : List ℕ) (core : CoreState) (port : Port) (c : Connection) (connect : Connect) (rest : List ℕ) → open_at port core ≡ Some c → awaits_first_packet c.stage ≡ true
    → verdict c.unread ≡ Ok (packets.Connect connect, rest) → Each (HoldsAll x came) core.connections → (client : Client) (clean : Bool)
    → In (connect_of x client clean) (commands.Connect c.name connect.client connect.clean ∷ []) → ConnectsAs came client
read_first x came core port c connect rest at first is all client clean i =
    let e = in_one (connect_of x client clean) (commands.Connect c.name connect.client connect.clean) i in
    let name : c.name ≡ x = same_first x c.name client connect.client clean connect.clean e in
    record {
      connect = connect;
      rest = rest;
      first = ap verdict (sym (found_each (HoldsAll x came) (is_open_at port) core.connections c all at name first)) ∙ is;
      is = same_second x c.name client connect.client clean connect.clean e;
    }
  where
    in_one : (a b : Command) → In a (b ∷ []) → a ≡ b
    in_one a b here = refl
    in_one a b (there j) = elim j [ ]

    same_first : (x y : ConnectionName) (c d : Client) (a b : Bool) → connect_of x c a ≡ connect_of y d b → y ≡ x
    same_first x y c d a b e = cc

    same_second : (x y : ConnectionName) (c d : Client) (a b : Bool) → connect_of x c a ≡ connect_of y d b → d ≡ c
    same_second x y c d a b e = cc

-- no Connect is another command
not_other : (x : ConnectionName) (client : Client) (clean : Bool) (command : Command) → (connect_of x client clean ≡ command → ⊥) → In (connect_of x client clean) (command ∷ []) → ⊥
not_other x client clean command other here = other refl
not_other x client clean command other (there j) = elim j [ ]

move_says : (x : ConnectionName) (came : List ℕ) (core : CoreState) (outcome : StepOutcome) (m : NodeMoveOrLost core outcome) → Each (HoldsAll x came) core.connections → (client : Client) (clean : Bool)
    → In (connect_of x client clean) (move_proposal m) → ConnectsAs came client
move_says x came core outcome (exactly (hears input other)) all client clean i = elim i [ ]
move_says x came core outcome (exactly (opens_one port)) all client clean i = elim i [ ]
move_says x came core outcome (exactly (reads_first now port c connect rest at first is room)) all client clean i = read_first x came core port c connect rest at first is all client clean i
move_says x came core outcome (exactly (reads_later now port c packet rest at later is room)) all client clean i = absurd (not_other x client clean (commands.Packet c.name packet) (λ e. cc) i)
move_says x came core outcome (exactly (closes port)) all client clean i = elim i [ ]
move_says x came core outcome (exactly (refuses port c code at first is)) all client clean i = elim i [ ]
move_says x came core outcome (exactly (loses_one port c at asked)) all client clean i = absurd (not_other x client clean (commands.Lost c.name) (λ e. cc) i)
move_says x came core outcome (exactly (loses_next c at)) all client clean i = absurd (not_other x client clean (commands.Lost c.name) (λ e. cc) i)
move_says x came core outcome (exactly (expels_one expelled)) all client clean i = absurd (not_other x client clean (commands.Expel expelled) (λ e. cc) i)
move_says x came core outcome (exactly (cuts_log can)) all client clean i = elim i [ ]
move_says x came core outcome (exactly crashes) all client clean i = elim i [ ]
move_says x came core outcome (exactly settles) all client clean i = elim i [ ]
move_says x came core outcome (exactly (hands port)) all client clean i = elim i [ ]
move_says x came core outcome (exactly (holds port piece)) all client clean i = elim i [ ]
move_says x came core outcome (hears_losing input account other drives) all client clean i = elim i [ ]
move_says x came core outcome (first_losing now port c connect rest account at first is taken) all client clean i = read_first x came core port c connect rest at first is all client clean i
move_says x came core outcome (later_losing now port c packet rest account at later is taken) all client clean i = absurd (not_other x client clean (commands.Packet c.name packet) (λ e. cc) i)
move_says x came core outcome (tells_losing name account taken) all client clean i = absurd (not_other x client clean (commands.Lost name) (λ e. cc) i)
move_says x came core outcome (expels_losing expelled account taken) all client clean i = absurd (not_other x client clean (commands.Expel expelled) (λ e. cc) i)
move_says x came core outcome forgets all client clean i = elim i [ ]
move_says x came core outcome halts all client clean i = elim i [ ]
move_says x came core outcome (fails port) all client clean i = elim i [ ]
move_says x came core outcome unheard all client clean i = elim i [ ]
move_says x came core outcome (drops port piece) all client clean i = elim i [ ]

pub is_its : (x : ConnectionName) (client : Client) (clean : Bool) → is_connect_of x (connect_of x client clean) ≡ true
is_its x client clean = same_name_self x

move_puts : (x : ConnectionName) (came : List ℕ) (core : CoreState) (outcome : StepOutcome) (m : NodeMoveOrLost core outcome) → Each (HoldsAll x came) core.connections → (client : Client) (clean : Bool)
    → In (connect_of x client clean) (commands_of (put_in_move m)) → ConnectsAs came client
move_puts x came core outcome m all client clean i =
    let put : In (connect_of x client clean) (commands_put m) = subst (In (connect_of x client clean)) (rows_of (replica_of core).joined (commands_put m)) i in
    move_says x came core outcome m all client clean
    (passed (is_connect_of x) (move_proposal m) (connect_of x client clean)
    (subst (In (connect_of x client clean)) (same_connects x m) (passing (is_connect_of x) (commands_put m) (connect_of x client clean) put (is_its x client clean))))

-- ---- a run

pub record RunHolds (x : ConnectionName) (came : List ℕ) {core : CoreState} {outcome : StepOutcome} (run : MoveTraceOrLost core outcome) : Type 0 where
  pub holds : Each (HoldsAll x (came ++ bytes_on x run)) outcome.core.connections
  pub puts : (client : Client) (clean : Bool) → In (connect_of x client clean) (commands_of (put_in_run run)) → ConnectsAs (came ++ bytes_on x run) client

-- the name was given, or nothing came on it, and nothing comes
abbrev pub StaysKnown : ConnectionName → List ℕ → List ℕ → CoreState → Type 0
StaysKnown x came more core = IsGiven core.last_name x ⊎ ((came ≡ []) × (more ≡ []))

empty_parts : {X : Type 0} (xs ys : List X) → xs ++ ys ≡ [] → (xs ≡ []) × (ys ≡ [])
empty_parts [] ys e = (refl, e)
empty_parts (x ∷ xs) ys e = cc

pub run_holds : (x : ConnectionName) (came : List ℕ) (core : CoreState) (outcome : StepOutcome) (run : MoveTraceOrLost core outcome) → IsOrderly core → StaysKnown x came (bytes_on x run) core
    → Each (HoldsAll x came) core.connections → RunHolds x came run
run_holds x came core outcome rests o known all =
    record { holds = subst (λ l. Each (HoldsAll x l) core.connections) (sym (append-nil came)) all; puts = λ client clean i. elim i [ ] }
run_holds x came core outcome (goes_on {first = first} {next = next} m run) o known all =
    let after = move_holds x came core first m o (now known) all in
    let rest = run_holds x (came ++ came_on x m) first.core next run (losses_read_in_order core first m o).0 (later known) after in
    record {
      holds = subst (λ l. Each (HoldsAll x l) next.core.connections) (append_assoc came (came_on x m) (bytes_on x run)) rest.holds;
      puts = λ client clean i.
          by rest client clean (in_append (commands_of (put_in_move m)) (commands_of (put_in_run run)) (subst (In (connect_of x client clean)) (rows_joined (put_in_move m) (put_in_run run)) i));
    }
  where
    now : StaysKnown x came (came_on x m ++ bytes_on x run) core → IsKnown x came core
    now (inl given) = inl given
    now (inr none) = inr none.0

    later : StaysKnown x came (came_on x m ++ bytes_on x run) core → StaysKnown x (came ++ came_on x m) (bytes_on x run) first.core
    later (inl given) = inl (stays_given x core first m o given)
    later (inr none) = let parts = empty_parts (came_on x m) (bytes_on x run) none.1 in inr (ap (λ l. l ++ came_on x m) none.0 ∙ parts.0, parts.1)

    by : RunHolds x (came ++ came_on x m) run → (client : Client) (clean : Bool) → In (connect_of x client clean) (commands_of (put_in_move m)) ⊎ In (connect_of x client clean) (commands_of (put_in_run run))
        → ConnectsAs (came ++ (came_on x m ++ bytes_on x run)) client
    by rest client clean (inl i) = longer_connects came (came_on x m ++ bytes_on x run) client (move_puts x came core first m all client clean i)
    by rest client clean (inr i) = subst (λ l. ConnectsAs l client) (append_assoc came (came_on x m) (bytes_on x run)) (rest.puts client clean i)
