-- A move of a node keeps the state of a connection of the group.
use Rattle.std.proofs.Common.{◌≡◌, ◌⊎◌, inl, inr, ℕ, zero, suc, true, List, [], ◌∷◌, ◌++◌, length, take, Option, Some, None, slice_get, slice_set, refl, sym, ap, ◌∙◌, subst, ◌+◌, arith}
use Rattle.std.proofs.lemmas.List.{append-nil}
use Rattle.packet.specs.declared.packet.Packet.{Packet}
use Rattle.ballot_base.specs.declared.config.Config.{Config}
use Rattle.ballot_base.specs.declared.message.Effect.{Effect}
use Rattle.ballot_base.specs.Replica.{is_active}
use Rattle.broker_spec.specs.declared.command.Command.{Command}
use Rattle.broker_spec.specs.Commands.{usual_limits}
use Rattle.broker_spec.specs.Connection.{ConnectionName}
use Rattle.broker_spec.specs.declared.command.Output.{Output}
use Rattle.broker_base.specs.State.{State}
use Rattle.lists.specs.Lists.{IsPrefixOf}
use Rattle.lists.proofs.Prefixes.{prefix_take}
use Rattle.agreement.specs.cut_logs.Moments.{Moment, Moments, IsAgreed}
use Rattle.agreement.specs.Proposals.{commands_of as commands_in}
use Rattle.agreement.specs.cut_logs.World.{outputs}
use Rattle.agreement.proofs.of_cut_logs.MomentsAgree.{one_primary_a_ballot}
use Rattle.agreement.specs.cut_logs.AgreedLists.{IsPrimary}
use Rattle.headline.specs.node_moves.Pipe.{IsPiped}
use Rattle.exactly_once.specs.Sends.{sends_to}
use Rattle.headline.proofs.of_packet_world.Answers.{counted_in, nothing_put}
use Rattle.headline.proofs.of_packet_world.Lists.{same_or_other}
use Rattle.world_base.specs.declared.node_connections.connection.Connection.{Connection}
use Rattle.world_base.specs.node_core.Core.{CoreState, StepOutcome, rules}
use Rattle.headline.specs.node_moves.Closed.{listed_named}
use Rattle.headline.specs.node_moves.Ends.{IsEnd, IsGiven, IsOrderly, packet_commands_from, open_named, stream_of}
use Rattle.headline.specs.node_moves.Ends.IsEnd.{not_yet}
use Rattle.headline.specs.node_moves.LossyTheorems.{ReadsOn}
use Rattle.headline.specs.node_moves.LossyMoves.{NodeMoveOrLost}
use Rattle.headline.specs.node_moves.LossyParts.{came_on, move_effects, move_proposal, refusal_in}
use Rattle.headline.specs.node_moves.Puts.{outputs_of, spelled}
use Rattle.headline.proofs.of_node_moves.Kept.{live}
use Rattle.headline.proofs.of_node_moves.NamesInOrder.{not_both}
use Rattle.headline.proofs.of_node_moves.LossyClosed.{lossy_names_are_of_the_ballot}
use Rattle.headline.proofs.of_node_moves.LossyReads.{losses_read_in_order}
use Rattle.headline.proofs.of_node_moves.LossyShuts.{sent_in}
use Rattle.headline.proofs.of_node_moves.ProposesInOrder.{commands_join}
use Rattle.headline.specs.node_group.Group.{Group, group_after_outcome, moment_of_nodes, replica_of, with_record}
use Rattle.headline.specs.node_group.Steps.{with_messages}
use Rattle.headline.specs.node_group.Losses.{commands_put, put_in_move, recorded_by}
use Rattle.headline.specs.node_group.Order.{packet_commands}
use Rattle.headline.proofs.of_node_group.MovesHappen.{Once}
use Rattle.headline.proofs.of_node_group.Placed.{get_mapped, get_of_set}
use Rattle.headline.specs.node_group.Carried.{answers_to}
use Rattle.headline.proofs.of_node_group.Handed.{handed_on}
use Rattle.headline.proofs.of_node_group.Downward.{Down, down_later, down_on}
use Rattle.headline.proofs.of_node_group.Downward.Down.{shows}
use Rattle.headline.proofs.of_node_group.Elsewhere.{none_came, none_put, none_refused, packets_put}
use Rattle.headline.proofs.of_node_group.Flows.{Flows, move_flows}
use Rattle.headline.proofs.of_node_group.Flows.Flows.{away, begins}
use Rattle.headline.proofs.of_node_group.Given.{stays_given}
use Rattle.headline.proofs.of_node_group.Shown.{Sends, answers_front, gives_answers_to}
use Rattle.headline.proofs.of_node_group.States.{Held, Stands, Untouched, leads_now, listed_given, packets_more, set_back, still_to_come, unlisted_shut}

-- ---- nothing is answered to a connection of which no packet is in the list

nothing_before : {X : Type 0} (xs : List X) → IsPrefixOf xs [] → xs ≡ []
nothing_before [] p = refl
nothing_before (x ∷ xs) p = let e = p.is in cc

none_answered : (x : ConnectionName) (agreed : List Command) (k : ℕ) → packet_commands x agreed ≡ [] → answers_to x (take k agreed) ≡ []
none_answered x agreed k none =
    nothing_before (answers_to x (take k agreed))
    (subst (IsPrefixOf (answers_to x (take k agreed))) (ap spelled (nothing_put usual_limits agreed x (counted_in usual_limits x agreed ∙ ap length none)))
    (answers_front x (take k agreed) agreed (prefix_take k agreed)))

-- ---- nodes

set_other : {X : Type 0} (xs : List X) (i k : ℕ) (y : X) → (k ≡ i → ⊥) → slice_get (slice_set xs i y) k ≡ slice_get xs k
set_other [] i k y other = refl
set_other (x ∷ xs) zero zero y other = absurd (other refl)
set_other (x ∷ xs) zero (suc k) y other = refl
set_other (x ∷ xs) (suc i) zero y other = refl
set_other (x ∷ xs) (suc i) (suc k) y other = set_other xs i k y (λ e. other (ap suc e))

same_core : (a b : CoreState) → (let o : Option CoreState = Some a in o) ≡ Some b → a ≡ b
same_core a b e = cc

-- an open connection is led on: the node led when it leads after the move
abbrev pub LeadsStill : CoreState → StepOutcome → Type 0
LeadsStill core outcome = (x : ConnectionName) (c : Connection) → listed_named x core ≡ Some c → live c ≡ true → is_active (replica_of outcome.core).role ≡ true
    → is_active (replica_of core).role ≡ true

-- what is known about a move of the node at an index of a group, of which these messages are kept
pub record Known {config : Config} (g : Group) {earlier : List (Moment State Command Output)} (came : Moments rules config (moment_of_nodes g ∷ earlier)) (a : ℕ)
    {core : CoreState} {outcome : StepOutcome} (m : NodeMoveOrLost core outcome) (kept : List (Effect Command Output)) : Type 0 where
  pub at : slice_get g.nodes a ≡ Some core
  pub orderly : IsOrderly core
  pub leads : LeadsStill core outcome
  pub once : Once came (moment_of_nodes (group_after_outcome (with_record g (recorded_by g.archive m)) a (with_messages kept outcome) (move_effects m))) (put_in_move m) a (outputs (move_effects m))

-- and of one connection in it
record Here {config : Config} {g : Group} {earlier : List (Moment State Command Output)} {came : Moments rules config (moment_of_nodes g ∷ earlier)} {a : ℕ}
    {core : CoreState} {outcome : StepOutcome} {m : NodeMoveOrLost core outcome} {kept : List (Effect Command Output)} (k : Known g came a m kept) (x : ConnectionName) (put : List (ℕ × Command)) (xs ys : List Command) : Type 0 where
  grown : IsPrefixOf xs ys
  sends : Sends x (replica_of core) (replica_of outcome.core) ys (spelled (sends_to x (outputs_of (move_effects m))))
  said : IsPrefixOf (packet_commands x ys) (packet_commands x (commands_in (put ++ put_in_move m)))

abbrev After : {config : Config} {g : Group} {earlier : List (Moment State Command Output)} {came : Moments rules config (moment_of_nodes g ∷ earlier)} {a : ℕ}
    {core : CoreState} {outcome : StepOutcome} {m : NodeMoveOrLost core outcome} {kept : List (Effect Command Output)} → Known g came a m kept → ConnectionName → List Packet → List ℕ → List (ℕ × Command) → List ℕ → List Command → Type 0
After {g = g} {a = a} {outcome = outcome} {m = m} {kept = kept} k x written later put down ys =
    Stands x written later (group_after_outcome (with_record g (recorded_by g.archive m)) a (with_messages kept outcome) (move_effects m)) (moment_of_nodes (group_after_outcome (with_record g (recorded_by g.archive m)) a (with_messages kept outcome) (move_effects m)) ∷ k.once.further.before) (put ++ put_in_move m)
    (down ++ handed_on x m) ys

unrefused : (x : ConnectionName) {core : CoreState} {outcome : StepOutcome} (m : NodeMoveOrLost core outcome) → refusal_in x m ≡ [] → sent_in x m ≡ spelled (sends_to x (outputs_of (move_effects m)))
unrefused x m none = ap (λ l. spelled (l ++ sends_to x (outputs_of (move_effects m)))) none

nothing_more : (x : ConnectionName) (put : List (ℕ × Command)) {core : CoreState} {outcome : StepOutcome} (m : NodeMoveOrLost core outcome) → packet_commands x (move_proposal m) ≡ []
    → packet_commands x (commands_in (put ++ put_in_move m)) ≡ packet_commands x (commands_in put)
nothing_more x put {core = core} {outcome = outcome} m none =
    packets_more x put m ∙ ap (λ l. packet_commands x (commands_in put) ++ l) (packets_put x core outcome m ∙ none) ∙ append-nil (packet_commands x (commands_in put))

-- ---- no node had it

untouched_keeps : {config : Config} {g : Group} {earlier : List (Moment State Command Output)} {came : Moments rules config (moment_of_nodes g ∷ earlier)} {a : ℕ}
    {core : CoreState} {outcome : StepOutcome} {m : NodeMoveOrLost core outcome} {kept : List (Effect Command Output)} (k : Known g came a m kept) (x : ConnectionName) (written : List Packet) (later : List ℕ) (put : List (ℕ × Command)) (down : List ℕ)
    (xs ys : List Command) → Here k x put xs ys → Untouched x written (came_on x m ++ later) g put down → After k x written later put down ys
untouched_keeps {g = g} {earlier = earlier} {a = a} {core = core} {outcome = outcome} {m = m} {kept = kept} k x written later put down xs ys h u =
    by (listed_named x outcome.core) refl (subst (λ (o : Option Connection). Flows (handed_on x m) (sent_in x m) o (listed_named x outcome.core)) none (move_flows x core outcome m k.orderly))
  where
    none : listed_named x core ≡ None
    none = u.nowhere a core k.at

    unsaid : packet_commands x (move_proposal m) ≡ []
    unsaid = none_put x core outcome m k.orderly (unlisted_shut x core none)

    quiet : came_on x m ++ later ≡ later
    quiet = ap (λ l. l ++ later) (none_came x core outcome m k.orderly (unlisted_shut x core none))

    after : List CoreState
    after = slice_set g.nodes a outcome.core

    others : (p : Option Connection) → listed_named x outcome.core ≡ p → (n : ℕ) (other : CoreState) → slice_get after n ≡ Some other → ((n ≡ a) × (listed_named x other ≡ p)) ⊎ (listed_named x other ≡ None)
    others p there n other e = on (set_back g.nodes a n outcome.core other e)
      where
        on : ((n ≡ a) × (other ≡ outcome.core)) ⊎ (slice_get g.nodes n ≡ Some other) → ((n ≡ a) × (listed_named x other ≡ p)) ⊎ (listed_named x other ≡ None)
        on (inl (same, is)) = inl (same, ap (listed_named x) is ∙ there)
        on (inr f) = inr (u.nowhere n other f)

    still_nowhere : listed_named x outcome.core ≡ None → (n : ℕ) (other : CoreState) → slice_get after n ≡ Some other → listed_named x other ≡ None
    still_nowhere there n other e = on (others None there n other e)
      where
        on : ((n ≡ a) × (listed_named x other ≡ None)) ⊎ (listed_named x other ≡ None) → listed_named x other ≡ None
        on (inl (same, f)) = f
        on (inr f) = f

    elsewhere : (d : Connection) → listed_named x outcome.core ≡ Some d → (n : ℕ) (other : CoreState) → slice_get after n ≡ Some other → (n ≡ a → ⊥) → listed_named x other ≡ None
    elsewhere d there n other e apart = on (others (Some d) there n other e)
      where
        on : ((n ≡ a) × (listed_named x other ≡ Some d)) ⊎ (listed_named x other ≡ None) → listed_named x other ≡ None
        on (inl (same, f)) = absurd (apart same)
        on (inr f) = f

    silent : packet_commands x (commands_in (put ++ put_in_move m)) ≡ []
    silent = nothing_more x put m unsaid ∙ u.unsaid

    opened : (d : Connection) → listed_named x outcome.core ≡ Some d → handed_on x m ≡ [] → live d ≡ true → d.pending ≡ [] → After k x written later put down ys
    opened d there no_bytes lives empty =
        let next = lossy_names_are_of_the_ballot core outcome m k.orderly x d none there in
        let led = leads_now g a core x earlier k.at next in
        let read = losses_read_in_order core outcome m k.orderly in
        let r = read.1 x written [] (came_on x m ++ later) later (not_yet (still_to_come core x k.orderly next) refl u.piped) refl in
        inr (record {
          n = a;
          core = outcome.core;
          stands = get_of_set g.nodes a core outcome.core k.at;
          led = record { moment = led.moment; among = k.once.further.kept led.moment led.among; primary = led.primary };
          given = listed_given x outcome.core d read.0 there;
          read = r.more;
          end = r.end;
          said = packets_more x put m ∙ ap (λ l. l ++ packet_commands x (commands_put m)) u.unsaid ∙ packets_put x core outcome m ∙ r.proposed;
          others = elsewhere d there;
          sent = subst (Down x (replica_of outcome.core) (down ++ handed_on x m) ys) (sym there)
              (shows (replica_of outcome.core).committed lives h.sends.inside (rw (u.queued, no_bytes, empty) (sym
              (none_answered x ys (replica_of outcome.core).committed (nothing_before (packet_commands x ys) (subst (IsPrefixOf (packet_commands x ys)) silent h.said))))) (λ e. refl));
        })

    by : (p : Option Connection) → listed_named x outcome.core ≡ p → Flows (handed_on x m) (sent_in x m) None p → After k x written later put down ys
    by None there (away e) =
        inl (record {
          nowhere = still_nowhere there;
          unsaid = silent;
          piped = subst (λ (l : List ℕ). IsPiped written [] (stream_of []) l) quiet u.piped;
          queued = ap (λ l. l ++ handed_on x m) u.queued ∙ e;
        })
    by (Some d) there (begins e lives empty) = opened d there e lives empty

-- ---- the node that has it

held_here : {config : Config} {g : Group} {earlier : List (Moment State Command Output)} {came : Moments rules config (moment_of_nodes g ∷ earlier)} {a : ℕ}
    {core : CoreState} {outcome : StepOutcome} {m : NodeMoveOrLost core outcome} {kept : List (Effect Command Output)} (k : Known g came a m kept) (x : ConnectionName) (written : List Packet) (later : List ℕ) (put : List (ℕ × Command)) (down : List ℕ)
    (xs ys : List Command) → Here k x put xs ys → (held : Held x written (came_on x m ++ later) g (moment_of_nodes g ∷ earlier) put down xs) → held.n ≡ a → held.core ≡ core
    → After k x written later put down ys
held_here {g = g} {earlier = earlier} {a = a} {core = core} {outcome = outcome} {m = m} {kept = kept} k x written later put down xs ys h held here_so same =
    inr (record {
      n = a;
      core = outcome.core;
      stands = get_of_set g.nodes a core outcome.core k.at;
      led = record { moment = held.led.moment; among = k.once.further.kept held.led.moment held.led.among; primary = subst (λ n. IsPrimary held.led.moment.world n x.ballot) here_so held.led.primary };
      given = stays_given x core outcome m k.orderly given;
      read = held.read ++ r.more;
      end = r.end;
      said = packets_more x put m ∙ ap (λ l. l ++ packet_commands x (commands_put m)) held.said
          ∙ ap (λ l. packet_commands_from x 0 held.read ++ l) (packets_put x core outcome m ∙ r.proposed ∙ ap (λ n. packet_commands_from x n r.more) (from_none (length held.read)))
          ∙ sym (commands_join x 0 held.read r.more);
      others = elsewhere;
      sent = down_on (replica_of core) (replica_of outcome.core) xs ys down h.grown h.sends (k.leads x) stays_away
          (subst (λ l. Flows (handed_on x m) l (listed_named x core) (listed_named x outcome.core)) (unrefused x m (none_refused x core outcome m written held.read _ k.orderly end))
          (move_flows x core outcome m k.orderly))
          (subst (λ (c : CoreState). Down x (replica_of c) down xs (listed_named x c)) same held.sent);
    })
  where
    given : IsGiven core.last_name x
    given = subst (λ (c : CoreState). IsGiven c.last_name x) same held.given

    end : IsEnd x core written held.read (came_on x m ++ later)
    end = subst (λ (c : CoreState). IsEnd x c written held.read (came_on x m ++ later)) same held.end

    r : ReadsOn x m written held.read later
    r = (losses_read_in_order core outcome m k.orderly).1 x written held.read (came_on x m ++ later) later end refl

    from_none : (n : ℕ) → n ≡ 0 + n
    from_none n = omega arith

    stays_away : listed_named x core ≡ None → listed_named x outcome.core ≡ None
    stays_away none = by (listed_named x outcome.core) refl
      where
        by : (p : Option Connection) → listed_named x outcome.core ≡ p → p ≡ None
        by None there = refl
        by (Some d) there =
            absurd (not_both core.last_name x (still_to_come core x k.orderly (lossy_names_are_of_the_ballot core outcome m k.orderly x d none there)) given)

    elsewhere : (n : ℕ) (other : CoreState) → slice_get (slice_set g.nodes a outcome.core) n ≡ Some other → (n ≡ a → ⊥) → listed_named x other ≡ None
    elsewhere n other e apart = on (set_back g.nodes a n outcome.core other e)
      where
        on : ((n ≡ a) × (other ≡ outcome.core)) ⊎ (slice_get g.nodes n ≡ Some other) → listed_named x other ≡ None
        on (inl (is, f)) = absurd (apart is)
        on (inr f) = held.others n other f (λ e. apart (e ∙ here_so))

-- ---- another node has it

held_there : {config : Config} {g : Group} {earlier : List (Moment State Command Output)} {came : Moments rules config (moment_of_nodes g ∷ earlier)} {a : ℕ}
    {core : CoreState} {outcome : StepOutcome} {m : NodeMoveOrLost core outcome} {kept : List (Effect Command Output)} (k : Known g came a m kept) (x : ConnectionName) (written : List Packet) (later : List ℕ) (put : List (ℕ × Command)) (down : List ℕ)
    (xs ys : List Command) → Here k x put xs ys → (held : Held x written (came_on x m ++ later) g (moment_of_nodes g ∷ earlier) put down xs) → (a ≡ held.n → ⊥)
    → After k x written later put down ys
held_there {config = config} {g = g} {earlier = earlier} {came = came} {a = a} {core = core} {outcome = outcome} {m = m} {kept = kept} k x written later put down xs ys h held apart =
    by (listed_named x outcome.core) refl (subst (λ (o : Option Connection). Flows (handed_on x m) (sent_in x m) o (listed_named x outcome.core)) none (move_flows x core outcome m k.orderly))
  where
    none : listed_named x core ≡ None
    none = held.others a core k.at apart

    shut : open_named x core ≡ None
    shut = unlisted_shut x core none

    quiet : came_on x m ++ later ≡ later
    quiet = ap (λ l. l ++ later) (none_came x core outcome m k.orderly shut)

    others : listed_named x outcome.core ≡ None → (n : ℕ) (other : CoreState) → slice_get (slice_set g.nodes a outcome.core) n ≡ Some other → (n ≡ held.n → ⊥) → listed_named x other ≡ None
    others there n other e other_so = on (set_back g.nodes a n outcome.core other e)
      where
        on : ((n ≡ a) × (other ≡ outcome.core)) ⊎ (slice_get g.nodes n ≡ Some other) → listed_named x other ≡ None
        on (inl (is, f)) = ap (listed_named x) f ∙ there
        on (inr f) = held.others n other f other_so

    by : (p : Option Connection) → listed_named x outcome.core ≡ p → Flows (handed_on x m) (sent_in x m) None p → After k x written later put down ys
    by None there (away e) =
        inr (record {
          n = held.n;
          core = held.core;
          stands = set_other g.nodes a held.n outcome.core (λ f. apart (sym f)) ∙ held.stands;
          led = record { moment = held.led.moment; among = k.once.further.kept held.led.moment held.led.among; primary = held.led.primary };
          given = held.given;
          read = held.read;
          end = subst (IsEnd x held.core written held.read) quiet held.end;
          said = nothing_more x put m (none_put x core outcome m k.orderly shut) ∙ held.said;
          others = others there;
          sent = subst (λ (l : List ℕ). Down x (replica_of held.core) l ys (listed_named x held.core)) (sym (ap (λ l. down ++ l) e ∙ append-nil down)) (down_later xs ys h.grown held.sent);
        })
    by (Some d) there f =
        let now = leads_now g a core x earlier k.at (lossy_names_are_of_the_ballot core outcome m k.orderly x d none there) in
        absurd (apart (one_primary_a_ballot rules config (moment_of_nodes g) earlier came now.moment held.led.moment a held.n x.ballot now.among held.led.among now.primary held.led.primary))

-- ---- the move

pub move_keeps : {config : Config} {g : Group} {earlier : List (Moment State Command Output)} {came : Moments rules config (moment_of_nodes g ∷ earlier)} {a : ℕ}
    {core : CoreState} {outcome : StepOutcome} {m : NodeMoveOrLost core outcome} {kept : List (Effect Command Output)} (k : Known g came a m kept) (x : ConnectionName) (written : List Packet) (later : List ℕ) (put : List (ℕ × Command)) (down : List ℕ)
    (xs ys : List Command) → IsAgreed config (moment_of_nodes g ∷ earlier) xs → IsAgreed config (moment_of_nodes (group_after_outcome (with_record g (recorded_by g.archive m)) a (with_messages kept outcome) (move_effects m)) ∷ k.once.further.before) ys
    → IsPrefixOf (packet_commands x ys) (packet_commands x (commands_in (put ++ put_in_move m)))
    → Stands x written (came_on x m ++ later) g (moment_of_nodes g ∷ earlier) put down xs
    → Stands x written later (group_after_outcome (with_record g (recorded_by g.archive m)) a (with_messages kept outcome) (move_effects m)) (moment_of_nodes (group_after_outcome (with_record g (recorded_by g.archive m)) a (with_messages kept outcome) (move_effects m)) ∷ k.once.further.before) (put ++ put_in_move m) (down ++ handed_on x m) ys
move_keeps {config = config} {g = g} {earlier = earlier} {came = came} {a = a} {core = core} {outcome = outcome} {m = m} {kept = kept} k x written later put down xs ys before after said stands = by stands
  where
    h : Here k x put xs ys
    h = record {
      grown = k.once.further.grows xs ys before after;
      sends = gives_answers_to x g.archive (recorded_by g.archive m) (replica_of core) (replica_of outcome.core) ys (move_effects m)
          (k.once.gives ys after (replica_of core) (replica_of outcome.core) (get_mapped replica_of g.nodes a core k.at)
          (get_mapped replica_of (slice_set g.nodes a outcome.core) a outcome.core (get_of_set g.nodes a core outcome.core k.at)));
      said = said;
    }

    on : (held : Held x written (came_on x m ++ later) g (moment_of_nodes g ∷ earlier) put down xs) → (held.n ≡ a) ⊎ (held.n ≡ a → ⊥) → After k x written later put down ys
    on held (inl same) = held_here k x written later put down xs ys h held same (same_core held.core core (sym held.stands ∙ ap (slice_get g.nodes) same ∙ k.at))
    on held (inr apart) = held_there k x written later put down xs ys h held (λ e. apart (sym e))

    by : Stands x written (came_on x m ++ later) g (moment_of_nodes g ∷ earlier) put down xs → After k x written later put down ys
    by (inl u) = untouched_keeps k x written later put down xs ys h u
    by (inr held) = on held (same_or_other held.n a)
