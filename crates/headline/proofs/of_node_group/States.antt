-- The state of one connection of a group, and what a move of one of its nodes does to it.
use Rattle.std.proofs.Common.{◌≡◌, ◌⊎◌, inl, inr, ℕ, zero, suc, Bool, true, false, List, [], ◌∷◌, ◌++◌, map, Some, None, slice_get, slice_set, ◌&&◌, if◌then◌else◌, refl, sym, ap, ◌∙◌, subst}
use Rattle.std.specs.List.{find}
use Rattle.std.proofs.lemmas.List.Elements.{filter-append}
use Rattle.packet.specs.declared.packet.Packet.{Packet}
use Rattle.ballot_base.specs.Replica.{is_active}
use Rattle.broker_spec.specs.declared.command.Command.{Command}
use Rattle.broker_spec.specs.Connection.{ConnectionName}
use Rattle.broker_spec.specs.declared.command.Output.{Output}
use Rattle.broker_base.specs.State.{State}
use Rattle.broker_spec.proofs.ConnectionNames.{same_name}
use Rattle.lists.specs.Lists.{In}
use Rattle.lists.specs.Lists.In.{here}
use Rattle.headline.specs.node_moves.Pipe.{IsPiped}
use Rattle.exactly_once.specs.StoryCommands.{is_packet_of}
use Rattle.agreement.specs.cut_logs.Moments.{Moment}
use Rattle.agreement.specs.cut_logs.AgreedLists.{IsPrimary}
use Rattle.agreement.specs.cut_logs.Whole.{whole}
use Rattle.agreement.proofs.of_cut_logs.Views.{get_whole}
use Rattle.agreement.specs.Proposals.{commands_of as commands_in}
use Rattle.world_base.specs.declared.node_connections.connection.Connection.{Connection}
use Rattle.world_base.specs.node_core.Core.{CoreState, StepOutcome}
use Rattle.world_base.specs.node_core.Step.{next_name}
use Rattle.headline.specs.node_moves.Closed.{listed_named}
use Rattle.headline.specs.node_moves.Ends.{IsEnd, IsGiven, IsOrderly, Precedes, packet_commands_from, open_named, stream_of}
use Rattle.headline.specs.node_moves.LossyMoves.{NodeMoveOrLost}
use Rattle.headline.specs.node_moves.Names.{IsNextName}
use Rattle.headline.proofs.of_node_moves.Kept.{left_true, live, named}
use Rattle.headline.proofs.of_node_moves.NamesInOrder.{next_precedes}
use Rattle.headline.proofs.of_node_moves.Views.{and_no, found_each, found_passes, some_none}
use Rattle.headline.specs.node_group.Group.{Group, moment_of_nodes, replica_of}
use Rattle.headline.specs.node_group.Losses.{commands_put, put_in_move}
use Rattle.headline.specs.node_group.Order.{packet_commands}
use Rattle.headline.proofs.of_node_group.Placed.{get_mapped}
use Rattle.headline.proofs.of_node_group.Downward.{Down}

-- a node was the active primary of a ballot
pub record Led (moments : List (Moment State Command Output)) (n ballot : ℕ) : Type 0 where
  pub moment : Moment State Command Output
  pub among : In moment moments
  pub primary : IsPrimary moment.world n ballot

-- no node has the connection, and none had it
pub record Untouched (x : ConnectionName) (written : List Packet) (later : List ℕ) (g : Group) (put : List (ℕ × Command)) (down : List ℕ) : Type 0 where
  pub nowhere : (n : ℕ) (core : CoreState) → slice_get g.nodes n ≡ Some core → listed_named x core ≡ None
  pub unsaid : packet_commands x (commands_in put) ≡ []
  pub piped : IsPiped written [] (stream_of []) later
  pub queued : down ≡ []

-- one node has it, or had it
pub record Held (x : ConnectionName) (written : List Packet) (later : List ℕ) (g : Group) (moments : List (Moment State Command Output)) (put : List (ℕ × Command))
    (down : List ℕ) (agreed : List Command) : Type 0 where
  pub n : ℕ
  pub core : CoreState
  pub stands : slice_get g.nodes n ≡ Some core
  pub led : Led moments n x.ballot
  pub given : IsGiven core.last_name x
  pub read : List Packet
  pub end : IsEnd x core written read later
  pub said : packet_commands x (commands_in put) ≡ packet_commands_from x 0 read
  pub others : (m : ℕ) (other : CoreState) → slice_get g.nodes m ≡ Some other → (m ≡ n → ⊥) → listed_named x other ≡ None
  pub sent : Down x (replica_of core) down agreed (listed_named x core)

abbrev pub Stands : ConnectionName → List Packet → List ℕ → Group → List (Moment State Command Output) → List (ℕ × Command) → List ℕ → List Command → Type 0
Stands x written later g moments put down agreed = Untouched x written later g put down ⊎ Held x written later g moments put down agreed

-- ---- lists

pub set_back : {X : Type 0} (xs : List X) (i k : ℕ) (y z : X) → slice_get (slice_set xs i y) k ≡ Some z → ((k ≡ i) × (z ≡ y)) ⊎ (slice_get xs k ≡ Some z)
set_back [] i k y z e = inr e
set_back (x ∷ xs) zero zero y z e = let same : z ≡ y = cc in inl (refl, same)
set_back (x ∷ xs) zero (suc k) y z e = inr e
set_back (x ∷ xs) (suc i) zero y z e = inr e
set_back {X = X} (x ∷ xs) (suc i) (suc k) y z e = up (set_back xs i k y z e)
  where
    up : ((k ≡ i) × (z ≡ y)) ⊎ (slice_get xs k ≡ Some z) → ((suc k ≡ suc i) × (z ≡ y)) ⊎ (slice_get xs k ≡ Some z)
    up (inl (same, is)) = inl (ap suc same, is)
    up (inr f) = inr f

rows_joined : (rows more : List (ℕ × Command)) → commands_in (rows ++ more) ≡ commands_in rows ++ commands_in more
rows_joined [] more = refl
rows_joined (row ∷ rows) more = ap (λ l. row.1 ∷ l) (rows_joined rows more)

rows_of : (ballot : ℕ) (commands : List Command) → commands_in (map (λ command. (ballot, command)) commands) ≡ commands
rows_of ballot [] = refl
rows_of ballot (command ∷ commands) = ap (λ l. command ∷ l) (rows_of ballot commands)

-- the packets after a move are those before and those of the move
pub packets_more : (x : ConnectionName) (put : List (ℕ × Command)) {core : CoreState} {outcome : StepOutcome} (m : NodeMoveOrLost core outcome)
    → packet_commands x (commands_in (put ++ put_in_move m)) ≡ packet_commands x (commands_in put) ++ packet_commands x (commands_put m)
packets_more x put {core = core} m =
    ap (packet_commands x) (rows_joined put (put_in_move m) ∙ ap (λ l. commands_in put ++ l) (rows_of (replica_of core).joined (commands_put m)))
    ∙ filter-append (λ (command : Command). is_packet_of command x) (commands_in put) (commands_put m)

-- ---- a name that is new

pub next_is : (core : CoreState) (x : ConnectionName) → IsNextName core x → x ≡ next_name core
next_is core x next = two x (next_name core) next.ballot next.count
  where
    two : (y z : ConnectionName) → y.ballot ≡ z.ballot → y.count ≡ z.count → y ≡ z
    two y z e f = rw (e, f) refl

-- it was not given before
pub still_to_come : (core : CoreState) (x : ConnectionName) → IsOrderly core → IsNextName core x → Precedes core.last_name x
still_to_come core x o next = subst (Precedes core.last_name) (sym (next_is core x next)) (next_precedes core o.within)

-- the node leads its ballot
pub leads_now : (g : Group) (n : ℕ) (core : CoreState) (x : ConnectionName) (earlier : List (Moment State Command Output)) → slice_get g.nodes n ≡ Some core → IsNextName core x
    → Led (moment_of_nodes g ∷ earlier) n x.ballot
leads_now g n core x earlier at next =
    record {
      moment = moment_of_nodes g;
      among = here;
      primary = record {
        replica = whole g.archive (replica_of core);
        stands = get_whole (whole g.archive) (moment_of_nodes g).world.nodes n (replica_of core) (get_mapped replica_of g.nodes n core at);
        active = left_true (is_active (replica_of core).role) _ next.leads;
        joined = sym next.ballot;
      };
    }

-- who is not listed is not open
pub unlisted_shut : (x : ConnectionName) (core : CoreState) → listed_named x core ≡ None → open_named x core ≡ None
unlisted_shut x core none = by core.connections none
  where
    by : (cs : List Connection) → find (named x) cs ≡ None → find (λ (c : Connection). live c && named x c) cs ≡ None
    by [] e = refl
    by (c ∷ cs) e = on (named x c) refl e (by cs)
      where
        on : (b : Bool) → named x c ≡ b → (if b then Some c else find (named x) cs) ≡ None → (find (named x) cs ≡ None → find (λ (d : Connection). live d && named x d) cs ≡ None)
            → (if live c && named x c then Some c else find (λ (d : Connection). live d && named x d) cs) ≡ None
        on true is f ih = absurd (some_none c f)
        on false other f ih = rw (and_no (live c) (named x c) other) (ih f)

-- a listed connection has a name that was given
pub listed_given : (x : ConnectionName) (core : CoreState) (d : Connection) → IsOrderly core → listed_named x core ≡ Some d → IsGiven core.last_name x
listed_given x core d o there =
    subst (IsGiven core.last_name) (same_name d.name x (found_passes (named x) core.connections d there))
    (found_each (λ (c : Connection). IsGiven core.last_name c.name) (named x) core.connections d o.given there)
