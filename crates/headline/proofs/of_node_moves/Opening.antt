-- A connection that is opened gets a name that the node never gave, and reads from its beginning.
use Rattle.std.proofs.Common.{◌≡◌, ◌⊎◌, inl, inr, ◌≤◌, ℕ, Bool, true, false, not, ◌&&◌, if◌then◌else◌, List, [], ◌∷◌, ◌++◌, Some, refl, sym, ap, ◌∙◌, subst}
use Rattle.std.specs.List.{list_any}
use Rattle.std.proofs.lemmas.Bool.{cases_Bool}
use Rattle.packet.specs.declared.packet.Packet.{Packet}
use Rattle.broker_spec.specs.Connection.{ConnectionName, same_connection, is_connection_name}
use Rattle.broker_spec.proofs.ConnectionNames.{same_name, same_itself}
use Rattle.lists.specs.Lists.{Each}
use Rattle.lists.proofs.OfEach.{each_then, each_append}
use Rattle.headline.specs.node_moves.Pipe.{IsPiped}
use Rattle.world_base.specs.declared.node_connections.port.Port.{Port}
use Rattle.world_base.specs.declared.node_connections.connection.Connection.{Connection}
use Rattle.world_base.specs.node_connections.Connections.{is_at, fresh}
use Rattle.world_base.specs.node_core.Core.{CoreState, serves}
use Rattle.world_base.specs.node_core.Step.{with_next_connection, next_name}
use Rattle.headline.specs.node_moves.Ends.{AtMostOne, IsGiven, Precedes, IsOrderly, IsEnd, open_named, stream_of, is_nothing}
use Rattle.headline.specs.node_moves.Ends.IsEnd.{not_yet, is_open, is_over}
use Rattle.headline.proofs.of_node_moves.NamesInOrder.{same_le, cases_name, not_both, last_given, given_later, not_named, next_precedes}
use Rattle.headline.proofs.of_node_moves.Views.{view, some_none, none_in_view, view_other, view_new, one_more}
use Rattle.headline.proofs.of_node_moves.Kept.{live, named}

record IsOpened (port : Port) (core later : CoreState) : Type 0 where
  are : later.connections ≡ core.connections ++ fresh port (next_name core) ∷ []
  last : later.last_name ≡ next_name core
  joined : later.replica.state.joined ≡ core.replica.state.joined

-- a name that is still to come is that of no connection
none_named : (x : ConnectionName) (core : CoreState) → IsOrderly core → Precedes core.last_name x → Each (λ c. named x c ≡ false) core.connections
none_named x core o below =
    each_then (λ (c : Connection). IsGiven core.last_name c.name) (λ c. named x c ≡ false) core.connections
    (λ c given. not_named core.last_name x c.name below given) o.given

opened_orderly : (port : Port) (core later : CoreState) → IsOrderly core → IsOpened port core later → IsOrderly later
opened_orderly port core later o h =
    record {
      names = λ x. subst (AtMostOne (named x)) (sym h.are) (one_more (named x) core.connections new (λ e. alone x (same_name (next_name core) x e)) (o.names x));
      given = subst (λ (l : List Connection). Each (λ (c : Connection). IsGiven later.last_name c.name) l) (sym h.are)
          (subst (λ (y : ConnectionName). Each (λ (c : Connection). IsGiven y c.name) (core.connections ++ new ∷ [])) (sym h.last)
          (each_append (λ (c : Connection). IsGiven (next_name core) c.name) core.connections (new ∷ [])
          (each_then (λ (c : Connection). IsGiven core.last_name c.name) (λ (c : Connection). IsGiven (next_name core) c.name) core.connections
          (λ c given. given_later core.last_name (next_name core) c.name next given) o.given)
          (last_given (next_name core), tt)));
      within = subst (λ (y : ConnectionName). y.ballot ≤ later.replica.state.joined) (sym h.last)
          (subst (λ (n : ℕ). core.replica.state.joined ≤ n) (sym h.joined) (same_le core.replica.state.joined));
    }
  where
    new : Connection
    new = fresh port (next_name core)

    next : Precedes core.last_name (next_name core)
    next = next_precedes core o.within

    alone : (x : ConnectionName) → next_name core ≡ x → Each (λ c. named x c ≡ false) core.connections
    alone x same = subst (λ (y : ConnectionName). Each (λ c. named y c ≡ false) core.connections) same (none_named (next_name core) core o next)

opened_end : (x : ConnectionName) (port : Port) (core later : CoreState) (written read : List Packet) (in_transit : List ℕ) → IsOrderly core → IsOpened port core later
    → IsEnd x core written read in_transit → IsEnd x later written read in_transit
opened_end x port core later written read in_transit o h end = by end (cases_Bool (same_connection (next_name core) x))
  where
    new : Connection
    new = fresh port (next_name core)

    next : Precedes core.last_name (next_name core)
    next = next_precedes core o.within

    there_now : (next_name core ≡ x) → open_named x later ≡ Some new
    there_now same =
        ap (view live (named x)) h.are
        ∙ view_new live (named x) core.connections new
        (subst (λ (y : ConnectionName). Each (λ c. named y c ≡ false) core.connections) same (none_named (next_name core) core o next)) refl
        (subst (λ (y : ConnectionName). same_connection (next_name core) y ≡ true) same (same_itself (next_name core)))

    as_before : same_connection (next_name core) x ≡ false → open_named x later ≡ open_named x core
    as_before other = ap (view live (named x)) h.are ∙ view_other live (named x) core.connections new other

    given_now : IsGiven core.last_name x → IsGiven later.last_name x
    given_now given = subst (λ (y : ConnectionName). IsGiven y x) (sym h.last) (given_later core.last_name (next_name core) x next given)

    -- the new name was not given before
    was_given : same_connection (next_name core) x ≡ true → IsGiven core.last_name x → ⊥
    was_given e given = not_both core.last_name x (subst (Precedes core.last_name) (same_name (next_name core) x e) next) given

    by : IsEnd x core written read in_transit → (same_connection (next_name core) x ≡ true) ⊎ (same_connection (next_name core) x ≡ false)
        → IsEnd x later written read in_transit
    by (not_yet below none piped) (inl e) =
        let same = same_name (next_name core) x e in
        is_open new (subst (λ (y : ConnectionName). IsGiven y x) (sym (h.last ∙ same)) (last_given x)) (there_now same) (sym (ap is_nothing none))
        (subst (λ (ps : List Packet). IsPiped written ps (stream_of []) in_transit) (sym none) piped)
    by (is_open c given is first piped) (inl e) = absurd (was_given e given)
    by (is_over given is front) (inl e) = absurd (was_given e given)
    by (not_yet below none piped) (inr other) = come_or_given (cases_name later.last_name x)
      where
        come_or_given : Precedes later.last_name x ⊎ IsGiven later.last_name x → IsEnd x later written read in_transit
        come_or_given (inl still_below) = not_yet still_below none piped
        come_or_given (inr given) =
            is_over given (as_before other ∙ none_in_view live (named x) core.connections (none_named x core o below))
            (record { rest = written; is = ap (λ (ps : List Packet). ps ++ written) (sym none) })
    by (is_open c given is first piped) (inr other) = is_open c (given_now given) (as_before other ∙ is) first piped
    by (is_over given is front) (inr other) = is_over (given_now given) (as_before other ∙ is) front

-- what holds after an opening, whether it was refused or not
pub record OpensWell (core later : CoreState) : Type 0 where
  pub orderly : IsOrderly later
  pub end : (x : ConnectionName) (written read : List Packet) (in_transit : List ℕ) → IsEnd x core written read in_transit → IsEnd x later written read in_transit

pub opens_well : (port : Port) (core : CoreState) → IsOrderly core → OpensWell core (with_next_connection port core)
unfolding with_next_connection
opens_well port core o = by ((serves core && not (list_any (is_at port) core.connections)) && is_connection_name (next_name core))
  where
    opened : CoreState
    opened = record core { last_name = next_name core; connections = core.connections ++ fresh port (next_name core) ∷ [] }

    by : (b : Bool) → OpensWell core (if b then opened else core)
    by true =
        let h : IsOpened port core opened = record { are = refl; last = refl; joined = refl } in
        record { orderly = opened_orderly port core opened o h; end = λ x written read in_transit end. opened_end x port core opened written read in_transit o h end }
    by false = record { orderly = o; end = λ x written read in_transit end. end }

-- an open connection stays as it is if another is opened
pub open_stays : (x : ConnectionName) (port : Port) (core : CoreState) (c : Connection) → IsOrderly core → open_named x core ≡ Some c
    → open_named x (with_next_connection port core) ≡ Some c
unfolding with_next_connection
open_stays x port core c o there = by ((serves core && not (list_any (is_at port) core.connections)) && is_connection_name (next_name core))
  where
    opened : CoreState
    opened = record core { last_name = next_name core; connections = core.connections ++ fresh port (next_name core) ∷ [] }

    other : same_connection (next_name core) x ≡ false
    other = on (cases_Bool (same_connection (next_name core) x))
      where
        on : (same_connection (next_name core) x ≡ true) ⊎ (same_connection (next_name core) x ≡ false) → same_connection (next_name core) x ≡ false
        on (inl e) =
            let below : Precedes core.last_name x = subst (Precedes core.last_name) (same_name (next_name core) x e) (next_precedes core o.within) in
            absurd (some_none c (sym there ∙ none_in_view live (named x) core.connections (none_named x core o below)))
        on (inr e) = e

    by : (b : Bool) → open_named x (if b then opened else core) ≡ Some c
    by true = view_other live (named x) core.connections (fresh port (next_name core)) other ∙ there
    by false = there
