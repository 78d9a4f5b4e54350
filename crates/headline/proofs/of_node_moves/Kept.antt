-- What moves that read nothing leave of a connection: it stays as it is, except what is queued on
-- it, or is closed.
use Rattle.std.proofs.Common.{◌≡◌, ◌⊎◌, inl, inr, ◌≤◌, ℕ, Bool, true, false, not, ◌&&◌, ◌||◌, ◌==◌, ◌+◌, nat_le, length, if◌then◌else◌, List, [], ◌∷◌, Option, Some, None, refl, sym, ap, ◌∙◌, subst, filter, map, arith}
use Rattle.std.specs.List.{find, fold}
use Rattle.packet.specs.Spelling.{spelling}
use Rattle.ballot_base.specs.declared.message.Effect.{Effect}
use Rattle.ballot_base.specs.declared.message.Effect.TheVariants.{To, Out}
use Rattle.ballot_base.specs.Protocol.{Input, replica_step}
use Rattle.ballot_base.specs.StepOutcome.{Outcome, nothing_done}
use Rattle.ballot_base.specs.Service.{proposed}
use Rattle.broker_base.specs.State.{State}
use Rattle.broker_spec.specs.declared.command.Command.{Command}
use Rattle.broker_spec.specs.declared.command.Output.{Output}
use Rattle.broker_spec.specs.declared.command.Output.TheVariants as outputs
use Rattle.broker_spec.specs.Connection.{ConnectionName, same_connection}
use Rattle.lists.specs.Lists.{Each}
use Rattle.world_base.specs.declared.node_connections.port.Port.{Port}
use Rattle.world_base.specs.declared.node_connections.connection.Connection.{Connection}
use Rattle.world_base.specs.declared.node_connections.connection.ConnectionStage.{ConnectionStage}
use Rattle.world_base.specs.declared.node_connections.connection.ConnectionStage.TheVariants.{Awaits, Proposed, Closed, Failed}
use Rattle.world_base.specs.node_connections.Connections.{is_closed, is_proposed, is_failed, has_failed, is_at, is_open_at, is_open_named, is_listed}
use Rattle.world_base.specs.node_connections.ConnectionChanges.{max_pending, closed_connection, failing, with_queued, putting, nothing_pending, changed_where}
use Rattle.world_base.specs.node_core.Core.{CoreState, StepOutcome, rules, serves}
use Rattle.world_base.specs.node_core.FailedConnections.{closes_failed}
use Rattle.world_base.specs.node_core.PortOutput.{hands_over, left_by, listed_at}
use Rattle.world_base.specs.node_core.PacketInput.{changes}
use Rattle.world_base.specs.node_core.Step.{settled, crashed, with_cut}
use Rattle.world_base.specs.node_core.Effects.{without_messages, after_replica_step, with_effect, proposes, drives, outcome_of_input, changes_named}
use Rattle.headline.specs.node_moves.Ends.{AtMostOne, IsGiven, IsOrderly, open_named}
use Rattle.headline.proofs.of_node_moves.JoinedGrows.{Up, up_if, up_nothing, up_proposed, joined_grows}
use Rattle.headline.proofs.of_node_moves.NamesInOrder.{same_le}
use Rattle.headline.proofs.of_node_moves.Views.{view, if_live, found_passes, none_changes, view_of_others, view_of_changed, one_changed, each_kept, each_filtered, one_filtered, view_filtered, each_mapped, one_mapped}

abbrev pub live : Connection → Bool
live c = not (is_closed c.stage)

abbrev pub named : ConnectionName → Connection → Bool
named x c = same_connection c.name x

pub data Kept : Option Connection → Option Connection → Type 0 where
  never : Kept None None
  still : {c d : Connection} → d.stage ≡ c.stage → d.unread ≡ c.unread → Kept (Some c) (Some d)
  ended : {c : Connection} → Kept (Some c) None

pub kept_same : (o : Option Connection) → Kept o o
kept_same None = never
kept_same (Some c) = still refl refl

kept_joined : {o p q : Option Connection} → Kept o p → Kept p q → Kept o q
kept_joined never q = q
kept_joined (still a b) (still c d) = still (c ∙ a) (d ∙ b)
kept_joined (still a b) ended = ended
kept_joined ended never = ended

kept_gone : (o : Option Connection) → Kept o None
kept_gone None = never
kept_gone (Some c) = ended

-- a change that leaves the name, and what is read of it, or closes it
pub record IsMild (f : Connection → Connection) : Type 0 where
  pub name : (c : Connection) → (f c).name ≡ c.name
  pub stage : (c : Connection) → (((f c).stage ≡ c.stage) × ((f c).unread ≡ c.unread)) ⊎ (is_closed (f c).stage ≡ true)

pub named_kept : (x : ConnectionName) (f : Connection → Connection) → ((c : Connection) → (f c).name ≡ c.name) → (d : Connection) → named x (f d) ≡ named x d
named_kept x f name d = ap (λ (y : ConnectionName). same_connection y x) (name d)

mild_kept : (f : Connection → Connection) (c : Connection) → live c ≡ true → (((f c).stage ≡ c.stage) × ((f c).unread ≡ c.unread)) ⊎ (is_closed (f c).stage ≡ true)
    → Kept (Some c) (if_live live (f c))
mild_kept f c lives (inl (s, u)) = let e : live (f c) ≡ true = ap (λ (z : ConnectionStage). not (is_closed z)) s ∙ lives in rw e (still s u)
mild_kept f c lives (inr over) = let e : live (f c) ≡ false = ap not over in rw e ended

pub kept_changed : (x : ConnectionName) (test : Connection → Bool) (f : Connection → Connection) (cs : List Connection) → AtMostOne (named x) cs
    → ((d : Connection) → test d ≡ true → live d ≡ true) → IsMild f → Kept (view live (named x) cs) (view live (named x) (changed_where test f cs))
kept_changed x test f cs one lives mild = by (find test cs) refl
  where
    on : (c : Connection) → find test cs ≡ Some c → (b : Bool) → named x c ≡ b → Kept (view live (named x) cs) (view live (named x) (changed_where test f cs))
    on c e false other =
        subst (Kept (view live (named x) cs)) (sym (view_of_others live (named x) test f cs c (named_kept x f mild.name) e other)) (kept_same (view live (named x) cs))
    on c e true is =
        let two = view_of_changed live (named x) test f cs c one lives (named_kept x f mild.name) e is in
        subst (λ (o : Option Connection). Kept o (view live (named x) (changed_where test f cs))) (sym two.0)
        (subst (Kept (Some c)) (sym two.1) (mild_kept f c (lives c (found_passes test cs c e)) (mild.stage c)))

    by : (o : Option Connection) → find test cs ≡ o → Kept (view live (named x) cs) (view live (named x) (changed_where test f cs))
    by None e =
        subst (λ (l : List Connection). Kept (view live (named x) cs) (view live (named x) l)) (sym (none_changes test f cs e)) (kept_same (view live (named x) cs))
    by (Some c) e = on c e (named x c) refl

-- ---- nodes

-- each connection is kept so, and all stay in order
pub record Stays (core later : CoreState) : Type 0 where
  pub kept : (x : ConnectionName) → Kept (open_named x core) (open_named x later)
  pub last : later.last_name ≡ core.last_name
  pub orderly : IsOrderly later

pub stays_same : (core : CoreState) → IsOrderly core → Stays core core
stays_same core o = record { kept = λ x. kept_same (open_named x core); last = refl; orderly = o }

pub stays_joined : (a b c : CoreState) → Stays a b → Stays b c → Stays a c
stays_joined a b c s t = record { kept = λ x. kept_joined (s.kept x) (t.kept x); last = t.last ∙ s.last; orderly = t.orderly }

-- the ballot of the last name is none of a later one
still_within : (core later : CoreState) → later.last_name ≡ core.last_name → core.replica.state.joined ≤ later.replica.state.joined
    → core.last_name.ballot ≤ core.replica.state.joined → later.last_name.ballot ≤ later.replica.state.joined
still_within core later same up within = subst (λ (y : ConnectionName). y.ballot ≤ later.replica.state.joined) (sym same) (omega (arith, up, within))

pub changed_orderly : (core later : CoreState) (test : Connection → Bool) (f : Connection → Connection) → IsOrderly core → later.connections ≡ changed_where test f core.connections
    → later.last_name ≡ core.last_name → core.replica.state.joined ≤ later.replica.state.joined → ((c : Connection) → (f c).name ≡ c.name) → IsOrderly later
changed_orderly core later test f o are same up name =
    record {
      names = λ x. subst (AtMostOne (named x)) (sym are) (one_changed (named x) test f core.connections (named_kept x f name) (o.names x));
      given = subst (λ (l : List Connection). Each (λ (c : Connection). IsGiven later.last_name c.name) l) (sym are)
          (subst (λ (y : ConnectionName). Each (λ (c : Connection). IsGiven y c.name) (changed_where test f core.connections)) (sym same)
          (each_kept (λ (c : Connection). IsGiven core.last_name c.name) test f core.connections
          (λ d given. subst (λ (y : ConnectionName). IsGiven core.last_name y) (sym (name d)) given) o.given));
      within = still_within core later same up o.within;
    }

pub stays_changed : (core later : CoreState) (test : Connection → Bool) (f : Connection → Connection) → IsOrderly core → later.connections ≡ changed_where test f core.connections
    → later.last_name ≡ core.last_name → core.replica.state.joined ≤ later.replica.state.joined → ((d : Connection) → test d ≡ true → live d ≡ true) → IsMild f → Stays core later
stays_changed core later test f o are same up lives mild =
    record {
      kept = λ x. subst (λ (l : List Connection). Kept (open_named x core) (view live (named x) l)) (sym are) (kept_changed x test f core.connections (o.names x) lives mild);
      last = same;
      orderly = changed_orderly core later test f o are same up mild.name;
    }

pub left_true : (a b : Bool) → (a && b) ≡ true → a ≡ true
left_true true b e = refl
left_true false b e = absurd cc

pub closed_is_mild : IsMild closed_connection
closed_is_mild = record { name = λ c. refl; stage = λ c. inr refl }

-- one that is closed as lost is over
pub failing_over : (c : Connection) → is_closed (failing c).stage ≡ true
failing_over c = by (is_proposed c.stage)
  where
    by : (b : Bool) → is_closed (if b then Failed else Closed) ≡ true
    by true = refl
    by false = refl

pub put_out_name : (bytes : List ℕ) (c : Connection) → (with_queued bytes c).name ≡ c.name
put_out_name bytes c = by (nat_le (length c.pending + length bytes) max_pending)
  where
    by : (b : Bool) → (let d : Connection = if b then putting bytes c else failing c in d).name ≡ c.name
    by true = refl
    by false = refl

pub put_out_is_mild : (bytes : List ℕ) → IsMild (with_queued bytes)
put_out_is_mild bytes = record { name = put_out_name bytes; stage = stays_or_ends }
  where
    stays_or_ends : (c : Connection) → (((with_queued bytes c).stage ≡ c.stage) × ((with_queued bytes c).unread ≡ c.unread)) ⊎ (is_closed (with_queued bytes c).stage ≡ true)
    stays_or_ends c = by (nat_le (length c.pending + length bytes) max_pending)
      where
        by : (b : Bool) → (((let d : Connection = if b then putting bytes c else failing c in d).stage ≡ c.stage)
            × ((let d : Connection = if b then putting bytes c else failing c in d).unread ≡ c.unread))
            ⊎ (is_closed (let d : Connection = if b then putting bytes c else failing c in d).stage ≡ true)
        by true = inl (refl, refl)
        by false = inr (failing_over c)

pub stays_at : (port : Port) (f : Connection → Connection) (core : CoreState) → IsOrderly core → IsMild f → Stays core (changes port f core)
unfolding changes
stays_at port f core o mild = stays_changed core (changes port f core) (is_open_at port) f o refl refl (same_le core.replica.state.joined) (λ d e. left_true (live d) (is_at port d) e) mild

pub stays_named : (name : ConnectionName) (f : Connection → Connection) (core : CoreState) → IsOrderly core → IsMild f → Stays core (changes_named name f core)
unfolding changes_named
stays_named name f core o mild = stays_changed core (changes_named name f core) (is_open_named name) f o refl refl (same_le core.replica.state.joined) (λ d e. left_true (live d) (named name d) e) mild

pub stays_handled : (core : CoreState) (e : Effect Command Output) → IsOrderly core → Stays core (with_effect core e)
stays_handled core (Out place (outputs.Send name packet)) o = stays_named name (with_queued (spelling packet)) core o (put_out_is_mild (spelling packet))
stays_handled core (Out place (outputs.Close name)) o = stays_named name closed_connection core o closed_is_mild
stays_handled core (To receiver message) o = stays_same core o

stays_delivered : (core : CoreState) (effects : List (Effect Command Output)) → IsOrderly core → Stays core (fold with_effect core effects)
stays_delivered core [] o = stays_same core o
stays_delivered core (e ∷ effects) o =
    let s = stays_handled core e o in stays_joined core (with_effect core e) (fold with_effect (with_effect core e) effects) s (stays_delivered (with_effect core e) effects s.orderly)

stays_moved : (outcome : Outcome State Command Output) (core : CoreState) → Up core.replica.state outcome → IsOrderly core → Stays core (after_replica_step outcome core).core
stays_moved outcome core up o =
    let hears : CoreState = record core { replica = record core.replica { state = outcome.state } } in
    let within = o.within in
    let s = stays_delivered hears outcome.effects (record { names = o.names; given = o.given; within = omega (arith, within, up) }) in
    record { kept = s.kept; last = s.last; orderly = s.orderly }

-- what is received leaves no later ballot either
pub heard_up : (input : Input Command) (core : CoreState) → Up core.replica.state (outcome_of_input input core.replica.state)
heard_up input core =
    up_if core.replica.state core.replica.state.stopped (nothing_done Output core.replica.state) (replica_step rules core.replica.state input)
    (λ e. up_nothing Output core.replica.state) (λ e. joined_grows rules core.replica.state input)

pub stays_driven : (input : Input Command) (core : CoreState) → IsOrderly core → Stays core (drives input core).core
unfolding drives
stays_driven input core o = stays_moved (outcome_of_input input core.replica.state) core (heard_up input core) o

pub stays_proposed : (command : Command) (core : CoreState) → IsOrderly core → Stays core (proposes command core).core
unfolding proposes
stays_proposed command core o = by (serves core)
  where
    by : (b : Bool) → Stays core (let t : StepOutcome = if b then after_replica_step (proposed rules core.replica.state command) core else without_messages core in t).core
    by true = stays_moved (proposed rules core.replica.state command) core (up_proposed rules core.replica.state command) o
    by false = stays_same core o

pub stays_cut : (core : CoreState) → IsOrderly core → Stays core (with_cut core)
stays_cut core o = record { kept = λ x. kept_same (open_named x core); last = refl; orderly = record { names = o.names; given = o.given; within = o.within } }

pub stays_crashed : (core : CoreState) → IsOrderly core → Stays core (crashed core)
stays_crashed core o = record { kept = λ x. kept_same (open_named x core); last = refl; orderly = record { names = o.names; given = o.given; within = o.within } }

-- ---- a connection that failed is not live, before it is closed for good and after that

failed_over : (s : ConnectionStage) → is_failed s ≡ true → not (is_closed s) ≡ false
failed_over Awaits e = absurd cc
failed_over Proposed e = absurd cc
failed_over Closed e = absurd cc
failed_over Failed e = refl

view_of_failed : (x : ConnectionName) (cs : List Connection) → view live (named x) (changed_where has_failed closed_connection cs) ≡ view live (named x) cs
view_of_failed x [] = refl
view_of_failed x (c ∷ cs) = by (has_failed c) refl (view_of_failed x cs)
  where
    tail : (b : Bool) → view live (named x) (changed_where has_failed closed_connection cs) ≡ view live (named x) cs
        → (if b then Some c else view live (named x) (changed_where has_failed closed_connection cs)) ≡ (if b then Some c else view live (named x) cs)
    tail true same = refl
    tail false same = same

    by : (b : Bool) → has_failed c ≡ b → view live (named x) (changed_where has_failed closed_connection cs) ≡ view live (named x) cs
        → view live (named x) (if b then closed_connection c ∷ cs else c ∷ changed_where has_failed closed_connection cs) ≡ view live (named x) (c ∷ cs)
    by true e ih = let dead : live c ≡ false = failed_over c.stage e in rw dead refl
    by false e ih = tail (live c && named x c) ih

pub same_of_failed : (x : ConnectionName) (core : CoreState) → open_named x (closes_failed core) ≡ open_named x core
same_of_failed x core = view_of_failed x core.connections

pub stays_failed : (core : CoreState) → IsOrderly core → Stays core (closes_failed core)
stays_failed core o =
    record {
      kept = λ x. subst (Kept (open_named x core)) (sym (same_of_failed x core)) (kept_same (open_named x core));
      last = refl;
      orderly = changed_orderly core (closes_failed core) has_failed closed_connection o refl refl (same_le core.replica.state.joined) (λ d. refl);
    }

-- ---- connections that are closed and done are removed

neither : (a b : Bool) → (a || b) ≡ false → a ≡ false
neither true b e = cc
neither false b e = refl

pub unlisted_dead : (c : Connection) → is_listed c ≡ false → live c ≡ false
unlisted_dead c e = neither (live c) (not (length c.pending == 0)) e

pub all_closed : (x : ConnectionName) (cs : List Connection) → view live (named x) (map closed_connection cs) ≡ None
all_closed x [] = refl
all_closed x (c ∷ cs) = all_closed x cs

stays_listed : (core later : CoreState) (cs : List Connection) → later.connections ≡ filter is_listed cs → later.last_name ≡ core.last_name
    → core.replica.state.joined ≤ later.replica.state.joined → IsOrderly core
    → ((x : ConnectionName) → Kept (open_named x core) (view live (named x) cs)) → ((x : ConnectionName) → AtMostOne (named x) cs)
    → Each (λ (c : Connection). IsGiven core.last_name c.name) cs → Stays core later
stays_listed core later cs are same up o kept one given =
    record {
      kept = λ x. subst (Kept (open_named x core)) (sym (ap (view live (named x)) are ∙ view_filtered live (named x) is_listed cs unlisted_dead)) (kept x);
      last = same;
      orderly = record {
        names = λ x. subst (AtMostOne (named x)) (sym are) (one_filtered (named x) is_listed cs (one x));
        given = subst (λ (l : List Connection). Each (λ (c : Connection). IsGiven later.last_name c.name) l) (sym are)
            (subst (λ (y : ConnectionName). Each (λ (c : Connection). IsGiven y c.name) (filter is_listed cs)) (sym same)
            (each_filtered (λ (c : Connection). IsGiven core.last_name c.name) is_listed cs given));
        within = still_within core later same up o.within;
      };
    }

pub stays_settled : (core : CoreState) → IsOrderly core → Stays core (settled core)
unfolding settled
stays_settled core o = by (serves core)
  where
    by : (b : Bool) → Stays core (let k : CoreState = record core { connections = filter is_listed (if b then core.connections else map closed_connection core.connections) } in k)
    by true = stays_listed core _ core.connections refl refl (same_le core.replica.state.joined) o (λ x. kept_same (open_named x core)) o.names o.given
    by false =
        stays_listed core _ (map closed_connection core.connections) refl refl (same_le core.replica.state.joined) o
        (λ x. subst (Kept (open_named x core)) (sym (all_closed x core.connections)) (kept_gone (open_named x core)))
        (λ x. one_mapped (named x) closed_connection core.connections (λ d. refl) (o.names x))
        (each_mapped (λ (c : Connection). IsGiven core.last_name c.name) closed_connection core.connections (λ d within. within) o.given)

-- ---- what was queued is handed over

kept_handed : (x : ConnectionName) (test : Connection → Bool) (cs : List Connection) → Kept (view live (named x) cs) (view live (named x) (changed_where test nothing_pending cs))
kept_handed x test [] = never
kept_handed x test (c ∷ cs) = by (test c) (live c && named x c) (kept_handed x test cs)
  where
    tail : (b : Bool) → Kept (view live (named x) cs) (view live (named x) (changed_where test nothing_pending cs))
        → Kept (if b then Some c else view live (named x) cs) (if b then Some c else view live (named x) (changed_where test nothing_pending cs))
    tail true kept = still refl refl
    tail false kept = kept

    head : (b : Bool) → Kept (if b then Some c else view live (named x) cs) (if b then Some (nothing_pending c) else view live (named x) cs)
    head true = still refl refl
    head false = kept_same (view live (named x) cs)

    by : (t b : Bool) → Kept (view live (named x) cs) (view live (named x) (changed_where test nothing_pending cs))
        → Kept (view live (named x) (c ∷ cs)) (view live (named x) (if t then nothing_pending c ∷ cs else c ∷ changed_where test nothing_pending cs))
    by true b kept = head (live c && named x c)
    by false b kept = tail (live c && named x c) kept

stays_left : (port : Port) (core : CoreState) (o : Option Connection) → IsOrderly core → Stays core (left_by port core o)
stays_left port core None o = stays_same core o
stays_left port core (Some c) o =
    stays_listed core (left_by port core (Some c)) (changed_where (is_at port) nothing_pending core.connections) refl refl (same_le core.replica.state.joined) o
    (λ x. kept_handed x (is_at port) core.connections)
    (λ x. one_changed (named x) (is_at port) nothing_pending core.connections (λ d. refl) (o.names x))
    (each_kept (λ (c : Connection). IsGiven core.last_name c.name) (is_at port) nothing_pending core.connections (λ d within. within) o.given)

pub stays_handed : (port : Port) (core : CoreState) → IsOrderly core → Stays core (hands_over port core)
unfolding hands_over
stays_handed port core o = stays_left port core (listed_at port core) o
