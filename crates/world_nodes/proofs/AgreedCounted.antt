-- The counters of nodes give the length of the agreed list, and the record with the log of a member the list.
use Rattle.std.proofs.Common.{◌≡◌, ℕ, ◌<◌, ◌≤◌, ◌-◌, ◌^◌, List, [], ◌∷◌, ◌++◌, length, take, map, get_or, zero, suc, Option, None, Some, sym, ap, ◌∙◌, subst, arith}
use Rattle.std.specs.Prelude.{slice_get}
use Rattle.std.proofs.lemmas.List.{length-map}
use Rattle.lists.specs.Lists.{In}
use Rattle.ballot_base.specs.declared.message.Message.{Message}
use Rattle.ballot_base.specs.Replica.{ReplicaState, status_of}
use Rattle.ballot_base.specs.declared.status.Status.{Status}
use Rattle.agreement.specs.MasterState.{MasterState}
use Rattle.broker_spec.specs.declared.command.Command.{Command}
use Rattle.broker_base.specs.State.{State}
use Rattle.world_base.specs.node_core.Core.{CoreState, CountedCore, rules}
use Rattle.headline.specs.node_group.Group.{Group, moment_of_nodes, replica_of}
use Rattle.headline.proofs.of_node_group.Placed.{get_mapped}
use Rattle.master.specs.Inside.{HasCounted, HoldsAt, IsShort, AcknowledgedIn, held_by, least_but_one}
use Rattle.master.proofs.Counting.{get_past, get_there}
use Rattle.master.proofs.Groups.{in_item}
use Rattle.master.proofs.Lawful.{rising_above}
use Rattle.master.proofs.Viewed.{agreed_read, agreed_read_on, counted_as_seen, group_lawful, sole_as_seen, some_as_seen, within_of}
use Rattle.world_nodes.specs.Nodes.{NodesState, NodesStandFor, cores_of}
use Rattle.world_nodes.specs.Agreed.{AgreeOn, AgreeOnSoMany}
use Rattle.world_nodes.specs.Inside.{HaveCounted, held_at, replicas_of}
use Rattle.world_nodes.proofs.Acts.{core_in}

-- what the members acknowledged is counted
pub members_low : (n : NodesState) (told next : AcknowledgedIn) → HaveCounted n told next → (m : ℕ) → In m n.master.members → m < 16
members_low n told next c m i =
    let lawful = group_lawful rules c.counts.config (moment_of_nodes c.group) c.counts.moments c.counts.came in
    let high = (rising_above c.group.master.greatest 0 c.group.master.members m lawful.active (subst (λ (k : MasterState). In m k.members) (sym c.stands.master) i)).1 in
    let bounded : c.group.master.greatest ≡ 15 = c.counts.bounded in omega (arith, bounded, high)

-- of several members, the second least of the numbers that they acknowledged
pub several_agree : (n : NodesState) (told next : AcknowledgedIn) → HaveCounted n told next → ((m : ℕ) → get_or told.held m 0 < 2 ^ 64) → (length n.master.members ≡ 1 → ⊥)
    → AgreeOnSoMany n (least_but_one told.held (2 ^ 64 - 1) (2 ^ 64 - 1) n.master.members)
several_agree n told next c range several config g earlier stands came list agreed =
    let same : n.master ≡ g.master = sym stands.master in
    ap (λ (m : MasterState). least_but_one told.held (2 ^ 64 - 1) (2 ^ 64 - 1) m.members) same
    ∙ counted_as_seen rules config (moment_of_nodes g) earlier list told (2 ^ 64 - 1) came agreed
    (sym (ap (λ (m : MasterState). m.greatest) (c.stands.master ∙ same)) ∙ c.counts.bounded)
    (c.counts.active ∙ ap (λ (m : MasterState). m.active) (c.stands.master ∙ same))
    (subst (λ (l : List (ℕ × Message Command)). HasCounted l told) (c.stands.sent ∙ sym stands.sent) c.counts.counted)
    (λ m. (let low = range m in omega (arith, low)))
    (λ e. several (ap (λ (m : MasterState). length m.members) same ∙ e))

-- the replica of a member, by nodes and by a group that corresponds to them
same_nodes : (n : NodesState) (g : Group) → NodesStandFor g n → replicas_of n.nodes ≡ map replica_of g.nodes
same_nodes n g stands = ap (λ (l : List CoreState). map replica_of l) (sym stands.nodes)

-- of a sole member, how long its log is
pub sole_agrees : (n : NodesState) (m : ℕ) → n.master.members ≡ m ∷ [] → AgreeOnSoMany n (held_at n.nodes m)
sole_agrees n m sole config g earlier stands came list agreed =
    ap (λ (l : List (ReplicaState State Command)). held_by (slice_get l (m - 1))) (same_nodes n g stands)
    ∙ sole_as_seen rules config (moment_of_nodes g) earlier list came agreed m (ap (λ (k : MasterState). k.members) stands.master ∙ sole)

-- some member's log has this many
pub some_agrees : (n : NodesState) (count : ℕ) (list : List Command) → AgreeOnSoMany n count
    → ((m : ℕ) → In m n.master.members → IsShort (slice_get (replicas_of n.nodes) (m - 1)) count) → AgreeOn n list
some_agrees n count list many short config g earlier stands came =
    absurd (some_as_seen rules config (moment_of_nodes g) earlier count came (λ xs is. many config g earlier stands came xs is)
    (λ m i. subst (λ (l : List (ReplicaState State Command)). IsShort (slice_get l (m - 1)) count) (same_nodes n g stands)
    (short m (subst (λ (k : MasterState). In m k.members) stands.master i))))

-- .. which is the same one in a group that corresponds to the nodes
holds_in : (n : NodesState) (g : Group) (count at : ℕ) → NodesStandFor g n → HoldsAt (replicas_of n.nodes) n.master.members count at
    → HoldsAt (map replica_of g.nodes) g.master.members count at
holds_in n g count at stands h =
    record {
      member = h.member;
      is_member = subst (λ (k : MasterState). In h.member k.members) (sym stands.master) h.is_member;
      index = h.index;
      replica = h.replica;
      stands = ap (λ (l : List (ReplicaState State Command)). slice_get l at) (sym (same_nodes n g stands)) ∙ h.stands;
      long = h.long;
    }

-- the record has the whole agreed list
pub recorded_agrees : (n : NodesState) (count at base : ℕ) (read : List Command) → AgreeOnSoMany n count
    → (h : HoldsAt (replicas_of n.nodes) n.master.members count at) → base ≡ h.replica.log.base → count ≤ base → read ≡ n.archive
    → AgreeOn n (take count read ++ [])
unfolding holds_in
recorded_agrees n count at base read many h same low seen config g earlier stands came =
    agreed_read rules config (moment_of_nodes g) earlier count at base read came (λ xs is. many config g earlier stands came xs is)
    (holds_in n g count at stands h) same low (seen ∙ sym stands.archive)

-- .. or the log of that member continues at the end of the record
pub front_agrees : (n : NodesState) (count at base : ℕ) (read rest : List Command) → AgreeOnSoMany n count
    → (h : HoldsAt (replicas_of n.nodes) n.master.members count at) → base ≡ h.replica.log.base → base < count → read ≡ n.archive
    → rest ≡ h.replica.log.rest → AgreeOn n (take base read ++ take (count - base) rest)
unfolding holds_in
front_agrees n count at base read rest many h same high seen kept config g earlier stands came =
    agreed_read_on rules config (moment_of_nodes g) earlier count at base read rest came (λ xs is. many config g earlier stands came xs is)
    (holds_in n g count at stands h) same high (seen ∙ sym stands.archive) kept

-- the record has all places below the base of a node's log
pub within_at : (n : NodesState) (told next : AcknowledgedIn) → HaveCounted n told next → (at : ℕ) (r : ReplicaState State Command)
    → slice_get (replicas_of n.nodes) at ≡ Some r → r.log.base ≤ length n.archive
within_at n told next c at r stands =
    subst (λ (l : List Command). r.log.base ≤ length l) c.stands.archive
    (within_of rules c.counts.config (moment_of_nodes c.group) c.counts.moments c.counts.came at r
    (ap (λ (l : List (ReplicaState State Command)). slice_get l at) (sym (same_nodes n c.group c.stands)) ∙ stands))

-- ---- logs of nodes

-- what is read at an index is the replica there
pub replica_at : (nodes : List CountedCore) (at : ℕ) (core : CountedCore) → at < length nodes → core ≡ get_or nodes at core
    → slice_get (replicas_of nodes) at ≡ Some core.core.replica.state
replica_at nodes at core below read =
    get_mapped replica_of (cores_of nodes) at core.core (get_mapped core_in nodes at core (get_there nodes at core below read))

-- .. and the same as what is known to be there
pub same_replica : (nodes : List CountedCore) (at : ℕ) (core : CountedCore) (r : ReplicaState State Command) → core ≡ get_or nodes at core
    → slice_get (replicas_of nodes) at ≡ Some r → core.core.replica.state ≡ r
same_replica [] at core r read stands = cc
same_replica (z ∷ nodes) zero core r read stands =
    let e : z.core.replica.state ≡ r = cc in ap (λ (c : CountedCore). c.core.replica.state) read ∙ e
same_replica (z ∷ nodes) (suc at) core r read stands = same_replica nodes at core r read stands

no_replica : (nodes : List CountedCore) (at : ℕ) → length nodes ≤ at → slice_get (replicas_of nodes) at ≡ None
no_replica nodes at past =
    get_past (replicas_of nodes) at (omega (arith, past, length-map (cores_of nodes) replica_of, length-map nodes core_in))

pub held_there : (nodes : List CountedCore) (node at : ℕ) (core : CountedCore) (status : Status) → at ≡ node - 1 → at < length nodes → core ≡ get_or nodes at core
    → status ≡ status_of core.core.replica.state → status.held ≡ held_at nodes node
held_there nodes node at core status place below read told =
    ap (λ (s : Status). s.held) told
    ∙ sym (ap held_by (ap (slice_get (replicas_of nodes)) (sym place) ∙ replica_at nodes at core below read))

pub held_nowhere : (nodes : List CountedCore) (node at : ℕ) → at ≡ node - 1 → length nodes ≤ at → 0 ≡ held_at nodes node
held_nowhere nodes node at place past = sym (ap held_by (no_replica nodes (node - 1) (omega (arith, place, past))))

-- a member whose log is long enough, by what was read of its node, and members whose logs are not
pub holds_at : (nodes : List CountedCore) (members ms : List ℕ) (i at held : ℕ) (core : CountedCore) (status : Status) → i < length ms → ms ≡ members
    → at ≡ get_or ms i 0 - 1 → at < length nodes → core ≡ get_or nodes at core → status ≡ status_of core.core.replica.state → held ≤ status.held
    → HoldsAt (replicas_of nodes) members held at
holds_at nodes members ms i at held core status below same place there read told long =
    record {
      member = get_or ms i 0;
      is_member = subst (λ us. In (get_or ms i 0) us) same (in_item {X = ℕ} ms i 0 below);
      index = place;
      replica = core.core.replica.state;
      stands = replica_at nodes at core there read;
      long = (let e = ap (λ (s : Status). s.held) told in omega (arith, e, long));
    }

pub is_short : (nodes : List CountedCore) (n at held : ℕ) (core : CountedCore) (status : Status) → at ≡ n → at < length nodes → core ≡ get_or nodes at core
    → status ≡ status_of core.core.replica.state → status.held < held → IsShort (slice_get (replicas_of nodes) n) held
is_short nodes n at held core status same there read told low =
    subst (λ (o : Option (ReplicaState State Command)). IsShort o held)
    (sym (replica_at nodes at core there read) ∙ ap (slice_get (replicas_of nodes)) same)
    (let e = ap (λ (s : Status). s.held) told in omega (arith, e, low))

pub is_unknown : (nodes : List CountedCore) (n at held : ℕ) → at ≡ n → length nodes ≤ at → IsShort (slice_get (replicas_of nodes) n) held
is_unknown nodes n at held same past =
    subst (λ (o : Option (ReplicaState State Command)). IsShort o held) (sym (no_replica nodes n (omega (arith, same, past)))) tt
