-- The first output of a message is queued first, whatever comes after it.
use Rattle.std.proofs.Common.{◌≡◌, ◌<◌, ◌≤◌, ◌+◌, ℕ, zero, suc, Bool, true, false, ◌||◌, if◌then◌else◌, not, List, [], ◌∷◌, ◌++◌, filter, length, map, Option, Some, None, refl, sym, ap, ◌∙◌, subst, arith}
use Rattle.std.specs.Prelude.{◌==◌, nat_le}
use Rattle.std.specs.List.{find, fold}
use Rattle.std.proofs.lemmas.Bool.{both_ways, le-leb, ne_eqb}
use Rattle.lists.specs.Lists.{IsPrefixOf}
use Rattle.lists.proofs.Prefixes.{prefix_length, prefix_same, prefix_then}
use Rattle.packet.specs.declared.packet.Packet.{Packet}
use Rattle.packet.specs.Spelling.{spelling}
use Rattle.ballot_base.specs.declared.message.Effect.{Effect}
use Rattle.ballot_base.specs.declared.message.Effect.TheVariants.{To, Out}
use Rattle.ballot_base.specs.Protocol.Input.{Receives}
use Rattle.ballot_base.specs.Service.{proposed}
use Rattle.broker_spec.specs.declared.command.Command.{Command}
use Rattle.broker_spec.specs.declared.command.Command.TheVariants as commands
use Rattle.broker_spec.specs.Connection.{ConnectionName}
use Rattle.broker_spec.specs.declared.command.Output.{Output}
use Rattle.broker_spec.specs.declared.command.Output.TheVariants as outputs
use Rattle.world_base.specs.declared.node_connections.connection.Connection.{Connection}
use Rattle.world_base.specs.declared.node_core.item.Item.TheVariants.{Peer}
use Rattle.world_base.specs.declared.node_connections.port.Port.{Port}
use Rattle.world_base.specs.node_connections.Connections.{has_failed, is_at, is_listed, is_open_named, is_closed}
use Rattle.world_base.specs.node_connections.ConnectionChanges.{changed_where, closed_connection, failing, max_pending, with_queued, putting}
use Rattle.world_base.specs.node_core.Core.{CoreState, StepOutcome, rules, serves}
use Rattle.world_base.specs.node_core.FailedConnections.{closes_failed, reports_all_failed, reports_failed, reports_if}
use Rattle.world_base.specs.node_core.PortOutput.{listed_at}
use Rattle.world_base.specs.node_core.Step.{node_step, settled}
use Rattle.world_base.specs.node_core.Effects.{changes_named, drives, after_replica_step, proposes, without_messages, repeated, with_effect, performed_by}
use Rattle.headline.proofs.of_node_moves.Views.{found_passes}
use Rattle.recovery.specs.one_node.FirstAnswer.{AnswerIsPutOut, PutsOutFirst}
use Rattle.recovery.specs.one_node.Delivery.{heard_by}
use Rattle.recovery.proofs.of_one_node.OneDelivery.{with_replica}

module _ (port : Port) (front : List ℕ) (some : 0 < length front) where
  -- the first connection at the port begins so
  pub record FrontOf (cs : List Connection) : Type 0 where
    pub c : Connection
    pub found : find (is_at port) cs ≡ Some c
    pub first : IsPrefixOf front c.pending

  -- a change that keeps the port and what comes first
  pub record Keeps (f : Connection → Connection) : Type 0 where
    pub port_of : (d : Connection) → (f d).port ≡ d.port
    pub front_of : (d : Connection) → IsPrefixOf front d.pending → IsPrefixOf front (f d).pending

  at_still : (f : Connection → Connection) → Keeps f → (d : Connection) → is_at port (f d) ≡ is_at port d
  at_still f keeps d = ap (λ (p : Port). p.0 == port.0) (keeps.port_of d)

  -- the head of a list
  found_here : (d : Connection) (cs : List Connection) → is_at port d ≡ true → IsPrefixOf front d.pending → FrontOf (d ∷ cs)
  found_here d cs e first = record { c = d; found = ap (λ (b : Bool). if b then Some d else find (is_at port) cs) e; first = first }

  found_later : (d : Connection) (cs : List Connection) → is_at port d ≡ false → FrontOf cs → FrontOf (d ∷ cs)
  found_later d cs e z = record { c = z.c; found = ap (λ (b : Bool). if b then Some d else find (is_at port) cs) e ∙ z.found; first = z.first }

  head_is : (d : Connection) (cs : List Connection) → is_at port d ≡ true → FrontOf (d ∷ cs) → IsPrefixOf front d.pending
  head_is d cs e z =
      let same : d ≡ z.c = one_some d z.c (sym (ap (λ (b : Bool). if b then Some d else find (is_at port) cs) e) ∙ z.found) in
      subst (λ (k : Connection). IsPrefixOf front k.pending) (sym same) z.first
    where
      one_some : (x y : Connection) → (let o : Option Connection = Some x in o) ≡ Some y → x ≡ y
      one_some x y f = cc

  tail_is : (d : Connection) (cs : List Connection) → is_at port d ≡ false → FrontOf (d ∷ cs) → FrontOf cs
  tail_is d cs e z = record { c = z.c; found = sym (ap (λ (b : Bool). if b then Some d else find (is_at port) cs) e) ∙ z.found; first = z.first }

  none_there : FrontOf [] → ⊥
  none_there z = let e = z.found in cc

  -- changes
  pub front_changed : (test : Connection → Bool) (f : Connection → Connection) (cs : List Connection) → Keeps f → FrontOf cs → FrontOf (changed_where test f cs)
  front_changed test f [] keeps z = absurd (none_there z)
  front_changed test f (d ∷ cs) keeps z = by (test d) (is_at port d) refl (λ y. front_changed test f cs keeps y)
    where
      by : (b at : Bool) → is_at port d ≡ at → (FrontOf cs → FrontOf (changed_where test f cs)) → FrontOf (if b then f d ∷ cs else d ∷ changed_where test f cs)
      by true true e rest = found_here (f d) cs (at_still f keeps d ∙ e) (keeps.front_of d (head_is d cs e z))
      by true false e rest = found_later (f d) cs (at_still f keeps d ∙ e) (tail_is d cs e z)
      by false true e rest = found_here d (changed_where test f cs) e (head_is d cs e z)
      by false false e rest = found_later d (changed_where test f cs) e (rest (tail_is d cs e z))

  front_mapped : (f : Connection → Connection) (cs : List Connection) → Keeps f → FrontOf cs → FrontOf (map f cs)
  front_mapped f [] keeps z = absurd (none_there z)
  front_mapped f (d ∷ cs) keeps z = by (is_at port d) refl (λ y. front_mapped f cs keeps y)
    where
      by : (at : Bool) → is_at port d ≡ at → (FrontOf cs → FrontOf (map f cs)) → FrontOf (f d ∷ map f cs)
      by true e rest = found_here (f d) (map f cs) (at_still f keeps d ∙ e) (keeps.front_of d (head_is d cs e z))
      by false e rest = found_later (f d) (map f cs) (at_still f keeps d ∙ e) (rest (tail_is d cs e z))

  -- one that has something to hand over is listed
  is_there : (d : Connection) → IsPrefixOf front d.pending → is_listed d ≡ true
  is_there d first =
      ap (λ (b : Bool). not (is_closed d.stage) || not b) (ne_eqb (length d.pending) 0 (λ e. let z = prefix_length first in let y = some in omega (arith, z, y, e)))
      ∙ right (not (is_closed d.stage))
    where
      right : (b : Bool) → (b || true) ≡ true
      right true = refl
      right false = refl

  front_listed : (cs : List Connection) → FrontOf cs → FrontOf (filter is_listed cs)
  front_listed [] z = absurd (none_there z)
  front_listed (d ∷ cs) z = by (is_at port d) refl (λ y. front_listed cs y)
    where
      by : (at : Bool) → is_at port d ≡ at → (FrontOf cs → FrontOf (filter is_listed cs)) → FrontOf (filter is_listed (d ∷ cs))
      by true e rest =
          let first = head_is d cs e z in
          subst (λ (b : Bool). FrontOf (if b then d ∷ filter is_listed cs else filter is_listed cs)) (sym (is_there d first)) (found_here d (filter is_listed cs) e first)
      by false e rest = either (is_listed d)
        where
          either : (b : Bool) → FrontOf (if b then d ∷ filter is_listed cs else filter is_listed cs)
          either true = found_later d (filter is_listed cs) e (rest (tail_is d cs e z))
          either false = rest (tail_is d cs e z)

  -- ---- what happens to a connection

  pub closed_keeps : Keeps closed_connection
  closed_keeps = record { port_of = λ d. refl; front_of = λ d first. first }

  pub put_keeps : (bytes : List ℕ) → Keeps (with_queued bytes)
  put_keeps bytes = record { port_of = λ d. port_by d (nat_le (length d.pending + length bytes) max_pending); front_of = λ d first. front_by d first (nat_le (length d.pending + length bytes) max_pending) }
    where
      port_by : (d : Connection) (b : Bool) → (if b then putting bytes d else failing d).port ≡ d.port
      port_by d true = refl
      port_by d false = refl

      front_by : (d : Connection) → IsPrefixOf front d.pending → (b : Bool) → IsPrefixOf front (if b then putting bytes d else failing d).pending
      front_by d first true = prefix_then first (record { rest = bytes; is = refl })
      front_by d first false = first

  -- ---- outputs, and what follows from them

  front_named : (x : ConnectionName) (f : Connection → Connection) (core : CoreState) → Keeps f → FrontOf core.connections → FrontOf (changes_named x f core).connections
  unfolding changes_named
  front_named x f core keeps z = front_changed (is_open_named x) f core.connections keeps z

  front_handled : (core : CoreState) (e : Effect Command Output) → FrontOf core.connections → FrontOf (with_effect core e).connections
  front_handled core (Out place (outputs.Send x packet)) z = front_named x (with_queued (spelling packet)) core (put_keeps (spelling packet)) z
  front_handled core (Out place (outputs.Close x)) z = front_named x closed_connection core closed_keeps z
  front_handled core (To receiver message) z = z

  pub front_delivered : (core : CoreState) (effects : List (Effect Command Output)) → FrontOf core.connections → FrontOf (fold with_effect core effects).connections
  front_delivered core [] z = z
  front_delivered core (e ∷ effects) z = front_delivered (with_effect core e) effects (front_handled core e z)

  pub front_proposed : (command : Command) (core : CoreState) → FrontOf core.connections → FrontOf (proposes command core).core.connections
  unfolding proposes
  front_proposed command core z = by (serves core)
    where
      by : (b : Bool) → FrontOf (let t : StepOutcome = if b then after_replica_step (proposed rules core.replica.state command) core else without_messages core in t).core.connections
      by true = front_delivered (with_replica (proposed rules core.replica.state command).state core) (proposed rules core.replica.state command).effects z
      by false = z

  front_failed : (core : CoreState) → FrontOf core.connections → FrontOf (reports_failed core).core.connections
  unfolding reports_failed
  front_failed core z = by (find has_failed core.connections)
    where
      by : (o : Option Connection) → FrontOf (reports_if o core).core.connections
      by None = z
      by (Some c) = front_proposed (commands.Lost c.name) (closes_failed core) (front_changed has_failed closed_connection core.connections closed_keeps z)

  front_repeated : (n : ℕ) (core : CoreState) → FrontOf core.connections → FrontOf (repeated n reports_failed core).core.connections
  unfolding repeated
  front_repeated zero core z = z
  front_repeated (suc n) core z = front_repeated n (reports_failed core).core (front_failed core z)

  front_settled : (core : CoreState) → FrontOf core.connections → FrontOf (settled core).connections
  unfolding settled
  front_settled core z = by (serves core)
    where
      by : (b : Bool) → FrontOf (filter is_listed (if b then core.connections else map closed_connection core.connections))
      by true = front_listed core.connections z
      by false = front_listed (map closed_connection core.connections) (front_mapped closed_connection core.connections closed_keeps z)

  pub front_acted : (first : CoreState) → FrontOf first.connections → FrontOf (settled (reports_all_failed first).core).connections
  front_acted first z = front_settled (reports_all_failed first).core (front_repeated (length first.connections) first z)

-- ---- the first output

-- if two tests find one connection, a change by one is found by the other
pub found_both : (one two : Connection → Bool) (f : Connection → Connection) (cs : List Connection) (c : Connection) → one c ≡ true → two c ≡ true → two (f c) ≡ true →
    find two cs ≡ Some c → find one cs ≡ Some c → find two (changed_where one f cs) ≡ Some (f c)
found_both one two f [] c p q r found here = cc
found_both one two f (d ∷ cs) c p q r found here = by (one d) (two d) refl refl (λ g h. found_both one two f cs c p q r g h) found here
  where
    one_some : (x y : Connection) → (let o : Option Connection = Some x in o) ≡ Some y → x ≡ y
    one_some x y e = cc

    by : (a b : Bool) → one d ≡ a → two d ≡ b → (find two cs ≡ Some c → find one cs ≡ Some c → find two (changed_where one f cs) ≡ Some (f c)) →
        (if b then Some d else find two cs) ≡ Some c → (if a then Some d else find one cs) ≡ Some c →
        find two (if a then f d ∷ cs else d ∷ changed_where one f cs) ≡ Some (f c)
    by true b e g rest x y =
        let same : d ≡ c = one_some d c y in
        ap (λ (k : Connection). find two (f k ∷ cs)) same ∙ ap (λ (z : Bool). if z then Some (f c) else find two cs) r
    by false true e g rest x y = absurd (both_ways (one d) e (ap one (one_some d c x) ∙ p))
    by false false e g rest x y = ap (λ (z : Bool). if z then Some d else find two (changed_where one f cs)) g ∙ rest x y

pub first_put : (port : Port) (x : ConnectionName) (packet : Packet) (core : CoreState) (c : Connection) (some : 0 < length (spelling packet)) → length (spelling packet) ≤ max_pending →
    listed_at port core ≡ Some c → find (is_open_named x) core.connections ≡ Some c → c.pending ≡ [] →
    FrontOf port (spelling packet) some (performed_by (outputs.Send x packet) core).connections
unfolding changes_named
first_put port x packet core c some short listed opened none =
    record {
      c = putting (spelling packet) c;
      found = found_both (is_open_named x) (is_at port) (with_queued (spelling packet)) core.connections c (found_passes (is_open_named x) core.connections c opened)
          (found_passes (is_at port) core.connections c listed) (ap (is_at port) puts ∙ found_passes (is_at port) core.connections c listed) listed opened
          ∙ ap (λ (k : Connection). Some k) puts;
      first = subst (λ (l : List ℕ). IsPrefixOf (spelling packet) (l ++ spelling packet)) (sym none) (prefix_same (spelling packet));
    }
  where
    puts : with_queued (spelling packet) c ≡ putting (spelling packet) c
    puts = ap (λ (b : Bool). if b then putting (spelling packet) c else failing c)
        (le-leb (length c.pending + length (spelling packet)) max_pending (let e = ap length none in omega (arith, e, short)))

pub answer_is_put_out : AnswerIsPutOut
unfolding drives
answer_is_put_out core message port x c place packet others more runs listed opened none effects some short =
    by (front_acted port (spelling packet) some (drives (Receives message) core).core
    (subst (λ (k : CoreState). FrontOf port (spelling packet) some k.connections) (sym is)
    (front_delivered port (spelling packet) some (with_effect (with_replica (heard_by core message).state core) (Out place (outputs.Send x packet))) (map (Out place) others ++ more)
    (first_put port x packet (with_replica (heard_by core message).state core) c some short listed opened none))))
  where
    by : FrontOf port (spelling packet) some (node_step (Peer message) core).core.connections → PutsOutFirst port (spelling packet) (node_step (Peer message) core).core
    by z = record { connection = z.c; listed = z.found; first = z.first }

    is : (drives (Receives message) core).core ≡ fold with_effect (with_replica (heard_by core message).state core) (Out place (outputs.Send x packet) ∷ (map (Out place) others ++ more))
    is = ap (λ (b : Bool). (after_replica_step (if b then (record { state = core.replica.state; effects = [] }) else heard_by core message) core).core) runs
        ∙ ap (λ (l : List (Effect Command Output)). fold with_effect (with_replica (heard_by core message).state core) l) effects
