-- A connection that a client opens gets a name that none had, and what holds for all connections is
-- kept.
use Rattle.std.proofs.Common.{◌≡◌, ◌⊎◌, inl, inr, ℕ, zero, suc, false, List, [], ◌++◌, Option, Some, None, set, slice_get, refl, sym, ap, ◌∙◌, subst}
use Rattle.std.specs.List.{find}
use Rattle.std.proofs.lemmas.Bool.{both_ways}
use Rattle.packet.specs.Spelling.{IsPacket}
use Rattle.packet.specs.declared.packet.Packet.TheVariants as packets
use Rattle.ballot_base.specs.declared.config.Config.{Config}
use Rattle.broker_spec.specs.Connection.{ConnectionName, same_connection}
use Rattle.client_base.specs.Connected.{new_connection}
use Rattle.lists.specs.Lists.{In}
use Rattle.lists.specs.Lists.In.{here, there}
use Rattle.lists.proofs.Places.{get_set, get_set_other}
use Rattle.headline.proofs.of_packet_world.Lists.{same_or_other, set_get}
use Rattle.headline.specs.node_moves.Pipe.{Joins}
use Rattle.exactly_once.specs.Sides.{ClientConnection}
use Rattle.exactly_once.proofs.Takes.{same_name_self}
use Rattle.world_base.specs.declared.node_connections.connection.Connection.{Connection as NodesEnd}
use Rattle.world_base.specs.declared.node_core.item.Item.TheVariants.{Opened}
use Rattle.world_base.specs.declared.node_connections.port.Port.{Port}
use Rattle.world_base.specs.node_core.Core.{CoreState}
use Rattle.world_base.specs.node_core.PortOutput.{listed_at}
use Rattle.world_base.specs.node_core.Step.{next_name}
use Rattle.headline.specs.node_moves.Ends.{IsGiven, Precedes}
use Rattle.headline.specs.node_moves.Moves.NodeCall.{takes}
use Rattle.headline.specs.node_moves.Puts.{spelled}
use Rattle.headline.proofs.of_node_moves.Kept.{named}
use Rattle.headline.proofs.of_node_moves.NamesInOrder.{next_precedes, not_both}
use Rattle.headline.specs.node_group.Steps.{GroupTrace}
use Rattle.headline.specs.node_group.Steps.GroupTrace.{then_went}
use Rattle.headline.proofs.of_node_group.NamesInGroups.{all_well, each_got}
use Rattle.headline.specs.byte_world.Apart.{HasName}
use Rattle.headline.specs.byte_world.Steps.{DoesCall, node_call_of}
use Rattle.headline.specs.byte_world.ClientSteps.{after_connecting}
use Rattle.headline.specs.byte_world.World.{ClientPipes, HasPipe, Pipe, ByteWorld, is_used, packets_of, with_client}
use Rattle.headline.proofs.of_byte_world.NamesApart.{names_stay_apart}
use Rattle.headline.proofs.of_byte_world.NodesGoOn.{IsOpened, StoodAs, of_each, stood_as}
use Rattle.headline.proofs.of_byte_world.OnTheWay.{joins_more}
use Rattle.headline.proofs.of_byte_world.PipesHold.{IsListed, PipeHolds, listed_there, none_found}
use Rattle.headline.proofs.of_byte_world.OpensUnused.{OpensUnused, opens_unused}
use Rattle.headline.proofs.of_byte_world.PortsKept.{IsOfOld}
use Rattle.headline.proofs.of_byte_world.WorldsHold.{Holds, IsKnown, IsUnheard, LeadsToPort}

-- ---- the name is new

named_there : (x : ConnectionName) (cs : List NodesEnd) (d : NodesEnd) → In d cs → d.name ≡ x → (c : NodesEnd) × (find (named x) cs ≡ Some c)
named_there x cs d i is = by (find (named x) cs) refl
  where
    by : (o : Option NodesEnd) → find (named x) cs ≡ o → (c : NodesEnd) × (find (named x) cs ≡ Some c)
    by (Some c) e = (c, e)
    by None e =
        absurd (both_ways (named x d) (of_each (λ (z : NodesEnd). named x z ≡ false) (none_found (named x) cs e) i)
        (ap (λ (y : ConnectionName). same_connection y x) is ∙ same_name_self x))

same_core : (a b : CoreState) → (let o : Option CoreState = Some a in o) ≡ Some b → a ≡ b
same_core a b e = cc

module _ {nodes : ℕ} {config : Config} (v : ByteWorld) (went : GroupTrace nodes config v.group) (h : Holds v went) (n : ℕ) (port : Port) (now : ℕ) (d : DoesCall v.group (Some (n, takes (Opened port now))))
    (core : CoreState) (end : NodesEnd) (stands : slice_get d.after.nodes n ≡ Some core) (found : listed_at port core ≡ Some end) (unused : is_used n port v.clients ≡ false) where
  abbrev after : GroupTrace nodes config d.after
  after = then_went went d.step

  facts : OpensUnused v went n port now d
  facts = opens_unused v went h n port now d unused

  led_at : (m : ℕ) (p q : Port) → p.0 ≡ q.0 → LeadsToPort v m p → LeadsToPort v m q
  led_at m p q same l = record { index = l.index; client = l.client; nth = l.nth; connection = l.connection; pipe = l.pipe; has = l.has; node = l.node; at = l.at ∙ same }

  was : StoodAs v.group d.after (node_call_of d.step) n core
  was = stood_as v.group d.after went d.step n core stands

  -- at the port there is only that connection, with the next name
  named_next : (e : NodesEnd) → In e core.connections → e.port.0 ≡ port.0 → e.name ≡ next_name was.core
  named_next e i same = by (was.after.was e i)
    where
      by : IsOfOld was.core.connections e ⊎ IsOpened (node_call_of d.step) n was.core e → e.name ≡ next_name was.core
      by (inl o) = absurd (facts.no_lead (led_at n e.port port same (facts.old_led n was.core e was.stands o)))
      by (inr o) = o.new.name_is

  end_there : IsListed port core end
  end_there = listed_there port core end found

  has_name : HasName end.name d.after n
  has_name = let z = named_there end.name core.connections end end_there.among refl in record { core = core; stands = stands; connection = z.0; listed = z.1 }

  -- no client had a connection of its name
  fresh : IsKnown v end.name → ⊥
  fresh k =
      let placed = (h.each k.i k.c k.j k.κ k.p k.has).placed in
      let same = names_stay_apart nodes config d.after after end.name placed.earlier d.after k.p.node n (there placed.among) here
      (subst (λ (x : ConnectionName). HasName x placed.earlier k.p.node) k.name placed.had) has_name in
      let one = same_core placed.core was.core (sym placed.stands ∙ ap (slice_get v.group.nodes) same ∙ was.stands) in
      let o = (each_got _ v.group.nodes n was.core (all_well nodes config v.group went).0 was.stands).orderly in
      not_both was.core.last_name end.name (subst (Precedes was.core.last_name) (sym (named_next end end_there.among end_there.at)) (next_precedes was.core o.within))
      (subst (λ (z : CoreState). IsGiven z.last_name end.name) one (subst (IsGiven placed.core.last_name) k.name placed.given))

  unheard : IsUnheard after end.name
  unheard = by (h.known end.name)
    where
      by : IsUnheard went end.name ⊎ IsKnown v end.name → IsUnheard after end.name
      by (inl none) = facts.still_unheard end.name none
      by (inr k) = absurd (fresh k)

  -- the new one
  module _ (i : ℕ) (c : ClientPipes) (at : slice_get v.clients i ≡ Some c)
      (whole : IsPacket (packets.Connect (record { client = c.keeper.client; clean = false; keep_alive = 0 }))) where
    abbrev κ_new : ClientConnection
    κ_new = new_connection c.keeper.client end.name

    abbrev p_new : Pipe
    p_new = record { node = n; port = port; up = spelled (packets_of κ_new.written); down = []; came = record { bytes = []; failed = false } }

    abbrev later : ClientPipes
    later = after_connecting end.name n port c

    abbrev w : ByteWorld
    w = with_client i later (record v { group = d.after })

    new_holds : PipeHolds after κ_new p_new
    new_holds =
        let o = (each_got _ d.after.nodes n core (all_well nodes config d.after after).0 stands).orderly in
        record {
          placed = record {
            core = core;
            stands = stands;
            given = of_each (λ (z : NodesEnd). IsGiven core.last_name z.name) o.given end_there.among;
            ports = λ e j same. named_next e j same ∙ sym (named_next end end_there.among end_there.at);
            earlier = d.after;
            among = here;
            had = has_name;
          };
          up = record {
            later = p_new.up;
            joined = subst (λ (l : List ℕ). Joins (packets_of κ_new.written) (l ++ p_new.up)) (sym unheard.0) (joins_more [] (packets_of κ_new.written) [] (whole, tt) refl);
            still = λ z e a b f g. refl;
          };
          down = record { handled = []; counted = refl; whole = tt; is = sym unheard.1; sound = refl };
        }

    data Place (k l : ℕ) (κ : ClientConnection) (p : Pipe) : Type 0 where
      new : k ≡ i → l ≡ 0 → κ ≡ κ_new → p ≡ p_new → Place k l κ p
      old : (m : ℕ) (e : ClientPipes) → HasPipe v k e m κ p → ((k ≡ i) × (l ≡ suc m)) ⊎ ((k ≡ i → ⊥) × (l ≡ m)) → Place k l κ p

    some_is : {X : Type 0} (a b : X) → (let o : Option X = Some a in o) ≡ Some b → a ≡ b
    some_is a b e = cc

    place : (k : ℕ) (e : ClientPipes) (l : ℕ) (κ : ClientConnection) (p : Pipe) → HasPipe w k e l κ p → Place k l κ p
    place k e l κ p has = by (set_get v.clients i k c later e at has.client)
      where
        inner : k ≡ i → (m : ℕ) → l ≡ m → slice_get later.connections m ≡ Some κ → slice_get later.pipes m ≡ Some p → Place k l κ p
        inner same zero is f g = new same is (sym (some_is κ_new κ f)) (sym (some_is p_new p g))
        inner same (suc m) is f g = old m c (record { client = ap (slice_get v.clients) same ∙ at; connection = f; pipe = g }) (inl (same, is))

        by : ((k ≡ i) × (later ≡ e)) ⊎ ((k ≡ i → ⊥) × (slice_get v.clients k ≡ Some e)) → Place k l κ p
        by (inl (same, is)) =
            inner same l refl (ap (λ (z : ClientPipes). slice_get z.connections l) is ∙ has.connection) (ap (λ (z : ClientPipes). slice_get z.pipes l) is ∙ has.pipe)
        by (inr (apart, was_there)) = old l e (record { client = was_there; connection = has.connection; pipe = has.pipe }) (inr (apart, refl))

    abbrev Stays : ℕ → ClientConnection → Pipe → Type 0
    Stays k κ p = (e : ClientPipes) × (l : ℕ) × HasPipe w k e l κ p

    forth : (k : ℕ) (e : ClientPipes) (m : ℕ) (κ : ClientConnection) (p : Pipe) → HasPipe v k e m κ p → Stays k κ p
    forth k e m κ p has = by (same_or_other k i)
      where
        by : (k ≡ i) ⊎ (k ≡ i → ⊥) → Stays k κ p
        by (inl same) =
            let is : e ≡ c = some_is e c (sym has.client ∙ ap (slice_get v.clients) same ∙ at) in (
              later,
              suc m,
              record {
                client = ap (slice_get (set v.clients i later)) same ∙ get_set v.clients i c later at;
                connection = ap (λ (z : ClientPipes). slice_get z.connections m) (sym is) ∙ has.connection;
                pipe = ap (λ (z : ClientPipes). slice_get z.pipes m) (sym is) ∙ has.pipe;
              },
            )
        by (inr apart) = (e, m, record { client = get_set_other v.clients i k later apart ∙ has.client; connection = has.connection; pipe = has.pipe })

    new_there : HasPipe w i later 0 κ_new p_new
    new_there = record { client = get_set v.clients i c later at; connection = refl; pipe = refl }

    each_holds : (k : ℕ) (l : ℕ) (κ : ClientConnection) (p : Pipe) → Place k l κ p → PipeHolds after κ p
    each_holds k l κ p (new same is one two) = subst (λ (z : ClientConnection). PipeHolds after z p) (sym one) (subst (λ (z : Pipe). PipeHolds after κ_new z) (sym two) new_holds)
    each_holds k l κ p (old m e has is) = facts.old_holds k e m κ p has

    known_of : (k : ℕ) (e : ClientPipes) (m : ℕ) (κ : ClientConnection) (p : Pipe) → HasPipe v k e m κ p → κ.name ≡ end.name → IsKnown v end.name
    known_of k e m κ p has is = record { i = k; c = e; j = m; κ = κ; p = p; has = has; name = is }

    same_places : (k l a b m o : ℕ) → k ≡ a → m ≡ o → ((k ≡ i) × (l ≡ suc m)) ⊎ ((k ≡ i → ⊥) × (l ≡ m)) → ((a ≡ i) × (b ≡ suc o)) ⊎ ((a ≡ i → ⊥) × (b ≡ o)) → (k ≡ a) × (l ≡ b)
    same_places k l a b m o e f (inl p) (inl q) = (e, p.1 ∙ ap suc f ∙ sym q.1)
    same_places k l a b m o e f (inr p) (inr q) = (e, p.1 ∙ f ∙ sym q.1)
    same_places k l a b m o e f (inl p) (inr q) = absurd (q.0 (sym e ∙ p.0))
    same_places k l a b m o e f (inr p) (inl q) = absurd (p.0 (e ∙ q.0))

    one_place : (k l : ℕ) (κ : ClientConnection) (p : Pipe) (a b : ℕ) (μ : ClientConnection) (q : Pipe) → Place k l κ p → Place a b μ q → κ.name ≡ μ.name → (k ≡ a) × (l ≡ b)
    one_place k l κ p a b μ q (new s t x y) (new f g z u) same = (s ∙ sym f, t ∙ sym g)
    one_place k l κ p a b μ q (new s t x y) (old m e has is) same = absurd (fresh (known_of a e m μ q has (sym same ∙ ap (λ (z : ClientConnection). z.name) x)))
    one_place k l κ p a b μ q (old m e has is) (new f g z u) same = absurd (fresh (known_of k e m κ p has (same ∙ ap (λ (r : ClientConnection). r.name) z)))
    one_place k l κ p a b μ q (old m e has is) (old o r other at_too) same = let z = h.one k e m κ p a r o μ q has other same in same_places k l a b m o z.0 z.1 is at_too

    led_on : (m : ℕ) (q : Port) → LeadsToPort v m q → LeadsToPort w m q
    led_on m q l = let s = forth l.index l.client l.nth l.connection l.pipe l.has in record { index = l.index; client = s.0; nth = s.1; connection = l.connection; pipe = l.pipe; has = s.2; node = l.node; at = l.at }

    each_led : (m : ℕ) (z : CoreState) (e : NodesEnd) → slice_get d.after.nodes m ≡ Some z → In e z.connections → LeadsToPort w m e.port
    each_led m z e stood j = by (stood_as v.group d.after went d.step m z stood).core (stood_as v.group d.after went d.step m z stood).stands ((stood_as v.group d.after went d.step m z stood).after.was e j)
      where
        by : (before : CoreState) → slice_get v.group.nodes m ≡ Some before → IsOfOld before.connections e ⊎ IsOpened (node_call_of d.step) m before e → LeadsToPort w m e.port
        by before at_before (inl o) = led_on m e.port (facts.old_led m before e at_before o)
        by before at_before (inr o) =
            let f = facts.opened_there m before e o in record { index = i; client = later; nth = 0; connection = κ_new; pipe = p_new; has = new_there; node = sym f.0; at = sym f.1 }

    each_known : (x : ConnectionName) → IsUnheard went x ⊎ IsKnown v x → IsUnheard after x ⊎ IsKnown w x
    each_known x (inl none) = inl (facts.still_unheard x none)
    each_known x (inr k) = let s = forth k.i k.c k.j k.κ k.p k.has in inr (record { i = k.i; c = s.0; j = s.1; κ = k.κ; p = k.p; has = s.2; name = k.name })

    pub connects_holds : Holds (with_client i (after_connecting end.name n port c) (record v { group = d.after })) (then_went went d.step)
    connects_holds =
        record {
          each = λ k e l κ p has. each_holds k l κ p (place k e l κ p has);
          one = λ k e l κ p a f b μ q has other same. one_place k l κ p a b μ q (place k e l κ p has) (place a f b μ q other) same;
          used = each_led;
          known = λ x. each_known x (h.known x);
        }
