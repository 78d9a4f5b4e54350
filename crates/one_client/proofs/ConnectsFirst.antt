-- Whatever bytes come to the nodes of a group, a Connect that they propose came first on its connection.
use Rattle.std.proofs.Common.{◌≡◌, ◌⊎◌, inl, inr, ℕ, Bool, List, [], ◌∷◌, ◌++◌, length, Option, Some, None, slice_get, slice_set, refl, sym, ap, ◌∙◌, subst}
use Rattle.std.proofs.lemmas.List.{append-nil}
use Rattle.lists.specs.Lists.{Each, In}
use Rattle.lists.specs.Lists.In.{here, there}
use Rattle.lists.proofs.Members.{in_append}
use Rattle.ballot_base.specs.declared.config.Config.{Config}
use Rattle.agreement.specs.MasterState.{refusal}
use Rattle.agreement.specs.Proposals.{commands_of}
use Rattle.broker_spec.specs.Connection.{ConnectionName}
use Rattle.broker_spec.specs.EndingTheorems.{is_connect_of}
use Rattle.broker_spec.specs.Place.{Client}
use Rattle.broker_spec.proofs.ConnectionNames.{same_name}
use Rattle.world_base.specs.declared.node_connections.connection.Connection.{Connection}
use Rattle.world_base.specs.node_core.Core.{CoreState, StepOutcome}
use Rattle.headline.specs.node_moves.Closed.{listed_named}
use Rattle.headline.specs.node_moves.Ends.{IsGiven, IsOrderly}
use Rattle.headline.specs.node_moves.LossyRuns.{MoveTraceOrLost, bytes_on}
use Rattle.headline.specs.node_moves.Moves.NodeCall.{takes}
use Rattle.headline.proofs.of_node_moves.Kept.{named}
use Rattle.headline.proofs.of_node_moves.Views.{found_each, found_passes}
use Rattle.headline.proofs.of_packet_world.Lists.{same_or_other}
use Rattle.headline.specs.node_group.Group.{Group, opening_cores}
use Rattle.headline.specs.node_group.Losses.{put_in_run}
use Rattle.headline.specs.node_group.Steps.{GroupStep, GroupTrace, all_proposed, groups_on_trace, put_in_step}
use Rattle.headline.specs.node_group.Steps.GroupStep.{node_acts, node_loses, master_assigns, master_hears, assigns_unheard, answers_unheard}
use Rattle.headline.specs.node_group.Steps.GroupTrace.{opened, then_went}
use Rattle.headline.specs.node_group.Streams.{came_up, comes_up}
use Rattle.headline.proofs.of_node_group.CarriedInOrder.{assigned_nodes, no_connections}
use Rattle.headline.proofs.of_node_group.LosingNone.{losing_none, same_bytes, same_put}
use Rattle.headline.proofs.of_node_group.NamesInGroups.{all_well, each_got}
use Rattle.headline.proofs.of_node_group.Placed.{get_of_set}
use Rattle.headline.proofs.of_node_group.States.{set_back}
use Rattle.headline.specs.byte_world.Apart.{HasName}
use Rattle.headline.specs.byte_world.Transport.{IsFaithful}
use Rattle.headline.proofs.of_byte_world.NamesApart.{names_stay_apart}
use Rattle.headline.proofs.of_byte_world.NodesGoOn.{came_so}
use Rattle.headline.proofs.of_byte_world.PipesHold.{found_in}
use Rattle.one_client.specs.Calls.{AreFaithful}
use Rattle.one_client.specs.ConnectsFirst.{ConnectsAs, ConnectsCameFirst}
use Rattle.one_client.proofs.AgreedCommands.{passing}
use Rattle.one_client.proofs.ConnectsOnce.{no_end, rows_joined, silent_run, unlisted_silent}
use Rattle.one_client.proofs.PortBytes.{now_there, same_core}
use Rattle.one_client.proofs.PortNames.{had_given, named_there}
use Rattle.one_client.proofs.RunsHold.{HoldsAll, StaysKnown, connect_of, is_its, longer_connects, run_holds}

-- some node had a connection of the name
record WasSomewhere (x : ConnectionName) {nodes : ℕ} {config : Config} {g : Group} (went : GroupTrace nodes config g) : Type 0 where
  node : ℕ
  earlier : Group
  among : In earlier (groups_on_trace went)
  is : HasName x earlier node

record ComesFirst (x : ConnectionName) {nodes : ℕ} {config : Config} {g : Group} (went : GroupTrace nodes config g) : Type 0 where
  holds : (n : ℕ) (core : CoreState) → slice_get g.nodes n ≡ Some core → Each (HoldsAll x (came_up x went)) core.connections
  known : (came_up x went ≡ []) ⊎ WasSomewhere x went
  puts : (client : Client) (clean : Bool) → In (connect_of x client clean) (commands_of (all_proposed went)) → ConnectsAs (came_up x went) client

each_among : (P : Connection → Type 0) (cs : List Connection) → ((c : Connection) → In c cs → P c) → Each P cs
each_among P [] all = tt
each_among P (c ∷ cs) all = (all c here, each_among P cs (λ d i. all d (there i)))

none_in : {X : Type 0} (x : X) (xs : List X) → length xs ≡ 0 → In x xs → ⊥
none_in x [] e i = elim i [ ]
none_in x (y ∷ xs) e i = cc

has_it : (x : ConnectionName) (g : Group) (k : ℕ) (z : CoreState) (c : Connection) → slice_get g.nodes k ≡ Some z → In c z.connections → c.name ≡ x → HasName x g k
has_it x g k z c at i is = let w = named_there x z.connections c i is in record { core = z; stands = at; connection = w.0; listed = w.1 }

given_name : (x : ConnectionName) (core : CoreState) (d : Connection) → IsOrderly core → listed_named x core ≡ Some d → IsGiven core.last_name x
given_name x core d o listed =
    subst (IsGiven core.last_name) (same_name d.name x (found_passes (named x) core.connections d listed))
    (found_each (λ (c : Connection). IsGiven core.last_name c.name) (named x) core.connections d o.given listed)

module _ (x : ConnectionName) {nodes : ℕ} {config : Config} {g h : Group} (went : GroupTrace nodes config g) (step : GroupStep g h) (s : ComesFirst x went) where
  later_somewhere : WasSomewhere x went → WasSomewhere x (then_went went step)
  later_somewhere w = record { node = w.node; earlier = w.earlier; among = there w.among; is = w.is }

  -- what was proposed before, and in the step
  puts_then : ((client : Client) (clean : Bool) → In (connect_of x client clean) (commands_of (put_in_step step)) → ConnectsAs (came_up x went ++ comes_up x step) client) → (client : Client) (clean : Bool)
      → In (connect_of x client clean) (commands_of (all_proposed went ++ put_in_step step)) → ConnectsAs (came_up x went ++ comes_up x step) client
  puts_then now client clean i =
      by (in_append (commands_of (all_proposed went)) (commands_of (put_in_step step)) (subst (In (connect_of x client clean)) (rows_joined (all_proposed went) (put_in_step step)) i))
    where
      by : In (connect_of x client clean) (commands_of (all_proposed went)) ⊎ In (connect_of x client clean) (commands_of (put_in_step step)) → ConnectsAs (came_up x went ++ comes_up x step) client
      by (inl j) = longer_connects (came_up x went) (comes_up x step) client (s.puts client clean j)
      by (inr j) = now client clean j

  -- nothing comes on the name
  same_came : comes_up x step ≡ [] → came_up x went ≡ came_up x went ++ comes_up x step
  same_came none = sym (append-nil (came_up x went)) ∙ ap (λ l. came_up x went ++ l) (sym none)

  rests_first : h.nodes ≡ g.nodes → put_in_step step ≡ [] → comes_up x step ≡ [] → ComesFirst x (then_went went step)
  rests_first are none silent =
      record {
        holds = λ n core at. subst (λ l. Each (HoldsAll x l) core.connections) (same_came silent) (s.holds n core (ap (λ l. slice_get l n) (sym are) ∙ at));
        known = known s.known;
        puts = puts_then (λ client clean i. absurd (none_in (connect_of x client clean) (commands_of (put_in_step step)) (ap (λ l. length (commands_of l)) none) i));
      }
    where
      known : (came_up x went ≡ []) ⊎ WasSomewhere x went → (came_up x went ++ comes_up x step ≡ []) ⊎ WasSomewhere x (then_went went step)
      known (inl e) = inl (sym (same_came silent) ∙ e)
      known (inr w) = inr (later_somewhere w)

  -- a node acts
  module _ (m : ℕ) (core : CoreState) (outcome : StepOutcome) (run : MoveTraceOrLost core outcome) (at : slice_get g.nodes m ≡ Some core) (are : h.nodes ≡ slice_set g.nodes m outcome.core)
      (rows : put_in_run run ≡ put_in_step step) (bytes : bytes_on x run ≡ comes_up x step) (silent : listed_named x core ≡ None → bytes_on x run ≡ []) where
    o : IsOrderly core
    o = (each_got _ g.nodes m core (all_well nodes config g went).0 at).orderly

    -- each node after the step
    holds_then : Each (HoldsAll x (came_up x went ++ comes_up x step)) outcome.core.connections
        → ((k : ℕ) (z : CoreState) → (k ≡ m → ⊥) → slice_get g.nodes k ≡ Some z → Each (HoldsAll x (came_up x went ++ comes_up x step)) z.connections)
        → (k : ℕ) (z : CoreState) → slice_get h.nodes k ≡ Some z → Each (HoldsAll x (came_up x went ++ comes_up x step)) z.connections
    holds_then mine others k z stood = by (same_or_other k m)
      where
        by : (k ≡ m) ⊎ (k ≡ m → ⊥) → Each (HoldsAll x (came_up x went ++ comes_up x step)) z.connections
        by (inl same) =
            subst (λ (w : CoreState). Each (HoldsAll x (came_up x went ++ comes_up x step)) w.connections)
            (same_core outcome.core z (sym (get_of_set g.nodes m core outcome.core at) ∙ sym (ap (λ l. slice_get l m) are) ∙ ap (slice_get h.nodes) (sym same) ∙ stood)) mine
        by (inr apart) = on (set_back g.nodes m k outcome.core z (ap (λ l. slice_get l k) (sym are) ∙ stood))
          where
            on : ((k ≡ m) × (z ≡ outcome.core)) ⊎ (slice_get g.nodes k ≡ Some z) → Each (HoldsAll x (came_up x went ++ comes_up x step)) z.connections
            on (inl (same, is)) = absurd (apart same)
            on (inr was) = others k z apart was

    -- as the run has it
    with_run : StaysKnown x (came_up x went) (bytes_on x run) core
        → ((k : ℕ) (z : CoreState) → (k ≡ m → ⊥) → slice_get g.nodes k ≡ Some z → Each (HoldsAll x (came_up x went ++ comes_up x step)) z.connections)
        → (came_up x went ++ comes_up x step ≡ []) ⊎ WasSomewhere x (then_went went step) → ComesFirst x (then_went went step)
    with_run stays others known =
        let r = run_holds x (came_up x went) core outcome run o stays (s.holds m core at) in
        record {
          holds = holds_then (subst (λ l. Each (HoldsAll x (came_up x went ++ l)) outcome.core.connections) bytes r.holds) others;
          known = known;
          puts = puts_then (λ client clean i.
              subst (λ l. ConnectsAs (came_up x went ++ l) client) bytes (r.puts client clean (subst (λ l. In (connect_of x client clean) (commands_of l)) (sym rows) i)));
        }

    -- it has the name
    listed_so : (d : Connection) → listed_named x core ≡ Some d → ComesFirst x (then_went went step)
    listed_so d listed =
        with_run (inl (given_name x core d o listed))
        (λ k z apart was.
        each_among (HoldsAll x (came_up x went ++ comes_up x step)) z.connections
        (λ c i is waits. absurd (apart (names_stay_apart nodes config g went x g g k m (now_there went) (now_there went) (has_it x g k z c was i is) mine))))
        (inr (record { node = m; earlier = g; among = there (now_there went); is = mine }))
      where
        mine : HasName x g m
        mine = record { core = core; stands = at; connection = d; listed = listed }

    -- it does not
    unlisted_so : listed_named x core ≡ None → ComesFirst x (then_went went step)
    unlisted_so none = by s.known
      where
        nothing : comes_up x step ≡ []
        nothing = sym bytes ∙ silent none

        others : (k : ℕ) (z : CoreState) → (k ≡ m → ⊥) → slice_get g.nodes k ≡ Some z → Each (HoldsAll x (came_up x went ++ comes_up x step)) z.connections
        others k z apart was = subst (λ l. Each (HoldsAll x l) z.connections) (same_came nothing) (s.holds k z was)

        elsewhere : (w : WasSomewhere x went) → (w.node ≡ m) ⊎ (w.node ≡ m → ⊥) → ComesFirst x (then_went went step)
        elsewhere w (inl same) =
            with_run
            (inl
            (subst (IsGiven core.last_name) (same_name w.is.connection.name x (found_passes (named x) w.is.core.connections w.is.connection w.is.listed))
            (had_given went m core w.is.connection at
            (record {
              earlier = w.earlier;
              among = w.among;
              core = w.is.core;
              stands = ap (slice_get w.earlier.nodes) (sym same) ∙ w.is.stands;
              listed = found_in (named x) w.is.core.connections w.is.connection w.is.listed;
            })))) others (inr (later_somewhere w))
        elsewhere w (inr apart) =
            record {
              holds = holds_then
                  (each_among (HoldsAll x (came_up x went ++ comes_up x step)) outcome.core.connections
                  (λ c i is waits.
                  absurd
                  (apart
                  (names_stay_apart nodes config h (then_went went step) x w.earlier h w.node m (there w.among) here w.is
                  (has_it x h m outcome.core c (ap (λ l. slice_get l m) are ∙ get_of_set g.nodes m core outcome.core at) i is))))) others;
              known = inr (later_somewhere w);
              puts = puts_then (λ client clean i.
                  absurd
                  (none_in (connect_of x client clean) _ (silent_run x core outcome run o (no_end x core none) (silent none))
                  (passing (is_connect_of x) (commands_of (put_in_run run)) (connect_of x client clean)
                  (subst (λ l. In (connect_of x client clean) (commands_of l)) (sym rows) i) (is_its x client clean))));
            }

        by : (came_up x went ≡ []) ⊎ WasSomewhere x went → ComesFirst x (then_went went step)
        by (inl empty) = with_run (inr (empty, silent none)) others (inl (sym (same_came nothing) ∙ empty))
        by (inr w) = elsewhere w (same_or_other w.node m)

    acts_first : ComesFirst x (then_went went step)
    acts_first = by (listed_named x core) refl
      where
        by : (p : Option Connection) → listed_named x core ≡ p → ComesFirst x (then_went went step)
        by None e = unlisted_so e
        by (Some d) e = listed_so d e

step_first : (x : ConnectionName) {nodes : ℕ} {config : Config} (g h : Group) (went : GroupTrace nodes config g) (step : GroupStep g h) → IsFaithful step → ComesFirst x went → ComesFirst x (then_went went step)
step_first x g h went (node_acts n core node_call outcome run at is first sent) faithful s =
    acts_first x went (node_acts n core node_call outcome run at is first sent) s n core outcome (losing_none run) at refl (same_put run) (same_bytes x run)
    (λ none. same_bytes x run ∙ (faithful x).0 ∙ unlisted_silent x node_call core none)
step_first x g h went (node_loses n core item outcome kept by at runs sent thinned) faithful s =
    acts_first x went (node_loses n core item outcome kept by at runs sent thinned) s n core outcome by.run at refl refl (by.bytes x)
    (λ none. by.bytes x ∙ came_so x item core ∙ unlisted_silent x (takes item) core none)
step_first x g h went (master_assigns wanted) faithful s = rests_first x went (master_assigns wanted) s (assigned_nodes g wanted (refusal g.master wanted)) refl refl
step_first x g h went (master_hears from ballot sent) faithful s = rests_first x went (master_hears from ballot sent) s refl refl refl
step_first x g h went (assigns_unheard wanted) faithful s = rests_first x went (assigns_unheard wanted) s refl refl refl
step_first x g h went (answers_unheard from ballot sent) faithful s = rests_first x went (answers_unheard from ballot sent) s refl refl refl

all_first : (x : ConnectionName) {nodes : ℕ} {config : Config} (g : Group) (went : GroupTrace nodes config g) → AreFaithful went → ComesFirst x went
all_first x {nodes} {config} g (opened greatest can) faithful =
    record {
      holds = λ n core at.
          subst (Each (HoldsAll x [])) (sym (each_got (λ (c : CoreState). c.connections ≡ []) (opening_cores nodes config) n core (no_connections nodes config) at)) tt;
      known = inl refl;
      puts = λ client clean i. elim i [ ];
    }
all_first x h (then_went {group = g} went step) faithful = step_first x g h went step faithful.1 (all_first x g went faithful.0)

pub connects_came_first : ConnectsCameFirst
connects_came_first nodes config g went x client clean faithful i = (all_first x g went faithful).puts client clean i
