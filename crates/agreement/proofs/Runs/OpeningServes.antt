-- OpeningServes.antt: a group opens as it should be.
use Rattle.std.proofs.Common.{Bool, cond, inl, ◌≡◌, ℕ, zero, suc, ◌+◌, true, false, [], ◌∷◌, length, refl, subst, arith}
use Rattle.std.specs.Prelude.{◌==◌}
use Rattle.std.proofs.lemmas.List.{length-append}
use Rattle.machine.specs.Machine.{Rules}
use Rattle.ballot_base.specs.declared.config.Config.{Config}
use Rattle.ballot_base.specs.declared.status.Role.TheVariants.{Active}
use Rattle.agreement.specs.whole_logs.Replica.{ReplicaState, opening, opening_member}
use Rattle.ballot_base.specs.Replica.{progress_at, others}
use Rattle.agreement.specs.World.{can_open, opening_nodes, opening_world}
use Rattle.agreement.specs.Inside.Masters.{IsServing}
use Rattle.agreement.specs.Inside.Begun.{AreLong}
use Rattle.agreement.specs.Inside.Serves.{IsLedByNode, Serves}
use Rattle.agreement.specs.Inside.OpeningHistory.{first_ballot, opening_history}
use Rattle.agreement.specs.MasterState.{opening_master}
use Rattle.agreement.specs.Replays.{IsReplay, AreReplays}
use Rattle.agreement.specs.Inside.Sound.{IsSoundWorld}
use Rattle.agreement.proofs.Masters.Assigns.{can_open_is, lawful_is}
use Rattle.agreement.proofs.Runs.RunsGoOn.{opening_begun}
use Rattle.agreement.proofs.Runs.OpeningTold.{first_given}
use Rattle.agreement.proofs.Runs.OpeningWorlds.{opens_node, opening_sound, opening_is_master}

-- how many nodes open
nodes_open : {S C O : Type 0} (rules : Rules S C O) (nodes : ℕ) (config : Config) → length (opening_nodes rules nodes config) ≡ nodes
nodes_open rules zero config = refl
nodes_open rules (suc n) config =
    let e = nodes_open rules n config in omega (arith, e, length-append (opening_nodes rules n config) (opening rules (n + 1) config ∷ []))

-- a group that opens
opening_serves : (greatest : ℕ) (config : Config) → IsServing (opening_master greatest config)
opening_serves greatest config = record { waiting = λ b c f. cc; given = omega arith }

-- its primary is one of the nodes
opening_led : {S C O : Type 0} (rules : Rules S C O) (greatest nodes : ℕ) (config : Config) → can_open greatest nodes config ≡ true →
    IsLedByNode (length (opening_world rules nodes config).nodes) (opening_history C config) 1
opening_led {C = C} rules greatest nodes config e =
    let lawful = lawful_is greatest config (can_open_is greatest nodes config e).0 in
    let within = (can_open_is greatest nodes config e).1 config.primary lawful.0 in
    let number = lawful.1 config.primary lawful.0 in
    let there = nodes_open rules nodes config in
    (first_ballot config, refl, (number.0, number.1, (let is = number.1 in omega (arith, is, within, there))))

-- the first ballot alone has an active primary
opening_long : {S C O : Type 0} (rules : Rules S C O) (nodes : ℕ) (config : Config) →
    IsSoundWorld rules (opening_world rules nodes config) (opening_history C config) → AreLong (opening_world rules nodes config) (opening_history C config)
opening_long {C = C} rules nodes config s n r e active =
    let a = (s.nodes n r e).active active in inl (first_given C config r.joined a.leads.0 a.leads.1).0

-- machines open as replays of nothing
opening_replays : {S C O : Type 0} (rules : Rules S C O) (nodes : ℕ) (config : Config) → AreReplays rules (opening_world rules nodes config)
opening_replays {S = S} {C = C} rules nodes config n r e runs =
    subst (λ (x : ReplicaState S C). IsReplay rules x) (opens_node rules nodes config n r e) (opens_replay rules (n + 1) config)
  where
    opens_replay : {S C O : Type 0} (rules : Rules S C O) (id : ℕ) (config : Config) → IsReplay rules (opening rules id config)
    opens_replay rules id config = by_role (id == config.primary)
      where
        by_role : (b : Bool) → IsReplay rules (cond b (record (opening_member rules id config) {
          role = Active;
          members = config.members;
          progress = progress_at 0 (others id config.members);
        }) (opening_member rules id config))
        by_role true = refl
        by_role false = refl

-- a group serves as it opens
pub opening_is_serving : {S C O : Type 0} (rules : Rules S C O) (greatest nodes : ℕ) (config : Config) → can_open greatest nodes config ≡ true →
    Serves rules (opening_master greatest config) (opening_world rules nodes config) (opening_history C config)
opening_is_serving {C = C} rules greatest nodes config e =
    let first = opening_sound rules nodes config (lawful_is greatest config (can_open_is greatest nodes config e).0).0 in
    record {
      sound = first;
      master = opening_is_master C greatest config;
      replays = opening_replays rules nodes config;
      serving = opening_serves greatest config;
      senders = λ to m i. elim i [ ];
      led = opening_led rules greatest nodes config e;
      begun = opening_begun rules.start_of config;
      long = opening_long rules nodes config first;
    }
