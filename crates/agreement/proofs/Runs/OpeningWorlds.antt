-- OpeningWorlds.antt: a group opens soundly, and so its nodes agree after whatever happens.
use Rattle.std.proofs.Common.{◌≡◌, ℕ, zero, suc, ◌+◌, ◌<◌, ◌⊎◌, inl, inr, [], ◌∷◌, length, Some, refl, ap, sym, ◌∙◌, subst, arith}
use Rattle.std.specs.Prelude.{slice_get}
use Rattle.std.proofs.lemmas.List.{length-append}
use Rattle.machine.specs.Machine.{Rules}
use Rattle.ballot_base.specs.declared.config.Config.{Config}
use Rattle.agreement.specs.whole_logs.Replica.{ReplicaState, opening}
use Rattle.agreement.specs.World.{opening_nodes, opening_world}
use Rattle.lists.specs.Lists.{In, IsPrefixOf}
use Rattle.lists.specs.Lists.In.{here, there}
use Rattle.agreement.specs.Inside.Ballots.{Given, Line, IsChosenIn}
use Rattle.agreement.specs.Inside.Ballots.Acknowledged.{told_at_opening}
use Rattle.agreement.specs.Inside.Masters.{IsMaster}
use Rattle.agreement.specs.Inside.OpeningHistory.{first_ballot, first_line, opening_history}
use Rattle.agreement.specs.MasterState.{opening_master}
use Rattle.agreement.specs.Inside.Sound.{IsSoundWorld}
use Rattle.agreement.specs.Inside.SoundNodes.{IsSoundNode}
use Rattle.lists.proofs.Prefixes.{prefix_same}
use Rattle.agreement.proofs.Frame.Giving.{get_pushed_to}
use Rattle.agreement.proofs.Runs.OpeningTold.{first_given, first_lined, told_opens}
use Rattle.agreement.proofs.Runs.OpeningNodes.{node_opens}

-- the nodes that open
opening_length : {S C O : Type 0} (rules : Rules S C O) (nodes : ℕ) (config : Config) → length (opening_nodes rules nodes config) ≡ nodes
opening_length rules zero config = refl
opening_length rules (suc n) config =
    let e = opening_length rules n config in omega (arith, e, length-append (opening_nodes rules n config) (opening rules (n + 1) config ∷ []))

pub opens_node : {S C O : Type 0} (rules : Rules S C O) (nodes : ℕ) (config : Config) (n : ℕ) (r : ReplicaState S C) → slice_get (opening_nodes rules nodes config) n ≡ Some r →
    opening rules (n + 1) config ≡ r
opens_node rules zero config n r e = cc
opens_node rules (suc k) config n r e =
    by_last (opens_node rules k config n r) (get_pushed_to (opening_nodes rules k config) (opening rules (k + 1) config) r n e)
  where
    by_last : (slice_get (opening_nodes rules k config) n ≡ Some r → opening rules (n + 1) config ≡ r) →
        ((slice_get (opening_nodes rules k config) n ≡ Some r) × (n < length (opening_nodes rules k config)))
        ⊎ ((n ≡ length (opening_nodes rules k config)) × (opening rules (k + 1) config ≡ r)) → opening rules (n + 1) config ≡ r
    by_last before (inl (f, less)) = before f
    by_last before (inr (same, f)) = ap (λ j. opening rules (j + 1) config) (same ∙ opening_length rules k config) ∙ f

-- a later ballot is none of the first
none_later : (C : Type 0) (config : Config) (b : ℕ) (g : Given) → (opening_history C config).given b ≡ Some g → 0 < g.previous → ⊥
none_later C config b g e later =
    let z = ap (λ (x : Given). x.previous) (first_given C config b g e).1 in omega (arith, later, z)

-- a world that opens is sound
pub opening_sound : {S C O : Type 0} (rules : Rules S C O) (nodes : ℕ) (config : Config) → In config.primary config.members →
    IsSoundWorld rules (opening_world rules nodes config) (opening_history C config)
opening_sound {S = S} {C = C} {O = O} rules nodes config led =
    record {
      ballots = record {
        chain = refl;
        first = λ b g e. inl (first_given C config b g e).0;
        previous = λ b g e later. absurd (none_later C config b g e later);
        gap = λ b g e later c i less. absurd (none_later C config b g e later);
        were_given = λ b i. were_given b i;
        led = λ b g e. subst (λ (x : Given). In x.primary x.members) (first_given C config b g e).1 led;
      };
      lines = record {
        lined = λ b l e. (first_ballot config, ap (opening_history C config).given (first_lined C config b l e).0);
        prefix = λ b l e. subst (λ (x : Line C). IsPrefixOf x.base x.list) (first_lined C config b l e).1 (prefix_same []);
        sealed = λ b g l e later f. absurd (none_later C config b g e later);
        base_in = λ b g l e later f. absurd (none_later C config b g e later);
        still = λ b l e. inr (let z = (first_lined C config b l e).1 in
            sym (ap (λ (x : Line C). x.list) z) ∙ ap (λ (x : Line C). x.base) z);
        told = λ b i. told b i;
      };
      within = λ m b k t. inl (told_opens rules nodes config led m b k t).1;
      said = λ to m i. elim i [ ];
      nodes = λ n r e. subst (λ (x : ReplicaState S C). IsSoundNode (opening_world rules nodes config) (opening_history C config) n x)
          (opens_node rules nodes config n r e) (node_opens rules nodes config n led);
      left = record {
        segments = [];
        left = λ agreed bounds. refl;
        chosen = λ s i. elim i [ ];
        applied = λ s i g e n is r f. elim i [ ];
        in_order = λ i j s t e f less. cc;
      };
    }
  where
    were_given : (b : ℕ) → In b (1 ∷ []) → (g : Given) × ((opening_history C config).given b ≡ Some g) × (0 < b)
    were_given b here = (first_ballot config, refl, omega arith)
    were_given b (there i) = elim i [ ]

    told : (b : ℕ) → In b (1 ∷ []) → (l : Line C) × ((opening_history C config).line b ≡ Some l)
        × IsChosenIn (opening_world rules nodes config) (opening_history C config) b (length l.base)
    told b here = (first_line C, refl, (first_ballot config, refl, λ m i. told_at_opening (first_ballot config) refl refl refl i))
    told b (there i) = elim i [ ]

-- and so is its master
pub opening_is_master : (C : Type 0) (greatest : ℕ) (config : Config) → IsMaster (opening_master greatest config) (opening_history C config)
opening_is_master C greatest config =
    record {
      older = [];
      newest = refl;
      active_members = (first_ballot config, refl, refl);
      numbered = λ b g e. let z = (first_given C config b g e).0 in (omega (arith, z), omega (arith, z));
      waits = λ b c e. cc;
    }
