-- Nodes open as a group does.
use Rattle.std.proofs.Common.{◌≡◌, ℕ, suc, ◌+◌, List, [], ◌∷◌, ◌++◌, sym, ap, ◌∙◌, subst, arith}
use Rattle.std.proofs.lemmas.List.{map-append}
use Rattle.agreement.specs.MasterState.{MasterState, opening_master}
use Rattle.ballot_base.specs.LawfulConfig.{max_node}
use Rattle.ballot_base.specs.declared.config.Config.{Config}
use Rattle.ballot_base.specs.declared.message.Message.{Message}
use Rattle.broker_spec.specs.declared.command.Command.{Command}
use Rattle.world_base.specs.node_core.Core.{CoreState, CountedCore, opening_core}
use Rattle.headline.specs.node_group.Group.{opening_cores, opening_group}
use Rattle.world_nodes.specs.Nodes.{NodesStandFor, cores_of}

pub opened_more : (config : Config) (at : ℕ) (opened later : List CountedCore) (node : CountedCore) → cores_of opened ≡ opening_cores at config
    → node ≡ record { core = opening_core (at + 1) config; losses = 0 } → later ≡ opened ++ node ∷ [] → cores_of later ≡ opening_cores (at + 1) config
opened_more config at opened later node before fresh is =
    subst (λ (k : ℕ). cores_of later ≡ opening_cores k config) (let e : suc at ≡ at + 1 = omega arith in e)
    (ap cores_of is ∙ map-append (λ (c : CountedCore). c.core) opened (node ∷ [])
    ∙ ap (λ (l : List CoreState). l ++ node.core ∷ []) before
    ∙ ap (λ (c : CountedCore). opening_cores at config ++ c.core ∷ []) fresh)

pub opened_all : (config : Config) (nodes at : ℕ) (master : MasterState) (opened : List CountedCore) (sent : List (ℕ × Message Command)) (archive : List Command) (losses : ℕ)
    → master ≡ opening_master max_node config → cores_of opened ≡ opening_cores at config → at ≡ nodes → sent ≡ [] → archive ≡ []
    → NodesStandFor (opening_group max_node nodes config) (record { master = master; nodes = opened; sent = sent; archive = archive; losses = losses })
opened_all config nodes at master opened sent archive losses m cores same none bare =
    record {
      master = sym m;
      nodes = ap (λ (k : ℕ). opening_cores k config) (sym same) ∙ sym cores;
      sent = sym none;
      archive = sym bare;
    }
