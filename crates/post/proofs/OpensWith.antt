-- OpensWith.antt: what a node shows as it opens.
use Rattle.std.proofs.Common.{◌≡◌, ℕ, ◌==◌, Bool, true, false, refl}
use Rattle.ballot_base.specs.Replica.{status_of}
use Rattle.ballot_base.specs.declared.config.Config.{Config}
use Rattle.post.specs.Numbers.{NodesShowHowTheyOpen, opening_status}
use Rattle.world_base.specs.node_core.Core.{opening_core}

shows : (number : ℕ) (config : Config) (b : Bool) → (number == config.primary) ≡ b
    → status_of (opening_core number config).replica.state ≡ opening_status number config
shows number config true is = rw is refl
shows number config false is = rw is refl

pub shows_how_it_opens : NodesShowHowTheyOpen
shows_how_it_opens number config = shows number config (number == config.primary) refl
