-- The moments of a group whose nodes cut their logs, from its opening on.
use Rattle.std.specs.Prelude.{ℕ, zero, suc, ◌+◌, ◌≡◌, true, List, [], ◌∷◌, ◌++◌, map}
use Rattle.machine.specs.Machine.{Rules}
use Rattle.agreement.specs.MasterState.{MasterState, opening_master}
use Rattle.agreement.specs.Moments.{IsAgreed as IsAgreedWhole, Moment as WholeMoment}
use Rattle.agreement.specs.World.{can_open}
use Rattle.ballot_base.specs.declared.config.Config.{Config}
use Rattle.ballot_base.specs.Replica.{ReplicaState, opening}
use Rattle.agreement.specs.cut_logs.Steps.{MayHappen}
use Rattle.agreement.specs.cut_logs.World.{CutGroupWorld, whole_world}

-- a moment of a group: the master and the world
pub record Moment (S C O : Type 0) : Type 0 where
  pub master : MasterState
  pub world : CutGroupWorld S C O

-- the moment on whole logs
abbrev pub whole_moment : {S C O : Type 0} → Moment S C O → WholeMoment S C O
whole_moment moment = record { master = moment.master; world = whole_world moment.world }

-- the nodes as they open: no log has a place
abbrev pub opening_nodes : {S C O : Type 0} → Rules S C O → ℕ → Config → List (ReplicaState S C)
opening_nodes rules zero config = []
opening_nodes rules (suc count) config =
    opening_nodes rules count config ++ opening rules (count + 1) config ∷ []

-- the world as it opens: nothing was sent
abbrev pub opening_world : {S C O : Type 0} → Rules S C O → ℕ → Config → CutGroupWorld S C O
opening_world rules nodes config =
    record { nodes = opening_nodes rules nodes config; sent = []; left = []; archive = [] }

-- the group as it opens
abbrev pub opening_moment : {S C O : Type 0} → Rules S C O → ℕ → ℕ → Config → Moment S C O
opening_moment rules greatest nodes config =
    record { master = opening_master greatest config; world = opening_world rules nodes config }

-- the moments that were, the present one first -- history: no field keeps it
pub data Moments {S C O : Type 0} (rules : Rules S C O) (config : Config) :
    List (Moment S C O) → Type 0 where
  -- the group opens with a configuration; its nodes have numbers up to any greatest one
  began : {moment : Moment S C O} (greatest nodes : ℕ) → can_open greatest nodes config ≡ true →
      moment ≡ opening_moment rules greatest nodes config → Moments rules config (moment ∷ [])
  -- one more step
  went_on : {moment next : Moment S C O} {moments : List (Moment S C O)} →
      Moments rules config (moment ∷ moments) →
      MayHappen rules moment.master moment.world next.master next.world →
      Moments rules config (next ∷ moment ∷ moments)

-- the agreed list: the longest that is chosen in a ballot that was active, of the whole logs
abbrev pub IsAgreed : {S C O : Type 0} → Config → List (Moment S C O) → List C → Type 0
IsAgreed config moments list = IsAgreedWhole config (map whole_moment moments) list
