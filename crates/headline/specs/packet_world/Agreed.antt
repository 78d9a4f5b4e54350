-- What the agreement of nodes says about the order in which a connection's packets are in the
-- agreed list.
use Rattle.std.specs.Prelude.{ℕ, Bool, List, ◌∷◌, filter}
use Rattle.machine.specs.Machine.{Rules}
use Rattle.lists.specs.Lists.{IsPrefixOf}
use Rattle.ballot_base.specs.declared.config.Config.{Config}
use Rattle.agreement.specs.cut_logs.Moments.{Moment, Moments, IsAgreed}
use Rattle.agreement.specs.Proposals.{IsOfBallot, IsPartOf, commands_of}
use Rattle.agreement.specs.cut_logs.Proposals.{proposals_of, taken_of}

-- Of the commands that were taken only in one ballot, such as those of one connection, the agreed
-- list has a prefix in the order of proposing.
abbrev pub AgreedKeepsTheOrder : {S C O : Type 0} → Rules S C O → Type 0
AgreedKeepsTheOrder {S} {C} {O} rules =
    (config : Config) (moment : Moment S C O) (moments : List (Moment S C O)) (agreed : List C) →
    (came : Moments rules config (moment ∷ moments)) → IsAgreed config (moment ∷ moments) agreed →
    IsPartOf (taken_of came) (proposals_of came)
    × ((names : C → Bool) (ballot : ℕ) → IsOfBallot rules.start_of names ballot (taken_of came) →
    IsPrefixOf (filter names agreed) (filter names (commands_of (taken_of came))))
