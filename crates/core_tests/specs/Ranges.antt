-- How many ballots a master can give: rows at both edges.
use Rattle.std.specs.Prelude.{◌≡◌, true, Some, None}
use Rattle.ballot_base.specs.declared.config.Config.{Config}
use Rattle.ballot_base.specs.LawfulConfig.{is_lawful}
use Rattle.agreement.specs.MasterState.{MasterState, refusal, ballots_spent}

-- the 4,294,967,296th ballot is given, and none after it
abbrev pub MaxBallotIs : Type 0
MaxBallotIs =
    (master : MasterState) (config : Config) →
    is_lawful master.greatest config.members config.primary ≡ true →
    (master.given ≡ 4294967295 → refusal master config ≡ None)
    × (master.given ≡ 4294967296 → refusal master config ≡ Some ballots_spent)
