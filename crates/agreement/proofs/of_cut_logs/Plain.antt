-- Plain.antt: the step of a node that takes no log is the one on whole logs.
use Rattle.std.proofs.Common.{ℕ, List}
use Rattle.machine.specs.Machine.{Rules}
use Rattle.agreement.specs.whole_logs.Protocol.{ticked as whole_ticked, replica_step as whole_step, received as whole_received}
use Rattle.ballot_base.specs.declared.status.Role.{Role}
use Rattle.ballot_base.specs.declared.status.Role.TheVariants.{Backup, Fetching, Installing, Active}
use Rattle.agreement.specs.cut_logs.Matches.{IsBased, OutcomeMatches}
use Rattle.ballot_base.specs.declared.message.Body.{Body}
use Rattle.ballot_base.specs.declared.message.Body.TheVariants.{NewBallot, Join, State, Install, Installed, Activate, Activated, Superseded, Append, Held, Commit}
use Rattle.ballot_base.specs.Replica.{ReplicaState}
use Rattle.ballot_base.specs.Protocol.{Input, received, replica_step, ticked}
use Rattle.ballot_base.specs.Protocol.Input.{Receives, Proposes, Ticks}
use Rattle.agreement.specs.cut_logs.Whole.{whole, whole_body, whole_input}
use Rattle.agreement.proofs.of_cut_logs.Changing.{activated_matches, installed_matches, join_matches, new_ballot_matches, superseded_matches, tick_fetching_matches, tick_installing_matches}
use Rattle.agreement.proofs.of_cut_logs.Serving.{append_matches, commits_match, held_matches, matches_nothing, proposed_matches, tick_active_matches}

-- a body, and an input, that carries no log
abbrev pub IsPlainBody : {C : Type 0} → Body C → Type 0
IsPlainBody (State b log) = ⊥
IsPlainBody (Install b log) = ⊥
IsPlainBody _ = Unit {0}

abbrev pub IsPlain : {C : Type 0} → Input C → Type 0
IsPlain (Receives m) = IsPlainBody m.body
IsPlain _ = Unit {0}

received_matches : {S C O : Type 0} (rules : Rules S C O) (archive : List C) (r : ReplicaState S C) (from : ℕ) (body : Body C) →
    IsBased archive r → IsPlainBody body → OutcomeMatches {O = O} archive (received rules r from body) (whole_received rules (whole archive r) from (whole_body archive body))
received_matches {O = O} rules archive r from (NewBallot b members a old) based plain = new_ballot_matches O archive r b members a old
received_matches {O = O} rules archive r from (Join b a) based plain = join_matches O archive r from b a
received_matches rules archive r from (State b log) based plain = absurd plain
received_matches rules archive r from (Install b log) based plain = absurd plain
received_matches {O = O} rules archive r from (Installed b held) based plain = installed_matches O archive r from b
received_matches {O = O} rules archive r from (Activate b) based plain = matches_nothing O archive r
received_matches rules archive r from (Activated b) based plain = activated_matches rules archive r b based
received_matches {O = O} rules archive r from (Superseded b) based plain = superseded_matches O archive r b
received_matches {O = O} rules archive r from (Append b place c) based plain = append_matches O archive r from b place c based
received_matches rules archive r from (Held b held) based plain = held_matches rules archive r from b held based
received_matches rules archive r from (Commit b held) based plain = commits_match rules archive r b held based

ticked_matches : {S C : Type 0} (O : Type 0) (archive : List C) (r : ReplicaState S C) (role : Role) → IsBased archive r →
    OutcomeMatches {O = O} archive (ticked O r role) (whole_ticked O (whole archive r) role)
ticked_matches O archive r Backup based = matches_nothing O archive r
ticked_matches O archive r Fetching based = tick_fetching_matches O archive r
ticked_matches O archive r Installing based = tick_installing_matches O archive r
ticked_matches O archive r Active based = tick_active_matches O archive r based

pub plain_matches : {S C O : Type 0} (rules : Rules S C O) (archive : List C) (r : ReplicaState S C) (input : Input C) →
    IsBased archive r → IsPlain input → OutcomeMatches {O = O} archive (replica_step rules r input) (whole_step rules (whole archive r) (whole_input archive input))
plain_matches rules archive r (Receives m) based plain = received_matches rules archive r m.from m.body based plain
plain_matches rules archive r (Proposes c) based plain = proposed_matches rules archive r c based
plain_matches {O = O} rules archive r Ticks based plain = ticked_matches O archive r r.role based
