-- MomentsAgree.antt: the laws of groups whose nodes cut their logs.
use Rattle.std.proofs.Common.{◌∷◌, map}
use Rattle.machine.specs.Machine.{Rules}
use Rattle.agreement.proofs.Agreed.OnePrimary as primaries
use Rattle.agreement.proofs.Agreed.MomentsAgree as wholes
use Rattle.agreement.proofs.Agreed.MomentsGrow as growing
use Rattle.agreement.specs.cut_logs.Theorems.{AgreedGrows, HasAgreed, LogsAreCutRight, MachinesReplay, NodesAgree, OnePrimaryABallot, SentLogsAreRight, SnapshotsAreRead}
use Rattle.agreement.specs.cut_logs.Moments.{whole_moment}
use Rattle.agreement.proofs.of_cut_logs.Continues.{agreed_back, agreed_in, left_back}
use Rattle.agreement.proofs.of_cut_logs.MomentsKept.{moments_stand}
use Rattle.agreement.proofs.of_cut_logs.SnapshotsRead.{carried_is_read, carried_log}
use Rattle.agreement.proofs.of_cut_logs.Views.{in_whole}

pub has_agreed : {S C O : Type 0} (rules : Rules S C O) → HasAgreed rules
has_agreed rules config a moments came =
    let q = moments_stand rules config a moments came in
    let xs = wholes.has_agreed rules config (whole_moment a) q.earlier q.kept.came in
    (xs.0, agreed_back config (map whole_moment (a ∷ moments)) (whole_moment a ∷ q.earlier) xs.0 q.covers xs.1)

pub nodes_agree : {S C O : Type 0} (rules : Rules S C O) → NodesAgree rules
nodes_agree rules config a moments xs came agreed =
    let q = moments_stand rules config a moments came in
    let long = agreed_in config (map whole_moment (a ∷ moments)) (whole_moment a ∷ q.earlier) xs q.covers agreed in
    let z = wholes.nodes_agree rules config (whole_moment a) q.earlier xs q.kept.came long in
    (z.0, z.1, left_back rules (map whole_moment (a ∷ moments)) (whole_moment a ∷ q.earlier) (whole_moment a).world xs q.covers z.2, q.kept.begins xs long)

pub agreed_grows : {S C O : Type 0} (rules : Rules S C O) → AgreedGrows rules
agreed_grows rules config a moments xs ys before agreed = growing.agreed_grows rules config (whole_moment a) (map whole_moment moments) xs ys before agreed

pub machines_replay : {S C O : Type 0} (rules : Rules S C O) → MachinesReplay rules
machines_replay rules config a moments came =
    let q = moments_stand rules config a moments came in wholes.machines_replay rules config (whole_moment a) q.earlier q.kept.came

pub logs_are_cut_right : {S C O : Type 0} (rules : Rules S C O) → LogsAreCutRight rules
logs_are_cut_right rules config a moments came n r stands =
    let z = (moments_stand rules config a moments came).kept.nodes n r stands in
    record { recorded = z.0.within; applied = z.1; bytes = z.0.bytes; snapshot = z.0.read }

pub sent_logs_are_right : {S C O : Type 0} (rules : Rules S C O) → SentLogsAreRight rules
sent_logs_are_right rules config a moments came to message sent log is =
    let q = moments_stand rules config a moments came in
    let z = carried_log rules (whole_moment a ∷ q.earlier) a.world.archive message.body log (q.kept.each_sent to message sent) is in
    record { recorded = z.within; bytes = z.bytes; snapshot = z.read }

pub snapshots_are_read : {S C O : Type 0} (rules : Rules S C O) → SnapshotsAreRead rules
snapshots_are_read rules config a moments came to message sent r =
    let q = moments_stand rules config a moments came in
    carried_is_read rules (whole_moment a ∷ q.earlier) a.world.archive r message.body (q.kept.each_sent to message sent)

pub one_primary_a_ballot : {S C O : Type 0} (rules : Rules S C O) → OnePrimaryABallot rules
one_primary_a_ballot rules config a moments came c d m n ballot i j p r =
    let q = moments_stand rules config a moments came in
    primaries.one_primary_a_ballot rules config (whole_moment a) q.earlier q.kept.came (whole_moment c) (whole_moment d) m n ballot
    (q.covers.all (whole_moment c) (in_whole whole_moment i)) (q.covers.all (whole_moment d) (in_whole whole_moment j)) p r
