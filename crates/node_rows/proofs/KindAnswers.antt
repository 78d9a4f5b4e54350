-- KindAnswers.antt: a row of a kind, by its word.
use Rattle.std.proofs.Common.{◌≡◌, true, List, codes, bytes_eq}
use Rattle.rows.specs.Fields.{Text}
use Rattle.rows.specs.declared.line.Line.{Line}
use Rattle.node_rows.specs.Kinds.{KindAgrees}
use Rattle.node_rows.specs.Openings.{OpeningsAgree}
use Rattle.node_rows.specs.NodeSteps.{NodeAgrees}
use Rattle.node_rows.specs.GroupSteps.{GroupAgrees}
use Rattle.node_rows.specs.ClientSteps.{ClientAgrees}

pub opening_kind : (kind : Text) (steps : List Line) → bytes_eq kind (codes "opening") ≡ true → OpeningsAgree steps
    → KindAgrees kind steps
opening_kind kind steps is all_agree = KindAgrees.opening is all_agree

pub node_kind : (kind : Text) (steps : List Line) → bytes_eq kind (codes "node") ≡ true → NodeAgrees steps
    → KindAgrees kind steps
node_kind kind steps is all_agree = KindAgrees.node is all_agree

pub flood_kind : (kind : Text) (steps : List Line) → bytes_eq kind (codes "flood") ≡ true → NodeAgrees steps
    → KindAgrees kind steps
flood_kind kind steps is all_agree = KindAgrees.flood is all_agree

pub group_kind : (kind : Text) (steps : List Line) → bytes_eq kind (codes "group") ≡ true → GroupAgrees steps
    → KindAgrees kind steps
group_kind kind steps is all_agree = KindAgrees.group is all_agree

pub client_kind : (kind : Text) (steps : List Line) → bytes_eq kind (codes "client") ≡ true → ClientAgrees steps
    → KindAgrees kind steps
client_kind kind steps is agrees = KindAgrees.client is agrees

pub whole_kind : (kind : Text) (steps : List Line) → bytes_eq kind (codes "whole") ≡ true → ClientAgrees steps
    → KindAgrees kind steps
whole_kind kind steps is agrees = KindAgrees.whole is agrees
