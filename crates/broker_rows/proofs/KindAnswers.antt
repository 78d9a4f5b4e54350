-- KindAnswers.antt: when the steps of a row agree, by its kind.
use Rattle.std.proofs.Common.{◌≡◌, true, List, codes, bytes_eq, sym, subst}
use Rattle.rows.specs.Fields.{Text}
use Rattle.rows.specs.declared.line.Line.{Line}
use Rattle.broker_rows.specs.IndexSteps.{ListAgrees, TreeAgrees}
use Rattle.broker_rows.specs.StoreSteps.{StoreAgrees}
use Rattle.broker_rows.specs.SessionSteps.{SessionAgrees}
use Rattle.broker_rows.specs.BrokerSteps.{BrokerAgrees}
use Rattle.broker_rows.specs.Kinds.{KindAgrees}
use Rattle.broker_rows.proofs.Words.{same_text}

of_kind : (kind word : Text) (steps : List Line) → bytes_eq kind word ≡ true → KindAgrees word steps → KindAgrees kind steps
of_kind kind word steps is agrees = subst (λ (k : Text). KindAgrees k steps) (sym (same_text kind word is)) agrees

pub index_kind : (kind : Text) (steps : List Line) → bytes_eq kind (codes "index") ≡ true → ListAgrees steps
    → TreeAgrees steps → KindAgrees kind steps
index_kind kind steps is list tree = of_kind kind (codes "index") steps is (KindAgrees.index steps list tree)

pub store_kind : (kind : Text) (steps : List Line) → bytes_eq kind (codes "store") ≡ true → StoreAgrees steps
    → KindAgrees kind steps
store_kind kind steps is agrees = of_kind kind (codes "store") steps is (KindAgrees.store steps agrees)

pub session_kind : (kind : Text) (steps : List Line) → bytes_eq kind (codes "session") ≡ true → SessionAgrees steps
    → KindAgrees kind steps
session_kind kind steps is agrees = of_kind kind (codes "session") steps is (KindAgrees.session steps agrees)

pub broker_kind : (kind : Text) (steps : List Line) → bytes_eq kind (codes "broker") ≡ true → BrokerAgrees steps
    → KindAgrees kind steps
broker_kind kind steps is agrees = of_kind kind (codes "broker") steps is (KindAgrees.broker steps agrees)
