-- When a row agrees, by its kind.
use Rattle.std.specs.Prelude.{List, [], ◌∷◌, codes}
use Rattle.rows.specs.Fields.{Text}
use Rattle.rows.specs.declared.line.Line.{Line}
use Rattle.broker_rows.specs.IndexSteps.{ListAgrees, TreeAgrees}
use Rattle.broker_rows.specs.StoreSteps.{StoreAgrees}
use Rattle.broker_rows.specs.SessionSteps.{SessionAgrees}
use Rattle.broker_rows.specs.BrokerSteps.{BrokerAgrees}

-- the steps of a row of this kind agree
pub data KindAgrees : Text → List Line → Type 0 where
  -- steps about subscriptions, with both indexes
  index : (steps : List Line) → ListAgrees steps → TreeAgrees steps
      → KindAgrees (codes "index") steps
  -- steps about retained publications
  store : (steps : List Line) → StoreAgrees steps → KindAgrees (codes "store") steps
  -- steps about one session
  session : (steps : List Line) → SessionAgrees steps → KindAgrees (codes "session") steps
  -- steps of a broker
  broker : (steps : List Line) → BrokerAgrees steps → KindAgrees (codes "broker") steps

-- the first line of a row has its kind and its name
abbrev pub NamedAgrees : List Text → List Line → Type 0
NamedAgrees [] steps = ⊥
NamedAgrees (kind ∷ []) steps = ⊥
NamedAgrees (kind ∷ name ∷ []) steps = KindAgrees kind steps
NamedAgrees (kind ∷ name ∷ other ∷ others) steps = ⊥

-- a row agrees
abbrev pub RowAgrees : List Line → Type 0
RowAgrees [] = ⊥
RowAgrees (first ∷ steps) = NamedAgrees first.fields steps
