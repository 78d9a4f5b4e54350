-- When a row agrees, by its kind.
use Rattle.std.specs.Prelude.{List, [], ◌∷◌, codes}
use Rattle.rows.specs.Fields.{Text}
use Rattle.rows.specs.declared.line.Line.{Line}
use Rattle.node_rows.specs.Values.{Is}
use Rattle.node_rows.specs.Openings.{OpeningsAgree}
use Rattle.node_rows.specs.NodeSteps.{NodeAgrees}
use Rattle.node_rows.specs.GroupSteps.{GroupAgrees}
use Rattle.node_rows.specs.ClientSteps.{ClientAgrees}

-- the steps of a row of this kind agree
pub data KindAgrees : Text → List Line → Type 0 where
  -- nodes that open, or do not
  opening : {kind : Text} {steps : List Line} → Is kind (codes "opening") → OpeningsAgree steps
      → KindAgrees kind steps
  -- one node; each piece is also cut in two at every byte, and comes byte by byte
  node : {kind : Text} {steps : List Line} → Is kind (codes "node") → NodeAgrees steps
      → KindAgrees kind steps
  -- one node with long pieces, cut in two only in their first bytes
  flood : {kind : Text} {steps : List Line} → Is kind (codes "flood") → NodeAgrees steps
      → KindAgrees kind steps
  -- a group of nodes
  group : {kind : Text} {steps : List Line} → Is kind (codes "group") → GroupAgrees steps
      → KindAgrees kind steps
  -- a client; each piece of its server is also cut in two
  client : {kind : Text} {steps : List Line} → Is kind (codes "client") → ClientAgrees steps
      → KindAgrees kind steps
  -- a client with pieces as they are written
  whole : {kind : Text} {steps : List Line} → Is kind (codes "whole") → ClientAgrees steps
      → KindAgrees kind steps

-- the first line of a row has its kind and its name
abbrev pub NamedAgrees : List Text → List Line → Type 0
NamedAgrees [] steps = ⊥
NamedAgrees (kind ∷ []) steps = ⊥
NamedAgrees (kind ∷ name ∷ []) steps = KindAgrees kind steps
NamedAgrees (kind ∷ name ∷ other ∷ others) steps = ⊥

-- a row agrees
abbrev pub RowAgrees : List Line → Type 0
RowAgrees [] = ⊥
RowAgrees (first ∷ steps) = NamedAgrees first.fields steps
