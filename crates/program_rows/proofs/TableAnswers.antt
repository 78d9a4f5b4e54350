-- TableAnswers.antt: what a text of a table is read as, and the text of so many nodes.
use Rattle.std.proofs.Common.{◌≡◌, ◌-◌, ◌<◌, ◌++◌, ℕ, zero, suc, List, codes, arith, append_assoc, refl, ap, sym, ◌∙◌}
use Rattle.rows.specs.Fields.{Text}
use Rattle.command_line.specs.Refusals.{table_number}
use Rattle.command_line.specs.Tables.{IsTableText}
use Rattle.command_line.specs.declared.fault.TableFault.{TableFault}
use Rattle.command_line.specs.declared.fault.TableFault.TheVariants as faults
use Rattle.command_line.specs.declared.node_table.NodeTable.{NodeTable}
use Rattle.program_rows.specs.AnswerFields.{counted}
use Rattle.program_rows.specs.TableSteps.{TableAnswer, node_text, nodes_text, table_fields}

pub is_read : (text : Text) (table : NodeTable) (answer : List Text) → IsTableText text table
    → answer ≡ table_fields table → TableAnswer text answer
is_read text table answer is gives = TableAnswer.read table is gives

pub is_refused : (text : Text) (fault : TableFault) (answer : List Text)
    → (fault ≡ faults.Shape → (table : NodeTable) → IsTableText text table → ⊥)
    → fault ≡ faults.Shape → answer ≡ counted (codes "refused") (table_number fault) → TableAnswer text answer
is_refused text fault answer none is gives =
    TableAnswer.refused (none is) (gives ∙ ap (λ (f : TableFault). counted (codes "refused") (table_number f)) is)

nodes_more : (count : ℕ) → 0 < count → nodes_text count ≡ nodes_text (count - 1) ++ node_text count
nodes_more zero some = absurd (omega arith)
nodes_more (suc n) some = let one_less : suc n - 1 ≡ n = omega arith in rw one_less refl

-- a node after those before it
pub nodes_put : (count : ℕ) (old mid new : Text) → 0 < count → mid ≡ old ++ nodes_text (count - 1)
    → new ≡ mid ++ node_text count → new ≡ old ++ nodes_text count
nodes_put count old mid new some before last =
    last ∙ ap (λ (t : Text). t ++ node_text count) before ∙ append_assoc old (nodes_text (count - 1)) (node_text count)
    ∙ ap (λ (t : Text). old ++ t) (sym (nodes_more count some))
