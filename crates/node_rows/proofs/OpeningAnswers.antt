-- OpeningAnswers.antt: nodes that open.
use Rattle.std.proofs.Common.{◌≡◌, ◌≤◌, true, ℕ, List, [], ◌∷◌, length, drop, get_or, Some, codes, bytes_eq, subst, arith}
use Rattle.rows.specs.Fields.{Text, number_of}
use Rattle.rows.specs.Playing.{Answers, Agrees}
use Rattle.rows.specs.declared.line.Line.{Line}
use Rattle.ballot_base.specs.declared.config.Config.{Config}
use Rattle.world_base.specs.node_core.Core.{CountedCore}
use Rattle.node_rows.specs.NodeSteps.{NodeAgrees, StepDoes}
use Rattle.node_rows.specs.Openings.{IsAnswered, IsGroupAnswered, OpeningDoes, OpeningStep, OpeningsAgree, Opens, opened_core}
use Rattle.node_rows.specs.Values.{IsConfig}
use Rattle.node_rows.specs.declared.openings.Openings.{Openings}

pub node_opens : (word greatest digits members primary : Text) (core : CountedCore) (node : ℕ) (config : Config)
    → bytes_eq word (codes "open") ≡ true → number_of digits ≡ Some node → IsConfig members primary config
    → core ≡ opened_core node config → Opens (word ∷ greatest ∷ digits ∷ members ∷ primary ∷ []) core
node_opens word greatest digits members primary core node config is read reads opens = Opens.opens node config is read reads opens

pub opening_step : (word digits node members primary : Text) (answers : Answers) (greatest : ℕ) (config : Config)
    → bytes_eq word (codes "open") ≡ true → number_of digits ≡ Some greatest → IsConfig members primary config
    → IsAnswered greatest config answers → OpeningStep (word ∷ digits ∷ node ∷ members ∷ primary ∷ []) answers
opening_step word digits node members primary answers greatest config is read reads answered =
    OpeningStep.opens greatest config is read reads answered

pub group_step : (word digits members primary : Text) (answers : Answers) (nodes : ℕ) (config : Config)
    → bytes_eq word (codes "group") ≡ true → number_of digits ≡ Some nodes → IsConfig members primary config
    → IsGroupAnswered nodes config answers → OpeningStep (word ∷ digits ∷ members ∷ primary ∷ []) answers
group_step word digits members primary answers nodes config is read reads answered =
    OpeningStep.groups nodes config is read reads answered

pub node_agrees : (lines : List Line) (first : Line) (core : CountedCore) → 1 ≤ length lines → first ≡ get_or lines 0 first
    → Opens first.fields core → Agrees StepDoes (record { core = core }) (drop 1 lines) → NodeAgrees lines
node_agrees [] first core some is is_open all_agree = absurd (omega (arith, some))
node_agrees (line ∷ lines) first core some is is_open all_agree =
    NodeAgrees.agrees core (subst (λ (l : Line). Opens l.fields core) is is_open) all_agree

pub openings_agree : (nodes : Openings) (steps : List Line) → Agrees OpeningDoes nodes steps → OpeningsAgree steps
openings_agree nodes steps agrees = (nodes, agrees)
