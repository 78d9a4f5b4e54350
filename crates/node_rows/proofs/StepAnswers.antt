-- StepAnswers.antt: a step of one node, by its word.
use Rattle.std.proofs.Common.{◌≡◌, ◌==◌, ◌++◌, not, true, ℕ, Bool, List, [], ◌∷◌, map, Ok, codes, bytes_eq, refl, subst, ap, ap₂, sym, ◌∙◌}
use Rattle.std.proofs.lemmas.Slice.Eq.{bytes_eq-Decides}
use Rattle.rows.specs.Fields.{Text}
use Rattle.rows.specs.Playing.{Answers}
use Rattle.rows.specs.Answers.{yes_or_no}
use Rattle.ballot_base.specs.Compaction.{can_cut}
use Rattle.ballot_base.specs.Replica.{status_of}
use Rattle.ballot_base.specs.declared.message.Effect.{Effect}
use Rattle.ballot_base.specs.declared.status.Status.{Status}
use Rattle.broker_spec.specs.declared.command.Command.{Command}
use Rattle.broker_spec.specs.declared.command.Output.{Output}
use Rattle.world_base.specs.declared.node_connections.handed.Handed.{Handed}
use Rattle.world_base.specs.declared.node_connections.port.Port.{Port}
use Rattle.world_base.specs.declared.node_core.item.Item.{Item}
use Rattle.world_base.specs.declared.node_core.item.Item.TheVariants as items
use Rattle.ballot_base.specs.declared.message.Message.{Message}
use Rattle.links.specs.message_form.Outcome.{message_of}
use Rattle.world_base.specs.node_core.Core.{CountedCore}
use Rattle.world_base.specs.node_core.Losses.{ItemStepOrLost}
use Rattle.world_base.specs.node_core.PortOutput.{handed_after, hands_over, listed_at, pending_bytes}
use Rattle.node_rows.specs.Items.{Items}
use Rattle.node_rows.specs.Answers.{lost_answers}
use Rattle.node_rows.specs.NodeAnswers.{effect_fields, handed_fields, log_fields, status_fields}
use Rattle.node_rows.specs.NodeSteps.{NodeDoes, TakesItem}
use Rattle.node_rows.specs.Values.{IsPort}

-- an answer alone
only_this : (answer other : List Text) (answers : Answers) → answer ≡ other → answers ≡ answer ∷ [] → answers ≡ other ∷ []
only_this answer other answers gives alone = alone ∙ ap (λ (a : List Text). a ∷ []) gives

pub status_step : (old : CountedCore) (word : Text) (status : Status) (answer : List Text) (answers : Answers)
    → bytes_eq word (codes "status") ≡ true → status ≡ status_of old.core.replica.state → answer ≡ status_fields status
    → answers ≡ answer ∷ [] → NodeDoes old (word ∷ []) answers old
status_step old word status answer answers is shows gives alone =
    NodeDoes.shows is (only_this answer _ answers (gives ∙ ap status_fields shows) alone) refl

pub log_step : (old : CountedCore) (word : Text) (answer : List Text) (answers : Answers) → bytes_eq word (codes "log") ≡ true
    → answer ≡ log_fields old.core.replica.state.log → answers ≡ answer ∷ [] → NodeDoes old (word ∷ []) answers old
log_step old word answer answers is gives alone = NodeDoes.keeps is (only_this answer _ answers gives alone) refl

pub uncut_step : (old : CountedCore) (word : Text) (can : Bool) (answer : List Text) (answers : Answers)
    → bytes_eq word (codes "uncut") ≡ true → can ≡ can_cut old.core.replica.state → answer ≡ yes_or_no can
    → answers ≡ answer ∷ [] → NodeDoes old (word ∷ []) answers old
uncut_step old word can answer answers is shows gives alone =
    NodeDoes.uncut is (only_this answer _ answers (gives ∙ ap yes_or_no shows) alone) refl

pub item_taken : (old new : CountedCore) (item : Item) (before given : List (Effect Command Output)) (answers : Answers)
    → before ≡ [] → ItemStepOrLost old item new before given → new.losses ≡ old.losses
    → answers ≡ map effect_fields given → TakesItem old item answers new
item_taken old new item before given answers none steps same gives =
    TakesItem.takes given (subst (λ (es : List (Effect Command Output)). ItemStepOrLost old item new es given) none steps)
    same gives

pub item_step : (old new : CountedCore) (step : List Text) (item : Item) (answers : Answers) → Items step item
    → TakesItem old item answers new → NodeDoes old step answers new
item_step old new step item answers reads taken = NodeDoes.item item reads taken

pub unread_gives : (old new : CountedCore) (field bytes : Text) (message : Message Command)
    (before given : List (Effect Command Output)) (answers : Answers) → message_of bytes ≡ Ok message → bytes ≡ field → before ≡ []
    → ItemStepOrLost old (items.Peer message) new before given
    → answers ≡ map effect_fields given ++ lost_answers (not (new.losses == old.losses))
    → NodeDoes old (codes "unread" ∷ field ∷ []) answers new
unread_gives old new field bytes message before given answers read same none steps gives =
    NodeDoes.loses message given refl (subst (λ (b : Text). message_of b ≡ Ok message) same read)
    (subst (λ (es : List (Effect Command Output)). ItemStepOrLost old (items.Peer message) new es given) none steps) gives

pub unread_step : (old new : CountedCore) (word bytes : Text) (answers : Answers) → bytes_eq word (codes "unread") ≡ true
    → NodeDoes old (codes "unread" ∷ bytes ∷ []) answers new → NodeDoes old (word ∷ bytes ∷ []) answers new
unread_step old new word bytes answers is does =
    let same : word ≡ codes "unread" = (bytes_eq-Decides word (codes "unread")).0 is in
    subst (λ (w : Text). NodeDoes old (w ∷ bytes ∷ []) answers new) (sym same) does

pub take_gives : (old new : CountedCore) (digits : Text) (port : Port) (handed : Handed) (before bytes : List ℕ)
    (answer : List Text) (answers : Answers) → IsPort digits port → before ≡ []
    → bytes ≡ before ++ pending_bytes (listed_at port old.core) → handed ≡ handed_after (listed_at port old.core)
    → new ≡ record old { core = hands_over port old.core } → answer ≡ handed_fields handed bytes → answers ≡ answer ∷ []
    → NodeDoes old (codes "take" ∷ digits ∷ []) answers new
take_gives old new digits port handed before bytes answer answers reads none moved shows left gives alone =
    let all : bytes ≡ pending_bytes (listed_at port old.core) =
    moved ∙ ap (λ (bs : List ℕ). bs ++ pending_bytes (listed_at port old.core)) none in
    NodeDoes.hands port refl reads
    (only_this answer _ answers (gives ∙ ap₂ handed_fields shows all) alone) left

pub take_step : (old new : CountedCore) (word digits : Text) (answers : Answers) → bytes_eq word (codes "take") ≡ true
    → NodeDoes old (codes "take" ∷ digits ∷ []) answers new → NodeDoes old (word ∷ digits ∷ []) answers new
take_step old new word digits answers is does =
    let same : word ≡ codes "take" = (bytes_eq-Decides word (codes "take")).0 is in
    subst (λ (w : Text). NodeDoes old (w ∷ digits ∷ []) answers new) (sym same) does
