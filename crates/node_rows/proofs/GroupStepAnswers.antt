-- GroupStepAnswers.antt: a step of a group, by its word.
use Rattle.std.proofs.Common.{◌≡◌, ◌≤◌, ◌++◌, true, ℕ, List, [], ◌∷◌, map, length, drop, get_or, Some, None, codes, bytes_eq, slice_get, refl, sym, ap, ap₂, subst, arith, ◌∙◌}
use Rattle.std.proofs.lemmas.List.{length-map, map-append}
use Rattle.rows.specs.Fields.{Text, number_of}
use Rattle.rows.specs.Playing.{Answers, Agrees}
use Rattle.rows.specs.declared.line.Line.{Line}
use Rattle.rows.specs.Answers.{counted, word as word_answer}
use Rattle.ballot_base.specs.declared.config.Config.{Config}
use Rattle.ballot_base.specs.declared.message.Effect.{Effect}
use Rattle.ballot_base.specs.declared.message.Effect.TheVariants as effects
use Rattle.ballot_base.specs.declared.message.Message.{Message}
use Rattle.agreement.specs.cut_logs.Moments.{Moment}
use Rattle.machine.specs.declared.tally.Tally.{Tally}
use Rattle.machine.specs.Tally.{tally_rules}
use Rattle.machine.specs.declared.tally.TallyCommand.{TallyCommand}
use Rattle.master.specs.Exact.{event_outcome}
use Rattle.master.specs.Steps.{GroupEventOrLost}
use Rattle.master.specs.declared.event.Event.{Event}
use Rattle.node_rows.specs.Events.{Events}
use Rattle.node_rows.specs.Answers.{number_fields}
use Rattle.node_rows.specs.GroupAnswers.{alone, command_fields, members_fields, message_fields, output_fields}
use Rattle.node_rows.specs.GroupSteps.{AreAgreed, AreCounts, AreShown, GroupAgrees, IsAgreedCount, GroupDoes, LetsHappen, OpensGroup, StepDoes, Totals, opened_group}
use Rattle.node_rows.specs.Values.{IsConfig}

pub group_opens : (word digits members primary : Text) (group : Totals) (nodes : ℕ) (config : Config)
    → bytes_eq word (codes "open") ≡ true → number_of digits ≡ Some nodes → IsConfig members primary config
    → group ≡ opened_group nodes config → OpensGroup (word ∷ digits ∷ members ∷ primary ∷ []) group
group_opens word digits members primary group nodes config is read reads opens = OpensGroup.opens nodes config is read reads opens

pub lets_happen : (old new : Totals) (event : Event TallyCommand) (counts : List Text) (answers : Answers)
    → GroupEventOrLost tally_rules old event new → new.losses ≡ old.losses → AreCounts new counts → answers ≡ counts ∷ []
    → LetsHappen old event answers new
lets_happen old new event counts answers goes same are alone = LetsHappen.happens counts goes same are alone

pub lets_idle : (old new : Totals) (event : Event TallyCommand) (answer : List Text) (answers : Answers)
    → event_outcome tally_rules old.moment event ≡ None → answer ≡ word_answer (codes "idle") → answers ≡ answer ∷ []
    → new ≡ old → LetsHappen old event answers new
lets_idle old new event answer answers nothing is alone same =
    LetsHappen.idles nothing (alone ∙ ap (λ (a : List Text). a ∷ []) is) same

pub event_step : (old new : Totals) (step : List Text) (answers : Answers) (event : Event TallyCommand) → Events step event
    → LetsHappen old event answers new → GroupDoes old step answers new
event_step old new step answers event reads goes = GroupDoes.event event reads goes

pub message_step : (old : Totals) (word digits : Text) (answers : Answers) (number : ℕ) → bytes_eq word (codes "message") ≡ true
    → number_of digits ≡ Some number → answers ≡ alone message_fields (slice_get old.moment.world.sent number)
    → GroupDoes old (word ∷ digits ∷ []) answers old
message_step old word digits answers number is read gives = GroupDoes.message number is read gives refl

pub output_step : (old : Totals) (word digits : Text) (answers : Answers) (number : ℕ) → bytes_eq word (codes "output") ≡ true
    → number_of digits ≡ Some number → answers ≡ alone output_fields (slice_get old.moment.world.left number)
    → GroupDoes old (word ∷ digits ∷ []) answers old
output_step old word digits answers number is read gives = GroupDoes.output number is read gives refl

pub active_step : (old : Totals) (word : Text) (answers : Answers) → bytes_eq word (codes "active") ≡ true
    → answers ≡ members_fields (codes "active") old.moment.master.active old.moment.master.members ∷ []
    → GroupDoes old (word ∷ []) answers old
active_step old word answers is gives = GroupDoes.active is gives refl

pub agreed_step : (old : Totals) (word : Text) (answers : Answers) → bytes_eq word (codes "agreed") ≡ true
    → AreShown old.moment answers → GroupDoes old (word ∷ []) answers old
agreed_step old word answers is shows = GroupDoes.agreed is shows refl

pub group_agrees : (lines : List Line) (first : Line) (group : Totals) → 1 ≤ length lines → first ≡ get_or lines 0 first
    → OpensGroup first.fields group → Agrees StepDoes (record { group = group }) (drop 1 lines) → GroupAgrees lines
group_agrees [] first group some is is_open all_agree = absurd (omega (arith, some))
group_agrees (line ∷ lines) first group some is is_open all_agree =
    GroupAgrees.agrees group (subst (λ (l : Line). OpensGroup l.fields group) is is_open) all_agree

pub shown_gives : (moment : Moment Tally TallyCommand ℕ) (first second : List TallyCommand) (none one all : Answers)
    → AreAgreed moment (first ++ second) → none ≡ [] → one ≡ none ++ map command_fields first
    → all ≡ one ++ map command_fields second → AreShown moment all
shown_gives moment first second none one all agreed empty is_one is_all =
    let front : one ≡ map command_fields first = is_one ∙ ap (λ (others : Answers). others ++ map command_fields first) empty in
    AreShown.shown (first ++ second) agreed
    (is_all ∙ ap (λ (others : Answers). others ++ map command_fields second) front ∙ sym (map-append command_fields first second))

pub counts_gives : (group : Totals) (count : ℕ) (sent : List (ℕ × Message TallyCommand)) (left : List (Effect TallyCommand ℕ))
    (one two three : List Text) → IsAgreedCount group.moment count → sent ≡ group.moment.world.sent
    → left ≡ map (λ (out : ℕ × ℕ). effects.Out out.0 out.1) group.moment.world.left
    → one ≡ counted (codes "sent") (length sent) → two ≡ one ++ number_fields (codes "left") (length left)
    → three ≡ two ++ number_fields (codes "agreed") count → AreCounts group three
counts_gives group count sent left one two three agreed is_sent is_left is_one is_two is_three =
    let lefts : length left ≡ length group.moment.world.left =
    ap length is_left ∙ length-map group.moment.world.left (λ (out : ℕ × ℕ). effects.Out out.0 out.1) in
    let front : one ≡ counted (codes "sent") (length group.moment.world.sent) =
    is_one ∙ ap (λ (n : ℕ). counted (codes "sent") n) (ap length is_sent) in
    let middle : two ≡ counted (codes "sent") (length group.moment.world.sent)
    ++ number_fields (codes "left") (length group.moment.world.left) =
    is_two ∙ ap₂ (λ (fs : List Text) (n : ℕ). fs ++ number_fields (codes "left") n) front lefts in
    AreCounts.counts count agreed (is_three ∙ ap (λ (fs : List Text). fs ++ number_fields (codes "agreed") count) middle)
