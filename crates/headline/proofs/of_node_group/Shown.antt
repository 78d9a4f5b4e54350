-- The answers to a connection at one place of the list after the other, and what a node gives of them.
use Rattle.std.proofs.Common.{◌≡◌, ◌≤◌, ◌+◌, ℕ, zero, suc, true, false, List, [], ◌∷◌, ◌++◌, length, take, slice_get, Some, refl, ap, sym, ◌∙◌, append_assoc, arith}
use Rattle.std.proofs.lemmas.List.{append-nil}
use Rattle.packet.specs.declared.packet.Packet.{Packet}
use Rattle.packet.specs.Spelling.{spelling}
use Rattle.ballot_base.specs.declared.message.Effect.{Effect}
use Rattle.ballot_base.specs.declared.message.Effect.TheVariants.{To, Out}
use Rattle.ballot_base.specs.Replica.{ReplicaState, is_active}
use Rattle.broker_spec.specs.AnswersInOrder.{answers_of}
use Rattle.broker_spec.specs.declared.command.Command.{Command}
use Rattle.broker_spec.specs.Commands.{past_of, usual_limits}
use Rattle.broker_spec.specs.Connection.{ConnectionName}
use Rattle.broker_spec.specs.declared.command.Output.{Output}
use Rattle.broker_base.specs.State.{State}
use Rattle.lists.specs.Lists.{IsPrefixOf}
use Rattle.exactly_once.specs.Sends.{put_to, sends_to}
use Rattle.exactly_once.proofs.Deliveries.{sends_append}
use Rattle.agreement.specs.NodeOutputs.{GivesNext, gives_from}
use Rattle.agreement.specs.cut_logs.World.{outputs}
use Rattle.agreement.proofs.Given.Places.{none_between}
use Rattle.agreement.proofs.Given.StepGives.{from_active}
use Rattle.agreement.specs.cut_logs.Whole.{whole}
use Rattle.broker_base.specs.form.BrokerRules.{broker_rules}
use Rattle.headline.specs.packet_world.PutOut.{outputs_alone}
use Rattle.headline.proofs.of_packet_world.Answers.{put_front, put_push}
use Rattle.headline.proofs.of_packet_world.Lists.{take_next, there_is}
use Rattle.headline.proofs.of_packet_world.PutOut.{between, given_more}
use Rattle.world_base.specs.node_core.Core.{rules}
use Rattle.headline.specs.node_moves.Puts.{outputs_of, spelled}
use Rattle.headline.specs.node_group.Carried.{answers_to}

-- ---- spellings of lists

spelled_joined : (ps qs : List Packet) → spelled (ps ++ qs) ≡ spelled ps ++ spelled qs
spelled_joined [] qs = refl
spelled_joined (p ∷ ps) qs = ap (λ l. spelling p ++ l) (spelled_joined ps qs) ∙ sym (append_assoc (spelling p) (spelled ps) (spelled qs))

-- the answers to a prefix of a list are a prefix of those to the whole
pub answers_front : (x : ConnectionName) (xs ys : List Command) → IsPrefixOf xs ys → IsPrefixOf (answers_to x xs) (answers_to x ys)
answers_front x xs ys front =
    let more = put_front usual_limits xs ys x front in
    record { rest = spelled more.rest; is = ap spelled more.is ∙ spelled_joined (put_to usual_limits (past_of usual_limits xs) x) more.rest }

-- ---- from place to place

-- what the machine gives at places is what the connection is sent there
abbrev sent_between : ConnectionName → List Command → ℕ → ℕ → List ℕ
sent_between x agreed first past = spelled (sends_to x (outputs_alone (between agreed first past)))

answers_between : (x : ConnectionName) (agreed : List Command) (first k past : ℕ) → past ≡ k + first → past ≤ length agreed
    → answers_to x (take past agreed) ≡ answers_to x (take first agreed) ++ sent_between x agreed first past
answers_between x agreed first zero past is low =
    let same : past ≡ first = omega (arith, is) in
    ap (λ n. answers_to x (take n agreed)) same
    ∙ sym (ap (λ n. answers_to x (take first agreed) ++ sent_between x agreed first n) same
    ∙ ap (λ l. answers_to x (take first agreed) ++ spelled (sends_to x (outputs_alone l))) (none_between broker_rules agreed first) ∙ append-nil (answers_to x (take first agreed)))
answers_between x agreed first (suc k) past is low =
    let next : past ≡ suc (k + first) = omega (arith, is) in
    let within : suc (k + first) ≤ length agreed = omega (arith, next, low) in
    ap (λ n. answers_to x (take n agreed)) next
    ∙ one_more (k + first) (omega arith) within (there_is agreed (k + first) within) (answers_between x agreed first k (k + first) refl (omega (arith, within)))
    ∙ ap (λ n. answers_to x (take first agreed) ++ sent_between x agreed first n) (sym next)
  where
    one_more : (place : ℕ) → first ≤ place → suc place ≤ length agreed → (command : Command) × (slice_get agreed place ≡ Some command)
        → answers_to x (take place agreed) ≡ answers_to x (take first agreed) ++ sent_between x agreed first place
        → answers_to x (take (suc place) agreed) ≡ answers_to x (take first agreed) ++ sent_between x agreed first (suc place)
    one_more place above within (command, at) so_far =
        let now = answers_of usual_limits (past_of usual_limits (take place agreed)) command in
        let before = put_to usual_limits (past_of usual_limits (take place agreed)) x in
        ap (answers_to x) (take_next agreed place command at)
        ∙ ap spelled (put_push usual_limits (take place agreed) command x)
        ∙ spelled_joined before (sends_to x now)
        ∙ ap (λ l. l ++ spelled (sends_to x now)) so_far
        ∙ append_assoc (answers_to x (take first agreed)) (sent_between x agreed first place) (spelled (sends_to x now))
        ∙ ap (λ l. answers_to x (take first agreed) ++ l)
        (sym (spelled_joined (sends_to x (outputs_alone (between agreed first place))) (sends_to x now))
        ∙ ap spelled (sym (sends_append x (outputs_alone (between agreed first place)) now)
        ∙ ap (sends_to x) (sym (given_more agreed first place command above (omega (arith, within)) at))))

-- ---- what a node gives

-- What a node queued for a connection while it became another: nothing if it is no active primary,
-- and otherwise the spelled answers to the connection at the next places, from where it had applied
-- the list if it was one before.
pub record Sends (x : ConnectionName) (old new : ReplicaState State Command) (agreed : List Command) (bytes : List ℕ) : Type 0 where
  pub from : ℕ
  pub starts : is_active old.role ≡ true → from ≡ old.committed
  pub idle : is_active new.role ≡ false → bytes ≡ []
  pub next : is_active new.role ≡ true → answers_to x (take new.committed agreed) ≡ answers_to x (take from agreed) ++ bytes
  pub inside : new.committed ≤ length agreed

outputs_same : (effects : List (Effect Command Output)) → outputs_of effects ≡ outputs_alone (outputs effects)
outputs_same [] = refl
outputs_same (Out place output ∷ effects) = ap (λ l. output ∷ l) (outputs_same effects)
outputs_same (To receiver message ∷ effects) = outputs_same effects

pub gives_answers_to : (x : ConnectionName) (archive more : List Command) (old new : ReplicaState State Command) (agreed : List Command) (effects : List (Effect Command Output))
    → GivesNext rules (whole archive old) (whole more new) agreed (outputs effects) → Sends x old new agreed (spelled (sends_to x (outputs_of effects)))
gives_answers_to x archive later old new agreed effects g =
    record { from = from; starts = λ e. from_active (whole archive old) e; idle = idle; next = next; inside = g.inside }
  where
    from : ℕ
    from = gives_from (whole archive old)

    idle : is_active new.role ≡ false → spelled (sends_to x (outputs_of effects)) ≡ []
    idle e = ap (λ l. spelled (sends_to x l)) (outputs_same effects ∙ ap outputs_alone (g.idle e))

    past : (a b : ℕ) → b ≤ a → (k : ℕ) × (a ≡ k + b)
    past a zero low = (a, omega arith)
    past zero (suc b) low = absurd (omega (arith, low))
    past (suc a) (suc b) low = let z = past a b (omega (arith, low)) in let f = z.1 in (z.0, omega (arith, f))

    next : is_active new.role ≡ true → answers_to x (take new.committed agreed) ≡ answers_to x (take (gives_from (whole archive old)) agreed) ++ spelled (sends_to x (outputs_of effects))
    next e =
        let low = g.rising e in
        let inside = g.inside in
        let more = past new.committed (gives_from (whole archive old)) low in
        let is = more.1 in
        answers_between x agreed (gives_from (whole archive old)) more.0 new.committed is inside
        ∙ ap (λ l. answers_to x (take (gives_from (whole archive old)) agreed) ++ spelled (sends_to x l)) (sym (outputs_same effects ∙ ap outputs_alone (g.next e)))
