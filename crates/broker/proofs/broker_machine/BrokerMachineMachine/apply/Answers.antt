-- The tables step as the state does, and a step keeps a state in its ranges.
use Rattle.std.proofs.Common.{◌≡◌, ◌∙◌, ◌++◌, ap, sym, subst, false}
use Rattle.std.specs.Prelude.{is_err}
use Rattle.broker_spec.specs.Commands.{usual_limits}
use Rattle.broker_base.specs.Step.{step}
use Rattle.broker_base.specs.form.FormTheorems.{IsUsualState}
use Rattle.broker_base.proofs.of_form.UsualStates.{stays_usual}
use Rattle.broker.specs.tables.Tables.{state_in, stepped}
use Rattle.broker.proofs.of_tables.Commands.{stepped_is, at_ok}
use Rattle.broker.proofs.broker_machine.BrokerMachineMachine.apply.Goals as goal

pub invariant_of-self-else-is_err : goal.invariant_of-self-else-is_err
invariant_of-self-else-is_err c =
    let t = c.self.inside.tables in
    let done : is_err c.apply.result ≡ false = sym c.is_err.ensures.value ∙ c.if-is_err.false in
    let is : state_in c.apply.new.self ≡ (step usual_limits 64 (state_in t) c.args.command.now).0
    = (at_ok c.apply.result done c.apply.ensures.step).state ∙ ap (λ p. p.0) (stepped_is t c.args.command.now) in (
      subst IsUsualState (sym is) (stays_usual (state_in t) c.args.command.now c.self.invariant.0 c.ensure_ranges.ensures),
      at_ok c.apply.result done c.apply.ensures.tied,
    )

pub returns-clause-state : goal.returns-clause-state
returns-clause-state c =
    let t = c.self.inside.tables in
    let done : is_err c.apply.result ≡ false = sym c.is_err.ensures.value ∙ c.if-is_err.false in
    (at_ok c.apply.result done c.apply.ensures.step).state ∙ ap (λ p. p.0) (stepped_is t c.args.command.now)
    ∙ ap (λ s. (step usual_limits 64 s c.args.command.now).0) c.self.view_is

pub returns-clause-outputs : goal.returns-clause-outputs
returns-clause-outputs c =
    let t = c.self.inside.tables in
    let done : is_err c.apply.result ≡ false = sym c.is_err.ensures.value ∙ c.if-is_err.false in
    c.in_ok-append.ensures.items
    ∙ ap (λ given. c.args.out.now.items ++ given)
    ((at_ok c.apply.result done c.apply.ensures.step).outputs
    ∙ ap (λ front. front ++ (stepped t c.args.command.now).1) c.new-given.ensures.items
    ∙ ap (λ p. p.1) (stepped_is t c.args.command.now)
    ∙ ap (λ s. (step usual_limits 64 s c.args.command.now).1) c.self.view_is)
