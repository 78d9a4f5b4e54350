-- Accounts.antt: what was done if memory may have run out, one thing after the other.
use Rattle.std.proofs.Common.{◌≡◌, ℕ, zero, suc, ◌+◌, ◌-◌, ◌≤◌, List, [], ◌++◌, append_assoc, refl, sym, ap, subst, ◌∙◌, arith}
use Rattle.std.proofs.lemmas.List.{append-nil}
use Rattle.broker_spec.specs.declared.command.Command.{Command}
use Rattle.broker_spec.specs.declared.command.Output.{Output}
use Rattle.ballot_base.specs.declared.message.Effect.{Effect}
use Rattle.world_base.specs.node_core.Core.{CoreState}
use Rattle.world_base.specs.node_core.Inside.{StepPartOrLost}
use Rattle.world_base.specs.node_core.Lossy.{Account, Repeated, Then, both_accounts, without_effects}

-- ---- accounts

joined_nothing : (account : Account) → both_accounts account (without_effects account.core) ≡ account
joined_nothing account =
    ap (λ (l : List (Effect Command Output)). let a : Account = record { core = account.core; given = l; messages = account.messages ++ [] } in a)
    (append-nil account.given)
    ∙ ap (λ (l : List (Effect Command Output)). let a : Account = record { core = account.core; given = account.given; messages = l } in a)
    (append-nil account.messages)

joined_again : (a b c : Account) → both_accounts (both_accounts a b) c ≡ both_accounts a (both_accounts b c)
joined_again a b c =
    ap (λ (l : List (Effect Command Output)). let k : Account = record {
      core = c.core;
      given = l;
      messages = (a.messages ++ b.messages) ++ c.messages;
    } in k) (append_assoc a.given b.given c.given)
    ∙ ap (λ (l : List (Effect Command Output)). let k : Account = record {
      core = c.core;
      given = a.given ++ (b.given ++ c.given);
      messages = l;
    } in k) (append_assoc a.messages b.messages c.messages)

-- ---- what the code did

-- nothing was given
pub ran_without_effects : (Did : CoreState → Account → Type 0) (old new : CoreState) (x : List (Effect Command Output)) →
    Did old (without_effects new) → StepPartOrLost Did old new x x
ran_without_effects Did old new x runs =
    record { account = without_effects new; runs = runs; core = refl; appended = sym (append-nil x) }

-- another word for what was done
pub ran_as : (P Q : CoreState → Account → Type 0) (a b c : CoreState) (x y : List (Effect Command Output)) →
    ((account : Account) → P b account → Q a account) → StepPartOrLost P b c x y → StepPartOrLost Q a c x y
ran_as P Q a b c x y says ran =
    record { account = ran.account; runs = says ran.account ran.runs; core = ran.core; appended = ran.appended }

-- one thing and then another
pub ran_then : (P Q : CoreState → Account → Type 0) (a b c : CoreState) (x y z : List (Effect Command Output)) →
    StepPartOrLost P a b x y → StepPartOrLost Q b c y z → StepPartOrLost (Then P Q) a c x z
ran_then P Q a b c x y z one two =
    record {
      account = both_accounts one.account two.account;
      runs = record {
        one = one.account;
        two = two.account;
        first = one.runs;
        next = subst (λ (k : CoreState). Q k two.account) one.core two.runs;
        is = refl;
      };
      core = two.core;
      appended = two.appended ∙ ap (λ (l : List (Effect Command Output)). l ++ two.account.messages) one.appended
          ∙ append_assoc x one.account.messages two.account.messages;
    }

module _ (Next : CoreState → Account → Type 0) where
  -- the last one is done after the others
  one_more : (n : ℕ) (core : CoreState) (one two : Account) → Repeated n Next core one → Next one.core two →
      Repeated (suc n) Next core (both_accounts one two)
  one_more zero core one two none next =
      record {
        one = two;
        two = without_effects two.core;
        first = subst (λ (d : Account). Next d.core two) none next;
        next = refl;
        is = ap (λ (d : Account). both_accounts d two) none ∙ sym (joined_nothing two);
      }
  one_more (suc n) core one two done next =
      record {
        one = done.one;
        two = both_accounts done.two two;
        first = done.first;
        next = one_more n done.one.core done.two two done.next (subst (λ (d : Account). Next d.core two) done.is next);
        is = ap (λ (d : Account). both_accounts d two) done.is ∙ joined_again done.one done.two two;
      }

  -- the rest does nothing
  no_more : (n m : ℕ) (core : CoreState) (account : Account) → Repeated n Next core account → Next account.core (without_effects account.core) →
      Repeated (m + n) Next core account
  no_more n zero core account done idle =
      let same : n ≡ 0 + n = omega arith in subst (λ (k : ℕ). Repeated k Next core account) same done
  no_more n (suc m) core account done idle =
      let same : suc (m + n) ≡ suc m + n = omega arith in
      subst (λ (k : ℕ). Repeated k Next core account) same
      (subst (λ (d : Account). Repeated (suc (m + n)) Next core d) (joined_nothing account)
      (one_more (m + n) core account (without_effects account.core) (no_more n m core account done idle) idle))

  pub ran_none : (core : CoreState) (x : List (Effect Command Output)) → StepPartOrLost (Repeated 0 Next) core core x x
  ran_none core x = ran_without_effects (Repeated 0 Next) core core x refl

  pub ran_more : (n : ℕ) (a b c : CoreState) (x y z : List (Effect Command Output)) →
      StepPartOrLost (Repeated n Next) a b x y → StepPartOrLost Next b c y z → StepPartOrLost (Repeated (suc n) Next) a c x z
  ran_more n a b c x y z one two =
      record {
        account = both_accounts one.account two.account;
        runs = one_more n a one.account two.account one.runs (subst (λ (k : CoreState). Next k two.account) one.core two.runs);
        core = two.core;
        appended = two.appended ∙ ap (λ (l : List (Effect Command Output)). l ++ two.account.messages) one.appended
            ∙ append_assoc x one.account.messages two.account.messages;
      }

  -- the next would do nothing
  pub ran_enough : (n all : ℕ) (a b : CoreState) (x y : List (Effect Command Output)) → n ≤ all →
      StepPartOrLost (Repeated n Next) a b x y → Next b (without_effects b) → StepPartOrLost (Repeated all Next) a b x y
  ran_enough n all a b x y few one idle =
      let rest : ℕ = all - n in
      let is : rest + n ≡ all = omega (arith, few) in
      record {
        account = one.account;
        runs = subst (λ (k : ℕ). Repeated k Next a one.account) is
            (no_more n rest a one.account one.runs (subst (λ (k : CoreState). Next k (without_effects k)) one.core idle));
        core = one.core;
        appended = one.appended;
      }
