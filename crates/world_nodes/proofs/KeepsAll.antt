-- Messages that are kept one after another are all kept, or some are lost.
use Rattle.std.proofs.Common.{◌≡◌, ℕ, Bool, true, false, List, [], ◌∷◌, ◌++◌, refl, sym, ap, ◌∙◌, subst, append_assoc}
use Rattle.std.proofs.lemmas.List.{append-nil}
use Rattle.std.specs.Bool.{OnFalse}
use Rattle.ballot_base.specs.declared.message.Effect.{Effect}
use Rattle.ballot_base.specs.declared.message.Effect.TheVariants.{To}
use Rattle.ballot_base.specs.Losses.{Thinned}
use Rattle.ballot_base.specs.Losses.Thinned.{none, keeps, loses}
use Rattle.ballot_base.specs.declared.message.Message.{Message}
use Rattle.agreement.specs.cut_logs.World.{messages}
use Rattle.agreement.proofs.of_cut_logs.Effects.{messages-append}
use Rattle.broker_spec.specs.declared.command.Command.{Command}
use Rattle.broker_spec.specs.declared.command.Output.{Output}
use Rattle.world_nodes.specs.Inside.{KeepsMessages}

abbrev Given : Type 0
Given = List (Effect Command Output)

abbrev Sent : Type 0
Sent = List (ℕ × Message Command)

pub thinned_join : {a b c d : Given} → Thinned a b → Thinned c d → Thinned (a ++ c) (b ++ d)
thinned_join none more = more
thinned_join (keeps one) more = keeps (thinned_join one more)
thinned_join (loses one) more = loses (thinned_join one more)

pub thinned_same : (e : Effect Command Output) → Thinned (e ∷ []) (e ∷ [])
thinned_same e = keeps none

pub keeps_none : (sent : Sent) → KeepsMessages [] sent sent true
keeps_none sent = record { kept = []; thinned = none; exact = λ e. refl; nothing = λ e. refl; is = sym (append-nil sent) }

one_more_given : (given : Given) (e : Effect Command Output) → given ++ e ∷ [] ≡ [] → ⊥
one_more_given [] e is = cc
one_more_given (d ∷ given) e is = cc

pub keeps_kept : (given : Given) (sent more later : Sent) (whole : Bool) (e : Effect Command Output) → KeepsMessages given sent more whole
    → later ≡ more ++ messages (e ∷ []) → KeepsMessages (given ++ e ∷ []) sent later whole
keeps_kept given sent more later whole e k is =
    record {
      kept = k.kept ++ e ∷ [];
      thinned = thinned_join k.thinned (thinned_same e);
      exact = λ w. ap (λ (l : Given). l ++ e ∷ []) (k.exact w);
      nothing = λ empty. absurd (one_more_given given e empty);
      is = is ∙ ap (λ (l : Sent). l ++ messages (e ∷ [])) k.is ∙ append_assoc sent (messages k.kept) (messages (e ∷ []))
          ∙ ap (λ (l : Sent). sent ++ l) (sym (messages-append k.kept (e ∷ [])));
    }

pub keeps_lost : (given : Given) (sent more later : Sent) (whole : Bool) (e : Effect Command Output) → KeepsMessages given sent more whole
    → later ≡ more → Thinned [] (e ∷ []) → KeepsMessages (given ++ e ∷ []) sent later false
keeps_lost given sent more later whole e k is lost =
    record {
      kept = k.kept;
      thinned = subst (λ (l : Given). Thinned l (given ++ e ∷ [])) (append-nil k.kept) (thinned_join k.thinned lost);
      exact = λ w. cc;
      nothing = λ empty. absurd (one_more_given given e empty);
      is = is ∙ k.is;
    }

-- a message may be lost
pub may_be_lost : (kept : Bool) (e : Effect Command Output) (receiver : ℕ) (m : Message Command) → e ≡ To receiver m → OnFalse kept (Thinned [] (e ∷ []))
may_be_lost true e receiver m is = tt
may_be_lost false e receiver m is = subst (λ (d : Effect Command Output). Thinned [] (d ∷ [])) (sym is) (loses none)
