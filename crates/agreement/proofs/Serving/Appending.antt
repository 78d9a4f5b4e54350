-- Appending.antt: an Append that comes to a backup.
use Rattle.std.proofs.Common.{◌≡◌, ℕ, ◌+◌, ◌<◌, ◌≤◌, ◌⊎◌, inl, inr, true, false, [], ◌∷◌, length, Some, ap, sym, ◌∙◌, subst, arith}
use Rattle.std.specs.Prelude.{slice_get}
use Rattle.std.proofs.lemmas.Bool.{cases_Bool, cases_lt}
use Rattle.machine.specs.Machine.{Rules}
use Rattle.agreement.specs.whole_logs.Messages.Body.{Append, Held}
use Rattle.agreement.specs.whole_logs.Replica.{ReplicaState}
use Rattle.agreement.specs.whole_logs.StepOutcome.{Outcome, message_to}
use Rattle.agreement.specs.whole_logs.Service.{follows, extended, on_append}
use Rattle.agreement.proofs.of_whole_logs.MessageRows.{on_append-elsewhere, on_append-gap, on_append-takes}
use Rattle.agreement.specs.World.{GroupWorld}
use Rattle.lists.specs.Lists.{In, IsPrefixOf}
use Rattle.agreement.specs.Inside.Ballots.{Given, Line, History}
use Rattle.agreement.specs.Inside.Keeps.{KeepsSoundness}
use Rattle.agreement.specs.Inside.Sound.{IsSoundWorld}
use Rattle.agreement.specs.Inside.MessageMeaning.{SpeaksTruth}
use Rattle.agreement.proofs.Serving.Committing.{Follows, follows_is}
use Rattle.agreement.proofs.Frame.Quiet.{keeps_nothing}
use Rattle.agreement.proofs.Serving.AppendTaken.{append_taken}

-- an Append that comes
pub keeps_append : {S C O : Type 0} (rules : Rules S C O) (w : GroupWorld S C O) (h : History C) (n : ℕ) (r : ReplicaState S C)
    (from b place : ℕ) (c : C) → IsSoundWorld rules w h → slice_get w.nodes n ≡ Some r →
    In (n + 1, record { from = from; body = Append b place c }) w.sent → KeepsSoundness rules w h n (on_append O r from b place c)
keeps_append {S = S} {C = C} {O = O} rules w h n r from b place c s stands sent = by_role (cases_Bool (follows r b))
  where
    said : SpeaksTruth w h (n + 1) from (Append b place c)
    said = s.said (n + 1) _ sent

    by_between : Follows r b → place ≤ length r.log →
        (g : Given) × (h.given r.held_in ≡ Some g) × ((l : Line C) × (h.line r.held_in ≡ Some l)
        × IsPrefixOf l.base r.log × IsPrefixOf r.log l.list) →
        KeepsSoundness rules w h n (record {
          state = record r { log = extended place c r.log };
          effects = message_to O r.id (Held b (length (extended place c r.log))) from ∷ [];
        })
    by_between f within (g, is_given, (l, lined, base, list)) =
        append_taken rules w h n r from b place c s stands said f within g l (ap h.given (sym f.held) ∙ is_given)
        (ap h.line (sym f.held) ∙ lined) base list

    by_length : follows r b ≡ true → (length r.log < place) ⊎ (place ≤ length r.log) → KeepsSoundness rules w h n (on_append O r from b place c)
    by_length e (inl gap) = keeps_nothing rules w h n r _ s stands (on_append-gap O r from b place c e gap)
    by_length e (inr within) =
        let f = follows_is r b e in
        subst (λ (o : Outcome S C O). KeepsSoundness rules w h n o) (sym (on_append-takes O r from b place c e within))
        (by_between f within ((s.nodes n r stands).placed.between
        (let z = (s.ballots.were_given b said.4).2 in let y = f.held in omega (arith, z, y))))

    by_role : (follows r b ≡ true) ⊎ (follows r b ≡ false) → KeepsSoundness rules w h n (on_append O r from b place c)
    by_role (inl e) = by_length e (cases_lt (length r.log) place)
    by_role (inr e) = keeps_nothing rules w h n r _ s stands (on_append-elsewhere O r from b place c e)
