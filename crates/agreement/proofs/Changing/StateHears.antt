-- StateHears.antt: what a fetching primary knows when a State of its ballot comes.
use Rattle.std.proofs.Common.{◌≡◌, ℕ, ◌+◌, ◌<◌, inl, inr, List, Some, None, ap, sym, ◌∙◌}
use Rattle.agreement.specs.whole_logs.Messages.Body.{State}
use Rattle.agreement.specs.whole_logs.Replica.{ReplicaState}
use Rattle.agreement.specs.World.{GroupWorld}
use Rattle.lists.specs.Lists.{IsPrefixOf}
use Rattle.agreement.specs.Inside.Ballots.{Given, Line, History, Sealed}
use Rattle.agreement.specs.Inside.SoundNodes.{IsFetching}
use Rattle.agreement.specs.Inside.MessageMeaning.{SpeaksTruth, IsOf, IsOffered}

-- what a fetching primary knows when a State of its ballot comes
pub record StateHeard {S C O : Type 0} (w : GroupWorld S C O) (h : History C) (n : ℕ) (r : ReplicaState S C) (xs : List C) : Type 0 where
  pub ballot : Given
  pub is_of : IsOf h r.joined ballot
  pub primary : ballot.primary ≡ n + 1
  pub members : r.members ≡ ballot.members
  pub below : r.held_in < r.joined
  pub unlined : h.line r.joined ≡ None
  pub sealed : Sealed w h ballot.previous xs
  pub before : Line C
  pub lined_before : h.line ballot.previous ≡ Some before
  pub front : IsPrefixOf xs before.list

pub state_heard : {S C O : Type 0} (w : GroupWorld S C O) (h : History C) (n : ℕ) (r : ReplicaState S C) (from b : ℕ) (xs : List C) →
    r.joined ≡ b → IsFetching w h n r → SpeaksTruth w h (n + 1) from (State b xs) → StateHeard w h n r xs
state_heard {S = S} {C = C} {O = O} w h n r from b xs same ((g0, given0, primary0, members0), below, unlined, q) (g, is_of, to, j1, j2, sealed, offered) =
    by_offer offered
  where
    given_g : h.given r.joined ≡ Some g
    given_g = ap h.given same ∙ is_of.given

    one : g0 ≡ g
    one = cc

    by_offer : IsOffered h b g xs → StateHeard w h n r xs
    by_offer (inl (p, lined, front)) =
        record {
          ballot = g;
          is_of = record { given = given_g; later = is_of.later };
          primary = sym to;
          members = members0 ∙ ap (λ (x : Given). x.members) one;
          below = below;
          unlined = unlined;
          sealed = sealed;
          before = p;
          lined_before = lined;
          front = front;
        }
    by_offer (inr (l, lined, base, list)) = let e = ap h.line same ∙ lined in cc
