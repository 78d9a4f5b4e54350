-- The client that owns a connection is served on it.
use Rattle.std.proofs.Common.{◌≡◌, Bool, true, false, if◌then◌else◌, List, [], ◌∷◌, Option, Some, None, refl, ap, sym, ◌∙◌, subst, inl, inr, ◌⊎◌}
use Rattle.std.proofs.lemmas.Bool.{both_ways, cases_Bool}
use Rattle.broker_spec.specs.Connection.{ConnectionName, same_connection}
use Rattle.broker_spec.specs.Place.{Client, Past}
use Rattle.broker_spec.specs.Sessions.{any_connection, current_connection}
use Rattle.broker_spec.specs.Owner.{clients, first_client, owner_of}
use Rattle.broker_spec.proofs.ConnectionNames.{same_name}

-- the first of which it holds
first_holds : (test : Client → Bool) (cs : List Client) (d : Client) → first_client test cs ≡ Some d → test d ≡ true
first_holds test [] d e = cc
first_holds test (c ∷ cs) d e = by (cases_Bool (test c)) (first_holds test cs d)
  where
    by : (test c ≡ true) ⊎ (test c ≡ false) → (first_client test cs ≡ Some d → test d ≡ true) → test d ≡ true
    by (inl t) ih =
        let found : Some c ≡ Some d = sym (ap (λ b. if b then Some c else first_client test cs) t) ∙ e in
        let same : c ≡ d = cc in
        subst (λ (k : Client). test k ≡ true) same t
    by (inr f) ih = ih (sym (ap (λ b. if b then Some c else first_client test cs) f) ∙ e)

named_is : (x : ConnectionName) (o : Option ConnectionName) → any_connection (same_connection x) o ≡ true → o ≡ Some x
named_is x None e = absurd (both_ways false refl e)
named_is x (Some y) e = ap (λ z. Some z) (sym (same_name x y e))

pub owner_is_served : (past : Past) (x : ConnectionName) (d : Client) → owner_of past x ≡ Some d → current_connection past d ≡ Some x
owner_is_served past x d e =
    named_is x (current_connection past d) (first_holds (λ c. any_connection (same_connection x) (current_connection past c)) (clients past) d e)
