-- The client whose current connection this is: it has it, and if a client has it there is such a
-- client.
use Rattle.std.proofs.Common.{◌≡◌, Bool, true, false, if◌then◌else◌, List, [], ◌∷◌, filter, Some, None, refl, ap, sym, ◌∙◌, subst, inl, inr, ◌⊎◌}
use Rattle.std.specs.Prelude.{is_some}
use Rattle.std.proofs.lemmas.Bool.{both_ways, cases_Bool}
use Rattle.broker_spec.specs.Connection.{ConnectionName, same_connection}
use Rattle.broker_spec.specs.Place.{Client, Past}
use Rattle.broker_spec.specs.Sessions.{any_connection, current_connection, clean_session_of}
use Rattle.broker_spec.specs.Owner.{named, clients, first_client, owner_of}
use Rattle.broker_spec.proofs.ClientsInOrder.{IsNamed, session_is_named}
use Rattle.exactly_once.proofs.places.Sessions.{current_has_session}

-- the first of which it holds
first_holds : (test : Client → Bool) (cs : List Client) (d : Client) → first_client test cs ≡ Some d → test d ≡ true
first_holds test [] d e = cc
first_holds test (c ∷ cs) d e = by (cases_Bool (test c)) (first_holds test cs d)
  where
    by : (test c ≡ true) ⊎ (test c ≡ false) → (first_client test cs ≡ Some d → test d ≡ true) → test d ≡ true
    by (inl t) ih =
        let found : Some c ≡ Some d = sym (ap (λ b. if b then Some c else first_client test cs) t) ∙ e in
        let same : c ≡ d = cc in
        subst (λ (k : Client). test k ≡ true) same t
    by (inr f) ih = ih (sym (ap (λ b. if b then Some c else first_client test cs) f) ∙ e)

-- one of which it holds is among them
first_there : (test : Client → Bool) (cs : List Client) (c : Client) → IsNamed c cs → test c ≡ true → is_some (first_client test cs) ≡ true
first_there test [] c n t = absurd n
first_there test (d ∷ cs) c n t = by (test d) refl n (λ m. first_there test cs c m t)
  where
    by : (b : Bool) → test d ≡ b → (c ≡ d) ⊎ IsNamed c cs → (IsNamed c cs → is_some (first_client test cs) ≡ true) → is_some (if b then Some d else first_client test cs) ≡ true
    by true e m ih = refl
    by false e (inl same) ih = absurd (both_ways (test d) e (subst (λ (k : Client). test k ≡ true) same t))
    by false e (inr m) ih = ih m

named_filtered : (test : Client → Bool) (cs : List Client) (c : Client) → IsNamed c cs → test c ≡ true → IsNamed c (filter test cs)
named_filtered test [] c n t = absurd n
named_filtered test (d ∷ cs) c n t = by (test d) refl n (λ m. named_filtered test cs c m t)
  where
    by : (b : Bool) → test d ≡ b → (c ≡ d) ⊎ IsNamed c cs → (IsNamed c cs → IsNamed c (filter test cs)) → IsNamed c (if b then d ∷ filter test cs else filter test cs)
    by true e (inl same) ih = inl same
    by true e (inr m) ih = inr (ih m)
    by false e (inl same) ih = absurd (both_ways (test d) e (subst (λ (k : Client). test k ≡ true) same t))
    by false e (inr m) ih = ih m

-- the owner has the connection
pub owner_has : (past : Past) (x : ConnectionName) (d : Client) → owner_of past x ≡ Some d → any_connection (same_connection x) (current_connection past d) ≡ true
owner_has past x d e = first_holds (λ c. any_connection (same_connection x) (current_connection past c)) (clients past) d e

-- and if one has it, it has an owner
pub owner_there : (past : Past) (x y : ConnectionName) (c : Client) → current_connection past c ≡ Some y → same_connection x y ≡ true → is_some (owner_of past x) ≡ true
owner_there past x y c e same =
    first_there (λ d. any_connection (same_connection x) (current_connection past d)) (clients past) c
    (named_filtered (λ d. is_some (clean_session_of past d)) (named past) c (is_named (session_is_named past c)) some)
    (ap (any_connection (same_connection x)) e ∙ same)
  where
    some : is_some (clean_session_of past c) ≡ true
    some = current_has_session past c y e

    is_named : (clean_session_of past c ≡ None) ⊎ IsNamed c (named past) → IsNamed c (named past)
    is_named (inl none) = absurd (both_ways (is_some (clean_session_of past c)) (ap is_some none) some)
    is_named (inr n) = n
