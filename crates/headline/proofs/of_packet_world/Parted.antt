-- Clients of a world have identifiers of their own, and no connection's name is that of another client's.
use Rattle.std.proofs.Common.{◌≡◌, ℕ, zero, suc, Bool, true, false, ◌||◌, List, [], ◌∷◌, map, set, Some, refl, ap, sym, ◌∙◌, subst, inl, inr, ◌⊎◌}
use Rattle.std.specs.Prelude.{slice_get}
use Rattle.std.proofs.lemmas.Bool.{both_ways, cases_Bool}
use Rattle.broker_spec.specs.Connection.{ConnectionName, same_connection}
use Rattle.broker_spec.specs.Place.{Client}
use Rattle.broker_spec.proofs.ConnectionNames.{same_name}
use Rattle.lists.specs.Lists.{Each}
use Rattle.lists.proofs.Tests.{none_or}
use Rattle.exactly_once.specs.StoryCommands.{any_named}
use Rattle.headline.specs.packet_world.World.{ClientEnds, new_client, ClientsAreApart, IsFresh}
use Rattle.headline.specs.packet_world.Steps.{after_opening}
use Rattle.headline.proofs.of_packet_world.Lists.{set_get, each_get}

-- whether a client has a connection of this name
abbrev pub is_named_by : ConnectionName → ClientEnds → Bool
is_named_by x c = any_named (same_connection x) c.connections

pub record Parted (c d : ClientEnds) : Type 0 where
  pub ids : c.keeper.client ≡ d.keeper.client → ⊥
  pub names : (x : ConnectionName) → is_named_by x c ≡ true → is_named_by x d ≡ false

abbrev pub AllParted : List ClientEnds → Type 0
AllParted clients = (i k : ℕ) (c d : ClientEnds) → slice_get clients i ≡ Some c → slice_get clients k ≡ Some d → (i ≡ k → ⊥) → Parted c d

-- ---- as a world opens

apart_at : (c : Client) (cs : List Client) (k : ℕ) (d : ClientEnds) → Each (λ e. c ≡ e → ⊥) cs → slice_get (map new_client cs) k ≡ Some d → c ≡ d.keeper.client → ⊥
apart_at c [] k d far e = cc
apart_at c (f ∷ cs) zero d far e = let same : new_client f ≡ d = cc in λ s. far.0 (s ∙ ap (λ (g : ClientEnds). g.keeper.client) (sym same))
apart_at c (f ∷ cs) (suc k) d far e = apart_at c cs k d far.1 e

opening_ids : (cs : List Client) → ClientsAreApart cs → (i k : ℕ) (c d : ClientEnds) → slice_get (map new_client cs) i ≡ Some c → slice_get (map new_client cs) k ≡ Some d → (i ≡ k → ⊥)
    → c.keeper.client ≡ d.keeper.client → ⊥
opening_ids [] far i k c d a b other = cc
opening_ids (f ∷ cs) far zero zero c d a b other = absurd (other refl)
opening_ids (f ∷ cs) far zero (suc k) c d a b other =
    let same : new_client f ≡ c = cc in
    λ s. apart_at f cs k d far.0 b (ap (λ (g : ClientEnds). g.keeper.client) same ∙ s)
opening_ids (f ∷ cs) far (suc i) zero c d a b other =
    let same : new_client f ≡ d = cc in
    λ s. apart_at f cs i c far.0 a (ap (λ (g : ClientEnds). g.keeper.client) same ∙ sym s)
opening_ids (f ∷ cs) far (suc i) (suc k) c d a b other = opening_ids cs far.1 i k c d a b (λ e. other (ap suc e))

opening_unnamed : (cs : List Client) (x : ConnectionName) (i : ℕ) (c : ClientEnds) → slice_get (map new_client cs) i ≡ Some c → is_named_by x c ≡ false
opening_unnamed [] x i c e = cc
opening_unnamed (f ∷ cs) x zero c e = let same : new_client f ≡ c = cc in subst (λ (g : ClientEnds). is_named_by x g ≡ false) same refl
opening_unnamed (f ∷ cs) x (suc i) c e = opening_unnamed cs x i c e

pub opening_parted : (cs : List Client) → ClientsAreApart cs → AllParted (map new_client cs)
opening_parted cs far i k c d a b other = record { ids = opening_ids cs far i k c d a b other; names = λ x named. opening_unnamed cs x k d b }

-- ---- one client becomes another

pub parted_set : (clients : List ClientEnds) (i : ℕ) (c later : ClientEnds) → AllParted clients → slice_get clients i ≡ Some c
    → ((k : ℕ) (d : ClientEnds) → slice_get clients k ≡ Some d → (k ≡ i → ⊥) → Parted later d × Parted d later) → AllParted (set clients i later)
parted_set clients i c later all there' both a b x y ea eb other = by (set_get clients i a c later x there' ea) (set_get clients i b c later y there' eb)
  where
    by : ((a ≡ i) × (later ≡ x)) ⊎ ((a ≡ i → ⊥) × (slice_get clients a ≡ Some x)) → ((b ≡ i) × (later ≡ y)) ⊎ ((b ≡ i → ⊥) × (slice_get clients b ≡ Some y)) → Parted x y
    by (inl (ai, lx)) (inl (bi, ly)) = absurd (other (ai ∙ sym bi))
    by (inl (ai, lx)) (inr (bn, ey)) = subst (λ (z : ClientEnds). Parted z y) lx (both b y ey bn).0
    by (inr (an, ex)) (inl (bi, ly)) = subst (λ (z : ClientEnds). Parted x z) ly (both a x ex an).1
    by (inr (an, ex)) (inr (bn, ey)) = all a b x y ex ey other

-- the same identifier, and the same names
pub record IsSameParty (c later : ClientEnds) : Type 0 where
  pub client : later.keeper.client ≡ c.keeper.client
  pub names : (test : ConnectionName → Bool) → any_named test later.connections ≡ any_named test c.connections

pub same_parted : (clients : List ClientEnds) (i : ℕ) (c later : ClientEnds) → AllParted clients → slice_get clients i ≡ Some c → IsSameParty c later → AllParted (set clients i later)
same_parted clients i c later all there' same =
    parted_set clients i c later all there' (λ k d e other.
    let one = all i k c d there' e (λ s. other (sym s)) in
    let two = all k i d c e there' other in (
      record { ids = λ s. one.ids (sym same.client ∙ s); names = λ x named. one.names x (sym (same.names (same_connection x)) ∙ named) },
      record { ids = λ s. two.ids (s ∙ same.client); names = λ x named. same.names (same_connection x) ∙ two.names x named },
    ))

-- one more connection, with a name that none has
pub opened_parted : (clients : List ClientEnds) (i : ℕ) (c : ClientEnds) (x : ConnectionName) (seen : ℕ) → AllParted clients → slice_get clients i ≡ Some c → IsFresh x clients
    → AllParted (set clients i (after_opening x seen c))
opened_parted clients i c x seen all there' fresh =
    parted_set clients i c (after_opening x seen c) all there' (λ k d e other.
    let one = all i k c d there' e (λ s. other (sym s)) in
    let two = all k i d c e there' other in
    let none : is_named_by x d ≡ false = each_get (λ (z : ClientEnds). is_named_by x z ≡ false) clients k d fresh e in (
      record { ids = one.ids; names = λ y named. by y d none (one.names y) (cases_Bool (same_connection y x)) named },
      record {
        ids = two.ids;
        names = λ y named. none_or (same_connection y x) (is_named_by y c) (differs y d none named (cases_Bool (same_connection y x))) (two.names y named);
      },
    ))
  where
    by : (y : ConnectionName) (d : ClientEnds) → is_named_by x d ≡ false → (is_named_by y c ≡ true → is_named_by y d ≡ false) → (same_connection y x ≡ true) ⊎ (same_connection y x ≡ false)
        → (same_connection y x || is_named_by y c) ≡ true → is_named_by y d ≡ false
    by y d none rest (inl e) named = subst (λ (z : ConnectionName). is_named_by z d ≡ false) (sym (same_name y x e)) none
    by y d none rest (inr e) named = rest (sym (ap (λ b. b || is_named_by y c) e) ∙ named)

    differs : (y : ConnectionName) (d : ClientEnds) → is_named_by x d ≡ false → is_named_by y d ≡ true → (same_connection y x ≡ true) ⊎ (same_connection y x ≡ false) → same_connection y x ≡ false
    differs y d none named (inl e) = absurd (both_ways (is_named_by x d) none (subst (λ (z : ConnectionName). is_named_by z d ≡ true) (same_name y x e) named))
    differs y d none named (inr e) = e

-- what is fresh after it was fresh before
pub fresh_before : (x : ConnectionName) (clients : List ClientEnds) (i : ℕ) (c later : ClientEnds) → slice_get clients i ≡ Some c → (is_named_by x later ≡ false → is_named_by x c ≡ false)
    → IsFresh x (set clients i later) → IsFresh x clients
fresh_before x [] i c later e less fresh = tt
fresh_before x (d ∷ clients) zero c later e less fresh =
    let same : c ≡ d = cc in (subst (λ (z : ClientEnds). is_named_by x z ≡ false) same (less fresh.0), fresh.1)
fresh_before x (d ∷ clients) (suc i) c later e less fresh = (fresh.0, fresh_before x clients i c later e less fresh.1)
