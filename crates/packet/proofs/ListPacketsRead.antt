-- The bodies of SUBSCRIBE, SUBACK and UNSUBSCRIBE that are read are spelled so, and those that are
-- spelled are read.
use Rattle.std.proofs.Common.{◌≡◌, ℕ, ◌^◌, ◌<◌, true, eqb, List, [], ◌∷◌, ◌++◌, length, Ok, refl, ap, subst, ◌∙◌, append_assoc, arith}
use Rattle.std.specs.Prelude.{IfOk, IsTrue}
use Rattle.std.specs.List.{flat_map, All}
use Rattle.std.proofs.lemmas.Bool.{eqb-true}
use Rattle.topics.specs.Text.{is_filter}
use Rattle.packet_base.specs.Spelling.{number, text}
use Rattle.packet_base.specs.Readers.{AreBytes, byte_at, id_at}
use Rattle.packet_base.specs.TopicFields.{filter_at}
use Rattle.packet_base.specs.Lists.{list_of}
use Rattle.packet_base.proofs.Steps.{then_if, cond_if}
use Rattle.packet_base.proofs.FieldsFound.{Splits, Splits-then, byte_found, id_found, filter_found}
use Rattle.packet_base.proofs.FieldsAgain.{id_again, filter_again}
use Rattle.packet_base.proofs.ListsRead.{IsItem, list_found, list_again}
use Rattle.packet_base.specs.declared.qos.QoS.{QoS}
use Rattle.packet_base.specs.declared.qos.QoS.TheVariants as qos_levels
use Rattle.packet.specs.declared.subscribe.Subscription.{Subscription}
use Rattle.packet.specs.declared.subscribe.Subscribe.{Subscribe}
use Rattle.packet.specs.declared.suback.SubackCode.{SubackCode}
use Rattle.packet.specs.declared.suback.SubackCode.TheVariants as return_codes
use Rattle.packet.specs.declared.suback.Suback.{Suback}
use Rattle.packet.specs.declared.unsubscribe.Unsubscribe.{Unsubscribe}
use Rattle.packet_base.specs.QoS.{qos_number, qos_of}
use Rattle.packet.specs.Subscribe.{subscription, subscribe_body, FitsSubscription, FitsSubscribe, subscription_at, subscribe_of}
use Rattle.packet.specs.Suback.{granted_number, granted, suback_body, FitsSuback, suback_code_of, granted_at, suback_of}
use Rattle.packet.specs.Unsubscribe.{unsubscribe_body, FitsUnsubscribe, unsubscribe_of}
use Rattle.packet_base.proofs.QoSReads.{qos_found, qos_again}

-- ---- items

subscription_found : (bytes : List ℕ) → AreBytes bytes → IfOk (subscription_at bytes) (λ x. Splits bytes (subscription x.0) x.1 × FitsSubscription x.0)
unfolding subscription_at
subscription_found bytes fits =
    let Q : Subscription × List ℕ → Type 0 = λ x. Splits bytes (subscription x.0) x.1 × FitsSubscription x.0 in
    then_if (filter_at bytes) _ (λ x. Splits bytes (text x.0) x.1 × (is_filter x.0 ≡ true)) Q (filter_found bytes fits) (λ filter h.
    then_if (byte_at filter.1) _ (λ x. Splits filter.1 (x.0 ∷ []) x.1 × (x.0 < 256)) Q (byte_found filter.1 h.0.left) (λ byte k.
    then_if (qos_of byte.0) _ (λ qos. byte.0 ≡ qos_number qos) Q (qos_found byte.0) (λ qos is.
    let both = Splits-then bytes (text filter.0) filter.1 (byte.0 ∷ []) byte.1 h.0 k.0 in
    (subst (λ (n : ℕ). Splits bytes (text filter.0 ++ n ∷ []) byte.1) is both, h.1))))

subscription_again : (s : Subscription) (rest : List ℕ) → FitsSubscription s → subscription_at (subscription s ++ rest) ≡ Ok (s, rest)
unfolding subscription_at
subscription_again s rest fits =
    let regrouped : subscription s ++ rest ≡ text s.filter ++ (qos_number s.qos ∷ rest) = append_assoc (text s.filter) (qos_number s.qos ∷ []) rest in
    ap subscription_at regrouped ∙ rw (filter_again s.filter (qos_number s.qos ∷ rest) fits, qos_again s.qos) refl

subscriptions : IsItem subscription_at subscription FitsSubscription
subscriptions = record { found = subscription_found; again = subscription_again; some = λ s. omega arith }

names : IsItem filter_at text (λ filter. IsTrue (is_filter filter))
names = record { found = filter_found; again = filter_again; some = λ filter. omega arith }

granted_of_found : (byte : ℕ) → IfOk (suback_code_of byte) (λ code. byte ≡ granted_number code)
granted_of_found byte =
    let Q : SubackCode → Type 0 = λ code. byte ≡ granted_number code in
    cond_if (eqb byte 0x80) _ _ Q (eqb-true byte 0x80) (λ _.
    then_if (qos_of byte) _ (λ qos. byte ≡ qos_number qos) Q (qos_found byte) (λ qos is. is))

granted_found : (bytes : List ℕ) → AreBytes bytes → IfOk (granted_at bytes) (λ x. Splits bytes (granted x.0) x.1 × Unit {0})
unfolding granted_at
granted_found bytes fits =
    let Q : SubackCode × List ℕ → Type 0 = λ x. Splits bytes (granted x.0) x.1 × Unit {0} in
    then_if (byte_at bytes) _ (λ x. Splits bytes (x.0 ∷ []) x.1 × (x.0 < 256)) Q (byte_found bytes fits) (λ byte h.
    then_if (suback_code_of byte.0) _ (λ code. byte.0 ≡ granted_number code) Q (granted_of_found byte.0) (λ code is.
    (subst (λ (n : ℕ). Splits bytes (n ∷ []) byte.1) is h.0, tt)))

granted_of_again : (code : SubackCode) → suback_code_of (granted_number code) ≡ Ok code
granted_of_again (return_codes.Granted qos) = at_level qos
  where
    at_level : (qos : QoS) → suback_code_of (qos_number qos) ≡ Ok (return_codes.Granted qos)
    at_level qos_levels.AtMostOnce = refl
    at_level qos_levels.AtLeastOnce = refl
    at_level qos_levels.ExactlyOnce = refl
granted_of_again return_codes.Failure = refl

granted_again : (code : SubackCode) (rest : List ℕ) → Unit {0} → granted_at (granted code ++ rest) ≡ Ok (code, rest)
unfolding granted_at
granted_again code rest fits = rw (granted_of_again code) refl

codes : IsItem granted_at granted (λ _. Unit {0})
codes = record { found = granted_found; again = granted_again; some = λ code. omega arith }

-- ---- bodies

-- an identifier, then a list
id_then : (body rest items : List ℕ) (id : ℕ) → Splits body (number id) rest → rest ≡ items → body ≡ number id ++ items
id_then body rest items id h is = h.parts ∙ ap (λ (x : List ℕ). number id ++ x) is

pub subscribe_found : (body : List ℕ) → AreBytes body → IfOk (subscribe_of body) (λ s. (body ≡ subscribe_body s) × FitsSubscribe s × (0 < length s.filters))
unfolding subscribe_of
subscribe_found body fits =
    let Q : Subscribe → Type 0 = λ s. (body ≡ subscribe_body s) × FitsSubscribe s × (0 < length s.filters) in
    then_if (id_at body) _ (λ x. Splits body (number x.0) x.1 × (x.0 < 2 ^ 16) × (0 < x.0)) Q (id_found body fits) (λ id h.
    then_if (list_of subscription_at id.1) _ (λ xs. (id.1 ≡ flat_map subscription xs) × All FitsSubscription xs × (0 < length xs)) Q
    (list_found subscription_at subscription FitsSubscription subscriptions id.1 h.0.left) (λ xs k.
    (id_then body id.1 (flat_map subscription xs) id.0 h.0 k.0, ((h.2, h.1), k.1), k.2)))

pub subscribe_again : (s : Subscribe) → FitsSubscribe s → 0 < length s.filters → subscribe_of (subscribe_body s) ≡ Ok s
unfolding subscribe_of
subscribe_again s fits some =
    rw (
      id_again s.id (flat_map subscription s.filters) fits.0.0 fits.0.1,
      list_again subscription_at subscription FitsSubscription subscriptions s.filters fits.1 some,
    ) refl

pub unsubscribe_found : (body : List ℕ) → AreBytes body → IfOk (unsubscribe_of body) (λ u. (body ≡ unsubscribe_body u) × FitsUnsubscribe u × (0 < length u.filters))
unfolding unsubscribe_of
unsubscribe_found body fits =
    let Q : Unsubscribe → Type 0 = λ u. (body ≡ unsubscribe_body u) × FitsUnsubscribe u × (0 < length u.filters) in
    then_if (id_at body) _ (λ x. Splits body (number x.0) x.1 × (x.0 < 2 ^ 16) × (0 < x.0)) Q (id_found body fits) (λ id h.
    then_if (list_of filter_at id.1) _ (λ xs. (id.1 ≡ flat_map text xs) × All (λ filter. IsTrue (is_filter filter)) xs × (0 < length xs)) Q
    (list_found filter_at text (λ filter. IsTrue (is_filter filter)) names id.1 h.0.left) (λ xs k.
    (id_then body id.1 (flat_map text xs) id.0 h.0 k.0, ((h.2, h.1), k.1), k.2)))

pub unsubscribe_again : (u : Unsubscribe) → FitsUnsubscribe u → 0 < length u.filters → unsubscribe_of (unsubscribe_body u) ≡ Ok u
unfolding unsubscribe_of
unsubscribe_again u fits some =
    rw (
      id_again u.id (flat_map text u.filters) fits.0.0 fits.0.1,
      list_again filter_at text (λ filter. IsTrue (is_filter filter)) names u.filters fits.1 some,
    ) refl

pub suback_found : (body : List ℕ) → AreBytes body → IfOk (suback_of body) (λ s. (body ≡ suback_body s) × FitsSuback s × (0 < length s.codes))
unfolding suback_of
suback_found body fits =
    let Q : Suback → Type 0 = λ s. (body ≡ suback_body s) × FitsSuback s × (0 < length s.codes) in
    then_if (id_at body) _ (λ x. Splits body (number x.0) x.1 × (x.0 < 2 ^ 16) × (0 < x.0)) Q (id_found body fits) (λ id h.
    then_if (list_of granted_at id.1) _ (λ xs. (id.1 ≡ flat_map granted xs) × All (λ _. Unit {0}) xs × (0 < length xs)) Q
    (list_found granted_at granted (λ _. Unit {0}) codes id.1 h.0.left) (λ xs k.
    (id_then body id.1 (flat_map granted xs) id.0 h.0 k.0, (h.2, h.1), k.2)))

pub suback_again : (s : Suback) → FitsSuback s → 0 < length s.codes → suback_of (suback_body s) ≡ Ok s
unfolding suback_of
suback_again s fits some =
    rw (
      id_again s.id (flat_map granted s.codes) fits.0 fits.1,
      list_again granted_at granted (λ _. Unit {0}) codes s.codes (λ k d less. tt) some,
    ) refl
