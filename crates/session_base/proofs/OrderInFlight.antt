-- Released entries come first, and what is sent again comes in the order in flight.
use Rattle.std.proofs.Common.{◌≡◌, ℕ, Bool, true, false, not, ◌&&◌, inl, inr, nat_lt, if◌then◌else◌, List, [], ◌∷◌, ◌++◌, length, filter, refl}
use Rattle.std.specs.List.{list_any}
use Rattle.std.proofs.lemmas.List.{map-append}
use Rattle.session_base.specs.declared.publication.Publication.{Publication}
use Rattle.session_base.specs.declared.awaits.Awaits.TheVariants as waits_for
use Rattle.session_base.specs.Publication.{is_qos1}
use Rattle.session_base.specs.Queue.{Flight, is_pubcomp, is_released, awaits_puback, awaits_pubrec, awaits_pubcomp, released_with, on_pubrec, started_flight, fill}
use Rattle.session_base.specs.EntryPackets.{sent_anew}
use Rattle.session_base.specs.OrderTheorems.{NoneReleased, IsReleasedFirst, KeepsReleasedFirst, ResendsInOrder}
use Rattle.session_base.proofs.AnswersOfClients.{first_no}

-- ---- released first

first_none : (fs : List Flight) → NoneReleased fs → IsReleasedFirst fs
first_none [] h = tt
first_none (flight ∷ fs) h = inr h

none_filter : (p : Flight → Bool) (fs : List Flight) → NoneReleased fs → NoneReleased (filter p fs)
none_filter p [] h = tt
none_filter p (flight ∷ fs) h =
    elim (p flight) as (λ (b : Bool). NoneReleased (if b then flight ∷ filter p fs else filter p fs)) [ true ↦ (h.0, none_filter p fs h.1) | false ↦ none_filter p fs h.1 ]

first_filter : (p : Flight → Bool) (fs : List Flight) → IsReleasedFirst fs → IsReleasedFirst (filter p fs)
first_filter p [] h = tt
first_filter p (flight ∷ fs) (inl h) =
    elim (p flight) as (λ (b : Bool). IsReleasedFirst (if b then flight ∷ filter p fs else filter p fs)) [ true ↦ inl (h.0, first_filter p fs h.1) | false ↦ first_filter p fs h.1 ]
first_filter p (flight ∷ fs) (inr h) = first_none (filter p (flight ∷ fs)) (none_filter p (flight ∷ fs) h)

after_released : (fs gs : List Flight) → IsReleasedFirst gs → IsReleasedFirst (filter is_released fs ++ gs)
after_released [] gs h = h
after_released (flight ∷ fs) gs h =
    elim (is_released flight) as (λ (b : Bool). is_released flight ≡ b → IsReleasedFirst ((if b then flight ∷ filter is_released fs else filter is_released fs) ++ gs)) [
      | true ↦ λ e. inl (e, after_released fs gs h)
      | false ↦ λ e. after_released fs gs h
    ] refl

none_left : (q : Flight → Bool) (fs : List Flight) → NoneReleased (filter (λ flight. not (is_released flight) && q flight) fs)
none_left q [] = tt
none_left q (flight ∷ fs) =
    elim (not (is_released flight) && q flight) as (λ (b : Bool). (not (is_released flight) && q flight) ≡ b →
    NoneReleased (if b then flight ∷ filter (λ other. not (is_released other) && q other) fs else filter (λ other. not (is_released other) && q other) fs)) [
      | true ↦ λ e. (first_no (is_released flight) (q flight) e, none_left q fs)
      | false ↦ λ e. none_left q fs
    ] refl

first_pubrec : (id : ℕ) (fs : List Flight) → IsReleasedFirst fs → IsReleasedFirst (on_pubrec id fs)
first_pubrec id fs h =
    elim (list_any (awaits_pubrec id) fs) as (λ (b : Bool). IsReleasedFirst (if b then released_with id fs else fs)) [
      | true ↦ after_released fs _ (inl (refl, first_none _ (none_left (λ flight. not (awaits_pubrec id flight)) fs)))
      | false ↦ h
    ]

none_more : (fs : List Flight) (flight : Flight) → is_released flight ≡ false → NoneReleased fs → NoneReleased (fs ++ flight ∷ [])
none_more [] flight e h = (e, tt)
none_more (other ∷ fs) flight e h = (h.0, none_more fs flight e h.1)

pub first_more : (fs : List Flight) (flight : Flight) → is_released flight ≡ false → IsReleasedFirst fs → IsReleasedFirst (fs ++ flight ∷ [])
first_more [] flight e h = inr (e, tt)
first_more (other ∷ fs) flight e (inl h) = inl (h.0, first_more fs flight e h.1)
first_more (other ∷ fs) flight e (inr h) = inr (none_more (other ∷ fs) flight e h)

pub not_yet : (b : Bool) (p : Publication) → is_pubcomp (if b then waits_for.Puback p else waits_for.Pubrec p) ≡ false
not_yet true p = refl
not_yet false p = refl

first_fill : (w : ℕ) (fs : List Flight) (ps : List Publication) → IsReleasedFirst fs → IsReleasedFirst (fill w fs ps).in_flight
first_fill w fs [] h = h
first_fill w fs (p ∷ ps) h =
    elim (nat_lt (length fs) w) as (λ (b : Bool). IsReleasedFirst (if b then fill w (fs ++ started_flight fs p ∷ []) ps else record { in_flight = fs; waiting = p ∷ ps }).in_flight) [
      | true ↦ first_fill w (fs ++ started_flight fs p ∷ []) ps (first_more fs (started_flight fs p) (not_yet (is_qos1 p.qos) p) h)
      | false ↦ h
    ]

pub released_first : KeepsReleasedFirst
released_first fs h = (
  λ id. first_filter (λ flight. not (awaits_puback id flight)) fs h,
  λ id. first_pubrec id fs h,
  λ id. first_filter (λ flight. not (awaits_pubcomp id flight)) fs h,
  λ window waiting. first_fill window fs waiting h,
)

-- ---- sent again

pub resends : ResendsInOrder
resends = (λ fs gs. map-append (λ (flight : Flight). sent_anew flight.0 flight.1) fs gs, λ id. refl, λ id p. refl, λ id p. refl)
