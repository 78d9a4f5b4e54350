-- A loop that reads one item after the other: after i of n, what is read, and what is left,
-- continue to the same outcome.
use Rattle.std.proofs.Common.{◌≡◌, ℕ, suc, ◌+◌, ◌-◌, ◌<◌, ◌≤◌, Bool, true, false, List, [], ◌∷◌, ◌++◌, Result, Ok, Err, refl, sym, ◌∙◌, ap, subst, arith, ◌⊎◌, inl, inr}
use Rattle.packet_base.specs.declared.stop.Stop.{Stop}
use Rattle.packet_base.specs.declared.stop.Stop.TheVariants as stops
use Rattle.topics.specs.declared.malformed.MalformedKind.TheVariants as kinds
use Rattle.packet_base.specs.Outcome.{StopsBy}
use Rattle.packet_base.specs.Lists.{ItemAt}
use Rattle.packet_base.specs.Readers.{◌>>=◌, ◌>>◌}
use Rattle.packet_base.proofs.ItemsInALoop.{stops_at, stops_cases}
use Rattle.session_base.specs.Counted.{check_form, items_after, AddsItem}

module _ {A : Type 0} (follows : List A → A → Bool) (item : ItemAt A) where
  abbrev Read : Type 0
  Read = Result (List A × List ℕ) Stop

  abbrev left : ℕ → ℕ → List A → List ℕ → Read
  left n i front bytes = items_after follows item (n - i) front bytes

  -- one item, and the rest
  abbrev turn_of : ℕ → List A → List ℕ → Read
  turn_of n front bytes = item bytes >>= (λ one. check_form (follows front one.0) >> items_after follows item n (front ++ one.0 ∷ []) one.1)

  turn_is : (n i : ℕ) (front : List A) (bytes : List ℕ) → i < n → left n i front bytes ≡ turn_of (n - (i + 1)) front bytes
  unfolding items_after
  turn_is n i front bytes less =
      let e : n - i ≡ suc (n - (i + 1)) = omega (arith, less) in ap (λ (m : ℕ). items_after follows item m front bytes) e

  pub ends : (n i : ℕ) (front : List A) (bytes : List ℕ) (total : Read) → n ≤ i → left n i front bytes ≡ total → total ≡ Ok (front, bytes)
  unfolding items_after
  ends n i front bytes total less e =
      let none : n - i ≡ 0 = omega (arith, less) in sym e ∙ ap (λ (m : ℕ). items_after follows item m front bytes) none

  pub goes_on : (n i : ℕ) (front after : List A) (bytes rest : List ℕ) (one : A) (total : Read) → i < n → left n i front bytes ≡ total →
      item bytes ≡ Ok (one, rest) → follows front one ≡ true → after ≡ front ++ one ∷ [] → left n (i + 1) after rest ≡ total
  goes_on n i front after bytes rest one total less e read may is =
      ap (λ (z : List A). left n (i + 1) z rest) is ∙ sym (rw (read, may) refl) ∙ sym (turn_is n i front bytes less) ∙ e

  -- no item is there
  pub stops_so : (n i : ℕ) (front : List A) (bytes : List ℕ) (total : Read) (stop : Stop) → i < n → left n i front bytes ≡ total →
      StopsBy stop (item bytes) → StopsBy stop total
  stops_so n i front bytes total stop less e h =
      elim (stops_cases stop (item bytes) h) [
        | inl memory ↦ subst (λ (s : Stop). StopsBy s total) (sym memory) tt
        | inr is ↦
            let turn : turn_of (n - (i + 1)) front bytes ≡ Err stop = rw is refl in
            stops_at stop total (sym e ∙ turn_is n i front bytes less ∙ turn)
      ]

  adds_cases : (front : List A) (one : A) (after : List A) (stop : Stop) → AddsItem follows front one (Err stop) after →
      (stop ≡ stops.Malformed kinds.Memory) ⊎ ((follows front one ≡ false) × (stop ≡ stops.Malformed kinds.Shape))
  adds_cases front one after stops.More h = inr h
  adds_cases front one after (stops.Malformed kinds.Memory) h = inl refl
  adds_cases front one after (stops.Malformed kind) h = inr h
  adds_cases front one after (stops.Refused code) h = inr h

  -- an item that may not be there
  pub refused_so : (n i : ℕ) (front after : List A) (bytes rest : List ℕ) (one : A) (total : Read) (stop : Stop) → i < n → left n i front bytes ≡ total →
      item bytes ≡ Ok (one, rest) → AddsItem follows front one (Err stop) after → StopsBy stop total
  refused_so n i front after bytes rest one total stop less e read h =
      elim (adds_cases front one after stop h) [
        | inl memory ↦ subst (λ (s : Stop). StopsBy s total) (sym memory) tt
        | inr facts ↦
            let turn : turn_of (n - (i + 1)) front bytes ≡ Err stop = rw (read, facts.0) (ap (λ (s : Stop). Err s) (sym facts.1)) in
            stops_at stop total (sym e ∙ turn_is n i front bytes less ∙ turn)
      ]
