-- Meeting.antt: two ends that meet, and what was written if they do not.
use Rattle.std.proofs.Common.{◌≡◌, ℕ, ◌+◌, ◌≤◌, ◌↔◌, Bool, true, false, Option, List, [], ◌++◌, length, take, Ok, refl, sym, ap, ◌∙◌, subst, arith, length-append}
use Rattle.std.specs.Io.KnownBytes.{Appends, Consumes}
use Rattle.std.proofs.lemmas.List.{take-append-le, take_all}
use Rattle.links.specs.seal.Frames.{Opening, Place}
use Rattle.links.specs.seal.Hellos.{hello_bytes, hello_of}
use Rattle.links.specs.seal.Keys.{derived_at, other_side, proves, seals}
use Rattle.links.specs.declared.seal.hello.Hello.{Hello}
use Rattle.links.specs.declared.seal.keys.Side.{Side}
use Rattle.links.specs.declared.seal.membership.Membership.{Membership}
use Rattle.links.specs.Devices.{WritesPrefix}
use Rattle.links.specs.Handshakes.{IsNoProof, Meets, WritesSome, wanted, written_by}
use Rattle.links.proofs.Hellos.{consumes_join, take_behind}
use Rattle.links.proofs.WritesJoin.{appends_join}

-- where a direction with this key begins, and an end that opens it
abbrev place_of : List ℕ → Place
place_of key = record { key = key; next = 0 }

abbrev opening_of : List ℕ → Opening
opening_of key = record { place = place_of key; failed = false }

pub whole_prefix : (held now : Option (List ℕ)) (bytes : List ℕ) → Appends held now bytes → WritesPrefix held now bytes
whole_prefix held now bytes h =
    (length bytes, omega arith, subst (λ (l : List ℕ). Appends held now l) (sym (take_all (length bytes) bytes (omega arith))) h)

-- a prefix of the own hello was written
pub some_own : (side : Side) (key : List ℕ) (own : Hello) (bytes : List ℕ) (held now : Option (List ℕ)) → bytes ≡ hello_bytes own → WritesPrefix held now bytes → WritesSome side key own held now
some_own side key own bytes held now is (count, few, h) =
    let proof = derived_at side key (proves side) (hello_bytes own) [] in
    let fits : count ≤ length (hello_bytes own) = subst (λ (l : List ℕ). count ≤ length l) is few in
    let part : Appends held now (take count (hello_bytes own)) = subst (λ (l : List ℕ). Appends held now (take count l)) is h in
    let size = length-append (hello_bytes own) proof in
    ([], (count, omega (arith, fits, size), subst (λ (l : List ℕ). Appends held now l) (sym (take-append-le count (hello_bytes own) proof fits)) part))

-- the own hello was written, and a prefix of the proof
pub some_both : (side : Side) (key : List ℕ) (own : Hello) (bytes other proof : List ℕ) (held mid now : Option (List ℕ)) → bytes ≡ hello_bytes own
    → proof ≡ derived_at side key (proves side) bytes other → Appends held mid bytes → WritesPrefix mid now proof → WritesSome side key own held now
some_both side key own bytes other proof held mid now is so first (count, few, second) =
    let named : proof ≡ derived_at side key (proves side) (hello_bytes own) other = so ∙ ap (λ (l : List ℕ). derived_at side key (proves side) l other) is in
    let all : bytes ++ proof ≡ written_by side key own other = ap (λ (l : List ℕ). l ++ proof) is ∙ ap (λ (l : List ℕ). hello_bytes own ++ l) named in
    let size = length-append bytes proof in
    let part : Appends held now (take (length bytes + count) (bytes ++ proof)) =
    subst (λ (l : List ℕ). Appends held now l) (sym (take_behind bytes proof (length bytes) count refl)) (appends_join held mid now bytes (take count proof) first second) in
    (other, subst (λ (l : List ℕ). WritesPrefix held now l) all (length bytes + count, omega (arith, size, few), part))

pub no_proof : (side : Side) (key : List ℕ) (own : Hello) (bytes other given : List ℕ) (is_right : Bool) → bytes ≡ hello_bytes own → length given ≡ 32
    → (is_right ≡ true) ↔ (given ≡ derived_at side key (proves (other_side side)) bytes other) → is_right ≡ false → IsNoProof side key own other given
no_proof side key own bytes other given is_right is size told wrong = (size, λ e. apart (sym wrong ∙ told.1 (e ∙ ap (λ (l : List ℕ). derived_at side key (proves (other_side side)) l other) (sym is))))
  where
    apart : false ≡ true → ⊥
    apart e = cc

pub they_meet : (side : Side) (key : List ℕ) (own : Hello) (membership : Membership) (unread mid left held between now : Option (List ℕ))
    (other : Hello) (bytes said given proof : List ℕ) (is_right : Bool) (sealer : Place) (opener : Opening)
    → bytes ≡ hello_bytes own → length said ≡ 55 → hello_of own.rules membership said ≡ Ok other
    → Consumes unread mid said → Consumes mid left given → Appends held between bytes → Appends between now proof
    → proof ≡ derived_at side key (proves side) bytes said
    → (is_right ≡ true) ↔ (given ≡ derived_at side key (proves (other_side side)) bytes said) → is_right ≡ true
    → sealer ≡ record { key = derived_at side key (seals side) bytes said; next = 0 }
    → opener ≡ record { place = record { key = derived_at side key (seals (other_side side)) bytes said; next = 0 }; failed = false }
    → Meets side key own membership unread left held now other sealer opener
they_meet side key own membership unread mid left held between now other bytes said given proof is_right sealer opener is size hello first second one two so told right seals_with opens_with =
    let wants : given ≡ wanted side key own said = told.0 right ∙ ap (λ (l : List ℕ). derived_at side key (proves (other_side side)) l said) is in
    let named : proof ≡ derived_at side key (proves side) (hello_bytes own) said = so ∙ ap (λ (l : List ℕ). derived_at side key (proves side) l said) is in
    let all : bytes ++ proof ≡ written_by side key own said = ap (λ (l : List ℕ). l ++ proof) is ∙ ap (λ (l : List ℕ). hello_bytes own ++ l) named in
    record {
      bytes = said;
      size = size;
      read = subst (λ (l : List ℕ). Consumes unread left (said ++ l)) wants (consumes_join unread mid left said given first second);
      said = hello;
      written = subst (λ (l : List ℕ). Appends held now l) all (appends_join held between now bytes proof one two);
      seals_so = seals_with ∙ ap (λ (l : List ℕ). place_of (derived_at side key (seals side) l said)) is;
      opens_so = opens_with ∙ ap (λ (l : List ℕ). opening_of (derived_at side key (seals (other_side side)) l said)) is;
    }
