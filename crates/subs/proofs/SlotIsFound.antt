-- What is asked for at the slot of a filter.
use Rattle.std.proofs.Common.{◌≡◌, ℕ, List, Bool, true, false, ◌&&◌, cond, Option, Some, None, refl, sym, ◌∙◌, ap, subst, bytes_eq}
use Rattle.std.specs.Cmp.Lexicographic.{bytes_decides}
use Rattle.std.proofs.lemmas.Bool.{and_parts}
use Rattle.topics.specs.Text.{Levels}
use Rattle.packet_base.specs.declared.qos.QoS.{QoS}
use Rattle.subs.specs.Shape.{Children, Shape, rows}
use Rattle.subs.specs.Ways.{reach, led, slot, IsTree}
use Rattle.subs.specs.Changes.{WritesRow}
use Rattle.subs.specs.Inside.{Asked, same_levels, asked_with}
use Rattle.subs.proofs.Ways.{row_at, rows_are, same_levels_is}
use Rattle.subs.proofs.Written.{written}

-- the root leads to itself, and each way begins at it
pub from_root : (child : Children) (root : Option ℕ) (at : ℕ) (p : Levels) → root ≡ Some at → led child root p ≡ reach child at p
from_root child root at p is = ap (λ r. led child r p) is

pub row_found : (s : Shape) (root : Option ℕ) (f : Levels) (at : ℕ) (c : List ℕ) → led s.child root (slot f).0 ≡ Some at → rows s root f c ≡ s.asked at (slot f).1 c
row_found s root f at c way = rows_are s root f c ∙ ap (λ o. row_at s.asked o (slot f).1 c) way

pub row_missing : (s : Shape) (root : Option ℕ) (f : Levels) (c : List ℕ) → led s.child root (slot f).0 ≡ None → rows s root f c ≡ None
row_missing s root f c way = rows_are s root f c ∙ ap (λ o. row_at s.asked o (slot f).1 c) way

-- nothing goes if there was nothing
pub nothing_goes : (a : Asked) (filter : Levels) (client : List ℕ) → a filter client ≡ None → a ≡ asked_with a filter client None
nothing_goes a filter client none = λ i f c. go f c i
  where
    go : (f : Levels) (c : List ℕ) → a f c ≡ cond (same_levels filter f && bytes_eq client c) None (a f c)
    go f c =
        elim (same_levels filter f && bytes_eq client c) as (λ v. (same_levels filter f && bytes_eq client c) ≡ v → a f c ≡ cond v None (a f c)) [
          | true ↦ λ e.
              let both = and_parts (same_levels filter f) (bytes_eq client c) e in
              let first = same_levels_is filter f both.0 in
              let second = (bytes_decides client c).0 both.1 in
              ap (λ g. a g c) (sym first) ∙ ap (a filter) (sym second) ∙ none
          | false ↦ λ e. refl
        ] refl

-- a row that is written at a slot whose side is known to be that of the filter
pub written_at :
    (old new : Shape) (root : Option ℕ) (f : Levels) (at : ℕ) (rest : Bool) (client : List ℕ) (kept : Option QoS)
    → IsTree old.child old.used root → led old.child root (slot f).0 ≡ Some at → rest ≡ (slot f).1
    → WritesRow old new at rest client kept → rows new root ≡ asked_with (rows old root) f client kept
written_at old new root f at rest client kept tree way side writes =
    written old new root f at client kept tree way (subst (λ (r : Bool). WritesRow old new at r client kept) side writes)

pub row_of : (s : Shape) (root : Option ℕ) (f : Levels) (at : ℕ) (rest : Bool) (c : List ℕ) → led s.child root (slot f).0 ≡ Some at → rest ≡ (slot f).1 → rows s root f c ≡ s.asked at rest c
row_of s root f at rest c way side = row_found s root f at c way ∙ ap (λ r. s.asked at r c) (sym side)
