-- RisingMembers.antt: the members of a lawful configuration are apart, and the primary is one of them; all others are one less.
use Rattle.std.proofs.Common.{◌≡◌, ℕ, ◌+◌, ◌<◌, Bool, true, false, cond, List, [], ◌∷◌, length, refl, ap, sym, ◌∙◌, subst, arith}
use Rattle.std.specs.Prelude.{◌==◌, ◌&&◌, nat_le, nat_lt, not}
use Rattle.std.specs.List.{list_any}
use Rattle.std.proofs.lemmas.Bool.{and_parts, eq-eqb, ltb-true, ne_eqb}
use Rattle.ballot_base.specs.declared.config.Config.{Config}
use Rattle.ballot_base.specs.LawfulConfig.{are_rising, is_lawful}
use Rattle.ballot_base.specs.Replica.{others}
use Rattle.lists.specs.Lists.{In}
use Rattle.lists.specs.Lists.In.{here, there}
use Rattle.agreement.proofs.Changing.OtherMembers.{in_others}
use Rattle.recovery.specs.replicas.Deliveries.{NumbersAreApart}
use Rattle.recovery.proofs.of_replicas.Rows.{others_none}

-- each member is above what comes before it
above : (greatest last : ℕ) (ms : List ℕ) (m : ℕ) → are_rising greatest last ms ≡ true → In m ms → last < m
above greatest last [] m rising i = elim i [ ]
above greatest last (x ∷ ms) m rising here =
    let a = and_parts (nat_lt last m && nat_le m greatest) (are_rising greatest m ms) rising in
    let b = and_parts (nat_lt last m) (nat_le m greatest) a.0 in ltb-true last m b.0
above greatest last (x ∷ ms) m rising (there i) =
    let a = and_parts (nat_lt last x && nat_le x greatest) (are_rising greatest x ms) rising in
    let b = and_parts (nat_lt last x) (nat_le x greatest) a.0 in
    let c = ltb-true last x b.0 in let d = above greatest x ms m a.1 i in omega (arith, c, d)

-- numbers that rise are apart
pub rising_apart : (greatest last : ℕ) (ms : List ℕ) → are_rising greatest last ms ≡ true → NumbersAreApart ms
rising_apart greatest last [] rising = tt
rising_apart greatest last (x ∷ ms) rising =
    let a = and_parts (nat_lt last x && nat_le x greatest) (are_rising greatest x ms) rising in
    (λ i. let z = above greatest x ms x a.1 i in omega (arith, z), rising_apart greatest x ms a.1)

-- those of a lawful configuration rise
pub lawful_apart : (greatest : ℕ) (config : Config) → is_lawful greatest config.members config.primary ≡ true → NumbersAreApart config.members
lawful_apart greatest config lawful =
    rising_apart greatest 0 config.members (and_parts (are_rising greatest 0 config.members)
    (nat_le 1 (length config.members) && (nat_le (length config.members) 7 && list_any (λ member. member == config.primary) config.members)) lawful).0

-- without one of them they are apart
pub others_apart : (p : ℕ) (ms : List ℕ) → NumbersAreApart ms → NumbersAreApart (others p ms)
others_apart p [] apart = tt
others_apart p (x ∷ ms) (out, apart) = by (others_apart p ms apart) (not (x == p))
  where
    by : NumbersAreApart (others p ms) → (b : Bool) → NumbersAreApart (cond b (x ∷ others p ms) (others p ms))
    by rest true = (λ i. out (in_others p ms x i), rest)
    by rest false = rest

-- and they are one less
pub others_count : (p : ℕ) (ms : List ℕ) → In p ms → NumbersAreApart ms → length (others p ms) + 1 ≡ length ms
others_count p [] i apart = elim i [ ]
others_count p (x ∷ ms) here (out, apart) =
    ap (λ b. length (cond (not b) (x ∷ others p ms) (others p ms)) + 1) (eq-eqb x p refl)
    ∙ ap (λ (l : List ℕ). length l + 1) (others_none p ms out)
    ∙ (let e : length ms + 1 ≡ length (x ∷ ms) = omega arith in e)
others_count p (x ∷ ms) (there i) (out, apart) =
    ap (λ b. length (cond (not b) (x ∷ others p ms) (others p ms)) + 1) (ne_eqb x p (λ e. out (subst (λ y. In y ms) (sym e) i)))
    ∙ (let z = others_count p ms i apart in let e : length (x ∷ others p ms) + 1 ≡ length (x ∷ ms) = omega (arith, z) in e)
