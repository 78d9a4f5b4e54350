-- What went down on a connection, and what still waits there, by the list on which the nodes agree.
use Rattle.std.proofs.Common.{◌≡◌, ◌≤◌, ℕ, Bool, true, false, List, [], ◌++◌, length, take, Option, Some, None, refl, ap, sym, ◌∙◌, subst, append_assoc, arith}
use Rattle.std.proofs.lemmas.Bool.{both_ways}
use Rattle.std.proofs.lemmas.List.{append-nil}
use Rattle.ballot_base.specs.Replica.{ReplicaState, is_active}
use Rattle.broker_spec.specs.declared.command.Command.{Command}
use Rattle.broker_spec.specs.Connection.{ConnectionName}
use Rattle.broker_base.specs.State.{State}
use Rattle.lists.specs.Lists.{IsPrefixOf}
use Rattle.lists.proofs.Prefixes.{prefix_length, prefix_take, prefix_then, take_prefix}
use Rattle.world_base.specs.declared.node_connections.connection.Connection.{Connection}
use Rattle.world_base.specs.node_connections.PendingOutput.{pending_bytes}
use Rattle.headline.proofs.of_node_moves.Kept.{live}
use Rattle.headline.proofs.of_node_moves.Views.{some_none}
use Rattle.headline.specs.node_group.Carried.{answers_to}
use Rattle.headline.proofs.of_node_group.Flows.{Flows}
use Rattle.headline.proofs.of_node_group.Flows.Flows.{away, begins, flows, ebbs, dries}
use Rattle.headline.proofs.of_node_group.Shown.{Sends, answers_front}

-- On an open connection what went down and what waits are the answers at the first places of the
-- list: those that the node has applied, if it leads a ballot. On a closed one they are a prefix of
-- all.
pub data Down (x : ConnectionName) (r : ReplicaState State Command) (down : List ℕ) (agreed : List Command) : Option Connection → Type 0 where
  shows : {c : Connection} (k : ℕ) → live c ≡ true → k ≤ length agreed → down ++ c.pending ≡ answers_to x (take k agreed) → (is_active r.role ≡ true → k ≡ r.committed)
      → Down x r down agreed (Some c)
  is_done : {o : Option Connection} → ((c : Connection) → o ≡ Some c → live c ≡ false) → IsPrefixOf (down ++ pending_bytes o) (answers_to x agreed) → Down x r down agreed o

-- in each case it is a prefix of all
pub down_front : {x : ConnectionName} {r : ReplicaState State Command} {down : List ℕ} {agreed : List Command} {o : Option Connection} → Down x r down agreed o
    → IsPrefixOf down (answers_to x agreed)
down_front {x = x} {down = down} {agreed = agreed} (shows {c = c} k lives low is active) =
    prefix_then (record { rest = c.pending; is = sym is }) (answers_front x (take k agreed) agreed (prefix_take k agreed))
down_front {down = down} (is_done {o = o} over front) = prefix_then (record { rest = pending_bytes o; is = refl }) front

-- the list grows
pub down_later : {x : ConnectionName} {r : ReplicaState State Command} {down : List ℕ} {o : Option Connection} (xs ys : List Command) → IsPrefixOf xs ys → Down x r down xs o
    → Down x r down ys o
down_later {x = x} xs ys grown (shows k lives low is active) =
    let long = prefix_length grown in
    shows k lives (omega (arith, low, long)) (is ∙ ap (answers_to x) (sym (take_prefix k grown low))) active
down_later {x = x} xs ys grown (is_done over front) = is_done over (prefix_then front (answers_front x xs ys grown))

-- ---- a move

longer : (down front bytes : List ℕ) → IsPrefixOf front bytes → IsPrefixOf (down ++ front) (down ++ bytes)
longer down front bytes p = record { rest = p.rest; is = ap (λ l. down ++ l) p.is ∙ sym (append_assoc down front p.rest) }

-- the bytes of a connection after a move, if these came after those that waited
moved_on : (down over pending later bytes answers : List ℕ) → over ++ later ≡ pending ++ bytes → down ++ pending ≡ answers → (down ++ over) ++ later ≡ answers ++ bytes
moved_on down over pending later bytes answers e is =
    append_assoc down over later ∙ ap (λ l. down ++ l) e ∙ sym (append_assoc down pending bytes) ∙ ap (λ l. l ++ bytes) is

-- the answers at the places that an open connection has seen, and after them what was queued
record Seen (x : ConnectionName) (new : ReplicaState State Command) (agreed : List Command) (answers bytes : List ℕ) : Type 0 where
  k : ℕ
  low : k ≤ length agreed
  is : answers ++ bytes ≡ answers_to x (take k agreed)
  active : is_active new.role ≡ true → k ≡ new.committed

seen : (x : ConnectionName) (old new : ReplicaState State Command) (xs ys : List Command) (bytes : List ℕ) (k : ℕ) → IsPrefixOf xs ys → Sends x old new ys bytes
    → (is_active new.role ≡ true → is_active old.role ≡ true) → k ≤ length xs → (is_active old.role ≡ true → k ≡ old.committed)
    → Seen x new ys (answers_to x (take k xs)) bytes
seen x old new xs ys bytes k grown sent led low at = by (is_active new.role) refl
  where
    same : answers_to x (take k xs) ≡ answers_to x (take k ys)
    same = ap (answers_to x) (sym (take_prefix k grown low))

    by : (b : Bool) → is_active new.role ≡ b → Seen x new ys (answers_to x (take k xs)) bytes
    by true e =
        let from : k ≡ sent.from = at (led e) ∙ sym (sent.starts (led e)) in
        record {
          k = new.committed;
          low = sent.inside;
          is = ap (λ l. l ++ bytes) (same ∙ ap (λ n. answers_to x (take n ys)) from) ∙ sym (sent.next e);
          active = λ f. refl;
        }
    by false e =
        let long = prefix_length grown in
        record {
          k = k;
          low = omega (arith, low, long);
          is = ap (λ l. answers_to x (take k xs) ++ l) (sent.idle e) ∙ append-nil (answers_to x (take k xs)) ∙ same;
          active = λ f. absurd (both_ways (is_active new.role) e f);
        }

pub down_on : {x : ConnectionName} (old new : ReplicaState State Command) (xs ys : List Command) (down : List ℕ) {over bytes : List ℕ} {o p : Option Connection}
    → IsPrefixOf xs ys → Sends x old new ys bytes → ((c : Connection) → o ≡ Some c → live c ≡ true → is_active new.role ≡ true → is_active old.role ≡ true)
    → (o ≡ None → p ≡ None) → Flows over bytes o p → Down x old down xs o → Down x new (down ++ over) ys p
down_on {x = x} old new xs ys down {over = over} {bytes = bytes} grown sent led none (flows {c = c} {d = d} a b e) (shows k lives low is at) =
    let s = seen x old new xs ys bytes k grown sent (led c refl lives) low at in
    shows s.k b s.low (moved_on down over c.pending d.pending bytes (answers_to x (take k xs)) e is ∙ s.is) s.active
down_on {x = x} old new xs ys down {over = over} {bytes = bytes} grown sent led none (ebbs {c = c} {d = d} front b dead short e) (shows k lives low is at) =
    let s = seen x old new xs ys bytes k grown sent (led c refl lives) low at in
    is_done (λ z f. ap live (sym (same_one d z f)) ∙ b)
    (subst (λ (l : List ℕ). IsPrefixOf l (answers_to x ys)) (sym (moved_on down over c.pending d.pending front (answers_to x (take k xs)) e is))
    (prefix_then (longer (answers_to x (take k xs)) front bytes short)
    (subst (λ (l : List ℕ). IsPrefixOf l (answers_to x ys)) (sym s.is) (answers_front x (take s.k ys) ys (prefix_take s.k ys)))))
  where
    same_one : (z w : Connection) → (let q : Option Connection = Some z in q) ≡ Some w → z ≡ w
    same_one z w f = cc
down_on {x = x} old new xs ys down {over = over} grown sent led none (dries {c = c} short) (shows k lives low is at) =
    is_done (λ z f. absurd (some_none z (sym f)))
    (prefix_then (subst (λ (l : List ℕ). IsPrefixOf l (down ++ c.pending)) (sym (append-nil (down ++ over))) (longer down over c.pending short))
    (subst (λ (l : List ℕ). IsPrefixOf l (answers_to x ys)) (sym is)
    (prefix_then (answers_front x (take k xs) xs (prefix_take k xs)) (answers_front x xs ys grown))))
down_on {x = x} old new xs ys down grown sent led none (away e) (is_done over front) =
    is_done (λ z f. absurd (some_none z (sym f)))
    (subst (λ (l : List ℕ). IsPrefixOf ((down ++ l) ++ []) (answers_to x ys)) (sym e)
    (subst (λ (l : List ℕ). IsPrefixOf (l ++ []) (answers_to x ys)) (sym (append-nil down)) (prefix_then front (answers_front x xs ys grown))))
down_on old new xs ys down grown sent led none (begins {d = d} e lives empty) (is_done over front) = absurd (some_none d (none refl))
down_on old new xs ys down grown sent led none (flows {c = c} a b e) (is_done over front) = absurd (both_ways (live c) (over c refl) a)
down_on {x = x} old new xs ys down {over = over} grown sent led none (ebbs {c = c} {d = d} more b dead short e) (is_done over_all front) =
    is_done (λ z f. ap live (sym (same_one d z f)) ∙ b)
    (subst (λ (l : List ℕ). IsPrefixOf l (answers_to x ys)) (sym same) (prefix_then front (answers_front x xs ys grown)))
  where
    same_one : (z w : Connection) → (let q : Option Connection = Some z in q) ≡ Some w → z ≡ w
    same_one z w f = cc

    same : (down ++ over) ++ d.pending ≡ down ++ c.pending
    same = append_assoc down over d.pending ∙ ap (λ l. down ++ l) (e ∙ ap (λ l. c.pending ++ l) (dead (over_all c refl)) ∙ append-nil c.pending)
down_on {x = x} old new xs ys down {over = over} grown sent led none (dries {c = c} short) (is_done over_all front) =
    is_done (λ z f. absurd (some_none z (sym f)))
    (prefix_then (subst (λ (l : List ℕ). IsPrefixOf l (down ++ c.pending)) (sym (append-nil (down ++ over))) (longer down over c.pending short))
    (prefix_then front (answers_front x xs ys grown)))
