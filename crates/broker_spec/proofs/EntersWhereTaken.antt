-- From a place that takes no publication, no session has an entry of one.
use Rattle.std.proofs.Common.{◌≡◌, ◌<◌, ℕ, Bool, true, false, ◌==◌, if◌then◌else◌, List, [], ◌∷◌, ◌++◌, length, map, Option, Some, None, refl, sym, ◌∙◌, subst, arith}
use Rattle.std.proofs.lemmas.Bool.{both_ways}
use Rattle.std.proofs.lemmas.List.{length-append}
use Rattle.packet.specs.declared.packet.Packet.TheVariants as packets
use Rattle.broker_spec.specs.Place.{Client, Mark, Place, Past, Limits, same_client}
use Rattle.broker_spec.specs.Sessions.{current_connection, clean_session_of, begins, in_session}
use Rattle.broker_spec.specs.Subscriptions.{granted_of}
use Rattle.broker_spec.specs.Retained.{retained_publications}
use Rattle.broker_spec.specs.Entries.{Entry, copies_for_all, copies_by, copies_at, queued}
use Rattle.broker_spec.specs.Times.{entries_of, window_at}
use Rattle.broker_spec.specs.TakenTheorems.{takes_publication, EntersWhereTaken}
use Rattle.broker_spec.specs.declared.command.Command.{Command}
use Rattle.broker_spec.specs.declared.command.Command.TheVariants as commands
use Rattle.broker_spec.proofs.EntriesGrow.{answers-by}
use Rattle.broker_spec.proofs.EntersOnce.{times, times-more, times-started, times-answered, fresh, fresh-queued, fresh-all, times-new, times-elsewhere, none-yet, made-below, count}

-- it makes no copy with RETAIN 0
fresh_untaken : (k : Command) (m : Mark) (past : Past) (c : Client) → takes_publication k m ≡ false → fresh (copies_by k m past c) ≡ 0
fresh_untaken (commands.Packet x (packets.Connect q)) m past c e = refl
fresh_untaken (commands.Packet x (packets.Connack q)) m past c e = refl
fresh_untaken (commands.Packet x (packets.Publish p)) Mark.Unmarked past c e = refl
fresh_untaken (commands.Packet x (packets.Publish p)) Mark.Accepted past c e = refl
fresh_untaken (commands.Packet x (packets.Publish p)) Mark.Full past c e = refl
fresh_untaken (commands.Packet x (packets.Publish p)) (Mark.Leaves d) past c e = refl
fresh_untaken (commands.Packet x (packets.Publish p)) (Mark.Refused d) past c e = refl
fresh_untaken (commands.Packet x (packets.Publish p)) (Mark.Repeat d) past c e = refl
fresh_untaken (commands.Packet x (packets.Publish p)) (Mark.Taken d) past c e = absurd (both_ways true e refl)
fresh_untaken (commands.Packet x (packets.Publish p)) (Mark.Granted d which) past c e = refl
fresh_untaken (commands.Packet x (packets.Publish p)) (Mark.Handled d) past c e = refl
fresh_untaken (commands.Packet x (packets.Puback i)) m past c e = refl
fresh_untaken (commands.Packet x (packets.Pubrec i)) m past c e = refl
fresh_untaken (commands.Packet x (packets.Pubrel i)) m past c e = refl
fresh_untaken (commands.Packet x (packets.Pubcomp i)) m past c e = refl
fresh_untaken (commands.Packet x (packets.Subscribe s)) Mark.Unmarked past c e = refl
fresh_untaken (commands.Packet x (packets.Subscribe s)) Mark.Accepted past c e = refl
fresh_untaken (commands.Packet x (packets.Subscribe s)) Mark.Full past c e = refl
fresh_untaken (commands.Packet x (packets.Subscribe s)) (Mark.Leaves d) past c e = refl
fresh_untaken (commands.Packet x (packets.Subscribe s)) (Mark.Refused d) past c e = refl
fresh_untaken (commands.Packet x (packets.Subscribe s)) (Mark.Repeat d) past c e = refl
fresh_untaken (commands.Packet x (packets.Subscribe s)) (Mark.Taken d) past c e = refl
fresh_untaken (commands.Packet x (packets.Subscribe s)) (Mark.Granted d which) past c e = by (same_client d c)
  where
    by : (b : Bool) → fresh (if b then copies_for_all (retained_publications past) (granted_of s.filters which) else []) ≡ 0
    by true = fresh-all (retained_publications past) (granted_of s.filters which)
    by false = refl
fresh_untaken (commands.Packet x (packets.Subscribe s)) (Mark.Handled d) past c e = refl
fresh_untaken (commands.Packet x (packets.Suback q)) m past c e = refl
fresh_untaken (commands.Packet x (packets.Unsubscribe u)) m past c e = refl
fresh_untaken (commands.Packet x (packets.Unsuback i)) m past c e = refl
fresh_untaken (commands.Packet x packets.Pingreq) m past c e = refl
fresh_untaken (commands.Packet x packets.Pingresp) m past c e = refl
fresh_untaken (commands.Packet x packets.Disconnect) m past c e = refl
fresh_untaken (commands.Connect x d clean) m past c e = refl
fresh_untaken (commands.Lost x) m past c e = refl
fresh_untaken (commands.Start ballot) m past c e = refl
fresh_untaken (commands.Expel d) m past c e = refl

-- ---- one more place

none_kept : (n : ℕ) (session : Option Bool) (beginning : Bool) (es : List Entry) → times n es ≡ 0 → times n (in_session session beginning [] es) ≡ 0
none_kept n (Some clean) false es e = e
none_kept n (Some clean) true es e = refl
none_kept n None beginning es e = refl

-- it adds what its copies are
one_more : (limits : Limits) (place : Place) (past : Past) (c : Client) (n : ℕ) → times n (entries_of limits past c) ≡ 0
    → times n (map (Entry.Queued (length past)) (queued (copies_at place past c))) ≡ 0 → times n (entries_of limits (place ∷ past) c) ≡ 0
unfolding entries_of
one_more limits place past c n before new =
    let by = answers-by place.command place.mark (length past) c in
    let old = entries_of limits past c in
    let more = map (Entry.Queued (length past)) (queued (copies_at place past c)) in
    none_kept n (clean_session_of (place ∷ past) c) (begins place past c) _
    (rw (
      by.done_is old,
      times-started n (window_at limits (place ∷ past)) (length past) (current_connection (place ∷ past) c) (map by.on_each old ++ more),
      times-more n (map by.on_each old) more,
      times-answered n (length past) by.on_each by.answering old,
    )
    (omega (arith, before, new)))

same_or_not : (n m : ℕ) → n < m → (m == n) ≡ false
same_or_not n m less = grind (arith, less)

untaken : (limits : Limits) (later : Past) (place : Place) (below : Past) (c : Client) → takes_publication place.command place.mark ≡ false
    → times (length below) (entries_of limits (later ++ place ∷ below) c) ≡ 0
untaken limits [] place below c e =
    let n = length below in
    let copies = copies_at place below c in
    let f = fresh_untaken place.command place.mark below c e in
    let q = fresh-queued copies in
    let t = times-new n n (queued copies) in
    one_more limits place below c n (none-yet n (entries_of limits below c) (made-below limits below c)) (omega (arith, f, q, t))
untaken limits (next ∷ later) place below c e =
    let n = length below in
    let past = later ++ place ∷ below in
    let long = length-append later (place ∷ below) in
    one_more limits next past c n (untaken limits later place below c e)
    (times-elsewhere n (length past) (queued (copies_at next past c)) (same_or_not n (length past) (omega (arith, long))))

pub enters_where_taken : EntersWhereTaken
enters_where_taken limits past place below c stands e =
    count (length below) (entries_of limits past c)
    ∙ subst (λ (z : Past). times (length below) (entries_of limits z c) ≡ 0) (sym stands.is) (untaken limits stands.later place below c e)
