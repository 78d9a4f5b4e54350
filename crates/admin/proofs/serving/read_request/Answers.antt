use Rattle.std.proofs.Common.{◌∙◌, ◌++◌, [], ap, arith, inl, inr, sym, take}
use Rattle.std.proofs.lemmas.List.{append-nil, length-take-le}
use Rattle.admin.proofs.DevicesRead.{consumes_more, consumes_none, counted, kept_more}
use Rattle.admin.proofs.serving.read_request.Goals as goal

pub loop-turn-init : goal.loop-turn-init
loop-turn-init g c = ([], consumes_none (g.R.Read.remaining c.args.input.now), c.in_ok-reader.ensures, omega arith)

pub returns-then-count-eq0 : goal.returns-then-count-eq0
returns-then-count-eq0 g c =
    let (bytes, consumed, kept, turns) = c.loop-turn.invariant in
    record {
      bytes = bytes ++ take c.in_ok-count.count c.read.new.buf;
      consumed = consumes_more _ _ _ bytes _ consumed c.in_ok-count.ensures.bytes.0;
      kept = kept ∙ ap (take 4097) (sym (ap (λ n. bytes ++ take n c.read.new.buf) c.if-count-eq0.true ∙ append-nil bytes));
      ended = inr (c.in_ok-count.ensures.bytes.1 c.if-count-eq0.true (omega arith));
    }

pub returns-then-feed : goal.returns-then-feed
returns-then-feed g c =
    let (bytes, consumed, kept, turns) = c.loop-turn.invariant in
    record {
      bytes = bytes ++ take c.in_ok-count.count c.read.new.buf;
      consumed = consumes_more _ _ _ bytes _ consumed c.in_ok-count.ensures.bytes.0;
      kept = kept_more 4097 bytes _ _ _ kept c.feed.ensures.kept;
      ended = inl (c.feed.ensures.ready c.if-feed.true);
    }

pub loop-turn-preserved : goal.loop-turn-preserved
loop-turn-preserved g c =
    let (bytes, consumed, kept, turns) = c.loop-turn.invariant in (
      bytes ++ take c.in_ok-count.count c.read.new.buf,
      consumes_more _ _ _ bytes _ consumed c.in_ok-count.ensures.bytes.0,
      kept_more 4097 bytes _ _ _ kept c.feed.ensures.kept,
      counted 4097 c.loop-turn._turn c.in_ok-count.count c.loop-turn.reader (take c.in_ok-count.count c.read.new.buf) c.feed.new.self c.feed.ensures.kept turns (omega arith) (omega (arith, c.if-count-eq0.false)) (length-take-le _ _ c.in_ok-count.ensures.bound.0),
    )

pub returns : goal.returns
returns g c =
    let (bytes, consumed, kept, turns) = c.loop-turn.invariant in
    record { bytes = bytes; consumed = consumed; kept = kept; ended = inl (inl (omega (arith, turns))) }
