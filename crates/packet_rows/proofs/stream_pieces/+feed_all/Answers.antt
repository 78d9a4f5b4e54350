use Rattle.std.proofs.Common.{Bor, List, subst}
use Rattle.std.proofs.lemmas.List.{take_rest}
use Rattle.rows.specs.Fields.{Text, texts}
use Rattle.packet_rows.specs.StreamSteps.{Adds}
use Rattle.packet_rows.specs.StreamRuns.{FeedsAll}
use Rattle.packet_rows.proofs.PieceAnswers.{no_pieces, piece_fails, pieces_more}
use Rattle.packet_rows.proofs.stream_pieces.+feed_all.Goals as goal

pub returns-in_default : goal.returns-in_default
returns-in_default t c = no_pieces c.args.cutter.now c.args.pieces.now c.args.answers.now.items c.in_default.len_below

pub returns-then-not-branch : goal.returns-then-not-branch
returns-then-not-branch t c =
    piece_fails c.args.cutter.now c.feed.new.cutter c.args.pieces.now _ c.args.answers.now.items c.feed.new.answers.items
    c.in_ok-feed.field-0 c.in-len1-up.len_at_least c.in_ok-feed.ensures.0 c.if-not-branch.true c.in_ok-feed.ensures.1

pub returns : goal.returns
returns t c =
    let P : List (Bor Text) → Type 0 =
    λ rest. Adds c.feed.new.answers.items c.feed_all.new.answers.items (λ came. FeedsAll c.feed.new.cutter (texts rest) came c.feed_all.new.cutter) in
    pieces_more c.args.cutter.now c.feed.new.cutter c.feed_all.new.cutter c.args.pieces.now _ c.args.answers.now.items
    c.feed.new.answers.items c.feed_all.new.answers.items c.in_ok-feed.field-0 c.in-len1-up.len_at_least c.in_ok-feed.ensures.0
    c.if-not-branch.false c.in_ok-feed.ensures.1 (subst P (take_rest c.args.pieces.now 1) c.in_ok-feed_all.ensures)
