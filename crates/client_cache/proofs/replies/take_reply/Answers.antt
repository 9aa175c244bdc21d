use Rattle.std.proofs.Common.{◌+◌, ap, arith}
use Rattle.jm_json.specs.Reading.{reading_of}
use Rattle.client_cache.specs.RoundViews.{round_of}
use Rattle.client_cache.proofs.Counts.{on_ok, replies_kept}
use Rattle.client_cache.proofs.replies.take_reply.Goals as goal

pub overflow_add-round : goal.overflow_add-round
overflow_add-round c =
    omega (
      arith,
      replies_kept c.args.cache.now (round_of c.args.round.now) (reading_of c.args.reply.now) c.take_bytes.new.cache (round_of c.take_bytes.new.round) c.in_ok-moved.moved c.in_ok-moved.ensures.ok,
      c.if-round-ge-MAX_REPLIES.false,
    )

pub returns-clause-count : goal.returns-clause-count
returns-clause-count c =
    on_ok c.answer.result
    (ap (λ n. n + 1)
    (replies_kept c.args.cache.now (round_of c.args.round.now) (reading_of c.args.reply.now) c.take_bytes.new.cache (round_of c.take_bytes.new.round) c.in_ok-moved.moved c.in_ok-moved.ensures.ok))
