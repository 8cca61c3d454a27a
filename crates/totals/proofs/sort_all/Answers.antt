use Rattle.std.proofs.Common.{◌≡◌, ◌*◌, ◌/◌, ◌%◌, take, length, length-append, ap, ◌∙◌, arith, rules}
use Rattle.std.proofs.Math.Seq.{length-take-le}
use Rattle.std.specs.Slice.Iter.{chunks_rest}
use Rattle.totals.proofs.Plain.{rest_begun, rest_next, rest_done}
use Rattle.totals.proofs.sort_all.Goals as goal

pub loop-piece-init : goal.loop-piece-init
loop-piece-init c =
    let s = c.args.src.now in
    let zeros : c.default-sum.result ≡ record { error = 0; outside = 0; over = 0; below = 0 } = search rules in
    let rest : chunks_rest c.into_iter-piece-iterator.result ≡ take (length s / 2 * 2) s = cc in
    let long = ap length rest ∙ length-take-le (length s / 2 * 2) s (omega arith) in
    record {
      so_far = rw zeros (rest_begun _ _ _ _ rest);
      most = search rules;
      halves = search rules;
      even = omega arith;
      error_fits = rw zeros (omega arith);
      outside_fits = rw zeros (omega arith);
      over_fits = rw zeros (omega arith);
      below_fits = rw zeros (omega arith);
    }

pub loop-piece-preserved : goal.loop-piece-preserved
loop-piece-preserved c =
    let steps = c.in-Some.ensures.steps in
    let long = ap length steps.1.0 ∙ length-append c.in-Some.piece.now (chunks_rest c.next.new.self) in
    let even : length c.in-Some.piece.now % 2 ≡ 0 = omega (arith, steps.1.1, c.loop-piece.invariant.halves) in
    let found = c.sort_bytes-sorted.ensures.numbers_in_bounds in
    record {
      so_far = rest_next _ _ _ _ _ _ even steps.1.0 c.sort_bytes-sorted.ensures.sorted c.loop-piece.invariant.so_far;
      most = rw steps.0 c.loop-piece.invariant.most;
      halves = rw steps.0 c.loop-piece.invariant.halves;
      even = omega arith;
      error_fits = omega (arith, found.0);
      outside_fits = omega (arith, found.1);
      over_fits = omega (arith, found.2);
      below_fits = omega (arith, found.3);
    }

pub returns : goal.returns
returns c = rest_done _ _ _ _ c.in-None.ensures.steps.1.0 c.loop-piece.invariant.so_far
