use Rattle.std.proofs.Common.{◌≡◌, ◌+◌, ◌-◌, ◌*◌}
use Rattle.rules.specs.Rules.{fine, judge}
use Rattle.reel.specs.Reels.{parts_from, filed}
use Rattle.reel.proofs.check_parts.Given as goal

abbrev pub invariant-loop-k : goal.invariant-loop-k
invariant-loop-k l = judge fine (filed (parts_from l.s (l.to + 8 * l.k) (l.n - l.k))) ≡ judge fine (filed (parts_from l.s l.to l.n))
