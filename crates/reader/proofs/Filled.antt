-- The rooms after a file's own checks, and what a lent slice holds then.
use Rattle.std.proofs.lemmas.List.{map-id}
use Rattle.std.proofs.Math.Seq.{length-take-le}
use Rattle.rules.proofs.Judge.{judge_append, judge_refused}

pub ruleset reading = (judge_append, judge_refused, map-id, length-take-le)
