-- `write_column`: the numbers so far stand in their places.
use Rattle.std.proofs.Common.{◌≡◌, map}
use Rattle.writer.specs.Sizes.{scattered, bytes_of}
use Rattle.writer.proofs.write_column.Given as goal

abbrev pub invariant-loop-i : goal.invariant-loop-i
invariant-loop-i g l = l.out ≡ scattered l.initial.out l.at l.stride (bytes_of l.order g.row.N (map g.W.Word.number l.numbers)) l.i
