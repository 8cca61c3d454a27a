-- Why a file is none of a slate's frame, as C is told.
use Rattle.std.specs.Prelude.{ℕ, Option, Some, None}
use Rattle.rules.specs.Rules.{turned, Reply, says, refuses}
use Rattle.slate.specs.declared.Part.{Part}
use Rattle.slate.specs.declared.Part.TheVariants.{Satellite, Day, Timeline, Band, Area, Columns, Total, Lines, FirstLine}
use Rattle.slate.specs.declared.Difference.{Difference}
use Rattle.plugin_frames.specs.declared.HsdWhy.{HsdWhy}

-- the parts are counted from 1, in the paper's order
abbrev pub rank_of : Part → ℕ
rank_of Satellite = 1
rank_of Day = 2
rank_of Timeline = 3
rank_of Band = 4
rank_of Area = 5
rank_of Columns = 6
rank_of Total = 7
rank_of Lines = 8
rank_of FirstLine = 9

-- 0 stands for what there is not
unfoldable pub shown_reason : Reply (Option Difference) → HsdWhy
shown_reason (says None) = record { refusal = 0; block = 0; part = 0; offset = 0; slate = 0; file = 0 }
shown_reason (says (Some d)) = record { refusal = 0; block = 0; part = rank_of d.part; offset = 0; slate = d.slate; file = d.file }
shown_reason (refuses (turned n b p)) = record { refusal = n; block = b; part = 0; offset = p; slate = 0; file = 0 }
