-- What C sees of a reel.
use Rattle.std.specs.Prelude.{ℕ}
use Rattle.rules.specs.Rules.{turned, Reply, says, refuses}
use Rattle.reel.specs.declared.Place.{Place}
use Rattle.plugin_reels.specs.declared.HsdReel.{HsdReel}
use Rattle.plugin_reels.specs.declared.HsdPart.{HsdPart}

-- how many files, or the refusal's number, block and offset
unfoldable pub shown_reel : Reply ℕ → HsdReel
shown_reel (says n) = record { refusal = 0; block = 0; files = n; offset = 0 }
shown_reel (refuses (turned n b p)) = record { refusal = n; block = b; files = 0; offset = p }

abbrev pub shown_place : Place → HsdPart
shown_place p = record { offset = p.offset; length = p.length }
