-- The entries that lent slices hold.
use Rattle.header.specs.Encode.{Entries}
use Rattle.writer.specs.declared.Lent.{Lent}
use Rattle.writer.specs.Sizes.{entries_from}

abbrev pub lent : Lent → Entries
lent e = entries_from e.lines8.now e.column_shifts.now e.line_shifts.now e.lines9.now e.times.now e.lines10.now e.pixels.now
