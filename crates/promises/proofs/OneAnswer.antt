-- No second answer fits the contract of a public function, and none leaves other bytes in lent memory.
-- `Post` is the contract as the source has it. Assumes nothing.
use Rattle.std.proofs.Common.{◌≡◌, sym, ◌∙◌}
use Rattle.promises.specs.Answers.{One}
use Rattle.rules.proofs.Paper.{paper_one}
use Rattle.calendar.proofs.Paper.{paper_day_one}
use Rattle.slate.proofs.Paper.{slated_one}
use Rattle.promises.proofs.Refusals.{reply_one}
use Rattle.wire.proofs.byte_at.Reads as byte_at
use Rattle.wire.proofs.left.Reads as left
use Rattle.wire.proofs.rest.Reads as rest
use Rattle.wire.proofs.piece.Reads as piece
use Rattle.wire.proofs.bytes_at.Reads as bytes_at
use Rattle.wire.proofs.fill.Reads as fill
use Rattle.wire.proofs.number_at.Reads as number_at
use Rattle.wire.proofs.put_bytes.Reads as put_bytes
use denote.Struct.Field.{u16-field, u32-field, u64-field}
use Rattle.wire.specs.contracts.U16Word2.TheImpl as u16s
use Rattle.wire.specs.contracts.U32Word4.TheImpl as u32s
use Rattle.wire.specs.contracts.U64Word8.TheImpl as u64s
use Rattle.wire.proofs.put_number.Reads as put_number
use Rattle.wire.proofs.U16Word2.to_bytes.Reads as two_bytes
use Rattle.wire.proofs.U32Word4.to_bytes.Reads as four_bytes
use Rattle.wire.proofs.U64Word8.to_bytes.Reads as eight_bytes
use Rattle.wire.proofs.same.Reads as same
use Rattle.wire.proofs.put.Reads as put
use Rattle.wire.proofs.put_byte.Reads as put_byte
use Rattle.rules.proofs.require.Reads as require
use Rattle.rules.proofs.number_of.Reads as number_of
use Rattle.rules.proofs.placeless.Reads as placeless
use Rattle.calendar.proofs.day_of.Reads as day_of
use Rattle.calendar.proofs.good_day.Reads as good_day
use Rattle.calendar.proofs.good_timeline.Reads as good_timeline
use Rattle.calendar.proofs.slot.Reads as slot
use Rattle.calendar.proofs.frame_number.Reads as frame_number
use Rattle.reading.proofs.read.Reads as read
use Rattle.reading.proofs.float_of.Reads as float_of
use Rattle.reading.proofs.calibration_of.Reads as calibration_of
use Rattle.reading.proofs.marks_of.Reads as marks_of
use Rattle.format.proofs.satellite_of.Reads as satellite_of
use Rattle.format.proofs.good_area.Reads as good_area
use Rattle.format.proofs.good_size.Reads as good_size
use Rattle.format.proofs.good_total.Reads as good_total
use Rattle.format.proofs.good_number.Reads as good_number
use Rattle.format.proofs.good_first.Reads as good_first
use Rattle.format.proofs.good_band.Reads as good_band
use Rattle.format.proofs.band_of.Reads as band_of
use Rattle.format.proofs.date_of.Reads as date_of
use Rattle.format.proofs.day_or_0.Reads as day_or_0
use Rattle.format.proofs.glyph.Reads as glyph
use Rattle.format.proofs.name_for.Reads as name_for
use Rattle.format.proofs.good_name.Reads as good_name
use Rattle.header.proofs.read_block1.Reads as read_block1
use Rattle.header.proofs.read_block2.Reads as read_block2
use Rattle.header.proofs.read_block5.Reads as read_block5
use Rattle.header.proofs.read_block7.Reads as read_block7
use Rattle.accept.proofs.check_fields1.Reads as check_fields1
use Rattle.accept.proofs.check_fields2.Reads as check_fields2
use Rattle.accept.proofs.check_fields5.Reads as check_fields5
use Rattle.accept.proofs.check_fields7.Reads as check_fields7
use Rattle.accept.proofs.check_name.Reads as check_name
use Rattle.accept.proofs.accept.Reads as accept
use Rattle.accept.proofs.check_file.Reads as check_file
use Rattle.accept.proofs.facts_of.Reads as facts_of
use Rattle.accept.proofs.calibration.Reads as calibration
use Rattle.slate.proofs.Slate.new.Reads as slate_new
use Rattle.slate.proofs.Slate.check.Reads as slate_check
use Rattle.slate.proofs.Slate.is_good.Reads as is_good
use Rattle.slate.proofs.Slate.height_of.Reads as height_of
use Rattle.slate.proofs.Slate.lines_to.Reads as lines_to
use Rattle.slate.proofs.Slate.columns.Reads as slate_columns
use Rattle.slate.proofs.Slate.total.Reads as slate_total
use Rattle.slate.proofs.Slate.size_of.Reads as size_of
use Rattle.slate.proofs.Slate.start_of.Reads as start_of
use Rattle.slate.proofs.Slate.frame_size.Reads as frame_size
use Rattle.slate.proofs.Slate.place_of.Reads as place_of
use Rattle.slate.proofs.Slate.has_line.Reads as has_line
use Rattle.slate.proofs.Slate.cover_of.Reads as cover_of
use Rattle.slate.proofs.Slate.matches.Reads as slate_matches
use Rattle.slate.proofs.Slate.why.Reads as slate_why
use Rattle.frame.proofs.empty.Reads as empty
use Rattle.frame.proofs.is_marked.Reads as is_marked
use Rattle.frame.proofs.tally.Reads as tally
use Rattle.samples.proofs.paper.Reads as paper_plan
use Rattle.samples.proofs.make.Reads as make_sample
use Rattle.frame.proofs.open.Reads as opening
use Rattle.frame.proofs.offer.Reads as offering
use Rattle.frame.proofs.line_of.Reads as line_of
use Rattle.frame.proofs.count_of.Reads as count_of
use Rattle.frame.proofs.counts_in.Reads as counts_in
use Rattle.frame.proofs.counts_into.Reads as counts_into
use Rattle.totals.proofs.totals_of.Reads as totals_of
use Rattle.totals.proofs.pixels_of.Reads as pixels_of
use Rattle.night.proofs.empty.Reads as empty_night
use Rattle.night.proofs.add.Reads as add
use Rattle.plugin_night.proofs.hsd_night_add.Reads as hsd_night_add
use Rattle.reel.proofs.check_reel.Reads as check_reel
use Rattle.reel.proofs.open.Reads as open_reel
use Rattle.reel.proofs.place_of.Reads as place_in_reel
use Rattle.reel.proofs.file_of.Reads as file_of
use Rattle.reel.proofs.trailer_length.Reads as trailer_length
use Rattle.reel.proofs.write.Reads as write_reel
use Rattle.reel.proofs.seal.Reads as seal
use Rattle.plugin.proofs.HsdAnswerFromResultUnitRefusal.from.Reads as answer_of
use Rattle.format.proofs.decimal.Reads as decimal
use Rattle.plugin.proofs.HsdFileFromResultFactsRefusal.from.Reads as file_from
use Rattle.plugin.proofs.HsdReadingFromReading.from.Reads as reading_from
use Rattle.plugin.proofs.HsdQualityFromMarks.from.Reads as quality_from
use Rattle.plugin.proofs.HsdFrameNumberFromResultI64Refusal.from.Reads as frame_number_from
use Rattle.plugin_frames.proofs.HsdWhyFromResultOptionDifferenceRefusal.from.Reads as why_from
use Rattle.plugin_night.proofs.RunFromHsdRun.from.Reads as run_from_c
use Rattle.plugin_night.proofs.HsdRunFromRun.from.Reads as run_from
use Rattle.plugin_night.proofs.HsdNightFromAdded.from.Reads as night_from
use Rattle.plugin_reels.proofs.HsdPartFromPlace.from.Reads as part_from
use Rattle.plugin_reels.proofs.HsdReelFromResultU16Refusal.from.Reads as reel_from
use Rattle.wire.proofs.U16Word2.from_bytes.Reads as from_two_bytes
use Rattle.wire.proofs.U32Word4.from_bytes.Reads as from_four_bytes
use Rattle.wire.proofs.U64Word8.from_bytes.Reads as from_eight_bytes
use Rattle.plugin.proofs.hsd_accept.Reads as hsd_accept
use Rattle.plugin.proofs.hsd_read_count.Reads as hsd_read_count
use Rattle.plugin.proofs.hsd_reading.Reads as hsd_reading
use Rattle.plugin.proofs.hsd_quality.Reads as hsd_quality
use Rattle.plugin.proofs.hsd_frame_number.Reads as hsd_frame_number
use Rattle.plugin.proofs.hsd_day.Reads as hsd_day
use Rattle.plugin.proofs.hsd_valid_bits.Reads as hsd_valid_bits
use Rattle.plugin_frames.proofs.hsd_open.Reads as hsd_open
use Rattle.plugin_frames.proofs.hsd_offer.Reads as hsd_offer
use Rattle.plugin_frames.proofs.hsd_line.Reads as hsd_line
use Rattle.plugin_frames.proofs.hsd_why.Reads as hsd_why
use Rattle.plugin_reels.proofs.hsd_reel_open.Reads as hsd_reel_open
use Rattle.plugin_reels.proofs.hsd_reel_part.Reads as hsd_reel_part
use Rattle.plugin_reels.proofs.hsd_reel_trailer.Reads as hsd_reel_trailer
use Rattle.plugin_reels.proofs.hsd_reel_write.Reads as hsd_reel_write
use Rattle.plugin_reels.proofs.hsd_reel_seal.Reads as hsd_reel_seal
use Rattle.header.proofs.a_of.Reads as a_of
use Rattle.header.proofs.b_of.Reads as b_of
use Rattle.header.proofs.c_of.Reads as c_of
use Rattle.header.proofs.header_length.Reads as header_length
use Rattle.header.proofs.data_length.Reads as data_length
use Rattle.header.proofs.place9.Reads as place9
use Rattle.header.proofs.place10.Reads as place10
use Rattle.header.proofs.place11.Reads as place11
use Rattle.header.proofs.read_block8.Reads as read_block8
use Rattle.header.proofs.read_header.Reads as read_header
use Rattle.accept.proofs.verdict.Reads as verdict
use Rattle.reader.proofs.read.Reads as read_header_of
use Rattle.reader.proofs.read_shifts.Reads as read_shifts
use Rattle.reader.proofs.read_times.Reads as read_times
use Rattle.reader.proofs.read_errors.Reads as read_errors
use Rattle.blocks.proofs.write_front.Reads as write_front
use Rattle.writer.proofs.write.Reads as write
use Rattle.listing.proofs.refusal.Reads as refusal
use Rattle.listing.proofs.line.Reads as line
use Rattle.say.proofs.verdict.Reads as say_verdict
use Rattle.say.proofs.trimmed.Reads as trimmed

pub byte_at_one : One (λ κ x s. x) byte_at.Post
byte_at_one κ a x y s t p q = p ∙ sym q

pub left_one : One (λ κ x s. x) left.Post
left_one κ a x y s t p q = p ∙ sym q

pub rest_one : One (λ κ x s. x.now) rest.Post
rest_one κ a x y s t p q = p ∙ sym q

pub piece_one : One (λ κ x s. x.now) piece.Post
piece_one κ a x y s t p q = p ∙ sym q

pub fill_one : One (λ κ x s. s.0.now) fill.Post
fill_one κ a x y s t p q = p ∙ sym q

-- The functions of a width: n is the width and `word` the number that a value of the type is. That of a u16, a u32 or a u64 is the value itself.
pub bytes_at_one : (n d : _) → One (λ κ x s. x) (bytes_at.Post n d)
bytes_at_one n d κ a x y s t p q = p ∙ sym q

pub number_at_one : (n L A d C word D e F : _) → One (λ κ x s. word.number x) (number_at.Post n L A d C word D e F)
number_at_one n L A d C word D e F κ a x y s t p q = p ∙ sym q

-- of the three widths
pub u16_at_one : (A d C D e F κ a x y s t : _) → number_at.Post 2 u16-field.row A d C u16s.ghosts D e F κ a x s → number_at.Post 2 u16-field.row A d C u16s.ghosts D e F κ a y t → x ≡ y
u16_at_one A d C D e F κ a x y s t p q = p ∙ sym q

pub u32_at_one : (A d C D e F κ a x y s t : _) → number_at.Post 4 u32-field.row A d C u32s.ghosts D e F κ a x s → number_at.Post 4 u32-field.row A d C u32s.ghosts D e F κ a y t → x ≡ y
u32_at_one A d C D e F κ a x y s t p q = p ∙ sym q

pub u64_at_one : (A d C D e F κ a x y s t : _) → number_at.Post 8 u64-field.row A d C u64s.ghosts D e F κ a x s → number_at.Post 8 u64-field.row A d C u64s.ghosts D e F κ a y t → x ≡ y
u64_at_one A d C D e F κ a x y s t p q = p ∙ sym q

pub put_bytes_one : (n d : _) → One (λ κ x s. s.0.now) (put_bytes.Post n d)
put_bytes_one n d κ a x y s t p q = p.is ∙ sym q.is

pub put_number_one : (n L A d C word D e F : _) → One (λ κ x s. s.0.now) (put_number.Post n L A d C word D e F)
put_number_one n L A d C word D e F κ a x y s t p q = p.is ∙ sym q.is

pub two_bytes_one : One (λ κ x s. x) two_bytes.Post
two_bytes_one κ a x y s t p q = p ∙ sym q

pub four_bytes_one : One (λ κ x s. x) four_bytes.Post
four_bytes_one κ a x y s t p q = p ∙ sym q

pub eight_bytes_one : One (λ κ x s. x) eight_bytes.Post
eight_bytes_one κ a x y s t p q = p ∙ sym q

pub same_one : One (λ κ x s. x) same.Post
same_one κ a x y s t p q = p ∙ sym q

pub put_one : One (λ κ x s. s.0.now) put.Post
put_one κ a x y s t p q = p ∙ sym q

pub put_byte_one : One (λ κ x s. s.0.now) put_byte.Post
put_byte_one κ a x y s t p q = p.is ∙ sym q.is

pub require_one : One (λ κ x s. x) require.Post
require_one κ a x y s t p q = paper_one x y (p ∙ sym q)

pub number_of_one : One (λ κ x s. x) number_of.Post
number_of_one κ a x y s t p q = p ∙ sym q

pub placeless_one : One (λ κ x s. x) placeless.Post
placeless_one κ a x y s t p q = paper_one x y (p ∙ sym q)

pub day_of_one : One (λ κ x s. x) day_of.Post
day_of_one κ a x y s t p q = paper_day_one x y (p ∙ sym q)

pub good_day_one : One (λ κ x s. x) good_day.Post
good_day_one κ a x y s t p q = p ∙ sym q

pub good_timeline_one : One (λ κ x s. x) good_timeline.Post
good_timeline_one κ a x y s t p q = p ∙ sym q

pub slot_one : One (λ κ x s. x) slot.Post
slot_one κ a x y s t p q = reply_one x y (p ∙ sym q)

pub frame_number_one : One (λ κ x s. x) frame_number.Post
frame_number_one κ a x y s t p q = reply_one x y (p ∙ sym q)

pub read_one : One (λ κ x s. x) read.Post
read_one κ a x y s t p q = p ∙ sym q

pub float_of_one : One (λ κ x s. x) float_of.Post
float_of_one κ a x y s t p q = p ∙ sym q

pub calibration_of_one : One (λ κ x s. x) calibration_of.Post
calibration_of_one κ a x y s t p q = p ∙ sym q

pub marks_of_one : One (λ κ x s. x) marks_of.Post
marks_of_one κ a x y s t p q = p ∙ sym q

pub satellite_of_one : One (λ κ x s. x) satellite_of.Post
satellite_of_one κ a x y s t p q = p ∙ sym q

pub good_area_one : One (λ κ x s. x) good_area.Post
good_area_one κ a x y s t p q = p ∙ sym q

pub good_size_one : One (λ κ x s. x) good_size.Post
good_size_one κ a x y s t p q = p ∙ sym q

pub good_total_one : One (λ κ x s. x) good_total.Post
good_total_one κ a x y s t p q = p ∙ sym q

pub good_number_one : One (λ κ x s. x) good_number.Post
good_number_one κ a x y s t p q = p ∙ sym q

pub good_first_one : One (λ κ x s. x) good_first.Post
good_first_one κ a x y s t p q = p ∙ sym q

pub good_band_one : One (λ κ x s. x) good_band.Post
good_band_one κ a x y s t p q = p ∙ sym q

pub band_of_one : One (λ κ x s. x) band_of.Post
band_of_one κ a x y s t p q = p ∙ sym q

pub date_of_one : One (λ κ x s. x) date_of.Post
date_of_one κ a x y s t p q = paper_day_one x y (p ∙ sym q)

pub day_or_0_one : One (λ κ x s. x) day_or_0.Post
day_or_0_one κ a x y s t p q = p ∙ sym q

pub glyph_one : One (λ κ x s. x) glyph.Post
glyph_one κ a x y s t p q = p ∙ sym q

pub name_for_one : One (λ κ x s. x) name_for.Post
name_for_one κ a x y s t p q = p ∙ sym q

pub good_name_one : One (λ κ x s. x) good_name.Post
good_name_one κ a x y s t p q = p ∙ sym q

pub read_block1_one : One (λ κ x s. x) read_block1.Post
read_block1_one κ a x y s t p q = p ∙ sym q

pub read_block2_one : One (λ κ x s. x) read_block2.Post
read_block2_one κ a x y s t p q = p ∙ sym q

pub read_block5_one : One (λ κ x s. x) read_block5.Post
read_block5_one κ a x y s t p q = p ∙ sym q

pub read_block7_one : One (λ κ x s. x) read_block7.Post
read_block7_one κ a x y s t p q = p ∙ sym q

pub check_fields1_one : One (λ κ x s. x) check_fields1.Post
check_fields1_one κ a x y s t p q = paper_one x y (p ∙ sym q)

pub check_fields2_one : One (λ κ x s. x) check_fields2.Post
check_fields2_one κ a x y s t p q = paper_one x y (p ∙ sym q)

pub check_fields5_one : One (λ κ x s. x) check_fields5.Post
check_fields5_one κ a x y s t p q = paper_one x y (p ∙ sym q)

pub check_fields7_one : One (λ κ x s. x) check_fields7.Post
check_fields7_one κ a x y s t p q = paper_one x y (p ∙ sym q)

pub check_name_one : One (λ κ x s. x) check_name.Post
check_name_one κ a x y s t p q = paper_one x y (p ∙ sym q)

pub accept_one : One (λ κ x s. x) accept.Post
accept_one κ a x y s t p q = reply_one x y (p ∙ sym q)

pub check_file_one : One (λ κ x s. x) check_file.Post
check_file_one κ a x y s t p q = paper_one x y (p ∙ sym q)

pub facts_of_one : One (λ κ x s. x) facts_of.Post
facts_of_one κ a x y s t p q = p ∙ sym q

pub calibration_one : One (λ κ x s. x) calibration.Post
calibration_one κ a x y s t p q = p ∙ sym q

pub slate_new_one : One (λ κ x s. x) slate_new.Post
slate_new_one κ a x y s t p q = slated_one x y p q

pub slate_check_one : One (λ κ x s. x) slate_check.Post
slate_check_one κ a x y s t p q = paper_one x y (p ∙ sym q)

pub is_good_one : One (λ κ x s. x) is_good.Post
is_good_one κ a x y s t p q = p ∙ sym q

pub height_of_one : One (λ κ x s. x) height_of.Post
height_of_one κ a x y s t p q = p ∙ sym q

pub lines_to_one : One (λ κ x s. x) lines_to.Post
lines_to_one κ a x y s t p q = p ∙ sym q

pub slate_columns_one : One (λ κ x s. x) slate_columns.Post
slate_columns_one κ a x y s t p q = p ∙ sym q

pub slate_total_one : One (λ κ x s. x) slate_total.Post
slate_total_one κ a x y s t p q = p ∙ sym q

pub size_of_one : One (λ κ x s. x) size_of.Post
size_of_one κ a x y s t p q = p ∙ sym q

pub start_of_one : One (λ κ x s. x) start_of.Post
start_of_one κ a x y s t p q = p ∙ sym q

pub frame_size_one : One (λ κ x s. x) frame_size.Post
frame_size_one κ a x y s t p q = p ∙ sym q

pub place_of_one : One (λ κ x s. x) place_of.Post
place_of_one κ a x y s t p q = p ∙ sym q

pub has_line_one : One (λ κ x s. x) has_line.Post
has_line_one κ a x y s t p q = p ∙ sym q

pub cover_of_one : One (λ κ x s. x) cover_of.Post
cover_of_one κ a x y s t p q = p ∙ sym q

pub slate_matches_one : One (λ κ x s. x) slate_matches.Post
slate_matches_one κ a x y s t p q = p ∙ sym q

pub slate_why_one : One (λ κ x s. x) slate_why.Post
slate_why_one κ a x y s t p q = reply_one x y (p ∙ sym q)

pub is_marked_one : One (λ κ x s. x) is_marked.Post
is_marked_one κ a x y s t p q = p ∙ sym q

pub tally_one : One (λ κ x s. x) tally.Post
tally_one κ a x y s t p q = p ∙ sym q

-- the verdict with the newest record, and every count of the frame afterwards
pub empty_one : One (λ κ x s. x) empty.Post
empty_one κ a x y s t p q i = record { marks = (p ∙ sym q) i }

pub opening_one : One (λ κ x s. x) opening.Post × One (λ κ x s. s.1.0.now) opening.Post
opening_one = (
  λ κ a x y s t p q i. record { verdict = paper_one x.verdict y.verdict (p.0 ∙ sym q.0) i; rec = record { marks = (p.1.0 ∙ sym q.1.0) i } },
  λ κ a x y s t p q. p.1.1 ∙ sym q.1.1,
)

pub offering_one : One (λ κ x s. x) offering.Post × One (λ κ x s. s.1.1.0.now) offering.Post
offering_one = (
  λ κ a x y s t p q i. record { verdict = paper_one x.verdict y.verdict (p.0 ∙ sym q.0) i; rec = record { marks = (p.1.0 ∙ sym q.1.0) i } },
  λ κ a x y s t p q. p.1.1 ∙ sym q.1.1,
)

pub line_of_one : One (λ κ x s. x.now) line_of.Post
line_of_one κ a x y s t p q = p ∙ sym q

pub hsd_accept_one : One (λ κ x s. x) hsd_accept.Post
hsd_accept_one κ a x y s t p q = p ∙ sym q

pub hsd_read_count_one : One (λ κ x s. x) hsd_read_count.Post
hsd_read_count_one κ a x y s t p q = p ∙ sym q

pub hsd_reading_one : One (λ κ x s. x) hsd_reading.Post
hsd_reading_one κ a x y s t p q = p ∙ sym q

pub hsd_quality_one : One (λ κ x s. x) hsd_quality.Post
hsd_quality_one κ a x y s t p q = p ∙ sym q

pub hsd_frame_number_one : One (λ κ x s. x) hsd_frame_number.Post
hsd_frame_number_one κ a x y s t p q = p ∙ sym q

pub hsd_day_one : One (λ κ x s. x) hsd_day.Post
hsd_day_one κ a x y s t p q = p ∙ sym q

pub hsd_valid_bits_one : One (λ κ x s. x) hsd_valid_bits.Post
hsd_valid_bits_one κ a x y s t p q = p ∙ sym q

pub a_of_one : One (λ κ x s. x) a_of.Post
a_of_one κ a x y s t p q = p ∙ sym q

pub b_of_one : One (λ κ x s. x) b_of.Post
b_of_one κ a x y s t p q = p ∙ sym q

pub c_of_one : One (λ κ x s. x) c_of.Post
c_of_one κ a x y s t p q = p ∙ sym q

pub header_length_one : One (λ κ x s. x) header_length.Post
header_length_one κ a x y s t p q = p ∙ sym q

pub data_length_one : One (λ κ x s. x) data_length.Post
data_length_one κ a x y s t p q = p ∙ sym q

pub place9_one : One (λ κ x s. x) place9.Post
place9_one κ a x y s t p q = p ∙ sym q

pub place10_one : One (λ κ x s. x) place10.Post
place10_one κ a x y s t p q = p ∙ sym q

pub place11_one : One (λ κ x s. x) place11.Post
place11_one κ a x y s t p q = p ∙ sym q

pub read_block8_one : One (λ κ x s. x) read_block8.Post
read_block8_one κ a x y s t p q = p ∙ sym q

pub read_header_one : One (λ κ x s. x) read_header.Post
read_header_one κ a x y s t p q = p ∙ sym q

pub verdict_one : One (λ κ x s. x) verdict.Post
verdict_one κ a x y s t p q = paper_one x y (p ∙ sym q)

-- the verdict and the values stand side by side
pub read_header_of_one : One (λ κ x s. x) read_header_of.Post
read_header_of_one κ a x y s t p q = λ i. record { verdict = paper_one x.verdict y.verdict (p.says ∙ sym q.says) i; header = (p.is ∙ sym q.is) i }

-- the verdict, and each lent slice afterwards
pub read_shifts_one : One (λ κ x s. x) read_shifts.Post × (One (λ κ x s. s.1.0.now) read_shifts.Post × (One (λ κ x s. s.1.1.0.now) read_shifts.Post × One (λ κ x s. s.1.1.1.0.now) read_shifts.Post))
read_shifts_one = (
  λ κ a x y s t p q. paper_one x y (p.says ∙ sym q.says),
  (λ κ a x y s t p q. p.lines ∙ sym q.lines, (λ κ a x y s t p q. p.column_shifts ∙ sym q.column_shifts, λ κ a x y s t p q. p.line_shifts ∙ sym q.line_shifts)),
)

pub read_times_one : One (λ κ x s. x) read_times.Post × (One (λ κ x s. s.1.0.now) read_times.Post × One (λ κ x s. s.1.1.0.now) read_times.Post)
read_times_one = (
  λ κ a x y s t p q. paper_one x y (p.says ∙ sym q.says),
  (λ κ a x y s t p q. p.lines ∙ sym q.lines, λ κ a x y s t p q. p.times ∙ sym q.times),
)

pub read_errors_one : One (λ κ x s. x) read_errors.Post × (One (λ κ x s. s.1.0.now) read_errors.Post × One (λ κ x s. s.1.1.0.now) read_errors.Post)
read_errors_one = (
  λ κ a x y s t p q. paper_one x y (p.says ∙ sym q.says),
  (λ κ a x y s t p q. p.lines ∙ sym q.lines, λ κ a x y s t p q. p.pixels ∙ sym q.pixels),
)

pub write_front_one : One (λ κ x s. s.0.now) write_front.Post
write_front_one κ a x y s t p q = p.is ∙ sym q.is

pub write_one : One (λ κ x s. x) write.Post × One (λ κ x s. s.0.now) write.Post
write_one = (λ κ a x y s t p q. paper_one x y (p.says ∙ sym q.says), λ κ a x y s t p q. p.leaves ∙ sym q.leaves)

pub refusal_one : One (λ κ x s. x) refusal.Post × One (λ κ x s. s.0.now) refusal.Post
refusal_one = (λ κ a x y s t p q. sym p.0.long ∙ q.0.long, λ κ a x y s t p q. p.0.is ∙ sym q.0.is)

pub line_one : One (λ κ x s. x) line.Post × One (λ κ x s. s.1.0.now) line.Post
line_one = (λ κ a x y s t p q. p.long ∙ sym q.long, λ κ a x y s t p q. p.is ∙ sym q.is)

pub say_verdict_one : One (λ κ x s. x) say_verdict.Post × One (λ κ x s. s.0.now) say_verdict.Post
say_verdict_one = (λ κ a x y s t p q. sym p.long ∙ q.long, λ κ a x y s t p q. p.is ∙ sym q.is)

pub trimmed_one : One (λ κ x s. x.now) trimmed.Post
trimmed_one κ a x y s t p q = p ∙ sym q

pub hsd_open_one : One (λ κ x s. x) hsd_open.Post × (One (λ κ x s. s.1.0.now) hsd_open.Post × One (λ κ x s. s.1.1.0.now) hsd_open.Post)
hsd_open_one = (
  λ κ a x y s t p q. p.0 ∙ sym q.0,
  (λ κ a x y s t p q. p.1.0 ∙ sym q.1.0, λ κ a x y s t p q. p.1.1 ∙ sym q.1.1),
)

pub hsd_offer_one : One (λ κ x s. x) hsd_offer.Post × (One (λ κ x s. s.1.0.now) hsd_offer.Post × One (λ κ x s. s.1.1.0.now) hsd_offer.Post)
hsd_offer_one = (
  λ κ a x y s t p q. p.0 ∙ sym q.0,
  (λ κ a x y s t p q. p.1.0 ∙ sym q.1.0, λ κ a x y s t p q. p.1.1 ∙ sym q.1.1),
)

pub hsd_line_one : One (λ κ x s. x) hsd_line.Post × One (λ κ x s. s.1.1.1.1.1.0.now) hsd_line.Post
hsd_line_one = (
  λ κ a x y s t p q. p.0 ∙ sym q.0,
  λ κ a x y s t p q. p.1 ∙ sym q.1,
)

pub hsd_why_one : One (λ κ x s. x) hsd_why.Post
hsd_why_one κ a x y s t p q = p ∙ sym q

-- ---- reels

pub check_reel_one : One (λ κ x s. x) check_reel.Post
check_reel_one κ a x y s t p q = paper_one x y (p ∙ sym q)

pub open_reel_one : One (λ κ x s. x) open_reel.Post
open_reel_one κ a x y s t p q = reply_one x y (p ∙ sym q)

pub place_in_reel_one : One (λ κ x s. x) place_in_reel.Post
place_in_reel_one κ a x y s t p q = p ∙ sym q

pub file_of_one : One (λ κ x s. x.now) file_of.Post
file_of_one κ a x y s t p q = p ∙ sym q

pub trailer_length_one : One (λ κ x s. x) trailer_length.Post
trailer_length_one κ a x y s t p q = p ∙ sym q

pub write_reel_one : One (λ κ x s. x) write_reel.Post × One (λ κ x s. s.1.1.0.now) write_reel.Post
write_reel_one = (λ κ a x y s t p q. paper_one x y (p.0 ∙ sym q.0), λ κ a x y s t p q. p.1 ∙ sym q.1)

pub seal_one : One (λ κ x s. x) seal.Post × One (λ κ x s. s.1.1.0.now) seal.Post
seal_one = (λ κ a x y s t p q. paper_one x y (p.0 ∙ sym q.0), λ κ a x y s t p q. p.1 ∙ sym q.1)

pub answer_of_one : One (λ κ x s. x) answer_of.Post
answer_of_one κ a x y s t p q = p ∙ sym q

pub hsd_reel_open_one : One (λ κ x s. x) hsd_reel_open.Post
hsd_reel_open_one κ a x y s t p q = p ∙ sym q

pub hsd_reel_part_one : One (λ κ x s. x) hsd_reel_part.Post
hsd_reel_part_one κ a x y s t p q = p ∙ sym q

pub hsd_reel_trailer_one : One (λ κ x s. x) hsd_reel_trailer.Post
hsd_reel_trailer_one κ a x y s t p q = p ∙ sym q

pub hsd_reel_write_one : One (λ κ x s. x) hsd_reel_write.Post × One (λ κ x s. s.1.1.0.now) hsd_reel_write.Post
hsd_reel_write_one = (λ κ a x y s t p q. p.0 ∙ sym q.0, λ κ a x y s t p q. p.1 ∙ sym q.1)

pub hsd_reel_seal_one : One (λ κ x s. x) hsd_reel_seal.Post × One (λ κ x s. s.1.1.0.now) hsd_reel_seal.Post
hsd_reel_seal_one = (λ κ a x y s t p q. p.0 ∙ sym q.0, λ κ a x y s t p q. p.1 ∙ sym q.1)

-- ---- night totals

pub count_of_one : One (λ κ x s. x) count_of.Post
count_of_one κ a x y s t p q = p ∙ sym q

pub counts_in_one : One (λ κ x s. x.now) counts_in.Post
counts_in_one κ a x y s t p q = p ∙ sym q

pub counts_into_one : One (λ κ x s. s.0.now) counts_into.Post
counts_into_one κ a x y s t p q = p ∙ sym q

pub totals_of_one : One (λ κ x s. x) totals_of.Post
totals_of_one κ a x y s t p q = p ∙ sym q

pub pixels_of_one : One (λ κ x s. x) pixels_of.Post
pixels_of_one κ a x y s t p q = p ∙ sym q

pub empty_night_one : One (λ κ x s. x) empty_night.Post
empty_night_one κ a x y s t p q = p ∙ sym q

-- the verdict, the difference and the run stand side by side
pub add_one : One (λ κ x s. x) add.Post
add_one κ a x y s t p q = λ i. record { verdict = paper_one x.verdict y.verdict (p.0 ∙ sym q.0) i; extra = (p.1.0 ∙ sym q.1.0) i; run = (p.1.1 ∙ sym q.1.1) i }

pub hsd_night_add_one : One (λ κ x s. x) hsd_night_add.Post
hsd_night_add_one κ a x y s t p q = p ∙ sym q

-- ---- samples

pub paper_plan_one : One (λ κ x s. x) paper_plan.Post
paper_plan_one κ a x y s t p q = p ∙ sym q

pub make_sample_one : One (λ κ x s. x) make_sample.Post × One (λ κ x s. s.0.now) make_sample.Post
make_sample_one = (λ κ a x y s t p q. p.0 ∙ sym q.0, λ κ a x y s t p q. p.1 ∙ sym q.1)

-- ---- conversions

pub decimal_one : (n d : _) → One (λ κ x s. x) (decimal.Post n d)
decimal_one n d κ a x y s t p q = p ∙ sym q

pub file_from_one : One (λ κ x s. x) file_from.Post
file_from_one κ a x y s t p q = p ∙ sym q

pub reading_from_one : One (λ κ x s. x) reading_from.Post
reading_from_one κ a x y s t p q = p ∙ sym q

pub quality_from_one : One (λ κ x s. x) quality_from.Post
quality_from_one κ a x y s t p q = p ∙ sym q

pub frame_number_from_one : One (λ κ x s. x) frame_number_from.Post
frame_number_from_one κ a x y s t p q = p ∙ sym q

pub why_from_one : One (λ κ x s. x) why_from.Post
why_from_one κ a x y s t p q = p ∙ sym q

pub run_from_c_one : One (λ κ x s. x) run_from_c.Post
run_from_c_one κ a x y s t p q = p ∙ sym q

pub run_from_one : One (λ κ x s. x) run_from.Post
run_from_one κ a x y s t p q = p ∙ sym q

pub night_from_one : One (λ κ x s. x) night_from.Post
night_from_one κ a x y s t p q = p ∙ sym q

pub part_from_one : One (λ κ x s. x) part_from.Post
part_from_one κ a x y s t p q = p ∙ sym q

pub reel_from_one : One (λ κ x s. x) reel_from.Post
reel_from_one κ a x y s t p q = p ∙ sym q

pub from_two_bytes_one : One (λ κ x s. x) from_two_bytes.Post
from_two_bytes_one κ a x y s t p q = p ∙ sym q

pub from_four_bytes_one : One (λ κ x s. x) from_four_bytes.Post
from_four_bytes_one κ a x y s t p q = p ∙ sym q

pub from_eight_bytes_one : One (λ κ x s. x) from_eight_bytes.Post
from_eight_bytes_one κ a x y s t p q = p ∙ sym q
