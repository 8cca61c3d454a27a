-- The tables have document 01's order. Assumes nothing.
use Rattle.std.proofs.Common.{◌≡◌, refl, Bool, List, ℕ}
use Rattle.rules.specs.Rules.{unplaced}
use Rattle.header.specs.declared.Header.{Header}
use Rattle.header.specs.Encode.{Entries}
use Rattle.accept.specs.Checks.{shape, entries, shape1, fields1, fixed2, fields2, fixed5, fields5, fields7, sums, names, ends, blocks1to4, blocks5to7, blocks8to11, whole, checks}
use Rattle.slate.specs.declared.Slate.{Slate}
use Rattle.slate.specs.Slates.{slated, asking}
use Rattle.frame.specs.Frames.{ready, placing, offering}
use Rattle.writer.specs.Given.{orders, lengths8, lengths9, lengths10, room, given}
use Rattle.promises.specs.Order.{refusals, of_file, of_writer, of_offer, of_why}

pub of_file_lem : (s : List ℕ) → refusals (checks s) ≡ of_file
unfolding shape entries shape1 fields1 fixed2 fields2 fixed5 fields5 fields7 sums names ends blocks1to4 blocks5to7 blocks8to11 whole checks
of_file_lem s = refl

pub of_writer_lem : (v : Header) (e : Entries) (n : ℕ) → refusals (given v e n) ≡ of_writer
unfolding unplaced orders fields1 fields2 fields5 fields7 lengths8 lengths9 lengths10 names room given
of_writer_lem v e n = refl

pub of_offer_lem : (s : Slate) (marks : List Bool) (size : ℕ) (f : List ℕ) → refusals (offering s marks size f) ≡ of_offer
unfolding shape entries shape1 fields1 fixed2 fields2 fixed5 fields5 fields7 sums names ends blocks1to4 blocks5to7 blocks8to11 whole checks slated ready placing offering
of_offer_lem s marks size f = refl

pub of_why_lem : (s : Slate) (f : List ℕ) → refusals (asking s f) ≡ of_why
unfolding shape entries shape1 fields1 fixed2 fields2 fixed5 fields5 fields7 sums names ends blocks1to4 blocks5to7 blocks8to11 whole checks slated asking
of_why_lem s f = refl
