-- The first check that fails answers: a function refuses exactly where a row of its table fails, and says what the first such row shows.
-- Each theorem is of the function's own answers, whatever call gave them. Assumes nothing.
use Rattle.std.proofs.Common.{◌≡◌, sym, ◌∙◌, ◌↔◌, List, [], ◌∷◌, length}
use Rattle.rules.specs.Rules.{Turned, Row, Ruling, fine, refused, refuses, judge, First, tables, paper, Reply, paper_reply, reply}
use Rattle.rules.proofs.Judge.{first_fails, turned_away}
use Rattle.calendar.specs.Shots.{shot, slot_of, shots, film_frame_of}
use Rattle.header.specs.Places.{a_of, b_of, c_of}
use Rattle.accept.specs.Checks.{checks}
use Rattle.accept.specs.Answers.{facts_of, answer_of}
use Rattle.slate.specs.Slates.{slated, parts_of, asking, reason_of}
use Rattle.frame.specs.Frames.{opening, offering}
use Rattle.writer.specs.Given.{given}
use Rattle.writer.specs.Sizes.{entries_from}
use Rattle.reader.specs.Reads.{rooms2, rooms3}
use Rattle.calendar.proofs.slot.Reads as slot
use Rattle.calendar.proofs.frame_number.Reads as frame_number
use Rattle.accept.proofs.verdict.Reads as verdict
use Rattle.accept.proofs.accept.Reads as accept
use Rattle.slate.proofs.Slate.new.Reads as new
use Rattle.slate.proofs.Slate.why.Reads as why
use Rattle.frame.proofs.open.Reads as opens
use Rattle.frame.proofs.offer.Reads as offer
use Rattle.writer.proofs.write.Reads as write
use Rattle.reader.proofs.read.Reads as read
use Rattle.reader.proofs.read_shifts.Reads as read_shifts
use Rattle.reader.proofs.read_times.Reads as read_times
use Rattle.reader.proofs.read_errors.Reads as read_errors
use Rattle.night.specs.Runs.{adding}
use Rattle.night.proofs.add.Reads as add

-- a ruling that is a table's
ruling : {r : Ruling} (rs : List Row) → r ≡ judge fine rs → (u : Turned) → (r ≡ refused u) ↔ First rs u
ruling rs e u = (λ q. (first_fails rs u).0 (sym e ∙ q), λ f. e ∙ (first_fails rs u).1 f)

-- an answer that carries a value where none fails
answer : {A : Type 0} {x : Reply A} (rs : List Row) (a : A) → x ≡ reply (judge fine rs) a → (u : Turned) → (x ≡ refuses u) ↔ First rs u
answer rs a e u = (λ q. (first_fails rs u).0 (turned_away (judge fine rs) a u (sym e ∙ q)), λ f. e ∙ rw ((first_fails rs u).1 f))

-- ---- files

pub of_verdict : (κ : _) (a : _) (r : _) (t : _) → verdict.Post κ a r t → (u : Turned) → (paper r ≡ refused u) ↔ First (checks a.0.now) u
of_verdict κ a r t p = ruling (checks a.0.now) p

pub of_accept : (κ : _) (a : _) (r : _) (t : _) → accept.Post κ a r t → (u : Turned) → (paper_reply r ≡ refuses u) ↔ First (checks a.0.now) u
unfolding answer_of
of_accept κ a r t p = answer (checks a.0.now) (facts_of a.0.now) p

pub of_read : (κ : _) (a : _) (r : _) (t : _) → read.Post κ a r t → (u : Turned) → (paper r.verdict ≡ refused u) ↔ First (checks a.0.now) u
of_read κ a r t p = ruling (checks a.0.now) p.says

-- the file's checks, then the rooms of the lent slices
pub of_shifts : (κ : _) (a : _) (r : _) (t : _) → read_shifts.Post κ a r t → (u : Turned)
    → (paper r ≡ refused u) ↔ First (tables (checks a.0.now ∷ rooms3 (a_of a.0.now) (length a.1.0.now) (length a.1.1.0.now) (length a.1.1.1.0.now) ∷ [])) u
of_shifts κ a r t p = ruling _ p.says

pub of_times : (κ : _) (a : _) (r : _) (t : _) → read_times.Post κ a r t → (u : Turned)
    → (paper r ≡ refused u) ↔ First (tables (checks a.0.now ∷ rooms2 (b_of a.0.now) (length a.1.0.now) (length a.1.1.0.now) ∷ [])) u
of_times κ a r t p = ruling _ p.says

pub of_errors : (κ : _) (a : _) (r : _) (t : _) → read_errors.Post κ a r t → (u : Turned)
    → (paper r ≡ refused u) ↔ First (tables (checks a.0.now ∷ rooms2 (c_of a.0.now) (length a.1.0.now) (length a.1.1.0.now) ∷ [])) u
of_errors κ a r t p = ruling _ p.says

-- ---- the writer: v are the values, e the entries and n the bytes of its output

pub of_write : (κ : _) (a : _) (r : _) (t : _) → write.Post κ a r t → (u : Turned)
    → (paper r ≡ refused u)
    ↔ First (given a.1.0 (entries_from a.1.1.0.now a.1.1.1.0.now a.1.1.1.1.0.now a.1.1.1.1.1.0.now a.1.1.1.1.1.1.0.now a.1.1.1.1.1.1.1.0.now a.1.1.1.1.1.1.1.1.0.now) (length a.0.now)) u
of_write κ a r t p = ruling _ p.says

-- ---- slates, frames and film numbers

pub of_slate : (κ : _) (a : _) (r : _) (t : _) → new.Post κ a r t → (u : Turned)
    → (paper r.verdict ≡ refused u) ↔ First (slated (parts_of a.0 a.1.0 a.1.1.0 a.1.1.1.0 a.1.1.1.1.0 a.1.1.1.1.1.0 a.1.1.1.1.1.1.0 a.1.1.1.1.1.1.1.0)) u
of_slate κ a r t p = ruling _ p.says

pub of_open : (κ : _) (a : _) (r : _) (t : _) → opens.Post κ a r t → (u : Turned) → (paper r.verdict ≡ refused u) ↔ First (opening a.0 (length a.1.0.now)) u
of_open κ a r t p = ruling _ p.0

pub of_offer : (κ : _) (a : _) (r : _) (t : _) → offer.Post κ a r t → (u : Turned)
    → (paper r.verdict ≡ refused u) ↔ First (offering a.0 a.1.0.marks (length a.1.1.0.now) a.1.1.1.0.now) u
of_offer κ a r t p = ruling _ p.0

pub of_slot : (κ : _) (a : _) (r : _) (t : _) → slot.Post κ a r t → (u : Turned) → (paper_reply r ≡ refuses u) ↔ First (shot a.0 a.1.0) u
unfolding slot_of
of_slot κ a r t p = answer _ _ p

pub of_frame_number : (κ : _) (a : _) (r : _) (t : _) → frame_number.Post κ a r t → (u : Turned)
    → (paper_reply r ≡ refuses u) ↔ First (shots a.0 a.1.0 a.1.1.0 a.1.1.1.0) u
unfolding film_frame_of
of_frame_number κ a r t p = answer _ _ p

-- ---- why: the slate, and then the file's own

pub of_why : (κ : _) (a : _) (r : _) (t : _) → why.Post κ a r t → (u : Turned) → (paper_reply r ≡ refuses u) ↔ First (asking a.0 a.1.0.now) u
unfolding reason_of
of_why κ a r t p = answer _ _ p

-- ---- night totals: RUN, and then the file's own

pub of_add : (κ : _) (a : _) (r : _) (t : _) → add.Post κ a r t → (u : Turned) → (paper r.verdict ≡ refused u) ↔ First (adding a.0 a.1.0.now) u
of_add κ a r t p = ruling _ p.0
