-- A shot is a day and a timeline. Its slot, and its number on the film.
use Rattle.std.specs.Prelude.{ℕ, ◌+◌, ◌*◌, ◌/◌, ◌%◌, Bool, ◌&&◌, ◌||◌, List, [], ◌∷◌, eqb, leb, ℤ, pos, ◌-ℤ◌}
use Rattle.rules.specs.Rules.{fine, Row, row, judge, Reply, reply}

-- 51,544 is 2000-01-01, and 88,068 is 2099-12-31
abbrev pub good_day : ℕ → Bool
good_day d = leb 51544 d && leb d 88068

-- hhmm as a number: hh 0 to 23, mm one of 0, 10, 20, 30, 40, 50
abbrev minute : ℕ → Bool
minute mm = eqb mm 0 || (eqb mm 10 || (eqb mm 20 || (eqb mm 30 || (eqb mm 40 || eqb mm 50))))

abbrev pub good_timeline : ℕ → Bool
good_timeline t = leb (t / 100) 23 && minute (t % 100)

-- day x 144 + hh x 6 + mm / 10
unfoldable pub slot_at : ℕ → ℕ → ℕ
slot_at d t = d * 144 + t / 100 * 6 + t % 100 / 10

-- the checks of a shot: 39 day, 33 timeline, block 0
unfoldable pub shot : ℕ → ℕ → List Row
shot d t = row (good_day d) 39 0 0 ∷ row (good_timeline t) 33 0 0 ∷ []

unfoldable pub slot_of : ℕ → ℕ → Reply ℕ
slot_of d t = reply (judge fine (shot d t)) (slot_at d t)

-- the checks of two shots: either day, then either timeline
unfoldable pub shots : ℕ → ℕ → ℕ → ℕ → List Row
shots d₀ t₀ d t =
    row (good_day d₀) 39 0 0
    ∷ row (good_day d) 39 0 0
    ∷ row (good_timeline t₀) 33 0 0
    ∷ row (good_timeline t) 33 0 0
    ∷ []

-- the shot's slot minus the first shot's, negative if earlier
unfoldable pub film_frame_of : ℕ → ℕ → ℕ → ℕ → Reply ℤ
film_frame_of d₀ t₀ d t = reply (judge fine (shots d₀ t₀ d t)) (pos (slot_at d t) -ℤ pos (slot_at d₀ t₀))
