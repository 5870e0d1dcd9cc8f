-- Subtransactions as they are kept, and what has become of each by those in which it was begun.
use Rattle.std.specs.Prelude.{◌≡◌, ℕ, zero, suc, ◌+◌, ◌≤◌, Bool, true, false, List, [], ◌∷◌, ◌++◌, count_by, length, Option, Some, None, slice_get}
use Rattle.aq_xids.specs.Subtransactions.{Subtransaction, fate_of, within_of}
use Rattle.aq_xids.specs.declared.fate.Fate.{Fate}
use Rattle.aq_xids.specs.declared.fate.Fate.TheVariants.{Held, Void, Committed}
use Rattle.aq_xids.specs.declared.kept.Course.{Course}
use Rattle.aq_xids.specs.declared.kept.Course.TheVariants as course
use Rattle.aq_xids.specs.declared.kept.Phase.{Phase}
use Rattle.aq_xids.specs.declared.kept.Phase.TheVariants.{Running, Ended, Aborted}
use Rattle.aq_xids.specs.declared.kept.Standing.{Standing}
use Rattle.aq_xids.specs.declared.kept.Standing.TheVariants.{Transaction, Inner}
use Rattle.aq_xids.specs.declared.kept.Kept.{Kept}

abbrev pub kept_at : List Kept → ℕ → Option Kept
kept_at subs zero = None
kept_at subs (suc place) = slice_get subs place

-- what becomes of a running subtransaction, or of none, by what has become of the one in which it was begun
abbrev pub held_in : Option ℕ → Fate → Fate
held_in None fate = fate
held_in (Some number) (Held outer) = Held number
held_in (Some number) Void = Void
held_in (Some number) (Committed commit) = Committed commit

abbrev pub course_fate : ℕ → Course → Fate
course_fate number course.Running = Held number
course_fate number course.Dropped = Void
course_fate number (course.Committed commit) = Committed commit

abbrev pub phase_fate : ℕ → Phase → Fate → Fate
phase_fate number Running above = held_in (Some number) above
phase_fate number Ended above = above
phase_fate number Aborted above = Void

abbrev pub standing_fate : ℕ → Standing → List Subtransaction → Fate
standing_fate number (Transaction course) before = course_fate number course
standing_fate number (Inner outer phase) before = phase_fate number phase (fate_of outer before)

abbrev pub standing_within : ℕ → Standing → List Subtransaction → List ℕ
standing_within number (Transaction course) before = number ∷ []
standing_within number (Inner outer phase) before = number ∷ within_of outer before

-- one that is kept behind others
abbrev pub shown : List Subtransaction → Kept → Subtransaction
shown before kept = let number = length before + 1 in record {
  session = kept.session;
  top = kept.top;
  within = standing_within number kept.standing before;
  fate = standing_fate number kept.standing before;
}

abbrev pub shown_behind : List Subtransaction → List Kept → List Subtransaction
shown_behind before [] = before
shown_behind before (kept ∷ subs) = shown_behind (before ++ shown before kept ∷ []) subs

unfoldable pub all_shown : List Kept → List Subtransaction
all_shown subs = shown_behind [] subs

-- the one in which it was begun stands at an earlier place
abbrev pub IsBegunBelow : ℕ → Standing → Type 0
IsBegunBelow place (Transaction course) = Unit {0}
IsBegunBelow place (Inner outer phase) = outer ≤ place

pub record IsTree (subs : List Kept) : Type 0 where
  pub placed : (place : ℕ) (kept : Kept) → slice_get subs place ≡ Some kept → IsBegunBelow place kept.standing

abbrev pub is_committed : Standing → Bool
is_committed (Transaction course.Running) = false
is_committed (Transaction course.Dropped) = false
is_committed (Transaction (course.Committed commit)) = true
is_committed (Inner outer phase) = false

-- how many transactions have committed
abbrev pub commits_in : List Kept → ℕ
commits_in subs = count_by (λ kept. is_committed kept.standing) subs

-- the number of the last commit is no higher than the number of those that have committed, so that the next number is always there
pub record IsKept (subs : List Kept) (last : ℕ) : Type 0 where
  pub tree : IsTree subs
  pub commits : last ≤ commits_in subs

abbrev pub undone_standing : Standing → Standing
undone_standing (Transaction c) = Transaction course.Dropped
undone_standing (Inner outer phase) = Inner outer Aborted
