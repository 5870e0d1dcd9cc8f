-- Which lines of a transaction survive. What was told since a savepoint is undone by a return to it; what was told in a block of a body is
-- undone where the block catches an error (PostgreSQL manual, page ROLLBACK TO SAVEPOINT; PL/pgSQL, "Trapping Errors").
use Rattle.std.specs.Prelude.{ℕ, Bool, false, ◌==◌, List, [], ◌∷◌, ◌++◌, if◌then◌else◌}
use Rattle.aq_base.specs.Names.{Text, same_text}
use Rattle.aq_base.specs.declared.trace.TraceLine.{TraceLine}
use Rattle.aq_base.specs.declared.trace.TraceLine.TheVariants.{Savepoint, Release, Back, Block, Unblock, Caught, Drain}

-- to what a transaction may return: a savepoint of its session, or a block of a body that is still open
pub data Point : Type 0 where
  Named : (name : Text) → Point
  Numbered : (block : ℕ) → Point

pub record Marked : Type 0 where
  pub point : Point
  -- the lines that stood when it was made
  pub lines : List TraceLine

-- the lines of a transaction that survive so far, in their order, and the points that are open, the latest first
pub record Kept : Type 0 where
  pub lines : List TraceLine
  pub marked : List Marked

abbrev pub no_lines : Kept
no_lines = record { lines = []; marked = [] }

abbrev pub is_savepoint : Text → Marked → Bool
is_savepoint name marked = elim (marked.point) [ Named other ↦ same_text other name | Numbered block ↦ false ]

abbrev pub is_block : ℕ → Marked → Bool
is_block number marked = elim (marked.point) [ Named name ↦ false | Numbered block ↦ block == number ]

-- the latest point that is meant, with the ones before it; nothing where there is none
abbrev pub from_latest : (Marked → Bool) → List Marked → List Marked
from_latest is_meant [] = []
from_latest is_meant (marked ∷ earlier) = if is_meant marked then marked ∷ earlier else from_latest is_meant earlier

abbrev pub marking : Point → Kept → Kept
marking point kept = record kept { marked = record { point = point; lines = kept.lines } ∷ kept.marked }

-- A return keeps the point and drops the later ones. Where the point isn't open nothing happens, here and below.
abbrev pub returned : List Marked → Kept → Kept
returned [] kept = kept
returned (marked ∷ earlier) kept = record { lines = marked.lines; marked = marked ∷ earlier }

-- a block that catches an error drops its own point too
abbrev pub caught : List Marked → Kept → Kept
caught [] kept = kept
caught (marked ∷ earlier) kept = record { lines = marked.lines; marked = earlier }

-- a point that is released goes with the later ones, and the lines stay
abbrev pub released : List Marked → Kept → Kept
released [] kept = kept
released (marked ∷ earlier) kept = record kept { marked = earlier }

abbrev pub appended : TraceLine → Kept → Kept
appended line kept = record kept { lines = kept.lines ++ line ∷ [] }

-- The transaction tells one more line. The drain ends all points.
abbrev pub told : TraceLine → Kept → Kept
told (Savepoint session name) kept = marking (Named name) kept
told (Block session block) kept = marking (Numbered block) kept
told (Back session name) kept = returned (from_latest (is_savepoint name) kept.marked) kept
told (Caught session block code) kept = caught (from_latest (is_block block) kept.marked) kept
told (Release session name) kept = released (from_latest (is_savepoint name) kept.marked) kept
told (Unblock session block) kept = released (from_latest (is_block block) kept.marked) kept
told (Drain session) kept = record { lines = kept.lines ++ Drain session ∷ []; marked = [] }
told line kept = appended line kept

abbrev pub told_all : List TraceLine → Kept → Kept
told_all [] kept = kept
told_all (line ∷ lines) kept = told_all lines (told line kept)

-- of the lines of a transaction, from its first on, those that survive
abbrev pub surviving : List TraceLine → List TraceLine
surviving lines = (told_all lines no_lines).lines
