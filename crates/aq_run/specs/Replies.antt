-- The lines of a statement's reply, as data (PostgreSQL manual, chapter "Frontend/Backend Protocol", CommandComplete).
use Rattle.std.specs.Prelude.{ℕ, List, [], ◌∷◌, ◌++◌, length, map, Option, Some, None, codes}
use Rattle.std.specs.Fmt.{decimal}
use Rattle.aq_base.specs.Values.{Row}
use Rattle.aq_base.specs.Names.{Text}
use Rattle.aq_base.specs.Statements.{Change_of_rows}
use Rattle.aq_base.specs.Statements.Statement.{Changes_rows}
use Rattle.aq_base.specs.Statements.Change_of_rows.{Inserts, Updates, Deletes}
use Rattle.aq_base.specs.declared.fault.SqlFault.{SqlFault}
use Rattle.aq_base.specs.declared.reply.ReplyLine.{ReplyLine}
use Rattle.aq_base.specs.declared.reply.ReplyLine.TheVariants as lines
use Rattle.aq_run.specs.Programs.{Prepared}
use Rattle.aq_run.specs.Programs.Prepared.{Ready}

abbrev pub tag : Text → List ReplyLine
tag text = lines.Tag text ∷ []

abbrev pub count_tag : Change_of_rows → ℕ → Text
count_tag (Inserts s) done = codes "INSERT 0 " ++ decimal done
count_tag (Updates s) done = codes "UPDATE " ++ decimal done
count_tag (Deletes s) done = codes "DELETE " ++ decimal done

-- what a statement that has changed so many rows answers
abbrev pub changed_tag : Option Prepared → ℕ → List ReplyLine
changed_tag (Some (Ready (Changes_rows change))) done = tag (count_tag change done)
changed_tag _ done = []

abbrev pub shown_rows : List Row → List ReplyLine
shown_rows rows = map lines.Row rows ++ tag (codes "SELECT " ++ decimal (length rows))

-- ---- warnings of a statement that has nothing to do (PostgreSQL source, xact.c, BeginTransactionBlock, EndTransactionBlock)

abbrev pub in_progress_warning : ReplyLine
in_progress_warning = lines.Warning (record { 0 = codes "25001" }) (codes "there is already a transaction in progress")

abbrev pub no_block_warning : ReplyLine
no_block_warning = lines.Warning (record { 0 = codes "25P01" }) (codes "there is no transaction in progress")

abbrev pub constraints_warning : ReplyLine
constraints_warning = lines.Warning (record { 0 = codes "25P01" }) (codes "SET CONSTRAINTS can only be used in transaction blocks")

-- ---- errors

abbrev pub detail_lines : Option Text → List ReplyLine
detail_lines None = []
detail_lines (Some detail) = lines.Detail detail ∷ []

abbrev pub error_lines : SqlFault → List ReplyLine
error_lines fault = lines.Error fault.code fault.text ∷ detail_lines fault.detail
