-- Replies as they are printed.
use Rattle.std.specs.Prelude.{ℕ, ◌++◌, codes}
use Rattle.std.specs.Fmt.{decimal}
use Rattle.aq_base.specs.Names.{Text}
use Rattle.aq_base.specs.declared.reply.ReplyLine.{ReplyLine}
use Rattle.aq_base.specs.declared.reply.ReplyLine.TheVariants.{Row, Tag, Warning, Error, Detail}
use Rattle.aq_texts.specs.Rows.{line, row_text}

abbrev pub reply_text : ReplyLine → Text
reply_text (Row row) = row_text row
reply_text (Tag text) = text
reply_text (Warning code text) = codes "WARNING " ++ code.0 ++ codes " " ++ text
reply_text (Error code text) = codes "ERROR " ++ code.0 ++ codes " " ++ text
reply_text (Detail text) = codes "DETAIL " ++ text

-- `NAME.I: ` and the reply: the session's name and the statement's number
abbrev pub reply_line : Text → ℕ → ReplyLine → Text
reply_line name statement reply = line (name ++ codes "." ++ decimal statement ++ codes ": " ++ reply_text reply)
