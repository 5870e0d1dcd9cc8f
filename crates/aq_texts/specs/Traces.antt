-- The lines of a trace as they are printed.
use Rattle.std.specs.Prelude.{◌++◌, codes, flat_map, Option, Some, None}
use Rattle.std.specs.Fmt.{decimal}
use Rattle.aq_base.specs.Values.{Row}
use Rattle.aq_base.specs.Names.{Text}
use Rattle.aq_base.specs.declared.modes.ConstraintMode.{ConstraintMode}
use Rattle.aq_base.specs.declared.modes.ConstraintMode.TheVariants.{Deferred, Immediate}
use Rattle.aq_base.specs.declared.statement.Isolation.{Isolation}
use Rattle.aq_base.specs.declared.statement.Isolation.TheVariants.{ReadCommitted, RepeatableRead}
use Rattle.aq_base.specs.declared.trace.Ending.{Ending}
use Rattle.aq_base.specs.declared.trace.Ending.TheVariants.{Passed, Skipped, Acted, Ran}
use Rattle.aq_base.specs.declared.trace.ModeOf.{ModeOf}
use Rattle.aq_base.specs.declared.trace.ModeOf.TheVariants.{All, Named}
use Rattle.aq_base.specs.declared.trace.TraceEvent.{TraceEvent}
use Rattle.aq_base.specs.declared.trace.TraceLine.{TraceLine}
use Rattle.aq_base.specs.declared.trace.TraceLine.TheVariants.{Begin, Open, Close, Change, Dropped, Queue, Round, Fire, Done, Mode, Savepoint, Release, Back, Block, Unblock, Caught, Wait, Victim, Missing, Pair, Fail, Drain, Commit, Abort, Reply, End}
use Rattle.aq_texts.specs.Rows.{line, row_text}
use Rattle.aq_texts.specs.Written.{name_text}

-- the session that took the step
abbrev pub trace_session : TraceLine → Text
trace_session (Begin session isolation) = session
trace_session (Open session level) = session
trace_session (Close session level) = session
trace_session (Change session table row old new events) = session
trace_session (Dropped session event) = session
trace_session (Queue session event trigger) = session
trace_session (Round session) = session
trace_session (Fire session event) = session
trace_session (Done session event ending) = session
trace_session (Mode session of mode) = session
trace_session (Savepoint session name) = session
trace_session (Release session name) = session
trace_session (Back session name) = session
trace_session (Block session block) = session
trace_session (Unblock session block) = session
trace_session (Caught session block code) = session
trace_session (Wait session blockers) = session
trace_session (Victim session cycle) = session
trace_session (Missing session key database) = session
trace_session (Pair session parent child) = session
trace_session (Fail session code) = session
trace_session (Drain session) = session
trace_session (Commit session database) = session
trace_session (Abort session) = session
trace_session (Reply session statement) = session
trace_session (End session) = session

abbrev pub isolation_words : Isolation → Text
isolation_words ReadCommitted = codes "begin rc"
isolation_words RepeatableRead = codes "begin rr"

-- a row that was or is not there is `-`
abbrev pub row_or_dash : Option Row → Text
row_or_dash None = codes "-"
row_or_dash (Some row) = row_text row

abbrev pub queued_event : TraceEvent → Text
queued_event event = codes " event " ++ decimal event.no ++ codes " " ++ name_text event.trigger

abbrev pub ending_words : Ending → Text
ending_words Passed = codes "passed"
ending_words Skipped = codes "skipped"
ending_words (Acted rows) = codes "acted " ++ decimal rows
ending_words Ran = codes "ran"

abbrev pub constraints_words : ModeOf → Text
constraints_words All = codes "all"
constraints_words (Named name) = name_text name

abbrev pub mode_word : ConstraintMode → Text
mode_word Deferred = codes "deferred"
mode_word Immediate = codes "immediate"

abbrev pub behind_blank : Text → Text
behind_blank name = codes " " ++ name_text name

-- what the step did
abbrev pub trace_words : TraceLine → Text
trace_words (Begin session isolation) = isolation_words isolation
trace_words (Open session level) = codes "open " ++ decimal level
trace_words (Close session level) = codes "close " ++ decimal level
trace_words (Change session table row old new events) =
    codes "change " ++ name_text table ++ codes " " ++ decimal row ++ codes " " ++ row_or_dash old ++ codes " " ++ row_or_dash new ++ flat_map queued_event events
trace_words (Dropped session event) = codes "drop " ++ decimal event
trace_words (Queue session event trigger) = codes "queue " ++ decimal event ++ codes " " ++ name_text trigger
trace_words (Round session) = codes "round"
trace_words (Fire session event) = codes "fire " ++ decimal event
trace_words (Done session event ending) = codes "done " ++ decimal event ++ codes " " ++ ending_words ending
trace_words (Mode session of mode) = codes "mode " ++ constraints_words of ++ codes " " ++ mode_word mode
trace_words (Savepoint session name) = codes "savepoint " ++ name_text name
trace_words (Release session name) = codes "release " ++ name_text name
trace_words (Back session name) = codes "back " ++ name_text name
trace_words (Block session block) = codes "block " ++ decimal block
trace_words (Unblock session block) = codes "unblock " ++ decimal block
trace_words (Caught session block code) = codes "caught " ++ decimal block ++ codes " " ++ code.0
trace_words (Wait session blockers) = codes "wait" ++ flat_map behind_blank blockers
trace_words (Victim session cycle) = codes "victim" ++ flat_map behind_blank cycle
trace_words (Missing session key database) = codes "missing " ++ row_text key ++ codes " " ++ decimal database
trace_words (Pair session parent child) = codes "pair " ++ decimal parent ++ codes " " ++ decimal child
trace_words (Fail session code) = codes "fail " ++ code.0
trace_words (Drain session) = codes "drain"
trace_words (Commit session database) = codes "commit " ++ decimal database
trace_words (Abort session) = codes "abort"
trace_words (Reply session statement) = codes "reply " ++ decimal statement
trace_words (End session) = codes "end"

-- `trace SESSION` and what the step did
abbrev pub trace_line : TraceLine → Text
trace_line t = line (codes "trace " ++ name_text (trace_session t) ++ codes " " ++ trace_words t)
