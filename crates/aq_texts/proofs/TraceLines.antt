-- The text of each line of a trace, of replies and of schedules, on small examples.
use Rattle.std.proofs.Common.{◌≡◌, ℕ, refl, pos, negsuc, true, [], ◌∷◌, ◌++◌, Some, None, codes}
use Rattle.std.specs.Fmt.{digits}
use Rattle.aq_base.specs.Names.{Text}
use Rattle.aq_base.specs.declared.value.Value.{Value}
use Rattle.aq_base.specs.declared.value.Value.TheVariants as values
use Rattle.aq_base.specs.declared.modes.ConstraintMode.TheVariants.{Deferred, Immediate}
use Rattle.aq_base.specs.declared.statement.Isolation.TheVariants.{ReadCommitted, RepeatableRead}
use Rattle.aq_base.specs.declared.trace.Ending.TheVariants.{Passed, Skipped, Acted, Ran}
use Rattle.aq_base.specs.declared.trace.ModeOf.TheVariants.{All, Named}
use Rattle.aq_base.specs.declared.trace.TraceLine.TheVariants.{Begin, Open, Close, Change, Dropped, Queue, Round, Fire, Done, Mode, Savepoint, Release, Back, Block, Unblock, Caught, Wait, Victim, Missing, Pair, Fail, Drain, Commit, Abort, Reply, End}
use Rattle.aq_base.specs.declared.reply.ReplyLine.TheVariants as replies
use Rattle.aq_texts.specs.Replies.{reply_line}
use Rattle.aq_texts.specs.Schedules.{schedule_line}
use Rattle.aq_texts.specs.Traces.{trace_line}

abbrev a : Text
a = codes "a"

abbrev int : ℕ → Value
int n = values.Int (pos n)

blocks : trace_line (Begin a ReadCommitted) ++ trace_line (Begin a RepeatableRead) ++ trace_line (Drain a) ++ trace_line (Commit a 3) ++ trace_line (Abort a) ++ trace_line (Reply a 12) ++ trace_line (End a)
    ≡ codes "trace a begin rc\ntrace a begin rr\ntrace a drain\ntrace a commit 3\ntrace a abort\ntrace a reply 12\ntrace a end\n"
unfolding digits
blocks = refl

levels : trace_line (Open a 1) ++ trace_line (Close a 1) ++ trace_line (Round a) ≡ codes "trace a open 1\ntrace a close 1\ntrace a round\n"
unfolding digits
levels = refl

-- a row that came, with two events; a row that went, with none
changes : trace_line (Change a (codes "t") 4 None (Some (int 7 ∷ values.Null ∷ values.Text (codes "it's") ∷ [])) (record { no = 1; trigger = codes "x" } ∷ record { no = 2; trigger = codes "X y" } ∷ []))
    ++ trace_line (Change a (codes "t") 4 (Some (values.Int (negsuc 0) ∷ values.Bool true ∷ [])) None [])
    ≡ codes "trace a change t 4 - (7, null, 'it''s') event 1 x event 2 \"X y\"\ntrace a change t 4 (-1, true) -\n"
unfolding digits
changes = refl

events : trace_line (Dropped a 1) ++ trace_line (Queue a 2 (codes "x")) ++ trace_line (Fire a 2) ++ trace_line (Done a 2 Passed) ++ trace_line (Done a 2 Skipped)
    ++ trace_line (Done a 2 (Acted 10)) ++ trace_line (Done a 2 Ran)
    ≡ codes "trace a drop 1\ntrace a queue 2 x\ntrace a fire 2\ntrace a done 2 passed\ntrace a done 2 skipped\ntrace a done 2 acted 10\ntrace a done 2 ran\n"
unfolding digits
events = refl

modes : trace_line (Mode a All Deferred) ++ trace_line (Mode a (Named (codes "all")) Immediate) ++ trace_line (Mode a (Named (codes "k")) Immediate)
    ≡ codes "trace a mode all deferred\ntrace a mode \"all\" immediate\ntrace a mode k immediate\n"
modes = refl

savepoints : trace_line (Savepoint a (codes "s")) ++ trace_line (Release a (codes "s")) ++ trace_line (Back a (codes "S"))
    ≡ codes "trace a savepoint s\ntrace a release s\ntrace a back \"S\"\n"
savepoints = refl

blocks_of_bodies : trace_line (Block a 2) ++ trace_line (Caught a 2 (record { 0 = codes "23505" })) ++ trace_line (Unblock a 1)
    ≡ codes "trace a block 2\ntrace a caught 2 23505\ntrace a unblock 1\n"
unfolding digits
blocks_of_bodies = refl

waits : trace_line (Wait a (codes "b" ∷ codes "c" ∷ [])) ++ trace_line (Victim (codes "b") (codes "b" ∷ a ∷ [])) ≡ codes "trace a wait b c\ntrace b victim b a\n"
waits = refl

checks : trace_line (Missing a (int 2 ∷ []) 2) ++ trace_line (Pair a 1 2) ++ trace_line (Fail a (record { 0 = codes "23503" }))
    ≡ codes "trace a missing (2) 2\ntrace a pair 1 2\ntrace a fail 23503\n"
unfolding digits
checks = refl

-- a row and a tag, as a session gets them
answers : reply_line a 2 (replies.Row (int 1 ∷ values.Text (codes "x") ∷ [])) ++ reply_line a 2 (replies.Tag (codes "SELECT 1")) ≡ codes "a.2: (1, 'x')\na.2: SELECT 1\n"
unfolding digits
answers = refl

runs : schedule_line (a ∷ codes "b" ∷ []) (0 ∷ 0 ∷ 1 ∷ 0 ∷ 0 ∷ 0 ∷ []) ≡ codes "schedule a*2 b*1 a*3\n"
unfolding digits
runs = refl
