-- Each statement of a session is printed freely.
use Rattle.std.proofs.Common.{◌≡◌, [], ◌∷◌, codes, inl, inr, refl, sym, ◌∙◌, subst}
use Rattle.aq_base.specs.declared.statement.Statement.{Statement}
use Rattle.aq_base.specs.declared.statement.Statement.TheVariants.{Insert as Insert_statement, Update as Update_statement, Delete as Delete_statement, Select as Select_statement, SetConstraints as Set_statement, Commit, Rollback}
use Rattle.aq_grammar.specs.Terminals.{Keyword}
use Rattle.aq_grammar.specs.Rules.{Rule, Either}
use Rattle.aq_grammar.specs.declared.scope.Scope.TheVariants.{InStatement}
use Rattle.aq_grammar.specs.Forms.{mapped}
use Rattle.aq_grammar.specs.Changes.{insert, update, delete, select, set_constraints}
use Rattle.aq_grammar.specs.Transactions.{begin, start_transaction, ends_block, rollback, savepoint, release}
use Rattle.aq_grammar.specs.Statements.{refused_in_session, block_statement, supported_in_session, session_statement}
use Rattle.aq_texts.specs.Canon.{statement, insert as insert_tokens, update as update_tokens, delete as delete_tokens, select as select_tokens, set_constraints as set_constraints_tokens}
use Rattle.aq_forms.proofs.Derived.{Derives}
use Rattle.aq_forms.proofs.Combining.{IsFree, Semicolon_next, Nothing_refused, MayFollow, left_free, right_free, unless_free}
use Rattle.aq_forms.proofs.Printing.{Prints, prints_mapped, prints_either}
use Rattle.aq_forms.proofs.Changes.{insert_free, update_free, delete_free, select_free, set_constraints_free}
use Rattle.aq_forms.proofs.Transactions.{begin_free, start_transaction_free, ends_block_is, ends_block_free, rollback_alone_free, rollback_free, savepoint_free, release_free}

-- ---- transaction blocks and savepoints

-- END is printed as COMMIT, and ABORT as ROLLBACK
block_statement_free : Prints block_statement statement Semicolon_next
unfolding block_statement
block_statement_free = by_form
  where
    last : Rule Statement
    last = Either (Keyword (codes "savepoint") ∷ []) savepoint release

    from_abort : Rule Statement
    from_abort = Either (Keyword (codes "abort") ∷ []) (ends_block (codes "abort") Rollback) last

    from_rollback : Rule Statement
    from_rollback = Either (Keyword (codes "rollback") ∷ []) rollback from_abort

    from_end : Rule Statement
    from_end = Either (Keyword (codes "end") ∷ []) (ends_block (codes "end") Commit) from_rollback

    from_commit : Rule Statement
    from_commit = Either (Keyword (codes "commit") ∷ []) (ends_block (codes "commit") Commit) from_end

    from_start : Rule Statement
    from_start = Either (Keyword (codes "start") ∷ []) start_transaction from_commit

    third : (s : Statement) → IsFree from_commit s (statement s) Semicolon_next → IsFree block_statement s (statement s) Semicolon_next
    third s free =
        right_free (Keyword (codes "begin") ∷ []) begin from_start s (statement s) Semicolon_next
        (right_free (Keyword (codes "start") ∷ []) start_transaction from_commit s (statement s) Semicolon_next free)

    fifth : (s : Statement) → IsFree from_rollback s (statement s) Semicolon_next → IsFree block_statement s (statement s) Semicolon_next
    fifth s free =
        third s
        (right_free (Keyword (codes "commit") ∷ []) (ends_block (codes "commit") Commit) from_end s (statement s) Semicolon_next
        (right_free (Keyword (codes "end") ∷ []) (ends_block (codes "end") Commit) from_rollback s (statement s) Semicolon_next free))

    commit : (s : Statement) → s ≡ Commit → IsFree block_statement s (statement s) Semicolon_next
    commit s e =
        subst (λ (z : Statement). IsFree block_statement z (statement z) Semicolon_next) (sym e)
        (third Commit (left_free (Keyword (codes "commit") ∷ []) (ends_block (codes "commit") Commit) from_end Commit (statement Commit) Semicolon_next
        (ends_block_free (codes "COMMIT") (codes "commit") Commit Semicolon_next refl refl)))

    rolled_back : (s : Statement) → IsFree rollback s (statement s) Semicolon_next → IsFree block_statement s (statement s) Semicolon_next
    rolled_back s free = fifth s (left_free (Keyword (codes "rollback") ∷ []) rollback from_abort s (statement s) Semicolon_next free)

    by_form : (s : Statement) → Derives block_statement s → IsFree block_statement s (statement s) Semicolon_next
    by_form s (inl derived) = left_free (Keyword (codes "begin") ∷ []) begin from_start s (statement s) Semicolon_next (begin_free s derived)
    by_form s (inr (inl derived)) =
        right_free (Keyword (codes "begin") ∷ []) begin from_start s (statement s) Semicolon_next
        (left_free (Keyword (codes "start") ∷ []) start_transaction from_commit s (statement s) Semicolon_next (start_transaction_free s derived))
    by_form s (inr (inr (inl derived))) = commit s (ends_block_is (codes "commit") Commit s derived)
    by_form s (inr (inr (inr (inl derived)))) = commit s (ends_block_is (codes "end") Commit s derived)
    by_form s (inr (inr (inr (inr (inl derived))))) = rolled_back s (rollback_free Semicolon_next s derived)
    by_form s (inr (inr (inr (inr (inr (inl derived)))))) =
        subst (λ (z : Statement). IsFree block_statement z (statement z) Semicolon_next) (sym (ends_block_is (codes "abort") Rollback s derived))
        (rolled_back Rollback (rollback_alone_free Semicolon_next))
    by_form s (inr (inr (inr (inr (inr (inr derived)))))) =
        fifth s
        (right_free (Keyword (codes "rollback") ∷ []) rollback from_abort s (statement s) Semicolon_next
        (right_free (Keyword (codes "abort") ∷ []) (ends_block (codes "abort") Rollback) last s (statement s) Semicolon_next
        (prints_either (Keyword (codes "savepoint") ∷ []) savepoint release statement Semicolon_next (savepoint_free Semicolon_next) (release_free Semicolon_next) s derived)))

-- ---- no words of a statement are refused where a session's statement begins

abbrev pub Is_unrefused : Statement → Type 0
Is_unrefused s = MayFollow (statement s) Semicolon_next (Nothing_refused refused_in_session)

block_unrefused : (s : Statement) → Derives block_statement s → Is_unrefused s
unfolding block_statement begin start_transaction rollback savepoint release
block_unrefused s (inl (_, found, _, (_, other, _, (level, _, _, _, d), c), e)) = subst Is_unrefused (sym (e ∙ c ∙ d)) (λ lines at rest behind. refl)
block_unrefused s (inr (inl (_, found, _, (_, other, _, (level, _, _, _, d), c), e))) = subst Is_unrefused (sym (e ∙ c ∙ d)) (λ lines at rest behind. refl)
block_unrefused s (inr (inr (inl (_, _, _, _, e)))) = subst Is_unrefused (sym e) (λ lines at rest behind. refl)
block_unrefused s (inr (inr (inr (inl (_, _, _, _, e))))) = subst Is_unrefused (sym e) (λ lines at rest behind. refl)
block_unrefused s (inr (inr (inr (inr (inl (_, found, _, (_, other, _, (inl (_, last, _, (text, _, _, _, b), c)), d), e)))))) =
    subst Is_unrefused (sym (e ∙ d ∙ c ∙ b)) (λ lines at rest behind. refl)
block_unrefused s (inr (inr (inr (inr (inl (_, found, _, (_, other, _, (inr c), d), e)))))) = subst Is_unrefused (sym (e ∙ d ∙ c)) (λ lines at rest behind. refl)
block_unrefused s (inr (inr (inr (inr (inr (inl (_, _, _, _, e))))))) = subst Is_unrefused (sym e) (λ lines at rest behind. refl)
block_unrefused s (inr (inr (inr (inr (inr (inr (inl (_, found, _, (text, _, _, _, d), e)))))))) = subst Is_unrefused (sym (e ∙ d)) (λ lines at rest behind. refl)
block_unrefused s (inr (inr (inr (inr (inr (inr (inr (_, found, _, (text, _, _, _, d), e)))))))) = subst Is_unrefused (sym (e ∙ d)) (λ lines at rest behind. refl)

pub session_unrefused : (s : Statement) → Derives supported_in_session s → Is_unrefused s
unfolding supported_in_session
session_unrefused s (inl (inserted, _, _, _, e)) = subst Is_unrefused (sym e) (λ lines at rest behind. refl)
session_unrefused s (inr (inl (updated, _, _, _, e))) = subst Is_unrefused (sym e) (λ lines at rest behind. refl)
session_unrefused s (inr (inr (inl (deleted, _, _, _, e)))) = subst Is_unrefused (sym e) (λ lines at rest behind. refl)
session_unrefused s (inr (inr (inr (inl (selected, _, _, _, e))))) = subst Is_unrefused (sym e) (λ lines at rest behind. refl)
session_unrefused s (inr (inr (inr (inr (inl (constrained, _, _, _, e)))))) = subst Is_unrefused (sym e) (λ lines at rest behind. refl)
session_unrefused s (inr (inr (inr (inr (inr derived))))) = block_unrefused s derived

-- ---- all statements of a session

pub session_statement_free : (s : Statement) → Derives supported_in_session s → IsFree supported_in_session s (statement s) Semicolon_next
unfolding supported_in_session
session_statement_free =
    let in_set = Either (Keyword (codes "set") ∷ []) (mapped Set_statement set_constraints) block_statement in
    let in_select = Either (Keyword (codes "select") ∷ []) (mapped Select_statement (select InStatement)) in_set in
    let in_delete = Either (Keyword (codes "delete") ∷ []) (mapped Delete_statement (delete InStatement)) in_select in
    let in_update = Either (Keyword (codes "update") ∷ []) (mapped Update_statement (update InStatement)) in_delete in
    prints_either (Keyword (codes "insert") ∷ []) (mapped Insert_statement (insert InStatement)) in_update statement Semicolon_next
    (prints_mapped Insert_statement (insert InStatement) insert_tokens statement Semicolon_next (λ s. refl) (insert_free InStatement))
    (prints_either (Keyword (codes "update") ∷ []) (mapped Update_statement (update InStatement)) in_delete statement Semicolon_next
    (prints_mapped Update_statement (update InStatement) update_tokens statement Semicolon_next (λ s. refl) (update_free InStatement))
    (prints_either (Keyword (codes "delete") ∷ []) (mapped Delete_statement (delete InStatement)) in_select statement Semicolon_next
    (prints_mapped Delete_statement (delete InStatement) delete_tokens statement Semicolon_next (λ s. refl) (delete_free InStatement))
    (prints_either (Keyword (codes "select") ∷ []) (mapped Select_statement (select InStatement)) in_set statement Semicolon_next
    (prints_mapped Select_statement (select InStatement) select_tokens statement Semicolon_next (λ s. refl) (select_free InStatement))
    (prints_either (Keyword (codes "set") ∷ []) (mapped Set_statement set_constraints) block_statement statement Semicolon_next
    (prints_mapped Set_statement set_constraints set_constraints_tokens statement Semicolon_next (λ s. refl)
    (set_constraints_free Semicolon_next)) block_statement_free))))

-- the same with the words that are refused before it
pub whole_session_statement_free : (s : Statement) → Derives session_statement s → IsFree session_statement s (statement s) Semicolon_next
unfolding session_statement
whole_session_statement_free s derived =
    unless_free refused_in_session supported_in_session s (statement s) Semicolon_next (session_statement_free s derived) (session_unrefused s derived)
