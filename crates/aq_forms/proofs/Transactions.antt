-- Statements on transaction blocks and savepoints are printed freely.
use Rattle.std.proofs.Common.{◌≡◌, true, List, [], ◌∷◌, map, None, codes, inl, inr, refl, sym, ◌∙◌, subst}
use Rattle.std.specs.Char.{to_ascii_lowercase}
use Rattle.aq_base.specs.Names.{Text as Bytes, same_text}
use Rattle.aq_base.specs.declared.statement.Isolation.{Isolation}
use Rattle.aq_base.specs.declared.statement.Statement.{Statement}
use Rattle.aq_base.specs.declared.statement.Isolation.TheVariants.{ReadCommitted, RepeatableRead}
use Rattle.aq_base.specs.declared.statement.Statement.TheVariants.{Begin, StartTransaction, Rollback, Savepoint, Release, RollbackTo}
use Rattle.aq_lex.specs.Lexemes.{PlacedLexeme}
use Rattle.aq_grammar.specs.Terminals.{Keyword}
use Rattle.aq_grammar.specs.Rules.{Done, Either}
use Rattle.aq_grammar.specs.Forms.{word, ◌▸◌, mapped, says, optional, name}
use Rattle.aq_grammar.specs.Transactions.{work, serializable, isolation_level, isolation, begin, start_transaction, ends_block, savepoint_name, rollback, savepoint, release}
use Rattle.aq_texts.specs.Written.{Written, Said, say, Name}
use Rattle.aq_texts.specs.Canon.{isolation as isolation_tokens, statement as statement_tokens}
use Rattle.aq_forms.proofs.Sound.{is_folded_word}
use Rattle.aq_forms.proofs.Derived.{Derives}
use Rattle.aq_forms.proofs.Combining.{IsFree, Anything, Semicolon_next, done_free, then_free, says_free, behind_word, mapped_free, left_free, right_free, none_free, unless_free}
use Rattle.aq_forms.proofs.Printing.{Prints, prints_then, prints_name, name_tokens, semicolon_next}

-- WORK and TRANSACTION are left out
work_free : (Behind : List PlacedLexeme → Type 0) → IsFree work None [] Behind
unfolding work
work_free Behind =
    none_free (Keyword (codes "work") ∷ Keyword (codes "transaction") ∷ [])
    (Either (Keyword (codes "work") ∷ []) (word (codes "work")) (word (codes "transaction"))) Behind

-- ---- levels of isolation

repeatable_free : (Behind : List PlacedLexeme → Type 0) → IsFree isolation_level RepeatableRead (say (codes "REPEATABLE") ∷ say (codes "READ") ∷ []) Behind
unfolding isolation_level
repeatable_free Behind =
    right_free (Keyword (codes "read") ∷ [])
    (word (codes "read") ▸ Either (Keyword (codes "committed") ∷ []) (says (codes "committed") ReadCommitted) (says (codes "uncommitted") ReadCommitted))
    (word (codes "repeatable") ▸ says (codes "read") RepeatableRead) RepeatableRead (say (codes "REPEATABLE") ∷ say (codes "READ") ∷ []) Behind
    (behind_word (codes "REPEATABLE") (codes "repeatable") (says (codes "read") RepeatableRead) RepeatableRead (say (codes "READ") ∷ []) Behind refl refl
    (says_free (codes "READ") (codes "read") RepeatableRead Behind refl refl))

-- each level: READ COMMITTED, as which READ UNCOMMITTED is read too, is left out
pub isolation_free : (level : Isolation) → IsFree isolation level (isolation_tokens level) Semicolon_next
unfolding isolation
isolation_free ReadCommitted =
    unless_free (serializable ∷ []) (Either (Keyword (codes "isolation") ∷ []) (word (codes "isolation") ▸ word (codes "level") ▸ isolation_level) (Done ReadCommitted))
    ReadCommitted [] Semicolon_next
    (right_free (Keyword (codes "isolation") ∷ []) (word (codes "isolation") ▸ word (codes "level") ▸ isolation_level) (Done ReadCommitted) ReadCommitted [] Semicolon_next
    (done_free ReadCommitted Semicolon_next))
    (λ lines at. semicolon_next (serializable ∷ []) (λ line others. refl))
isolation_free RepeatableRead =
    unless_free (serializable ∷ []) (Either (Keyword (codes "isolation") ∷ []) (word (codes "isolation") ▸ word (codes "level") ▸ isolation_level) (Done ReadCommitted))
    RepeatableRead (isolation_tokens RepeatableRead) Semicolon_next
    (left_free (Keyword (codes "isolation") ∷ []) (word (codes "isolation") ▸ word (codes "level") ▸ isolation_level) (Done ReadCommitted) RepeatableRead
    (isolation_tokens RepeatableRead) Semicolon_next
    (behind_word (codes "ISOLATION") (codes "isolation") (word (codes "level") ▸ isolation_level) RepeatableRead
    (say (codes "LEVEL") ∷ say (codes "REPEATABLE") ∷ say (codes "READ") ∷ []) Semicolon_next refl refl
    (behind_word (codes "LEVEL") (codes "level") isolation_level RepeatableRead (say (codes "REPEATABLE") ∷ say (codes "READ") ∷ []) Semicolon_next refl refl
    (repeatable_free Semicolon_next))))
    (λ lines at rest behind. refl)

-- ---- statements

pub begin_free : Prints begin statement_tokens Semicolon_next
unfolding begin
begin_free s (_, found, _, (_, other, _, (level, _, _, _, d), c), e) =
    subst (λ (z : Statement). IsFree begin z (statement_tokens z) Semicolon_next) (sym (e ∙ c ∙ d))
    (behind_word (codes "BEGIN") (codes "begin") (work ▸ mapped Begin isolation) (Begin level) (isolation_tokens level) Semicolon_next refl refl
    (then_free work (mapped Begin isolation) None (Begin level) [] (isolation_tokens level) Semicolon_next (work_free Anything)
    (mapped_free Begin isolation level (isolation_tokens level) Semicolon_next (isolation_free level))))

pub start_transaction_free : Prints start_transaction statement_tokens Semicolon_next
unfolding start_transaction
start_transaction_free s (_, found, _, (_, other, _, (level, _, _, _, d), c), e) =
    subst (λ (z : Statement). IsFree start_transaction z (statement_tokens z) Semicolon_next) (sym (e ∙ c ∙ d))
    (behind_word (codes "START") (codes "start") (word (codes "transaction") ▸ mapped StartTransaction isolation) (StartTransaction level)
    (say (codes "TRANSACTION") ∷ isolation_tokens level) Semicolon_next refl refl
    (behind_word (codes "TRANSACTION") (codes "transaction") (mapped StartTransaction isolation) (StartTransaction level) (isolation_tokens level) Semicolon_next refl refl
    (mapped_free StartTransaction isolation level (isolation_tokens level) Semicolon_next (isolation_free level))))

-- a statement of one word, with or without WORK or TRANSACTION
pub ends_block_is : (text : Bytes) (statement s : Statement) → Derives (ends_block text statement) s → s ≡ statement
ends_block_is text statement s (_, _, _, _, e) = e

pub ends_block_free :
    (printed text : Bytes) (statement : Statement) (Behind : List PlacedLexeme → Type 0) → is_folded_word (map to_ascii_lowercase printed) ≡ true
    → same_text (map to_ascii_lowercase printed) text ≡ true → IsFree (ends_block text statement) statement (Said printed ∷ []) Behind
ends_block_free printed text statement Behind folded same =
    mapped_free (λ said. statement) (word text ▸ work) None (Said printed ∷ []) Behind (behind_word printed text work None [] Behind folded same (work_free Behind))

-- SAVEPOINT is left out before a savepoint's name
abbrev pub savepoint_tokens : Bytes → List Written
savepoint_tokens text = Name text ∷ []

pub savepoint_name_free : (Behind : List PlacedLexeme → Type 0) → Prints savepoint_name savepoint_tokens Behind
unfolding savepoint_name
savepoint_name_free Behind =
    prints_then (optional (Keyword (codes "savepoint") ∷ []) (word (codes "savepoint"))) name None [] name_tokens Behind
    (none_free (Keyword (codes "savepoint") ∷ []) (word (codes "savepoint")) Anything) (prints_name Behind)

pub rollback_alone_free : (Behind : List PlacedLexeme → Type 0) → IsFree rollback Rollback (statement_tokens Rollback) Behind
unfolding rollback
rollback_alone_free Behind =
    let to = Either (Keyword (codes "to") ∷ []) (word (codes "to") ▸ mapped RollbackTo savepoint_name) (Done Rollback) in
    behind_word (codes "ROLLBACK") (codes "rollback") (work ▸ to) Rollback [] Behind refl refl
    (then_free work to None Rollback [] [] Behind (work_free Anything)
    (right_free (Keyword (codes "to") ∷ []) (word (codes "to") ▸ mapped RollbackTo savepoint_name) (Done Rollback) Rollback [] Behind (done_free Rollback Behind)))

pub rollback_to_free : (text : Bytes) (Behind : List PlacedLexeme → Type 0) → Derives savepoint_name text → IsFree rollback (RollbackTo text) (statement_tokens (RollbackTo text)) Behind
unfolding rollback
rollback_to_free text Behind derived =
    let to = Either (Keyword (codes "to") ∷ []) (word (codes "to") ▸ mapped RollbackTo savepoint_name) (Done Rollback) in
    let words = say (codes "TO") ∷ savepoint_tokens text in
    behind_word (codes "ROLLBACK") (codes "rollback") (work ▸ to) (RollbackTo text) words Behind refl refl
    (then_free work to None (RollbackTo text) [] words Behind (work_free Anything)
    (left_free (Keyword (codes "to") ∷ []) (word (codes "to") ▸ mapped RollbackTo savepoint_name) (Done Rollback) (RollbackTo text) words Behind
    (behind_word (codes "TO") (codes "to") (mapped RollbackTo savepoint_name) (RollbackTo text) (savepoint_tokens text) Behind refl refl
    (mapped_free RollbackTo savepoint_name text (savepoint_tokens text) Behind (savepoint_name_free Behind text derived)))))

pub rollback_free : (Behind : List PlacedLexeme → Type 0) → Prints rollback statement_tokens Behind
unfolding rollback
rollback_free Behind s (_, found, _, (_, other, _, (inl (_, last, _, (text, _, derived, _, b), c)), d), e) =
    subst (λ (z : Statement). IsFree rollback z (statement_tokens z) Behind) (sym (e ∙ d ∙ c ∙ b)) (rollback_to_free text Behind derived)
rollback_free Behind s (_, found, _, (_, other, _, (inr c), d), e) =
    subst (λ (z : Statement). IsFree rollback z (statement_tokens z) Behind) (sym (e ∙ d ∙ c)) (rollback_alone_free Behind)

pub savepoint_free : (Behind : List PlacedLexeme → Type 0) → Prints savepoint statement_tokens Behind
unfolding savepoint
savepoint_free Behind s (_, found, _, (text, _, derived, _, c), e) =
    subst (λ (z : Statement). IsFree savepoint z (statement_tokens z) Behind) (sym (e ∙ c))
    (behind_word (codes "SAVEPOINT") (codes "savepoint") (mapped Savepoint name) (Savepoint text) (Name text ∷ []) Behind refl refl
    (mapped_free Savepoint name text (Name text ∷ []) Behind (prints_name Behind text derived)))

pub release_free : (Behind : List PlacedLexeme → Type 0) → Prints release statement_tokens Behind
unfolding release
release_free Behind s (_, found, _, (text, _, derived, _, c), e) =
    subst (λ (z : Statement). IsFree release z (statement_tokens z) Behind) (sym (e ∙ c))
    (behind_word (codes "RELEASE") (codes "release") (mapped Release savepoint_name) (Release text) (savepoint_tokens text) Behind refl refl
    (mapped_free Release savepoint_name text (savepoint_tokens text) Behind (savepoint_name_free Behind text derived)))
