-- Transaction blocks and savepoints (PostgreSQL manual, pages BEGIN, START TRANSACTION, COMMIT, ROLLBACK, SAVEPOINT, RELEASE SAVEPOINT, ROLLBACK TO SAVEPOINT).
--     begin = (BEGIN [WORK | TRANSACTION] | START TRANSACTION) [ISOLATION LEVEL (READ COMMITTED | READ UNCOMMITTED | REPEATABLE READ)]
--     end   = (COMMIT | END | ROLLBACK | ABORT) [WORK | TRANSACTION] | SAVEPOINT name | RELEASE [SAVEPOINT] name
--           | ROLLBACK [WORK | TRANSACTION] TO [SAVEPOINT] name
use Rattle.std.specs.Prelude.{[], ◌∷◌, Option, codes}
use Rattle.aq_base.specs.Names.{Text as Bytes}
use Rattle.aq_grammar.specs.Terminals.{Keyword}
use Rattle.aq_grammar.specs.Rules.{Rule, Refusal, Done, Either, Unless}
use Rattle.aq_grammar.specs.Forms.{word, ◌▸◌, mapped, says, optional, name, refuse}
use Rattle.aq_base.specs.declared.statement.Isolation.{Isolation}
use Rattle.aq_base.specs.declared.statement.Statement.{Statement}
use Rattle.aq_base.specs.declared.statement.Isolation.TheVariants.{ReadCommitted, RepeatableRead}
use Rattle.aq_base.specs.declared.statement.Statement.TheVariants.{Begin, StartTransaction, Rollback, Savepoint, Release, RollbackTo}

-- WORK or TRANSACTION, which say nothing
unfoldable pub work : Rule (Option (Unit {0}))
work =
    optional (Keyword (codes "work") ∷ Keyword (codes "transaction") ∷ [])
    (Either (Keyword (codes "work") ∷ []) (word (codes "work")) (word (codes "transaction")))

abbrev pub serializable : Refusal
serializable =
    refuse (Keyword (codes "isolation") ∷ Keyword (codes "level") ∷ Keyword (codes "serializable") ∷ []) (codes "SERIALIZABLE is not supported")

unfoldable pub isolation_level : Rule Isolation
isolation_level =
    Either (Keyword (codes "read") ∷ [])
    (word (codes "read") ▸ Either (Keyword (codes "committed") ∷ []) (says (codes "committed") ReadCommitted) (says (codes "uncommitted") ReadCommitted))
    (word (codes "repeatable") ▸ says (codes "read") RepeatableRead)

unfoldable pub isolation : Rule Isolation
isolation =
    Unless (serializable ∷ [])
    (Either (Keyword (codes "isolation") ∷ []) (word (codes "isolation") ▸ word (codes "level") ▸ isolation_level) (Done ReadCommitted))

unfoldable pub begin : Rule Statement
begin = word (codes "begin") ▸ work ▸ mapped Begin isolation

unfoldable pub start_transaction : Rule Statement
start_transaction = word (codes "start") ▸ word (codes "transaction") ▸ mapped StartTransaction isolation

abbrev pub ends_block : Bytes → Statement → Rule Statement
ends_block text statement = mapped (λ said. statement) (word text ▸ work)

unfoldable pub savepoint_name : Rule Bytes
savepoint_name = optional (Keyword (codes "savepoint") ∷ []) (word (codes "savepoint")) ▸ name

unfoldable pub rollback : Rule Statement
rollback =
    word (codes "rollback") ▸ work
    ▸ Either (Keyword (codes "to") ∷ []) (word (codes "to") ▸ mapped RollbackTo savepoint_name) (Done Rollback)

unfoldable pub savepoint : Rule Statement
savepoint = word (codes "savepoint") ▸ mapped Savepoint name

unfoldable pub release : Rule Statement
release = word (codes "release") ▸ mapped Release savepoint_name
