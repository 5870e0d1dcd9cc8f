-- The statements of the setup section and those of a session.
use Rattle.std.specs.Prelude.{List, [], ◌∷◌, ◌++◌, codes, map}
use Rattle.aq_base.specs.Names.{Text as Bytes}
use Rattle.aq_lex.specs.declared.token.Symbol.TheVariants.{Dot}
use Rattle.aq_grammar.specs.Terminals.{Terminal, Keyword, NameOf, Name, Sign}
use Rattle.aq_grammar.specs.Rules.{Rule, Refusal, Either, Unless}
use Rattle.aq_grammar.specs.declared.scope.Scope.TheVariants.{InStatement}
use Rattle.aq_grammar.specs.Forms.{word, ◌▸◌, mapped, refuse, refuse_word}
use Rattle.aq_grammar.specs.Changes.{insert, update, delete, select, set_constraints}
use Rattle.aq_grammar.specs.Transactions.{begin, start_transaction, ends_block, rollback, savepoint, release}
use Rattle.aq_grammar.specs.Bodies.{unsupported_statements}
use Rattle.aq_grammar.specs.Tables.{create_table, alter_table}
use Rattle.aq_grammar.specs.Triggers.{create_function, create_trigger, create_constraint_trigger}
use Rattle.aq_base.specs.declared.statement.Statement.{Statement}
use Rattle.aq_base.specs.declared.statement.Statement.TheVariants.{Insert as Insert_statement, Update as Update_statement, Delete as Delete_statement, Select as Select_statement, SetConstraints as Set_statement, Commit, Rollback}

-- ALTER TABLE with a word behind the table's name
abbrev pub alter_with : Bytes → List (List Terminal)
alter_with last =
    map (λ table. Keyword (codes "alter") ∷ Keyword (codes "table") ∷ (table ++ Keyword last ∷ []))
    ((Name ∷ []) ∷ (NameOf (codes "public") ∷ Sign Dot ∷ Name ∷ []) ∷ (Keyword (codes "only") ∷ Name ∷ [])
    ∷ (Keyword (codes "only") ∷ NameOf (codes "public") ∷ Sign Dot ∷ Name ∷ []) ∷ [])

abbrev pub enabling : List Refusal
enabling = map (λ words. refuse words (codes "enabling and disabling triggers is not supported")) (alter_with (codes "enable") ++ alter_with (codes "disable"))

abbrev pub other_objects : List Refusal
other_objects =
    refuse (Keyword (codes "create") ∷ Keyword (codes "view") ∷ []) (codes "views are not supported")
    ∷ refuse (Keyword (codes "create") ∷ Keyword (codes "rule") ∷ []) (codes "rules are not supported") ∷ []

-- the words with which a session's statement begins
abbrev pub session_words : List Bytes
session_words =
    codes "insert" ∷ codes "update" ∷ codes "delete" ∷ codes "select" ∷ codes "set" ∷ codes "begin" ∷ codes "start" ∷ codes "commit"
    ∷ codes "end" ∷ codes "rollback" ∷ codes "abort" ∷ codes "savepoint" ∷ codes "release" ∷ []

abbrev pub refused_in_setup : List Refusal
refused_in_setup =
    enabling ++ other_objects ++ unsupported_statements ++ map (λ text. refuse_word text (codes "data statements in setup are not supported")) session_words

abbrev pub ddl : Bytes
ddl = codes "DDL outside setup is not supported"

abbrev pub refused_in_session : List Refusal
refused_in_session = refuse_word (codes "create") ddl ∷ refuse_word (codes "alter") ddl ∷ unsupported_statements

unfoldable pub created : Rule Statement
created =
    Either (Keyword (codes "table") ∷ []) create_table
    (Either (Keyword (codes "function") ∷ []) create_function (Either (Keyword (codes "trigger") ∷ []) create_trigger create_constraint_trigger))

unfoldable pub supported_in_setup : Rule Statement
supported_in_setup = Either (Keyword (codes "create") ∷ []) (word (codes "create") ▸ created) alter_table

unfoldable pub setup_statement : Rule Statement
setup_statement = Unless refused_in_setup supported_in_setup

-- a statement on the transaction block or a savepoint
unfoldable pub block_statement : Rule Statement
block_statement =
    Either (Keyword (codes "begin") ∷ []) begin
    (Either (Keyword (codes "start") ∷ []) start_transaction
    (Either (Keyword (codes "commit") ∷ []) (ends_block (codes "commit") Commit)
    (Either (Keyword (codes "end") ∷ []) (ends_block (codes "end") Commit)
    (Either (Keyword (codes "rollback") ∷ []) rollback
    (Either (Keyword (codes "abort") ∷ []) (ends_block (codes "abort") Rollback)
    (Either (Keyword (codes "savepoint") ∷ []) savepoint release))))))

unfoldable pub supported_in_session : Rule Statement
supported_in_session =
    Either (Keyword (codes "insert") ∷ []) (mapped Insert_statement (insert InStatement))
    (Either (Keyword (codes "update") ∷ []) (mapped Update_statement (update InStatement))
    (Either (Keyword (codes "delete") ∷ []) (mapped Delete_statement (delete InStatement))
    (Either (Keyword (codes "select") ∷ []) (mapped Select_statement (select InStatement))
    (Either (Keyword (codes "set") ∷ []) (mapped Set_statement set_constraints) block_statement))))

unfoldable pub session_statement : Rule Statement
session_statement = Unless refused_in_session supported_in_session
