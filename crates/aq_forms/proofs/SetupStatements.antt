-- Each statement of a setup is printed freely.
use Rattle.std.proofs.Common.{◌≡◌, Bool, true, false, ◌&&◌, List, [], ◌∷◌, codes, inl, inr, refl, sym, ◌∙◌, subst}
use Rattle.aq_base.specs.declared.table.AlterTable.{AlterTable as Alteration}
use Rattle.aq_base.specs.declared.statement.Statement.{Statement}
use Rattle.aq_base.specs.declared.statement.Statement.TheVariants.{AlterTable}
use Rattle.aq_grammar.specs.Terminals.{Keyword}
use Rattle.aq_grammar.specs.Rules.{Rule, Either}
use Rattle.aq_grammar.specs.Forms.{word, ◌▸◌}
use Rattle.aq_grammar.specs.Tables.{create_table, alter_table}
use Rattle.aq_grammar.specs.Triggers.{create_function, create_trigger, create_constraint_trigger}
use Rattle.aq_grammar.specs.Statements.{created, refused_in_setup, supported_in_setup, setup_statement}
use Rattle.aq_texts.specs.Written.{Written}
use Rattle.aq_texts.specs.Canon.{statement}
use Rattle.aq_forms.proofs.Derived.{Derives}
use Rattle.aq_forms.proofs.Combining.{IsFree, Anything, Semicolon_next, Nothing_refused, MayFollow, behind_word, left_free, right_free, unless_free}
use Rattle.aq_forms.proofs.Depths.{HasRoom}
use Rattle.aq_forms.proofs.Functions.{IsCreated, create_function_free}
use Rattle.aq_forms.proofs.Triggers.{create_trigger_free, create_constraint_trigger_free}
use Rattle.aq_forms.proofs.Tables.{alter_table_free, created_table_free}

-- ---- behind CREATE

created_free : (s : Statement) → Derives created s → HasRoom s → IsCreated created s Semicolon_next
unfolding created
created_free s derived room = by_form s derived room
  where
    from_trigger : Rule Statement
    from_trigger = Either (Keyword (codes "trigger") ∷ []) create_trigger create_constraint_trigger

    from_function : Rule Statement
    from_function = Either (Keyword (codes "function") ∷ []) create_function from_trigger

    to_right : (s : Statement) → IsCreated from_function s Semicolon_next → IsCreated created s Semicolon_next
    to_right s found =
        record {
          tokens = found.tokens;
          is = found.is;
          free = right_free (Keyword (codes "table") ∷ []) create_table from_function s found.tokens Semicolon_next found.free;
        }

    of_trigger : (s : Statement) → IsCreated from_trigger s Semicolon_next → IsCreated created s Semicolon_next
    of_trigger s found =
        to_right s
        (record {
          tokens = found.tokens;
          is = found.is;
          free = right_free (Keyword (codes "function") ∷ []) create_function from_trigger s found.tokens Semicolon_next found.free;
        })

    by_form : (s : Statement) → Derives created s → HasRoom s → IsCreated created s Semicolon_next
    by_form s (inl derived) room =
        let (tokens, is, free) = created_table_free s derived in
        record { tokens = tokens; is = is; free = left_free (Keyword (codes "table") ∷ []) create_table from_function s tokens Semicolon_next free }
    by_form s (inr (inl derived)) room =
        let found = create_function_free s Semicolon_next derived room in
        to_right s
        (record {
          tokens = found.tokens;
          is = found.is;
          free = left_free (Keyword (codes "function") ∷ []) create_function from_trigger s found.tokens Semicolon_next found.free;
        })
    by_form s (inr (inr (inl derived))) room =
        let found = create_trigger_free s Semicolon_next derived in
        of_trigger s
        (record {
          tokens = found.tokens;
          is = found.is;
          free = left_free (Keyword (codes "trigger") ∷ []) create_trigger create_constraint_trigger s found.tokens Semicolon_next found.free;
        })
    by_form s (inr (inr (inr derived))) room =
        let found = create_constraint_trigger_free s Semicolon_next derived in
        of_trigger s
        (record {
          tokens = found.tokens;
          is = found.is;
          free = right_free (Keyword (codes "trigger") ∷ []) create_trigger create_constraint_trigger s found.tokens Semicolon_next found.free;
        })

pub supported_in_setup_free : (s : Statement) → Derives supported_in_setup s → HasRoom s → IsFree supported_in_setup s (statement s) Semicolon_next
unfolding supported_in_setup
supported_in_setup_free s (inl (_, own, _, derived, e)) room =
    let found = created_free s (subst (Derives created) (sym e) derived) room in
    left_free (Keyword (codes "create") ∷ []) (word (codes "create") ▸ created) alter_table s (statement s) Semicolon_next
    (subst (λ (tokens : List Written). IsFree (word (codes "create") ▸ created) s tokens Semicolon_next) (sym found.is)
    (behind_word (codes "CREATE") (codes "create") created s found.tokens Semicolon_next refl refl found.free))
supported_in_setup_free s (inr derived) room =
    right_free (Keyword (codes "create") ∷ []) (word (codes "create") ▸ created) alter_table s (statement s) Semicolon_next (alter_table_free s derived)

-- ---- no words of a statement are refused where it begins

abbrev pub Is_unrefused : Statement → Type 0
Is_unrefused s = MayFollow (statement s) Anything (Nothing_refused refused_in_setup)

created_unrefused : (s : Statement) → Derives created s → Is_unrefused s
unfolding created create_table create_function create_trigger create_constraint_trigger
created_unrefused s (inl (_, _, _, (_, _, _, _, d), e)) = subst Is_unrefused (sym (e ∙ d)) (λ lines at rest behind. refl)
created_unrefused s (inr (inl (_, _, _, (_, _, _, _, d), e))) = subst Is_unrefused (sym (e ∙ d)) (λ lines at rest behind. refl)
created_unrefused s (inr (inr (inl (_, _, _, (_, _, _, _, d), e)))) = subst Is_unrefused (sym (e ∙ d)) (λ lines at rest behind. refl)
created_unrefused s (inr (inr (inr (_, _, _, (_, _, _, (_, _, _, _, c), d), e)))) = subst Is_unrefused (sym (e ∙ d ∙ c)) (λ lines at rest behind. refl)

and_false : (test : Bool) → (test && false) ≡ false
and_false true = refl
and_false false = refl

-- behind the table stands ADD, and neither ENABLE nor DISABLE, whatever the table's name
altered_unrefused : (made : Alteration) → Is_unrefused (AlterTable made)
altered_unrefused made lines at rest behind = simp and_false

pub setup_unrefused : (s : Statement) → Derives supported_in_setup s → Is_unrefused s
unfolding supported_in_setup alter_table
setup_unrefused s (inl (_, own, _, derived, e)) = subst Is_unrefused (sym e) (created_unrefused own derived)
setup_unrefused s (inr (_, _, _, (_, _, _, (_, _, _, (table, constraint, _, _, b), c), d), e)) =
    subst Is_unrefused (sym (e ∙ d ∙ c ∙ b)) (altered_unrefused (record { table = table; constraint = constraint }))

pub setup_statement_free : (s : Statement) → Derives setup_statement s → HasRoom s → IsFree setup_statement s (statement s) Semicolon_next
unfolding setup_statement
setup_statement_free s derived room =
    unless_free refused_in_setup supported_in_setup s (statement s) Semicolon_next (supported_in_setup_free s derived room)
    (λ lines at rest behind. setup_unrefused s derived lines at rest tt)
