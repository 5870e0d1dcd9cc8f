-- What the catalog of every script has.
use Rattle.std.proofs.Common.{◌≡◌, ℕ, suc, ◌+◌, ◌⊎◌, inl, inr, List, [], ◌∷◌, ◌++◌, length, Option, Some, None, slice_get, refl, sym, subst}
use Rattle.std.proofs.lemmas.Option.{none-some}
use Rattle.aq_first_base.specs.Catalogs.{Catalog}
use Rattle.aq_base.specs.Names.{Text, foreign_key_name}
use Rattle.aq_first_base.specs.Setup.{no_tables, adds_table, adds_key, adds_keys, adds_foreign_key, adds_reference, adds_references, defines, setup_from, catalog_of, referred}
use Rattle.aq_first_base.specs.declared.catalog.ForeignKey.{ForeignKey}
use Rattle.aq_first_base.specs.declared.catalog.Trigger.{Trigger}
use Rattle.aq_base.specs.declared.catalog.Decl.{Decl}
use Rattle.aq_base.specs.declared.catalog.Op.{Op}
use Rattle.aq_base.specs.declared.catalog.Op.TheVariants.{Insert as On_insert, Update as On_update, Delete as On_delete}
use Rattle.aq_first_base.specs.declared.catalog.Does.{Does}
use Rattle.aq_first_base.specs.declared.catalog.Does.TheVariants.{Check, Parent}
use Rattle.aq_first_base.specs.declared.simple.SimpleConstraint.{SimpleConstraint}
use Rattle.aq_first_base.specs.declared.simple.SimpleConstraint.TheVariants.{PrimaryKey, References}
use Rattle.aq_first_base.specs.declared.simple.SimpleColumn.{SimpleColumn}
use Rattle.aq_first_base.specs.declared.simple.SimpleStatement.{SimpleStatement}
use Rattle.aq_first_base.specs.declared.simple.SimpleStatement.TheVariants.{CreateTable, Insert, Delete, Begin, Commit, Rollback}
use Rattle.aq_first_base.specs.declared.simple.SimplePlaced.{SimplePlaced}
use Rattle.aq_first_base.specs.declared.simple.SimpleScript.{SimpleScript}
use Rattle.aq_base.proofs.Lists.{slice_get-append, slice_get-behind, slice_get-behind_next, slice_get-push_cases}

-- a trigger of a table that fires on these changes, at once or at the commit, and does this
pub record HasTrigger (triggers : List Trigger) (table : ℕ) (ops : List Op) (decl : Decl) (does : Does) : Type 0 where
  pub number : ℕ
  pub trigger : Trigger
  pub stands : slice_get triggers number ≡ Some trigger
  pub of_table : trigger.table ≡ table
  pub with_ops : trigger.ops ≡ ops
  pub with_decl : trigger.decl ≡ decl
  pub with_does : trigger.does ≡ does

-- the foreign key with a number: its child table's new and changed rows are checked, and its parent table's changed and deleted ones,
-- both at once or both at the commit
pub record IsEnforced (triggers : List Trigger) (fk : ℕ) (f : ForeignKey) : Type 0 where
  pub decl : Decl
  pub of_child : HasTrigger triggers f.child (On_insert ∷ On_update ∷ []) decl (Check fk)
  pub of_parent : HasTrigger triggers f.parent (On_update ∷ On_delete ∷ []) decl (Parent fk)

abbrev pub ForeignKeysAreEnforced : Catalog → Type 0
ForeignKeysAreEnforced cat = (fk : ℕ) (f : ForeignKey) → slice_get cat.fks fk ≡ Some f → IsEnforced cat.triggers fk f

has_more : (triggers more : List Trigger) (table : ℕ) (ops : List Op) (decl : Decl) (does : Does) → HasTrigger triggers table ops decl does → HasTrigger (triggers ++ more) table ops decl does
has_more triggers more table ops decl does has =
    record {
      number = has.number;
      trigger = has.trigger;
      stands = slice_get-append triggers more has.number has.trigger has.stands;
      of_table = has.of_table;
      with_ops = has.with_ops;
      with_decl = has.with_decl;
      with_does = has.with_does;
    }

enforced_more : (triggers more : List Trigger) (fk : ℕ) (f : ForeignKey) → IsEnforced triggers fk f → IsEnforced (triggers ++ more) fk f
enforced_more triggers more fk f is =
    record {
      decl = is.decl;
      of_child = has_more triggers more f.child (On_insert ∷ On_update ∷ []) is.decl (Check fk) is.of_child;
      of_parent = has_more triggers more f.parent (On_update ∷ On_delete ∷ []) is.decl (Parent fk) is.of_parent;
    }

keys_keep : (number : ℕ) (table : Text) (col : ℕ) (items : List SimpleColumn) (cat : Catalog) → ForeignKeysAreEnforced cat → ForeignKeysAreEnforced (adds_keys number table col items cat)
keys_keep number table col [] cat enforced = enforced
keys_keep number table col (item ∷ items) cat enforced =
    keys_keep number table (col + 1) items (adds_key number table col item.constraint cat) (key_keeps item.constraint)
  where
    key_keeps : (constraint : Option SimpleConstraint) → ForeignKeysAreEnforced (adds_key number table col constraint cat)
    key_keeps None = enforced
    key_keeps (Some PrimaryKey) = enforced
    key_keeps (Some (References parent decl)) = enforced

-- the two triggers of a new foreign key
new_enforced : (triggers : List Trigger) (decl : Decl) (fk : ℕ) (f : ForeignKey)
    → IsEnforced (triggers ++ record { table = f.parent; ops = On_update ∷ On_delete ∷ []; decl = decl; does = Parent fk }
    ∷ record { table = f.child; ops = On_insert ∷ On_update ∷ []; decl = decl; does = Check fk } ∷ []) fk f
new_enforced triggers decl fk f =
    let look : Trigger = record { table = f.parent; ops = On_update ∷ On_delete ∷ []; decl = decl; does = Parent fk } in
    let check : Trigger = record { table = f.child; ops = On_insert ∷ On_update ∷ []; decl = decl; does = Check fk } in
    record {
      decl = decl;
      of_child = record {
        number = suc (length triggers);
        trigger = check;
        stands = slice_get-behind_next triggers look check [];
        of_table = refl;
        with_ops = refl;
        with_decl = refl;
        with_does = refl;
      };
      of_parent = record {
        number = length triggers;
        trigger = look;
        stands = slice_get-behind triggers look (check ∷ []);
        of_table = refl;
        with_ops = refl;
        with_decl = refl;
        with_does = refl;
      };
    }

foreign_key_keeps : (number : ℕ) (table : Text) (col : ℕ) (name : Text) (decl : Decl) (parent : Option (ℕ × List ℕ)) (cat : Catalog) → ForeignKeysAreEnforced cat
    → ForeignKeysAreEnforced (adds_foreign_key number table col name decl parent cat)
foreign_key_keeps number table col name decl None cat enforced fk f stands = enforced fk f stands
foreign_key_keeps number table col name decl (Some parent) cat enforced fk f stands = by_place (slice_get-push_cases cat.fks added fk f stands)
  where
    added : ForeignKey
    added = record { name = foreign_key_name table name; child = number; child_cols = col ∷ []; parent = parent.0; parent_cols = parent.1 }

    more : List Trigger
    more =
        record { table = parent.0; ops = On_update ∷ On_delete ∷ []; decl = decl; does = Parent (length cat.fks) }
        ∷ record { table = number; ops = On_insert ∷ On_update ∷ []; decl = decl; does = Check (length cat.fks) } ∷ []

    by_place : (slice_get cat.fks fk ≡ Some f) ⊎ ((fk ≡ length cat.fks) × (added ≡ f)) → IsEnforced (cat.triggers ++ more) fk f
    by_place (inl old) = enforced_more cat.triggers more fk f (enforced fk f old)
    by_place (inr new) =
        let same_key = subst (IsEnforced (cat.triggers ++ more) (length cat.fks)) new.1 (new_enforced cat.triggers decl (length cat.fks) added) in
        subst (λ n. IsEnforced (cat.triggers ++ more) n f) (sym new.0) same_key

references_keep : (number : ℕ) (table : Text) (col : ℕ) (items : List SimpleColumn) (cat : Catalog) → ForeignKeysAreEnforced cat → ForeignKeysAreEnforced (adds_references number table col items cat)
references_keep number table col [] cat enforced = enforced
references_keep number table col (item ∷ items) cat enforced =
    references_keep number table (col + 1) items (adds_reference number table col item.name item.constraint cat) (reference_keeps item.constraint)
  where
    reference_keeps : (constraint : Option SimpleConstraint) → ForeignKeysAreEnforced (adds_reference number table col item.name constraint cat)
    reference_keeps None = enforced
    reference_keeps (Some PrimaryKey) = enforced
    reference_keeps (Some (References parent decl)) = foreign_key_keeps number table col item.name decl (referred parent cat) cat enforced

statement_keeps : (statement : SimpleStatement) (cat : Catalog) → ForeignKeysAreEnforced cat → ForeignKeysAreEnforced (defines statement cat)
statement_keeps (CreateTable table items) cat enforced =
    references_keep (length cat.tables) table 0 items (adds_keys (length cat.tables) table 0 items (adds_table table items cat)) (keys_keep (length cat.tables) table 0 items (adds_table table items cat) enforced)
statement_keeps (Insert table rows) cat enforced = enforced
statement_keeps (Delete table) cat enforced = enforced
statement_keeps Begin cat enforced = enforced
statement_keeps Commit cat enforced = enforced
statement_keeps Rollback cat enforced = enforced

setup_keeps : (cat : Catalog) (setup : List SimplePlaced) → ForeignKeysAreEnforced cat → ForeignKeysAreEnforced (setup_from cat setup)
setup_keeps cat [] enforced = enforced
setup_keeps cat (placed ∷ others) enforced = setup_keeps (defines placed.statement cat) others (statement_keeps placed.statement cat enforced)

pub ForeignKeysAreEnforced-catalog_of : (script : SimpleScript) → ForeignKeysAreEnforced (catalog_of script)
ForeignKeysAreEnforced-catalog_of script = setup_keeps no_tables script.setup (λ fk f stands. absurd (none-some f stands))
