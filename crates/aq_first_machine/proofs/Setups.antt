-- Numbers of tables, columns and foreign keys along a setup.
use Rattle.std.proofs.Common.{◌≡◌, ℕ, ◌+◌, ◌≤◌, ◌<◌, true, List, [], ◌∷◌, length, drop, get_or, count_by, Option, Some, None, refl, sym, ap, ◌∙◌, arith}
use Rattle.std.proofs.lemmas.Bool.{leb-true, ltb-true, and_parts}
use Rattle.std.proofs.lemmas.List.{at_drop_more}
use Rattle.aq_base.specs.Names.{Text}
use Rattle.aq_first_base.specs.Catalogs.{Catalog}
use Rattle.aq_first_base.specs.Setup.{adds_key, adds_keys, adds_table, defines, setup_from}
use Rattle.aq_first_base.specs.Scripts.{can_create, can_define, can_set_up, is_reference}
use Rattle.aq_first_base.specs.declared.simple.SimpleConstraint.{SimpleConstraint}
use Rattle.aq_first_base.specs.declared.simple.SimpleConstraint.TheVariants.{PrimaryKey, References}
use Rattle.aq_first_base.specs.declared.simple.SimpleColumn.{SimpleColumn}
use Rattle.aq_first_base.specs.declared.simple.SimplePlaced.{SimplePlaced}

adds_key-fks : (number : ℕ) (table : Text) (col : ℕ) (constraint : Option SimpleConstraint) (cat : Catalog) → (adds_key number table col constraint cat).fks ≡ cat.fks
adds_key-fks number table col None cat = refl
adds_key-fks number table col (Some PrimaryKey) cat = refl
adds_key-fks number table col (Some (References parent decl)) cat = refl

adds_keys-fks : (number : ℕ) (table : Text) (col : ℕ) (items : List SimpleColumn) (cat : Catalog) → (adds_keys number table col items cat).fks ≡ cat.fks
adds_keys-fks number table col [] cat = refl
adds_keys-fks number table col (item ∷ items) cat = adds_keys-fks number table (col + 1) items (adds_key number table col item.constraint cat) ∙ adds_key-fks number table col item.constraint cat

-- what a table that can be created leaves room for
pub record HasRoom (cat : Catalog) (items : List SimpleColumn) : Type 0 where
  pub tables : length cat.tables < 64
  pub cols : length items ≤ 32
  pub fks : length cat.fks ≤ 128

pub create-room : (cat : Catalog) (table : Text) (items : List SimpleColumn) → can_create cat table items ≡ true → HasRoom cat items
create-room cat table items can =
    let all = and_parts _ _ can in
    let four = and_parts _ _ (and_parts _ _ (and_parts _ _ (and_parts _ _ all.0).0).0).0 in
    let references : length cat.fks + count_by (λ item. is_reference item.constraint) items ≤ 128 = leb-true _ _ all.1 in
    record {
      tables = ltb-true (length cat.tables) 64 (and_parts _ _ four.0).1;
      cols = leb-true (length items) 32 four.1;
      fks = omega (arith, references);
    }

pub keys-fks : (number : ℕ) (table : Text) (items : List SimpleColumn) (before with_table with_keys : Catalog) → with_table ≡ adds_table table items before
    → with_keys ≡ adds_keys number table 0 items with_table → with_keys.fks ≡ before.fks
keys-fks number table items before with_table with_keys is keyed = rw (keyed, adds_keys-fks number table 0 items with_table, is) refl

-- the next statement of a setup, and the rest
pub setup-first : (cat : Catalog) (setup : List SimplePlaced) (i : ℕ) (placed : SimplePlaced) → i < length setup → placed ≡ get_or setup i placed
    → setup_from cat (drop i setup) ≡ setup_from (defines placed.statement cat) (drop (i + 1) setup)
setup-first cat setup i placed within is = at_drop_more (setup_from cat) setup i placed within ∙ ap (λ p. setup_from cat (p ∷ drop (i + 1) setup)) (sym is)

pub can-first : (cat : Catalog) (setup : List SimplePlaced) (i : ℕ) (placed : SimplePlaced) → i < length setup → placed ≡ get_or setup i placed → can_set_up cat (drop i setup) ≡ true
    → (can_define cat placed.statement ≡ true) × (can_set_up (defines placed.statement cat) (drop (i + 1) setup) ≡ true)
can-first cat setup i placed within is can =
    and_parts _ _ (sym (at_drop_more (can_set_up cat) setup i placed within ∙ ap (λ p. can_set_up cat (p ∷ drop (i + 1) setup)) (sym is)) ∙ can)
